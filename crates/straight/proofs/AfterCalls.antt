-- What whole calls leave of what the pass has.
use Rattle.std.proofs.Common.{◌≡◌, ◌≢◌, ℕ, suc, ◌<◌, List, [], refl, sym, subst}
use Rattle.histories.specs.Common.{Layout, Row, Step, Load, Store, Exchange, Fill, Remaining, state, History, ◌⊳◌, value, IsMember, IsInProgress, IsOwnScx, Call, IsRun, IsTold, row_of}
use Rattle.arena.specs.declared.step.Access.{Access}
use Rattle.histories.proofs.Lemmas.{finished_taken}
use Rattle.template.specs.Common.{AllowsAll, AreFinished, IsAmong, PutWaits, PutAnswers, Snap, Scx as Answer, PutRun, IsShare}
use Rattle.prims.specs.Laws.Begun.{TakesOnly, takes_by_others, takes_by_step}
use Rattle.prims.specs.Put.Laws.{put_made}
use Rattle.prims.specs.Shares.{IsUpperEnd}
use Rattle.prims.proofs.Lemmas.{put_takes, over_begins, over_ends, share_by_others, share_by_step, share_by_put, share_ends, next_idle, next_unwon, put_covers, put_covers_then, put_finished}
use Rattle.tables.specs.Traces.{Trace, begins, others, makes, goes_on}
use Rattle.tables.specs.Shares.{HasFewNames, IsBetweenCalls}
use Rattle.tables.proofs.Frames.{CarriesOn, HasOwnWon, goes_from, goes_more}

-- Courses

-- what is so of a machine as the call begins, and of each further on, is so of it
pub course_keeps : {M : Type 0} {allows : Layout → History → ℕ → Type 0} {waits : M → Call → History → Step → Type 0} {same : M → M → Type 0} {c : Call} {first : M} (P : M → Type 0) → P first → ((old now : M) → same old now → P old → P now) → (m : M) (h : History) → Trace allows waits same c first m h → P m
course_keeps P p more m h (begins e k) = rw e p
course_keeps P p more m h (others s r g e w other run x) = course_keeps P p more m g x
course_keeps P p more m h (makes s g e w run x) = course_keeps P p more m g x
course_keeps P p more m h (goes_on old is x) = more old m is (course_keeps P p more old h x)

-- Calls that fill nothing

module _ (allows : Layout → History → ℕ → Type 0) (lay : Layout) (c : ℕ) (start : History) (left : Remaining) where
  abbrev pub IsQuiet : History → Type 0
  IsQuiet h = CarriesOn allows lay c start h left left.next_node left.next_scx []

  -- the next SCX-record of the share is not in progress
  covers : (h : History) → IsRun allows lay h → IsShare lay h c left left.next_node left.next_scx → (n : ℕ) → IsOwnScx lay c left.next_scx → IsInProgress h left.next_scx → IsMember h left.next_scx n → IsAmong [] n
  covers h r share n own p y = absurd (next_idle lay h c left _ _ r.lawful share own p)

  pub quiet_start : IsRun allows lay start → IsBetweenCalls lay c start left → IsQuiet start
  quiet_start run rest = goes_from lay c start left left.next_node left.next_scx [] run rest.share rest.over (λ w. next_unwon lay start c left _ _ run.lawful rest.share w.0 w.1)

  -- a row of another pass, and one that is no fill
  pub quiet_other : c < lay.passes → (h : History) (r : Row) → IsRun allows lay (r ⊳ h) → r.pass.0 ≢ c → IsQuiet h → IsQuiet (r ⊳ h)
  quiet_other is_pass h r run other x =
      let share = share_by_others lay h r c left _ _ run.lawful is_pass other x.share in
      goes_more lay c start h left _ _ [] r run (takes_by_others lay c left.next_scx h r run.lawful other) x share (covers (r ⊳ h) run share)

  pub quiet_step : (h : History) (r : Row) → IsRun allows lay (r ⊳ h) → r.kind ≢ Fill → IsQuiet h → IsQuiet (r ⊳ h)
  quiet_step h r run no_fill x =
      let share = share_by_step lay h r c left _ _ run.lawful no_fill x.share in
      goes_more lay c start h left _ _ [] r run (takes_by_step lay c left.next_scx h r no_fill) x share (covers (r ⊳ h) run share)

module _ {allows : Layout → History → ℕ → Type 0} {M : Type 0} (waits : M → Call → History → Step → Type 0) (same : M → M → Type 0) (c : Call) (first : M) (left : Remaining) (fills_not : (m : M) (h : History) (s : Step) → waits m c h s → s.kind ≢ Fill) (run : IsRun allows c.layout c.start) (rest : IsBetweenCalls c.layout c.pass c.start left) where
  abbrev IsSo : History → Type 0
  IsSo h = CarriesOn allows c.layout c.pass c.start h left left.next_node left.next_scx []

  pub quiet_goes : (m : M) (h : History) → Trace allows waits same c first m h → IsSo h
  quiet_goes m h (begins e k) = subst IsSo (sym k) (quiet_start allows c.layout c.pass c.start left run rest)
  quiet_goes m h (others s r g e w other new x) =
      let run' : IsRun allows c.layout (r ⊳ g) = rw e at new in
      subst IsSo (sym e) (quiet_other allows c.layout c.pass c.start left c.is_pass g r run' other (quiet_goes m g x))
  quiet_goes m h (makes s g e w new x) =
      let run' : IsRun allows c.layout (row_of c s g ⊳ g) = rw e at new in
      subst IsSo (sym e) (quiet_step allows c.layout c.pass c.start left g (row_of c s g) run' (fills_not m g s w) (quiet_goes m g x))
  quiet_goes m h (goes_on old is x) = quiet_goes old h x

-- An SCX with a fresh cell

told_found : (d : Access) (found : ℕ) → IsTold d found found
told_found Load found = refl
told_found (Store new) found = tt
told_found (Exchange expected new) found = refl

-- the run has this node, this SCX-record and these snapshots in hand
pub record HasHand (m : PutRun) (node scx : ℕ) (snaps : List Snap) : Type 0 where
  pub fresh : m.scx.update.fresh.0 ≡ node
  pub record_is : m.scx.scx.0 ≡ scx
  pub snaps_are : m.scx.update.snaps ≡ snaps

module _ (same : PutRun → PutRun → Type 0) (c : Call) (first : PutRun) (left : Remaining) (node scx : ℕ) (snaps : List Snap) (hand : HasHand first node scx snaps) (keeps : (old now : PutRun) → same old now → HasHand old node scx snaps → HasHand now node scx snaps) (next_node : left.next_node ≡ suc node) (next_scx : left.next_scx ≡ suc scx) (run : IsRun AllowsAll c.layout c.start) (share : IsShare c.layout c.start c.pass left node scx) (over : AreFinished c.layout c.pass scx c.start) (free : ¬ HasOwnWon c.layout c.pass c.start scx) where
  abbrev Is : PutRun → History → Type 0
  Is m h = HasHand m node scx snaps × CarriesOn AllowsAll c.layout c.pass c.start h left node scx snaps

  pub put_goes : (m : PutRun) (h : History) → Trace AllowsAll (PutWaits AllowsAll) same c first m h → Is m h
  put_goes m h (begins e k) = (rw e hand, subst (λ g. CarriesOn AllowsAll c.layout c.pass c.start g left node scx snaps) (sym k) (goes_from c.layout c.pass c.start left node scx snaps run share over free))
  put_goes m h (others s r g e w other new x) =
      let y = put_goes m g x in
      let run' : IsRun AllowsAll c.layout (r ⊳ g) = rw e at new in
      let share' = share_by_others c.layout g r c.pass left node scx run'.lawful c.is_pass other y.1.share in
      let w' : PutWaits AllowsAll m c (r ⊳ g) s = rw e at w in (
        y.0,
        subst (λ k. CarriesOn AllowsAll c.layout c.pass c.start k left node scx snaps) (sym e) (goes_more c.layout c.pass c.start g left node scx snaps r run' (takes_by_others c.layout c.pass scx g r run'.lawful other) y.1 share'
            (λ n own p z. rw (sym y.0.snaps_are) (put_covers AllowsAll m c (r ⊳ g) s n w' (rw y.0.record_is p) (rw y.0.record_is z)))),
      )
  put_goes m h (makes s g e w new x) =
      let y = put_goes m g x in
      let r : Row = row_of c s g in
      let run' : IsRun AllowsAll c.layout (r ⊳ g) = rw e at new in
      let made = put_made AllowsAll m c g s (value g s.word) run' (told_found s.access (value g s.word)) w in
      let takes : TakesOnly c.layout c.pass scx g r = subst (λ k. TakesOnly c.layout c.pass k g r) y.0.record_is (put_takes AllowsAll m c g s w) in
      let share' = share_by_put AllowsAll m c g s left node scx run'.lawful w (rw y.0.fresh next_node) (rw y.0.record_is next_scx) y.1.share in (
        y.0,
        subst (λ k. CarriesOn AllowsAll c.layout c.pass c.start k left node scx snaps) (sym e) (goes_more c.layout c.pass c.start g left node scx snaps r run' takes y.1 share'
            (λ n own p z. rw (sym y.0.snaps_are) (put_covers_then AllowsAll m c (r ⊳ g) (value g s.word) n made (rw y.0.record_is p) (rw y.0.record_is z)))),
      )
  put_goes m h (goes_on old is x) = let y = put_goes old h x in (keeps old m is y.0, y.1)

-- once an SCX has answered, its pass is at rest
pub put_rests : {allows : Layout → History → ℕ → Type 0} (c : Call) (m : PutRun) (h : History) (a : Answer) (left : Remaining) (node scx : ℕ) (snaps : List Snap) → HasHand m node scx snaps → left.next_node ≡ suc node → left.next_scx ≡ suc scx → scx ≢ 0 → PutAnswers m c h a → CarriesOn allows c.layout c.pass c.start h left node scx snaps → (HasFewNames c.layout → IsUpperEnd c.layout c.pass left) → IsBetweenCalls c.layout c.pass h left
put_rests c m h a left node scx snaps hand next_node next_scx real x y upper = record {
  share = share_ends c.layout h c.pass left node scx next_node next_scx (rw hand.fresh at x.0.taken) (finished_taken c.layout h scx y.sound.lawful real finished) y.share;
  upper = upper;
  over = over_begins c.layout c.pass left.next_scx h (over_ends c.layout c.pass scx h y.over finished);
}
  where
    finished : value h (state scx) ≢ 0
    finished = let f : value h (state m.scx.scx.0) ≢ 0 = put_finished m c h a x in rw hand.record_is at f
