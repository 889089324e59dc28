-- The step that a run of HELP waits for is lawful, and begins only what the shape allows.
use Rattle.std.proofs.Common.{◌≡◌, ◌≢◌, ℕ, suc, ◌<◌, ◌⊎◌, inl, inr, refl, sym, ◌∙◌, ap, arith}
use native.Mathlib.Decide.{ℕ_discrete}
use Rattle.histories.specs.Common.{Layout, MemberIndex, Row, Step, Exchange, Kind, Fill, LoadInfo, LoadSettled, LoadAllFrozen, Freeze, SetFrozen, Mark, Update, Commit}
use Rattle.histories.specs.Common.{Abort, AllFrozen, member_index, all_scx, all_nodes, scx, info, History, ◌⊳◌, value, member, seen, new, old, count, field_index, Lawful}
use Rattle.histories.specs.Common.{IsLawful, IsExchange, IsFreeze, IsUpdate, IsAbort, AreFrozen, IsRun, Call, row_of, IsBegin, Shaped, descriptor, IsStarted, IsStuck}
use Rattle.arena.specs.declared.number.MemberIndex.TheVariants.{First, Second, Third, Fourth}
use Rattle.arena.proofs.Lemmas.{exchange_won, exchange_lost}
use Rattle.histories.proofs.Lemmas.{IsFirst, about, facts, helper_freezes, helper_sets_frozen, lawful_more, named_scx_inside, over_aborts, own_scx_inside, owner_aborts, owner_freezes, shaped_more}
use Rattle.help.specs.Allowed.{IsPrepared}
use Rattle.help.specs.Laws.Help.Allowing.{later_self}
use Rattle.help.specs.Help.Known.{IsServed, Freezes, HasLostFirstFreeze, Aborts, Marks, Reading, reading, HelpKnows, help_step, HelpWaits}
use Rattle.help.specs.declared.state.HelpRun.{HelpRun}
use Rattle.help.specs.declared.state.HelpAt.{HelpAt}
use Rattle.help.specs.declared.state.HelpAt.TheVariants.{Start, Plan as AtPlan, Member as AtMember, Seen as AtSeen, Freeze as AtFreeze, AllFrozen as AtAllFrozen, Abort as AtAbort, SetFrozen as AtSetFrozen, Mark as AtMark, New as AtNew, Old as AtOld, Update as AtUpdate, Commit as AtCommit}

-- a place among the nodes covered is below 4
pub index_small : (j : MemberIndex) → member_index j < 4
index_small First = omega arith
index_small Second = omega arith
index_small Third = omega arith
index_small Fourth = omega arith

-- no step of HELP loads an info word
pub help_looks_not : (h : History) (s : ℕ) (at : HelpAt) → (help_step h s at).kind ≢ LoadInfo
help_looks_not h s Start = λ e. cc
help_looks_not h s AtPlan = λ e. cc
help_looks_not h s (AtMember j) = λ e. cc
help_looks_not h s (AtSeen j) = λ e. cc
help_looks_not h s (AtFreeze j v) = λ e. cc
help_looks_not h s (AtAllFrozen j v) = λ e. cc
help_looks_not h s (AtAbort j v) = λ e. cc
help_looks_not h s AtSetFrozen = λ e. cc
help_looks_not h s (AtMark j) = λ e. cc
help_looks_not h s AtNew = λ e. cc
help_looks_not h s (AtOld v) = λ e. cc
help_looks_not h s AtUpdate = λ e. cc
help_looks_not h s AtCommit = λ e. cc

-- the row of an exchange is an exchange: it stores v where it finds e
pub exchange_of : (c : Call) (h : History) (s : Step) (e v : ℕ) → s.access ≡ Exchange e v → IsExchange (row_of c s h) e v
exchange_of c h s e v q = rw q record { won = λ x. exchange_won e v (value h s.word) x; lost = λ x. exchange_lost e v (value h s.word) x }

-- an SCX-record that can never freeze all its nodes has not set `allfrozen`
pub stuck_unset : (lay : Layout) (h : History) (s : ℕ) → Lawful lay h → IsStuck (descriptor h s) h s → value h (scx s AllFrozen) ≡ 0
stuck_unset lay h s l x = go (ℕ_discrete (value h (scx s AllFrozen)) 0)
  where
    go : Dec (value h (scx s AllFrozen) ≡ 0) → value h (scx s AllFrozen) ≡ 0
    go (yes e) = e
    go (no d) = absurd (x.unfrozen (((facts lay h l).flagged s d).frozen x.index x.within))

module _ (allows : Layout → History → ℕ → Type 0) (c : Call) (h : History) (m : Reading) (l : Lawful c.layout h) where
  started_inside : IsStarted h m.scx → m.scx < all_scx c.layout
  started_inside x = named_scx_inside c.layout h m.scx l x.named

  served_inside : IsServed allows c.layout c.pass h m.scx → m.scx < all_scx c.layout
  served_inside (inl x) = started_inside x
  served_inside (inr x) = own_scx_inside c.layout c.pass m.scx c.is_pass x.begins.own

  over_inside : (P : Type 0) → (IsStarted h m.scx × P) ⊎ HasLostFirstFreeze c.layout c.pass h m.scx → m.scx < all_scx c.layout
  over_inside P (inl x) = started_inside x.0
  over_inside P (inr x) = own_scx_inside c.layout c.pass m.scx c.is_pass x.own

  node_inside : (j : ℕ) → IsServed allows c.layout c.pass h m.scx → j < count h m.scx → member h m.scx j < all_nodes c.layout
  node_inside j (inl x) i = (about c.layout h m.scx l x).inside j i
  node_inside j (inr x) i = x.begins.inside j i

  -- where the owner has not begun yet, the node to freeze is the first
  pub at_first : (j : ℕ) → IsPrepared allows c.layout c.pass h m.scx → AreFrozen h m.scx j → j ≡ 0
  at_first j x p = go (ℕ_discrete j 0)
    where
      go : Dec (j ≡ 0) → j ≡ 0
      go (yes e) = e
      go (no d) = absurd (x.begins.free (member h m.scx 0, p 0 (omega arith)))

  freeze_at : (j : MemberIndex) (v k : ℕ) → Freezes allows c.layout c.pass h m (member_index j) k → IsFreeze c.layout h (row_of c (help_step h m.scx (AtFreeze j v)) h) m.scx (member_index j)
  freeze_at j v k x = go x.served
    where
      r : Row
      r = row_of c (help_step h m.scx (AtFreeze j v)) h

      exchange : IsExchange r (seen h m.scx (member_index j)) m.scx
      exchange = exchange_of c h (help_step h m.scx (AtFreeze j v)) (seen h m.scx (member_index j)) m.scx refl

      first : (i : ℕ) → i ≡ 0 → r.word ≡ info (member h m.scx i) → IsExchange r (seen h m.scx i) m.scx → IsPrepared allows c.layout c.pass h m.scx → IsFreeze c.layout h r m.scx i
      first i e w y p = rw e (owner_freezes c.layout h r m.scx p.begins (rw e at w) (rw e at y))

      go : IsServed allows c.layout c.pass h m.scx → IsFreeze c.layout h r m.scx (member_index j)
      go (inl s) = helper_freezes c.layout h r m.scx (member_index j) l s x.within x.frozen refl refl exchange
      go (inr p) = first (member_index j) (at_first (member_index j) p x.frozen) refl exchange p

  abort_at : (j : MemberIndex) (v : ℕ) → Aborts c.layout c.pass h m (member_index j) v → (i : ℕ) × IsAbort c.layout h (row_of c (help_step h m.scx (AtAbort j v)) h) m.scx i
  abort_at j v x = go x.stuck
    where
      r : Row
      r = row_of c (help_step h m.scx (AtAbort j v)) h

      go : (IsStarted h m.scx × IsStuck (descriptor h m.scx) h m.scx) ⊎ HasLostFirstFreeze c.layout c.pass h m.scx → (i : ℕ) × IsAbort c.layout h r m.scx i
      go (inl y) = over_aborts c.layout h r m.scx l y.0 (inl y.1) (stuck_unset c.layout h m.scx l y.1) refl refl
      go (inr y) = (0, owner_aborts c.layout h r m.scx l y.own y.free y.some y.passed refl refl)

  -- the step at the place of the update is a lawful try of it
  pub update_at : Marks h m (count h m.scx) → IsUpdate h (row_of c (help_step h m.scx AtUpdate) h) m.scx
  update_at x = record { word = refl; all_frozen = x.flag; all_marked = λ j i q. x.marked j i i q; exchange = exchange_of c h (help_step h m.scx AtUpdate) (old h m.scx) (new h m.scx) refl }

  lawful_at : (at : HelpAt) → HelpKnows allows c.layout c.pass h m at → IsLawful c.layout h (row_of c (help_step h m.scx at) h)
  lawful_at Start k = absurd k
  lawful_at AtPlan k = record { before = refl; obeys = record { word = tt; same = refl }; pass = c.is_pass; word = (served_inside k, tt) }
  lawful_at (AtMember j) k = record { before = refl; obeys = record { word = tt; same = refl }; pass = c.is_pass; word = (served_inside k.served, index_small j) }
  lawful_at (AtSeen j) k = record { before = refl; obeys = record { word = tt; same = refl }; pass = c.is_pass; word = (served_inside k.served, index_small j) }
  lawful_at (AtFreeze j v) k = record { before = refl; obeys = (m.scx, member_index j, freeze_at j v (suc (member_index j)) k.0); pass = c.is_pass; word = node_inside (member_index j) k.0.served k.0.within }
  lawful_at (AtAllFrozen j v) k = record { before = refl; obeys = record { word = tt; same = refl }; pass = c.is_pass; word = (over_inside _ k.over, tt) }
  lawful_at (AtAbort j v) k = record { before = refl; obeys = (m.scx, (abort_at j v k).0, (abort_at j v k).1); pass = c.is_pass; word = (over_inside _ k.stuck, tt) }
  lawful_at AtSetFrozen k = record { before = refl; obeys = (m.scx, helper_sets_frozen c.layout h (row_of c (help_step h m.scx AtSetFrozen) h) m.scx l k.started k.frozen refl refl); pass = c.is_pass; word = (started_inside k.started, tt) }
  lawful_at (AtMark j) k = record { before = refl; obeys = (m.scx, member_index j, record { within = k.1; removed = k.2; word = refl; stored = refl; all_frozen = k.0.flag }); pass = c.is_pass; word = node_inside (member_index j) (inl k.0.started) k.1 }
  lawful_at AtNew k = record { before = refl; obeys = record { word = tt; same = refl }; pass = c.is_pass; word = (started_inside k.started, tt) }
  lawful_at (AtOld v) k = record { before = refl; obeys = record { word = tt; same = refl }; pass = c.is_pass; word = (started_inside k.0.started, tt) }
  lawful_at AtUpdate k = record { before = refl; obeys = (m.scx, update_at k); pass = c.is_pass; word = (about c.layout h m.scx l k.started).inside (field_index h m.scx) (about c.layout h m.scx l k.started).planned.field }
  lawful_at AtCommit k = record { before = refl; obeys = (m.scx, record { word = refl; stored = refl; won = k.1 }); pass = c.is_pass; word = (started_inside k.0, tt) }

  -- what it begins is its own, and allowed
  begin_at : (j : MemberIndex) (v k u : ℕ) → Shaped allows c.layout h → Freezes allows c.layout c.pass h m (member_index j) k → IsFirst c.layout h (row_of c (help_step h m.scx (AtFreeze j v)) h) u → IsBegin h (row_of c (help_step h m.scx (AtFreeze j v)) h) u → allows c.layout h u
  begin_at j v k u shaped x first g = go x.served
    where
      r : Row
      r = row_of c (help_step h m.scx (AtFreeze j v)) h

      exchange : IsExchange r (seen h m.scx (member_index j)) m.scx
      exchange = exchange_of c h (help_step h m.scx (AtFreeze j v)) (seen h m.scx (member_index j)) m.scx refl

      found : Dec (r.before ≡ seen h m.scx (member_index j)) → r.before ≡ seen h m.scx (member_index j)
      found (yes e) = e
      found (no d) = absurd (g.changed (sym (exchange.lost d)))

      is : u ≡ m.scx
      is = sym g.stored ∙ exchange.won (found (ℕ_discrete r.before (seen h m.scx (member_index j))))

      at_place : (i : ℕ) → i ≡ 0 → value h (info (member h m.scx i)) ≡ seen h m.scx i → IsPrepared allows c.layout c.pass h m.scx → allows c.layout h m.scx
      at_place i e y p = p.allowed h (later_self c.pass m.scx h) record { lawful = l; shaped = shaped } refl p.begins (rw e at y)

      go : IsServed allows c.layout c.pass h m.scx → allows c.layout h u
      go (inl s) = absurd (first.never (rw is s.named))
      go (inr p) = rw is (at_place (member_index j) (at_first (member_index j) p x.frozen) (found (ℕ_discrete r.before (seen h m.scx (member_index j)))) p)

  no_begin : (r : Row) (k : Kind) (u : ℕ) → r.kind ≡ k → (k ≡ Freeze → ⊥) → IsBegin h r u → allows c.layout h u
  no_begin r k u e d g = absurd (d (sym e ∙ g.kind))

  begins_at : (at : HelpAt) (u : ℕ) → Shaped allows c.layout h → HelpKnows allows c.layout c.pass h m at → IsFirst c.layout h (row_of c (help_step h m.scx at) h) u → IsBegin h (row_of c (help_step h m.scx at) h) u → allows c.layout h u
  begins_at Start u w k f g = absurd k
  begins_at AtPlan u w k f g = no_begin _ LoadSettled u refl (λ e. cc) g
  begins_at (AtMember j) u w k f g = no_begin _ LoadSettled u refl (λ e. cc) g
  begins_at (AtSeen j) u w k f g = no_begin _ LoadSettled u refl (λ e. cc) g
  begins_at (AtFreeze j v) u w k f g = begin_at j v (suc (member_index j)) u w k.0 f g
  begins_at (AtAllFrozen j v) u w k f g = no_begin _ LoadAllFrozen u refl (λ e. cc) g
  begins_at (AtAbort j v) u w k f g = no_begin _ Abort u refl (λ e. cc) g
  begins_at AtSetFrozen u w k f g = no_begin _ SetFrozen u refl (λ e. cc) g
  begins_at (AtMark j) u w k f g = no_begin _ Mark u refl (λ e. cc) g
  begins_at AtNew u w k f g = no_begin _ LoadSettled u refl (λ e. cc) g
  begins_at (AtOld v) u w k f g = no_begin _ LoadSettled u refl (λ e. cc) g
  begins_at AtUpdate u w k f g = no_begin _ Update u refl (λ e. cc) g
  begins_at AtCommit u w k f g = no_begin _ Commit u refl (λ e. cc) g

  -- the step of a place where all holds continues the run: it is lawful, and begins only what is
  -- allowed
  pub run_at : (at : HelpAt) → Shaped allows c.layout h → HelpKnows allows c.layout c.pass h m at → IsRun allows c.layout (row_of c (help_step h m.scx at) h ⊳ h)
  run_at at w k =
      let x : Lawful c.layout (row_of c (help_step h m.scx at) h ⊳ h) = lawful_more c.layout h (row_of c (help_step h m.scx at) h) l (lawful_at at k) in
      record { lawful = x; shaped = shaped_more allows c.layout h (row_of c (help_step h m.scx at) h) x w (λ u f g. begins_at at u w k f g) }

-- the step that a run of HELP waits for continues the run
pub help_lawful : (allows : Layout → History → ℕ → Type 0) (m : HelpRun) (c : Call) (h : History) (s : Step) → IsRun allows c.layout h → HelpWaits allows c.layout c.pass m h s → IsRun allows c.layout (row_of c s h ⊳ h)
help_lawful allows m c h s run w = rw w.asked (run_at allows c h (reading m) run.lawful m.at run.shaped w.known)

-- no step of HELP is a fill, place by place
fills_not_at : (h : History) (s : ℕ) (at : HelpAt) → (help_step h s at).kind ≢ Fill
fills_not_at h s Start e = cc
fills_not_at h s AtPlan e = cc
fills_not_at h s (AtMember j) e = cc
fills_not_at h s (AtSeen j) e = cc
fills_not_at h s (AtFreeze j v) e = cc
fills_not_at h s (AtAllFrozen j v) e = cc
fills_not_at h s (AtAbort j v) e = cc
fills_not_at h s AtSetFrozen e = cc
fills_not_at h s (AtMark j) e = cc
fills_not_at h s AtNew e = cc
fills_not_at h s (AtOld v) e = cc
fills_not_at h s AtUpdate e = cc
fills_not_at h s AtCommit e = cc

-- no step that a run of HELP waits for is a fill
pub help_fills_not : (allows : Layout → History → ℕ → Type 0) (m : HelpRun) (c : Call) (h : History) (s : Step) → HelpWaits allows c.layout c.pass m h s → s.kind ≢ Fill
help_fills_not allows m c h s w e = fills_not_at h m.scx.0 m.at (ap (λ (t : Step). t.kind) (sym w.asked) ∙ e)
