-- Which edit an SCX-record has made, once it has won: what rows leave of what is tracked.
use Rattle.std.proofs.Common.{◌≡◌, ◌≢◌, ℕ, inl, inr, ⊎_elim, zero, suc, refl, sym, ◌∙◌, ap, arith, subst}
use native.Mathlib.Decide.{ℕ_discrete}
use Rattle.histories.specs.Common.{Layout, Row, Step, MemberIndex, ScxNo, member_index, scx, info, state, History, ◌⊳◌, value, member, seen, IsOwnScx}
use Rattle.histories.specs.Common.{IsNamedScx, AreFrozen, HasWon, Lawful, IsBegin, IsRun, Call, row_of, Begins, Descriptor, descriptor, IsStarted}
use Rattle.arena.proofs.Lemmas.{value_at, value_apart, held_at, exchange_won, exchange_lost, ends_self, named_scx_before}
use Rattle.histories.proofs.Lemmas.{aborted_never_won, facts, state_stays, stays_free, won_named}
use Rattle.help.specs.Allowed.{IsQuiet, MayComeBetween, IsPrepared}
use Rattle.help.specs.Laws.Help.Allowing.{later_self, quiet_named_scx}
use Rattle.template.specs.Common.{HelpWaits, HelpRun, Job, job_of, Says, ScxWaitsAt, ScxWaits, ScxRun, ScxAt, MapEdit, Makes, TreeAllows, IsPromised, Tracks}
use Rattle.help.specs.Help.Known.{Freezes, Reading, reading, HelpKnows, help_step}
use Rattle.help.specs.declared.state.HelpAt.{HelpAt}
use Rattle.help.specs.declared.state.HelpAt.TheVariants.{Start, Plan as AtPlan, Member as AtMember, Seen as AtSeen, Freeze as AtFreeze, AllFrozen as AtAllFrozen, Abort as AtAbort, SetFrozen as AtSetFrozen, Mark as AtMark, New as AtNew, Old as AtOld, Update as AtUpdate, Commit as AtCommit}
use Rattle.prims.specs.Scx.Known.{HasFilled, part_at, fill_step, FillWaits}
use Rattle.prims.specs.declared.scx.ScxAt.TheVariants.{Start as AtScxStart, Plan as AtFillPlan, New as AtFillNew, Old as AtFillOld, Member as AtFillMember, Seen as AtFillSeen, Call as AtFillCall, Help as AtHelp}
use Rattle.template.specs.Tracked.{waits, begun, over}
use Rattle.template.proofs.Promised.{promised_more}

-- What a row of HELP does of an SCX-record that no info word names: it changes nothing, begins it,
-- or aborts it

data FirstRow (h : History) (r : Row) (c s : ℕ) (lay : Layout) : Type 0 where
  quiet : IsQuiet r → FirstRow h r c s lay
  begins : IsBegin h r s → Begins lay (descriptor h s) h c s → value h (info (member h s 0)) ≡ seen h s 0 → FirstRow h r c s lay
  aborts : value (r ⊳ h) (state s) ≡ 2 → FirstRow h r c s lay

module _ (c : Call) (h : History) (m : Reading) (free : ¬ IsNamedScx h m.scx) where
  abbrev row : HelpAt → Row
  row at = row_of c (help_step h m.scx at) h

  started_not : IsStarted h m.scx → ⊥
  started_not x = free x.named

  freezes : (j : MemberIndex) (v : ℕ) → Freezes TreeAllows c.layout c.pass h m (member_index j) (suc (member_index j)) → Dec (value h (info (member h m.scx (member_index j))) ≡ seen h m.scx (member_index j)) → FirstRow h (row (AtFreeze j v)) c.pass m.scx c.layout
  freezes j v x (no d) = quiet record { no_fill = refl; same = exchange_lost (seen h m.scx (member_index j)) m.scx _ d }
  freezes j v x (yes e) = go (member_index j) refl x.frozen
    where
      go : (i : ℕ) → member_index j ≡ i → AreFrozen h m.scx (member_index j) → FirstRow h (row (AtFreeze j v)) c.pass m.scx c.layout
      go (suc i) q frozen = absurd (free (member h m.scx 0, frozen 0 (omega (arith, q))))
      go zero q frozen = ⊎_elim (λ y. absurd (started_not y)) now x.served
        where
          here : value h (info (member h m.scx 0)) ≡ seen h m.scx 0
          here = rw q at e

          stored : (row (AtFreeze j v)).after ≡ m.scx
          stored = exchange_won (seen h m.scx (member_index j)) m.scx _ e

          now : IsPrepared TreeAllows c.layout c.pass h m.scx → FirstRow h (row (AtFreeze j v)) c.pass m.scx c.layout
          now y = begins record {
            kind = refl;
            word = ap (λ i. info (member h m.scx i)) q;
            found = e ∙ ap (λ i. seen h m.scx i) q;
            stored = stored;
            changed = λ z. free (member h m.scx (member_index j), held_at h _ _ (z ∙ stored));
          } y.begins here

  first_row : (at : HelpAt) → HelpKnows TreeAllows c.layout c.pass h m at → FirstRow h (row at) c.pass m.scx c.layout
  first_row Start k = absurd k
  first_row AtPlan k = quiet record { no_fill = refl; same = refl }
  first_row (AtMember j) k = quiet record { no_fill = refl; same = refl }
  first_row (AtSeen j) k = quiet record { no_fill = refl; same = refl }
  first_row (AtFreeze j v) k = freezes j v k.0 (ℕ_discrete _ _)
  first_row (AtAllFrozen j v) k = quiet record { no_fill = refl; same = refl }
  first_row (AtAbort j v) k = aborts (value_at (row (AtAbort j v)) h (state m.scx) refl)
  first_row AtSetFrozen k = absurd (started_not k.started)
  first_row (AtMark j) k = absurd (started_not k.0.started)
  first_row AtNew k = absurd (started_not k.started)
  first_row (AtOld v) k = absurd (started_not k.0.started)
  first_row AtUpdate k = absurd (started_not k.started)
  first_row AtCommit k = absurd (started_not k.0)

-- One row more

makes_more : (lay : Layout) (h : History) (r : Row) (s : ℕ) (e : MapEdit) → Makes lay h s e → Makes lay (r ⊳ h) s e
makes_more lay h r s e x = record { row = x.row; before = x.before; within = inr x.within; begins = x.begins; edit = x.edit }

over_more : (lay : Layout) (h : History) (r : Row) (s : ℕ) → Lawful lay (r ⊳ h) → value h (state s) ≡ 2 → value (r ⊳ h) (state s) ≡ 2
over_more lay h r s l x = state_stays lay h r s l (λ z. let y : 2 ≡ 0 = sym x ∙ z in omega (arith, y)) ∙ x

-- of any kind that may come before its SCX-record begins, and does not begin it
waits_more : (lay : Layout) (c : ℕ) (h : History) (r : Row) (m : Job) (e : MapEdit) → MayComeBetween c m.scx.0 r → ((d : Descriptor) → Says d m → IsPromised lay c h m.scx.0 d e) → ¬ IsNamedScx (r ⊳ h) m.scx.0 → Tracks lay c (r ⊳ h) m e
waits_more lay c h r m e between promised free = waits (λ d x. promised_more lay c h r m.scx.0 d e between (promised d x)) free

-- a row of another pass leaves it tracked
pub tracks_by_others : (lay : Layout) (c : ℕ) (h : History) (r : Row) (m : Job) (e : MapEdit) → Lawful lay (r ⊳ h) → r.pass.0 ≢ c → IsOwnScx lay c m.scx.0 → Tracks lay c h m e → Tracks lay c (r ⊳ h) m e
tracks_by_others lay c h r m e l other own (waits promised free) = waits_more lay c h r m e (inl other) promised (stays_free lay h r c m.scx.0 l other own free)
tracks_by_others lay c h r m e l other own (begun x) = begun (makes_more lay h r m.scx.0 e x)
tracks_by_others lay c h r m e l other own (over x) = over (over_more lay h r m.scx.0 l x)

-- A row of the SCX

module _ (c : Call) (h : History) (m : Job) (step : Step) (e : MapEdit) (run : IsRun TreeAllows c.layout (row_of c step h ⊳ h)) where
  made_before : Makes c.layout h m.scx.0 e → Tracks c.layout c.pass (row_of c step h ⊳ h) m e
  made_before x = begun (makes_more c.layout h (row_of c step h) m.scx.0 e x)

  aborted_before : value h (state m.scx.0) ≡ 2 → Tracks c.layout c.pass (row_of c step h ⊳ h) m e
  aborted_before x = over (over_more c.layout h (row_of c step h) m.scx.0 run.lawful x)

  by_fill : (at : ScxAt) → FillWaits TreeAllows c h m at step → Tracks c.layout c.pass h m e → Tracks c.layout c.pass (row_of c step h ⊳ h) m e
  by_fill at w (begun x) = made_before x
  by_fill at w (over x) = aborted_before x
  by_fill at w (waits promised free) = rw w.asked (waits_more c.layout c.pass h r m e (inr (inl (part_at at, refl, refl))) promised (λ p. free (named_scx_before r h m.scx.0 same_info p)))
    where
      r : Row
      r = row_of c (fill_step m (part_at at)) h

      same_info : (n : ℕ) → value (r ⊳ h) (info n) ≡ value h (info n)
      same_info n = value_apart r h (scx m.scx.0 (part_at at)) (info n) refl refl

  by_help : (help : HelpRun) → IsRun TreeAllows c.layout h → HelpWaits TreeAllows c.layout c.pass help h step → help.scx ≡ m.scx → HasFilled c h m.scx.0 m.call m.update → Tracks c.layout c.pass h m e → Tracks c.layout c.pass (row_of c step h ⊳ h) m e
  by_help help before w same filled (begun x) = made_before x
  by_help help before w same filled (over x) = aborted_before x
  by_help help before w same filled (waits promised free) = go (subst (λ (s : ScxNo). FirstRow h (row_of c step h) c.pass s.0 c.layout) same first)
    where
      first : FirstRow h (row_of c step h) c.pass help.scx.0 c.layout
      first = rw w.asked (first_row c h (reading help) (λ p. free (subst (λ (s : ScxNo). IsNamedScx h s.0) same p)) help.at w.known)

      says : Says (descriptor h m.scx.0) m
      says = record { plan = filled.planned; new = filled.fresh; old = filled.expected; member = filled.members; seen = filled.found; call = filled.called }

      go : FirstRow h (row_of c step h) c.pass m.scx.0 c.layout → Tracks c.layout c.pass (row_of c step h ⊳ h) m e
      go (aborts x) = over x
      go (begins b y now) = begun record { row = row_of c step h; before = h; within = ends_self (row_of c step h ⊳ h); begins = b; edit = promised (descriptor h m.scx.0) says h (later_self c.pass m.scx.0 h) before refl y now }
      go (quiet q) = waits_more c.layout c.pass h (row_of c step h) m e (inr (inr q)) promised (λ p. free (quiet_named_scx c.layout h (row_of c step h) refl q m.scx.0 p))

  by_scx : (at : ScxAt) → IsRun TreeAllows c.layout h → ScxWaitsAt TreeAllows c h m at step → Tracks c.layout c.pass h m e → Tracks c.layout c.pass (row_of c step h ⊳ h) m e
  by_scx AtScxStart before w t = absurd w
  by_scx AtFillPlan before w t = by_fill AtFillPlan w t
  by_scx AtFillNew before w t = by_fill AtFillNew w t
  by_scx AtFillOld before w t = by_fill AtFillOld w t
  by_scx (AtFillMember j) before w t = by_fill (AtFillMember j) w t
  by_scx (AtFillSeen j) before w t = by_fill (AtFillSeen j) w t
  by_scx AtFillCall before w t = by_fill AtFillCall w t
  by_scx (AtHelp help) before w t = by_help help before w.0 w.1 w.2 t

-- so does a row of the SCX itself
pub tracks_by_scx : (c : Call) (h : History) (m : ScxRun) (step : Step) (e : MapEdit) → IsRun TreeAllows c.layout (row_of c step h ⊳ h) → IsRun TreeAllows c.layout h → ScxWaits TreeAllows m c h step → Tracks c.layout c.pass h (job_of m) e → Tracks c.layout c.pass (row_of c step h ⊳ h) (job_of m) e
tracks_by_scx c h m step e run before w t = by_scx c h (job_of m) step e run m.at before w t

-- an SCX-record that is tracked and has won has made its edit
pub tracked_makes : (lay : Layout) (c : ℕ) (h : History) (m : Job) (e : MapEdit) → Lawful lay h → HasWon h m.scx.0 → Tracks lay c h m e → Makes lay h m.scx.0 e
tracked_makes lay c h m e l won (waits promised free) = absurd (free (won_named m.scx.0 (facts lay h l) won))
tracked_makes lay c h m e l won (begun x) = x
tracked_makes lay c h m e l won (over x) = absurd (aborted_never_won lay h m.scx.0 l x won)
