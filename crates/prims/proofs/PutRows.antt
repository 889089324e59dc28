-- What the rows of an SCX with a fresh cell leave as it was: nodes that nothing mentions, except
-- for its own, and SCX-records that are not taken, except for its own.
use Rattle.std.proofs.Common.{◌≢◌, ℕ, ◌≤◌, inl, inr, refl, sym, arith, subst, length}
use Rattle.histories.specs.Common.{Layout, Step, member_index, opening_nodes, scx, child, first_value, History, ◌⊳◌, HasHeld}
use Rattle.histories.specs.Common.{field_index_of as field_of, side_of, IsInField, IsTakenScx, Lawful, Call, row_of, IsUnmentioned}
use Rattle.histories.proofs.Lemmas.{IsMention, unmentioned_by_fill, unmentioned_by_step, untaken_by_node, untaken_by_other_fill, untaken_by_step}
use Rattle.help.specs.Laws.Help.Lawful.{help_fills_not}
use Rattle.prims.specs.Snap.{snap_at}
use Rattle.prims.specs.Scx.Known.{Job, job_of, wanted, part_at, IsWithin, Fills, FillWaits, fill_step, ScxWaitsAt}
use Rattle.prims.specs.Put.Known.{put_step, PutWaitsAt, PutWaits}
use Rattle.prims.specs.declared.scx.ScxAt.{ScxAt}
use Rattle.prims.specs.declared.scx.ScxAt.TheVariants.{Start as ScxStart, Plan as AtPlan, New as AtNew, Old as AtOld, Member as AtMember, Seen as AtSeen, Call as AtCall, Help}
use Rattle.prims.specs.declared.put.PutRun.{PutRun}
use Rattle.prims.specs.declared.put.PutAt.{PutAt}
use Rattle.prims.specs.declared.put.PutAt.TheVariants.{Start, Fill as AtFill, Scx}

-- Nodes that nothing mentions

module _ (allows : Layout → History → ℕ → Type 0) (m : Job) (c : Call) (h : History) (n : ℕ) (late : opening_nodes c.layout ≤ n) (other : n ≢ m.update.fresh.0) (u : IsUnmentioned h n) where
  -- what a word that names nodes is to hold is another node: the fresh one, or one that a field has
  -- held
  not_wanted : (at : ScxAt) → Fills allows c h m at → IsMention (scx m.scx.0 (part_at at)) → wanted m (part_at at) ≢ n
  not_wanted at x = go at x.within
    where
      old_held : HasHeld h (child (snap_at m.update.snaps (field_of m.update.plan.0)).node.0 (side_of m.update.plan.0)) m.update.old.0
      old_held = rw x.hand.update.old ((x.hand.linked (field_of m.update.plan.0) (rw x.hand.update.count at x.hand.update.planned.field)).had (side_of m.update.plan.0))

      in_field : (k : ℕ) → IsInField c.layout h k → k ≢ n
      in_field k (inl i) e = omega arith
      in_field k (inr y) e = u.in_no_field y.0 y.1 (subst (λ v. HasHeld h (child y.0 y.1) v) e y.3)

      go : (at : ScxAt) → IsWithin (length m.update.snaps) at → IsMention (scx m.scx.0 (part_at at)) → wanted m (part_at at) ≢ n
      go AtNew i k e = other (sym e)
      go AtOld i k e = u.in_no_field _ _ (subst (λ v. HasHeld h (child (snap_at m.update.snaps (field_of m.update.plan.0)).node.0 (side_of m.update.plan.0)) v) e old_held)
      go (AtMember j) i k e = in_field _ (x.hand.linked (member_index j) i).in_field e
      go (AtSeen j) i k e = absurd k
      go AtCall i k e = absurd k
      go AtPlan i k e = absurd k
      go ScxStart i k e = absurd k
      go (Help help) i k e = absurd k

  -- a fill of its SCX-record
  unmentioned_fill : (at : ScxAt) (s : Step) → FillWaits allows c h m at s → IsUnmentioned (row_of c s h ⊳ h) n
  unmentioned_fill at s w = rw w.asked (unmentioned_by_fill h (row_of c (fill_step m (part_at at)) h) n (not_wanted at w.fills) u)

  -- a row of the SCX
  pub unmentioned_at : (at : ScxAt) (s : Step) → Lawful c.layout (row_of c s h ⊳ h) → ScxWaitsAt allows c h m at s → IsUnmentioned (row_of c s h ⊳ h) n
  unmentioned_at ScxStart s l w = absurd w
  unmentioned_at (Help help) s l w = unmentioned_by_step c.layout h (row_of c s h) n l (help_fills_not allows help c h s w.0) u
  unmentioned_at AtPlan s l w = unmentioned_fill AtPlan s w
  unmentioned_at AtNew s l w = unmentioned_fill AtNew s w
  unmentioned_at AtOld s l w = unmentioned_fill AtOld s w
  unmentioned_at (AtMember j) s l w = unmentioned_fill (AtMember j) s w
  unmentioned_at (AtSeen j) s l w = unmentioned_fill (AtSeen j) s w
  unmentioned_at AtCall s l w = unmentioned_fill AtCall s w

-- a row at a place
unmentioned_put : (allows : Layout → History → ℕ → Type 0) (m : PutRun) (c : Call) (h : History) (s : Step) (n : ℕ) (at : PutAt) → Lawful c.layout (row_of c s h ⊳ h) → PutWaitsAt allows c h m at s → opening_nodes c.layout ≤ n → n ≢ m.scx.update.fresh.0 → IsUnmentioned h n → IsUnmentioned (row_of c s h ⊳ h) n
unmentioned_put allows m c h s n Start l w late other u = absurd w
unmentioned_put allows m c h s n AtFill l w late other u = rw w.2 (unmentioned_by_fill h (row_of c (put_step m) h) n (λ i. absurd i) u)
unmentioned_put allows m c h s n Scx l w late other u = unmentioned_at allows (job_of m.scx) c h n late other u m.scx.at s l w.1

-- a row of its leaves every node but its own that nothing mentions so
pub put_unmentioned : (allows : Layout → History → ℕ → Type 0) (m : PutRun) (c : Call) (h : History) (s : Step) (n : ℕ) → Lawful c.layout (row_of c s h ⊳ h) → PutWaits allows m c h s → opening_nodes c.layout ≤ n → n ≢ m.scx.update.fresh.0 → IsUnmentioned h n → IsUnmentioned (row_of c s h ⊳ h) n
put_unmentioned allows m c h s n l w late other u = unmentioned_put allows m c h s n m.at l w late other u

-- SCX-records that are not taken

-- a fill of its SCX-record takes no other
untaken_fill : (allows : Layout → History → ℕ → Type 0) (m : Job) (c : Call) (h : History) (at : ScxAt) (s : Step) (t : ℕ) → FillWaits allows c h m at s → t ≢ m.scx.0 → ¬ IsTakenScx h t → ¬ IsTakenScx (row_of c s h ⊳ h) t
untaken_fill allows m c h at s t w other free = rw w.asked (untaken_by_other_fill h (row_of c (fill_step m (part_at at)) h) m.scx.0 t (part_at at) refl other free)

-- nor does a row of the SCX
pub untaken_at : (allows : Layout → History → ℕ → Type 0) (m : Job) (c : Call) (h : History) (at : ScxAt) (s : Step) (t : ℕ) → ScxWaitsAt allows c h m at s → t ≢ m.scx.0 → ¬ IsTakenScx h t → ¬ IsTakenScx (row_of c s h ⊳ h) t
untaken_at allows m c h ScxStart s t w other free = absurd w
untaken_at allows m c h (Help help) s t w other free = untaken_by_step h (row_of c s h) t (help_fills_not allows help c h s w.0) free
untaken_at allows m c h AtPlan s t w other free = untaken_fill allows m c h AtPlan s t w other free
untaken_at allows m c h AtNew s t w other free = untaken_fill allows m c h AtNew s t w other free
untaken_at allows m c h AtOld s t w other free = untaken_fill allows m c h AtOld s t w other free
untaken_at allows m c h (AtMember j) s t w other free = untaken_fill allows m c h (AtMember j) s t w other free
untaken_at allows m c h (AtSeen j) s t w other free = untaken_fill allows m c h (AtSeen j) s t w other free
untaken_at allows m c h AtCall s t w other free = untaken_fill allows m c h AtCall s t w other free

-- nor a row at a place
untaken_put : (allows : Layout → History → ℕ → Type 0) (m : PutRun) (c : Call) (h : History) (s : Step) (t : ℕ) (at : PutAt) → PutWaitsAt allows c h m at s → t ≢ m.scx.scx.0 → ¬ IsTakenScx h t → ¬ IsTakenScx (row_of c s h ⊳ h) t
untaken_put allows m c h s t Start w other free = absurd w
untaken_put allows m c h s t AtFill w other free = rw w.2 (untaken_by_node h (row_of c (put_step m) h) m.scx.update.fresh.0 t first_value refl free)
untaken_put allows m c h s t Scx w other free = untaken_at allows (job_of m.scx) c h m.scx.at s t w.1 other free

-- a row of its takes no SCX-record but its own
pub put_untaken : (allows : Layout → History → ℕ → Type 0) (m : PutRun) (c : Call) (h : History) (s : Step) (t : ℕ) → PutWaits allows m c h s → t ≢ m.scx.scx.0 → ¬ IsTakenScx h t → ¬ IsTakenScx (row_of c s h ⊳ h) t
put_untaken allows m c h s t w other free = untaken_put allows m c h s t m.at w other free
