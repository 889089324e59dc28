-- The machine of a call of the map: rows of others leave it waiting, its steps are lawful, and what
-- it gets is so, as of the machine inside.
use Rattle.std.proofs.Common.{◌≡◌, ◌≢◌, ℕ, suc, ◌≤◌, length, inr, Option, Some, refl, sym, subst, arith}
use Rattle.histories.specs.Common.{Fill, Row, Step, History, ◌⊳◌, value, Call, IsRun, IsTold, row_of, Remaining, taken_nodes}
use Rattle.order.specs.Laws.Run.{read_keeps, read_lawful, read_made, read_told, read_fills_not}
use Rattle.template.specs.Common.{TreeAllows, tries_begun, WalkKnows, WalkWaits, IsPastRoot}
use Rattle.template.specs.Walk.Laws.{walk_keeps, walk_lawful, walk_made, walk_told}
use Rattle.template.specs.declared.walk.WalkAt.{WalkAt}
use Rattle.template.specs.declared.walk.WalkAt.TheVariants.{Start, Root}
use Rattle.template.specs.declared.walk.WalkRun.{WalkRun}
use Rattle.template.proofs.Lemmas.{one_row, others_begin_none, own_begins_none, tries_more, walk_begins_none, walk_fills_not}
use Rattle.edits.specs.Known.{RestsWith}
use Rattle.edits.specs.Laws.Kept.{quiet_rests, rests_by_others, rests_by_step}
use Rattle.edits.specs.Laws.Update.{update_keeps, update_lawful, update_made, update_told}
use Rattle.dict.specs.Known.{HasRested, HasTriedOnceAt, IsReadyInside, WaitsInside, MapIsReady, MapWaits}
use Rattle.dict.specs.Steps.{InnerFits, MapFits}
use Rattle.dict.specs.declared.run.MapRun.{MapRun}
use Rattle.dict.specs.Inner.{InnerRun, Update, Get, Read, edit_means, inner}

-- a read is still at rest after one row more, if its pass is
module _ (c : Call) (h : History) (r : Row) (share : Remaining) (run : IsRun TreeAllows c.layout (r ⊳ h)) where
  rests_more : HasRested c h share → RestsWith c (r ⊳ h) share → HasRested c (r ⊳ h) share
  rests_more x now = record { run = (x.run.0, run); since = inr x.since; now = now; quiet = quiet_rests c h r share run.lawful now x.quiet }

  still : r.pass.0 ≢ c.pass → HasRested c h share → HasRested c (r ⊳ h) share
  still other x = rests_more x (rests_by_others c h r share run.lawful other x.now)

  -- an own row that fills nothing leaves it so
  pub on : r.kind ≢ Fill → HasRested c h share → HasRested c (r ⊳ h) share
  on fills_not x = rests_more x (rests_by_step c h r share run.lawful fills_not x.now)

-- rows of other passes leave the machine waiting for the same step
kept : (m : InnerRun) (c : Call) (h : History) (s : Step) (r : Row) → IsRun TreeAllows c.layout (r ⊳ h) → r.pass.0 ≢ c.pass → WaitsInside m c h s → WaitsInside m c (r ⊳ h) s
kept (Update m) c h s r run other w = update_keeps edit_means m c h s r run other w
kept (Get key walk share) c h s r run other w = ((walk_keeps walk c h s r run other w.0.0, w.0.1, rw (tries_more c.pass r h (others_begin_none c.pass r other)) w.0.2), still c h r share run other w.1)
kept (Read k m share) c h s r run other w = (read_keeps k.means m c h s r run other w.0, still c h r share run other w.1)

pub map_keeps : (tries : ℕ) (m : MapRun) (c : Call) (h : History) (s : Step) (r : Row) → IsRun TreeAllows c.layout (r ⊳ h) → r.pass.0 ≢ c.pass → MapWaits tries m c h s → MapWaits tries m c (r ⊳ h) s
map_keeps tries m c h s r run other w = (w.0, kept (inner m) c h s r run other w.1)

-- the step that it waits for continues a run of the tree
pub inner_lawful : (m : InnerRun) (c : Call) (h : History) (s : Step) → IsRun TreeAllows c.layout h → WaitsInside m c h s → IsRun TreeAllows c.layout (row_of c s h ⊳ h)
inner_lawful (Update m) c h s run w = update_lawful edit_means m c h s run w
inner_lawful (Get key walk share) c h s run w = walk_lawful walk c h s run w.0.0
inner_lawful (Read k m share) c h s run w = read_lawful k.means m c h s run w.0

-- by its step a get begins a try at most if its walk is at the root
tries_made : (walk : WalkRun) (c : Call) (h : History) (s : Step) → WalkWaits walk c h s → HasTriedOnceAt walk.at (tries_begun c.pass h) (tries_begun c.pass c.start) → tries_begun c.pass (row_of c s h ⊳ h) ≤ suc (tries_begun c.pass c.start)
tries_made walk c h s w x = go walk.at refl
  where
    past : IsPastRoot walk.at → tries_begun c.pass (row_of c s h ⊳ h) ≤ suc (tries_begun c.pass c.start)
    past p = rw (tries_more c.pass (row_of c s h) h (own_begins_none c s h (walk_begins_none walk c h s p w))) x.0

    go : (at : WalkAt) → walk.at ≡ at → tries_begun c.pass (row_of c s h ⊳ h) ≤ suc (tries_begun c.pass c.start)
    go Start is = absurd (subst (WalkKnows c h walk) is w.known)
    go Root is = let one = one_row c.pass (row_of c s h) h in let none = x.1 is in omega (arith, one, none)
    go at is = past (subst IsPastRoot (sym is) tt)

-- once the step is made, it may be called with what that found
made : (m : InnerRun) (c : Call) (h : History) (s : Step) (v : ℕ) → IsRun TreeAllows c.layout (row_of c s h ⊳ h) → IsTold s.access (value h s.word) v → WaitsInside m c h s → IsReadyInside m c (row_of c s h ⊳ h) (Some v)
made (Update m) c h s v run told w = update_made edit_means m c h s v run told w
made (Get key walk share) c h s v run told w = ((walk_made walk c h s v run told w.0.0, w.0.1, tries_made walk c h s w.0.0 w.0.2), on c h (row_of c s h) share run (walk_fills_not walk c h s w.0.0) w.1)
made (Read k m share) c h s v run told w = (read_made k.means m c h s v run told w.0, on c h (row_of c s h) share run (read_fills_not k.means m c h s w.0) w.1)

-- once its step is made the machine is ready for what the step has found
pub map_made : (tries : ℕ) (m : MapRun) (c : Call) (h : History) (s : Step) (v : ℕ) → IsRun TreeAllows c.layout (row_of c s h ⊳ h) → IsTold s.access (value h s.word) v → MapWaits tries m c h s → MapIsReady tries m c (row_of c s h ⊳ h) (Some v)
map_made tries m c h s v run told w = (w.0, made (inner m) c h s v run told w.1)

-- what it may get fits the nodes that are taken by then
told : (m : InnerRun) (c : Call) (h : History) (got : Option ℕ) (nodes : ℕ) → IsRun TreeAllows c.layout h → IsReadyInside m c h got → length (taken_nodes h) ≤ nodes → InnerFits m got nodes
told (Update m) c h got nodes run x few = update_told edit_means m c h got nodes run x few
told (Get key walk share) c h got nodes run x few = walk_told walk c h got nodes run x.0.0 few
told (Read k m share) c h got nodes run x few = read_told k.means m c h got nodes run x.0 few

pub map_told : (tries : ℕ) (m : MapRun) (c : Call) (h : History) (got : Option ℕ) (nodes : ℕ) → IsRun TreeAllows c.layout h → MapIsReady tries m c h got → length (taken_nodes h) ≤ nodes → MapFits m got nodes
map_told tries m c h got nodes run x few = told (inner m) c h got nodes run x.1 few
