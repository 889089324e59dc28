-- Where updates begin to walk, of whatever machine updates: at the root, or behind their guard.
use Rattle.std.specs.Prelude.{◌≡◌, ℕ, suc, ◌+◌, ◌*◌, ◌≤◌, Bool, true, List}
use Rattle.atomic_table.specs.declared.shared.Seat.{Seat}
use Rattle.histories.specs.Common.{Ghosts as Machine, LoadSettled, LoadState, Settled, Head as HeadWord, ScxNo, node, state}
use Rattle.arena.specs.declared.machine.Shape.{Ghosts as Shape}
use Rattle.template.specs.Common.{load, IsPastRoot, Goal}
use Rattle.template.specs.Walk.Places.{way_at, way_from}
use Rattle.template.specs.Walk.Steps.{room, walk_left}
use Rattle.template.specs.declared.walk.Way.{Way}
use Rattle.edits.specs.Edits.{EditMeaning, all_looks}
use Rattle.edits.specs.Next.{standing}
use Rattle.edits.specs.Steps.{update_left}
use Rattle.edits.specs.declared.update.UpdateAt.{UpdateAt}
use Rattle.edits.specs.declared.update.UpdateAt.TheVariants.{Guard, Walk}
use Rattle.edits.specs.declared.update.UpdateRun.{UpdateRun}
use Rattle.prims.specs.declared.llx.LlxAt.TheVariants.{StateAgain}
use Rattle.straight.specs.declared.hand.Hand.{Hand}
use Rattle.straight.specs.declared.node.Reached.{Reached}
use Rattle.tables.specs.declared.memory.PassMemory.{PassMemory}
use Rattle.tables.specs.declared.view.SeatView.{SeatView}
use Rattle.tables.specs.declared.view.SeatedPass.{SeatedPass}
use Rattle.straight.specs.CallKinds.{Calls}
use Rattle.straight.specs.Hands.{hand_calls, hand_slots, names}
use Rattle.straight.specs.Hosts.{HostedWaits}
use Rattle.straight.specs.Leads.{steps_made}
use Rattle.tables.specs.Seats.{StaysAtTable}
use Rattle.straight.specs.StraightLlx.{llx_at}
use Rattle.straight.specs.StraightUpdate.{Updater, UpdaterBegins}
use Rattle.straight.specs.StraightWalk.{AsksHead}
use Rattle.tables.specs.Traces.{shared_nodes}

-- the place of an update that has found this as the head of the root, and asks again for the state
-- of an SCX-record that was in the way of its look at its guard, node 2
abbrev pub at_guard_again : Way → Goal → ℕ → Bool → ScxNo → UpdateAt
at_guard_again way goal head marked scx = Guard (way_from way goal) head (llx_at record { 0 = 2 } (StateAgain marked scx))

-- the update there
abbrev pub guarding_again : {E A : Type 0} → UpdateRun E A → Way → Goal → ℕ → Bool → ScxNo → UpdateRun E UpdateAt
guarding_again m way goal head marked scx = standing m (at_guard_again way goal head marked scx)

module _ {M E : Type 0} {o : Calls M} {e : EditMeaning E} (u : Updater o e) (ps : List SeatedPass) where
  -- its update's walk by this way to this goal waits for the head of the node at this place, and if
  -- the edit has a guard, that is past the root
  abbrev pub UpdaterWalks : {A : Type 0} → UpdateRun E A → Way → Goal → Reached → Type 0
  UpdaterWalks m way goal place = (e.guard m.edit ≡ true → IsPastRoot place.at) × HostedWaits u ps (standing m (Walk (way_at way goal place.trail place.at))) (load LoadSettled (node place.trail.node.0 (Settled HeadWord)))

  -- its update asks again for that state
  abbrev pub UpdaterGuardsAgain : {A : Type 0} → UpdateRun E A → Way → Goal → ℕ → Bool → ScxNo → Type 0
  UpdaterGuardsAgain m way goal head marked scx = HostedWaits u ps (guarding_again m way goal head marked scx) (load LoadState (state scx.0))

-- how many steps are left to it then
abbrev pub left_at_guard : {E A : Type 0} → EditMeaning E → UpdateRun E A → Way → Goal → ℕ → Bool → ScxNo → ℕ → ℕ
left_at_guard e m way goal head marked scx nodes = suc (update_left e (guarding_again m way goal head marked scx) nodes)

-- From the old seat, where an update has not begun, one gets to the new one, where it waits at this
-- place of its walk: at the same table, in any call of the hand. It has kept the snapshot of its
-- guard, if it has one, and is else as it was. The steps left to its walk and for its guard drop by
-- at least those made.
pub record BeginsToWalk {S T M A E B : Type 0} (s : Shape T) (m : Machine M T A) (left : M → PassMemory → Type 0) (e : EditMeaning E) (hand : Hand S) (way : Way) (goal : Goal) (old : Seat ℕ SeatView) (run : UpdateRun E B) (new : Seat ℕ SeatView) (now : UpdateRun E B) (place : Reached) : Type 0 where
  pub table : StaysAtTable old new
  pub to : (u : Updater (hand_calls s m left hand) e) → UpdaterBegins u old.me.0.passes run → UpdaterWalks u new.me.0.passes now way goal place
  pub is : now ≡ record run { guard = now.guard }
  pub stands : AsksHead (hand_slots hand) place.trail place.at place.start
  pub steps : steps_made new + (suc (walk_left place.at (room way (shared_nodes (names hand)))) + 64 * e.most_looks run.edit) ≤ steps_made old + (3 * (2 + room way (shared_nodes (names hand))) + 5 + 64 * all_looks (e.guard run.edit) (e.most_looks run.edit))
