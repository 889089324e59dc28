-- The machine of a call of the map fills only what it has taken of its share.
use Rattle.std.specs.Prelude.{ℕ}
use Rattle.histories.specs.Common.{Step, History, Call}
use Rattle.order.specs.Laws.Run.{read_fills_not}
use Rattle.template.proofs.Lemmas.{walk_fills_not}
use Rattle.edits.specs.Taken.{FillsTaken}
use Rattle.edits.specs.Laws.Taken.{fills_nothing, update_fills_taken}
use Rattle.dict.specs.Calls.{inner_share, share_of}
use Rattle.dict.specs.Inner.{InnerRun, Update, Get, Read, edit_means, inner}
use Rattle.dict.specs.Known.{MapWaits, WaitsInside}
use Rattle.dict.specs.declared.run.MapRun.{MapRun}

-- a read fills nothing
inner_fills_taken : (m : InnerRun) (c : Call) (h : History) (s : Step) → WaitsInside m c h s → FillsTaken (inner_share m) s
inner_fills_taken (Update m) c h s w = update_fills_taken edit_means m c h s w
inner_fills_taken (Get key walk share) c h s w = fills_nothing share s (walk_fills_not walk c h s w.0.0)
inner_fills_taken (Read k m share) c h s w = fills_nothing share s (read_fills_not k.means m c h s w.0)

-- the step for which the machine waits, if it fills, fills what it has taken
pub map_fills_taken : (tries : ℕ) (m : MapRun) (c : Call) (h : History) (s : Step) → MapWaits tries m c h s → FillsTaken (share_of m) s
map_fills_taken tries m c h s w = inner_fills_taken (inner m) c h s w.1
