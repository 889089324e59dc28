-- What a whole call of a map, and of a dictionary, fills or finds.
use Rattle.std.proofs.Common.{ℕ, inr}
use Rattle.histories.specs.Common.{Step, History, Call, begun_at}
use Rattle.ordered_map.specs.Runs.{IsMapRun}
use Rattle.template.specs.Common.{Rule, WalkWaits}
use Rattle.template.specs.declared.walk.WalkRun.{WalkRun}
use Rattle.order.specs.Known.{ReadWaits}
use Rattle.order.specs.Meaning.{ReadMeaning}
use Rattle.order.specs.declared.run.ReadRun.{ReadRun}
use Rattle.tree.specs.declared.key_edit.KeyEdit.{KeyEdit}
use Rattle.edits.specs.Known.{UpdateWaits, UpdateWaitsAt}
use Rattle.edits.specs.declared.update.UpdateAt.{UpdateAt}
use Rattle.edits.specs.declared.update.UpdateAt.TheVariants.{Start, Walk, Guard, Look, Read as At, Fill, Scx}
use Rattle.edits.specs.declared.update.UpdateRun.{UpdateRun}
use Rattle.dict.specs.Inner.{GoalBy, InnerRun, Update, Get, Read, edit_means, inner}
use Rattle.dict.specs.Known.{WaitsInside, MapWaits}
use Rattle.dict.specs.declared.run.MapRun.{MapRun}
use Rattle.touching.specs.Touches.{Touches}
use Rattle.touching.proofs.EditLooks.{key_there}
use Rattle.touching.proofs.Editing.{update_there}
use Rattle.touching.proofs.OwnScx.{InTree}
use Rattle.touching.proofs.Present.{in_tree_kind}
use Rattle.touching.proofs.Finding.{FillsOrFinds, found_touched, step_touched}
use Rattle.touching.proofs.Reading.{read_finds}
use Rattle.touching.proofs.Seen.{key_seen}
use Rattle.touching.proofs.Walks.{walk_finds}

-- an edit of the map
edit_finds : (m : UpdateRun (KeyEdit GoalBy Rule) UpdateAt) (c : Call) (h : History) (s : Step) → UpdateWaits edit_means m c h s → FillsOrFinds InTree c h s
edit_finds = update_there edit_means (key_there (λ (g : GoalBy). g.goal) (λ (g : GoalBy). g.balance) (λ (r : Rule). r)) (key_seen (λ (g : GoalBy). g.goal) (λ (g : GoalBy). g.balance) (λ (r : Rule). r))

inside_finds : (m : InnerRun) (c : Call) (h : History) (s : Step) → WaitsInside m c h s → FillsOrFinds InTree c h s
inside_finds (Update m) c h s w = edit_finds m c h s w
inside_finds (Get key walk share) c h s w = inr (walk_finds InTree in_tree_kind walk c h s w.0.0)
inside_finds (Read k m share) c h s w = inr (read_finds k.means m c h s w.0)

pub map_finds : (tries : ℕ) (m : MapRun) (c : Call) (h : History) (s : Step) → MapWaits tries m c h s → FillsOrFinds InTree c h s
map_finds tries m c h s w = inside_finds (inner m) c h s w.1

-- so they touch it
pub walk_touches : (m : WalkRun) (c : Call) (h : History) (s : Step) → WalkWaits m c h s → Touches InTree c h s.word
walk_touches m c h s w = found_touched InTree c h s.word (walk_finds InTree in_tree_kind m c h s w)

pub edit_touches : (m : UpdateRun (KeyEdit GoalBy Rule) UpdateAt) (c : Call) (h : History) (s : Step) → UpdateWaits edit_means m c h s → Touches InTree c h s.word
edit_touches m c h s w = step_touched InTree c h s (edit_finds m c h s w)

pub read_touches : {R A : Type 0} (means : ReadMeaning R A) (m : ReadRun R) (c : Call) (h : History) (s : Step) → ReadWaits means m c h s → Touches InTree c h s.word
read_touches means m c h s w = found_touched InTree c h s.word (read_finds means m c h s w)

pub map_touches : (tries : ℕ) (m : MapRun) (c : Call) (h : History) (s : Step) → MapWaits tries m c h s → Touches InTree c h s.word
map_touches tries m c h s w = step_touched InTree c h s (map_finds tries m c h s w)

-- a call of a map waits in a run of it
update_run : (m : UpdateRun (KeyEdit GoalBy Rule) UpdateAt) (c : Call) (h : History) (s : Step) (at : UpdateAt) → UpdateWaitsAt edit_means m c h s at → IsMapRun c.layout h
update_run m c h s Start k = absurd k
update_run m c h s (Walk walk) k = k.1.run
update_run m c h s (Guard walk head llx) k = k.1.run
update_run m c h s (Look f llx) k = k.1.run
update_run m c h s (At f n part) k = k.0.works.run
update_run m c h s (Fill f nth part) k = k.0.works.run
update_run m c h s (Scx f scx) k = k.1.run

inside_run : (m : InnerRun) (c : Call) (h : History) (s : Step) → WaitsInside m c h s → IsMapRun c.layout h
inside_run (Update m) c h s w = update_run m (begun_at c w.0) h s m.at w.3
inside_run (Get key walk share) c h s w = w.1.run
inside_run (Read k m share) c h s w = w.1.run

pub map_run : (tries : ℕ) (m : MapRun) (c : Call) (h : History) (s : Step) → MapWaits tries m c h s → IsMapRun c.layout h
map_run tries m c h s w = inside_run (inner m) c h s w.1
