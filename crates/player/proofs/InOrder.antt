-- The machines that run on a map fill nodes in order.
use Rattle.std.proofs.Common.{◌≡◌, ◌≢◌, true, false}
use Rattle.arena.specs.Opening.{IsMap}
use Rattle.histories.specs.Common.{Fill, Step, History, Call, row_of}
use Rattle.dict.specs.Inner.{GoalBy, InnerRun, Update, Get, Read, inner}
use Rattle.dict.specs.Known.{WaitsInside}
use Rattle.order.specs.Laws.Run.{read_fills_not}
use Rattle.template.specs.Common.{IsFillInOrder, Rule}
use Rattle.ordered_map.specs.FillOrder.{AreFilledInOrder}
use Rattle.template.proofs.Lemmas.{walk_fills_not}
use Rattle.tree.proofs.Lemmas.{key_in_order}
use Rattle.player.specs.declared.run.Run.{Run}
use Rattle.player.specs.declared.run.Run.TheVariants.{Llx, Scx, Vlx, Map}
use Rattle.player.specs.RunKnown.{RunWaits, run_mode}

-- a step that fills nothing fills in order
no_fill : (call : Call) (h : History) (s : Step) → s.kind ≢ Fill → IsFillInOrder h (row_of call s h)
no_fill call h s none = record { head = λ n fill. absurd (none fill); field = λ n side fill. absurd (none fill) }

map_in_order : (m : InnerRun) (call : Call) (h : History) (s : Step) → AreFilledInOrder h → WaitsInside m call h s → IsFillInOrder h (row_of call s h)
map_in_order (Update m) call h s filled w = key_in_order (λ (g : GoalBy). g.goal) (λ (g : GoalBy). g.balance) (λ (r : Rule). r) m call h s filled w
map_in_order (Get key walk share) call h s filled w = no_fill call h s (walk_fills_not walk call h s w.0.0)
map_in_order (Read k m share) call h s filled w = no_fill call h s (read_fills_not k.means m call h s w.0)

pub run_in_order : (run : Run) (call : Call) (h : History) (s : Step) → IsMap (run_mode run) → AreFilledInOrder h → RunWaits run call h s → IsFillInOrder h (row_of call s h)
run_in_order (Map m) call h s map filled w = map_in_order (inner m.run) call h s filled w.1.1
run_in_order (Llx m) call h s map filled w = absurd (let z : false ≡ true = map in cc)
run_in_order (Scx m) call h s map filled w = absurd (let z : false ≡ true = map in cc)
run_in_order (Vlx m) call h s map filled w = absurd (let z : false ≡ true = map in cc)
