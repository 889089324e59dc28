-- Which kinds of step the machine of a call of the map asks for.
use Rattle.histories.specs.Common.{Step, History, Call}
use Rattle.ordered_map.specs.CallRules.{call_rules}
use Rattle.order.specs.Laws.Run.{read_asks, read_fills_not}
use Rattle.template.proofs.Lemmas.{walk_loads}
use Rattle.dict.specs.Calls.{AsksForPairs, inner_call}
use Rattle.dict.specs.Known.{WaitsInside}
use Rattle.dict.specs.Inner.{InnerRun}
use Rattle.dict.specs.Inner as runs
use Rattle.dict.specs.Laws.Kinds.{IsOfKind}

-- a call that waits for a step asks for pairs, if it is a range
pub asks_inside : (m : InnerRun) → IsOfKind m → (c : Call) (h : History) (s : Step) → WaitsInside m c h s → AsksForPairs (inner_call m)
asks_inside (runs.Update m) kind c h s w = tt
asks_inside (runs.Get key walk share) kind c h s w = tt
asks_inside (runs.Read k m share) kind c h s w = kind.asks m.read (read_asks k.means m c h s w.0)

-- the step that a call waits for is of one of its kinds
pub kind_inside : (m : InnerRun) → IsOfKind m → (c : Call) (h : History) (s : Step) → WaitsInside m c h s → (call_rules (inner_call m)).MayMake s.kind
kind_inside (runs.Update m) kind c h s w = tt
kind_inside (runs.Get key walk share) kind c h s w = (walk_loads walk c h s w.0.0).0
kind_inside (runs.Read k m share) kind c h s w = kind.kinds m.read s.kind (read_asks k.means m c h s w.0) (read_fills_not k.means m c h s w.0)
