use Rattle.std.proofs.Common.{◌≡◌, List, subst, sym}
use Rattle.arena.specs.Limits.{IsLayoutOf}
use Rattle.histories.specs.Common.{Mode}
use Rattle.script.specs.declared.call.Call.{Call}
use Rattle.planting.specs.Plantings.{nothing_planted}
use Rattle.runner.specs.Calls.{HaveWorked}
use Rattle.runner.proofs.Gathered.{are_of, worked_of, worked_back}
use Rattle.runner.proofs.Ends.{of_map, outcome}
use Rattle.runner.proofs.runs.run_by.Goals as goal

pub crowd-requires-clause-passes : goal.crowd-requires-clause-passes
crowd-requires-clause-passes g c = λ κs lives. are_of _ _ c.in-Ok.ensures.passes

pub close-requires-clause-passes : goal.close-requires-clause-passes
close-requires-clause-passes g c = worked_of _ _ _ _ _ c.in_ok-passes.ensures

pub close-requires-clause-all : goal.close-requires-clause-all
close-requires-clause-all g c = worked_back _ _ _ _ _ c.in-Ok.ensures.passes c.in_ok-passes.ensures

pub returns : goal.returns
returns g c = outcome c.args.script.now c.in-Ok.forest (of_map _ _ c.requires.mode) (subst (λ (m : Mode). IsLayoutOf c.args.script.now.limits m c.in-Ok.forest.layout) (sym c.requires.mode) c.in-Ok.ensures.layout) c.in-Ok.ensures.tries (subst (λ (m : Mode). c.in-Ok.forest.planting ≡ nothing_planted m) (sym c.requires.mode) c.in-Ok.ensures.empty) c.in-Ok.passes.items c.in_ok-passes.passes.items c.in_ok-passes.replies.items c.in-Ok.ensures.passes
    (subst (λ (xs : List Call). HaveWorked c.in-Ok.forest xs c.in-Ok.passes.items c.in_ok-passes.passes.items c.in_ok-passes.replies.items) c.as_slice.ensures.value c.in_ok-passes.ensures)
    c.close.result c.close.ensures.closed c.in_ok-pairs.pairs.items (c.in_ok-pairs.ensures.pairs _ _ c.close.ensures.closed)
