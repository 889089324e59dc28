use Rattle.std.proofs.Common.{List, subst, IfOk}
use Rattle.tables.specs.Passes.{PassView}
use Rattle.runner.specs.Calls.{HaveWorked}
use Rattle.runner.proofs.runs.fn.crowd.scope.Goals as goal

pub returns-then-all : goal.returns-then-all
returns-then-all g c =
    subst (λ (olds : List PassView). IfOk c.join_all-works.result (λ r. HaveWorked c.captures.forest.now c.captures.calls.now olds r.0.items r.1.items)) (c.in_ok-threads.ensures.passes c.if-all.true)
    (c.join_all-works.ensures c.captures.forest.now c.captures.calls.now c.in_ok-threads.ensures.duties)
