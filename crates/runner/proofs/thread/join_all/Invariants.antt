use Rattle.std.proofs.Common.{◌≡◌, List, ◌++◌, map, IfOk}
use Rattle.std.specs.List.{All}
use Rattle.script.specs.declared.call.Call.{Call}
use Rattle.tables.specs.Passes.{Ground, PassView}
use Rattle.runner.specs.Calls.{HaveWorked}
use Rattle.runner.proofs.thread.join_all.Given as goal

abbrev pub invariant-loop-thread : goal.invariant-loop-thread
invariant-loop-thread g l =
    (goal.iterator-loop-thread g).can_next l.thread-iterator
    × (goal.iterator-loop-thread g).is_finite l.thread-iterator
    × ((f : Ground) (calls : List Call) → All (λ t. (t.promise.forest.now ≡ f) × (t.promise.calls.now ≡ calls)) l.fn.threads.items
    → All (λ t. (t.promise.forest.now ≡ f) × (t.promise.calls.now ≡ calls)) l.thread-iterator.rest.items
    × ((done : List PassView) × (done ++ map (λ t. t.promise.pass.value) l.thread-iterator.rest.items ≡ map (λ t. t.promise.pass.value) l.fn.threads.items)
    × IfOk l.works (λ r. HaveWorked f calls done r.0.items r.1.items)))
