use Rattle.std.proofs.Common.{◌≡◌, ◌+◌, ◌≤◌, ◌++◌, map, length, vec_capacity}
use Rattle.std.specs.List.{All}
use Rattle.tables.specs.Passes.{IsOf}
use Rattle.runner.proofs.thread.start_all.Given as goal

abbrev pub invariant-loop-pass : goal.invariant-loop-pass
invariant-loop-pass g l =
    (goal.iterator-loop-pass g).can_next l.pass-iterator
    × (goal.iterator-loop-pass g).is_finite l.pass-iterator
    × All (IsOf l.forest) l.pass-iterator.rest.items
    × All (λ t. (t.promise.forest.now ≡ l.forest) × (t.promise.calls.now ≡ l.calls)) l.threads.items
    × (map (λ t. t.promise.pass.value) l.threads.items ++ l.pass-iterator.rest.items ≡ l.fn.passes.items)
    × (length l.threads.items + length l.pass-iterator.rest.items ≤ vec_capacity l.threads)
