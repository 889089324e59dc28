use Rattle.std.specs.List.{All}
use Rattle.tables.specs.Passes.{IsOf}
use Rattle.library_tests.proofs.forest_tests.threads.part.Given as goal

abbrev pub invariant-loop-pass : goal.invariant-loop-pass
invariant-loop-pass l =
    (goal.iterator-loop-pass).can_next l.pass-iterator ×
    (goal.iterator-loop-pass).is_finite l.pass-iterator ×
    All (λ w. IsOf l.forest w.0) l.pass-iterator.rest.items ×
    All (IsOf l.forest) l.passes.items
