use Rattle.std.specs.List.{All}
use Rattle.tables.specs.Passes.{IsOf}
use Rattle.dict_tests.proofs.sharing.threads.part.Given as goal

abbrev pub invariant-loop-pass : goal.invariant-loop-pass
invariant-loop-pass g l =
    (goal.iterator-loop-pass g).can_next l.pass-iterator ×
    (goal.iterator-loop-pass g).is_finite l.pass-iterator ×
    All (λ w. IsOf l.forest w.0) l.pass-iterator.rest.items ×
    All (IsOf l.forest) l.passes.items
