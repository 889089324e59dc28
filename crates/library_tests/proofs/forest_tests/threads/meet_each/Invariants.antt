use Rattle.std.specs.List.{All}
use Rattle.tables.specs.Passes.{IsOf}
use Rattle.library_tests.proofs.forest_tests.threads.meet_each.Given as goal

abbrev pub invariant-loop-pass : goal.invariant-loop-pass
invariant-loop-pass l =
    (goal.iterator-loop-pass).can_next l.pass-iterator ×
    (goal.iterator-loop-pass).is_finite l.pass-iterator ×
    IsOf l.forest l.one ×
    All (IsOf l.forest) l.pass-iterator.rest.items ×
    All (IsOf l.forest) l.met.items
