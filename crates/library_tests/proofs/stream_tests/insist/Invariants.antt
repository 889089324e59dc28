use Rattle.std.proofs.Common.{◌≡◌}
use Rattle.player.specs.Core.{passes_of}
use Rattle.library_tests.proofs.stream_tests.insist.Given as goal

abbrev pub invariant-loop : goal.invariant-loop
invariant-loop g l = passes_of l.stream.core ≡ passes_of l.fn.stream.core
