use Rattle.std.proofs.Common.{◌≡◌}
use Rattle.player.specs.Core.{passes_of}
use Rattle.library_tests.proofs.stream_tests.write.Given as goal

abbrev pub invariant-loop-client : goal.invariant-loop-client
invariant-loop-client g l = passes_of l.stream.core ≡ l.script.layout.passes
