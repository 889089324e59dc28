use Rattle.std.proofs.Common.{◌≡◌, map, take}
use Rattle.capi.specs.Answers.{pair_of}
use Rattle.capi.proofs.answer.numbers_of.Given as goal

abbrev pub invariant-loop-pair : goal.invariant-loop-pair
invariant-loop-pair l = l.numbers.items ≡ map pair_of (take l.pair-index l.pairs)
