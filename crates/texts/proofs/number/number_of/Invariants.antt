use Rattle.texts.proofs.Numbers.{SpellsFront}
use Rattle.texts.proofs.number.number_of.Given as goal

abbrev pub invariant-loop-byte : goal.invariant-loop-byte
invariant-loop-byte g l = SpellsFront l.fn.text l.more l.byte-index (g.N.Number.number l.number)
