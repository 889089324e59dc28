use Rattle.std.proofs.Common.{sym, subst, Bool}
use Rattle.planting.specs.Groves.{IsPartedAt}
use Rattle.planting.proofs.parting.part.Goals as goal

pub returns-then-trie : goal.returns-then-trie
returns-then-trie c = subst (λ (t : Bool). IsPartedAt t c.args.pairs.now c.args.level c.by_bits.result.middle c.by_bits.result.key c.by_bits.result.level) (sym c.if-trie.true) (c.by_bits.ensures c.args.level)
