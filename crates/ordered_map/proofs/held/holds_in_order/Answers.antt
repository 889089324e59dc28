use Rattle.std.proofs.Common.{arith}
use Rattle.arena.specs.PlainWords.{word_at}
use Rattle.ordered_map.proofs.Holding.{few_counted, counted_few}
use Rattle.ordered_map.proofs.held.holds_in_order.Goals as goal

pub returns-then-settled-lt4 : goal.returns-then-settled-lt4
returns-then-settled-lt4 c = (
  λ e. (few_counted (word_at c.args.words.now) c.args.leaf.0 (omega (arith, c.if-settled-lt4.true, c.settled.ensures)), c.are_in_order.ensures.0 e),
  λ x. c.are_in_order.ensures.1 x.1,
)

pub returns-else-settled-lt4 : goal.returns-else-settled-lt4
returns-else-settled-lt4 c = (
  λ e. absurd (grind (arith, e, c.if-settled-lt4.false)),
  λ x. let few = counted_few (word_at c.args.words.now) c.args.leaf.0 x.0 in grind (arith, few, c.settled.ensures),
)
