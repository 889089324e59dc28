use Rattle.std.proofs.Common.{arith}
use Rattle.order.proofs.Nearby.{above_ends, above_takes, below_kept, below_passes}
use Rattle.order.proofs.near.NearRun.compare.Goals as goal

pub returns-then-key-self-clause-stands : goal.returns-then-key-self-clause-stands
returns-then-key-self-clause-stands c b rest passed x is = let y = below_kept c.args.self b c.args.slot c.args.key rest is x c.in-Left.is c.if-key-self.true in c.behind.ensures.stands b _ y.0 y.1

pub returns-else-key-self-clause-stands : goal.returns-else-key-self-clause-stands
returns-else-key-self-clause-stands c b rest passed x is = c.take.ensures.stands b rest passed (above_ends c.args.self b c.args.slot c.args.key rest is x c.in-Left.is (λ l. let not = c.if-key-self.false in omega (arith, l, not)))

pub returns-then-self-key-clause-stands : goal.returns-then-self-key-clause-stands
returns-then-self-key-clause-stands c b rest passed x is = let y = above_takes c.args.self b c.args.slot c.args.key rest is x c.in-Right.is c.if-self-key.true in c.take-then-self-key.ensures.stands b _ y.0 y.1

pub returns-else-self-key-clause-stands : goal.returns-else-self-key-clause-stands
returns-else-self-key-clause-stands c b rest passed x is = c.behind-else-self-key.ensures.stands b rest passed (below_passes c.args.self b c.args.slot c.args.key rest is x c.in-Right.is (λ l. let not = c.if-self-key.false in omega (arith, l, not)))
