use Rattle.order.proofs.Turning.{turn_counts, turn_kept}
use Rattle.order.proofs.run.last_turns.Goals as goal

pub returns-then-counts : goal.returns-then-counts
returns-then-counts c = rw c.with.ensures (turn_counts c.args.trie c.args.before.now c.args.found c.args.walk.now c.args.turns c.in-Child.level c.in-Child.side c.in-Child.is (c.counts.ensures.yes c.if-counts.true))

pub returns-else-counts : goal.returns-else-counts
returns-else-counts c = turn_kept c.args.trie c.args.before.now c.args.found c.args.walk.now c.args.turns c.in-Child.level c.in-Child.side c.in-Child.is (c.counts.ensures.no c.if-counts.false)
