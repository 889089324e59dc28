use Rattle.ordered_map.proofs.Reading.{no_fork, seen_fork}
use Rattle.ordered_map.proofs.part.look_below.Goals as goal

pub returns-then-rank-part : goal.returns-then-rank-part
returns-then-rank-part c t i = no_fork c.args.words.now c.args.part c.args.level c.args.rank c.requires c.if-rank-part.true t i

pub returns : goal.returns
returns c = seen_fork c.args.words.now c.args.part _ _ c.args.level c.args.rank c.requires c.if-rank-part.false
    (λ j. record { node = c.get.ensures j; level = c.args.level; low = c.args.part.low; high = c.args.rank })
    (λ j. record { node = c.get-2.ensures j; level = c.args.level; low = c.args.rank; high = c.args.part.high })
