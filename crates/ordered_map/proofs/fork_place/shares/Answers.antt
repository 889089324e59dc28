use Rattle.ordered_map.proofs.Bits.{sharing, one_before}
use Rattle.ordered_map.proofs.fork_place.shares.Goals as goal

pub returns : goal.returns
returns c level fork = rw (one_before c.args.fork level fork c.ranges.fork.fits) (sharing c.args.fork level c.args.key fork)
