use Rattle.arena.specs.Machines.{begun_at}
use Rattle.std.proofs.Common.{◌<◌}
use Rattle.edits.specs.Readings.{reads_left}
use Rattle.edits.proofs.Nearer.{from_read, less_than}
use Rattle.edits.proofs.ReadWords.{goes_reading, reads_fewer}
use Rattle.edits.proofs.update.UpdateRun.read_on.Goals as goal

pub returns-clause-nearer : goal.returns-clause-nearer
returns-clause-nearer g c asked nodes next =
    let fewer : reads_left c.keep.new.self < reads_left c.args.self.now.read = rw c.keep.ensures (reads_fewer c.args.self.now.read c.args.told c.args.part next) in
    less_than _ _ _ (c.read_next.ensures.nearer asked nodes) (from_read _ _ _ _ fewer)

pub returns-clause-turn : goal.returns-clause-turn
returns-clause-turn g c d b h run try x told = c.read_next.ensures.turn d b h run try (rw c.keep.ensures (goes_reading g.E.Edit.means c.args.self.now (begun_at d b) h c.args.found.now c.args.node c.args.part c.args.told x told))
