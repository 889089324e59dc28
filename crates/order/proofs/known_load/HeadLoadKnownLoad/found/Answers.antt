use Rattle.order.proofs.Nearer.{from_head}
use Rattle.order.proofs.Turns.{load_taken}
use Rattle.order.proofs.known_load.HeadLoadKnownLoad.found.Goals as goal

pub returns-clause-nearer : goal.returns-clause-nearer
returns-clause-nearer g c nodes fits = load_taken g.R.Read.means c.head_on.new.self c.args.run.now nodes c.head_on.result _ _ (from_head c.args.self.now.above c.of.result.level nodes (g.R.Read.means.behind c.args.run.now.read nodes) (rw c.of.ensures fits.0) (rw c.of.ensures fits.1.0)) (c.head_on.ensures.nearer nodes (rw c.of.ensures fits.1))
