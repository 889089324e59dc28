use Rattle.order.proofs.Nearer.{from_fork}
use Rattle.order.proofs.Turns.{load_taken}
use Rattle.order.proofs.known_load.KeyLoadKnownLoad.found.Goals as goal

pub returns-clause-nearer : goal.returns-clause-nearer
returns-clause-nearer g c nodes fits = load_taken g.R.Read.means c.key_on.new.self c.args.run.now nodes c.key_on.result _ _ (from_fork c.args.self.now.level nodes (g.R.Read.means.behind c.args.run.now.read nodes) fits) (c.key_on.ensures.nearer nodes fits)
