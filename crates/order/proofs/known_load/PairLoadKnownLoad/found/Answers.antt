use Rattle.order.proofs.Nearer.{from_pair}
use Rattle.order.proofs.Turns.{load_taken}
use Rattle.order.proofs.known_load.PairLoadKnownLoad.found.Goals as goal

pub returns-clause-nearer : goal.returns-clause-nearer
returns-clause-nearer g c nodes fits = load_taken g.R.Read.means c.pair_on.new.self c.args.run.now nodes c.pair_on.result _ _ (from_pair c.args.self.now.place.slot (g.R.Read.means.behind c.args.run.now.read nodes)) (c.pair_on.ensures.nearer nodes)
