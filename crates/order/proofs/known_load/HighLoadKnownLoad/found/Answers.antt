use Rattle.order.proofs.Nearer.{from_value}
use Rattle.order.proofs.Turns.{all_taken}
use Rattle.order.proofs.known_load.HighLoadKnownLoad.found.Goals as goal

pub returns-clause-nearer : goal.returns-clause-nearer
returns-clause-nearer g c nodes fits = all_taken g.R.Read.means c.value_on.new.self c.args.run.now nodes c.value_on.result _ _ (from_value c.args.self.now.place.slot (g.R.Read.means.behind c.args.run.now.read nodes)) (c.value_on.ensures.nearer nodes)
