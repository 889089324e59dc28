use Rattle.arena.proofs.Openings.{planted}
use Rattle.arena.proofs.plain.PlainWords.plant.Goals as goal

pub returns-clause-opening : goal.returns-clause-opening
returns-clause-opening c = planted c.args.self.now c.open.new.self c.open-2.new.self c.open-3.new.self c.open-4.new.self c.open-5.new.self c.open.ensures c.open-2.ensures c.open-3.ensures c.open-4.ensures c.open-5.ensures c.requires
