use Rattle.std.proofs.Common.{◌∙◌}
use Rattle.order.proofs.Turns.{answers_all, begins_root, begins_walk, root_nearer, walk_nearer}
use Rattle.order.proofs.run.ReadRun.begin.Goals as goal

pub returns-in-Walk-clause-turn : goal.returns-in-Walk-clause-turn
returns-in-Walk-clause-turn g c d begin h try goes = begins_walk g.R.Read.means c.start.new.self c.args.self.now c.load.new.self d begin h c.load.result c.start.ensures.same c.start.ensures.tries c.start.ensures.empty try goes c.by-walk.result c.in-Walk.key c.in-Walk.side c.by-walk.ensures.goal (c.by-walk.ensures.way ∙ c.leaf_way.ensures) c.by-walk.ensures.root (rw c.in-Walk.is at c.start.ensures.begins) (rw c.none-turns.ensures at c.load.ensures.stands) c.load.ensures.asked

pub returns-in-Root-clause-turn : goal.returns-in-Root-clause-turn
returns-in-Root-clause-turn g c d begin h try goes = begins_root g.R.Read.means c.start.new.self c.args.self.now c.load-in-Root.new.self d begin h c.load-in-Root.result c.start.ensures.same c.start.ensures.tries c.start.ensures.empty try goes (rw c.in-Root.is at c.start.ensures.begins) c.load-in-Root.ensures.stands c.load-in-Root.ensures.asked

pub returns-in-Answer-clause-turn : goal.returns-in-Answer-clause-turn
returns-in-Answer-clause-turn g c d begin h try goes = answers_all g.R.Read.means c.start.new.self c.args.self.now d begin h c.start.ensures.same try goes c.in-Answer.answer (rw c.in-Answer.is at c.start.ensures.begins)

pub returns-in-Walk-clause-begins : goal.returns-in-Walk-clause-begins
returns-in-Walk-clause-begins g c asks = rw c.load.ensures.asked tt

pub returns-in-Root-clause-begins : goal.returns-in-Root-clause-begins
returns-in-Root-clause-begins g c asks = rw c.load-in-Root.ensures.asked tt

pub returns-in-Answer-clause-begins : goal.returns-in-Answer-clause-begins
returns-in-Answer-clause-begins g c asks = let x = rw c.in-Answer.is at c.start.ensures.begins in x.0 (rw c.start.ensures.same.0 asks)

pub returns-in-Walk-clause-nearer : goal.returns-in-Walk-clause-nearer
returns-in-Walk-clause-nearer g c nodes = walk_nearer g.R.Read.means c.start.new.self c.args.self.now c.load.new.self nodes c.load.result _ c.start.ensures.same c.start.ensures.tries c.start.ensures.empty c.load.ensures.asked c.by-walk.result c.in-Walk.side _ c.in-Walk.key c.load.ensures.stands (rw c.in-Walk.is at c.start.ensures.nearer nodes)

pub returns-in-Root-clause-nearer : goal.returns-in-Root-clause-nearer
returns-in-Root-clause-nearer g c nodes = root_nearer g.R.Read.means c.start.new.self c.args.self.now c.load-in-Root.new.self nodes c.load-in-Root.result _ c.start.ensures.same c.start.ensures.tries c.start.ensures.empty c.load-in-Root.ensures.asked c.load-in-Root.ensures.stands (rw c.in-Root.is at c.start.ensures.nearer nodes)
