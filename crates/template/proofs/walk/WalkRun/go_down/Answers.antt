use Rattle.template.proofs.WalkTurns.{turn_down}
use Rattle.template.proofs.walk.WalkRun.go_down.Goals as goal

pub returns-clause-turn : goal.returns-clause-turn
returns-clause-turn c d h k e fork s n leaves = turn_down d h c.args.self.now c.load_settled.new.self c.load_settled.result c.args.above c.args.side c.args.child k leaves e fork s n c.load_settled.ensures
