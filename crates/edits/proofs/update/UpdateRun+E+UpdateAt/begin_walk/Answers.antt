use Rattle.std.proofs.Common.{◌∙◌}
use Rattle.edits.proofs.Turns.{begins_walk}
use Rattle.edits.proofs.update.UpdateRun+E+UpdateAt.begin_walk.Goals as goal

pub returns-clause-turn : goal.returns-clause-turn
returns-clause-turn g c d h run b try first = begins_walk g.E.Edit.means c.args.self.now c.by-walk.result d h b try first (c.by-walk.ensures.goal ∙ c.goal.ensures) (c.by-walk.ensures.way ∙ c.way.ensures) c.by-walk.ensures.root
