use Rattle.player.proofs.Played.{stands_played}
use Rattle.player.proofs.player_core.Core.has_call.Goals as goal

pub returns-clause-lawful : goal.returns-clause-lawful
returns-clause-lawful c = stands_played c.args.self.now
