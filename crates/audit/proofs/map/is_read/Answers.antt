use Rattle.ordered_map.specs.Requests.{map_request}
use Rattle.audit.proofs.MapAnswers.{read_value}
use Rattle.audit.proofs.map.is_read.Goals as goal

pub returns-in-Some : goal.returns-in-Some
returns-in-Some c calls lines are falls less it = read_value calls lines c.args.reply.now c.in-Some.key (map_request c.args.request.now) (c.told_key.ensures c.in-Some.key c.in-Some.is) (c.is_read_of.ensures calls lines are it)
