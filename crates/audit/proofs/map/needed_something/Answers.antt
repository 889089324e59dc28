use Rattle.std.proofs.Common.{arith}
use Rattle.ordered_map.specs.Requests.{map_request}
use Rattle.audit.proofs.EachCall.{needed_any}
use Rattle.audit.proofs.map.needed_something.Goals as goal

pub returns-then-needed_three : goal.returns-then-needed_three
returns-then-needed_three c calls lines are it = needed_any calls lines c.args.reply.now (map_request c.args.request.now) 3 (omega arith) (c.needed_three.ensures calls lines are it)

pub returns-else-needed_three : goal.returns-else-needed_three
returns-else-needed_three c calls lines are it = needed_any calls lines c.args.reply.now (map_request c.args.request.now) 1 (omega arith) (c.needed_one.ensures calls lines are it)
