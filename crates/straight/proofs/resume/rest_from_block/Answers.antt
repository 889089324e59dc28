use Rattle.std.proofs.Common.{arith}
use Rattle.tables.specs.Traces.{shared_nodes}
use Rattle.straight.specs.Hands.{names}
use Rattle.straight.proofs.StraightUpdate.{blocks_there, left_blocked}
use Rattle.straight.proofs.resume.rest_from_block.Goals as goal

pub finish-requires-clause-stands : goal.finish-requires-clause-stands
finish-requires-clause-stands g c = let r = c.requires.blocked in (r.0, blocks_there r.0 _ c.args.machine c.block-turn.new.self c.args.found c.args.scx c.args.help c.block-turn.result c.block-turn.ensures.place c.block-turn.ensures.asks r.1)

pub returns : goal.returns
returns g c = record {
  table = c.finish.ensures.table;
  to = λ u x. c.finish.ensures.to u (blocks_there u _ c.args.machine c.block-turn.new.self c.args.found c.args.scx c.args.help c.block-turn.result c.block-turn.ensures.place c.block-turn.ensures.asks x);
  steps = (let w = left_blocked g.E.Edit.means c.args.machine c.block-turn.new.self c.args.found c.args.scx c.args.help c.block-turn.result (shared_nodes (names c.args.hand)) c.block-turn.ensures.place c.block-turn.ensures.asks in let s = c.finish.ensures.steps in omega (arith, w, s));
}
