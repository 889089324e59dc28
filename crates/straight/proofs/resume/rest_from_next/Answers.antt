use Rattle.std.proofs.Common.{arith}
use Rattle.tables.specs.Traces.{shared_nodes}
use Rattle.straight.specs.Hands.{names}
use Rattle.straight.proofs.Advances.{weighs}
use Rattle.straight.proofs.StraightUpdate.{left_there, stands_there, stops}
use Rattle.straight.proofs.resume.rest_from_next.Goals as goal

pub finish-requires-clause-stands : goal.finish-requires-clause-stands
finish-requires-clause-stands g c = let r = c.requires.goes_on in (r.0, stands_there r.0 _ c.args.machine c.begin-turn.new.self c.args.found c.in-Ok.next c.begin-turn.result c.begin-turn.ensures.place c.begin-turn.ensures.asks (rw c.in-Ok.is at r.1))

pub returns-in-Ok : goal.returns-in-Ok
returns-in-Ok g c = record {
  table = c.finish.ensures.table;
  to = λ u x. c.finish.ensures.to u (stands_there u _ c.args.machine c.begin-turn.new.self c.args.found c.in-Ok.next c.begin-turn.result c.begin-turn.ensures.place c.begin-turn.ensures.asks (rw c.in-Ok.is at x));
  steps = (let w = left_there g.E.Edit.means c.args.machine c.begin-turn.new.self c.args.found c.in-Ok.next c.begin-turn.result (shared_nodes (names c.args.hand)) c.begin-turn.ensures.place c.begin-turn.ensures.asks in let s = c.finish.ensures.steps in rw c.in-Ok.is (omega (arith, w, s)));
}

pub finish-requires-in-Err-clause-stands : goal.finish-requires-in-Err-clause-stands
finish-requires-in-Err-clause-stands g c = let r = c.requires.goes_on in (r.0, stops r.0 _ c.args.machine c.args.found c.stop-turn.new.self c.in-Err.stop c.stop-turn.result c.stop-turn.ensures.same c.stop-turn.ensures.tries c.stop-turn.ensures.spends (λ h. c.stop-turn.ensures.turn r.0.call h) (rw c.in-Err.is at r.1))

pub returns-in-Err : goal.returns-in-Err
returns-in-Err g c = record {
  table = c.finish-in-Err.ensures.table;
  to = λ u x. c.finish-in-Err.ensures.to u (stops u _ c.args.machine c.args.found c.stop-turn.new.self c.in-Err.stop c.stop-turn.result c.stop-turn.ensures.same c.stop-turn.ensures.tries c.stop-turn.ensures.spends (λ h. c.stop-turn.ensures.turn u.call h) (rw c.in-Err.is at x));
  steps = (let w = weighs c.stop-turn.result _ _ (c.stop-turn.ensures.nearer (shared_nodes (names c.args.hand))) in let s = c.finish-in-Err.ensures.steps in rw c.in-Err.is (omega (arith, w, s)));
}
