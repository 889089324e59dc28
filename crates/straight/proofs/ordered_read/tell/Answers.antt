use Rattle.std.proofs.Common.{Some, arith}
use Rattle.straight.proofs.Advances.{few_taken, weighs}
use Rattle.straight.proofs.Hosts.{either_turn, told_on}
use Rattle.straight.proofs.ordered_read.tell.Goals as goal
use Rattle.straight.specs.Hands.{names}

pub complete-requires-clause-stands : goal.complete-requires-clause-stands
complete-requires-clause-stands g c = let b = c.requires.told in (b.0, told_on b.0 _ c.args.run.now c.next-turn.new.self (Some c.args.told) c.next-turn.result (either_turn c.next-turn.result c.next-turn.ensures.same) (λ h. c.next-turn.ensures.turn b.0.call h) b.1)

pub returns : goal.returns
returns g c = record {
  table = c.complete.ensures.table;
  to = λ r x. c.complete.ensures.ends r (told_on r _ c.args.run.now c.next-turn.new.self (Some c.args.told) c.next-turn.result (either_turn c.next-turn.result c.next-turn.ensures.same) (λ h. c.next-turn.ensures.turn r.call h) x);
  steps = (
      let b = c.requires.told in
      let n = weighs c.next-turn.result _ _ (c.next-turn.ensures.nearer _ (g.met.N.Machine.told c.args.run.now b.0.call _ (Some c.args.told) _ (b.0.runs _ b.1.sound) (b.0.tells c.args.run.now _ (Some c.args.told) b.1.so.0) (few_taken g.S.Shape.allows (names c.args.hand) b.0.call _ b.0.is_layout b.1.sound))) in
      let s = c.complete.ensures.steps in
      omega (arith, n, s));
}
