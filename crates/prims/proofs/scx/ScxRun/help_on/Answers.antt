use Rattle.std.proofs.Common.{sym, subst, arith}
use Rattle.histories.specs.Common.{NodeNo, ScxNo}
use Rattle.prims.specs.Scx.Known.{IsLost}
use Rattle.prims.proofs.ScxTurns.{done_at, lost_at}
use Rattle.prims.proofs.scx.ScxRun.help_on.Goals as goal

pub returns-in-Done-true-clause-turn : goal.returns-in-Done-true-clause-turn
returns-in-Done-true-clause-turn g c d h x = done_at d h c.args.self.now c.args.help x.run.lawful x.filled x.same c.in-Done-true.field-0 c.next.new.self (c.in-Done-true.ensures.turn d h x.run x.ready) c.in-Done-true.field-0-test c.next.ensures.same

pub returns-in-Done-false-clause-turn : goal.returns-in-Done-false-clause-turn
returns-in-Done-false-clause-turn g c d h x = subst (λ (p : NodeNo × ScxNo). IsLost d h c.args.self.now p.0.0 p.1.0) (sym c.blocked.ensures) (lost_at d h c.args.self.now c.args.help x.run.lawful x.filled x.same c.in-Done-false.field-0 c.next.new.self (c.in-Done-false.ensures.turn d h x.run x.ready) c.in-Done-false.field-0-test c.next.ensures.same)

pub returns-in-Ask-clause-nearer : goal.returns-in-Ask-clause-nearer
returns-in-Ask-clause-nearer g c = let i = c.in-Ask.ensures.nearer 0 tt in omega (arith, i)
