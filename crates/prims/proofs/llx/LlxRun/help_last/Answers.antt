use Rattle.std.proofs.Common.{arith}
use Rattle.prims.proofs.LlxTurns.{turn_fail, over_state}
use Rattle.prims.proofs.llx.LlxRun.help_last.Goals as goal

pub returns-in-Done-clause-turn : goal.returns-in-Done-clause-turn
returns-in-Done-clause-turn g c d h x k e =
    turn_fail g.S.Shape.allows d h x.run c.args.self.now c.fail.result c.args.scx x.quiet k
    (rw (← e) (over_state d h _ c.next.new.self c.args.help (c.in-Done.ensures.turn d h x.run x.ready) c.next.ensures.same))
    c.fail.ensures

pub returns-in-Ask-clause-nearer : goal.returns-in-Ask-clause-nearer
returns-in-Ask-clause-nearer g c = let i = c.in-Ask.ensures.nearer 0 tt in omega (arith, i)
