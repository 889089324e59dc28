use Rattle.std.proofs.Common.{◌∙◌, arith}
use Rattle.straight.proofs.Advances.{weighs}
use Rattle.straight.proofs.steps.complete.Goals as goal

pub advance-turn-requires-clause-waits : goal.advance-turn-requires-clause-waits
advance-turn-requires-clause-waits g c = let r = c.requires.stands in (r.0, rw c.in-Ask.is at c.loop-turn.invariant.stands r.0 r.1)

pub loop-turn-preserved : goal.loop-turn-preserved
loop-turn-preserved g c = record {
  here = (c.advance-turn.ensures.table.0 ∙ c.loop-turn.invariant.here.0, c.advance-turn.ensures.table.1 ∙ c.loop-turn.invariant.here.1, c.advance-turn.ensures.table.2 ∙ c.loop-turn.invariant.here.2);
  stands = λ k x. c.advance-turn.ensures.stands k (rw c.in-Ask.is at c.loop-turn.invariant.stands k x);
  steps = (let w = weighs c.advance-turn.result _ _ c.advance-turn.ensures.nearer in let one = c.advance-turn.ensures.one in let old = rw c.in-Ask.is at c.loop-turn.invariant.steps in omega arith);
}

pub returns-in-Done-clause-ends : goal.returns-in-Done-clause-ends
returns-in-Done-clause-ends g c = λ k x. rw c.in-Done.is at c.loop-turn.invariant.stands k x
