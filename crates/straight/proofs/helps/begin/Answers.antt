use Rattle.std.proofs.Common.{arith, rules}
use Rattle.arena.specs.declared.number.MemberIndex.TheVariants.{First}
use Rattle.arena.specs.declared.word.ScxWord.TheVariants.{Member}
use Rattle.help.specs.Help.Known.{settled_load}
use Rattle.help.specs.declared.state.HelpAt.TheVariants.{Plan as AtPlan, Member as AtMember}
use Rattle.straight.specs.StraightHelp.{Helper, LoadsPlan}
use Rattle.straight.specs.CallKinds.{calls}
use Rattle.straight.specs.Inside.{InnerWaits}
use Rattle.straight.specs.Hands.{names}
use Rattle.straight.proofs.StraightHelp.{to_member}
use Rattle.straight.proofs.helps.begin.Given.{Over}
use Rattle.straight.proofs.helps.begin.Goals.{After-read-word}
use Rattle.straight.proofs.helps.begin.Goals as goal

-- whichever call waited for the plan, it continues with the first node
at_member : (g : Over) (c : After-read-word g) (k : Helper g.T.Shape.allows (calls g.S.Shape g.M.Machine g.M.CallMachine.left_dealt (names c.args.hand) c.args.hand.number)) → LoadsPlan k c.args.seat.now.me.0.passes c.args.run.now → InnerWaits k c.read-word.new.seat.me.0.passes (record c.args.run.now { plan = record { 0 = c.read-word.result }; at = AtMember First }) (settled_load c.args.run.now.scx.0 (Member 0))
at_member g c k x = to_member k _ c.args.run.now c.read-word.result (c.read-word.ensures.told k (record c.args.run.now { at = AtPlan }) x)

pub read-word-requires-clause-waits : goal.read-word-requires-clause-waits
read-word-requires-clause-waits g c = let r = c.requires.waits in (r.0, record c.args.run.now { at = AtPlan }, r.1)

pub freeze_all-requires-clause-waits : goal.freeze_all-requires-clause-waits
freeze_all-requires-clause-waits g c = let r = c.requires.waits in (r.0, at_member g (goal.at.freeze_all-requires-clause-waits g c).After-read-word r.0 r.1)

pub returns-clause-leads : goal.returns-clause-leads
returns-clause-leads g c = record {
  table = search rules;
  to = λ k x. c.freeze_all.ensures.leads.to k (at_member g (goal.at.returns-clause-leads g c).After-read-word k x);
  steps = (let one = c.read-word.ensures.one in let more = c.freeze_all.ensures.leads.steps in omega (arith, one, more));
}
