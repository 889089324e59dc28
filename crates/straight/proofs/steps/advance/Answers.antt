use Rattle.std.proofs.Common.{Some}
use Rattle.straight.specs.CallKinds.{calls}
use Rattle.straight.specs.Hands.{names}
use Rattle.straight.specs.Hosts.{Host, HostedIsTold, HostedWaits, inner_machine}
use Rattle.straight.proofs.Advances.{few_taken}
use Rattle.straight.proofs.Hosts.{either_turn, told_on}
use Rattle.straight.proofs.steps.advance.Given.{Over}
use Rattle.straight.proofs.steps.advance.Goals.{After-next}
use Rattle.straight.proofs.steps.advance.Goals as goal

pub step-found-requires-clause-waits : goal.step-found-requires-clause-waits
step-found-requires-clause-waits g c = let w = c.requires.waits in (w.0.call, w.0.first, w.0.with_run c.args.machine.now, (w.0.is_layout, w.0.is_number), w.1)

-- its step has found what it continues with
told : (g : Over) (c : After-next g) (k : Host (calls g.S.Shape g.M.Machine g.M.CallMachine.left_dealt (names c.args.hand) c.args.hand.number) (inner_machine g.T.Shape g.N.Machine)) → HostedWaits k c.args.seat.now.me.0.passes c.args.machine.now c.args.asked → HostedIsTold k c.step-found.new.seat.me.0.passes c.args.machine.now c.step-found.result
told g c k x = c.step-found.ensures.told k.call k.first (k.with_run c.args.machine.now) (k.is_layout, k.is_number) x

pub returns-clause-stands : goal.returns-clause-stands
returns-clause-stands g c = λ k x. told_on k _ c.args.machine.now c.next.new.self (Some c.step-found.result) c.next.result (either_turn c.next.result c.next.ensures.same) (λ h. c.next.ensures.turn k.call h) (told g (goal.at.returns-clause-stands g c).After-next k x)

pub returns-clause-nearer : goal.returns-clause-nearer
returns-clause-nearer g c =
    let w = c.requires.waits in
    let t = told g (goal.at.returns-clause-nearer g c).After-next w.0 w.1 in
    c.next.ensures.nearer _ (g.met.N.Machine.told c.args.machine.now w.0.call _ (Some c.step-found.result) _ (w.0.runs _ t.sound) (w.0.tells c.args.machine.now _ (Some c.step-found.result) t.so.0) (few_taken g.S.Shape.allows (names c.args.hand) w.0.call _ w.0.is_layout t.sound))
