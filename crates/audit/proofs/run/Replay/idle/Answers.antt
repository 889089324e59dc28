use Rattle.std.proofs.Common.{ap}
use Rattle.arena.specs.declared.number.PassNo.{PassNo}
use Rattle.audit.specs.declared.steps.Steps.{Steps}
use Rattle.audit.specs.After.{layout_of, calls_of, lines_of}
use Rattle.audit.proofs.Fitting.{remembers_all, after_idle, idle_awaits}
use Rattle.audit.proofs.MapLines.{map_idle}
use Rattle.audit.proofs.Remembering.{idle_remembered}
use Rattle.audit.proofs.RunMemories.{begun_of}
use Rattle.audit.proofs.run.Replay.idle.Goals as goal

pub returns-clause-remembers : goal.returns-clause-remembers
returns-clause-remembers c =
    let run = c.args.self.now in
    remembers_all _ _
    (after_idle _ _ _ _ _ _ _ _ _ _ _ _ _ c.requires.after c.args.number c.args.pass c.in_ok-client.client c.turned.result _ _ _ (ap (λ (s : Steps). s.judge) c.begin.ensures.same) c.in_ok-settled.ensures c.in_ok-check_idle.ensures c.in_ok-client.ensures.here (idle_awaits c.args.self.now c.args.number c.args.pass c.in_ok-client.client c.next.result _ c.is_some-awaits.ensures c.next.ensures c.in_ok-client.ensures.pass) c.turned.ensures)
    (λ after. map_idle _ _ _ c.args.self.now.record.now.script.of_mode _ _ _ c.requires.map c.args.number c.args.pass after.in_order)
    (let client = c.in_ok-client.client in
    let own = ap (λ (p : PassNo). p.0) c.in_ok-client.ensures.pass in
    idle_remembered (layout_of run) (calls_of run) (lines_of run) c.begin.new.self c.args.number c.args.pass (begun_of (layout_of run) (calls_of run) c.as_slice.result.now (lines_of run) run.steps c.begin.new.self client c.args.pass.0 c.as_slice.ensures.value own c.begin.ensures.remembered c.requires.remembered c.in_ok-client.ensures.after))
