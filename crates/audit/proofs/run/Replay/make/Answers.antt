use Rattle.std.proofs.Common.{refl, ◌∙◌, ap, length-set}
use Rattle.histories.specs.Common.{◌⊳◌, PassNo}
use Rattle.judge.specs.Histories.{seen_history}
use Rattle.audit.specs.declared.steps.Steps.{Steps}
use Rattle.audit.proofs.RunMemories.{begun_of}
use Rattle.audit.proofs.Fitting.{remembers_all, after_step, made_clients, client_within}
use Rattle.audit.proofs.MapLines.{map_step}
use Rattle.audit.specs.After.{layout_of, calls_of, lines_of}
use Rattle.audit.proofs.run.Replay.make.Goals as goal

pub returns-clause-remembers : goal.returns-clause-remembers
returns-clause-remembers c =
    let run = c.args.self.now in
    remembers_all _ _
    (after_step _ _ _ _ _ _ _ _ _ _ _ _ _ c.requires.remembers.after c.args.number c.args.row.now c.args.owed c.args.fits _ _ c.requires.next.settled c.requires.next.step c.requires.next.is_owed c.requires.next.wins (c.in_ok-make.ensures.layout ∙ ap (λ (s : Steps). s.judge.layout) c.begin.ensures.same) (c.in_ok-make.ensures.history ∙ ap (λ (s : Steps). c.args.row.now ⊳ seen_history s.judge) c.begin.ensures.same)
    (made_clients (layout_of run) (calls_of run) (lines_of run) c.args.number c.args.row.now c.args.owed run.clients.items _ _ c.in_ok-client.client c.stepped.result c.requires.next.is_owed c.requires.remembers.after.clients c.in_ok-client.ensures.here c.stepped.ensures refl (client_within (layout_of run) run.clients.items c.args.row.now.pass.0 c.stepped.result c.args.owed c.requires.remembers.after.all c.requires.next.client) c.note_win.ensures.none c.note_win.ensures.some)
    (c.note_win.ensures.same ∙ length-set _ _ _))
    (λ after. map_step _ _ _ run.record.now.script.of_mode _ _ _ c.requires.remembers.map c.args.number c.args.row.now (seen_history run.steps.judge) _ c.begun_by-begun.result c.requires.remembers.after.seen after.in_order c.requires.next.step.lawful c.requires.next.rising c.requires.next.edit c.begun_by-begun.ensures.begins c.begun_by-begun.ensures.edit c.note_begun.ensures.none c.note_begun.ensures.some)
    (let client = c.in_ok-client.client in
    let own = ap (λ (p : PassNo). p.0) c.in_ok-client.ensures.pass in
    c.in_ok-make.ensures.remembered (layout_of run) (calls_of run) (lines_of run) c.args.number (begun_of (layout_of run) (calls_of run) c.as_slice.result.now (lines_of run) run.steps c.begin.new.self client c.args.row.now.pass.0 c.as_slice.ensures.value own c.begin.ensures.remembered c.requires.remembers.remembered c.in_ok-client.ensures.after))
