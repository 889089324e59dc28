use Rattle.std.proofs.Common.{◌≡◌, ℕ, None, sym, ap, subst, rules}
use Rattle.arena.specs.declared.number.PassNo.{PassNo}
use Rattle.audit.specs.declared.steps.Steps.{Steps}
use Rattle.audit.specs.After.{IsClientAfter, layout_of, calls_of, lines_of}
use Rattle.audit.proofs.RunMemories.{kept_behind}
use Rattle.audit.proofs.Fitting.{remembers_all, after_reply}
use Rattle.audit.proofs.MapLines.{map_reply}
use Rattle.audit.proofs.run.Replay.reply.Goals as goal

pub returns-clause-remembers : goal.returns-clause-remembers
returns-clause-remembers c =
    let run = c.args.self.now in
    let owed : c.args.self.now.owed ≡ None = search rules in
    remembers_all _ _
    (after_reply _ _ _ _ _ _ _ _ _ _ _ _ _ c.requires.after c.args.reply.now c.in_ok-client.client c.ended-after.result _ c.ended-after.result.at _ (ap (λ (s : Steps). s.judge) c.keep_after.ensures.same) owed c.in_ok-check_reply.ensures c.in_ok-client.ensures.here (λ left x. rw c.calls.ensures at (c.ended-after.ensures.place left (rw c.calls.ensures x))) c.ended-after.ensures.same)
    (λ after. map_reply _ _ _ c.args.self.now.record.now.script.of_mode _ _ _ c.requires.map c.args.reply.now after.in_order)
    (let client = c.in_ok-client.client in
    let own = ap (λ (p : PassNo). p.0) c.in_ok-client.ensures.pass in
    kept_behind (layout_of run) (calls_of run) c.as_slice.result.now (lines_of run) run.steps c.keep_after.new.self client c.args.reply.now c.as_slice.ensures.value (sym c.in_ok-client.ensures.pass) c.keep_after.ensures.remembered c.requires.remembered (subst (λ (n : ℕ). IsClientAfter (layout_of run) (calls_of run) (lines_of run) n client) (sym own) c.in_ok-client.ensures.after))
