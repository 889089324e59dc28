use Rattle.std.proofs.Common.{◌≡◌, ℕ, set, Option, Some, IfSome, slice_get, sym, ◌∙◌, ap, subst}
use Rattle.arena.specs.declared.number.PassNo.{PassNo}
use Rattle.record.specs.declared.record.Answer.{Answer}
use Rattle.record.specs.CommandRules.{linked_then}
use Rattle.record.specs.Common.{next_command, linked, history}
use Rattle.audit.specs.declared.memory.Memory.{Memory}
use Rattle.audit.specs.Remembered.{AreSnapshotsOf}
use Rattle.audit.proofs.Remembering.{next_is, reply_to_none, reply_to_some}
use Rattle.audit.proofs.steps.Steps.keep_after.Goals as goal

pub returns-in-Some-clause-remembered : goal.returns-in-Some-clause-remembered
returns-in-Some-clause-remembered c lay lines reply x client same answered =
    let own : c.args.client.now.pass.0 ≡ reply.client.0 = ap (λ (p : PassNo). p.0) (sym same) in
    let is : next_command c.args.calls.now lines reply.client.0 ≡ Some c.in-Some.command = ap (λ (n : ℕ). next_command c.args.calls.now lines n) (sym own) ∙ next_is lay c.args.calls.now lines c.args.client.now client ∙ sym c.in-Some.ensures in
    let told : (before : Memory) → slice_get c.args.self.now.memories.items reply.client.0 ≡ Some before → c.memory.result ≡ before = λ before there. subst (λ (o : Option Memory). IfSome o (λ m. c.memory.result ≡ m)) (ap (λ (n : ℕ). slice_get c.args.self.now.memories.items n) own ∙ there) c.memory.ensures in
    reply_to_some lay c.args.calls.now lines reply c.args.self.now x c.put.new.self c.memory_after-memory.result c.in-Some.command c.put.ensures.same (c.put.ensures.memories ∙ ap (λ (n : ℕ). set c.args.self.now.memories.items n c.memory_after-memory.result) own) is
    (λ before there. c.memory_after-memory.ensures.same ∙ ap (λ (m : Memory). let k : Memory = record m { snapshots = c.memory_after-memory.result.snapshots } in k) (told before there))
    (λ before there kept. subst (λ (a : Answer). AreSnapshotsOf lay (history lay.mode lines) c.memory_after-memory.result (λ n. linked_then (Some c.in-Some.command) a (history lay.mode lines) n (linked c.args.calls.now lay.mode lines reply.client.0 n))) (sym answered) (c.memory_after-memory.ensures.snapshots lay (history lay.mode lines) (linked c.args.calls.now lay.mode lines reply.client.0) x.steps (subst (λ (m : Memory). AreSnapshotsOf lay (history lay.mode lines) m (linked c.args.calls.now lay.mode lines reply.client.0)) (sym (told before there)) kept)))

pub returns-in_default-clause-remembered : goal.returns-in_default-clause-remembered
returns-in_default-clause-remembered c lay lines reply x client same answered = reply_to_none lay c.args.calls.now lines reply c.args.self.now x (ap (λ (p : PassNo). next_command c.args.calls.now lines p.0) same ∙ next_is lay c.args.calls.now lines c.args.client.now client ∙ sym c.in_default.ensures)
