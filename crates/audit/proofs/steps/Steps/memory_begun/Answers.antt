use Rattle.std.proofs.Common.{◌≡◌, ◌<◌, ℕ, Option, IfSome, refl, sym, ◌∙◌, subst}
use Rattle.histories.specs.Common.{Layout, History}
use Rattle.record.specs.Common.{linked, history}
use Rattle.record.proofs.Lemmas.{get_there}
use Rattle.judge.specs.Histories.{seen_history}
use Rattle.audit.specs.declared.memory.Memory.{Memory}
use Rattle.audit.specs.Remembered.{AreSnapshotsOf}
use Rattle.audit.proofs.Remembering.{begun_with, next_is}
use Rattle.audit.proofs.steps.Steps.memory_begun.Goals as goal

pub returns-clause-begun : goal.returns-clause-begun
returns-clause-begun c lay lines x client unbegun within =
    let there = get_there c.args.self.now.memories.items c.args.client.now.pass.0 within in
    let same : c.memory-memory.result ≡ there.0 = subst (λ (o : Option Memory). IfSome o (λ m. c.memory-memory.result ≡ m)) there.1 c.memory-memory.ensures in
    let inside : c.args.client.now.pass.0 < c.args.self.now.judge.layout.passes = subst (λ (l : Layout). c.args.client.now.pass.0 < l.passes) (sym x.steps.layout) (subst (λ (n : ℕ). c.args.client.now.pass.0 < n) x.steps.all_memories within) in
    let kept : ℕ → Option History = λ n. linked c.args.calls.now lay.mode lines c.args.client.now.pass.0 n in
    let snapshots : AreSnapshotsOf c.args.self.now.judge.layout (seen_history c.args.self.now.judge) c.memory-memory.result kept =
    subst (λ (l : Layout). AreSnapshotsOf l (seen_history c.args.self.now.judge) c.memory-memory.result kept) (sym x.steps.layout)
    (subst (λ (h : History). AreSnapshotsOf lay h c.memory-memory.result kept) (sym x.steps.is_seen)
    (subst (λ (m : Memory). AreSnapshotsOf lay (history lay.mode lines) m kept) (sym same) (x.memories c.args.client.now.pass.0 there.0 there.1).snapshots)) in
    begun_with lay c.args.calls.now lines c.args.client.now.pass.0 c.args.self.now _ x.steps (sym client.begun ∙ unbegun) refl (c.nodes_left.ensures inside) (c.scx_left.ensures inside) refl (λ cells e. c.same_of.ensures cells kept (c.command.ensures ∙ sym (next_is lay c.args.calls.now lines c.args.client.now client) ∙ e) snapshots)
