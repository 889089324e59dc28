use Rattle.std.proofs.Common.{◌≡◌, Option, Some, ⊎_elim, refl, sym, ◌∙◌, ap, subst}
use Rattle.histories.specs.Common.{Layout, History, log, last}
use Rattle.arena.proofs.Lemmas.{ends_self}
use Rattle.judge.specs.Histories.{seen_history}
use Rattle.record.specs.declared.record.Answer.{Answer}
use Rattle.record.specs.Snapshots.{snapshot_of}
use Rattle.audit.specs.declared.memory.Snapshot.{Snapshot}
use Rattle.audit.specs.Remembered.{IsSnapshotOf}
use Rattle.audit.proofs.steps.Steps.snapshot_by.Goals as goal

pub returns-in-Snapshot : goal.returns-in-Snapshot
returns-in-Snapshot c lay h x =
    let kept : Snapshot = record { steps = c.args.self.now.count; last = c.last.result } in
    let here : IsSnapshotOf lay h c.args.cell.0 (Some kept) (Some h) = (record { within = ends_self h; many = sym x.count }, c.last.ensures ∙ ap (λ (l : Layout). last (log l (seen_history c.args.self.now.judge)) c.args.cell.0) x.layout ∙ ap (λ (k : History). last (log lay k) c.args.cell.0) x.is_seen) in
    let told : (a : Answer) → c.args.answer.now ≡ a → snapshot_of a h ≡ Some h → IsSnapshotOf lay h c.args.cell.0 (Some kept) (snapshot_of c.args.answer.now h) = λ a e f. subst (λ (m : Option History). IsSnapshotOf lay h c.args.cell.0 (Some kept) m) (sym (ap (λ (k : Answer). snapshot_of k h) e ∙ f)) here in
    ⊎_elim (λ z. told _ z.2 refl) (λ z. told _ z.2 refl) c.in-Snapshot.is
