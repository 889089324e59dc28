use Rattle.std.proofs.Common.{inl, inr, ◌⊎◌, ◌≡◌, ◌≢◌, None}
use Rattle.template.specs.Common.{Snap, Snapshot}
use Rattle.player.proofs.Ends.{ends_llx}
use Rattle.player.proofs.Putting.{can_put, told_put, answered_put}
use Rattle.player.proofs.client.Client.after_llx.Goals.{in_default-via-in-Snapshot+in_default, in_default-via-in_default}
use Rattle.player.proofs.client.Client.after_llx.Goals as goal

pub returns-in-Snapshot-Some : goal.returns-in-Snapshot-Some
returns-in-Snapshot-Some c v m sound x =
    let y = answered_put v c.args.self.now m c.args.then c.in-Snapshot-Some.put c.args.llx c.in-Snapshot-Some.snap c.in-Snapshot-Some.is-1 c.in-Snapshot-Some.is-0 x in
    let kept = rw c.in-Snapshot-Some.is-0 at c.keep.ensures in
    told_put v c.args.self.now c.put.new.self c.keep.new.self m c.in-Snapshot-Some.put c.in-Snapshot-Some.snap c.put.result y
    (c.put.ensures v _ sound (can_put v c.args.self.now c.keep.new.self m c.in-Snapshot-Some.put c.in-Snapshot-Some.snap sound y kept))

pub returns-in_default : goal.returns-in_default
returns-in_default c v m sound x =
    rw c.answer.ensures
    (ends_llx v c.args.self.now c.keep.new.self m c.args.then c.args.llx sound x c.keep.ensures
    (elim c.in_default.branch as (λ _. (c.args.then ≡ None) ⊎ ((snap : Snap) → c.args.llx ≢ Snapshot snap)) [
      | in_default-via-in-Snapshot+in_default w ↦ inl w.in_default.is-1
      | in_default-via-in_default w ↦ inr w.in_default.not-Snapshot-0
    ]))
