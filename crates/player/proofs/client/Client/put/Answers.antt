use Rattle.std.proofs.Common.{◌∙◌, ap, if◌then◌else◌, Option, None}
use Rattle.player.proofs.Snapshots.{has_snap}
use Rattle.player.specs.KeptSnaps.{kept_of}
use Rattle.player.specs.declared.client.Client.{Client}
use Rattle.prims.specs.declared.scx.ScxRun.{ScxRun}
use Rattle.arena.specs.Share.{Remaining}
use Rattle.player.proofs.Putting.{put_of, put_starts, put_runs}
use Rattle.player.proofs.client.Client.put.Goals as goal

pub returns : goal.returns
returns c v linked sound x =
    let run = c.new.ensures.scx in
    let update = ap (λ (r : ScxRun). r.update) run ∙ c.new-scx.ensures.update in
    let left = c.take.ensures.same ∙ ap (λ (s : Option Remaining). record c.args.self.now { share = s }) (c.in-Ok.ensures.left x.rests.holds.some) in
    let number = ap (λ (r : ScxRun). r.call) run ∙ c.new-scx.ensures.call ∙ ap (λ (k : Client). k.number) c.take.ensures.same in
    let u = c.new-update.ensures in
    let of = put_of c.new.result c.new-update.result _ c.args.snaps.now c.args.finalize.now c.args.field _ update number c.new.ensures.value u.snaps u.field.node u.field.side u.removed in
    put_runs v linked c.args.self.now c.take.new.self c.forget.new.self c.run.new.self c.new.result c.run.result left (λ x. (c.run.ensures.asks v sound x, c.run.ensures.begins v sound x))
    (put_starts v linked c.args.self.now c.args.snaps.now _ _ _ c.forget.new.self c.new.result sound x c.in-Ok.ensures.some.0 c.in-Ok.ensures.some.1 (λ n. c.forget.ensures n ∙ ap (λ (k : Client). if has_snap c.args.snaps.now n then None else kept_of k.kept n) c.take.ensures.same)
    (rw update u.over) (rw update u.snaps) (rw update (u.fresh ∙ c.in-Ok.ensures.records.0)) (rw (ap (λ (r : ScxRun). r.scx) run ∙ c.new-scx.ensures.scx) c.in-Ok.ensures.records.1) (ap (λ (r : ScxRun). r.at) run ∙ c.new-scx.ensures.start) c.new.ensures.start of c.new.ensures.bound)
