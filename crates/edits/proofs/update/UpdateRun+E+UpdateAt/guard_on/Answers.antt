use Rattle.std.proofs.Common.{◌∙◌, ap, refl, subst, sym}
use Rattle.template.specs.Common.{WalkIsTold}
use Rattle.edits.specs.Known.{Guarded, IsUntouched, Walks}
use Rattle.edits.specs.Tries.{IsTry}
use Rattle.edits.specs.declared.update.UpdateRun.{UpdateRun}
use Rattle.histories.specs.Common.{begun_at, Done}
use Rattle.edits.proofs.Blaming.{guard_failed, guard_finalized}
use Rattle.edits.proofs.Nearer.{behind_root, below, guard_nearer, to_tries}
use Rattle.edits.proofs.Turns.{guard_asks, guard_kept, guard_lost, guard_told, guard_walks}
use Rattle.edits.proofs.update.UpdateRun+E+UpdateAt.guard_on.Goals as goal

pub returns-in-Ask-clause-nearer : goal.returns-in-Ask-clause-nearer
returns-in-Ask-clause-nearer g c nodes at fits = guard_nearer _ _ _ _ _ (rw c.in-Ask.is at c.next.ensures.nearer nodes tt)

pub returns-in-Done-Snapshot-clause-nearer : goal.returns-in-Done-Snapshot-clause-nearer
returns-in-Done-Snapshot-clause-nearer g c nodes at fits = below c.walk_on.result _ _ _ (rw c.guarded.ensures at (c.walk_on.ensures.nearer nodes fits)) (behind_root (g.E.Edit.means.guard c.args.self.now.edit) c.args.walk.at at _ _ _ _ _)

pub returns-in-Done-Finalized-clause-nearer : goal.returns-in-Done-Finalized-clause-nearer
returns-in-Done-Finalized-clause-nearer g c nodes at fits = below c.lost.result _ _ _ (c.lost.ensures.nearer nodes) (to_tries _ _)

pub returns-in-Done-Fail-clause-nearer : goal.returns-in-Done-Fail-clause-nearer
returns-in-Done-Fail-clause-nearer g c nodes at fits = below c.lost-in-Done-Fail.result _ _ _ (c.lost-in-Done-Fail.ensures.nearer nodes) (to_tries _ _)

pub returns-in-Ask-clause-turn : goal.returns-in-Ask-clause-turn
returns-in-Ask-clause-turn g c d b begin h run try first x ready own =
    guard_asks g.E.Edit.means c.args.self.now c.args.walk c.args.head c.args.llx c.next.new.self d b begin h c.next.result try first x c.next.ensures.same (c.next.ensures.turn (begun_at (begun_at d b) begin) h run ready) c.in-Ask.step c.in-Ask.is

pub returns-in-Done-Snapshot-clause-turn : goal.returns-in-Done-Snapshot-clause-turn
returns-in-Done-Snapshot-clause-turn g c d b begin h run try first x ready own =
    let w = c.next.ensures.turn (begun_at (begun_at d b) begin) h run ready in
    let m = c.args.self.now in
    let kept = guard_kept g.E.Edit.means m c.args.walk c.args.head c.args.llx c.next.new.self d b begin h c.next.result try first x c.next.ensures.same w c.in-Done-Snapshot.snap (c.in-Done-Snapshot.is ∙ ap (λ a. Done a) c.in-Done-Snapshot.field-0-is) own in
    let same = sym c.guarded.ensures in
    c.walk_on.ensures.turn d b h c.args.head refl run (subst (λ (n : UpdateRun _ _). IsTry d b h n.limit n.tries) same try) (subst (λ (n : UpdateRun _ _). IsUntouched d b n.share) same first)
    (subst (λ (n : UpdateRun _ _). Walks g.E.Edit.means n (begun_at d b) h c.args.walk.way c.args.walk.goal) same (guard_walks g.E.Edit.means m c.args.walk c.args.head c.args.llx c.next.new.self d b begin h c.next.result try first x c.next.ensures.same w _))
    (guard_told g.E.Edit.means m c.args.walk c.args.head c.args.llx c.next.new.self d b begin h c.next.result try first x c.next.ensures.same w own)
    (subst (λ (n : UpdateRun _ _). Guarded g.E.Edit.means n.edit (begun_at d b) h n.guard (λ k. WalkIsTold c.args.walk k h c.args.head)) same (rw (← c.in-Done-Snapshot.snap-is) at kept))

pub returns-in-Done-Finalized-clause-turn : goal.returns-in-Done-Finalized-clause-turn
returns-in-Done-Finalized-clause-turn g c d b begin h run try first x ready own =
    let w = c.next.ensures.turn (begun_at (begun_at d b) begin) h run ready in
    let m = c.args.self.now in
    let way = guard_finalized (begun_at d b) h x.run c.next.new.self begin x.now x.since c.in-Done-Finalized.node c.in-Done-Finalized.scx (ap (λ n. n.0) c.next.ensures.same ∙ x.is_two) x.quiet (rw (c.in-Done-Finalized.is ∙ ap (λ a. Done a) c.in-Done-Finalized.field-0-is) at w) in
    let t = guard_lost g.E.Edit.means m c.args.walk c.args.head c.args.llx c.next.new.self d b begin h c.next.result try first x c.next.ensures.same w c.in-Done-Finalized.node c.in-Done-Finalized.scx way in
    c.lost.ensures.turn d h run t.0 (rw (← c.in-Done-Finalized.node-is, ← c.in-Done-Finalized.scx-is) at t.1)

pub returns-in-Done-Fail-clause-turn : goal.returns-in-Done-Fail-clause-turn
returns-in-Done-Fail-clause-turn g c d b begin h run try first x ready own =
    let w = c.next.ensures.turn (begun_at (begun_at d b) begin) h run ready in
    let m = c.args.self.now in
    let way = guard_failed (begun_at d b) h x.run c.next.new.self begin x.now x.since c.in-Done-Fail.node c.in-Done-Fail.scx (rw (c.in-Done-Fail.is ∙ ap (λ a. Done a) c.in-Done-Fail.field-0-is) at w) in
    let t = guard_lost g.E.Edit.means m c.args.walk c.args.head c.args.llx c.next.new.self d b begin h c.next.result try first x c.next.ensures.same w c.in-Done-Fail.node c.in-Done-Fail.scx way in
    c.lost-in-Done-Fail.ensures.turn d h run t.0 (rw (← c.in-Done-Fail.node-is, ← c.in-Done-Fail.scx-is) at t.1)
