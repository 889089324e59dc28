use Rattle.std.proofs.Common.{◌≡◌, ℕ, ◌+◌, ◌*◌, true, sym, ◌∙◌, subst}
use Rattle.arena.specs.Machines.{begun_at}
use Rattle.histories.specs.Common.{Turn, Ask}
use Rattle.template.specs.Walk.Steps.{steps_left}
use Rattle.template.specs.declared.walk.WalkAt.TheVariants.{Root}
use Rattle.template.specs.declared.walk.WalkRun.{WalkRun}
use Rattle.edits.specs.declared.update.UpdateAt.{UpdateAt}
use Rattle.edits.specs.declared.update.UpdateAt.TheVariants.{Guard}
use Rattle.edits.specs.declared.update.Updated.{Updated}
use Rattle.edits.specs.declared.update.UpdateRun.{UpdateRun}
use Rattle.edits.specs.Edits.{EditMeaning}
use Rattle.edits.specs.Next.{guard_begun, guard_step, standing}
use Rattle.edits.specs.Steps.{IsNearer, looks_from, most_works, try_left}
use Rattle.edits.proofs.Nearer.{below, begins_here, to_guard_from, walk_from}
use Rattle.edits.proofs.Stepping.{past_guard}
use Rattle.edits.proofs.Turns.{guard_begins}
use Rattle.edits.proofs.update.UpdateRun+E+UpdateAt.walked.Goals as goal

pub returns-then-begins_guard-clause-turn : goal.returns-then-begins_guard-clause-turn
returns-then-begins_guard-clause-turn g c d b h v got run try first x told guarded =
    let m = c.args.self.now in
    let here = (begins_here (g.E.Edit.means.guard m.edit) c.args.walk.at).0 (sym c.begins_guard.ensures ∙ c.if-begins_guard.true) in
    rw (c.begin_guard.ensures.place, c.begin_guard.ensures.asks, c.unwrap_or.ensures, got) (guard_begins g.E.Edit.means m c.args.walk d b h v try first x told here.0 here.1)

pub returns-else-begins_guard-clause-turn : goal.returns-else-begins_guard-clause-turn
returns-else-begins_guard-clause-turn g c d b h v got run try first x told guarded =
    let m = c.args.self.now in
    let none = (begins_here (g.E.Edit.means.guard m.edit) c.args.walk.at).1 (sym c.begins_guard.ensures ∙ c.if-begins_guard.false) in
    c.walk_on.ensures.turn d b h v got run try first x told (past_guard g.E.Edit.means m d h (begun_at d b) c.args.walk v none told guarded)

-- what is left while the walk waits for its guard
abbrev left_before : {E : Type 0} → EditMeaning E → UpdateRun E UpdateAt → WalkRun → ℕ → ℕ
left_before e m walk nodes = m.tries * try_left e m.edit nodes + (steps_left walk nodes + (64 * looks_from (e.guard m.edit) walk.at (e.most_looks m.edit) + most_works e m.edit + 39))

to_guard : {E : Type 0} (e : EditMeaning E) (m : UpdateRun E UpdateAt) (walk : WalkRun) (head nodes : ℕ) → walk.at ≡ Root → e.guard m.edit ≡ true → IsNearer e (standing m (Guard walk head guard_begun)) nodes (Ask guard_step) (left_before e m walk nodes)
to_guard e m walk head nodes is guard = to_guard_from (e.guard m.edit) walk.at is guard (m.tries * try_left e m.edit nodes) (steps_left walk nodes) (e.most_looks m.edit) (most_works e m.edit)

pub returns-then-begins_guard-clause-nearer : goal.returns-then-begins_guard-clause-nearer
returns-then-begins_guard-clause-nearer g c nodes fits =
    let m = c.args.self.now in
    let here = (begins_here (g.E.Edit.means.guard m.edit) c.args.walk.at).0 (sym c.begins_guard.ensures ∙ c.if-begins_guard.true) in
    subst (λ n. IsNearer g.E.Edit.means n nodes c.begin_guard.result (left_before g.E.Edit.means m c.args.walk nodes)) (sym c.begin_guard.ensures.place)
    (subst (λ (t : Turn Updated). IsNearer g.E.Edit.means (standing m (Guard c.args.walk c.unwrap_or.result guard_begun)) nodes t (left_before g.E.Edit.means m c.args.walk nodes)) (sym c.begin_guard.ensures.asks)
    (to_guard g.E.Edit.means m c.args.walk c.unwrap_or.result nodes here.0 here.1))

pub returns-else-begins_guard-clause-nearer : goal.returns-else-begins_guard-clause-nearer
returns-else-begins_guard-clause-nearer g c nodes fits = below c.walk_on.result _ _ _ (c.walk_on.ensures.nearer nodes fits) (walk_from (g.E.Edit.means.guard c.args.self.now.edit) c.args.walk.at _ _ _ _)
