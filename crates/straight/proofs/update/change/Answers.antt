use Rattle.std.proofs.Common.{◌∙◌, ◌≡◌, arith, refl, subst, sym, rules}
use Rattle.arena.specs.declared.number.ScxNo.{ScxNo}
use Rattle.help.specs.declared.state.HelpAt.TheVariants.{Commit}
use Rattle.prims.specs.declared.scx.ScxAt.TheVariants.{Help}
use Rattle.template.specs.Common.{ScxRun, Update}
use Rattle.edits.specs.Next.{update_of}
use Rattle.edits.specs.declared.update.Next.TheVariants.{Change}
use Rattle.straight.specs.Inside.{InnerWaits}
use Rattle.straight.specs.StraightHelp.{LoadsPlan}
use Rattle.straight.specs.StraightScx.{all_frozen_load}
use Rattle.straight.specs.StraightUpdate.{Updater, UpdaterIsBlocked, UpdaterTries}
use Rattle.straight.specs.declared.scx.ScxTask.{ScxTask as ChangeOf}
use Rattle.straight.specs.CallKinds.{calls}
use Rattle.straight.specs.Hands.{names}
use Rattle.straight.proofs.Inside.{waits_within}
use Rattle.straight.proofs.StraightScx.{helper, to_help, help_waits, help_told}
use Rattle.straight.proofs.StraightUpdate.{changer, begins_change, changed, is_blocked, update_is}
use Rattle.straight.proofs.update.change.Given.{Over}
use Rattle.straight.proofs.update.change.Goals.{After-fill_all, Else-begin}
use Rattle.straight.proofs.update.change.Goals as goal

-- what its SCX is to do
abbrev change_of : (g : Over) (c : After-fill_all g) → ChangeOf
change_of g c = record { scx = c.args.scx; call = c.args.run.now.call; plan = c.args.run.now.work.plan; old = c.old.result; fresh = c.fresh.result }

-- whichever call tries, once all is filled its HELP waits to load the plan
helps : (g : Over) (c : After-fill_all g) (u : Updater (calls g.S.Shape g.M.Machine g.M.CallMachine.left_dealt (names c.args.hand) c.args.hand.number) g.E.Edit.means) → UpdaterTries u c.args.seat.now.me.0.passes c.args.run.now c.args.found.now (Change c.args.scx) → LoadsPlan (helper (changer u c.args.run.now c.args.found.now) c.as_slice-snaps.result.now (change_of g c)) c.fill_all.new.seat.me.0.passes c.new-help.result
helps g c u x = to_help (changer u c.args.run.now c.args.found.now) c.as_slice-snaps.result.now (change_of g c) _ c.new-help.result c.fill_all.result c.new-help.ensures.scx c.new-help.ensures.start
    (c.fill_all.ensures.to (changer u c.args.run.now c.args.found.now) (begins_change u _ c.args.run.now c.args.found.now c.args.scx c.as_slice-snaps.result.now c.args.run.now.work.plan c.old.result c.fresh.result c.as_slice-snaps.ensures.value refl c.old.ensures c.fresh.ensures x))

pub scx_start-start-requires-clause-scx : goal.scx_start-start-requires-clause-scx
scx_start-start-requires-clause-scx g c = let r = c.requires.tries in let u = r.0 in
    (waits_within (changer u c.args.run.now c.args.found.now) _ g.met.M.Machine.lawful _ _ (begins_change u _ c.args.run.now c.args.found.now c.args.scx c.as_slice-snaps.result.now c.args.run.now.work.plan c.old.result c.fresh.result c.as_slice-snaps.ensures.value refl c.old.ensures c.fresh.ensures r.1)).0

pub fill_all-requires-clause-waits : goal.fill_all-requires-clause-waits
fill_all-requires-clause-waits g c = let r = c.requires.tries in let u = r.0 in (changer u c.args.run.now c.args.found.now, begins_change u _ c.args.run.now c.args.found.now c.args.scx c.as_slice-snaps.result.now c.args.run.now.work.plan c.old.result c.fresh.result c.as_slice-snaps.ensures.value refl c.old.ensures c.fresh.ensures r.1)

pub begin-requires-clause-waits : goal.begin-requires-clause-waits
begin-requires-clause-waits g c = let r = c.requires.tries in let b = (goal.at.begin-requires-clause-waits g c).After-fill_all in (helper (changer r.0 c.args.run.now c.args.found.now) c.as_slice-snaps.result.now (change_of g b), helps g b r.0 r.1)

pub commit-requires-clause-waits : goal.commit-requires-clause-waits
commit-requires-clause-waits g c = let r = c.requires.tries in let b = (goal.at.commit-requires-clause-waits g c).After-fill_all in (helper (changer r.0 c.args.run.now c.args.found.now) c.as_slice-snaps.result.now (change_of g b), (c.begin.ensures.leads.to (helper (changer r.0 c.args.run.now c.args.found.now) c.as_slice-snaps.result.now (change_of g b)) (helps g b r.0 r.1)).frozen c.if-begin.true)

pub returns-then-begin : goal.returns-then-begin
returns-then-begin g c = record {
  table = search rules;
  to = λ u x. let b = (goal.at.returns-then-begin g c).After-fill_all in
      let k = changer u c.args.run.now c.args.found.now in
      let t = c.commit.ensures.to (helper k c.as_slice-snaps.result.now (change_of g b)) ((c.begin.ensures.leads.to (helper k c.as_slice-snaps.result.now (change_of g b)) (helps g b u x)).frozen c.if-begin.true) in
      rw c.at.ensures (changed u _ c.args.run.now c.args.found.now c.as_slice-snaps.result.now (change_of g b) c.begin.new.run t.0 g.met.E.Edit.laws.at_found g.met.E.Edit.laws.at_end (help_told k c.as_slice-snaps.result.now (change_of g b) _ (record c.begin.new.run { at = Commit }) t.0 t.1));
  steps = (let fills = c.fill_all.ensures.steps in let begins = c.begin.ensures.leads.steps in let commits = c.commit.ensures.steps in omega (arith, fills, begins, commits));
}

-- where a node could not be frozen it waits to look whether all were
blocked : (g : Over) (c : Else-begin g) (u : Updater (calls g.S.Shape g.M.Machine g.M.CallMachine.left_dealt (names c.args.hand) c.args.hand.number) g.E.Edit.means) → UpdaterTries u c.args.seat.now.me.0.passes c.args.run.now c.args.found.now (Change c.args.scx) → UpdaterIsBlocked u c.begin.new.seat.me.0.passes c.args.run.now c.args.found.now c.args.scx c.begin.new.run
blocked g c u x = is_blocked u _ c.args.run.now c.args.found.now c.args.scx c.begin.new.run (with_update parts) same waits
  where
    parts : Update
    parts = record { snaps = c.as_slice-snaps.result.now; plan = c.args.run.now.work.plan; old = c.old.result; fresh = c.fresh.result }

    is : parts ≡ update_of c.args.run.now
    is = sym (update_is (update_of c.args.run.now) parts.snaps parts.plan parts.old parts.fresh c.as_slice-snaps.ensures.value refl c.old.ensures c.fresh.ensures)

    with_update : Update → ScxRun
    with_update up = record { scx = c.args.scx; call = c.args.run.now.call; update = up; at = Help c.begin.new.run }

    same : with_update parts ≡ with_update (update_of c.args.run.now)
    same i = with_update (is i)

    waits : InnerWaits (changer u c.args.run.now c.args.found.now) c.begin.new.seat.me.0.passes (with_update parts) (all_frozen_load c.args.scx)
    waits = let b = (goal.at.begin-requires-clause-waits g c.before.before).After-fill_all in
        subst (λ (s : ScxNo). InnerWaits (changer u c.args.run.now c.args.found.now) c.begin.new.seat.me.0.passes (with_update parts) (all_frozen_load s)) (c.begin.ensures.same ∙ c.new-help.ensures.scx)
        (help_waits (changer u c.args.run.now c.args.found.now) c.as_slice-snaps.result.now (change_of g b) _ c.begin.new.run _ ((c.begin.ensures.leads.to (helper (changer u c.args.run.now c.args.found.now) c.as_slice-snaps.result.now (change_of g b)) (helps g b u x)).blocked c.if-begin.false))

pub from_block-requires-clause-blocked : goal.from_block-requires-clause-blocked
from_block-requires-clause-blocked g c = let r = c.requires.tries in (r.0, blocked g (goal.at.from_block-requires-clause-blocked g c).Else-begin r.0 r.1)

pub returns : goal.returns
returns g c = record {
  table = search rules;
  to = λ u x. c.from_block.ensures.to u (blocked g (goal.at.returns g c).Else-begin u x);
  steps = (let fills = c.fill_all.ensures.steps in let begins = c.begin.ensures.leads.steps in let left = c.begin.ensures.left c.if-begin.false in let rest = c.from_block.ensures.steps in omega (arith, fills, begins, left, rest));
}
