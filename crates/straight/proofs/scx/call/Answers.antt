use Rattle.std.proofs.Common.{◌∙◌, arith, rules, subst}
use Rattle.straight.proofs.StraightScx.{helper, to_help, help_waits, help_told}
use Rattle.prims.specs.declared.scx.ScxAt.TheVariants.{Help}
use Rattle.help.specs.declared.state.HelpAt.TheVariants.{Commit}
use Rattle.straight.specs.StraightScx.{changing_at, all_frozen_load}
use Rattle.straight.specs.Inside.{InnerWaits}
use Rattle.straight.proofs.Inside.{waits_within}
use Rattle.straight.proofs.scx.call.Goals as goal

pub scx_start-start-requires-clause-scx : goal.scx_start-start-requires-clause-scx
scx_start-start-requires-clause-scx g c = let r = c.requires.waits in (waits_within r.0 _ g.met.M.Machine.lawful _ _ r.1).0

pub call-requires-clause-waits : goal.call-requires-clause-waits
call-requires-clause-waits g c = let r = c.requires.waits in let k = r.0 in (helper k (g.L.SnapList.list c.args.snaps.now) c.args.change, to_help k (g.L.SnapList.list c.args.snaps.now) c.args.change _ c.args.help.now c.fill_all.result c.requires.begins.0 c.requires.begins.1 (c.fill_all.ensures.to k r.1))

pub returns-clause-leads : goal.returns-clause-leads
returns-clause-leads g c = record {
  table = search rules;
  to = λ k x.
      let snaps = g.L.SnapList.list c.args.snaps.now in
      let behind = c.call.ensures.leads.to (helper k snaps c.args.change) (to_help k snaps c.args.change _ c.args.help.now c.fill_all.result c.requires.begins.0 c.requires.begins.1 (c.fill_all.ensures.to k x)) in
      record {
        commits = λ yes. let t = behind.commits yes in (t.0, help_told k snaps c.args.change _ (record c.call.new.run { at = Commit }) t.0 t.1);
        blocked = λ no. subst (λ s. InnerWaits k c.call.new.seat.me.0.passes (changing_at snaps c.args.change (Help c.call.new.run)) (all_frozen_load s)) (c.call.ensures.same ∙ c.requires.begins.0) (help_waits k snaps c.args.change _ c.call.new.run _ (behind.blocked no));
      };
  steps = (let fills = c.fill_all.ensures.steps in let calls = c.call.ensures.leads.steps in omega (arith, fills, calls));
}
