use Rattle.std.proofs.Common.{◌≡◌, suc, subst, OnErr, OnOk}
use Rattle.player.specs.Core.{IsNextTurn, StandsAt, with_lines}
use Rattle.player.specs.Player.{PlayerView}
use Rattle.player.specs.declared.interleaving.Interleaving.{Interleaving}
use Rattle.player.proofs.Played.{counts_one, makes_next, stands_behind, stands_played, stands_still, stays_between}
use Rattle.player.proofs.player_core.Core.step_into.Goals as goal

pub returns-clause-turn : goal.returns-clause-turn
returns-clause-turn c =
    subst (λ (old : Interleaving). OnOk c.step.result ((p : PlayerView) → StandsAt old p → IsNextTurn p c.args.client.0 c.step.new.more.items)) c.self.view_is
    (makes_next c.step.result c.self.inside.interleaving c.step.new.self c.args.client.0 c.step.new.more.items c.step.ensures.turn)

pub returns-clause-stands : goal.returns-clause-stands
returns-clause-stands c =
    subst (λ (old : Interleaving). OnOk c.step.result ((p : PlayerView) → StandsAt old p → StandsAt c.step.new.self (with_lines p c.step.new.more.items))) c.self.view_is
    (stands_behind c.step.result c.self.inside.interleaving c.step.new.self c.args.client.0 c.step.new.more.items c.step.ensures.turn)

pub returns-clause-refused : goal.returns-clause-refused
returns-clause-refused c =
    subst (λ (old : Interleaving). OnErr c.step.result ((p : PlayerView) → StandsAt old p → StandsAt c.step.new.self p)) c.self.view_is
    (stands_still c.step.result c.self.inside.interleaving c.step.new.self c.args.client.0 c.step.new.more.items c.step.ensures.script c.step.ensures.refused)

pub returns-clause-lawful : goal.returns-clause-lawful
returns-clause-lawful c = stands_played c.step.new.self

pub returns-clause-counted : goal.returns-clause-counted
returns-clause-counted c =
    let x = c.self.invariant in
    subst (λ (old : Interleaving). OnOk c.step.result (c.step.new.self.turns ≡ suc old.turns)) c.self.view_is
    (counts_one c.step.result c.self.inside.interleaving c.step.new.self c.args.client.0 c.step.new.more.items x.0 x.1 c.step.ensures.turn)

pub invariant_of-self : goal.invariant_of-self
invariant_of-self c =
    let x = c.self.invariant in
    stays_between c.step.result c.self.inside.interleaving c.step.new.self c.args.client.0 c.step.new.more.items x.0 x.1 c.step.ensures.turn c.step.ensures.refused
