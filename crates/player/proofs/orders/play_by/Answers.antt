use Rattle.std.proofs.Common.{◌≡◌, All, List, [], ap, refl, reverse, subst, sym, ◌∙◌}
use Rattle.std.proofs.lemmas.List.{reverse-reverse}
use Rattle.script.specs.Orders.{IsOrder}
use Rattle.record.specs.declared.record.Line.{Line}
use Rattle.record.specs.Schedules.{AreOrdered, IsRunOf}
use Rattle.record.specs.Turns.{clients}
use Rattle.player.specs.Followed.{HasFollowed}
use Rattle.player.specs.Player.{IsPlayed, PlayerView, ScriptView, script_view}
use Rattle.player.proofs.Followed.{run_of, so_of_it}
use Rattle.player.proofs.orders.play_by.Goals.{In_ok-follow}
use Rattle.player.proofs.orders.play_by.Goals as goal

pub follow-requires : goal.follow-requires
follow-requires c = rw c.as_slice.ensures.value (subst (λ (s : ScriptView). All (IsOrder s.layout.passes) c.args.schedule.now.orders.items) (sym c.in_ok-player.ensures.script) c.requires.orders)

-- the orders were followed from a new player on
followed : (c : In_ok-follow) → HasFollowed record { script = script_view c.args.script.now; lines = [] } (AreOrdered c.args.script.now.calls.items c.args.schedule.now.orders.items []) (λ q. c.follow.new.player ≡ q)
followed c =
    let new : c.in_ok-player.player ≡ record { script = script_view c.args.script.now; lines = [] } = rw (sym c.in_ok-player.ensures.script, sym c.in_ok-player.ensures.no_turns) refl in
    rw c.as_slice.ensures.value at (c.in_ok-follow.ensures.followed tt _ new)

pub returns-clause-script : goal.returns-clause-script
returns-clause-script c = c.record.ensures.script ∙ (so_of_it _ _ _ (followed (goal.at.returns-clause-script c).In_ok-follow)).0

pub returns-clause-run : goal.returns-clause-run
returns-clause-run c =
    let x = followed (goal.at.returns-clause-run c).In_ok-follow in
    let lines = c.follow.new.player.lines in
    let played : IsPlayed c.follow.new.player = rw c.record.ensures.lines at (c.record.ensures.lawful (reverse (clients lines)) (sym (reverse-reverse (clients lines)))) in
    subst (λ (l : List Line). IsRunOf c.args.script.now c.args.schedule.now l) (ap (λ (q : PlayerView). reverse q.lines) (sym x.stands) ∙ sym c.record.ensures.lines)
    (run_of c.args.script.now c.args.schedule.now _ x (subst IsPlayed x.stands played))
