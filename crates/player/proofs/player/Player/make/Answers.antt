use Rattle.std.proofs.Common.{arith, ◌≡◌, ◌-◌, ◌^◌, ◌<◌, ◌∙◌, ◌++◌, List, ap, refl, reverse, subst, sym, Vec, Global}
use Rattle.std.proofs.lemmas.List.{length-reverse, reverse-append}
use Rattle.record.specs.declared.record.Line.{Line}
use Rattle.record.specs.Turns.{turns}
use Rattle.player.specs.BetweenTurns.{IsBetweenTurns}
use Rattle.player.specs.Core.{IsNextTurn, StandsAt, with_lines}
use Rattle.player.specs.Lines.{entry_line, reply_line}
use Rattle.player.specs.Player.{PlayerView, script_view}
use Rattle.player.specs.Plays.{TellsTurn}
use Rattle.player.specs.Playing.{player_view}
use Rattle.player.proofs.Played.{stands_played, turns_few}
use Rattle.player.proofs.player.Player.make.Goals.{After-as_slice, After-append, In_err-step_into}
use Rattle.player.proofs.player.Player.make.Goals as goal

-- the client's next turn
turn : (c : After-as_slice) → IsNextTurn (player_view c.self.inside) c.args.client.0 c.step_into.new.more.items
turn c = c.in_ok-step_into.ensures.turn (player_view c.self.inside) c.self.invariant

-- the lines with those of the turn
lines_are : (c : After-append) → reverse c.append.new.list.items ≡ (with_lines (player_view c.self.inside) c.step_into.new.more.items).lines
lines_are c =
    ap (λ (l : List Line). reverse l) (c.append.ensures ∙ ap (λ (l : List Line). l ++ c.step_into.new.more.items) c.reserve.ensures.items) ∙ reverse-append c.self.inside.lines.items c.step_into.new.more.items

stands : (c : After-append) → StandsAt c.step_into.new.self record { script = script_view c.step_into.new.self.script; lines = reverse c.append.new.list.items }
stands c = record {
  script = refl;
  between = subst (λ (l : List Line). IsBetweenTurns c.step_into.new.self l) (sym (lines_are c)) (c.in_ok-step_into.ensures.stands (player_view c.self.inside) c.self.invariant).between;
}

-- a list has fewer turns than can be counted
below : (list : Vec Line Global) → turns (reverse list.items) < 2 ^ 64 - 1
below list =
    let few = turns_few (reverse list.items) in
    let long = length-reverse list.items in
    omega (arith, few, long, list.ok.0, list.ok.1, list.small)

pub step_into-requires-clause-steps : goal.step_into-requires-clause-steps
step_into-requires-clause-steps c = rw c.self.invariant.between.counted.turned (below c.self.inside.lines)

pub row_of-row-requires : goal.row_of-row-requires
row_of-row-requires c =
    let t = turn (goal.at.row_of-row-requires c).After-as_slice in
    (t.row, entry_line t.entry (reply_line t.reply), c.as_slice.ensures.value ∙ t.lines)

pub invariant_of-self-2 : goal.invariant_of-self-2
invariant_of-self-2 c = stands (goal.at.invariant_of-self-2 c).After-append

-- the player with them
new_is : (c : After-append) → record { script = script_view c.step_into.new.self.script; lines = reverse c.append.new.list.items } ≡ with_lines (player_view c.self.inside) c.step_into.new.more.items
new_is c = rw (c.step_into.ensures.script, lines_are c) refl

pub returns-clause-turn : goal.returns-clause-turn
returns-clause-turn c =
    let here = (goal.at.returns-clause-turn c).After-append in
    let p = player_view c.self.inside in
    let t = turn (goal.at.returns-clause-turn c).After-as_slice in
    let played = stands_played c.step_into.new.self _ (c.in_ok-step_into.ensures.stands p c.self.invariant) in
    let told = (rw c.as_slice-2.ensures.value at c.of-turned.ensures) p c.args.client.0 t played in
    let row = c.row_of-row.ensures t.row (entry_line t.entry (reply_line t.reply)) (c.as_slice.ensures.value ∙ t.lines) in
    subst (λ (o : PlayerView). TellsTurn o (record { script = script_view c.step_into.new.self.script; lines = reverse c.append.new.list.items }) c.args.client.0 c.row_of-row.result c.of-turned.result) c.self.view_is (rw (new_is here, row) told)

pub returns-clause-few : goal.returns-clause-few
returns-clause-few c = subst (λ (p : PlayerView). turns p.lines < 2 ^ 64 - 1) c.self.view_is (below c.self.inside.lines)

pub returns-in_err-reserve-clause-few : goal.returns-in_err-reserve-clause-few
returns-in_err-reserve-clause-few c = subst (λ (p : PlayerView). turns p.lines < 2 ^ 64 - 1) c.self.view_is (below c.self.inside.lines)

pub returns-in_err-step_into-clause-few : goal.returns-in_err-step_into-clause-few
returns-in_err-step_into-clause-few c = subst (λ (p : PlayerView). turns p.lines < 2 ^ 64 - 1) c.self.view_is (below c.self.inside.lines)

pub returns-clause-lawful : goal.returns-clause-lawful
returns-clause-lawful c = stands_played c.step_into.new.self _ (stands (goal.at.returns-clause-lawful c).After-append)

pub returns-in_err-reserve-clause-lawful : goal.returns-in_err-reserve-clause-lawful
returns-in_err-reserve-clause-lawful c = rw c.reserve.ensures.items (stands_played c.self.inside.core _ c.self.invariant)

-- a core that was refused the turn is where it was
still : (c : In_err-step_into) → StandsAt c.step_into.new.self record { script = script_view c.step_into.new.self.script; lines = reverse c.self.inside.lines.items }
still c = record { script = refl; between = (c.in_err-step_into.ensures.refused (player_view c.self.inside) c.self.invariant).between }

pub invariant_of-self-in_err-step_into : goal.invariant_of-self-in_err-step_into
invariant_of-self-in_err-step_into c = rw c.reserve.ensures.items (still (goal.at.invariant_of-self-in_err-step_into c).In_err-step_into)

pub returns-in_err-step_into-clause-lawful : goal.returns-in_err-step_into-clause-lawful
returns-in_err-step_into-clause-lawful c = rw c.reserve.ensures.items (stands_played c.step_into.new.self _ (still (goal.at.returns-in_err-step_into-clause-lawful c).In_err-step_into))
