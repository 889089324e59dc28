-- How far a core is, and what a turn of it adds.
use Rattle.std.specs.Prelude.{◌≡◌, ℕ, List, ◌∷◌, ◌++◌, reverse, Option}
use Rattle.record.specs.declared.record.Line.{Line}
use Rattle.record.specs.declared.record.TurnRow.{TurnRow}
use Rattle.record.specs.declared.record.Entry.{Entry}
use Rattle.record.specs.declared.record.Finished.{Finished}
use Rattle.record.specs.Turns.{clients}
use Rattle.player.specs.BetweenTurns.{IsBetweenTurns}
use Rattle.player.specs.Lines.{turn_lines}
use Rattle.player.specs.Player.{PlayerView, script_view}
use Rattle.player.specs.declared.interleaving.Interleaving.{Interleaving}

-- how many clients it has
abbrev pub passes_of : Interleaving → ℕ
passes_of core = core.script.layout.passes

-- how many turns it has made
abbrev pub turns_made : Interleaving → ℕ
turns_made core = core.turns

-- These lines of a run of this script, the newest in front, have led to the core: all that it
-- keeps is as they have left it. It keeps none of them; a caller may.
pub record StandsAt (core : Interleaving) (p : PlayerView) : Type 0 where
  pub script : script_view core.script ≡ p.script
  pub between : IsBetweenTurns core p.lines

-- what is so far, with the lines of one turn more, in the order in which they were made
abbrev pub with_lines : PlayerView → List Line → PlayerView
with_lines p more = record { script = p.script; lines = reverse more ++ p.lines }

-- these lines, the first in front, are one turn of client i after what is so far: its row, the
-- entry of the log that it has made, and the reply that it has ended with
pub record IsNextTurn (p : PlayerView) (i : ℕ) (more : List Line) : Type 0 where
  pub row : TurnRow
  pub entry : Option Entry
  pub reply : Option Finished
  pub lines : more ≡ turn_lines row entry reply
  pub turns : clients (with_lines p more).lines ≡ i ∷ clients p.lines
