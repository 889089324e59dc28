-- Turns: a step of a call, or a turn without one.
use Rattle.std.specs.Prelude.{◌≡◌, ℕ, ◌<◌, suc, ◌⊎◌, List, length, Some, None}
use Rattle.histories.specs.Common.{Layout, Row as StepRow, Fill, scx, IsLawful, taken_nodes}
use Rattle.arena.specs.declared.word.ScxWord.TheVariants.{Call as CallWord}
use Rattle.script.specs.declared.call.Call.{Call}
use Rattle.script.specs.declared.command.Command.{Command}
use Rattle.record.specs.declared.record.Line.{Line}
use Rattle.record.specs.declared.record.TurnRow.TheVariants.{Step as Made, Idle}
use Rattle.record.specs.declared.record.TurnRow.{TurnRow}
use Rattle.record.specs.Turns.{history, turns, answered, begin, steps}
use Rattle.record.specs.CommandRules.{command_steps, nodes_counted, MayMake}
use Rattle.record.specs.Commands.{next_command}

-- a row that fills the word `call` of an SCX-record stores there the number of its own call
abbrev pub SaysItsCall : StepRow → Type 0
SaysItsCall row = (s : ℕ) → row.kind ≡ Fill → row.word ≡ scx s CallWord → row.after ≡ row.call

-- a turn that makes a lawful step, in the client's next call, which may make one more and of this
-- kind; a call may make `tries` tries
pub record IsStep (lay : Layout) (tries : ℕ) (calls : List Call) (lines : List Line) (number : ℕ) (row : StepRow) : Type 0 where
  pub in_turn : number ≡ suc (turns lines)
  pub lawful : IsLawful lay (history lay.mode lines) row
  pub call : row.call ≡ answered lines row.pass.0
  pub command : Command
  pub is : next_command calls lines row.pass.0 ≡ Some command
  pub few : steps lines row.pass.0 < command_steps command tries (nodes_counted lay.mode (length (taken_nodes (history lay.mode lines))))
  pub may : MayMake command row.kind
  pub says : SaysItsCall row

-- a turn without a step: of a client with no call left, or the whole of a call that has not begun
pub record IsIdleTurn (lay : Layout) (calls : List Call) (lines : List Line) (number c : ℕ) : Type 0 where
  pub is_pass : c < lay.passes
  pub in_turn : number ≡ suc (turns lines)
  pub idle : (next_command calls lines c ≡ None) ⊎ (begin lines c ≡ None)

-- a turn that fits the lines before it: with a step, or idle
abbrev pub IsTurn : Layout → ℕ → List Call → List Line → TurnRow → Type 0
IsTurn lay tries calls lines (Made number row) = IsStep lay tries calls lines number row
IsTurn lay tries calls lines (Idle number client) = IsIdleTurn lay calls lines number client.0
