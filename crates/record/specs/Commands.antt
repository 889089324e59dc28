-- What clients are to do.
use Rattle.std.specs.Prelude.{◌≡◌, ℕ, suc, if◌then◌else◌, ◌==◌, List, [], ◌∷◌, Option, Some, None, drop, slice_get}
use Rattle.script.specs.declared.call.Call.{Call}
use Rattle.script.specs.declared.command.Command.{Command}
use Rattle.record.specs.declared.record.Line.{Line}
use Rattle.record.specs.Turns.{answered}

-- what a client is to do: its commands, in the script's order
abbrev pub commands : List Call → ℕ → List Command
commands [] c = []
commands (call ∷ calls) c =
    if call.client.0 == c then call.command ∷ commands calls c
    else commands calls c

-- the client's next command: the first that is not answered
abbrev pub next_command : List Call → List Line → ℕ → Option Command
next_command calls lines c = slice_get (commands calls c) (answered lines c)

-- where the first of client c's commands that are still to be made
-- is among the calls; nowhere if there is none
abbrev pub IsNextCallAt : List Call → ℕ → List Command → Option ℕ → Type 0
IsNextCallAt calls c left None = left ≡ []
IsNextCallAt calls c left (Some at) = (call : Call) × (slice_get calls at ≡ Some call) × (call.client.0 ≡ c) × (left ≡ call.command ∷ commands (drop (suc at) calls) c)
