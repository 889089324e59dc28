-- The snapshots that clients keep, by the lines.
use Rattle.std.specs.Prelude.{ℕ, if◌then◌else◌, ◌==◌, List, [], ◌∷◌, Option, None}
use Rattle.histories.specs.Common.{Mode, History}
use Rattle.script.specs.declared.call.Call.{Call}
use Rattle.record.specs.declared.record.Line.{Line}
use Rattle.record.specs.declared.record.Line.TheVariants.{Step, Log, Reply as ReplyLine}
use Rattle.record.specs.Turns.{history}
use Rattle.record.specs.CommandRules.{linked_then}
use Rattle.record.specs.Commands.{next_command}

-- the moment of the snapshot that a client keeps of cell n, if it keeps one: the steps up to then
abbrev pub linked : List Call → Mode → List Line → ℕ → ℕ → Option History
linked calls mode [] c n = None
linked calls mode (Step row ∷ lines) c n = linked calls mode lines c n
linked calls mode (Log entry ∷ lines) c n = linked calls mode lines c n
linked calls mode (ReplyLine reply ∷ lines) c n =
    if reply.client.0 == c
    then linked_then (next_command calls lines c) reply.answer (history mode lines) n (linked calls mode lines c n)
    else linked calls mode lines c n
