-- The rules of each command, and what follows by them.
use Rattle.std.specs.Prelude.{ℕ, Bool, List, Option, Some, None}
use Rattle.arena.specs.declared.limits.Mode.TheVariants.{Trie}
use Rattle.histories.specs.Common.{Mode, Layout, Kind, History, value, Entry as Entered}
use Rattle.script.specs.declared.call.Call.{Call}
use Rattle.script.specs.declared.command.Command.{Command}
use Rattle.script.specs.declared.command.Command.TheVariants.{Llx, Scx, Vlx, Set, Map}
use Rattle.ordered_map.specs.Requests.{map_request}
use Rattle.record.specs.declared.record.Line.{Line}
use Rattle.record.specs.declared.record.Finished.{Finished}
use Rattle.record.specs.declared.record.Answer.{Answer}
use Rattle.record.specs.Turns.{start}
use Rattle.record.specs.Rules.{Rules}
use Rattle.record.specs.Rules.Llx.{llx_rules}
use Rattle.record.specs.Rules.Map.{map_rules}
use Rattle.record.specs.Rules.Scx.{scx_rules}
use Rattle.record.specs.Rules.Set.{set_rules}
use Rattle.record.specs.Rules.Vlx.{vlx_rules}
use Rattle.record.specs.Shares.{HasTakenAtMost}

-- the one match from commands to their rules
abbrev pub rules : Command → Rules
rules (Llx cell) = llx_rules cell
rules (Scx update) = scx_rules update
rules (Vlx cells) = vlx_rules cells
rules (Set field value) = set_rules field value
rules (Map request) = map_rules (map_request request)

-- how many steps a call may make, by how many tries it may make and how many nodes are taken, by
-- any client; those of cells make no more if nodes are taken
abbrev pub command_steps : Command → ℕ → ℕ → ℕ
command_steps command = (rules command).most_steps

-- how many taken nodes count for that: two less than there may be levels, which in a trie are 67
-- whatever is taken
abbrev pub nodes_counted : Mode → ℕ → ℕ
nodes_counted Trie taken = 65
nodes_counted _ taken = taken

-- since its start the call of client c, which may make `tries` tries, has taken no more of the
-- client's share than it may
abbrev pub HasTakenFew : Layout → ℕ → ℕ → History → History → Command → Type 0
HasTakenFew lay tries c now start command = HasTakenAtMost lay c now start ((rules command).most_scx tries) (rules command).nodes_each

-- the kinds of step that a call may make
abbrev pub MayMake : Command → Kind → Type 0
MayMake command = (rules command).MayMake

-- the answers that a call may give in place of a first step
abbrev pub MayAnswerAtOnce : Command → Answer → Type 0
MayAnswerAtOnce command = (rules command).IsAtOnce

-- the answers that a call may give after a step
abbrev pub MayAnswerAfterStep : Command → Answer → Type 0
MayAnswerAfterStep command = (rules command).IsAfterStep

-- whether this answer says that an update of the call is in the log
abbrev pub enters : Command → Answer → Bool
enters command = (rules command).enters

-- the snapshot of cell n once a call is answered
abbrev pub linked_then : Option Command → Answer → History → ℕ → Option History → Option History
linked_then None answer now n old = old
linked_then (Some command) answer now n old = (rules command).linked_then answer now n old

-- the answer to a call of client c, which may make `tries` tries, is right: it is true of the steps
-- up to the call's start and of those up to now, with the snapshots that the client keeps
abbrev pub IsRight : Layout → ℕ → ℕ → History → History → (ℕ → Option History) → Command → Answer → Type 0
IsRight lay tries c now start linked command = (rules command).IsRight lay tries c now start linked

-- the call of the reply took place where the reply says, with the lines before the reply
abbrev pub IsPlaced : Layout → List Call → List Line → Finished → Command → Type 0
IsPlaced lay calls lines reply command = (rules command).IsPlaced lay calls lines reply

-- the entry is one that a call of client c with this command makes
abbrev pub IsEntryFor : Layout → ℕ → History → History → (ℕ → Option History) → Entered → Command → Type 0
IsEntryFor lay c before start linked e command = (rules command).IsEntryFor lay c before start linked e
