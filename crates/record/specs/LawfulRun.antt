-- What a record says: a run that was made turn by turn, in which every step is lawful.
use Rattle.std.specs.Prelude.{◌≡◌, ℕ, List, [], ◌∷◌, None, reverse}
use Rattle.histories.specs.Common.{Mode, Records, Layout, Lawful, log}
use Rattle.arena.specs.Log.{AreOnce}
use Rattle.histories.specs.Laws.{SpellFields, StaysFinalized}
use Rattle.script.specs.declared.call.Call.{Call}
use Rattle.record.specs.declared.record.Line.{Line}
use Rattle.record.specs.declared.record.Line.TheVariants.{Step, Log, Reply as ReplyLine}
use Rattle.record.specs.Turns.{history, clients, entry_owed}
use Rattle.record.specs.Entries.{IsLog}
use Rattle.record.specs.Replies.{IsReplyOwed, IsReply}
use Rattle.record.specs.Steps.{IsTurn}
use Rattle.record.specs.SpelledMap.{AreSpelled}
use Rattle.record.specs.Legal.{IsLegal}

-- the newest line need not be followed by anything: neither an entry nor a reply
pub record OwesNothing (lay : Layout) (calls : List Call) (lines : List Line) : Type 0 where
  pub entry : entry_owed lay lines ≡ None
  pub reply : ¬ IsReplyOwed calls lines

-- the line fits those before it: a turn or a reply
-- where no other line is owed, or the entry that is
abbrev pub IsNext : Layout → ℕ → List Call → List Line → Line → Type 0
IsNext lay tries calls lines (Step row) = OwesNothing lay calls lines × IsTurn lay tries calls lines row
IsNext lay tries calls lines (Log entry) = IsLog lay calls lines entry
IsNext lay tries calls lines (ReplyLine reply) = (entry_owed lay lines ≡ None) × IsReply lay tries calls lines reply

-- each line fits those before it
unfoldable pub AreLines : Layout → ℕ → List Call → List Line → Type 0
AreLines lay tries calls [] = Unit {0}
AreLines lay tries calls (line ∷ lines) = AreLines lay tries calls lines × IsNext lay tries calls lines line

-- What is said of the run of a mode besides its lines: of a map's, in a tree or a trie, that the
-- words spell the map so far after every step, and that all replies are those of one map.
abbrev pub IsWhole : Mode → Layout → List Call → List Line → Type 0
IsWhole Records lay calls lines = Unit {0}
IsWhole _ lay calls lines = AreSpelled lay calls lines × IsLegal calls lines

-- The main statement: the lines, the first in front, are a lawful run of the calls, in which turn i
-- was made by the i-th of these clients, and each call may make `tries` tries. That the steps are a
-- lawful history is said of each step in `in_order`, and once more of all in `lawful`.
pub record IsLawfulRun (lay : Layout) (tries : ℕ) (calls : List Call) (passes : List ℕ) (lines : List Line) : Type 0 where
  pub turns : clients (reverse lines) ≡ reverse passes
  pub in_order : AreLines lay tries calls (reverse lines)
  -- after the last line nothing is owed
  pub settled : OwesNothing lay calls (reverse lines)
  pub lawful : Lawful lay (history lay.mode (reverse lines))
  -- after each step all fields are as the log so far says
  pub spell : SpellFields lay (history lay.mode (reverse lines))
  -- no SCX-record has two entries in the log
  pub once : AreOnce (log lay (history lay.mode (reverse lines)))
  -- once an SCX-record that finalizes a node is committed, no word of that node changes again
  pub finalized : StaysFinalized (history lay.mode (reverse lines))
  -- in a map's mode the words spell the map so far after every step, and all replies are its
  pub whole : IsWhole lay.mode lay calls (reverse lines)
