-- The one history that contains all calls of a run.
use Rattle.std.specs.Prelude.{◌<◌, ◌≡◌, ℕ, List, [], ◌∷◌, Option, Some, None}
use Rattle.histories.specs.Common.{Layout, Row, History, Start, ◌⊳◌, value, Extends, Entry, log}
use Rattle.record.specs.Common.{Pair, MapCall, MapEdit, MapReply, after, reply, edit_of, Makes, Spells, Reply}
use Rattle.dict.specs.Calls.{AsksForPairs}
use Rattle.template.specs.Common.{most_nodes, told_of}
use Rattle.edits.specs.Tries.{HasOnlyLooked}
use Rattle.dict.specs.Says.{HasMadeRow}
use Rattle.tables.specs.Passes.{Ground, PassView, run_of, done_of, taken_of}
use Rattle.runner.specs.Calls.{HasCalledNumbers}

-- The history is the log of the run, and each moment of the run has a map, its version, which the
-- words spell there. It is empty at the start, and a row without an entry leaves it as it is. What
-- an entry makes of it is said of the call that has the entry.
pub record AreVersions (lay : Layout) (run : History) (versions : History → List Pair) : Type 0 where
  pub spelled : (moment : History) → Extends run moment → Spells lay (value moment) (versions moment)
  pub opens : versions (Start lay.mode) ≡ []
  pub stays : (row : Row) (before : History) → Extends run (row ⊳ before) → log lay (row ⊳ before) ≡ log lay before → versions (row ⊳ before) ≡ versions before

-- A changing call has exactly one entry, after all that its pass knew as it began. The entry is of
-- this pass and call. The version just before it replies what the call answers, and the one just
-- after it is what the call leaves of that.
pub record IsEnteredCall (lay : Layout) (versions : History → List Pair) (old new : PassView) (call : MapCall) (told : MapReply) (edit : MapEdit) : Type 0 where
  -- the row that has put it there, which may be another pass's
  pub row : Row
  pub before : History
  pub within : Extends (run_of new) (row ⊳ before)
  pub since : Extends before (run_of old)
  -- it is after the call's first own row
  pub own : HasMadeRow old.number (run_of old) before
  pub entry : Entry
  pub logged : log lay (row ⊳ before) ≡ entry ∷ log lay before
  -- it is the pass's only one between the call's start and its end
  pub done : done_of new ≡ entry ∷ done_of old
  pub of_pass : entry.owner ≡ old.number
  pub of_call : entry.call ≡ taken_of old
  -- its SCX-record may be said to make the edit that the call has made
  pub makes : Makes lay (run_of new) entry.scx edit
  pub gives : reply call (versions before) ≡ told
  pub leaves : versions (row ⊳ before) ≡ after call (versions before)

-- A reading call has no entry; its reply is that of the version at a moment from its first own row
-- to its end. A range that takes no pair makes no row, and replies what every map does. A call that
-- may take nodes has filled nothing in its newest try.
pub record IsReadCall (versions : History → List Pair) (old new : PassView) (call : MapCall) (told : MapReply) : Type 0 where
  pub moment : History
  pub within : Extends (run_of new) moment
  pub since : Extends moment (run_of old)
  pub own : AsksForPairs call → HasMadeRow old.number (run_of old) moment
  pub gives : reply call (versions moment) ≡ told
  pub only_looked : 0 < most_nodes call → HasOnlyLooked old.number (run_of new) (run_of old)
  pub done : done_of new ≡ done_of old

-- the call has changed the map by this edit, or has read it
abbrev pub IsPlacedAs : Option MapEdit → Layout → (History → List Pair) → PassView → PassView → MapCall → MapReply → Type 0
IsPlacedAs (Some edit) lay versions old new call told = IsEnteredCall lay versions old new call told edit
IsPlacedAs None lay versions old new call told = IsReadCall versions old new call told

-- where a call took place that says something of the map; a refused one took place nowhere
abbrev pub IsPlacedInRun : Layout → (History → List Pair) → PassView → PassView → MapCall → Option MapReply → Type 0
IsPlacedInRun lay versions old new call (Some told) = IsPlacedAs (edit_of call told) lay versions old new call told
IsPlacedInRun lay versions old new call None = done_of new ≡ done_of old

-- The call began where its pass knew `old` and ended where it knew `new`. It is in the history of
-- this run with this reply.
pub record IsAnswered (forest : Ground) (run : History) (versions : History → List Pair) (old new : PassView) (call : MapCall) (reply : Reply ℕ ℕ) : Type 0 where
  -- its start and its end are moments of the run, the end not before the start
  pub within : Extends run (run_of new)
  -- what it answers is right there
  pub told : IsPlacedInRun forest.layout versions old new call (told_of (λ n. n) (λ n. n) reply)
  -- and all is so that a call of the forest says: why it answers nothing, whom the pass blames,
  -- what tries, steps and nodes it has taken, and of which kinds its steps are
  pub called : HasCalledNumbers forest old new call reply
