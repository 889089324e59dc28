-- What a stream has written of its report, and which turns have led to it.
use Rattle.std.specs.Prelude.{◌≡◌, ◌≢◌, ◌+◌, ◌-◌, ◌^◌, ◌≤◌, ◌⊎◌, ℕ, false, List, [], ◌∷◌, ◌++◌, Option, IsTrue, Result, Err, OnOk, OnErr, IsErrOf, map, min, reverse}
use Rattle.std.specs.Io.KnownBytes.{Appends}
use Rattle.texts.specs.Pages.{BeginsWith, rows_text}
use Rattle.script.specs.Rows.{limits_row}
use Rattle.record.specs.declared.record.Line.{Line}
use Rattle.player.specs.Core.{IsNextTurn, StandsAt, with_lines}
use Rattle.player.specs.Player.{IsPlayed, PlayerView}
use Rattle.report.specs.Report.{call_rows, entries_in, line_row, replies_in, steps_in, title_row}
use Rattle.report.specs.declared.stream.Stream.{Stream}
use Rattle.report.specs.declared.stream.StreamFault.{StreamFault}
use Rattle.report.specs.declared.stream.StreamFault.TheVariants.{NoMemory, Write, Ended}
use Rattle.report.specs.declared.totals.Totals.{Totals}

-- the text of the report so far: all of its rows but the last, which counts the others
abbrev pub text_so_far : PlayerView → List ℕ
text_so_far p = rows_text 7 (title_row p.script.layout.mode ∷ limits_row p.script.limits ∷ (call_rows [] p.script.calls ++ map line_row (reverse p.lines)))

-- the counts of these lines, among which no turn has more than one reply and one entry
pub record AreTotals (totals : Totals) (lines : List Line) : Type 0 where
  pub steps : totals.steps ≡ steps_in lines
  pub replies : totals.replies ≡ replies_in lines
  pub entries : totals.entries ≡ entries_in lines
  pub few_replies : replies_in lines ≤ steps_in lines
  pub few_entries : entries_in lines ≤ steps_in lines

-- the stream continues after these turns, and their report so far is after the old bytes
pub record HasWritten (stream : Stream) (old new : Option (List ℕ)) (p : PlayerView) : Type 0 where
  pub goes_on : stream.ended ≡ false
  pub stands : StandsAt stream.core p
  pub totals : AreTotals stream.totals (reverse p.lines)
  pub text : Appends old new (text_so_far p)

-- after the old bytes is a beginning of the report of these turns and one more of client i; with
-- that turn they are a lawful run
pub record IsCutAt (old new : Option (List ℕ)) (p : PlayerView) (i : ℕ) : Type 0 where
  pub more : List Line
  pub turn : IsNextTurn p i more
  pub played : IsPlayed (with_lines p more)
  pub text : BeginsWith old new (text_so_far (with_lines p more))

-- what a turn of client i leaves, of a stream that continued after these turns: its lines are
-- written; or, after a fault before the turn, all is as it was; or, after a fault later, the stream
-- has ended
pub record HasWrittenTurn {T : Type 0} (stream : Stream) (old new : Option (List ℕ)) (p : PlayerView) (i : ℕ) (unwritten : Type 0) (result : Result T StreamFault) : Type 0 where
  pub written : OnOk result (HasWritten stream old new (with_lines p stream.lines.items))
  pub refused : OnErr result (stream.ended ≡ false → HasWritten stream old new p × unwritten)
  pub cut : OnErr result (IsTrue stream.ended → IsCutAt old new p i)

-- a failed write ends a stream; `Ended` is the answer of just those that had ended, and changes
-- nothing
pub record EndsByFaults {T : Type 0} (old new : Stream) (unwritten : Type 0) (result : Result T StreamFault) : Type 0 where
  pub failed : IsErrOf result Write → IsTrue new.ended
  pub over : IsTrue old.ended → (result ≡ Err Ended) × (new ≡ old) × unwritten
  pub why : result ≡ Err Ended → IsTrue old.ended

-- a turn was not made, or not written, for this fault: these turns are a lawful run, and after the
-- old bytes is a beginning of its report, or of that with one turn more of some client, with which
-- they are a lawful run too; a failed write is counted, and nothing else
pub record HasBrokenOff (old new : Option (List ℕ)) (before after : ℕ) (fault : StreamFault) (p : PlayerView) : Type 0 where
  pub played : IsPlayed p
  pub text : BeginsWith old new (text_so_far p) ⊎ ((i : ℕ) × IsCutAt old new p i)
  pub not_ended : fault ≢ Ended
  pub no_memory : fault ≡ NoMemory → after ≡ before
  pub write : fault ≡ Write → after ≡ min (before + 1) (2 ^ 64 - 1)
