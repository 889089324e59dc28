-- What the program prints, and why it refuses to.
use Rattle.std.specs.Prelude.{◌≡◌, ◌⊎◌, ℕ, List, [], Option, ⊤, reverse}
use Rattle.std.specs.Io.KnownBytes.{Appends}
use Rattle.texts.specs.Pages.{BeginsWith}
use Rattle.histories.specs.Common.{Layout, Mode}
use Rattle.arena.specs.declared.limits.Limits.{Limits}
use Rattle.script.specs.Grammars.{IsScheduleFault, IsScriptFault, SayOrders, SayScript}
use Rattle.record.specs.Common.{Call, Script}
use Rattle.script.specs.declared.schedule.Schedule.{Schedule}
use Rattle.record.specs.declared.record.Line.{Line}
use Rattle.record.specs.Schedules.{IsRunOf}
use Rattle.player.specs.Player.{IsPlayed, PlayerView, script_view}
use Rattle.report.specs.Report.{report_text}
use Rattle.report.specs.Streams.{IsCutAt}
use Rattle.player.specs.Followed.{AreFollowedSoFar}
use Rattle.program.specs.declared.fault.Fault.{Fault}
use Rattle.program.specs.declared.fault.Fault.TheVariants.{Usage, BadGate, BadScript, BadSchedule, NotLawful, NoMemory, Read, Write}

-- of what the two texts say there was a run, and after the old bytes is its report
pub record HasPrinted (mode : Mode) (script_text schedule_text : List ℕ) (old new : Option (List ℕ)) : Type 0 where
  pub script : Script
  pub schedule : Schedule
  pub lines : List Line
  pub says : SayScript mode script_text script.limits script.layout script.calls.items
  pub orders : SayOrders script.layout.passes schedule_text schedule.orders.items
  pub run : IsRunOf script schedule lines
  pub text : Appends old new (report_text script lines)

-- of what the two texts say there was the beginning of a run, whose turns are those that the
-- schedule means, as far as they go; after the old bytes is a beginning of its report, or of that
-- with one turn more of some client, with which they are a lawful run too
pub record HasPrintedPart (mode : Mode) (script_text schedule_text : List ℕ) (old new : Option (List ℕ)) : Type 0 where
  pub script : Script
  pub schedule : Schedule
  pub so_far : PlayerView
  pub says : SayScript mode script_text script.limits script.layout script.calls.items
  pub orders : SayOrders script.layout.passes schedule_text schedule.orders.items
  pub script_is : so_far.script ≡ script_view script
  pub turns : AreFollowedSoFar script.calls.items schedule.orders.items [] so_far.lines
  -- it is a lawful run, where there are turns
  pub played : (so_far.lines ≡ []) ⊎ IsPlayed so_far
  pub text : BeginsWith old new (report_text script (reverse so_far.lines)) ⊎ ((i : ℕ) × IsCutAt old new so_far i)

-- the texts deserve the fault: it is the first of the script's text; or that one says a script, and
-- it is the first of the schedule's. No text deserves that of a report, nor one of the words;
-- memory, a read or a write may fail whatever the texts are.
abbrev pub IsDeserved : Mode → List ℕ → List ℕ → Fault → Type 0
IsDeserved mode script_text schedule_text (BadScript row cause) = IsScriptFault mode script_text row cause
IsDeserved mode script_text schedule_text (BadSchedule row cause) =
    (limits : Limits) × (layout : Layout) × (calls : List Call) × SayScript mode script_text limits layout calls × IsScheduleFault layout.passes schedule_text row cause
IsDeserved mode script_text schedule_text (NotLawful row) = ⊥
IsDeserved mode script_text schedule_text Usage = ⊥
IsDeserved mode script_text schedule_text BadGate = ⊥
IsDeserved mode script_text schedule_text NoMemory = ⊤
IsDeserved mode script_text schedule_text Read = ⊤
IsDeserved mode script_text schedule_text Write = ⊤
