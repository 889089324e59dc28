-- What the program prints of a run with threads, and why it refuses one.
use Rattle.std.specs.Prelude.{ℕ, Bool, List, Option, Vec, ⊤}
use Rattle.std.specs.Global.{Global}
use Rattle.std.specs.Io.KnownBytes.{Appends}
use Rattle.histories.specs.Common.{Mode}
use Rattle.script.specs.Grammars.{IsScriptFault, SayScript}
use Rattle.record.specs.Common.{Script, Reply}
use Rattle.runner.specs.Gates.{IsGate}
use Rattle.runner.specs.Outcomes.{IsOutcome}
use Rattle.report.specs.Outcome.{outcome_text}
use Rattle.program.specs.declared.fault.Fault.{Fault}
use Rattle.program.specs.declared.fault.Fault.TheVariants.{Usage, BadGate, BadScript, BadSchedule, NotLawful, NoMemory, Read, Write}

-- there was a run of the script with threads, and after the old bytes comes its outcome
pub record HasRun (script : Script) (old new : Option (List ℕ)) : Type 0 where
  pub replies : List (Vec (Reply ℕ ℕ) Global)
  pub pairs : List (ℕ × ℕ)
  -- whether the gate was met in it
  pub missed : Bool
  pub outcome : IsOutcome script replies pairs
  pub text : Appends old new (outcome_text missed replies pairs)

-- the text says a script of this mode, and of that one there was such a run
pub record HasPrintedRun (mode : Mode) (text : List ℕ) (old new : Option (List ℕ)) : Type 0 where
  pub script : Script
  pub says : SayScript mode text script.limits script.layout script.calls.items
  pub run : HasRun script old new

-- the text of a script and the name of a gate deserve the fault: there is no such gate; or it is
-- the first of the text. Memory, a read or a write may fail whatever they are.
abbrev pub IsDeservedWithThreads : Mode → List ℕ → List ℕ → Fault → Type 0
IsDeservedWithThreads mode gate text BadGate = ¬ (IsGate gate)
IsDeservedWithThreads mode gate text (BadScript row cause) = IsScriptFault mode text row cause
IsDeservedWithThreads mode gate text (BadSchedule row cause) = ⊥
IsDeservedWithThreads mode gate text (NotLawful row) = ⊥
IsDeservedWithThreads mode gate text Usage = ⊥
IsDeservedWithThreads mode gate text NoMemory = ⊤
IsDeservedWithThreads mode gate text Read = ⊤
IsDeservedWithThreads mode gate text Write = ⊤
