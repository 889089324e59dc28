-- What was counted, and what was kept by clients.
use Rattle.std.specs.Prelude.{◌≡◌, ◌<◌, ℕ, List, Some, slice_index_or, slice_get}
use Rattle.std.specs.Option.{option_map}
use Rattle.record.specs.declared.record.Line.{Line}
use Rattle.record.specs.Common.{answered, Call, commands}
use Rattle.report.specs.declared.commands.Commands.{Commands}
use Rattle.report.specs.declared.count.Counts.{Counts}
use Rattle.report.specs.Report.{calls_by}

-- how many calls of a client were counted
abbrev pub calls_counted : Counts → ℕ → ℕ
calls_counted counts client = slice_index_or counts.calls.items client 0

-- of each client as many calls were counted as these have
abbrev pub HasCounted : Counts → List Call → Type 0
HasCounted counts calls = (client : ℕ) → calls_counted counts client ≡ calls_by client calls

-- of each client below this number as many replies were counted as these lines have, newest first
abbrev pub HasCountedReplies : Counts → ℕ → List Line → Type 0
HasCountedReplies counts passes lines = (client : ℕ) → client < passes → calls_counted counts client ≡ answered lines client

-- of each client below this number the commands among these calls are kept
abbrev pub HasCommands : Commands → ℕ → List Call → Type 0
HasCommands all passes calls = (client : ℕ) → client < passes → option_map (λ own. own.items) (slice_get all.clients.items client) ≡ Some (commands calls client)
