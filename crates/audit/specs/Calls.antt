-- The commands of calls.
use Rattle.std.specs.Prelude.{ℕ, List, Option, Some, None, slice_get}
use Rattle.record.specs.Common.{Call, Command}

-- the command of a call
abbrev pub command_of_call : Option Call → Option Command
command_of_call None = None
command_of_call (Some call) = Some call.command

-- the command of the call at a place
abbrev pub command_at : List Call → Option ℕ → Option Command
command_at calls None = None
command_at calls (Some at) = command_of_call (slice_get calls at)
