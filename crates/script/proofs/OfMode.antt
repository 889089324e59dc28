-- The mode of a script's calls.
use Rattle.std.proofs.Common.{All}
use Rattle.script.specs.declared.call.Call.{Call}
use Rattle.script.specs.declared.script.Script.{Script}
use Rattle.script.specs.Commands.{IsOfMode}

-- each call of a script has a command of the script's mode
pub calls_are_of_mode : (s : Script) → All (λ (call : Call). IsOfMode s.layout.mode call.command) s.calls.items
calls_are_of_mode s = s.of_mode
