-- Few pairs that a command asks for.
use Rattle.ordered_map.specs.declared.request.Request.TheVariants.{Range}
use Rattle.script.specs.declared.command.Command.{Command}
use Rattle.script.specs.declared.command.Command.TheVariants.{Map}
use Rattle.script.specs.Commands.{AsksForFewPairs, IsCommand}

-- each command that there is asks for few
pub command_asks : (command : Command) → IsCommand command → AsksForFewPairs command
command_asks (Map (Range low high most)) is = is.1.1.0
command_asks command is = tt
