-- That a command asks for few pairs, in one way at most.
use Rattle.std.proofs.Common.{refl}
use Rattle.std.proofs.Math.Bridge.{le_prop}
use Rattle.script.specs.Commands.{AsksForFewPairs}
use Rattle.script.specs.declared.command.Command.{Command}
use Rattle.script.specs.declared.command.Command.TheVariants.{Map}
use Rattle.ordered_map.specs.declared.request.Request.TheVariants.{Range}

-- it asks for at most 64 pairs in one way at most
pub few_prop : (command : Command) → IsProp (AsksForFewPairs command)
few_prop (Map (Range low high most)) = le_prop
few_prop _ = λ a b. refl
