use Rattle.ordered_map.proofs.MapLemmas.{run_since}
use Rattle.touching.specs.Kinds.{IsNotFinal}
use Rattle.touching.proofs.Calling.{map_touches}
use Rattle.touching.proofs.Moments.{touches_so}
use Rattle.touching.proofs.OwnScx.{InTree}
use Rattle.touching.proofs.Present.{there_not_final}
use Rattle.touching.proofs.laws.calls_touch.Goals as goal

pub returns-clause-touches : goal.returns-clause-touches
returns-clause-touches c = map_touches

pub returns-clause-not_final : goal.returns-clause-not_final
returns-clause-not_final g = λ c h w run. touches_so InTree IsNotFinal c h (λ m n e. there_not_final c.layout m n (run_since c.layout h m run e)) w
