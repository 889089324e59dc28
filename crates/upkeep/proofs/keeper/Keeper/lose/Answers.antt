use Rattle.std.proofs.Common.{refl}
use Rattle.upkeep.proofs.UpkeepLost.{keeper_lost}
use Rattle.upkeep.proofs.keeper.Keeper.lose.Goals as goal

pub returns : goal.returns
returns c = λ t p. keeper_lost t p c.args.from.0 c.args.to.0 c.args.self.now _ c.lose.ensures refl refl refl refl
