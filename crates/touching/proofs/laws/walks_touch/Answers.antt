use Rattle.touching.proofs.Calling.{walk_touches}
use Rattle.touching.proofs.laws.walks_touch.Goals as goal

pub returns : goal.returns
returns c = walk_touches
