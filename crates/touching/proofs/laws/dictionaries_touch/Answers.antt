use Rattle.touching.proofs.Calling.{map_touches}
use Rattle.touching.proofs.laws.dictionaries_touch.Goals as goal

pub returns : goal.returns
returns g c = λ m d h s w. map_touches m.tries m.run d h s w.1
