use Rattle.std.proofs.Common.{refl}
use Rattle.touching.proofs.laws.dictionaries_step.Goals as goal

pub returns : goal.returns
returns g c = λ m d h s w. record { tries = m.tries; machine = m.run; step = s; waits = w.1; is = refl }
