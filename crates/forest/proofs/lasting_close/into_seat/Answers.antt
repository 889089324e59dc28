use Rattle.std.proofs.Common.{refl}
use Rattle.forest.specs.PassInvariant.{seated_in}
use Rattle.forest.proofs.lasting_close.into_seat.Goals as goal

pub returns-clause-pass : goal.returns-clause-pass
returns-clause-pass g c = let x = c.pass.invariant.0 in rw (← c.pass.view_is) (
  seated_in c.pass.inside,
  x.seat.alone,
  record { is = refl; is_pass = x.is_pass; sound = x.sound; rest = x.rest; blamed = x.blamed },
)
