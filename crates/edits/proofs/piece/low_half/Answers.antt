use Rattle.std.proofs.Common.{arith}
use Rattle.edits.proofs.piece.low_half.Goals as goal

pub returns : goal.returns
returns c = let e = c.halves.ensures in let r = c.halves.type_inv in omega (arith, e, r)
