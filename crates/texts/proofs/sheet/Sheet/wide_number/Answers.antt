use Rattle.std.proofs.Common.{arith}
use Rattle.texts.proofs.PlainRows.{plain_number}
use Rattle.texts.proofs.sheet.Sheet.wide_number.Goals as goal

pub returns-in-Err-clause-plain : goal.returns-in-Err-clause-plain
returns-in-Err-clause-plain c = plain_number c.args.n (omega (arith, c.ranges.n.fits))
