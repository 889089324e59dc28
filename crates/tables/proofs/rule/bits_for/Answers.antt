use Rattle.std.proofs.Common.{arith}
use Rattle.tables.proofs.LastingTables.{bits_enough}
use Rattle.tables.proofs.rule.bits_for.Goals as goal

pub returns-clause-enough : goal.returns-clause-enough
returns-clause-enough c = (bits_enough c.args.count 32 (omega arith) c.ranges.count.fits).0

pub returns-clause-narrow : goal.returns-clause-narrow
returns-clause-narrow c = (bits_enough c.args.count 32 (omega arith) c.ranges.count.fits).1

pub returns-clause-few : goal.returns-clause-few
returns-clause-few c = λ bits few less. (bits_enough c.args.count bits few less).2
