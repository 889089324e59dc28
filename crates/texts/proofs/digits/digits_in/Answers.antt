use Rattle.std.proofs.Common.{◌≤◌, arith, length, decimal}
use Rattle.std.proofs.lemmas.Fmt.{length-decimal-le}
use Rattle.texts.proofs.DigitCounts.{four_more}
use Rattle.texts.proofs.digits.digits_in.Goals as goal

pub overflow_add-digits : goal.overflow_add-digits
overflow_add-digits c =
    let short : length (decimal c.args.n) ≤ 20 = length-decimal-le 20 c.args.n (omega arith) (omega arith) (omega arith) in
    omega arith

pub loop-left-preserved : goal.loop-left-preserved
loop-left-preserved c =
    let more = four_more c.loop-left.left c.loop-left-test.true (omega arith) in
    omega (arith, more)

pub overflow_add-result : goal.overflow_add-result
overflow_add-result c =
    let short : length (decimal c.args.n) ≤ 20 = length-decimal-le 20 c.args.n (omega arith) (omega arith) (omega arith) in
    omega arith
