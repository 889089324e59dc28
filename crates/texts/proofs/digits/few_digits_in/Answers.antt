use Rattle.texts.proofs.DigitCounts.{one_digit, two_digits, three_digits, four_digits}
use Rattle.std.proofs.Common.{arith, sym}
use Rattle.texts.proofs.digits.few_digits_in.Goals as goal

pub returns-in-0-to-9 : goal.returns-in-0-to-9
returns-in-0-to-9 c = sym (one_digit c.args.n (omega arith))

pub returns-in-10-to-99 : goal.returns-in-10-to-99
returns-in-10-to-99 c = sym (two_digits c.args.n (omega arith) (omega arith))

pub returns-in-100-to-999 : goal.returns-in-100-to-999
returns-in-100-to-999 c = sym (three_digits c.args.n (omega arith) (omega arith))

pub returns-in_default : goal.returns-in_default
returns-in_default c = sym (four_digits c.args.n (omega arith) (omega arith))
