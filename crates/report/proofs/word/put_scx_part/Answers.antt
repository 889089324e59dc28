use Rattle.std.proofs.Common.{◌≡◌, ◌++◌, arith, decimal, rules}
use Rattle.report.specs.Words.{scx_part}
use Rattle.texts.proofs.Lemmas.{plain_append, plain_number}
use Rattle.report.proofs.word.put_scx_part.Goals as goal

pub returns-in-Some-clause-plain : goal.returns-in-Some-clause-plain
returns-in-Some-clause-plain c =
    let is : scx_part c.args.part ≡ c.scx_part-member.result.0.now ++ decimal c.in-Some.member = search rules in
    rw is (plain_append c.scx_part-member.result.0.now (decimal c.in-Some.member) c.scx_part-member.ensures.plain (plain_number c.in-Some.member (omega arith)))

pub returns-in_default-clause-plain : goal.returns-in_default-clause-plain
returns-in_default-clause-plain c =
    let is : scx_part c.args.part ≡ c.scx_part-member.result.0.now = search rules in
    rw is c.scx_part-member.ensures.plain
