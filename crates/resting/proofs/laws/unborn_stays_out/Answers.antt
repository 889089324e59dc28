use Rattle.resting.proofs.Never.{filled_never, never_more, none_entered, others_entered, unnamed_never}
use Rattle.resting.proofs.Outside.{out_sorts, out_stays}
use Rattle.resting.proofs.StaysUnborn.{unborn_since}
use Rattle.resting.proofs.laws.unborn_stays_out.Goals as goal

pub returns-clause-unnamed : goal.returns-clause-unnamed
returns-clause-unnamed g = unnamed_never

pub returns-clause-filled : goal.returns-clause-filled
returns-clause-filled g = filled_never

pub returns-clause-rows : goal.returns-clause-rows
returns-clause-rows g = never_more

pub returns-clause-none : goal.returns-clause-none
returns-clause-none g = λ lay h start p n. none_entered lay h start p n

pub returns-clause-others : goal.returns-clause-others
returns-clause-others g = λ lay h start p n. others_entered lay h start p n

pub returns-clause-stays : goal.returns-clause-stays
returns-clause-stays g = λ lay h p rest n. unborn_since lay h p rest n

pub returns-clause-out : goal.returns-clause-out
returns-clause-out g = λ lay h p rest t n is_pass run rested within x. out_stays lay p rest t n x h run is_pass within rested

pub returns-clause-sorts : goal.returns-clause-sorts
returns-clause-sorts g = λ lay h p rest n run x. out_sorts lay p rest h n x run
