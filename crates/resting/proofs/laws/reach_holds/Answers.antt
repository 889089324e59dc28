use Rattle.resting.proofs.Periods.{next_not_out, out_anew, out_since}
use Rattle.resting.proofs.laws.reach_holds.Goals as goal

pub returns-clause-rows : goal.returns-clause-rows
returns-clause-rows g = out_since

pub returns-clause-rests : goal.returns-clause-rests
returns-clause-rests g = out_anew

pub returns-clause-next : goal.returns-clause-next
returns-clause-next g = next_not_out
