use Rattle.resting.proofs.Resting.{away_more, away_now, rested_away, rested_before, rested_now, row_keeps}
use Rattle.resting.proofs.laws.rests_hold.Goals as goal

pub returns-clause-now : goal.returns-clause-now
returns-clause-now g = rested_now

pub returns-clause-away : goal.returns-clause-away
returns-clause-away g = rested_away

pub returns-clause-leaves : goal.returns-clause-leaves
returns-clause-leaves g = away_now

pub returns-clause-stays_away : goal.returns-clause-stays_away
returns-clause-stays_away g = away_more

pub returns-clause-rows : goal.returns-clause-rows
returns-clause-rows g = row_keeps

pub returns-clause-earlier : goal.returns-clause-earlier
returns-clause-earlier g = rested_before
