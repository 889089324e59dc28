use Rattle.slots.proofs.Counts.{finds_away, polls, seen_leaves, seen_moves, seen_now, seen_rests, seen_rows}
use Rattle.slots.proofs.laws.polls_hold.Goals as goal

pub returns-clause-now : goal.returns-clause-now
returns-clause-now g = seen_now

pub returns-clause-rows : goal.returns-clause-rows
returns-clause-rows g h last tally o m seen r x = seen_rows h last tally o m seen x r

pub returns-clause-moves : goal.returns-clause-moves
returns-clause-moves g h last tally o m seen t next x = seen_moves h last tally o m seen x t next

pub returns-clause-rests : goal.returns-clause-rests
returns-clause-rests g h last tally o m seen p x = seen_rests h last tally o m seen x p

pub returns-clause-leaves : goal.returns-clause-leaves
returns-clause-leaves g h last tally o m seen p x = seen_leaves h last tally o m seen x p

pub returns-clause-polls : goal.returns-clause-polls
returns-clause-polls g t words h last held tally o seen m x = polls t words h last held tally x o seen m

pub returns-clause-finds_away : goal.returns-clause-finds_away
returns-clause-finds_away g t words h last held tally o k x = finds_away t words h last held tally x o k
