use Rattle.slots.proofs.Counts.{counts_open, counts_rows, counts_stores, leaves, rests_more}
use Rattle.slots.proofs.laws.counts_hold.Goals as goal

pub returns-clause-opens : goal.returns-clause-opens
returns-clause-opens g = counts_open

pub returns-clause-stores : goal.returns-clause-stores
returns-clause-stores g t words h tally at v x = counts_stores t words h tally x at v

pub returns-clause-rows : goal.returns-clause-rows
returns-clause-rows g t words h tally r x = counts_rows t words h tally x r

pub returns-clause-rests : goal.returns-clause-rests
returns-clause-rests g t words h last held tally o x = rests_more t words h last held tally x o

pub returns-clause-leaves : goal.returns-clause-leaves
returns-clause-leaves g t words h last held tally o x = leaves t words h last held tally x o
