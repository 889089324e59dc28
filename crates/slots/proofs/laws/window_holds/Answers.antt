use Rattle.slots.proofs.Passing.{beside, passes_over}
use Rattle.slots.proofs.Slots.{held_apart}
use Rattle.slots.proofs.Windows.{moves, opens, steps}
use Rattle.slots.proofs.laws.window_holds.Goals as goal

pub returns-clause-opens : goal.returns-clause-opens
returns-clause-opens g t words o held fit = opens t fit words o held

pub returns-clause-steps : goal.returns-clause-steps
returns-clause-steps g t words h last held r x = steps t words h last held x r

pub returns-clause-apart : goal.returns-clause-apart
returns-clause-apart g t words h last held u w x = held_apart t x.lasting held x.names u w

pub returns-clause-moves : goal.returns-clause-moves
returns-clause-moves g t words h last next held x = moves t words h last held x next

pub returns-clause-passes_over : goal.returns-clause-passes_over
returns-clause-passes_over g t words h k last held o = passes_over t words h k last held o

pub returns-clause-beside : goal.returns-clause-beside
returns-clause-beside g = beside
