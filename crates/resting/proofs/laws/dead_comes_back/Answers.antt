use Rattle.resting.proofs.Looks.{looked}
use Rattle.resting.proofs.Outside.{out_unmarked}
use Rattle.resting.proofs.Periods.{dead_out}
use Rattle.resting.proofs.Removed.{removed_after, removed_final, removed_seen}
use Rattle.resting.proofs.StaysUnborn.{unborn_out}
use Rattle.resting.proofs.Unborn.{aborted_out}
use Rattle.resting.proofs.Unnamed.{unnamed_out}
use Rattle.resting.proofs.laws.dead_comes_back.Goals as goal

pub returns-clause-marked : goal.returns-clause-marked
returns-clause-marked g = removed_after

pub returns-clause-seen : goal.returns-clause-seen
returns-clause-seen g = removed_seen

pub returns-clause-finalized : goal.returns-clause-finalized
returns-clause-finalized g = removed_final

pub returns-clause-dead : goal.returns-clause-dead
returns-clause-dead g = dead_out

pub returns-clause-aborted : goal.returns-clause-aborted
returns-clause-aborted g = aborted_out

pub returns-clause-unborn : goal.returns-clause-unborn
returns-clause-unborn g = unborn_out

pub returns-clause-unnamed : goal.returns-clause-unnamed
returns-clause-unnamed g = unnamed_out

pub returns-clause-look : goal.returns-clause-look
returns-clause-look g = looked

pub returns-clause-out : goal.returns-clause-out
returns-clause-out g = λ lay h last p rest t n run is_pass all since rested within x mark. out_unmarked lay p rest t n x h run is_pass within rested last all since mark
