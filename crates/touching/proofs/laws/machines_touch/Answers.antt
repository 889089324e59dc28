use Rattle.dict.specs.Inner.{edit_means}
use Rattle.order.specs.Neighbour.{neighbour_means}
use Rattle.order.specs.Range.{range_means}
use Rattle.touching.proofs.Calling.{edit_touches, read_touches}
use Rattle.touching.proofs.Updating.{update_unmarked}
use Rattle.touching.proofs.laws.machines_touch.Goals as goal

pub returns-clause-edits : goal.returns-clause-edits
returns-clause-edits c = edit_touches

pub returns-clause-unmarked : goal.returns-clause-unmarked
returns-clause-unmarked c = update_unmarked edit_means

pub returns-clause-neighbours : goal.returns-clause-neighbours
returns-clause-neighbours c = read_touches neighbour_means

pub returns-clause-ranges : goal.returns-clause-ranges
returns-clause-ranges c = read_touches range_means
