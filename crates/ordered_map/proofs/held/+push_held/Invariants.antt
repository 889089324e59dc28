use Rattle.std.proofs.Common.{◌-◌}
use Rattle.arena.specs.Words.{slot_no}
use Rattle.ordered_map.proofs.held.+push_held.Given as goal

abbrev pub decreases-push_held : goal.decreases-push_held
decreases-push_held l = 3 - slot_no l.slot
