use Rattle.std.proofs.Common.{◌-◌}
use Rattle.arena.specs.Words.{slot_no}
use Rattle.ordered_map.proofs.held.+are_in_order.Given as goal

abbrev pub decreases-are_in_order : goal.decreases-are_in_order
decreases-are_in_order l = 3 - slot_no l.slot
