use Rattle.std.proofs.Common.{◌∙◌, sym}
use Rattle.straight.proofs.last_walk.end_at_side.Goals as goal

pub end_at-requires-clause-slot : goal.end_at-requires-clause-slot
end_at-requires-clause-slot g c = sym c.in-First.is ∙ c.end_slot.ensures

pub end_at-requires-clause-told : goal.end_at-requires-clause-told
end_at-requires-clause-told g c = c.requires.told
