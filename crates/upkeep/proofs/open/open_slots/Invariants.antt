use Rattle.std.proofs.Common.{◌≡◌, ◌+◌, ℕ, Some, length, slice_get}
use Rattle.upkeep.specs.declared.book.SlotUse.TheVariants.{Used}
use Rattle.upkeep.specs.declared.book.OwnSlot.{OwnSlot}
use Rattle.upkeep.proofs.open.open_slots.Given as goal

abbrev pub invariant-loop-i : goal.invariant-loop-i
invariant-loop-i l = record {
  count : length l.slots.items ≡ l.i;
  named : (j : ℕ) (x : OwnSlot) → slice_get l.slots.items j ≡ Some x → x ≡ record { name = l.at.name + j; known = Used };
}
