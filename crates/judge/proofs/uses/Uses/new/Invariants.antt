use Rattle.std.proofs.Common.{◌≡◌, ◌↔◌, ℕ, ◌<◌, true, false, length, slice_index_or}
use Rattle.judge.proofs.uses.Uses.new.Given as goal

abbrev pub invariant-loop-node : goal.invariant-loop-node
invariant-loop-node l = record {
  size : length l.in_field.items ≡ l.size;
  set : (n : ℕ) → slice_index_or l.in_field.items n false ≡ true ↔ (n < l.node);
}
