use Rattle.std.proofs.Common.{◌≡◌, Some, vec_len, length, map}
use Rattle.std.specs.List.{All}
use Rattle.capi.specs.Made.{IsHeldOf, pass_at}
use Rattle.capi.proofs.lasting.hand_out_lasting_tree.Given as goal

abbrev pub invariant-loop-pass : goal.invariant-loop-pass
invariant-loop-pass l = record {
  count : vec_len l.places ≡ length l.yielded;
  of_forest : All (λ p. IsHeldOf l.fn.forest p.handle.value) l.places.items;
  held : map pass_at l.places.items ≡ map Some l.yielded;
}
