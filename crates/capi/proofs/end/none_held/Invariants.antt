use Rattle.std.proofs.Common.{◌≡◌, All, vec_len}
use Rattle.capi.specs.Ends.{IsEmpty, held_in}
use Rattle.capi.proofs.end.none_held.Given as goal

abbrev pub invariant-loop-number : goal.invariant-loop-number
invariant-loop-number l = record {
  len : vec_len l.places ≡ l._number;
  empty : All IsEmpty (held_in l.places.items);
}
