use Rattle.std.proofs.Common.{◌≡◌, All, take}
use Rattle.capi.specs.Ends.{IsOfTrie, held_in}
use Rattle.capi.proofs.end.are_of_trie.Given as goal

abbrev pub invariant-loop-place : goal.invariant-loop-place
invariant-loop-place l = record {
  same : held_in l.passes ≡ held_in l.initial.passes;
  told : All IsOfTrie (take l.place-index (held_in l.passes));
}
