-- Up to five pairs in five places.
use Rattle.std.proofs.Common.{◌≡◌, List, [], ◌∷◌, length, take, sym}
use Rattle.ordered_map.specs.declared.pair.Pair.{Pair}
use Rattle.edits.specs.declared.pairs.Pairs.TheInside.{Inside}
use Rattle.edits.specs.Pairs.{pair_at}

-- the pairs in the first places, as many as are counted
abbrev pub listed : Inside → List Pair
listed s = take s.count (s.first ∷ s.second ∷ s.third ∷ s.fourth ∷ s.fifth ∷ [])

-- the five places of a list of at most five pairs: those after the last are blank
abbrev pub placed_pairs : List Pair → Inside
placed_pairs ps = record { first = pair_at ps 0; second = pair_at ps 1; third = pair_at ps 2; fourth = pair_at ps 3; fifth = pair_at ps 4; count = length ps }

-- places with blanks after the last are those of the list that they hold
pub placed_back : (s : Inside) → s ≡ placed_pairs (listed s) → placed_pairs (listed s) ≡ s
placed_back s i = sym i
