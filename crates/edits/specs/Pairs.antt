-- Lists of a few pairs, by their places.
use Rattle.std.specs.Prelude.{ℕ, zero, suc, Bool, false, not, ◌==◌, nat_lt, if◌then◌else◌, List, [], ◌∷◌, slice_index_or}
use Rattle.template.specs.Common.{Pair, pair}

-- the pair at a place of the list, or a blank one after its last
abbrev pub pair_at : List Pair → ℕ → Pair
pair_at ps i = slice_index_or ps i (pair 0 0)

-- how many pairs in front have a key below k
abbrev pub below : ℕ → List Pair → ℕ
below k [] = 0
below k (p ∷ ps) = if nat_lt p.key k then suc (below k ps) else 0

-- how many pairs in front have another key than k
abbrev pub before : ℕ → List Pair → ℕ
before k [] = 0
before k (p ∷ ps) = if not (p.key == k) then suc (before k ps) else 0

-- whether the list has the key k at this place
abbrev pub has_at : ℕ → ℕ → List Pair → Bool
has_at k i [] = false
has_at k zero (p ∷ ps) = p.key == k
has_at k (suc i) (p ∷ ps) = has_at k i ps

-- how many of these hold in front of the first that does not
abbrev pub run : Bool → Bool → Bool → Bool → Bool → ℕ
run a b c d e =
    if not a then 0
    else (if not b then 1 else (if not c then 2 else (if not d then 3 else (if not e then 4 else 5))))

-- what is at a place when a new pair is put at the place `at`: those before it stay, and those
-- after it move on
abbrev pub moved_on : ℕ → ℕ → Pair → Pair → Pair → Pair
moved_on at place here new last = if nat_lt place at then here else (if place == at then new else last)

-- and when the pair at the place `at` is taken out: those after it move back
abbrev pub moved_back : ℕ → ℕ → Pair → Pair → Pair
moved_back at place here next = if nat_lt place at then here else next

-- and where a pair is put in its stead
abbrev pub replaced : ℕ → ℕ → Pair → Pair → Pair
replaced at place here new = if place == at then new else here
