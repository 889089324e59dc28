-- Parts of lists.
use Rattle.std.specs.Prelude.{ℕ, Bool, true, false, if◌then◌else◌, ◌==◌, List, [], ◌∷◌}

-- whether the first list is the second with some of its elements left out
abbrev pub is_subsequence : List ℕ → List ℕ → Bool
is_subsequence [] whole = true
is_subsequence (x ∷ part) [] = false
is_subsequence (x ∷ part) (y ∷ whole) =
    if x == y then is_subsequence part whole
    else is_subsequence (x ∷ part) whole
