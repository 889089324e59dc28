-- Lists of numbers that differ.
use Rattle.std.proofs.Common.{◌≡◌, ◌≢◌, ℕ, ◌<◌, ◌≤◌, List, [], ◌∷◌, ◌++◌, length, length-append, get_or, arith, sym, ◌∙◌, AllPairs, Contains, ⊎_elim}
use Rattle.std.proofs.Math.Nat.{eq-or-lt_of_le}
use Rattle.std.proofs.Math.Seq.{get_or-append_seam}
use Rattle.std.proofs.lemmas.List.{get_or_append_left}
use Rattle.std.proofs.lemmas.Grind.{get_or_default_zero}

-- what is before the end, and is what was put there, is in the list
found_before_end : (xs : List ℕ) (y i d : ℕ) → i < length xs → get_or (xs ++ y ∷ []) i d ≡ get_or (xs ++ y ∷ []) (length xs) d → Contains xs y
found_before_end xs y i d lt same =
    (i, lt, get_or_default_zero xs i y lt ∙ sym (get_or_default_zero xs i d lt) ∙ sym (get_or_append_left xs (y ∷ []) d i lt) ∙ same ∙ get_or-append_seam xs y [] d)

-- one more number, that is none of them
pub differ_push : (xs : List ℕ) (y : ℕ) → AllPairs (λ a b. a ≢ b) xs → ¬ (Contains xs y) → AllPairs (λ a b. a ≢ b) (xs ++ y ∷ [])
differ_push xs y differ none i j d before within same =
    let inside : j ≤ length xs = omega (arith, length-append xs (y ∷ [])) in
    let first : i < length xs = omega arith in
    ⊎_elim
    (λ (last : j ≡ length xs). none (found_before_end xs y i d first (rw last at same)))
    (λ (lt : j < length xs). differ i j d before lt (sym (get_or_append_left xs (y ∷ []) d i first) ∙ same ∙ get_or_append_left xs (y ∷ []) d j lt))
    (eq-or-lt_of_le inside)
