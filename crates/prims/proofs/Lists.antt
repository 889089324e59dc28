-- What holds of each element of a list.
use Rattle.std.proofs.Common.{◌≡◌, ℕ, zero, suc, List, [], ◌∷◌, ◌++◌, length, slice_get, Some, refl, sym, subst}

-- what holds of each element, with its place, and of one more holds of all with that one at the end
pub get_more : {X : Type 0} (P : ℕ → X → Type 0) (xs : List X) (x : X) (n : ℕ) → length xs ≡ n → ((j : ℕ) (d : X) → slice_get xs j ≡ Some d → P j d) → P n x → (j : ℕ) (d : X) → slice_get (xs ++ x ∷ []) j ≡ Some d → P j d
get_more P [] x n e f p zero d get = subst (λ (k : ℕ). P k d) (sym e) (subst (P n) (cc) p)
get_more P [] x n e f p (suc j) d get = absurd cc
get_more P (y ∷ xs) x n e f p zero d get = f 0 d get
get_more P (y ∷ xs) x n e f p (suc j) d get = get_more (λ k. P (suc k)) xs x (length xs) refl (λ k. f (suc k)) (rw e p) j d get
