-- Which passes are there.
use Rattle.std.proofs.Common.{◌≡◌, ℕ, ◌+◌, ◌<◌, ⊎_elim, true, eqb, ◌||◌, List, [], ◌∷◌, length, map, refl, sym, ◌∙◌, ap, arith}
use Rattle.std.proofs.Math.Nat.{eq-or-lt_of_le}
use Rattle.std.specs.List.{list_any}
use Rattle.std.proofs.lemmas.Cmp.{nat_eq_equiv}
use Rattle.std.proofs.lemmas.Map.Views.{Contains-from_any, list_any-from_Contains, exact_unsigned_eq}
use Rattle.tables.specs.Passes.{PassView, HasPass}

-- some pass has the number where some number is it
any_number : (ps : List PassView) (n : ℕ) → list_any (λ (p : PassView). eqb n p.number) ps ≡ list_any (eqb n) (map (λ (p : PassView). p.number) ps)
any_number [] n = refl
any_number (p ∷ ps) n = ap (λ b. eqb n p.number || b) (any_number ps n)

pub has_pass : (ps : List PassView) (n : ℕ) → list_any (λ (p : PassView). eqb n p.number) ps ≡ true → HasPass ps n
has_pass ps n e = Contains-from_any {eq = eqb} exact_unsigned_eq n (map (λ (p : PassView). p.number) ps) (sym (any_number ps n) ∙ e)

pub finds_pass : (ps : List PassView) (n : ℕ) → HasPass ps n → list_any (λ (p : PassView). eqb n p.number) ps ≡ true
finds_pass ps n c = any_number ps n ∙ list_any-from_Contains nat_eq_equiv n (map (λ (p : PassView). p.number) ps) c

-- one number more
pub has_more : (ps : List PassView) (k : ℕ) → ((n : ℕ) → n < k → HasPass ps n) → HasPass ps k → (n : ℕ) → n < k + 1 → HasPass ps n
has_more ps k before this n less = ⊎_elim (λ e. rw e this) (λ l. before n l) (eq-or-lt_of_le (omega arith))

-- where one is there, there are some
pub some_back : (ps : List PassView) (n : ℕ) → HasPass ps n → 0 < length ps
some_back [] n c = absurd (let less = c.1 in omega (arith, less))
some_back (p ∷ ps) n c = omega arith
