-- Texts, cut at their first space.
use Rattle.std.proofs.Common.{◌≡◌, ◌≢◌, ◌<◌, ◌^◌, ◌∙◌, ℕ, zero, suc, true, not, eqb, List, [], ◌∷◌, ◌++◌, Bor, MatchOption, Option, Some, None, arith, sym, decimal, lit<, refl}
use Rattle.std.specs.List.{list_all}
use Rattle.std.proofs.lemmas.Bool.Decides.{nat_tests}
use Rattle.std.proofs.lemmas.Fmt.{decimal_is_IsNumeral_wide}
use Rattle.std.proofs.lemmas.Grind.{get_or_default_zero}
use Rattle.std.proofs.lemmas.List.Elements.{All-head, All-tail}
use Rattle.std.proofs.lemmas.List.Sums.{AllPass-from_list_all}
use Rattle.std.proofs.lemmas.Str.Parse.{digit_at}
use Rattle.std.proofs.lemmas.Str.Pattern.{IsSplitOnceResult, split_after, split_parts}
use Rattle.report.specs.Spellings.{HasNoSpace}

-- the text is empty, or begins with a space
abbrev pub IsTail : List ℕ → Type 0
IsTail [] = Unit {0}
IsTail (b ∷ text) = b ≡ 32

other_than_space : (b : ℕ) → not (eqb b 32) ≡ true → b ≢ 32
other_than_space b test is = grind (arith, nat_tests)

-- a text that a test finds to have no space
pub literal : (text : List ℕ) → list_all (λ b. not (eqb b 32)) text ≡ true → HasNoSpace text
literal text test k d within = other_than_space _ (AllPass-from_list_all (λ b. not (eqb b 32)) text test k d within)

-- a value
pub value_has_no_space : (n : ℕ) → n < 2 ^ 128 → HasNoSpace (decimal n)
value_has_no_space n fits k d within = rw (get_or_default_zero (decimal n) k d within)
    (λ is. let digit = digit_at (decimal n) k (decimal_is_IsNumeral_wide n (omega (arith, fits))).0.1 within in omega (arith, digit.0, is))

-- a number
pub number_has_no_space : (n : ℕ) → n < 2 ^ 64 → HasNoSpace (decimal n)
number_has_no_space n fits = value_has_no_space n (omega (arith, fits))

-- a name that ends in a number
pub name_has_no_space : (letter n : ℕ) → letter ≢ 32 → n < 2 ^ 64 → HasNoSpace (letter ∷ decimal n)
name_has_no_space letter n other fits zero d within = other
name_has_no_space letter n other fits (suc k) d within = number_has_no_space n fits k d (omega (arith, within))

-- a text is cut in one way
pub one_cut : (a b s t : List ℕ) → HasNoSpace a → HasNoSpace b → IsTail s → IsTail t → a ++ s ≡ b ++ t → (a ≡ b) × (s ≡ t)
one_cut [] [] s t p q tail rest is = (refl, is)
one_cut [] (b ∷ bs) [] t p q tail rest is = absurd cc
one_cut [] (b ∷ bs) (c ∷ s) t p q tail rest is = absurd (All-head (λ x. x ≢ 32) b bs q (let e : c ≡ b = cc in sym e ∙ tail))
one_cut (a ∷ more) [] s [] p q tail rest is = absurd cc
one_cut (a ∷ more) [] s (c ∷ t) p q tail rest is = absurd (All-head (λ x. x ≢ 32) a more p (let e : a ≡ c = cc in e ∙ rest))
one_cut (a ∷ more) (b ∷ bs) s t p q tail rest is =
    let first : a ≡ b = cc in
    let others : more ++ s ≡ bs ++ t = cc in
    let both = one_cut more bs s t (All-tail (λ x. x ≢ 32) a more p) (All-tail (λ x. x ≢ 32) b bs q) tail rest others in
    let names : more ≡ bs = both.0 in
    (cc, both.1)

-- where a text is cut, and where it is not
pub cut_there : (text first rest : List ℕ) (r : Option (Bor (List ℕ) × Bor (List ℕ))) → IsSplitOnceResult 32 text r → HasNoSpace first → text ≡ first ++ (32 ∷ rest) → MatchOption r ⊥ (λ x. (x.0.now ≡ first) × (x.1.now ≡ rest))
cut_there text first rest r split free is = split_after 32 text first rest r split (lit< tt) is (λ i within. free i 0 within)

-- what is before a cut has no space
pub front_has_no_space : (text : List ℕ) (x : Bor (List ℕ) × Bor (List ℕ)) → IsSplitOnceResult 32 text (Some x) → (text ≡ x.0.now ++ (32 ∷ x.1.now)) × HasNoSpace x.0.now
front_has_no_space text x split =
    let parts = split_parts 32 text (Some x) split (lit< tt) in
    (parts.0, λ k d within. rw (get_or_default_zero x.0.now k d within) (parts.1 k within))

-- and where there is no cut, the whole text has none
pub whole_has_no_space : (text : List ℕ) → IsSplitOnceResult 32 text None → HasNoSpace text
whole_has_no_space text split k d within = rw (get_or_default_zero text k d within) (split_parts 32 text None split (lit< tt) k within)
