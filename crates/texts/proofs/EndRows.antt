-- End rows, field by field.
use Rattle.std.proofs.Common.{◌≡◌, ℕ, zero, suc, ◌-◌, ◌<◌, ◌≤◌, List, [], ◌∷◌, length, replicate, codes, decimal, refl, arith}
use Rattle.csv.specs.Records.{field_at}
use Rattle.texts.specs.Fields.{field_of}
use Rattle.texts.specs.Texts.{end_row}

-- fields that are all empty
blank : (fields : List (List ℕ)) → ((j : ℕ) → j < length fields → field_of fields j ≡ []) → fields ≡ replicate (length fields) []
unfolding field_at
blank [] empty = refl
blank (f ∷ fs) empty =
    let first : f ≡ [] = empty 0 (omega arith) in
    let rest : fs ≡ replicate (length fs) [] = blank fs (λ j within. empty (suc j) (omega (arith, within))) in cc

-- a row whose fields are those of an end row is one
pub is_end_row : (fields : List (List ℕ)) (width count : ℕ) → 2 ≤ width → length fields ≡ width → field_of fields 0 ≡ codes "end" → field_of fields 1 ≡ decimal count → ((j : ℕ) → 2 ≤ j → j < width → field_of fields j ≡ []) → fields ≡ end_row width count
unfolding field_at
is_end_row [] width count wide long named counted empty = absurd (omega (arith, wide, long))
is_end_row (a ∷ []) width count wide long named counted empty = absurd (omega (arith, wide, long))
is_end_row (a ∷ b ∷ rest) width count wide long named counted empty =
    let none : rest ≡ replicate (length rest) [] = blank rest (λ j within. empty (suc (suc j)) (omega arith) (omega (arith, within, long))) in
    let left : width - 2 ≡ length rest = omega (arith, long) in
    rw left (let e = none in cc)

nothing_behind : (n j : ℕ) → field_of (replicate n []) j ≡ []
unfolding field_at
nothing_behind zero j = refl
nothing_behind (suc n) zero = refl
nothing_behind (suc n) (suc j) = nothing_behind n j

-- what an end row has after its name and its count
pub empty_behind : (width count j : ℕ) → 2 ≤ j → field_of (end_row width count) j ≡ []
unfolding field_at
empty_behind width count zero far = absurd (omega (arith, far))
empty_behind width count (suc zero) far = absurd (omega (arith, far))
empty_behind width count (suc (suc j)) far = nothing_behind (width - 2) j

pub counts_entries : (width count : ℕ) → field_of (end_row width count) 1 ≡ decimal count
unfolding field_at
counts_entries width count = refl
