-- Rows of a fixed number of fields.
use Rattle.std.proofs.Common.{◌≡◌, ℕ, List, [], ◌∷◌, length, refl, sym, ◌∙◌, arith, rules, Result, Ok, Err, IfOk}
use Rattle.csv.specs.Records.{field_at}
use Rattle.texts.specs.Fields.{field_of}

five_fields : (fields : List (List ℕ)) → length fields ≡ 5 → fields ≡ field_of fields 0 ∷ field_of fields 1 ∷ field_of fields 2 ∷ field_of fields 3 ∷ field_of fields 4 ∷ []
unfolding field_at
five_fields (a ∷ b ∷ c ∷ d ∷ e ∷ []) h = refl
five_fields fields h = absurd (omega arith)

four_fields : (fields : List (List ℕ)) → length fields ≡ 4 → fields ≡ field_of fields 0 ∷ field_of fields 1 ∷ field_of fields 2 ∷ field_of fields 3 ∷ []
unfolding field_at
four_fields (a ∷ b ∷ c ∷ d ∷ []) h = refl
four_fields fields h = absurd (omega arith)

pub five_fields_are : (fields : List (List ℕ)) (a b c d e : List ℕ) → length fields ≡ 5 → field_of fields 0 ≡ a → field_of fields 1 ≡ b → field_of fields 2 ≡ c → field_of fields 3 ≡ d → field_of fields 4 ≡ e → fields ≡ a ∷ b ∷ c ∷ d ∷ e ∷ []
five_fields_are fields a b c d e h is_a is_b is_c is_d is_e = rw (← is_a, ← is_b, ← is_c, ← is_d, ← is_e) (five_fields fields h)

pub four_fields_are : (fields : List (List ℕ)) (a b c d : List ℕ) → length fields ≡ 4 → field_of fields 0 ≡ a → field_of fields 1 ≡ b → field_of fields 2 ≡ c → field_of fields 3 ≡ d → fields ≡ a ∷ b ∷ c ∷ d ∷ []
four_fields_are fields a b c d h is_a is_b is_c is_d = rw (← is_a, ← is_b, ← is_c, ← is_d) (four_fields fields h)

-- the row of what was read, where its row is these fields
pub read_four : {T E : Type 0} (row : T → List (List ℕ)) (r : Result T E) (fields : List (List ℕ)) (a b c d : List ℕ) → field_of fields 0 ≡ a → field_of fields 1 ≡ b → field_of fields 2 ≡ c → field_of fields 3 ≡ d → IfOk r (λ t. row t ≡ a ∷ b ∷ c ∷ d ∷ []) → IfOk r (λ t. length fields ≡ 4 → fields ≡ row t)
read_four row (Ok t) fields a b c d is_a is_b is_c is_d says = λ h. four_fields_are fields a b c d h is_a is_b is_c is_d ∙ sym says
read_four row (Err e) fields a b c d is_a is_b is_c is_d says = search rules

-- a row of five fields that is a command after a client
pub five_fields_say : (fields rest : List (List ℕ)) (first : List ℕ) → length fields ≡ 5 → fields ≡ first ∷ rest → field_of fields 1 ∷ field_of fields 2 ∷ field_of fields 3 ∷ field_of fields 4 ∷ [] ≡ rest
five_fields_say fields rest first h is = let all = five_fields fields h in cc
