-- Rows whose fields csv writes as they are.
use Rattle.std.proofs.Common.{◌≡◌, ℕ, ◌+◌, ◌%◌, ◌<◌, ◌^◌, ◌∙◌, List, [], ◌∷◌, ◌++◌, ap, append_assoc, arith, refl, decimal, ◌||◌, ne_eqb}
use Rattle.std.proofs.lemmas.List.Folds.{list_any-append}
use Rattle.std.proofs.lemmas.Fmt.{decimal_by_steps_wide}
use Rattle.csv.specs.Writing.{default_writer, field_text, fields_text, is_blank, needs_byte, needs_quotes, row_text}
use Rattle.texts.specs.Sheets.{ArePlain, IsPlain, plain_line}

-- a digit calls for no quotes
digit_is_plain : (d : ℕ) → d < 10 → IsPlain ((48 + d) ∷ [])
digit_is_plain d small =
    let comma = ne_eqb (48 + d) 44 (λ e. omega (arith, e)) in
    let quote = ne_eqb (48 + d) 34 (λ e. omega (arith, e)) in
    let line = ne_eqb (48 + d) 10 (λ e. omega (arith, e)) in
    let back = ne_eqb (48 + d) 13 (λ e. omega (arith, e)) in
    rw (comma, quote, line, back) refl

-- text after text
pub plain_append : (xs ys : List ℕ) → IsPlain xs → IsPlain ys → IsPlain (xs ++ ys)
plain_append xs ys p q = list_any-append (needs_byte default_writer) xs ys ∙ ap (λ b. b || needs_quotes default_writer ys) p ∙ q

-- numbers are plain
pub plain_number : (n : ℕ) → n < 10 ^ 64 → IsPlain (decimal n)
plain_number n short =
    decimal_by_steps_wide (λ n ds. IsPlain ds) (λ d small. digit_is_plain d small) (λ n ds large rest. plain_append ds ((48 + n % 10) ∷ []) rest (digit_is_plain (n % 10) (omega arith))) n short

-- a plain field is written as it is
field_is : (field : List ℕ) → IsPlain field → field_text default_writer field ≡ field
field_is field plain = rw plain refl

-- and so are plain fields after others
fields_are : (field : List ℕ) (rest : List (List ℕ)) → ArePlain rest → field ++ (fields_text default_writer rest ++ 10 ∷ []) ≡ plain_line (field ∷ rest)
unfolding fields_text
fields_are field [] plain = refl
fields_are field (next ∷ rest) plain =
    ap (λ text. field ++ 44 ∷ text)
    (ap (λ text. (text ++ fields_text default_writer rest) ++ 10 ∷ []) (field_is next plain.0)
    ∙ append_assoc next (fields_text default_writer rest) (10 ∷ [])
    ∙ fields_are next rest plain.1)

-- the line of a row of plain fields
pub plain_row : (first second : List ℕ) (rest : List (List ℕ)) → ArePlain (first ∷ second ∷ rest) → row_text default_writer (first ∷ second ∷ rest) ≡ plain_line (first ∷ second ∷ rest)
unfolding is_blank
plain_row first second rest plain =
    ap (λ text. (text ++ fields_text default_writer (second ∷ rest)) ++ 10 ∷ []) (field_is first plain.0)
    ∙ append_assoc first (fields_text default_writer (second ∷ rest)) (10 ∷ [])
    ∙ fields_are first (second ∷ rest) plain.1
