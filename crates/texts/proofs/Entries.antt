-- What follows from reading entry by entry.
use Rattle.std.proofs.Common.{arith, All, ℕ, suc, ◌≡◌, ◌≤◌, ◌<◌, ◌+◌, ◌-◌, ◌^◌, List, [], ◌∷◌, ◌++◌, inl, inr, ap, append_assoc, length, length-append, map, min, subst, ◌∙◌}
use Rattle.std.proofs.lemmas.List.{length-map}
use Rattle.texts.specs.Texts.{AreAcceptedEntries, BeginWithRows, Grammar, IsEndFault, IsEndRow, IsFirstFault, IsRow, end_row, rows_of_entries}

-- how many rows are before the end row
pub rows_before : {E C : Type 0} (g : Grammar E C) (head : List (List (List ℕ))) (entries : List E) → length (rows_of_entries g head entries) ≡ length head + length entries
rows_before g head entries = length-append head (map g.row_of entries) ∙ ap (λ n. length head + n) (length-map entries g.row_of)

-- what has been read so far are entries, and the next row is the one after them
pub read_so_far : {E C : Type 0} (g : Grammar E C) (head : List (List (List ℕ))) (entries : List E) (count start last number : ℕ) → All g.Accepts entries → count ≤ 65536 → count ≡ length entries
    → start ≡ length head → length head < 2 ^ 32 → (start < 2 ^ 32 → last ≡ start + count) → number ≡ min (last + 1) (2 ^ 64 - 1)
    → AreAcceptedEntries g entries × (number ≡ suc (length (rows_of_entries g head entries)))
read_so_far g head entries count start last number accepted few counted is_head small at next =
    ((accepted, omega (arith, few, counted)), omega (arith, next, at (omega (arith, is_head, small)), is_head, small, few, counted, rows_before g head entries))

-- a fault at the end row, or after it, is the first of the text
pub fault_at_end : {E C : Type 0} (g : Grammar E C) (bytes : List ℕ) (head : List (List (List ℕ))) (entries : List E) (last : List (List ℕ)) (number row : ℕ) (cause : C)
    → AreAcceptedEntries g entries → IsRow g.width last → IsEndRow g last → BeginWithRows bytes (rows_of_entries g head entries ++ last ∷ []) → number ≡ suc (length (rows_of_entries g head entries))
    → IsEndFault g bytes (rows_of_entries g head entries) last (length entries) number row cause → IsFirstFault g bytes head row cause
fault_at_end g bytes head entries last number row cause are is_row is_end begins at (inl wrong) =
    (entries, are, inr (inl (last, begins, wrong.0 ∙ at, inr (inl (is_row, is_end, wrong.1, wrong.2)))))
fault_at_end g bytes head entries last number row cause are is_row is_end begins at (inr late) =
    let rows : (rows_of_entries g head entries ++ last ∷ []) ++ late.2 ∷ [] ≡ rows_of_entries g head entries ++ end_row g.width (length entries) ∷ late.2 ∷ [] =
    append_assoc (rows_of_entries g head entries) (last ∷ []) (late.2 ∷ []) ∙ ap (λ (r : List (List ℕ)). rows_of_entries g head entries ++ r ∷ late.2 ∷ []) late.1 in
    (entries, are, inr (inr (late.2, subst (λ (r : List (List (List ℕ))). BeginWithRows bytes r) rows late.3, late.0 ∙ ap suc at, late.4)))
