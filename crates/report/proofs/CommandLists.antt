-- The commands of clients, gathered one after another.
use Rattle.std.proofs.Common.{◌≡◌, ◌∙◌, ℕ, zero, suc, ◌+◌, ◌<◌, true, false, eqb, List, [], ◌∷◌, ◌++◌, take, length, get_or, Some, slice_get, refl, sym, ap, append-nil, arith}
use Rattle.std.proofs.lemmas.Bool.{eq-eqb, ne_eqb}
use Rattle.std.specs.Option.{option_map}
use borrow.Author.Count.{below_more}
use Rattle.record.specs.Common.{Call, Command, commands}
use Rattle.record.proofs.Lemmas.{commands_next}

module _ (calls : List Call) (i : ℕ) (call : Call) (c : ℕ) (less : i < length calls) (is : call ≡ get_or calls i call) (own : List Command) (so_far : own ≡ commands (take i calls) c) where
  -- after a call of the client
  pub own_more : call.client.0 ≡ c → (new : List Command) → new ≡ own ++ call.command ∷ [] → new ≡ commands (take (i + 1) calls) c
  own_more same new pushed = pushed ∙ ap (λ xs. xs ++ call.command ∷ []) so_far ∙ sym (commands_next calls i call c true less is (eq-eqb call.client.0 c same))

  -- after another's
  pub own_same : (call.client.0 ≡ c → ⊥) → own ≡ commands (take (i + 1) calls) c
  own_same other = so_far ∙ sym (commands_next calls i call c false less is (ne_eqb call.client.0 c other) ∙ append-nil (commands (take i calls) c))

got_before : {X : Type 0} (xs : List X) (x : X) (i : ℕ) → i < length xs → slice_get (xs ++ x ∷ []) i ≡ slice_get xs i
got_before [] x i less = absurd (omega arith)
got_before (y ∷ xs) x zero less = refl
got_before (y ∷ xs) x (suc i) less = got_before xs x i (omega (less, arith))

got_last : {X : Type 0} (xs : List X) (x : X) → slice_get (xs ++ x ∷ []) (length xs) ≡ Some x
got_last [] x = refl
got_last (y ∷ xs) x = got_last xs x

-- of one client more the commands are kept
pub kept_more : {X : Type 0} (items : X → List Command) (calls : List Call) (xs new : List X) (x : X) (n : ℕ) → length xs ≡ n
    → ((c : ℕ) → c < n → option_map items (slice_get xs c) ≡ Some (commands calls c))
    → items x ≡ commands calls n → new ≡ xs ++ x ∷ []
    → (c : ℕ) → c < n + 1 → option_map items (slice_get new c) ≡ Some (commands calls c)
kept_more {X} items calls xs new x n many kept own pushed = below_more (λ (c : ℕ). option_map items (slice_get new c) ≡ Some (commands calls c)) n before here
  where
    before : (c : ℕ) → c < n → option_map items (slice_get new c) ≡ Some (commands calls c)
    before c less = ap (λ (ys : List X). option_map items (slice_get ys c)) pushed ∙ ap (option_map items) (got_before xs x c (omega (less, many, arith))) ∙ kept c less

    here : option_map items (slice_get new n) ≡ Some (commands calls n)
    here = ap (λ (ys : List X). option_map items (slice_get ys n)) pushed ∙ ap (λ (k : ℕ). option_map items (slice_get (xs ++ x ∷ []) k)) (sym many) ∙ ap (option_map items) (got_last xs x) ∙ ap (λ (cs : List Command). Some cs) own
