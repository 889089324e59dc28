-- How many calls a client has.
use Rattle.std.proofs.Common.{◌≡◌, ◌∙◌, ℕ, suc, ◌+◌, ◌<◌, ◌≤◌, Bool, true, false, cond, eqb, List, [], ◌∷◌, length, get_or, set, take, arith, refl, sym, ap, subst, length-append, get_or-set_other}
use Rattle.std.proofs.lemmas.Bool.{eqb-true, eqb-false}
use Rattle.std.proofs.lemmas.Grind.{get_or-set_at}
use Rattle.record.specs.Common.{Call, Command, commands}
use Rattle.record.proofs.Lemmas.{commands_more}
use Rattle.runner.specs.Turns.{call_count}

cond_few : (b : Bool) (x : Command) (xs : List Command) (n : ℕ) → length xs ≤ n → length (cond b (x ∷ xs) xs) ≤ suc n
cond_few true x xs n less = omega (arith, less)
cond_few false x xs n less = omega (arith, less)

-- no more than there are
pub calls_few : (calls : List Call) (c : ℕ) → call_count calls c ≤ length calls
calls_few [] c = omega arith
calls_few (x ∷ xs) c = cond_few (eqb x.client.0 c) x.command (commands xs c) (length xs) (calls_few xs c)

one : (b : Bool) (x : Command) → length (cond b (x ∷ []) []) ≡ cond b 1 0
one true x = refl
one false x = refl

-- with the next call
more_calls : (calls : List Call) (i : ℕ) (call : Call) (k : ℕ) → i < length calls → call ≡ get_or calls i call → call_count (take (i + 1) calls) k ≡ call_count (take i calls) k + cond (eqb call.client.0 k) 1 0
more_calls calls i call k less is = subst (λ (y : Call). call_count (take (i + 1) calls) k ≡ call_count (take i calls) k + cond (eqb y.client.0 k) 1 0) (sym is)
    (ap length (commands_more calls i call k less) ∙ length-append (commands (take i calls) k) (commands (get_or calls i call ∷ []) k) ∙ ap (λ n. call_count (take i calls) k + n) (one (eqb (get_or calls i call).client.0 k) (get_or calls i call).command))

-- a number that is one more
set_one : (counts : List ℕ) (client k : ℕ) → client < length counts → get_or (set counts client (get_or counts client 0 + 1)) k 0 ≡ get_or counts k 0 + cond (eqb client k) 1 0
set_one counts client k less = go (eqb client k) refl
  where
    go : (b : Bool) → eqb client k ≡ b → get_or (set counts client (get_or counts client 0 + 1)) k 0 ≡ get_or counts k 0 + cond b 1 0
    go true e = let is = eqb-true client k e in get_or-set_at counts client k (get_or counts client 0 + 1) 0 (sym is) less ∙ ap (λ n. get_or counts n 0 + 1) is
    go false e = let rest : get_or counts k 0 ≡ get_or counts k 0 + 0 = omega arith in get_or-set_other counts client k (get_or counts client 0 + 1) 0 (λ is. eqb-false client k e (sym is)) ∙ rest

-- the counts after the next call, which is of one of the clients counted
pub counted : (calls : List Call) (i : ℕ) (call : Call) (counts : List ℕ) → i < length calls → call ≡ get_or calls i call → call.client.0 < length counts → ((k : ℕ) → k < length counts → get_or counts k 0 ≡ call_count (take i calls) k) → (k : ℕ) → k < length counts → get_or (set counts call.client.0 (get_or counts call.client.0 0 + 1)) k 0 ≡ call_count (take (i + 1) calls) k
counted calls i call counts less is inside so k below = set_one counts call.client.0 k inside ∙ ap (λ n. n + cond (eqb call.client.0 k) 1 0) (so k below) ∙ sym (more_calls calls i call k less is)

-- or of no such client
pub not_counted : (calls : List Call) (i : ℕ) (call : Call) (counts : List ℕ) → i < length calls → call ≡ get_or calls i call → length counts ≤ call.client.0 → ((k : ℕ) → k < length counts → get_or counts k 0 ≡ call_count (take i calls) k) → (k : ℕ) → k < length counts → get_or counts k 0 ≡ call_count (take (i + 1) calls) k
not_counted calls i call counts less is beyond so k below = so k below ∙ go (eqb call.client.0 k) refl ∙ sym (more_calls calls i call k less is)
  where
    go : (b : Bool) → eqb call.client.0 k ≡ b → call_count (take i calls) k ≡ call_count (take i calls) k + cond b 1 0
    go true e = let e = eqb-true call.client.0 k e in absurd (omega (arith, e, beyond, below))
    go false e = omega arith
