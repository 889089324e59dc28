-- The keys that calls may change are known.
use Rattle.std.proofs.Common.{◌≡◌, ◌≢◌, ℕ, ◌+◌, ◌<◌, inl, inr, ⊎_elim, List, length, reverse, get_or, Option, Some, None, IsSome, IfSome, refl, sym, ◌∙◌, ap, subst, arith, unwrap_or}
use Rattle.std.proofs.lemmas.Bool.{cases_order, cases_eq}
use Rattle.std.proofs.lemmas.List.{get_or_default}
use Rattle.std.specs.Ordering.{nat_cmp}
use Rattle.std.specs.BTreeMap.{get as get_newest}
use Rattle.record.specs.Common.{get, Call, map_at, written_log}
use Rattle.record.specs.declared.record.Line.{Line}
use Rattle.linearization.specs.Changed.{changed_key}
use Rattle.linearization.specs.Entries.{AreEntries}
use Rattle.linearization.specs.Links.{latest}
use Rattle.linearization.specs.Places.{changes, HoldsOfKey, Knows}
use Rattle.linearization.specs.declared.places.Places.{Places}
use Rattle.linearization.proofs.Chains.{never}
use Rattle.linearization.proofs.Values.{value_is}

wider_key : (P Q : ℕ → Type 0) (key : Option ℕ) → ((k : ℕ) → P k → Q k) → IfSome key P → IfSome key Q
wider_key P Q (Some k) wider x = wider k x
wider_key P Q None wider x = tt

-- P holds of the keys of the first n calls
abbrev pub HoldOfFirst : (ℕ → Type 0) → ℕ → List Call → Type 0
HoldOfFirst P n calls = (k : ℕ) (d : Call) → k < n → HoldsOfKey P (get_or calls k d).command

-- of one more, by what holds of its key
pub keys_more : (P Q : ℕ → Type 0) (n : ℕ) (calls : List Call) → ((key : ℕ) → P key → Q key) → ((d : Call) → HoldsOfKey Q (get_or calls n d).command) → HoldOfFirst P n calls → HoldOfFirst Q (n + 1) calls
keys_more P Q n calls wider newest x k d i = elim (cases_order k n) [ inl q ↦ subst (λ j. HoldsOfKey Q (get_or calls j d).command) (sym q) (newest d) | inr (inl q) ↦ wider_key P Q (changed_key (get_or calls k d).command) wider (x k d q) | inr (inr q) ↦ absurd (omega (q, i, arith)) ]

-- a key that a map has is still there once another, or the same, is put
pub still_some : (old_get new_get : ℕ → Option (Option ℕ)) (put : ℕ) (value : Option ℕ) → new_get put ≡ Some value → ((key : ℕ) → put ≢ key → new_get key ≡ old_get key) → (key : ℕ) → IsSome (old_get key) → IsSome (new_get key)
still_some old_get new_get put value own others key x = ⊎_elim (λ e. subst (λ j. IsSome (new_get j)) e (rw own refl)) (λ ne. rw (others key ne) x) (cases_eq put key)

-- and where none has a newest place, none has one then
pub still_none : (old_get new_get : ℕ → Option (Option ℕ)) (put : ℕ) → new_get put ≡ Some None → ((key : ℕ) → put ≢ key → new_get key ≡ old_get key) → ((key : ℕ) → unwrap_or (old_get key) None ≡ None) → (key : ℕ) → unwrap_or (new_get key) None ≡ None
still_none old_get new_get put own others x key = ⊎_elim (λ e. subst (λ j. unwrap_or (new_get j) None ≡ None) e (rw own refl)) (λ ne. rw (others key ne) (x key)) (cases_eq put key)

-- the call at a place, whichever is put in for what is past the end
same_call : (calls : List Call) (n : ℕ) (call d : Call) → n < length calls → call ≡ get_or calls n call → get_or calls n d ≡ call
same_call calls n call d i e = get_or_default calls n d call i ∙ sym e

-- P holds of the key of the call at this place
pub newest_key : (P : ℕ → Type 0) (calls : List Call) (n : ℕ) (call : Call) (key : Option ℕ) → n < length calls → call ≡ get_or calls n call → key ≡ changed_key call.command → IfSome key P → (d : Call) → HoldsOfKey P (get_or calls n d).command
newest_key P calls n call key i e is x d = subst (λ (o : Option ℕ). IfSome o P) (is ∙ ap (λ (k : Call). changed_key k.command) (sym (same_call calls n call d i e))) x

some_known : (o : Option (Option ℕ)) → unwrap_or o None ≢ None → IsSome o
some_known (Some at) x = refl
some_known None x = absurd (x refl)

-- a key that has a value after some turn is known
pub knows_told : (p : Places) (calls : List Call) (lines : List Line) (m key value : ℕ) → AreEntries calls lines (changes p) → get key (map_at calls lines m) ≡ Some value → Knows p key
knows_told p calls lines m key value are has =
    some_known (get_newest nat_cmp p.newest key) (λ none.
    let never_put : latest key (reverse p.list.items) ≡ None = sym (p.newest_are key) ∙ none in
    let y : None ≡ Some value = sym (never key m (reverse p.list.items) never_put) ∙ sym (value_is calls (written_log lines) (changes p) key m are) ∙ has in
    cc)
