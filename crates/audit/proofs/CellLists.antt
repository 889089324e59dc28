-- Lists of cells, and what an SCX-record says of one.
use Rattle.std.proofs.Common.{◌≡◌, ℕ, zero, suc, ◌+◌, ◌<◌, Bool, true, false, cond, eqb, eq-eqb, eqb-true, ◌&&◌, ◌||◌, List, [], ◌∷◌, length, get_or, slice_get, IsTrue, Some, refl, sym, ap, subst, ◌∙◌, arith}
use Rattle.std.specs.List.{Contains}
use Rattle.std.proofs.lemmas.Grind.{get_or_default_zero}
use Rattle.std.proofs.lemmas.Bool.{false≢true}
use Rattle.histories.specs.Common.{History, has, members_from, finalized_from, member, count, scx_finalizes}
use Rattle.script.specs.Part.{is_subsequence}
use Rattle.audit.specs.CellCalls.{IsOverCells}

-- what holds at each place holds of each element
pub each_contained : (P : ℕ → Type 0) (xs : List ℕ) → ((i : ℕ) → i < length xs → P (get_or xs i 0)) → (n : ℕ) → Contains xs n → P n
each_contained P xs all n x = subst P (sym (get_or_default_zero xs x.0 n x.1) ∙ x.2) (all x.0 x.1)

-- the element that was read at a place
pub item_at : (xs : List ℕ) (i x : ℕ) → i < length xs → x ≡ get_or xs i x → get_or xs i 0 ≡ x
item_at xs i x p is = sym (get_or_default_zero xs i x p) ∙ sym is

-- the element at a place
pub at_place : (xs : List ℕ) (i : ℕ) → i < length xs → slice_get xs i ≡ Some (get_or xs i 0)
at_place [] i p = absurd (omega arith)
at_place (x ∷ xs) zero p = refl
at_place (x ∷ xs) (suc i) p = at_place xs i (omega arith)

or_right : (a b : Bool) → b ≡ true → a || b ≡ true
or_right true b e = refl
or_right false b e = e

pub has_at : (xs : List ℕ) (i n : ℕ) → i < length xs → get_or xs i 0 ≡ n → has xs n ≡ true
has_at [] i n p e = absurd (omega arith)
has_at (x ∷ xs) zero n p e = rw (eq-eqb x n e) refl
has_at (x ∷ xs) (suc i) n p e = or_right (eqb x n) (has xs n) (has_at xs i n (omega arith) e)

none_step : (x n : ℕ) (b rest : Bool) → eqb x n ≡ b → (x ≡ n → ⊥) → rest ≡ false → b || rest ≡ false
none_step x n true rest e d f = absurd (d (eqb-true x n e))
none_step x n false rest e d f = f

pub has_none : (xs : List ℕ) (n : ℕ) → ((i : ℕ) → i < length xs → get_or xs i 0 ≡ n → ⊥) → has xs n ≡ false
has_none [] n none = refl
has_none (x ∷ xs) n none = none_step x n (eqb x n) (has xs n) refl (none 0 (omega arith)) (has_none xs n (λ i p. none (suc i) (omega arith)))

has_step : (x n : ℕ) (xs : List ℕ) (b : Bool) → eqb x n ≡ b → b || has xs n ≡ true → (has xs n ≡ true → Contains xs n) → Contains (x ∷ xs) n
has_step x n xs true e h rest = (0, omega arith, eqb-true x n e)
has_step x n xs false e h rest = let y = rest h in (suc y.0, omega (arith, y.1), y.2)

pub has_contained : (xs : List ℕ) (n : ℕ) → has xs n ≡ true → Contains xs n
has_contained [] n h = absurd (false≢true h)
has_contained (x ∷ xs) n h = has_step x n xs (eqb x n) refl h (has_contained xs n)

-- what a part of a list has the list has

part_step : (x y n : ℕ) (part whole : List ℕ) → ((p : List ℕ) → is_subsequence p whole ≡ true → has p n ≡ true → has whole n ≡ true) → (b : Bool) → eqb x y ≡ b → cond b (is_subsequence part whole) (is_subsequence (x ∷ part) whole) ≡ true → (d : Bool) → eqb x n ≡ d → d || has part n ≡ true → eqb y n || has whole n ≡ true
part_step x y n part whole rest true e s true f h = rw (eq-eqb y n (sym (eqb-true x y e) ∙ eqb-true x n f)) refl
part_step x y n part whole rest true e s false f h = or_right (eqb y n) (has whole n) (rest part s h)
part_step x y n part whole rest false e s d f h = or_right (eqb y n) (has whole n) (rest (x ∷ part) s (rw f h))

part_has_of : (whole part : List ℕ) (n : ℕ) → is_subsequence part whole ≡ true → has part n ≡ true → has whole n ≡ true
part_has_of whole [] n s h = absurd (false≢true h)
part_has_of [] (x ∷ part) n s h = absurd (false≢true s)
part_has_of (y ∷ whole) (x ∷ part) n s h = part_step x y n part whole (λ p. part_has_of whole p n) (eqb x y) refl s (eqb x n) refl h

pub part_has : (part whole : List ℕ) → IsTrue (is_subsequence part whole) → (n : ℕ) → has part n ≡ true → has whole n ≡ true
part_has part whole s n h = part_has_of whole part n s h

-- What an SCX-record covers and finalizes

members_are : (h : History) (s : ℕ) (cells : List ℕ) (j k : ℕ) → k ≡ length cells → ((i : ℕ) → i < k → member h s (j + i) ≡ get_or cells i 0) → members_from h s j k ≡ cells
members_are h s [] j zero e all = refl
members_are h s [] j (suc k) e all = absurd (omega arith)
members_are h s (x ∷ cells) j zero e all = absurd (omega arith)
members_are h s (x ∷ cells) j (suc k) e all =
    let here : member h s j ≡ x = subst (λ (m : ℕ). member h s m ≡ x) (omega arith) (all 0 (omega arith)) in
    let behind : members_from h s (suc j) k ≡ cells = members_are h s cells (suc j) k (omega arith) (λ i p. subst (λ (m : ℕ). member h s m ≡ get_or cells i 0) (omega arith) (all (suc i) (omega arith))) in
    rw (here, behind) refl

has_if : (f : Bool) (m n : ℕ) (rest : List ℕ) → has (cond f (m ∷ rest) rest) n ≡ cond f (eqb m n || has rest n) (has rest n)
has_if true m n rest = refl
has_if false m n rest = refl

both : (f d whole removed rest : Bool) → (d ≡ true → f ≡ removed) → rest ≡ whole && removed → cond f (d || rest) rest ≡ (d || whole) && removed
both true true whole true rest p q = refl
both true true whole false rest p q = p refl
both true false whole removed rest p q = q
both false true whole true rest p q = absurd (false≢true (p refl))
both false true true false rest p q = q
both false true false false rest p q = q
both false false whole removed rest p q = q

removed_are : (h : History) (s : ℕ) (cells removed : List ℕ) (n j k : ℕ) → k ≡ length cells → ((i : ℕ) → i < k → member h s (j + i) ≡ get_or cells i 0) → ((i : ℕ) → i < k → scx_finalizes h s (j + i) ≡ has removed (get_or cells i 0)) → has (finalized_from h s j k) n ≡ has cells n && has removed n
removed_are h s [] removed n j zero e all fin = refl
removed_are h s [] removed n j (suc k) e all fin = absurd (omega arith)
removed_are h s (x ∷ cells) removed n j zero e all fin = absurd (omega arith)
removed_are h s (x ∷ cells) removed n j (suc k) e all fin =
    let here : member h s j ≡ x = subst (λ (m : ℕ). member h s m ≡ x) (omega arith) (all 0 (omega arith)) in
    let final : scx_finalizes h s j ≡ has removed x = subst (λ (m : ℕ). scx_finalizes h s m ≡ has removed x) (omega arith) (fin 0 (omega arith)) in
    let behind : has (finalized_from h s (suc j) k) n ≡ has cells n && has removed n = removed_are h s cells removed n (suc j) k (omega arith) (λ i p. subst (λ (m : ℕ). member h s m ≡ get_or cells i 0) (omega arith) (all (suc i) (omega arith))) (λ i p. subst (λ (m : ℕ). scx_finalizes h s m ≡ has removed (get_or cells i 0)) (omega arith) (fin (suc i) (omega arith))) in
    has_if (scx_finalizes h s j) (member h s j) n (finalized_from h s (suc j) k) ∙ both (scx_finalizes h s j) (eqb (member h s j) n) (has cells n) (has removed n) (has (finalized_from h s (suc j) k) n) (λ d. final ∙ ap (has removed) (sym here ∙ eqb-true (member h s j) n d)) behind ∙ ap (λ (m : ℕ). (eqb m n || has cells n) && has removed n) here

and_part : (whole removed : Bool) → (removed ≡ true → whole ≡ true) → whole && removed ≡ removed
and_part true removed p = refl
and_part false true p = absurd (false≢true (p refl))
and_part false false p = refl

pub over_cells : (h : History) (s : ℕ) (cells removed : List ℕ) → count h s ≡ length cells → ((n : ℕ) → has removed n ≡ true → has cells n ≡ true) → ((i : ℕ) → i < count h s → (member h s i ≡ get_or cells i 0) × (scx_finalizes h s i ≡ has removed (get_or cells i 0))) → IsOverCells h s cells removed
over_cells h s cells removed many part all = record {
  members = members_are h s cells 0 (count h s) many (λ i p. subst (λ (m : ℕ). member h s m ≡ get_or cells i 0) (omega arith) (all i p).0);
  finalizes = λ n. removed_are h s cells removed n 0 (count h s) many (λ i p. subst (λ (m : ℕ). member h s m ≡ get_or cells i 0) (omega arith) (all i p).0) (λ i p. subst (λ (m : ℕ). scx_finalizes h s m ≡ has removed (get_or cells i 0)) (omega arith) (all i p).1) ∙ and_part (has cells n) (has removed n) (part n);
}
