-- Counting the numbers below a bound for which something is true.
use Rattle.std.proofs.Common.{◌≡◌, ◌≢◌, ℕ, zero, suc, ◌+◌, ◌<◌, Bool, true, false, inl, inr, refl, sym, ap, arith}
use Rattle.std.proofs.lemmas.Bool.{cases_order}

abbrev pub bit : Bool → ℕ
bit true = 1
bit false = 0

unfoldable pub count : ℕ → (ℕ → Bool) → ℕ
count zero f = 0
count (suc n) f = bit (f n) + count n f

pub count_same : (n : ℕ) (f g : ℕ → Bool) → ((j : ℕ) → f j ≡ g j) → count n f ≡ count n g
unfolding count
count_same zero f g e = refl
count_same (suc n) f g e = rw (e n, count_same n f g e) refl

-- where they agree at all numbers below
same_below : (n : ℕ) (f g : ℕ → Bool) → ((j : ℕ) → j < n → f j ≡ g j) → count n f ≡ count n g
unfolding count
same_below zero f g e = refl
same_below (suc n) f g e = rw (e n (omega arith), same_below n f g (λ j i. e j (omega (i, arith)))) refl

-- where they agree but at one number
pub count_changed : (n k : ℕ) (f g : ℕ → Bool) → k < n → ((j : ℕ) → j ≢ k → f j ≡ g j) → count n f + bit (g k) ≡ count n g + bit (f k)
unfolding count
count_changed zero k f g i e = absurd (omega (i, arith))
count_changed (suc n) k f g i e = elim (cases_order n k) [
  | inl q ↦ rw (sym q) (newest q)
  | inr (inl q) ↦ absurd (omega (q, i, arith))
  | inr (inr q) ↦ older q (count_changed n k f g q e)
]
  where
    newest : n ≡ k → (bit (f n) + count n f) + bit (g n) ≡ (bit (g n) + count n g) + bit (f n)
    newest q =
        let s = same_below n f g (λ j l. e j (λ r. omega (r, q, l, arith))) in
        omega (s, arith)

    older : k < n → count n f + bit (g k) ≡ count n g + bit (f k) → (bit (f n) + count n f) + bit (g k) ≡ (bit (g n) + count n g) + bit (f k)
    older q s =
        let t : bit (f n) ≡ bit (g n) = ap bit (e n (λ r. omega (r, q, arith))) in
        omega (s, t, arith)

-- where it is true of none
pub count_nothing : (n : ℕ) (f : ℕ → Bool) → ((j : ℕ) → f j ≡ false) → count n f ≡ 0
unfolding count
count_nothing zero f e = refl
count_nothing (suc n) f e = let r = count_nothing n f e in rw (e n) (omega (r, arith))

none_left : (b : Bool) (m : ℕ) → bit b + m ≡ 0 → b ≡ false
none_left true m e = absurd (omega (e, arith))
none_left false m e = refl

-- and where none is counted
pub nothing_counted : (n : ℕ) (f : ℕ → Bool) → count n f ≡ 0 → (j : ℕ) → j < n → f j ≡ false
unfolding count
nothing_counted zero f e j i = absurd (omega (i, arith))
nothing_counted (suc n) f e j i = elim (cases_order j n) [
  | inl q ↦ rw q (none_left (f n) (count n f) e)
  | inr (inl q) ↦ nothing_counted n f (omega (e, arith)) j q
  | inr (inr q) ↦ absurd (omega (q, i, arith))
]
