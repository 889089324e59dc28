-- Forks that part keys at a bit, as words show them: the keys of their sides, and where a fresh
-- fork between two keys stands.
use Rattle.std.proofs.Common.{◌≡◌, ◌≢◌, ℕ, ◌-◌, ◌^◌, ◌<◌, ◌≤◌, true, false, ◌⊎◌, ◌↔◌, inl, inr, refl, sym, ◌∙◌, arith, ne_eqb, lt-ltb, le-ltb, pow_pos}
use Rattle.std.proofs.lemmas.Bool.{cases_order}
use native.Mathlib.Decide.{ℕ_discrete}
use Rattle.histories.specs.Common.{Side, Left, Right, Word, node, first_key}
use Rattle.ordered_map.specs.TreeWords.{class, is_leaf, level, rank, toward, opposite}
use Rattle.ordered_map.specs.Bits.{side_from, side_to, Shares, IsParted, Keeps, IsInSpan, PartsKeys}
use Rattle.ordered_map.proofs.Spanned.{low_from, low_to}
use Rattle.ordered_map.proofs.Spans.{IsSpanIn, span_small, parts_left, parts_right, above_left, above_right}
use Rattle.ordered_map.proofs.Trees.{split_at}

-- the key k may stand on this side of the fork n
abbrev pub IsOnSide : (Word → ℕ) → ℕ → Side → ℕ → Type 0
IsOnSide f n side k = (side_from f n side ≤ k) × (k < side_to f n side)

-- the key of a fork
abbrev pub key_of : (Word → ℕ) → ℕ → ℕ
key_of f n = f (node n first_key)

module _ (f : Word → ℕ) where
  -- The bounds of sides above all keys

  pub high_from : (n : ℕ) → class f n ≢ 0 → (side_from f n Left ≡ 0) × (side_from f n Right ≡ 2 ^ 64)
  high_from n high = let e = ne_eqb (class f n) 0 high in (rw e refl, rw e refl)

  pub high_to : (n : ℕ) → class f n ≢ 0 → (side_to f n Left ≡ 2 ^ 64) × (side_to f n Right ≡ 2 ^ 64)
  high_to n high = let e = ne_eqb (class f n) 0 high in (rw e refl, rw e refl)

  -- a key shares a fork of class 0 if it is in the span of its key
  pub shares_span : (n k : ℕ) → class f n ≡ 0 → Shares f n k ↔ IsInSpan (key_of f n) (level f n) k
  shares_span n k low =
      let from = low_from f n low in
      let to = low_to f n low in
      (λ s. (omega (arith, from, s), omega (arith, to, s)), λ s. (omega (arith, from, s), omega (arith, to, s)))

  -- a key of the map that shares a fork may stand on the side to which its search turns there
  pub own_side : (n k : ℕ) → k < 2 ^ 64 → Shares f n k → IsOnSide f n (toward f n k) k
  own_side n k small s = go (ℕ_discrete (class f n) 0)
    where
      turn : class f n ≡ 0 → (k < rank f n) ⊎ (rank f n ≤ k) → IsOnSide f n (toward f n k) k
      turn low (inl l) = let to = low_to f n low in rw (lt-ltb k (rank f n) l) (s.0, omega (arith, to, low, l))
      turn low (inr l) = let from = low_from f n low in rw (le-ltb k (rank f n) l) (omega (arith, from, low, l), s.1)

      go : Dec (class f n ≡ 0) → IsOnSide f n (toward f n k) k
      go (yes low) = turn low (split_at k (rank f n))
      go (no high) = let to = high_to n high in rw (lt-ltb k (rank f n) (omega (arith, high, small))) (s.0, omega (arith, to, small))

  -- a fork of class 0 keeps to a side if its span lies there
  pub span_keeps : (n : ℕ) (side : Side) (c : ℕ) → is_leaf f c ≡ false → class f c ≡ 0 → IsSpanIn (side_from f n side) (side_to f n side) (key_of f c) (level f c) → Keeps f n side c
  span_keeps n side c fork low s =
      let from = low_from f c low in
      let to = low_to f c low in
      record { fork = λ _ _. (omega (arith, from, s), omega (arith, to, s)); leaf = λ d _. absurd (apart d); last = λ d _. absurd (apart d) }
    where
      apart : is_leaf f c ≡ true → ⊥
      apart d = let x : true ≡ false = sym d ∙ fork in cc

  -- and only then
  pub keeps_span : (n : ℕ) (side : Side) (c : ℕ) → is_leaf f c ≡ false → class f c ≡ 0 → Keeps f n side c → IsSpanIn (side_from f n side) (side_to f n side) (key_of f c) (level f c)
  keeps_span n side c fork low k =
      let from = low_from f c low in
      let to = low_to f c low in
      let s = k.fork fork low in
      (omega (arith, from, s), omega (arith, to, s))

  -- The fork between two keys

  -- if both may stand on a side of a fork, it is on a greater level, and its span in that side
  between_on : (n : ℕ) (side : Side) (j k y m : ℕ) → IsParted f n → PartsKeys j k y m → IsOnSide f n side j → IsOnSide f n side k → (level f n < m) × IsSpanIn (side_from f n side) (side_to f n side) y m
  between_on n side j k y m parted parts a b = go side a b (ℕ_discrete (class f n) 0)
    where
      go : (side : Side) → IsOnSide f n side j → IsOnSide f n side k → Dec (class f n ≡ 0) → (level f n < m) × IsSpanIn (side_from f n side) (side_to f n side) y m
      go Left a b (yes low) =
          let from = low_from f n low in
          let to = low_to f n low in
          let x = parts_left (key_of f n) (level f n) j k y m (parted.key low) parts (omega (arith, from, a)) (omega (arith, to, b)) in
          (x.0, (omega (arith, from, x), omega (arith, to, x)))
      go Right a b (yes low) =
          let from = low_from f n low in
          let to = low_to f n low in
          let x = parts_right (key_of f n) (level f n) j k y m (parted.key low) parts (omega (arith, from, a)) (omega (arith, to, b)) in
          (x.0, (omega (arith, from, x), omega (arith, to, x)))
      go Left a b (no high) =
          let from = high_from n high in
          let to = high_to n high in
          let x = span_small y m parts.fork (omega (arith, parts.above, to, b)) in
          (omega (arith, parted.top high, high, parts.fork.high), (omega (arith, from), omega (arith, to, x)))
      go Right a b (no high) = absurd (let from = high_from n high in let to = high_to n high in omega (arith, from, to, a))

  pub between_keeps : (n : ℕ) (side : Side) (c j k : ℕ) → IsParted f n → is_leaf f c ≡ false → class f c ≡ 0 → PartsKeys j k (key_of f c) (level f c) → IsOnSide f n side j → IsOnSide f n side k → Keeps f n side c × (level f n < level f c)
  between_keeps n side c j k parted fork low parts a b =
      let x = between_on n side j k (key_of f c) (level f c) parted parts a b in
      (span_keeps n side c fork low x.1, x.0)

  -- A fork above another

  -- the key of a fork and another key, on whatever side that is
  abbrev pub PartsFrom : ℕ → ℕ → ℕ → Type 0
  PartsFrom u c k = PartsKeys k (key_of f u) (key_of f c) (level f c) ⊎ PartsKeys (key_of f u) k (key_of f c) (level f c)

  -- a key that does not share it is another, so that `fork_between` says which comes first
  pub either_first : (u c k : ℕ) → class f u ≡ 0 → ¬ Shares f u k → (k < key_of f u → PartsKeys k (key_of f u) (key_of f c) (level f c)) → (key_of f u < k → PartsKeys (key_of f u) k (key_of f c) (level f c)) → PartsFrom u c k
  either_first u c k low outside rising falling = go (cases_order k (key_of f u))
    where
      go : (k ≡ key_of f u) ⊎ ((k < key_of f u) ⊎ (key_of f u < k)) → PartsFrom u c k
      go (inl e) = absurd (let r = pow_pos (65 - level f u) in outside ((shares_span u k low).1 (omega (arith, e), omega (arith, e, r))))
      go (inr (inl l)) = inl (rising l)
      go (inr (inr l)) = inr (falling l)

  -- if it does not share the fork, that between them is on a lower level, and has the fork on one
  -- side, the key on the other
  pub above_keeps : (u c k : ℕ) → IsParted f u → is_leaf f u ≡ false → class f u ≡ 0 → class f c ≡ 0 → ¬ Shares f u k → PartsFrom u c k → Keeps f c (opposite (toward f c k)) u × (level f c < level f u) × IsOnSide f c (toward f c k) k
  above_keeps u c k parted fork low zero apart = go
    where
      outside : ¬ IsInSpan (key_of f u) (level f u) k
      outside s = apart ((shares_span u k low).1 s)

      go : PartsFrom u c k → Keeps f c (opposite (toward f c k)) u × (level f c < level f u) × IsOnSide f c (toward f c k) k
      go (inl parts) =
          let x = above_left (key_of f u) (level f u) k (key_of f c) (level f c) (parted.key low) outside parts in
          let from = low_from f c zero in
          let to = low_to f c zero in
          rw (lt-ltb k (rank f c) (omega (arith, zero, parts.below))) (span_keeps c Right u fork low (omega (arith, from, x), omega (arith, to, x)), x.0, (omega (arith, from, parts.first), omega (arith, to, parts.below)))
      go (inr parts) =
          let x = above_right (key_of f u) (level f u) k (key_of f c) (level f c) (parted.key low) outside parts in
          let from = low_from f c zero in
          let to = low_to f c zero in
          rw (le-ltb k (rank f c) (omega (arith, zero, parts.above))) (span_keeps c Left u fork low (omega (arith, from, x), omega (arith, to, x)), x.0, (omega (arith, from, parts.above), omega (arith, to, parts.last)))

  -- where the fork keeps to a side of another, on which the key may stand, so does that between
  -- them
  pub above_in : (n : ℕ) (side : Side) (u c k : ℕ) → IsParted f n → is_leaf f u ≡ false → class f u ≡ 0 → Keeps f n side u → IsOnSide f n side k → is_leaf f c ≡ false → class f c ≡ 0 → PartsFrom u c k → Keeps f n side c × (level f n < level f c)
  above_in n side u c k parted fork low keeps on new zero = go
    where
      own : IsOnSide f n side (key_of f u)
      own = let s = keeps_span n side u fork low keeps in let r = pow_pos (65 - level f u) in (omega (arith, s), omega (arith, s, r))

      go : PartsFrom u c k → Keeps f n side c × (level f n < level f c)
      go (inl parts) = between_keeps n side c k (key_of f u) parted new zero parts on own
      go (inr parts) = between_keeps n side c (key_of f u) k parted new zero parts own on
