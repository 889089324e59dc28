-- What a plan word packs can be read from it.
use Rattle.std.proofs.Common.{◌≡◌, ℕ, zero, suc, ◌+◌, ◌*◌, ◌/◌, ◌%◌, ◌^◌, ◌<◌, ◌≤◌, Bool, true, false, eqb, eq-eqb, ne_eqb, List, [], ◌∷◌, length, get_or, refl, ◌∙◌, ap, arith}
use Rattle.arena.specs.declared.word.Side.{Side}
use Rattle.arena.specs.declared.word.Side.TheVariants.{Left, Right}
use Rattle.arena.specs.ScxRecords.{count_of, plan_finalizes, field_index_of, side_of, side_no, bit, removed_bits}
use Rattle.arena.proofs.Plans.{count_is}

bit_small : (b : Bool) → bit b ≤ 1
bit_small true = omega arith
bit_small false = omega arith

side_small : (side : Side) → side_no side ≤ 1
side_small Left = omega arith
side_small Right = omega arith

-- a bit as it is read
bit_is : (x : ℕ) (b : Bool) → x ≡ bit b → eqb x 1 ≡ b
bit_is x true e = eq-eqb x 1 e
bit_is x false e = ne_eqb x 1 (λ f. omega arith)

-- four bits are less than 16
bits_small : (bs : List Bool) → length bs ≡ 4 → removed_bits bs < 16
bits_small [] l = absurd (omega arith)
bits_small (a ∷ []) l = absurd (omega arith)
bits_small (a ∷ b ∷ []) l = absurd (omega arith)
bits_small (a ∷ b ∷ c ∷ []) l = absurd (omega arith)
bits_small (a ∷ b ∷ c ∷ d ∷ []) l = omega (arith, bit_small a, bit_small b, bit_small c, bit_small d)
bits_small (a ∷ b ∷ c ∷ d ∷ e ∷ bs) l = absurd (omega arith)

-- as many bits as there are nodes, if none after them is set
bits_within : (n : ℕ) (bs : List Bool) → length bs ≡ 4 → 0 < n → n ≤ 4 → ((j : ℕ) → n ≤ j → j < 4 → get_or bs j false ≡ false) → removed_bits bs < 2 ^ n
bits_within n [] l s f none = absurd (omega arith)
bits_within n (a ∷ []) l s f none = absurd (omega arith)
bits_within n (a ∷ b ∷ []) l s f none = absurd (omega arith)
bits_within n (a ∷ b ∷ c ∷ []) l s f none = absurd (omega arith)
bits_within zero (a ∷ b ∷ c ∷ d ∷ []) l s f none = absurd (omega arith)
bits_within (suc zero) (a ∷ b ∷ c ∷ d ∷ []) l s f none =
    let y : bit b ≡ 0 = ap bit (none 1 (omega arith) (omega arith)) in
    let z : bit c ≡ 0 = ap bit (none 2 (omega arith) (omega arith)) in
    let w : bit d ≡ 0 = ap bit (none 3 (omega arith) (omega arith)) in
    omega (arith, bit_small a)
bits_within (suc (suc zero)) (a ∷ b ∷ c ∷ d ∷ []) l s f none =
    let z : bit c ≡ 0 = ap bit (none 2 (omega arith) (omega arith)) in
    let w : bit d ≡ 0 = ap bit (none 3 (omega arith) (omega arith)) in
    omega (arith, bit_small a, bit_small b)
bits_within (suc (suc (suc zero))) (a ∷ b ∷ c ∷ d ∷ []) l s f none =
    let w : bit d ≡ 0 = ap bit (none 3 (omega arith) (omega arith)) in
    omega (arith, bit_small a, bit_small b, bit_small c)
bits_within (suc (suc (suc (suc zero)))) (a ∷ b ∷ c ∷ d ∷ []) l s f none = omega (arith, bit_small a, bit_small b, bit_small c, bit_small d)
bits_within (suc (suc (suc (suc (suc n))))) (a ∷ b ∷ c ∷ d ∷ []) l s f none = absurd (omega arith)
bits_within n (a ∷ b ∷ c ∷ d ∷ e ∷ bs) l s f none = absurd (omega arith)

-- one of the four bits of a number
digit : (p n a b c d rest : ℕ) → p ≡ n + 8 * (a + 2 * (b + 2 * (c + 2 * d))) + 128 * rest → n ≤ 4 → a ≤ 1 → b ≤ 1 → c ≤ 1 → d ≤ 1 → (p / 8 / 2 ^ 0 % 2 ≡ a) × (p / 8 / 2 ^ 1 % 2 ≡ b) × (p / 8 / 2 ^ 2 % 2 ≡ c) × (p / 8 / 2 ^ 3 % 2 ≡ d)
digit p n a b c d rest e few i k l m =
    let q : p / 8 ≡ a + 2 * (b + 2 * (c + 2 * d)) + 16 * rest = omega arith in
    (omega arith, omega arith, omega arith, omega arith)

-- a plan word of n nodes, these bits, this place and this side
module _ (n : ℕ) (bs : List Bool) (at : ℕ) (side : Side) (p : ℕ) (is : p ≡ n + 8 * removed_bits bs + 128 * at + 512 * side_no side) (four : length bs ≡ 4) (few : n ≤ 4) (place : at < 4) where
  pub packed_count : count_of p ≡ n
  packed_count =
      let k = bits_small bs four in
      let s = side_small side in
      let e : p % 8 ≡ n = omega arith in
      count_is p (omega arith) (omega arith) ∙ e

  pub packed_field : field_index_of p ≡ at
  packed_field = let k = bits_small bs four in let s = side_small side in omega arith

  pub packed_side : side_of p ≡ side
  packed_side = go side refl
    where
      go : (t : Side) → side ≡ t → side_of p ≡ t
      go Left e =
          let k = bits_small bs four in
          let s : side_no side ≡ 0 = ap side_no e in
          let z : p / 512 ≡ 0 = omega arith in
          rw z refl
      go Right e =
          let k = bits_small bs four in
          let s : side_no side ≡ 1 = ap side_no e in
          let z : p / 512 ≡ 1 = omega arith in
          rw z refl

  packed_bits : p / 8 % 16 ≡ removed_bits bs
  packed_bits = let k = bits_small bs four in omega arith

  pub packed_within : 0 < n → ((j : ℕ) → n ≤ j → j < 4 → get_or bs j false ≡ false) → p / 8 % 16 < 2 ^ n
  packed_within some none = rw packed_bits (bits_within n bs four some few none)

-- whether it removes its j-th node
pub packed_removes : (n : ℕ) (bs : List Bool) (at : ℕ) (side : Side) (p : ℕ) → p ≡ n + 8 * removed_bits bs + 128 * at + 512 * side_no side → length bs ≡ 4 → n ≤ 4 → (j : ℕ) → j < 4 → plan_finalizes p j ≡ get_or bs j false
packed_removes n [] at side p is four few j i = absurd (omega arith)
packed_removes n (a ∷ []) at side p is four few j i = absurd (omega arith)
packed_removes n (a ∷ b ∷ []) at side p is four few j i = absurd (omega arith)
packed_removes n (a ∷ b ∷ c ∷ []) at side p is four few j i = absurd (omega arith)
packed_removes n (a ∷ b ∷ c ∷ d ∷ e ∷ bs) at side p is four few j i = absurd (omega arith)
packed_removes n (a ∷ b ∷ c ∷ d ∷ []) at side p is four few j i = go j i
  where
    digits : (p / 8 / 2 ^ 0 % 2 ≡ bit a) × (p / 8 / 2 ^ 1 % 2 ≡ bit b) × (p / 8 / 2 ^ 2 % 2 ≡ bit c) × (p / 8 / 2 ^ 3 % 2 ≡ bit d)
    digits = digit p n (bit a) (bit b) (bit c) (bit d) (at + 4 * side_no side) (omega arith) few (bit_small a) (bit_small b) (bit_small c) (bit_small d)

    go : (j : ℕ) → j < 4 → plan_finalizes p j ≡ get_or (a ∷ b ∷ c ∷ d ∷ []) j false
    go zero i = bit_is (p / 8 / 2 ^ 0 % 2) a digits.0
    go (suc zero) i = bit_is (p / 8 / 2 ^ 1 % 2) b digits.1
    go (suc (suc zero)) i = bit_is (p / 8 / 2 ^ 2 % 2) c digits.2
    go (suc (suc (suc zero))) i = bit_is (p / 8 / 2 ^ 3 % 2) d digits.3
    go (suc (suc (suc (suc j)))) i = absurd (omega arith)
