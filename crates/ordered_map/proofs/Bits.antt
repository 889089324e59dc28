-- The bit at which two keys part, as numbers: the highest in which they differ.
use Rattle.std.proofs.Common.{min, max, refl, subst, ◌≡◌, ◌≢◌, ℕ, suc, ◌+◌, ◌-◌, ◌*◌, ◌/◌, ◌%◌, ◌^◌, ◌<◌, ◌≤◌, ◌↔◌, IsTrue, nat_le, sym, ◌∙◌, ap, arith, bit_xor, pow_pos, div-mul-le_self, mod-eq_of_lt, zero-mul, pos_of_ne-zero, div-add-mod', leb-true, le-leb}
use Rattle.std.proofs.Math.Nat.{div-eq_of_lt, div-eq_of_lt-le, div-div-eq-div-mul, pow-suc, mul_assoc, mul_comm, add-mul, one-mul, lt-div-mul-add}
use Rattle.std.proofs.lemmas.Nat.{xor_comm, xor_shr, xor_lt, xor_block, le-div, mod-mul-add, leading_top}
use Rattle.std.specs.Int.Bits.{xor_assoc, xor_self, xor_zero_l, xor_zero_r}
use Rattle.std.specs.Int.Count.{count_leading_zeros}
use Rattle.ordered_map.specs.Bits.{room_at, IsForkKey, IsInSpan, PartsKeys, bit_between, place_between}

-- Bits in which two numbers differ

-- numbers that differ in no bit are the same
same_bits : (a b : ℕ) → bit_xor a b ≡ 0 → a ≡ b
same_bits a b e = sym (xor_zero_r a) ∙ ap (bit_xor a) (sym e) ∙ sym (xor_assoc a a b) ∙ ap (λ x. bit_xor x b) (xor_self a) ∙ xor_zero_l b

-- those that differ only below the bit b agree from it on
agree_from : (j k b : ℕ) → bit_xor j k < 2 ^ b → j / 2 ^ b ≡ k / 2 ^ b
agree_from j k b l = same_bits (j / 2 ^ b) (k / 2 ^ b) (sym (xor_shr j k b) ∙ div-eq_of_lt l)

-- those that agree from it on differ only below it
differ_below : (j k b : ℕ) → j / 2 ^ b ≡ k / 2 ^ b → bit_xor j k < 2 ^ b
differ_below j k b e =
    let z : bit_xor j k / 2 ^ b ≡ 0 = xor_shr j k b ∙ ap (λ x. bit_xor x (k / 2 ^ b)) e ∙ xor_self (k / 2 ^ b) in
    let l = lt-div-mul-add {a = bit_xor j k} (pow_pos b) in
    let m : bit_xor j k / 2 ^ b * 2 ^ b ≡ 0 = ap (λ x. x * 2 ^ b) z ∙ zero-mul (2 ^ b) in
    omega (arith, l, m)

div_up : (j k r : ℕ) → 0 < r → j ≤ k → j / r ≤ k / r
div_up j k r p l = let m = div-mul-le_self j r in le-div (j / r) k r p (omega (arith, l, m))

-- of two that differ in the bit b, and in none above it, the lower has 0 there, and the greater 1
differ_at : (j k b : ℕ) → j < k → 2 ^ b ≤ bit_xor j k → bit_xor j k < 2 ^ suc b → (j / 2 ^ b ≡ j / 2 ^ b / 2 * 2) × (k / 2 ^ b ≡ j / 2 ^ b + 1)
differ_at j k b l m n = (omega (arith, same, order, apart), omega (arith, same, order, apart))
  where
    halved : (i : ℕ) → i / 2 ^ b / 2 ≡ i / 2 ^ suc b
    halved i = div-div-eq-div-mul i (2 ^ b) 2 ∙ ap (λ w. i / w) (sym (pow-suc 2 b))

    same : j / 2 ^ b / 2 ≡ k / 2 ^ b / 2
    same = halved j ∙ agree_from j k (suc b) n ∙ sym (halved k)

    order : j / 2 ^ b ≤ k / 2 ^ b
    order = div_up j k (2 ^ b) (pow_pos b) (omega (arith, l))

    apart : j / 2 ^ b ≢ k / 2 ^ b
    apart e = let d = differ_below j k b e in omega (arith, d, m)

-- The fork between two keys

-- a number that has the bit b and none below it
odd_at : (v b : ℕ) → v ≡ v / 2 * 2 + 1 → v * 2 ^ b % (2 * 2 ^ b) ≡ 2 ^ b
odd_at v b e =
    let r = 2 ^ b in
    let q : v * r ≡ v / 2 * (2 * r) + r = ap (λ x. x * r) e ∙ add-mul (v / 2 * 2) 1 r ∙ ap (λ x. x + 1 * r) (mul_assoc (v / 2) 2 r) ∙ ap (λ x. v / 2 * (2 * r) + x) (one-mul r) in
    let p = pow_pos b in
    ap (λ x. x % (2 * r)) q ∙ mod-mul-add (v / 2) (2 * r) r (omega (arith, p))

parts_at : (j k b level : ℕ) → j < k → 2 ^ b ≤ bit_xor j k → bit_xor j k < 2 ^ suc b → 2 ≤ level → level + b ≡ 65 → PartsKeys j k (k / 2 ^ b * 2 ^ b) level
parts_at j k b level l m n high e = record {
  fork = record { high = high; deep = omega (arith, e); lowest = lowest };
  below = omega (arith, one_more, j_below);
  above = k_from;
  first = (omega (arith, room, one_more, j_from), omega (arith, room, l, k_below));
  last = (omega (arith, room, l, k_from, one_more, j_from), omega (arith, room, k_below));
}
  where
    room : room_at level ≡ 2 ^ b
    room = ap (λ i. 2 ^ i) (omega (arith, e))

    d : (j / 2 ^ b ≡ j / 2 ^ b / 2 * 2) × (k / 2 ^ b ≡ j / 2 ^ b + 1)
    d = differ_at j k b l m n

    one_more : k / 2 ^ b * 2 ^ b ≡ j / 2 ^ b * 2 ^ b + 2 ^ b
    one_more = ap (λ x. x * 2 ^ b) d.1 ∙ add-mul (j / 2 ^ b) 1 (2 ^ b) ∙ ap (λ x. j / 2 ^ b * 2 ^ b + x) (one-mul (2 ^ b))

    j_from : j / 2 ^ b * 2 ^ b ≤ j
    j_from = div-mul-le_self j (2 ^ b)

    j_below : j < j / 2 ^ b * 2 ^ b + 2 ^ b
    j_below = lt-div-mul-add (pow_pos b)

    k_from : k / 2 ^ b * 2 ^ b ≤ k
    k_from = div-mul-le_self k (2 ^ b)

    k_below : k < k / 2 ^ b * 2 ^ b + 2 ^ b
    k_below = lt-div-mul-add (pow_pos b)

    odd : k / 2 ^ b ≡ k / 2 ^ b / 2 * 2 + 1
    odd = omega (arith, d)

    lowest : k / 2 ^ b * 2 ^ b % (2 * room_at level) ≡ room_at level
    lowest = rw room (odd_at (k / 2 ^ b) b odd)

-- below 2 ^ 64 the zeros above the highest bit in which two keys differ say which that is
highest : (j k : ℕ) → j < k → k < 2 ^ 64 → (b : ℕ) × (count_leading_zeros 64 (bit_xor j k) + suc b ≡ 64) × (2 ^ b ≤ bit_xor j k) × (bit_xor j k < 2 ^ suc b)
highest j k l small = leading_top 64 (bit_xor j k) (pos_of_ne-zero differ) (xor_lt 64 j k (omega (arith, l, small)) small)
  where
    differ : bit_xor j k ≢ 0
    differ e = let same = same_bits j k e in omega (arith, l, same)

pub parts : (j k zeros greater : ℕ) → j < k → k < 2 ^ 64 → zeros ≡ min (count_leading_zeros 64 (bit_xor j k)) 63 → greater ≡ k → PartsKeys j k (greater / 2 ^ (63 - zeros) * 2 ^ (63 - zeros) % 2 ^ 64) (zeros + 2)
parts j k zeros greater l small z g =
    let (b, top, low, high) = highest j k l small in
    let is : 63 - zeros ≡ b = omega (arith, z, top) in
    let whole = div-mul-le_self k (2 ^ b) in
    rw g (rw is (rw (mod-eq_of_lt {n = k / 2 ^ b * 2 ^ b} {m = 2 ^ 64} (omega (arith, whole, small))) (parts_at j k b (zeros + 2) l low high (omega arith) (omega (arith, z, top)))))

-- where that is, as it is reckoned in 64 bits
pub place_key : (j k zeros greater : ℕ) → j < 2 ^ 64 → k < 2 ^ 64 → zeros ≡ min (count_leading_zeros 64 (bit_xor j k)) 63 → greater ≡ max j k → greater / 2 ^ (63 - zeros) * 2 ^ (63 - zeros) % 2 ^ 64 ≡ (place_between j k).key
place_key j k zeros greater a b z g =
    let whole = div-mul-le_self greater (2 ^ (63 - zeros)) in
    let bit : 63 - zeros ≡ bit_between j k = ap (λ v. 63 - v) z in
    mod-eq_of_lt {n = greater / 2 ^ (63 - zeros) * 2 ^ (63 - zeros)} {m = 2 ^ 64} (omega (arith, whole, a, b, g)) ∙ (λ i. g i / 2 ^ bit i * 2 ^ bit i)

pub place_level : (j k zeros : ℕ) → zeros ≡ min (count_leading_zeros 64 (bit_xor j k)) 63 → zeros + 2 ≡ (place_between j k).level
place_level j k zeros z = omega (arith, z)

pub place_rising : (j k : ℕ) → j < k → k < 2 ^ 64 → PartsKeys j k (place_between j k).key (place_between j k).level
place_rising j k l small =
    let zeros = min (count_leading_zeros 64 (bit_xor j k)) 63 in
    let most : k ≡ max j k = omega (arith, l) in
    subst (λ level. PartsKeys j k (place_between j k).key level) (place_level j k zeros refl)
    (subst (λ key. PartsKeys j k key (zeros + 2)) (place_key j k zeros k (omega (arith, l, small)) small refl most) (parts j k zeros k l small refl refl))

pub place_falling : (j k : ℕ) → k < j → j < 2 ^ 64 → PartsKeys k j (place_between j k).key (place_between j k).level
place_falling j k l small =
    let zeros = min (count_leading_zeros 64 (bit_xor j k)) 63 in
    let most : j ≡ max j k = omega (arith, l) in
    subst (λ level. PartsKeys k j (place_between j k).key level) (place_level j k zeros refl)
    (subst (λ key. PartsKeys k j key (zeros + 2)) (place_key j k zeros j small (omega (arith, l, small)) refl most) (parts k j zeros j l small (ap (λ x. min (count_leading_zeros 64 x) 63) (xor_comm j k)) refl))

-- Sharing a fork

blocks : (k p q r s a b : ℕ) → r < 2 ^ k → s < 2 ^ k → a ≡ p * 2 ^ k + r → b ≡ q * 2 ^ k + s → bit_xor a b ≡ bit_xor p q * 2 ^ k + bit_xor r s
blocks k p q r s a b l m d e = rw d (rw e (xor_block k p q r s l m))

-- a number that has the bit b and none below it, and the one before it, differ in this bit and
-- below
last_bit : (x q b : ℕ) → x ≡ q * 2 ^ suc b + 2 ^ b → bit_xor x (x - 1) + 1 ≡ 2 ^ suc b
last_bit x q b e = omega (arith, all, none, one, p, two)
  where
    p : 0 < 2 ^ b
    p = pow_pos b

    two : 2 ^ suc b ≡ 2 ^ b * 2
    two = pow-suc 2 b

    one : bit_xor (2 ^ b) (2 ^ b - 1) ≡ 1 * 2 ^ b + (2 ^ b - 1)
    one = blocks b 1 0 0 (2 ^ b - 1) (2 ^ b) (2 ^ b - 1) p (omega (arith, p)) (omega arith) (omega arith)

    all : bit_xor x (x - 1) ≡ bit_xor q q * 2 ^ suc b + bit_xor (2 ^ b) (2 ^ b - 1)
    all = blocks (suc b) q q (2 ^ b) (2 ^ b - 1) x (x - 1) (omega (arith, p, two)) (omega (arith, p, two)) e (omega (arith, e, p))

    none : bit_xor q q * 2 ^ suc b ≡ 0
    none = ap (λ y. y * 2 ^ suc b) (xor_self q) ∙ zero-mul (2 ^ suc b)

-- the key of a fork is a multiple of twice its room, and its room more
pub key_is : (x level : ℕ) → IsForkKey x level → x ≡ x / (2 * room_at level) * (2 * room_at level) + room_at level
key_is x level fork = sym (div-add-mod' x (2 * room_at level)) ∙ ap (λ y. x / (2 * room_at level) * (2 * room_at level) + y) fork.lowest

-- in 64 bits the number before it is the sum with 2 ^ 64 - 1
pub one_before : (x level : ℕ) → IsForkKey x level → x < 2 ^ 64 → (x + (2 ^ 64 - 1)) % 2 ^ 64 ≡ x - 1
one_before x level fork small =
    let is = key_is x level fork in
    let p = pow_pos (65 - level) in
    let some : 0 < x = omega (arith, is, p) in
    omega (arith, some, small)

pub sharing : (x level k : ℕ) → IsForkKey x level → IsTrue (nat_le (bit_xor k x) (bit_xor x (x - 1))) ↔ IsInSpan x level k
sharing x level k fork = (λ t. inside (agree_from k x (suc b) (let l = leb-true (bit_xor k x) (bit_xor x (x - 1)) t in omega (arith, last, l))), λ s. le-leb (bit_xor k x) (bit_xor x (x - 1)) (let l = differ_below k x (suc b) (agrees s) in omega (arith, last, l)))
  where
    b : ℕ
    b = 65 - level

    two : 2 ^ suc b ≡ 2 * room_at level
    two = pow-suc 2 b ∙ mul_comm (2 ^ b) 2

    is : x ≡ x / 2 ^ suc b * 2 ^ suc b + 2 ^ b
    is = rw two (key_is x level fork)

    p : 0 < 2 ^ b
    p = pow_pos b

    last : bit_xor x (x - 1) + 1 ≡ 2 ^ suc b
    last = last_bit x (x / 2 ^ suc b) b is

    inside : k / 2 ^ suc b ≡ x / 2 ^ suc b → IsInSpan x level k
    inside e =
        let from = div-mul-le_self k (2 ^ suc b) in
        let below : k < k / 2 ^ suc b * 2 ^ suc b + 2 ^ suc b = lt-div-mul-add (pow_pos (suc b)) in
        let same : k / 2 ^ suc b * 2 ^ suc b ≡ x / 2 ^ suc b * 2 ^ suc b = ap (λ q. q * 2 ^ suc b) e in
        (omega (arith, is, from, same), omega (arith, is, below, same, two))

    agrees : IsInSpan x level k → k / 2 ^ suc b ≡ x / 2 ^ suc b
    agrees s = div-eq_of_lt-le {k = x / 2 ^ suc b} (2 ^ suc b) {m = k} (omega (arith, s, is)) (rw (add-mul (x / 2 ^ suc b) 1 (2 ^ suc b)) (rw (one-mul (2 ^ suc b)) (omega (arith, s, is, two))))
