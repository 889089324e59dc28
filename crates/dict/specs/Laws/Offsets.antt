-- Signed keys by their words.
use Rattle.std.proofs.Common.{◌≡◌, ℕ, ℤ, pos, negsuc, ◌<ℤ◌, ◌+◌, ◌-◌, ◌<◌, ◌^◌, arith, ap}
use Rattle.std.specs.Ordering.{int_cmp, nat_cmp, MatchOrdering}
use Rattle.std.specs.declared.cmp.Ordering.{Ordering}
use Rattle.std.specs.declared.cmp.Ordering.TheVariants.{Less, Equal, Greater}
use Rattle.std.specs.Cmp.{int_ranks, nat_cmp_is}
use Rattle.std.proofs.lemmas.Int.{ints}

-- a signed number of 64 bits
abbrev pub IsLong : ℤ → Type 0
IsLong (pos n) = n < 2 ^ 63
IsLong (negsuc n) = n < 2 ^ 63

-- how many such numbers are below it: the least, -2^63, has 0, and 0 has 2^63
abbrev pub offset_of : ℤ → ℕ
offset_of (pos n) = n + 2 ^ 63
offset_of (negsuc n) = 2 ^ 63 - (n + 1)

-- the offset of an `i64` is a word
pub offset_fits : (k : ℤ) → IsLong k → offset_of k < 2 ^ 64
offset_fits (pos n) long = omega arith
offset_fits (negsuc n) long = omega arith

-- two of one offset are the same
pub offset_exact : (j k : ℤ) → IsLong j → IsLong k → offset_of j ≡ offset_of k → j ≡ k
offset_exact (pos a) (pos b) x y e = ap pos (omega arith)
offset_exact (pos a) (negsuc b) x y e = absurd (omega arith)
offset_exact (negsuc a) (pos b) x y e = absurd (omega arith)
offset_exact (negsuc a) (negsuc b) x y e = ap negsuc (omega arith)

-- of two such numbers, the one below has the lower offset
offset_below : (j k : ℤ) → IsLong j → IsLong k → j <ℤ k → offset_of j < offset_of k
offset_below (pos a) (pos b) x y h = omega (arith, ints)
offset_below (pos a) (negsuc b) x y h = omega (arith, ints)
offset_below (negsuc a) (pos b) x y h = omega (arith, ints)
offset_below (negsuc a) (negsuc b) x y h = omega (arith, ints)

-- what each of the three says may be replaced by what it gives
ordering_then : {P Q R X Y Z : Type 0} (o : Ordering) → MatchOrdering o P Q R → (P → X) → (Q → Y) → (R → Z) → MatchOrdering o X Y Z
ordering_then Less h below same above = below h
ordering_then Equal h below same above = same h
ordering_then Greater h below same above = above h

-- they are ordered as their offsets are
pub offset_ordered : (j k : ℤ) → IsLong j → IsLong k → int_cmp j k ≡ nat_cmp (offset_of j) (offset_of k)
offset_ordered j k x y =
    nat_cmp_is (offset_of j) (offset_of k) (int_cmp j k) (ordering_then (int_cmp j k) (int_ranks j k) (offset_below j k x y) (ap offset_of) (offset_below k j y x))
