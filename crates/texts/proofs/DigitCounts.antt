-- How many digits numbers have.
use Rattle.std.proofs.Common.{◌≡◌, ℕ, ◌+◌, ◌/◌, ◌<◌, ◌≤◌, ◌^◌, ◌∙◌, List, ◌++◌, ap, arith, drop, length, length-append, refl, take, decimal}
use Rattle.std.proofs.Math.Seq.{take-add, take-append_seam}
use Rattle.std.proofs.lemmas.Fmt.{decimal_digit, decimal_step}

-- one digit
pub one_digit : (n : ℕ) → n < 10 → length (decimal n) ≡ 1
one_digit n small = ap (λ (ds : List ℕ). length ds) (decimal_digit n small)

-- one digit more than the tenth part has
pub digit_more : (n : ℕ) → 10 ≤ n → n < 2 ^ 64 → length (decimal n) ≡ length (decimal (n / 10)) + 1
digit_more n large fits = ap (λ (ds : List ℕ). length ds) (decimal_step n large fits) ∙ length-append (decimal (n / 10)) _

pub two_digits : (n : ℕ) → 10 ≤ n → n < 100 → length (decimal n) ≡ 2
two_digits n large small =
    let more = digit_more n large (omega (arith, small)) in
    let rest = one_digit (n / 10) (omega (arith, small)) in
    omega (arith, more, rest)

pub three_digits : (n : ℕ) → 100 ≤ n → n < 1000 → length (decimal n) ≡ 3
three_digits n large small =
    let more = digit_more n (omega (arith, large)) (omega (arith, small)) in
    let rest = two_digits (n / 10) (omega (arith, large)) (omega (arith, small)) in
    omega (arith, more, rest)

pub four_digits : (n : ℕ) → 1000 ≤ n → n < 10000 → length (decimal n) ≡ 4
four_digits n large small =
    let more = digit_more n (omega (arith, large)) (omega (arith, small)) in
    let rest = three_digits (n / 10) (omega (arith, large)) (omega (arith, small)) in
    omega (arith, more, rest)

-- four digits more than the ten-thousandth part has
pub four_more : (n : ℕ) → 10000 ≤ n → n < 2 ^ 64 → length (decimal n) ≡ length (decimal (n / 10000)) + 4
four_more n large fits =
    let one = digit_more n (omega (arith, large)) fits in
    let two = digit_more (n / 10) (omega (arith, large)) (omega (arith, fits)) in
    let three = digit_more (n / 10 / 10) (omega (arith, large)) (omega (arith, fits)) in
    let four = digit_more (n / 10 / 10 / 10) (omega (arith, large)) (omega (arith, fits)) in
    let same : n / 10 / 10 / 10 / 10 ≡ n / 10000 = omega arith in
    rw (← same) (omega (arith, one, two, three, four))

-- digits that were put after a text
pub digits_stand : (end k at : ℕ) (digits rest old new : List ℕ) → at + length digits ≡ end + k → length digits ≡ k → drop at new ≡ digits ++ rest → take at new ≡ take at old → take (end + k) new ≡ take end old ++ digits
digits_stand end k at digits rest old new start many written before =
    let here : at ≡ end = omega arith in
    rw (← here, take-add at k new, written, before, ← many, take-append_seam digits rest) refl
