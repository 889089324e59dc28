-- Shares of different passes have nothing in common.
use Rattle.std.proofs.Common.{◌≢◌, ℕ, ◌+◌, ◌*◌, ◌<◌, ◌≤◌, ◌⊎◌, arith, ⊎_elim}
use Rattle.std.proofs.Math.Nat.{mul-le-mul_right}

-- of two numbers that differ, one is below the other
apart_is_below : (c d : ℕ) → c ≢ d → (c + 1 ≤ d) ⊎ (d + 1 ≤ c)
apart_is_below c d apart = grind arith

pub below_is_whole : (size c d : ℕ) → c + 1 ≤ d → c * size + size ≤ d * size
below_is_whole size c d less =
    let product : (c + 1) * size ≤ d * size = mul-le-mul_right size less in
    omega (arith, product)

-- parts of one size that follow each other overlap only where they are the same
pub overlap : (first size c d n : ℕ) → first + c * size ≤ n → n < first + c * size + size → first + d * size ≤ n → n < first + d * size + size → c ≢ d → ⊥
overlap first size c d n from below from' below' apart = ⊎_elim
    (λ less. let whole : c * size + size ≤ d * size = below_is_whole size c d less in omega arith)
    (λ less. let whole : d * size + size ≤ c * size = below_is_whole size d c less in omega arith)
    (apart_is_below c d apart)
