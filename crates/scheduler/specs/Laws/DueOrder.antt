-- Jobs that are due, by their words.
use Rattle.std.proofs.Common.{◌≡◌, ℕ, ◌+◌, ◌*◌, ◌<◌, ◌^◌, arith, refl}
use Rattle.std.specs.Ordering.{MatchOrdering, nat_cmp, ordering_then}
use Rattle.std.specs.declared.cmp.Ordering.{Ordering}
use Rattle.std.specs.declared.cmp.Ordering.TheVariants.{Less, Equal, Greater}
use Rattle.std.specs.Cmp.{nat_cmp_is}
use Rattle.std.proofs.lemmas.Cmp.{ranked}
use Rattle.scheduler.specs.declared.due.Due.{Due}

-- both numbers are of 32 bits
abbrev pub IsDue : Due → Type 0
IsDue due = (due.at < 2 ^ 32) × (due.job < 2 ^ 32)

-- the time is the upper half of its word, and the job the lower
abbrev pub due_word : Due → ℕ
due_word due = due.at * 2 ^ 32 + due.job

-- it is a word
pub due_fits : (k : Due) → IsDue k → due_word k < 2 ^ 64
due_fits k x = let at = x.0 in let job = x.1 in omega (arith, at, job)

-- two of one word are the same
pub due_exact : (j k : Due) → IsDue j → IsDue k → due_word j ≡ due_word k → j ≡ k
due_exact j k x y e =
    let low = x.1 in let other = y.1 in
    let at : j.at ≡ k.at = omega (arith, low, other, e) in
    let job : j.job ≡ k.job = omega (arith, low, other, e) in
    λ i. record { at = at i; job = job i }

-- how two words compare, by how their halves do
word_ranks : (a b c d : ℕ) → b < 2 ^ 32 → d < 2 ^ 32 → (o p : Ordering) → MatchOrdering o (a < c) (a ≡ c) (c < a) → MatchOrdering p (b < d) (b ≡ d) (d < b)
    → MatchOrdering (ordering_then o p) (a * 2 ^ 32 + b < c * 2 ^ 32 + d) (a * 2 ^ 32 + b ≡ c * 2 ^ 32 + d) (c * 2 ^ 32 + d < a * 2 ^ 32 + b)
word_ranks a b c d x y Less p h g = omega arith
word_ranks a b c d x y Equal Less h g = omega arith
word_ranks a b c d x y Equal Equal h g = omega arith
word_ranks a b c d x y Equal Greater h g = omega arith
word_ranks a b c d x y Greater p h g = omega arith

-- they are ordered as their words are
pub due_ordered : (j k : Due) → IsDue j → IsDue k → ordering_then (nat_cmp j.at k.at) (nat_cmp j.job k.job) ≡ nat_cmp (due_word j) (due_word k)
due_ordered j k x y = nat_cmp_is (due_word j) (due_word k) _
    (word_ranks j.at j.job k.at k.job x.1 y.1 (nat_cmp j.at k.at) (nat_cmp j.job k.job) (ranked j.at k.at _ refl) (ranked j.job k.job _ refl))
