-- That each turn of a read leaves fewer steps.
use Rattle.std.proofs.Common.{◌≡◌, ◌≢◌, ℕ, zero, suc, ◌+◌, ◌*◌, ◌-◌, ◌<◌, ◌≤◌, refl, arith}
use Rattle.std.proofs.Math.Nat.{suc-mul}
use Rattle.histories.specs.Common.{Turn, Ask, Done, Slot, First, Second, Third, Fourth, MatchTurn, slot_no}

-- what is below a number is below a greater one
pub below : {A : Type 0} (turn : Turn A) (x a b : ℕ) → MatchTurn turn (λ _. x < a) (λ _. Unit {0}) → a ≤ b → MatchTurn turn (λ _. x < b) (λ _. Unit {0})
below (Ask s) x a b i j = omega (arith, i, j)
below (Done u) x a b i j = tt

no_more : (n : ℕ) → n ≤ n
no_more n = omega arith

-- a try less
pub try_less : (tries each : ℕ) → tries ≢ 0 → (tries - 1) * each + each ≤ tries * each
try_less zero each d = absurd (let z : zero ≡ zero = refl in d z)
try_less (suc tries) each d = let e : suc tries - 1 ≡ tries = omega arith in rw (e, suc-mul tries each) (no_more (tries * each + each))

-- where t is what the later tries may take
pub to_tries : (t rest : ℕ) → t ≤ t + rest
to_tries t rest = omega arith

pub less_walk : (t now left near size path behind : ℕ) → now < left → t + (now + near + size + path + behind) < t + (left + near + size + path + behind)
less_walk t now left near size path behind i = omega (arith, i)

pub past_walk : (t left near size path behind : ℕ) → t + (near + size + path + behind) ≤ t + (left + near + size + path + behind)
past_walk t left near size path behind = omega arith

pub less_look : (t now left size rest behind : ℕ) → now < left → t + (now + size + 1 + rest + behind) < t + (left + size + 1 + rest + behind)
less_look t now left size rest behind i = omega (arith, i)

pub from_looked : (t left size rest behind : ℕ) → t + (size + 1 + rest + behind) ≤ t + (left + size + 1 + rest + behind)
from_looked t left size rest behind = omega arith

pub less_vlx : (t now left : ℕ) → now < left → t + now < t + left
less_vlx t now left i = omega (arith, i)

pub from_root : (t size level nodes behind : ℕ) → t + (size + (67 * (2 + nodes - level) - 1 + behind)) ≤ t + (size + 67 * (2 + nodes) - 1 + behind)
from_root t size level nodes behind = omega arith

pub from_head : (above level nodes behind : ℕ) → above < level → level < 2 + nodes → 67 * (2 + nodes - level) - 1 + behind < 67 * (1 + nodes - above) + behind
from_head above level nodes behind i j = omega (arith, i, j)

pub from_fork : (level nodes behind : ℕ) → level + 1 < 2 + nodes → 67 * (2 + nodes - level) - 2 + behind < 67 * (2 + nodes - level) - 1 + behind
from_fork level nodes behind i = omega (arith, i)

-- a leaf has four slots
few_slots : (slot : Slot) → slot_no slot < 4
few_slots First = omega arith
few_slots Second = omega arith
few_slots Third = omega arith
few_slots Fourth = omega arith

pub from_pair : (slot : Slot) (behind : ℕ) → 12 - 3 * slot_no slot - 1 + behind < 12 - 3 * slot_no slot + behind
from_pair slot behind = let i = few_slots slot in omega (arith, i)

pub from_value : (slot : Slot) (behind : ℕ) → 12 - 3 * slot_no slot - 3 + behind < 12 - 3 * slot_no slot - 2 + behind
from_value slot behind = let i = few_slots slot in omega (arith, i)

pub from_validate : (t size n : ℕ) → size + 0 ≤ n → t + (size - 0) ≤ t + n
from_validate t size n i = omega (arith, i)
