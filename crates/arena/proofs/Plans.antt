-- What is known of a plan word that covers a node.
use Rattle.std.proofs.Common.{◌≡◌, ℕ, ◌+◌, ◌-◌, ◌*◌, ◌%◌, ◌<◌, ◌≤◌, Bool, true, false, cond, ◌&&◌, ltb, leb, ltb-true, leb-true, lt-ltb, le-leb, refl, arith}
use Rattle.std.proofs.lemmas.Nat.{div-mul-add}
use Rattle.arena.specs.declared.layout.Layout.{Layout}
use Rattle.arena.specs.ScxRecords.{count_of}
use Rattle.arena.specs.Fills.{IsOwnScx}
use Rattle.arena.specs.Log.{owner}
use Rattle.arena.proofs.Bools.{and_left, and_right}

-- its count is in the lowest three bits, and is at most four
pub record IsCounted (p : ℕ) : Type 0 where
  pub count : count_of p ≡ p % 8
  pub few : p % 8 ≤ 4
  pub small : p < 1024

pub plan_counted : (p : ℕ) → 0 < count_of p → IsCounted p
plan_counted p i = go (ltb p 1024 && leb (p % 8) 4) refl i
  where
    go : (t : Bool) → ltb p 1024 && leb (p % 8) 4 ≡ t → 0 < cond t (p % 8) 0 → IsCounted p
    go true e i = record { count = rw e refl; few = leb-true (p % 8) 4 (and_right _ _ e); small = ltb-true p 1024 (and_left _ _ e) }
    go false e i = absurd (omega arith)

-- a plan word that is small enough and covers at most four nodes has its count
pub count_is : (p : ℕ) → p < 1024 → p % 8 ≤ 4 → count_of p ≡ p % 8
count_is p small few = go (ltb p 1024) (leb (p % 8) 4) refl refl
  where
    go : (a b : Bool) → ltb p 1024 ≡ a → leb (p % 8) 4 ≡ b → count_of p ≡ p % 8
    go true true e f = rw (e, f) refl
    go false b e f = let x : ltb p 1024 ≡ true = lt-ltb p 1024 small in cc
    go true false e f = let x : leb (p % 8) 4 ≡ true = le-leb (p % 8) 4 few in cc

-- the owner of an SCX-record is the pass whose share has it
pub owner_is : (lay : Layout) (c s : ℕ) → IsOwnScx lay c s → owner lay s ≡ c
owner_is lay c s o =
    let k : s - 1 - c * lay.scx < lay.scx = let a = o.from in let b = o.below in omega arith in
    let e : s - 1 ≡ c * lay.scx + (s - 1 - c * lay.scx) = let a = o.from in omega arith in
    rw e (div-mul-add c lay.scx (s - 1 - c * lay.scx) k)
