-- The row of a script's limits, field by field.
use Rattle.std.proofs.Common.{◌≡◌, ◌<◌, ◌^◌, ℕ, List, codes, decimal, refl, arith}
use Rattle.arena.specs.Limits.{IsAccepted}
use Rattle.arena.specs.declared.limits.Limits.{Limits}
use Rattle.csv.specs.Records.{field_at}
use Rattle.texts.specs.Fields.{field_of}
use Rattle.script.specs.Rows.{limits_row}
use Rattle.texts.proofs.Lemmas.{same_number}

pub record Fields (fields : List (List ℕ)) (limits : Limits) : Type 0 where
  pub name : field_of fields 0 ≡ codes "limits"
  pub passes : field_of fields 1 ≡ decimal limits.passes
  pub nodes : field_of fields 2 ≡ decimal limits.nodes
  pub scx : field_of fields 3 ≡ decimal limits.scx
  pub tries : field_of fields 4 ≡ decimal limits.tries

pub fields_are : (fields : List (List ℕ)) (limits : Limits) → fields ≡ limits_row limits → Fields fields limits
unfolding field_at
fields_are fields limits e = rw e (record { name = refl; passes = refl; nodes = refl; scx = refl; tries = refl })

-- a row says one set of accepted limits
pub same_limits : (fields : List (List ℕ)) (read said : Limits) → Fields fields read → Fields fields said → read.passes < 2 ^ 32 → read.nodes < 2 ^ 32 → read.scx < 2 ^ 32 → read.tries < 2 ^ 32 → IsAccepted said → IsAccepted read
same_limits fields read said r s passes nodes scx tries accepted =
    let one : read.passes ≡ said.passes = same_number _ _ _ r.passes s.passes (omega (arith, passes)) (omega (arith, accepted.passes)) in
    let two : read.nodes ≡ said.nodes = same_number _ _ _ r.nodes s.nodes (omega (arith, nodes)) (omega (arith, accepted.nodes)) in
    let three : read.scx ≡ said.scx = same_number _ _ _ r.scx s.scx (omega (arith, scx)) (omega (arith, accepted.scx)) in
    let four : read.tries ≡ said.tries = same_number _ _ _ r.tries s.tries (omega (arith, tries)) (omega (arith, accepted.tries)) in
    rw (← one, ← two, ← three, ← four) at accepted
