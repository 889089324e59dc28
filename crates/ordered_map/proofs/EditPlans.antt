-- What the plans of the edits say: which nodes they finalize, and which field they change.
use Rattle.std.proofs.Common.{◌≡◌, ℕ, true, false, refl}
use Rattle.histories.specs.Common.{Side, Left, Right}
use Rattle.histories.specs.Common.{count_of, plan_finalizes, field_index_of, side_of}
use Rattle.ordered_map.specs.EditPlans.{leaf_plan, join_plan, end_leaf_plan, end_join_plan, above_plan}

pub leaf_plan_says : (p : ℕ) (side : Side) → p ≡ leaf_plan side → (field_index_of p ≡ 0) × (side_of p ≡ side) × (plan_finalizes p 0 ≡ false) × (count_of p ≡ 2) × (plan_finalizes p 1 ≡ true)
leaf_plan_says p Left e = rw e (refl, refl, refl, refl, refl)
leaf_plan_says p Right e = rw e (refl, refl, refl, refl, refl)

pub join_plan_says : (p : ℕ) (side : Side) → p ≡ join_plan side → (field_index_of p ≡ 0) × (side_of p ≡ side) × (plan_finalizes p 0 ≡ false) × (count_of p ≡ 4) × (plan_finalizes p 1 ≡ true) × (plan_finalizes p 2 ≡ true) × (plan_finalizes p 3 ≡ true)
join_plan_says p Left e = rw e (refl, refl, refl, refl, refl, refl, refl)
join_plan_says p Right e = rw e (refl, refl, refl, refl, refl, refl, refl)

pub end_leaf_plan_says : (p : ℕ) (side : Side) → p ≡ end_leaf_plan side → (field_index_of p ≡ 0) × (side_of p ≡ side) × (plan_finalizes p 0 ≡ false) × (count_of p ≡ 3) × (plan_finalizes p 1 ≡ true) × (plan_finalizes p 2 ≡ false)
end_leaf_plan_says p Left e = rw e (refl, refl, refl, refl, refl, refl)
end_leaf_plan_says p Right e = rw e (refl, refl, refl, refl, refl, refl)

pub end_join_plan_says : (p : ℕ) (side : Side) → p ≡ end_join_plan side → (field_index_of p ≡ 0) × (side_of p ≡ side) × (plan_finalizes p 0 ≡ false) × (count_of p ≡ 4) × (plan_finalizes p 1 ≡ true) × (plan_finalizes p 2 ≡ true) × (plan_finalizes p 3 ≡ false)
end_join_plan_says p Left e = rw e (refl, refl, refl, refl, refl, refl, refl)
end_join_plan_says p Right e = rw e (refl, refl, refl, refl, refl, refl, refl)

pub above_plan_says : (p : ℕ) (side : Side) → p ≡ above_plan side → (field_index_of p ≡ 0) × (side_of p ≡ side) × (plan_finalizes p 0 ≡ false) × (count_of p ≡ 2) × (plan_finalizes p 1 ≡ false)
above_plan_says p Left e = rw e (refl, refl, refl, refl, refl)
above_plan_says p Right e = rw e (refl, refl, refl, refl, refl)
