use Rattle.std.proofs.Common.{◌≡◌, ℕ, ◌<◌, ◌≤◌, false}
use Rattle.arena.specs.MemberIndex.{member_index}
use Rattle.arena.specs.ScxRecords.{plan_finalizes}
use Rattle.arena.proofs.plan.Plan.first_finalized_from.Given as goal

abbrev pub invariant-loop-index : goal.invariant-loop-index
invariant-loop-index l = (i : ℕ) → member_index l.fn.j ≤ i → i < l.index → plan_finalizes l.self.0 i ≡ false
