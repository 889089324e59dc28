-- What a pass keeps stays right while it makes calls.
use Rattle.std.proofs.Common.{◌≡◌, ◌∙◌, Bool, true, false, [], Option, Some, None, sym}
use Rattle.histories.specs.Common.{Extends}
use Rattle.tables.specs.Slotted.{in_turns}
use Rattle.tables.specs.TableRule.{past_of}
use Rattle.upkeep.specs.UpkeepKeeper.{StaysOut}
use Rattle.forest.specs.UpkeepKept.{ComesBack, KeepsRight}
use Rattle.forest.specs.declared.kept.PassKeeper.{PassKeeper}
use Rattle.tables.specs.declared.view.SeatedPass.{SeatedPass}
use Rattle.upkeep.proofs.UpkeepKeeper.{keeper_stays}

-- what never lasts keeps nothing
pub never_kept : {A : Type 0} (lasts : Bool) → lasts ≡ false → lasts ≡ true → A
never_kept lasts once e = absurd (let y : false ≡ true = sym once ∙ e in cc)

pub keeps_right : (kept : Option PassKeeper) (p q : SeatedPass) → q.number ≡ p.number → q.layout ≡ p.layout → q.planting ≡ p.planting → q.memory ≡ p.memory → Extends (past_of q []) (past_of p []) → StaysOut p q → KeepsRight kept p → KeepsRight kept q
keeps_right None p q number layout planting memory later out x = tt
keeps_right (Some k) p q number layout planting memory later out x = keeper_stays (in_turns k.layout k.turns) p q number layout planting memory later out k.keeper x

-- a pass that is there comes back
pub comes_back : (kept : Option PassKeeper) (p : SeatedPass) → p.memory.away ≡ false → KeepsRight kept p → ComesBack kept p
comes_back None p there x = there
comes_back (Some k) p there x = x
