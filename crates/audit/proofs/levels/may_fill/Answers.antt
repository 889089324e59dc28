use Rattle.std.proofs.Common.{◌≡◌, Bool, true, false, not, IsTrue}
use Rattle.audit.proofs.levels.may_fill.Goals as goal

is_refused : (b : Bool) → IsTrue (not b) → IsTrue b → ⊥
is_refused true a b = absurd (let z : false ≡ true = a in cc)
is_refused false a b = absurd (let z : false ≡ true = b in cc)

pub returns-in-Head : goal.returns-in-Head
returns-in-Head c = λ yes head stood. is_refused c.stands.result yes (c.stands.ensures stood)

pub returns-in_default : goal.returns-in_default
returns-in_default c = λ yes head stood. c.in_default.not-Head head
