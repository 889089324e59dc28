-- What replies of numbers say of the map.
use Rattle.std.proofs.Common.{◌≡◌, ℕ, refl, Option, Some, None}
use Rattle.record.specs.Common.{OneValue, number_reply, Value}

-- a value is answered as it is
pub value_told : (v : Option ℕ) → number_reply (Value v) ≡ Some (OneValue v)
value_told None = refl
value_told (Some v) = refl
