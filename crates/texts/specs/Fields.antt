-- The fields of a row.
use Rattle.std.specs.Prelude.{ℕ, List, [], unwrap_or}
use Rattle.csv.specs.Records.{field_at}

-- the field at a place, or an empty one
abbrev pub field_of : List (List ℕ) → ℕ → List ℕ
field_of fields place = unwrap_or (field_at fields place) []
