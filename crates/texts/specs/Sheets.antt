-- Text that is written into room made before.
use Rattle.std.specs.Prelude.{ℕ, ◌≡◌, ◌-◌, false, List, [], ◌∷◌, ◌++◌, take, vec_len, ⊤}
use Rattle.csv.specs.Writing.{default_writer, needs_quotes}
use Rattle.texts.specs.declared.sheet.Sheet.{Sheet}

-- the text that is on a sheet
abbrev pub sheet_text : Sheet → List ℕ
sheet_text s = take s.end s.bytes.items

-- how many bytes more it has room for
abbrev pub sheet_room : Sheet → ℕ
sheet_room s = vec_len s.bytes - s.end

-- a field that csv writes as it is, since none of its bytes calls for quotes
abbrev pub IsPlain : List ℕ → Type 0
IsPlain field = needs_quotes default_writer field ≡ false

-- all of these fields are so
abbrev pub ArePlain : List (List ℕ) → Type 0
ArePlain [] = ⊤
ArePlain (field ∷ fields) = IsPlain field × ArePlain fields

-- the line of such fields: they are parted by commas
abbrev pub plain_line : List (List ℕ) → List ℕ
plain_line [] = 10 ∷ []
plain_line (field ∷ []) = field ++ 10 ∷ []
plain_line (field ∷ next ∷ rest) = field ++ 44 ∷ plain_line (next ∷ rest)
