-- Rows of a fixed number of fields as text.
use Rattle.std.specs.Prelude.{ℕ, ◌≡◌, ◌+◌, ◌-◌, ◌^◌, ◌≤◌, List, [], ◌∷◌, ◌++◌, length, min, replicate, take, Option, Result, IsErrOf, OnOk}
use Rattle.std.specs.Io.KnownBytes.{Appends}
use Rattle.csv.specs.Writing.{default_writer, row_text}
use Rattle.texts.specs.declared.fault.WriteFault.{WriteFault}
use Rattle.texts.specs.declared.fault.WriteFault.TheVariants.{NoMemory, Write}

-- the fields, with as many empty ones after them as make a row of this width
abbrev pub padded : ℕ → List (List ℕ) → List (List ℕ)
padded width fields = fields ++ replicate (width - length fields) []

-- the line of this width that begins with these fields
abbrev pub line_of : ℕ → List (List ℕ) → List ℕ
line_of width fields = row_text default_writer (padded width fields)

-- the lines of rows, one after another
unfoldable pub rows_text : ℕ → List (List (List ℕ)) → List ℕ
rows_text width [] = []
rows_text width (row ∷ rows) = line_of width row ++ rows_text width rows

-- known bytes have grown by a beginning of the text
abbrev pub BeginsWith : Option (List ℕ) → Option (List ℕ) → List ℕ → Type 0
BeginsWith old new text = (n : ℕ) × (n ≤ length text) × Appends old new (take n text)

-- of a call that writes: it counts a failure of the writer where its fault is that a write failed,
-- and else none; the count ends at the greatest number of 64 bits
pub record CountsFault {T Fault : Type 0} (memory failed : Fault) (result : Result T Fault) (old new : ℕ) : Type 0 where
  pub ok : OnOk result (new ≡ old)
  pub no_memory : IsErrOf result memory → new ≡ old
  pub write : IsErrOf result failed → new ≡ min (old + 1) (2 ^ 64 - 1)

-- the same, where the faults are those of writing
abbrev pub CountsWriteFault : {T : Type 0} → Result T WriteFault → ℕ → ℕ → Type 0
CountsWriteFault result old new = CountsFault NoMemory Write result old new
