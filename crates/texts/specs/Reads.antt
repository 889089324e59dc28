-- What a reader of rows has read.
use Rattle.std.specs.Prelude.{ℕ, ◌≡◌, List, [], ◌∷◌, ◌++◌, Option, Some, true}
use Rattle.csv.specs.Reading.{Reached, Ready, default_config, is_flexible, reader_config, reader_state, reader_trim, source_of, strip_bom}
use Rattle.csv.specs.Records.{fields_of}
use Rattle.csv.specs.declared.parser.State.TheVariants as state
use Rattle.csv.specs.declared.reader.Reader.{Reader}
use Rattle.csv.specs.declared.reader.Trim.TheVariants as trim
use Rattle.texts.specs.Texts.{IsRow}
use Rattle.texts.specs.declared.rows.Rows.{Rows}

-- the fields of the row that was read last
abbrev pub last_row : {R : Type 0} → Rows R → List (List ℕ)
last_row rows = fields_of rows.row

-- the reader yields rows as they are, of any number of fields, the first one too
pub record IsPlainReader {R : Type 0} (reader : Reader R) : Type 0 where
  pub config : reader_config reader ≡ default_config
  pub trim : reader_trim reader ≡ trim.None
  pub ready : Ready reader
  pub flexible : is_flexible reader ≡ true

-- these rows of these bytes have been read, and the rest of the bytes is to come
pub record HasRead {R : Type 0} (remaining : R → Option (List ℕ)) (bytes : List ℕ) (so_far : List (List (List ℕ))) (rows : Rows R) : Type 0 where
  pub plain : IsPlainReader rows.reader
  pub rest : List ℕ
  pub left : source_of remaining rows.reader ≡ Some rest
  pub reached : Reached default_config state.StartRecord (strip_bom bytes) so_far (reader_state rows.reader) rest

-- the row that was read last comes after these, and has `width` fields
pub record IsAtRow {R : Type 0} (remaining : R → Option (List ℕ)) (bytes : List ℕ) (before : List (List (List ℕ))) (width : ℕ) (rows : Rows R) : Type 0 where
  pub read : HasRead remaining bytes (before ++ last_row rows ∷ []) rows
  pub row : IsRow width (last_row rows)
