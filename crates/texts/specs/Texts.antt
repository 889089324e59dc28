-- Texts of rows: what their bytes say, and why one is refused. The rows are those that csv yields.
use Rattle.std.specs.Prelude.{ℕ, suc, ◌≡◌, ◌≢◌, ◌≤◌, ◌-◌, ◌⊎◌, List, [], ◌∷◌, ◌++◌, All, codes, decimal, length, map, replicate, ⊤}
use Rattle.csv.specs.Records.{AllText}
use Rattle.csv.specs.Reading.{AreRecords, Reached, default_config, strip_bom}
use Rattle.csv.specs.declared.parser.State.{State}
use Rattle.csv.specs.declared.parser.State.TheVariants as state
use Rattle.texts.specs.declared.fault.TextFault.{TextFault}
use Rattle.texts.specs.declared.fault.TextFault.TheVariants.{NoMemory, Read, Bad}
use Rattle.texts.specs.Fields.{field_of}

-- Bytes as rows

-- these are all the rows of the bytes
abbrev pub AreRows : List ℕ → List (List (List ℕ)) → Type 0
AreRows bytes rows = AreRecords default_config state.StartRecord (strip_bom bytes) rows

-- the bytes begin with these rows; what follows is not looked at
abbrev pub BeginWithRows : List ℕ → List (List (List ℕ)) → Type 0
BeginWithRows bytes rows = (s : State) × (rest : List ℕ) × Reached default_config state.StartRecord (strip_bom bytes) rows s rest

-- these are this many fields, each of them text
abbrev pub IsRow : ℕ → List (List ℕ) → Type 0
IsRow width fields = (length fields ≡ width) × AllText fields

-- the row that counts the entries before it, and says nothing else
abbrev pub end_row : ℕ → ℕ → List (List ℕ)
end_row width count = codes "end" ∷ decimal count ∷ replicate (width - 2) []

-- What entries a text has, and which rows are no entries

-- how a text says its entries
pub record Grammar (Entry Cause : Type 0) : Type 1 where
  -- how many fields a row has
  pub width : ℕ
  -- the row of an entry, and which entries are accepted
  pub row_of : Entry → List (List ℕ)
  pub Accepts : Entry → Type 0
  -- why a row says no entry
  pub IsNoEntry : List (List ℕ) → Cause → Type 0
  -- the causes that every text has: rows of another width or that are no text
  pub fields : Cause
  -- an end row that is missing or wrong
  pub end : Cause
  -- one entry too many
  pub long : Cause

module _ {Entry Cause : Type 0} (g : Grammar Entry Cause) where
  -- how many entries a text may have
  abbrev pub most_entries : ℕ
  most_entries = 65536

  -- these entries are accepted, and not too many
  abbrev pub AreAcceptedEntries : List Entry → Type 0
  AreAcceptedEntries entries = All g.Accepts entries × (length entries ≤ most_entries)

  -- the rows of these entries, after those of the text's head
  abbrev pub rows_of_entries : List (List (List ℕ)) → List Entry → List (List (List ℕ))
  rows_of_entries head entries = head ++ map g.row_of entries

  -- the bytes say these entries: their rows come
  -- after the head, then the end row, and nothing else
  abbrev pub SayEntries : List ℕ → List (List (List ℕ)) → List Entry → Type 0
  SayEntries bytes head entries = AreAcceptedEntries entries × AreRows bytes (rows_of_entries head entries ++ end_row g.width (length entries) ∷ [])

  -- the row begins as the end row does
  abbrev pub IsEndRow : List (List ℕ) → Type 0
  IsEndRow fields = field_of fields 0 ≡ codes "end"

  -- what is wrong first with a row after these entries: it is none; it ends the text, but does not
  -- count the entries; it is no entry; it is one too many
  abbrev pub IsFaulty : List Entry → List (List ℕ) → Cause → Type 0
  IsFaulty entries fields cause =
      (¬ (IsRow g.width fields) × (cause ≡ g.fields))
      ⊎ (IsRow g.width fields × IsEndRow fields × (fields ≢ end_row g.width (length entries)) × (cause ≡ g.end))
      ⊎ (IsRow g.width fields × ¬ (IsEndRow fields) × g.IsNoEntry fields cause)
      ⊎ (IsRow g.width fields × ¬ (IsEndRow fields) × ((entry : Entry) × g.Accepts entry × (fields ≡ g.row_of entry)) × (length entries ≡ most_entries) × (cause ≡ g.long))

  -- what is wrong first with a row after the end row: it is none; it is no entry; it is there
  abbrev pub IsTooLate : List (List ℕ) → Cause → Type 0
  IsTooLate fields cause =
      (¬ (IsRow g.width fields) × (cause ≡ g.fields))
      ⊎ (IsRow g.width fields × ¬ (IsEndRow fields) × g.IsNoEntry fields cause)
      ⊎ (IsRow g.width fields × (IsEndRow fields ⊎ (entry : Entry) × g.Accepts entry × (fields ≡ g.row_of entry)) × (cause ≡ g.end))

  -- what is wrong with an end row, of this number, after these rows: it does not count the
  -- entries, or a row comes after it
  abbrev pub IsEndFault : List ℕ → List (List (List ℕ)) → List (List ℕ) → ℕ → ℕ → ℕ → Cause → Type 0
  IsEndFault bytes before fields entries number row cause =
      ((row ≡ number) × (fields ≢ end_row g.width entries) × (cause ≡ g.end))
      ⊎ ((row ≡ suc number) × (fields ≡ end_row g.width entries) × (late : List (List ℕ)) × BeginWithRows bytes ((before ++ fields ∷ []) ++ late ∷ []) × IsTooLate late cause)

  -- the first faulty row after the head and some entries, counted from 1, and
  -- what is wrong with it: the row that is missing at the end, the one after
  -- the entries, or the one after a right end row
  abbrev pub IsFirstFault : List ℕ → List (List (List ℕ)) → ℕ → Cause → Type 0
  IsFirstFault bytes head row cause = (entries : List Entry) × AreAcceptedEntries entries × (
      (AreRows bytes (rows_of_entries head entries) × (row ≡ suc (length (rows_of_entries head entries))) × (cause ≡ g.end))
      ⊎ ((fields : List (List ℕ)) × BeginWithRows bytes (rows_of_entries head entries ++ fields ∷ []) × (row ≡ suc (length (rows_of_entries head entries))) × IsFaulty entries fields cause)
      ⊎ ((fields : List (List ℕ)) × BeginWithRows bytes (rows_of_entries head entries ++ end_row g.width (length entries) ∷ fields ∷ []) × (row ≡ suc (suc (length (rows_of_entries head entries)))) × IsTooLate fields cause))

-- where a text is refused for a row, `names` holds of that row and the cause
abbrev pub IfBad : {Cause : Type 0} → (ℕ → Cause → Type 0) → TextFault Cause → Type 0
IfBad names NoMemory = ⊤
IfBad names Read = ⊤
IfBad names (Bad row cause) = names row cause
