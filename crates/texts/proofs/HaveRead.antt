-- What reads of rows add to what was read.
use Rattle.std.proofs.Common.{ℕ, ◌≡◌, ◌≢◌, inl, List, [], ◌∷◌, ◌++◌, Option, Some, None, Bool, true, false, refl, sym, subst, ◌∙◌}
use Rattle.std.proofs.lemmas.Bool.{false≢true}
use Rattle.csv.proofs.ReadFacts.{reached-more, rows-end, rows-more}
use Rattle.csv.specs.Machine.{Read, next_record}
use Rattle.csv.specs.Reading.{NextIs, ExplainsRead, ReadRecord, Reached, ReadsNext, TookRecord, default_config, is_flexible, reader_state, source_of, stops_reader, strip_bom, took_first}
use Rattle.csv.specs.declared.error.ErrorKind.{ErrorKind}
use Rattle.csv.specs.declared.error.ErrorKind.TheVariants as kind
use Rattle.csv.specs.declared.parser.Config.{Config}
use Rattle.csv.specs.declared.parser.State.{State}
use Rattle.csv.specs.declared.parser.State.TheVariants as state
use Rattle.csv.specs.declared.reader.Reader.{Reader}
use Rattle.texts.specs.Reads.{HasRead, IsPlainReader}
use Rattle.texts.specs.Texts.{AreRows, BeginWithRows, IsRow}
use Rattle.texts.specs.declared.rows.Rows.{Rows}

-- nothing has been read of a reader that was just made
pub opened : {R : Type 0} (remaining : R → Option (List ℕ)) (bytes : List ℕ) (rows : Rows R) → IsPlainReader rows.reader → reader_state rows.reader ≡ state.StartRecord → source_of remaining rows.reader ≡ Some (strip_bom bytes) → HasRead remaining bytes [] rows
unfolding Reached
opened remaining bytes rows plain start left = record { plain = plain; rest = strip_bom bytes; left = left; reached = (sym start, refl) }

plain_after : {R : Type 0} (remaining : R → Option (List ℕ)) (old new : Reader R) (found : Bool) (fields : List (List ℕ)) → IsPlainReader old → ReadRecord remaining old new found fields → took_first new ≡ true → is_flexible new ≡ is_flexible old → IsPlainReader new
plain_after remaining old new found fields plain read first flexible = record { config = read.2 ∙ plain.config; trim = read.3 ∙ plain.trim; ready = inl first; flexible = flexible ∙ plain.flexible }

-- a row more has been read
pub read_more : {R : Type 0} (remaining : R → Option (List ℕ)) (bytes : List ℕ) (so_far : List (List (List ℕ))) (old new : Rows R) (found : Bool) (fields : List (List ℕ)) → found ≡ true → HasRead remaining bytes so_far old → ReadRecord remaining old.reader new.reader found fields → took_first new.reader ≡ true → is_flexible new.reader ≡ is_flexible old.reader → HasRead remaining bytes (so_far ++ fields ∷ []) new
read_more remaining bytes so_far old new found fields is_found h read first flexible =
    let more = rows-more remaining old.reader new.reader fields default_config state.StartRecord (strip_bom bytes) h.rest so_far h.plain.config h.left h.reached (rw is_found at read) in
    record { plain = plain_after remaining old.reader new.reader found fields h.plain read first flexible; rest = more.0; left = more.1; reached = more.2 }

-- no row was left
pub read_all : {R : Type 0} (remaining : R → Option (List ℕ)) (bytes : List ℕ) (so_far : List (List (List ℕ))) (old new : Rows R) (found : Bool) (fields : List (List ℕ)) → found ≡ false → HasRead remaining bytes so_far old → ReadRecord remaining old.reader new.reader found fields → AreRows bytes so_far
read_all remaining bytes so_far old new found fields none h read =
    (reader_state old.reader, h.rest, h.reached, rows-end remaining old.reader new.reader fields default_config h.rest h.plain.config h.left (rw none at read))

-- what was read is a beginning
pub begins : {R : Type 0} (remaining : R → Option (List ℕ)) (bytes : List ℕ) (so_far : List (List (List ℕ))) (rows : Rows R) → HasRead remaining bytes so_far rows → BeginWithRows bytes so_far
begins remaining bytes so_far rows h = (reader_state rows.reader, h.rest, h.reached)

next_is : (o : Option Read) (fields : List (List ℕ)) (s : State) (rest : List ℕ) → NextIs o true fields s rest → (p : Read) × (o ≡ Some p) × (fields ≡ p.0)
next_is None fields s rest h = cc h
next_is (Some p) fields s rest h = (p, refl, h.1)

taken : (config : Config) (s0 s1 s2 : State) (xs rest : List ℕ) (so_far : List (List (List ℕ))) (fields : List (List ℕ)) (left : Option (List ℕ)) → Reached config s0 xs so_far s1 rest → ReadsNext config s1 (Some rest) left true fields s2 → (s : State) × (more : List ℕ) × Reached config s0 xs (so_far ++ fields ∷ []) s more
taken config s0 s1 s2 xs rest so_far fields None reached next = absurd next
taken config s0 s1 s2 xs rest so_far fields (Some left) reached next =
    let p = next_is (next_record config s1 [] [] rest) fields s2 left next in
    subst (λ (f : List (List ℕ)). (s : State) × (more : List ℕ) × Reached config s0 xs (so_far ++ f ∷ []) s more) (sym p.2) (p.0.1, p.0.2, reached-more config s0 s1 xs rest so_far p.0 reached p.1)

-- a row that was read, but could not be given, comes after those that were given
pub took : {R : Type 0} (remaining : R → Option (List ℕ)) (bytes : List ℕ) (so_far : List (List (List ℕ))) (old new : Rows R) (fields : List (List ℕ)) → HasRead remaining bytes so_far old → TookRecord remaining old.reader new.reader fields → BeginWithRows bytes (so_far ++ fields ∷ [])
took remaining bytes so_far old new fields h next =
    taken default_config state.StartRecord (reader_state old.reader) (reader_state new.reader) (strip_bom bytes) h.rest so_far fields _ h.reached (rw (h.plain.config, h.left) at next)

-- an error that does not stop the reader is of a row that is none
pub no_row : {R : Type 0} (remaining : R → Option (List ℕ)) (bytes : List ℕ) (so_far : List (List (List ℕ))) (old new : Rows R) (width : ℕ) (why : ErrorKind) → HasRead remaining bytes so_far old → ExplainsRead remaining old.reader new.reader true why → stops_reader why ≡ false → (fields : List (List ℕ)) × BeginWithRows bytes (so_far ++ fields ∷ []) × ¬ (IsRow width fields)
no_row remaining bytes so_far old new width (kind.Io e) h why on = absurd (false≢true (sym on))
no_row remaining bytes so_far old new width kind.OutOfMemory h why on = absurd (false≢true (sym on))
no_row remaining bytes so_far old new width (kind.UnequalLengths pos expected len) h why on = absurd (false≢true (sym why.0 ∙ h.plain.flexible))
no_row remaining bytes so_far old new width (kind.Utf8 pos err) h why on = (why.1, took remaining bytes so_far old new why.1 h why.2, λ row. why.3 row.1)
no_row remaining bytes so_far old new width (kind.Serialize text) h why on = absurd why
no_row remaining bytes so_far old new width (kind.Deserialize pos err) h why on = absurd why

-- errors of other kinds than these do not stop the reader
pub not_stopped : (why : ErrorKind) → ((e : _) → why ≢ kind.Io e) → why ≢ kind.OutOfMemory → stops_reader why ≡ false
not_stopped (kind.Io e) other_io other_memory = absurd (other_io e refl)
not_stopped kind.OutOfMemory other_io other_memory = absurd (other_memory refl)
not_stopped (kind.UnequalLengths pos expected len) other_io other_memory = refl
not_stopped (kind.Utf8 pos err) other_io other_memory = refl
not_stopped (kind.Serialize text) other_io other_memory = refl
not_stopped (kind.Deserialize pos err) other_io other_memory = refl
