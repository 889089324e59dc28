-- What is written is read back.
use Rattle.std.proofs.Common.{◌≡◌, List, [], ◌∷◌, ◌++◌, ℕ, Option, None, Some, get_or, map, refl, sym, ap, subst, ◌∙◌}
use Rattle.csv.specs.Machine.{next_record}
use Rattle.csv.specs.Reading.{AreRecords, Reached, default_config, strip_bom}
use Rattle.csv.specs.Writing.{escaped, fields_text, is_blank}
use Rattle.csv.specs.declared.parser.Config.{Config}
use Rattle.csv.specs.declared.parser.State.{State}
use Rattle.csv.specs.declared.parser.State.TheVariants as state
use Rattle.csv.proofs.RoundTrip.{read-write-many, rows_text as csv_text}
use Rattle.script.specs.declared.script.Script.{Script}
use Rattle.record.specs.declared.record.Line.{Line}
use Rattle.arena.specs.declared.limits.Mode.{Mode}
use Rattle.report.specs.Report.{report_rows, report_text, version_rows, title_row, seven}
use Rattle.report.specs.declared.version.Version.{Version}
use Rattle.report.specs.declared.version.Version.TheVariants.{Two}
use Rattle.texts.specs.Pages.{line_of, rows_text}
use Rattle.report.proofs.Versions.{same_version}

pub no_next : {A : Type 0} (next : Option A) (p : A) → next ≡ None → next ≡ Some p → ⊥
no_next None p e f = cc
no_next (Some q) p e f = cc

-- some bytes have one list of rows
pub same_records : (cfg : Config) (s : State) (xs : List ℕ) (rows others : List (List (List ℕ))) → AreRecords cfg s xs rows → AreRecords cfg s xs others → rows ≡ others
unfolding Reached
same_records cfg s xs [] [] a b = refl
same_records cfg s xs [] (row ∷ others) a b =
    let none : next_record cfg s [] [] xs ≡ None = rw (a.2.0, a.2.1) a.3 in
    absurd (no_next _ b.2.0 none b.2.1)
same_records cfg s xs (row ∷ rows) [] a b =
    let none : next_record cfg s [] [] xs ≡ None = rw (b.2.0, b.2.1) b.3 in
    absurd (no_next _ a.2.0 none a.2.1)
same_records cfg s xs (row ∷ rows) (other ∷ others) a b =
    let both : Some a.2.0 ≡ Some b.2.0 = sym a.2.1 ∙ b.2.1 in
    let one : a.2.0 ≡ b.2.0 = cc in
    let first : row ≡ other = a.2.2 ∙ ap (λ p. p.0) one ∙ sym b.2.2 in
    let rest = subst (λ p. Reached cfg p.1 p.2 others b.0 b.1) (sym one) b.2.3 in
    ap (λ r. r ∷ rows) first ∙ ap (λ rs. other ∷ rs) (same_records cfg a.2.0.1 a.2.0.2 rows others (a.0, a.1, a.2.3, a.3) (b.0, b.1, rest, b.3))

-- the line of a row is read as the row
line_is_read : (fields : List (List ℕ)) (tail : List ℕ) → next_record default_config state.StartRecord [] [] (line_of 7 fields ++ tail) ≡ Some (seven fields, state.StartRecord, tail)
line_is_read [] tail = read-write-many [] [] ([] ∷ [] ∷ [] ∷ [] ∷ [] ∷ []) tail
line_is_read (a ∷ []) tail = read-write-many a [] ([] ∷ [] ∷ [] ∷ [] ∷ [] ∷ []) tail
line_is_read (a ∷ b ∷ fields) tail = read-write-many a b _ tail

-- lines are read as their rows
lines_are_read : (rows : List (List (List ℕ))) → Reached default_config state.StartRecord (rows_text 7 rows) (map seven rows) state.StartRecord []
unfolding Reached rows_text
lines_are_read [] = (refl, refl)
lines_are_read (row ∷ rows) = ((seven row, state.StartRecord, rows_text 7 rows), line_is_read row (rows_text 7 rows), refl, lines_are_read rows)

-- a report begins with no byte order mark
no_mark : (mode : Mode) (rows : List (List (List ℕ))) → strip_bom (rows_text 7 (title_row mode ∷ rows)) ≡ rows_text 7 (title_row mode ∷ rows)
unfolding strip_bom rows_text fields_text escaped is_blank
no_mark mode rows = refl

-- a report is read as its rows
pub report_is_read : (script : Script) (lines : List Line) → AreRecords default_config state.StartRecord (strip_bom (report_text script lines)) (map seven (report_rows script lines))
unfolding next_record
report_is_read script lines =
    rw (no_mark script.layout.mode _) (state.StartRecord, [], lines_are_read (report_rows script lines), refl)

-- rows of the same fields have the same text
text_of_seven : (rows : List (List (List ℕ))) → rows_text 7 rows ≡ csv_text (map seven rows)
unfolding rows_text csv_text
text_of_seven [] = refl
text_of_seven (row ∷ rows) = ap (λ text. line_of 7 row ++ text) (text_of_seven rows)

-- what is read from a report has that report: it is read in the version in which it was written
pub same_report : (version : Version) (script told : Script) (lines others : List Line) → AreRecords default_config state.StartRecord (strip_bom (report_text script lines)) (map seven (version_rows version told others)) → report_text told others ≡ report_text script lines
same_report version script told lines others read =
    let rows = same_records default_config state.StartRecord (strip_bom (report_text script lines)) _ _ read (report_is_read script lines) in
    let named = ap (λ (all : List (List (List ℕ))). get_or (get_or all 0 []) 1 []) rows in
    let written = subst (λ v. map seven (version_rows v told others) ≡ map seven (report_rows script lines)) (same_version version Two named) rows in
    text_of_seven (report_rows told others) ∙ ap csv_text written ∙ sym (text_of_seven (report_rows script lines))
