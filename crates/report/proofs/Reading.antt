-- Rows that are read one by one.
use Rattle.std.proofs.Common.{Bor, subst, ◌≡◌, List, [], ◌∷◌, ◌++◌, ℕ, Bool, true, false, Option, suc, ◌+◌, length, length-append, refl, sym, ap, append_assoc, ◌∙◌, arith, map, reverse, MatchBool}
use Rattle.std.proofs.lemmas.List.{append-nil, map-append}
use Rattle.csv.specs.Records.{field_at}
use Rattle.texts.specs.Fields.{field_of}
use Rattle.texts.specs.declared.rows.Rows.{Rows}
use Rattle.texts.specs.Texts.{AreRows, IsRow}
use Rattle.record.specs.Common.{Call, texts, limits_row}
use Rattle.arena.specs.declared.limits.Limits.{Limits}
use Rattle.arena.specs.declared.limits.Mode.{Mode}
use Rattle.record.specs.declared.record.Line.{Line}
use Rattle.report.specs.Report.{reported_call_row, call_rows, report_end_row, line_row, rows_of_calls, rows_of_lines, rows_told, title_in, seven}
use Rattle.report.specs.RowFaults.{AreOfReport}
use Rattle.report.specs.declared.version.Version.{Version}
use Rattle.report.proofs.CallRows.{call_rows_after}
use Rattle.texts.specs.Reads.{HasRead, IsAtRow, last_row}

-- a row was found, or there is none
pub standing : {R : Type 0} (remaining : R → Option (List ℕ)) (bytes : List ℕ) (before : List (List (List ℕ))) (rows : Rows R) (found : Bool)
    → MatchBool found (IsRow 7 (last_row rows) × HasRead remaining bytes (before ++ last_row rows ∷ []) rows) (AreRows bytes before)
    → MatchBool found (IsAtRow remaining bytes before 7 rows) (AreRows bytes before)
standing remaining bytes before rows true (row, read) = record { read = read; row = row }
standing remaining bytes before rows false all = all

-- what a row says that was read
pub row_read : {R : Type 0} (remaining : R → Option (List ℕ)) (bytes : List ℕ) (before : List (List (List ℕ))) (rows : Rows R) (fields : List (Bor (List ℕ))) (row : List (List ℕ)) → IsAtRow remaining bytes before 7 rows → texts fields ≡ last_row rows → texts fields ≡ row → HasRead remaining bytes (before ++ row ∷ []) rows
row_read remaining bytes before rows fields row here are is = subst (λ r. HasRead remaining bytes (before ++ r ∷ []) rows) (sym are ∙ is) here.read

-- a row of seven fields is its fields one by one
pub seven_fields : (fields : List (List ℕ)) → length fields ≡ 7 → field_of fields 0 ∷ field_of fields 1 ∷ field_of fields 2 ∷ field_of fields 3 ∷ field_of fields 4 ∷ field_of fields 5 ∷ field_of fields 6 ∷ [] ≡ fields
unfolding field_at
seven_fields (a ∷ b ∷ c ∷ d ∷ e ∷ f ∷ g ∷ []) h = refl
seven_fields fields h = absurd (omega arith)

-- one more row after those of some calls
pub call_read : (before : List (List (List ℕ))) (calls : List Call) (call : Call) (row : List (List ℕ)) → row ≡ seven (reported_call_row (reverse calls) call)
    → (before ++ map seven (call_rows [] calls)) ++ row ∷ [] ≡ before ++ map seven (call_rows [] (calls ++ call ∷ []))
unfolding call_rows
call_read before calls call row e =
    append_assoc before (map seven (call_rows [] calls)) (row ∷ [])
    ∙ ap (λ rows. before ++ rows)
    (ap (λ fields. map seven (call_rows [] calls) ++ fields ∷ []) (e ∙ ap (λ earlier. seven (reported_call_row earlier call)) (sym (append-nil (reverse calls))))
    ∙ sym (ap (map seven) (call_rows_after [] calls (call ∷ [])) ∙ map-append seven (call_rows [] calls) (reported_call_row (reverse calls ++ []) call ∷ [])))

-- one more row after those of some lines
pub line_read : (before : List (List (List ℕ))) (lines : List Line) (line : Line) (row : List (List ℕ)) → row ≡ seven (line_row line)
    → (before ++ map seven (map line_row lines)) ++ row ∷ [] ≡ before ++ map seven (map line_row (lines ++ line ∷ []))
line_read before lines line row e =
    append_assoc before (map seven (map line_row lines)) (row ∷ [])
    ∙ ap (λ rows. before ++ rows)
    (ap (λ fields. map seven (map line_row lines) ++ fields ∷ []) e
    ∙ sym (ap (map seven) (map-append line_row lines (line ∷ [])) ∙ map-append seven (map line_row lines) (line_row line ∷ [])))

-- how many rows there are

call_rows_length : (earlier calls : List Call) → length (map seven (call_rows earlier calls)) ≡ length calls
unfolding call_rows
call_rows_length earlier [] = refl
call_rows_length earlier (call ∷ calls) = ap suc (call_rows_length (call ∷ earlier) calls)

line_rows_length : (lines : List Line) → length (map seven (map line_row lines)) ≡ length lines
line_rows_length [] = refl
line_rows_length (line ∷ lines) = ap suc (line_rows_length lines)

-- of the head, of n calls and of the row after them
pub calls_counted : (version : Version) (mode : Mode) (limits : Limits) (calls : List Call) (n : ℕ) → n ≡ length calls → suc (length (rows_of_calls version mode limits calls)) ≡ 3 + n
calls_counted version mode limits calls n is = omega (arith, call_rows_length [] calls, is)

pub calls_counted_more : (version : Version) (mode : Mode) (limits : Limits) (calls : List Call) (call : Call) (n : ℕ) → n ≡ length calls → length (rows_of_calls version mode limits (calls ++ call ∷ [])) ≡ 3 + n
calls_counted_more version mode limits calls call n is = omega (arith, call_rows_length [] (calls ++ call ∷ []), length-append calls (call ∷ []), is)

-- of the head, of calls and of lines
pub lines_counted : (version : Version) (mode : Mode) (limits : Limits) (calls : List Call) (lines : List Line) (n : ℕ) → n ≡ length lines → length (rows_of_lines version mode limits calls lines) ≡ 2 + length calls + n
lines_counted version mode limits calls lines n is = omega (arith, call_rows_length [] calls, line_rows_length lines, length-append (rows_of_calls version mode limits calls) (map seven (map line_row lines)), is)

-- and of the row after them
pub end_counted : (version : Version) (mode : Mode) (limits : Limits) (calls : List Call) (lines : List Line) (row : List (List ℕ)) → length (rows_of_lines version mode limits calls lines ++ row ∷ []) ≡ 3 + length calls + length lines
end_counted version mode limits calls lines row = omega (arith, lines_counted version mode limits calls lines (length lines) refl, length-append (rows_of_lines version mode limits calls lines) (row ∷ []))

-- the rows of a report in their parts
pub whole_report : (version : Version) (mode : Mode) (limits : Limits) (calls : List Call) (lines : List Line)
    → (map seven (title_in version mode ∷ limits_row limits ∷ call_rows [] calls) ++ map seven (map line_row lines)) ++ seven (report_end_row lines) ∷ []
    ≡ map seven (rows_told version mode limits calls lines)
whole_report version mode limits calls lines =
    let head = title_in version mode ∷ limits_row limits ∷ call_rows [] calls in
    append_assoc (map seven head) (map seven (map line_row lines)) (seven (report_end_row lines) ∷ [])
    ∙ ap (λ rows. map seven head ++ rows) (sym (map-append seven (map line_row lines) (report_end_row lines ∷ [])))
    ∙ sym (map-append seven head (map line_row lines ++ report_end_row lines ∷ []))

-- those of any report
pub rows_in_parts : {rows : List (List (List ℕ))} (r : AreOfReport rows) → rows ≡ seven (title_in r.version r.mode) ∷ seven (limits_row r.limits) ∷ (map seven (call_rows [] r.calls) ++ (map seven (map line_row r.lines) ++ seven (report_end_row r.lines) ∷ []))
rows_in_parts r =
    r.are ∙ sym (whole_report r.version r.mode r.limits r.calls r.lines)
    ∙ append_assoc (map seven (title_in r.version r.mode ∷ limits_row r.limits ∷ call_rows [] r.calls)) (map seven (map line_row r.lines)) (seven (report_end_row r.lines) ∷ [])
