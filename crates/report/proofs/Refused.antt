-- Rows with which no report begins, and why.
use Rattle.std.proofs.Common.{◌≡◌, ◌≢◌, ◌<◌, ◌≤◌, ◌^◌, ◌∙◌, ℕ, suc, Some, None, cond, eqb, List, [], ◌∷◌, ◌++◌, All, ap, append_assoc, append-nil, arith, codes, decimal, drop, get_or, inl, inr, length, map, refl, reverse, subst, sym, lit<, lit≤}
use Rattle.std.specs.Prelude.{⊤}
use Rattle.std.proofs.lemmas.Fmt.{decimal_injective}
use Rattle.std.proofs.lemmas.List.Elements.{All-head, All-tail, All-nil}
use Rattle.std.specs.List.{AllByRecursion}
use Rattle.csv.specs.Reading.{AreRecords, Reached, default_config, strip_bom}
use Rattle.csv.specs.Machine.{next_record}
use Rattle.csv.specs.declared.parser.Config.{Config}
use Rattle.csv.specs.declared.parser.State.{State}
use Rattle.csv.specs.declared.parser.State.TheVariants as state
use Rattle.arena.specs.Limits.{IsAccepted}
use Rattle.arena.specs.Opening.{is_map}
use Rattle.arena.specs.declared.limits.Limits.{Limits}
use Rattle.arena.specs.declared.limits.Mode.{Mode}
use Rattle.arena.specs.declared.limits.Mode.TheVariants.{Tree, Trie, Records}
use Rattle.record.specs.Common.{command_row, limits_row, Call}
use Rattle.record.specs.declared.record.Line.{Line}
use Rattle.record.specs.declared.record.Line.TheVariants.{Step, Log, Reply}
use Rattle.record.specs.declared.record.TurnRow.TheVariants.{Step as Made, Idle}
use Rattle.texts.specs.Texts.{AreRows, BeginWithRows, IfBad, IsRow}
use Rattle.texts.specs.declared.fault.TextFault.{TextFault}
use Rattle.texts.specs.declared.fault.TextFault.TheVariants.{NoMemory, Read, Bad}
use Rattle.report.specs.Faults.{report_fault}
use Rattle.report.specs.declared.fault.NotLawful.{NotLawful}
use Rattle.report.specs.Report.{BeginsBehindCalls, IsCallRow, call_rows, calls_by, entries_in, head_rows, line_row, mode_text, name_of, replies_in, report_end_row, reported_call_row, rows_of_calls, rows_of_lines, seven, steps_in, title_in}
use Rattle.report.specs.RowFaults.{AreAdmitted, AreOfReport, BeginReport, FailsBehind, IfRefused, IsFirstBadRow}
use Rattle.report.specs.Spellings.{IsReported, IsSpelledLine}
use Rattle.report.specs.Versions.{HasCommand}
use Rattle.report.specs.declared.version.Version.{Version}
use Rattle.report.specs.declared.version.Version.TheVariants.{One}
use Rattle.report.proofs.CallRows.{reverse_after}
use Rattle.report.proofs.Reading.{rows_in_parts, whole_report}
use Rattle.report.proofs.RoundTrip.{no_next, same_records}
use Rattle.report.proofs.RowTexts.{all_both, report_is_wide}
use Rattle.report.proofs.Versions.{same_version}

-- Names of rows

-- no end row
abbrev pub IsNoEnd : List (List ℕ) → Type 0
IsNoEnd row = name_of row ≢ codes "end"

-- the letter that a line's row begins with
abbrev letter_of : Line → ℕ
letter_of (Step row) = 115
letter_of (Log entry) = 108
letter_of (Reply reply) = 114

line_letter : (line : Line) → get_or (name_of (seven (line_row line))) 0 0 ≡ letter_of line
line_letter (Step (Made n row)) = refl
line_letter (Step (Idle n client)) = refl
line_letter (Log entry) = refl
line_letter (Reply reply) = refl

letters : (line : Line) → (letter_of line ≢ 101) × (letter_of line ≢ 99)
letters (Step row) = (λ e. omega (arith, e), λ e. omega (arith, e))
letters (Log entry) = (λ e. omega (arith, e), λ e. omega (arith, e))
letters (Reply reply) = (λ e. omega (arith, e), λ e. omega (arith, e))

pub line_is_no_end : (line : Line) → IsNoEnd (seven (line_row line))
line_is_no_end line is = (letters line).0 (sym (line_letter line) ∙ ap (λ (t : List ℕ). get_or t 0 0) is)

line_is_no_call : (line : Line) → ¬ (IsCallRow (seven (line_row line)))
line_is_no_call line is = (letters line).1 (sym (line_letter line) ∙ ap (λ (t : List ℕ). get_or t 0 0) is)

end_is_no_call : (lines : List Line) → ¬ (IsCallRow (seven (report_end_row lines)))
end_is_no_call lines is = omega (arith, ap (λ (t : List ℕ). get_or t 0 0) is)

calls_are_named : (earlier calls : List Call) → AllByRecursion IsCallRow (map seven (call_rows earlier calls))
unfolding call_rows
calls_are_named earlier [] = tt
calls_are_named earlier (call ∷ calls) = (refl, calls_are_named (call ∷ earlier) calls)

call_is_no_end : (row : List (List ℕ)) → IsCallRow row → IsNoEnd row
call_is_no_end row call end = omega (arith, ap (λ (t : List ℕ). get_or t 0 0) (sym call ∙ end))

all_of : {X : Type 0} (P Q : X → Type 0) (xs : List X) → ((x : X) → P x → Q x) → AllByRecursion P xs → AllByRecursion Q xs
all_of P Q [] f p = tt
all_of P Q (x ∷ xs) f p = (f x p.0, all_of P Q xs f p.1)

lines_no_end : (lines : List Line) → AllByRecursion IsNoEnd (map seven (map line_row lines))
lines_no_end [] = tt
lines_no_end (line ∷ lines) = (line_is_no_end line, lines_no_end lines)

-- Lists that are the same

-- if there is a first row, it is not so
abbrev pub BeginsOtherwise : (List (List ℕ) → Type 0) → List (List (List ℕ)) → Type 0
BeginsOtherwise P [] = ⊤
BeginsOtherwise P (row ∷ rows) = ¬ (P row)

-- where the first rows of each of two lists that are the same are so, and the rest begins
-- otherwise, they are the same up to there, and after it
same_parts : (P : List (List ℕ) → Type 0) (xs ys more others : List (List (List ℕ))) → AllByRecursion P xs → AllByRecursion P ys → BeginsOtherwise P more → BeginsOtherwise P others → xs ++ more ≡ ys ++ others → (xs ≡ ys) × (more ≡ others)
same_parts P [] [] more others a b f g e = (refl, e)
same_parts P [] (y ∷ ys) [] others a b f g e = absurd cc
same_parts P [] (y ∷ ys) (m ∷ more) others a b f g e = let same : m ≡ y = cc in absurd (f (subst P (sym same) b.0))
same_parts P (x ∷ xs) [] more [] a b f g e = absurd cc
same_parts P (x ∷ xs) [] more (o ∷ others) a b f g e = let same : o ≡ x = cc in absurd (g (subst P (sym same) a.0))
same_parts P (x ∷ xs) (y ∷ ys) more others a b f g e =
    let first : x ≡ y = cc in
    let rest : xs ++ more ≡ ys ++ others = cc in
    let both = same_parts P xs ys more others a.1 b.1 f g rest in
    (ap (λ row. row ∷ xs) first ∙ ap (λ rows. y ∷ rows) both.0, both.1)

-- The row of a call

-- the client numbers are below this number
abbrev AreBelow : ℕ → List Call → Type 0
AreBelow passes calls = All (λ call. call.client.0 < passes) calls

-- the row is one of a call that may come after these
pub record IsRowOfCall (row : List (List ℕ)) (version : Version) (mode : Mode) (passes : ℕ) (before : List Call) : Type 0 where
  pub call : Call
  pub reported : IsReported version mode passes call
  pub is : row ≡ seven (reported_call_row before call)

more_alike : (call other : Call) (earlier others : List Call) → call.client.0 ≡ other.client.0 → ((client : ℕ) → calls_by client earlier ≡ calls_by client others) → (client : ℕ) → calls_by client (call ∷ earlier) ≡ calls_by client (other ∷ others)
more_alike call other earlier others same alike client =
    ap (λ (n : ℕ). cond (eqb n client) (suc (calls_by client earlier)) (calls_by client earlier)) same
    ∙ ap (λ (n : ℕ). cond (eqb other.client.0 client) (suc n) n) (alike client)

-- a row that is named so after the rows of some calls, where a report's calls are
call_found : (version : Version) (mode : Mode) (passes : ℕ) (earlier others calls told : List Call) (row : List (List ℕ)) (more rest : List (List (List ℕ))) → passes ≤ 32
    → ((client : ℕ) → calls_by client earlier ≡ calls_by client others) → AreBelow (2 ^ 64) calls → All (IsReported version mode passes) told
    → IsCallRow row → BeginsOtherwise IsCallRow rest → map seven (call_rows earlier calls) ++ row ∷ more ≡ map seven (call_rows others told) ++ rest
    → IsRowOfCall row version mode passes (reverse calls ++ earlier) × (length calls < length told)
unfolding call_rows
call_found version mode passes earlier others [] [] row more [] few alike below all named other e = absurd (omega (arith, ap length e))
call_found version mode passes earlier others [] [] row more (x ∷ rest) few alike below all named other e = let same : row ≡ x = ap (λ (rows : List (List (List ℕ))). get_or rows 0 []) e in absurd (other (subst IsCallRow same named))
call_found version mode passes earlier others [] (c ∷ told) row more rest few alike below all named other e =
    let same : row ≡ seven (reported_call_row others c) = ap (λ (rows : List (List (List ℕ))). get_or rows 0 []) e in
    (record { call = c; reported = All-head (IsReported version mode passes) c told all; is = same ∙ ap (λ (n : ℕ). seven (codes "call" ∷ decimal c.client.0 ∷ decimal n ∷ command_row c.command)) (sym (alike c.client.0)) }, omega arith)
call_found version mode passes earlier others (c ∷ calls) [] row more [] few alike below all named other e = absurd (omega (arith, ap length e))
call_found version mode passes earlier others (c ∷ calls) [] row more (x ∷ rest) few alike below all named other e =
    let same : seven (reported_call_row earlier c) ≡ x = ap (λ (rows : List (List (List ℕ))). get_or rows 0 []) e in absurd (other (subst IsCallRow same refl))
call_found version mode passes earlier others (c ∷ calls) (d ∷ told) row more rest few alike below all named other e =
    let first : seven (reported_call_row earlier c) ≡ seven (reported_call_row others d) = ap (λ (rows : List (List (List ℕ))). get_or rows 0 []) e in
    let tail = ap (drop 1) e in
    let reported = All-head (IsReported version mode passes) d told all in
    let number : decimal c.client.0 ≡ decimal d.client.0 = ap (λ (fields : List (List ℕ)). get_or fields 1 []) first in
    let client = decimal_injective c.client.0 d.client.0 (All-head (λ (call : Call). call.client.0 < 2 ^ 64) c calls below) (omega (arith, few, reported.0)) number in
    let found = call_found version mode passes (c ∷ earlier) (d ∷ others) calls told row more rest few (more_alike c d earlier others client alike) (All-tail (λ (call : Call). call.client.0 < 2 ^ 64) c calls below) (All-tail (IsReported version mode passes) d told all) named other tail in
    (subst (IsRowOfCall row version mode passes) (reverse_after c calls earlier) found.0, omega (arith, found.1))

-- The rows of lines

-- a row that is no end row, after the rows of some lines, where a report's lines are
line_found : (version : Version) (rows : List (List (List ℕ))) (told : List Line) (row last : List (List ℕ)) (more : List (List (List ℕ))) → AllByRecursion IsNoEnd rows → IsNoEnd row → ¬ (IsNoEnd last) → All (IsSpelledLine version) told
    → rows ++ row ∷ more ≡ map seven (map line_row told) ++ last ∷ [] → (line : Line) × IsSpelledLine version line × (row ≡ seven (line_row line))
line_found version [] [] row last more none no_end end all e = let same : row ≡ last = cc in absurd (end (subst IsNoEnd same no_end))
line_found version [] (line ∷ told) row last more none no_end end all e = (line, All-head (IsSpelledLine version) line told all, ap (λ (rows : List (List (List ℕ))). get_or rows 0 []) e)
line_found version (x ∷ rows) [] row last more none no_end end all e = let same : x ≡ last = cc in absurd (end (subst IsNoEnd same none.0))
line_found version (x ∷ rows) (line ∷ told) row last more none no_end end all e =
    line_found version rows told row last more none.1 no_end end (All-tail (IsSpelledLine version) line told all) (ap (drop 1) e)

-- lines with the same rows are counted alike
same_letter : (line other : Line) (rows others : List (List (List ℕ))) → seven (line_row line) ∷ rows ≡ seven (line_row other) ∷ others → letter_of line ≡ letter_of other
same_letter line other rows others e = sym (line_letter line) ∙ ap (λ (all : List (List (List ℕ))). get_or (name_of (get_or all 0 [])) 0 0) e ∙ line_letter other

pub same_counts : (lines others : List Line) → map seven (map line_row lines) ≡ map seven (map line_row others) → (steps_in lines ≡ steps_in others) × (replies_in lines ≡ replies_in others) × (entries_in lines ≡ entries_in others)
same_counts [] [] e = (refl, refl, refl)
same_counts [] (other ∷ others) e = absurd cc
same_counts (line ∷ lines) [] e = absurd cc
same_counts (Step a ∷ lines) (Step b ∷ others) e = let s = same_counts lines others (ap (drop 1) e) in (ap suc s.0, s.1, s.2)
same_counts (Log a ∷ lines) (Log b ∷ others) e = let s = same_counts lines others (ap (drop 1) e) in (s.0, s.1, ap suc s.2)
same_counts (Reply a ∷ lines) (Reply b ∷ others) e = let s = same_counts lines others (ap (drop 1) e) in (s.0, ap suc s.1, s.2)
same_counts (Step a ∷ lines) (Log b ∷ others) e = absurd (omega (arith, same_letter (Step a) (Log b) _ _ e))
same_counts (Step a ∷ lines) (Reply b ∷ others) e = absurd (omega (arith, same_letter (Step a) (Reply b) _ _ e))
same_counts (Log a ∷ lines) (Step b ∷ others) e = absurd (omega (arith, same_letter (Log a) (Step b) _ _ e))
same_counts (Log a ∷ lines) (Reply b ∷ others) e = absurd (omega (arith, same_letter (Log a) (Reply b) _ _ e))
same_counts (Reply a ∷ lines) (Step b ∷ others) e = absurd (omega (arith, same_letter (Reply a) (Step b) _ _ e))
same_counts (Reply a ∷ lines) (Log b ∷ others) e = absurd (omega (arith, same_letter (Reply a) (Log b) _ _ e))

same_end : (lines others : List Line) → map seven (map line_row lines) ≡ map seven (map line_row others) → seven (report_end_row lines) ≡ seven (report_end_row others)
same_end lines others e =
    let s = same_counts lines others e in
    ap (λ (n : ℕ). seven (codes "end" ∷ decimal n ∷ decimal (replies_in lines) ∷ decimal (entries_in lines) ∷ [])) s.0
    ∙ ap (λ (n : ℕ). seven (codes "end" ∷ decimal (steps_in others) ∷ decimal n ∷ decimal (entries_in lines) ∷ [])) s.1
    ∙ ap (λ (n : ℕ). seven (codes "end" ∷ decimal (steps_in others) ∷ decimal (replies_in others) ∷ decimal n ∷ [])) s.2

-- No report begins so

pub no_title : (row : List (List ℕ)) → ((version : Version) (mode : Mode) → row ≢ seven (title_in version mode)) → ¬ (BeginReport (row ∷ []))
no_title row none (more, r) = none r.version r.mode (ap (λ (rows : List (List (List ℕ))). get_or rows 0 []) (rows_in_parts r))

pub no_limits : (title row : List (List ℕ)) → ((limits : Limits) → IsAccepted limits → row ≢ seven (limits_row limits)) → ¬ (BeginReport (title ∷ row ∷ []))
no_limits title row none (more, r) = none r.limits r.admitted.accepted (ap (λ (rows : List (List (List ℕ))). get_or rows 1 []) (rows_in_parts r))

in_the_middle : {X : Type 0} (P : X → Type 0) (xs ys : List X) (x : X) → AllByRecursion P ((xs ++ x ∷ []) ++ ys) → P x
in_the_middle P [] ys x all = all.0
in_the_middle P (y ∷ xs) ys x all = in_the_middle P xs ys x all.1

pub no_row : (before : List (List (List ℕ))) (row : List (List ℕ)) → ¬ (IsRow 7 row) → ¬ (BeginReport (before ++ row ∷ []))
no_row before row none (more, r) = none (in_the_middle (IsRow 7) before more row (report_is_wide _ r))

same_mode : (mode other : Mode) → mode_text mode ≡ mode_text other → mode ≡ other
same_mode Tree Tree e = refl
same_mode Records Records e = refl
same_mode Trie Trie e = refl
same_mode Tree Trie e = absurd (omega (arith, ap (λ (text : List ℕ). get_or text 2 0) e))
same_mode Tree Records e = absurd (omega (arith, ap (λ (text : List ℕ). get_or text 0 0) e))
same_mode Trie Tree e = absurd (omega (arith, ap (λ (text : List ℕ). get_or text 2 0) e))
same_mode Trie Records e = absurd (omega (arith, ap (λ (text : List ℕ). get_or text 0 0) e))
same_mode Records Tree e = absurd (omega (arith, ap (λ (text : List ℕ). get_or text 0 0) e))
same_mode Records Trie e = absurd (omega (arith, ap (λ (text : List ℕ). get_or text 0 0) e))

-- the row of a title says its version and its mode
same_title : (version other : Version) (mode last : Mode) → seven (title_in version mode) ≡ seven (title_in other last) → (version ≡ other) × (mode ≡ last)
same_title version other mode last e = (
  same_version version other (ap (λ (fields : List (List ℕ)). get_or fields 1 []) e),
  same_mode mode last (ap (λ (fields : List (List ℕ)). get_or fields 2 []) e),
)

module _ (version : Version) (mode : Mode) (limits : Limits) (calls : List Call) (row : List (List ℕ)) (admitted : AreAdmitted version mode limits calls) (named : IsCallRow row) where
  -- the calls of a report that continues with this row
  call_in : (more : List (List (List ℕ))) (r : AreOfReport ((rows_of_calls version mode limits calls ++ row ∷ []) ++ more)) → IsRowOfCall row r.version r.mode r.limits.passes (reverse calls ++ []) × (length calls < length r.calls)
  call_in more r =
      let below : AreBelow (2 ^ 64) calls = λ k d within. let ok = admitted.reported k d within in omega (arith, ok.0, admitted.accepted.passes) in
      let rows = sym (append_assoc (map seven (call_rows [] calls)) (row ∷ []) more) ∙ ap (drop 2) (rows_in_parts r) in
      call_found r.version r.mode r.limits.passes [] [] calls r.calls row more _ r.admitted.accepted.passes (λ client. refl) below r.admitted.reported named (behind_calls r.lines) rows
    where
      behind_calls : (lines : List Line) → BeginsOtherwise IsCallRow (map seven (map line_row lines) ++ seven (report_end_row lines) ∷ [])
      behind_calls [] = end_is_no_call []
      behind_calls (line ∷ lines) = line_is_no_call line

  pub no_call_row : ((call : Call) → IsReported version mode limits.passes call → row ≢ seven (reported_call_row (reverse calls) call)) → ¬ (BeginReport (rows_of_calls version mode limits calls ++ row ∷ []))
  no_call_row none (more, r) =
      let found = (call_in more r).0 in
      let title = ap (λ (rows : List (List (List ℕ))). get_or rows 0 []) (rows_in_parts r) in
      let told = ap (λ (rows : List (List (List ℕ))). get_or (get_or rows 1 []) 1 []) (rows_in_parts r) in
      let same = same_title version r.version mode r.mode title in
      let passes = decimal_injective limits.passes r.limits.passes (omega (arith, admitted.accepted.passes)) (omega (arith, r.admitted.accepted.passes)) told in
      none found.call (omega (arith, found.reported.0, passes), found.reported.1 ∙ ap (λ (m : Mode). is_map m) (sym same.1), found.reported.2, subst (λ v. HasCommand v found.call.command) (sym same.0) found.reported.3) (found.is ∙ ap (λ (earlier : List Call). seven (reported_call_row earlier found.call)) (append-nil (reverse calls)))

  pub no_more_calls : length calls ≡ 65536 → ¬ (BeginReport (rows_of_calls version mode limits calls ++ row ∷ []))
  no_more_calls full (more, r) = let many = (call_in more r).1 in omega (arith, many, full, r.admitted.few)

begins_behind : (lines : List Line) (row : List (List ℕ)) (more : List (List (List ℕ))) → BeginsBehindCalls lines row → BeginsOtherwise IsCallRow (map seven (map line_row lines) ++ row ∷ more)
begins_behind [] row more other = other
begins_behind (line ∷ lines) row more other = line_is_no_call line

-- with a line more
pub some_behind : (lines : List Line) (line : Line) (row : List (List ℕ)) → BeginsBehindCalls (lines ++ line ∷ []) row
some_behind [] line row = tt
some_behind (other ∷ lines) line row = tt

module _ (version : Version) (mode : Mode) (limits : Limits) (calls : List Call) (lines : List Line) (row : List (List ℕ)) (behind : BeginsBehindCalls lines row) where
  -- the lines of a report that continues with this row
  lines_in : (more : List (List (List ℕ))) (r : AreOfReport ((rows_of_lines version mode limits calls lines ++ row ∷ []) ++ more)) → map seven (map line_row lines) ++ row ∷ more ≡ map seven (map line_row r.lines) ++ seven (report_end_row r.lines) ∷ []
  lines_in more r =
      let here = map seven (call_rows [] calls) in
      let own = map seven (map line_row lines) in
      let rows : here ++ (own ++ row ∷ more) ≡ map seven (call_rows [] r.calls) ++ (map seven (map line_row r.lines) ++ seven (report_end_row r.lines) ∷ []) =
      sym (append_assoc here own (row ∷ more)) ∙ sym (append_assoc (here ++ own) (row ∷ []) more) ∙ ap (drop 2) (rows_in_parts r) in
      (same_parts IsCallRow here (map seven (call_rows [] r.calls)) _ _ (calls_are_named [] calls) (calls_are_named [] r.calls) (begins_behind lines row more behind) (begins_behind r.lines (seven (report_end_row r.lines)) [] (at_end r.lines)) rows).1
    where
      at_end : (told : List Line) → BeginsBehindCalls told (seven (report_end_row told))
      at_end [] = end_is_no_call []
      at_end (line ∷ told) = tt

  pub no_line_row : IsNoEnd row → ((line : Line) → IsSpelledLine version line → row ≢ seven (line_row line)) → ¬ (BeginReport (rows_of_lines version mode limits calls lines ++ row ∷ []))
  no_line_row no_end none (more, r) =
      let title = ap (λ (rows : List (List (List ℕ))). get_or rows 0 []) (rows_in_parts r) in
      let same = same_title version r.version mode r.mode title in
      let found = line_found r.version (map seven (map line_row lines)) r.lines row (seven (report_end_row r.lines)) more (lines_no_end lines) no_end (λ other. other refl) r.spelled (lines_in more r) in
      none found.0 (subst (λ v. IsSpelledLine v found.0) (sym same.0) found.1) found.2

  -- an end row ends a report, and counts its lines
  ends : name_of row ≡ codes "end" → (more : List (List (List ℕ))) → AreOfReport ((rows_of_lines version mode limits calls lines ++ row ∷ []) ++ more) → (row ≡ seven (report_end_row lines)) × (more ≡ [])
  ends end more r =
      let parts = same_parts IsNoEnd (map seven (map line_row lines)) (map seven (map line_row r.lines)) (row ∷ more) (seven (report_end_row r.lines) ∷ []) (lines_no_end lines) (lines_no_end r.lines) (λ other. other end) (λ other. other refl) (lines_in more r) in
      (ap (λ (rows : List (List (List ℕ))). get_or rows 0 []) parts.1 ∙ sym (same_end lines r.lines parts.0), ap (drop 1) parts.1)

  pub no_end_row : name_of row ≡ codes "end" → row ≢ seven (report_end_row lines) → ¬ (BeginReport (rows_of_lines version mode limits calls lines ++ row ∷ []))
  no_end_row end none (more, r) = none (ends end more r).0

  pub no_row_behind : name_of row ≡ codes "end" → (late : List (List ℕ)) → ¬ (BeginReport ((rows_of_lines version mode limits calls lines ++ row ∷ []) ++ late ∷ []))
  no_row_behind end late (more, r) =
      let over = (ends end (late ∷ more) (subst AreOfReport (append_assoc (rows_of_lines version mode limits calls lines ++ row ∷ []) (late ∷ []) more) r)).1 in absurd cc

-- Rows that are no whole report

last_of : (P : List (List ℕ) → Type 0) (xs : List (List (List ℕ))) (x : List (List ℕ)) → AllByRecursion P (xs ++ x ∷ []) → P x
last_of P [] x all = all.0
last_of P (y ∷ xs) x all = last_of P xs x all.1

-- without an end row
pub not_whole : (rows : List (List (List ℕ))) → AllByRecursion IsNoEnd rows → ¬ (AreOfReport rows)
not_whole rows none r =
    let all = subst (AllByRecursion IsNoEnd) (r.are ∙ sym (whole_report r.version r.mode r.limits r.calls r.lines)) none in
    last_of IsNoEnd (rows_of_lines r.version r.mode r.limits r.calls r.lines) (seven (report_end_row r.lines)) all refl

title_no_end : (version : Version) (mode : Mode) → IsNoEnd (seven (title_in version mode))
title_no_end version mode is = omega (arith, ap (λ (t : List ℕ). get_or t 0 0) is)

limits_no_end : (limits : Limits) → IsNoEnd (seven (limits_row limits))
limits_no_end limits is = omega (arith, ap (λ (t : List ℕ). get_or t 0 0) is)

pub title_not_whole : (version : Version) (mode : Mode) → ¬ (AreOfReport (seven (title_in version mode) ∷ []))
title_not_whole version mode = not_whole (seven (title_in version mode) ∷ []) (title_no_end version mode, tt)

calls_no_end : (version : Version) (mode : Mode) (limits : Limits) (calls : List Call) → AllByRecursion IsNoEnd (rows_of_calls version mode limits calls)
calls_no_end version mode limits calls = (title_no_end version mode, (limits_no_end limits, all_of IsCallRow IsNoEnd (map seven (call_rows [] calls)) call_is_no_end (calls_are_named [] calls)))

pub calls_not_whole : (version : Version) (mode : Mode) (limits : Limits) (calls : List Call) → ¬ (AreOfReport (rows_of_calls version mode limits calls))
calls_not_whole version mode limits calls = not_whole (rows_of_calls version mode limits calls) (calls_no_end version mode limits calls)

pub lines_not_whole : (version : Version) (mode : Mode) (limits : Limits) (calls : List Call) (lines : List Line) → ¬ (AreOfReport (rows_of_lines version mode limits calls lines))
lines_not_whole version mode limits calls lines =
    not_whole (rows_of_lines version mode limits calls lines) (all_both IsNoEnd (rows_of_calls version mode limits calls) (map seven (map line_row lines)) (calls_no_end version mode limits calls) (lines_no_end lines))

-- Rows with which a report begins

whole : (version : Version) (mode : Mode) (limits : Limits) (calls : List Call) (lines : List Line) → AreAdmitted version mode limits calls → All (IsSpelledLine version) lines → length lines < 2 ^ 64 → AreOfReport (rows_of_lines version mode limits calls lines ++ seven (report_end_row lines) ∷ [])
whole version mode limits calls lines admitted spelled counted =
    record { version = version; mode = mode; limits = limits; calls = calls; lines = lines; admitted = admitted; spelled = spelled; counted = counted; are = whole_report version mode limits calls lines }

pub lines_begin : (version : Version) (mode : Mode) (limits : Limits) (calls : List Call) (lines : List Line) → AreAdmitted version mode limits calls → All (IsSpelledLine version) lines → length lines < 2 ^ 64 → BeginReport (rows_of_lines version mode limits calls lines)
lines_begin version mode limits calls lines admitted spelled counted = (seven (report_end_row lines) ∷ [], whole version mode limits calls lines admitted spelled counted)

-- and with the end row too
pub whole_begins : (version : Version) (mode : Mode) (limits : Limits) (calls : List Call) (lines : List Line) → AreAdmitted version mode limits calls → All (IsSpelledLine version) lines → length lines < 2 ^ 64 → BeginReport (rows_of_lines version mode limits calls lines ++ seven (report_end_row lines) ∷ [])
whole_begins version mode limits calls lines admitted spelled counted =
    ([], subst AreOfReport (sym (append-nil (rows_of_lines version mode limits calls lines ++ seven (report_end_row lines) ∷ []))) (whole version mode limits calls lines admitted spelled counted))

fewer_begin : (rows more : List (List (List ℕ))) → BeginReport (rows ++ more) → BeginReport rows
fewer_begin rows more (rest, r) = (more ++ rest, subst AreOfReport (append_assoc rows more rest) r)

pub calls_begin : (version : Version) (mode : Mode) (limits : Limits) (calls : List Call) → AreAdmitted version mode limits calls → BeginReport (rows_of_calls version mode limits calls)
calls_begin version mode limits calls admitted = fewer_begin (rows_of_calls version mode limits calls) [] (lines_begin version mode limits calls [] admitted (All-nil (IsSpelledLine version)) (lit< tt))

none_admitted : (version : Version) (mode : Mode) (limits : Limits) → IsAccepted limits → AreAdmitted version mode limits []
none_admitted version mode limits accepted = record { accepted = accepted; few = lit≤ tt; reported = All-nil (IsReported version mode limits.passes) }

pub head_begins : (version : Version) (mode : Mode) (limits : Limits) → IsAccepted limits → BeginReport (head_rows version mode limits)
unfolding call_rows
head_begins version mode limits accepted = calls_begin version mode limits [] (none_admitted version mode limits accepted)

-- limits that are accepted
abbrev least : Limits
least = record { passes = 1; nodes = 0; scx = 0; tries = 1 }

least_accepted : IsAccepted least
least_accepted = record { some_pass = lit≤ tt; passes = lit≤ tt; nodes = lit≤ tt; scx = lit≤ tt; some_try = lit≤ tt; tries = lit≤ tt }

pub title_begins : (version : Version) (mode : Mode) → BeginReport (seven (title_in version mode) ∷ [])
title_begins version mode = fewer_begin (seven (title_in version mode) ∷ []) (seven (limits_row least) ∷ []) (head_begins version mode least least_accepted)

pub nothing_begins : BeginReport []
nothing_begins = fewer_begin [] (seven (title_in One Tree) ∷ []) (title_begins One Tree)

-- The rows of a text

-- with which it begins, where these are all of them
all_go_on : (cfg : Config) (s t : State) (xs rest : List ℕ) (rows all : List (List (List ℕ))) → Reached cfg s xs rows t rest → AreRecords cfg s xs all → (more : List (List (List ℕ))) × (all ≡ rows ++ more)
unfolding Reached
all_go_on cfg s t xs rest [] all a b = (all, refl)
all_go_on cfg s t xs rest (row ∷ rows) [] a b =
    let none : next_record cfg s [] [] xs ≡ None = rw (b.2.0, b.2.1) b.3 in
    absurd (no_next _ a.0 none a.1)
all_go_on cfg s t xs rest (row ∷ rows) (other ∷ all) a b =
    let both : Some a.0 ≡ Some b.2.0 = sym a.1 ∙ b.2.1 in
    let one : a.0 ≡ b.2.0 = cc in
    let first : row ≡ other = a.2 ∙ ap (λ p. p.0) one ∙ sym b.2.2 in
    let behind = subst (λ p. Reached cfg p.1 p.2 all b.0 b.1) (sym one) b.2.3 in
    let found = all_go_on cfg a.0.1 t a.0.2 rest rows all a.3 (b.0, b.1, behind, b.3) in
    (found.0, ap (λ r. r ∷ all) (sym first) ∙ ap (λ rs. row ∷ rs) found.1)

no_report : (bytes : List ℕ) (before : List (List (List ℕ))) → FailsBehind bytes before → (rows : List (List (List ℕ))) → AreOfReport rows → ¬ (AreRows bytes rows)
no_report bytes before (inl ended) rows r all = ended.1 (subst AreOfReport (same_records default_config state.StartRecord (strip_bom bytes) rows before all ended.0) r)
no_report bytes before (inr (row, begun, none)) rows r all =
    let on = all_go_on default_config state.StartRecord begun.0 (strip_bom bytes) begun.1 (before ++ row ∷ []) rows begun.2 all in
    none (on.0, subst AreOfReport on.1 r)

pub first_bad_row : (bytes : List ℕ) (before : List (List (List ℕ))) (row : ℕ) → BeginReport before → FailsBehind bytes before → row ≡ suc (length before) → IsFirstBadRow bytes row
first_bad_row bytes before row begun fails is = record { no_report = no_report bytes before fails; before = before; begun = begun; fails = fails; row_is = is }

-- a row with which no report continues is the first that is bad
pub bad_here : (bytes : List ℕ) (before : List (List (List ℕ))) (fields : List (List ℕ)) (row : ℕ) → BeginReport before → BeginWithRows bytes (before ++ fields ∷ []) → ¬ (BeginReport (before ++ fields ∷ [])) → row ≡ suc (length before) → IsFirstBadRow bytes row
bad_here bytes before fields row begun begins none is = first_bad_row bytes before row begun (inr (fields, begins, none)) is

-- what is said of the row of a fault
pub refused_for : (P : ℕ → Type 0) (fault : TextFault NotLawful) → IfBad (λ row cause. P row) fault → IfRefused P (report_fault fault)
refused_for P NoMemory holds = tt
refused_for P Read holds = tt
refused_for P (Bad row cause) holds = holds

pub nothing_not_whole : ¬ (AreOfReport [])
nothing_not_whole = not_whole [] tt

pub head_not_whole : (version : Version) (mode : Mode) (limits : Limits) → ¬ (AreOfReport (head_rows version mode limits))
head_not_whole version mode limits = not_whole (head_rows version mode limits) (title_no_end version mode, (limits_no_end limits, tt))
