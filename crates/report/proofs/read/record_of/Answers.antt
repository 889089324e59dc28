use Rattle.std.proofs.Common.{ℕ, All, [], ◌∷◌, ◌++◌, ◌∙◌, ap, arith, length, map, rules, subst}
use Rattle.texts.specs.Texts.{AreRows}
use Rattle.texts.proofs.Lemmas.{passed_on}
use Rattle.script.specs.declared.script.Script.{Script}
use Rattle.report.specs.Report.{line_row, report_end_row, report_text, rows_of_calls, seven}
use Rattle.report.specs.RowFaults.{AreAdmitted}
use Rattle.report.specs.Spellings.{IsReported}
use Rattle.report.specs.declared.version.Version.{Version}
use Rattle.report.proofs.Reading.{whole_report}
use Rattle.report.proofs.RoundTrip.{same_report}
use Rattle.report.proofs.read.record_of.Goals as goal

pub returns-clause-rows : goal.returns-clause-rows
returns-clause-rows g c = λ bytes known.
    let version = c.in_ok-version.version in
    let script = c.in_ok-version.script in
    let lines = c.in_ok-lines.lines.items in
    let head = rows_of_calls version script.layout.mode script.limits script.calls.items in
    let read = c.in_ok-lines.ensures.rows bytes head (c.in_ok-version.ensures.rows bytes (c.new-rows.ensures.none bytes known)) in
    let rows = subst (λ rows. AreRows bytes rows)
    (ap (λ all. (head ++ map seven (map line_row lines)) ++ seven (report_end_row all) ∷ []) c.as_slice-2.ensures.value ∙ whole_report version script.layout.mode script.limits script.calls.items lines)
    (c.in_ok-end_of.ensures.rows bytes (head ++ map seven (map line_row lines)) read) in
    record { version = version; rows = rows; calls = c.in_ok-version.ensures.reported; spelled = c.in_ok-lines.ensures.spelled }

pub returns-clause-again : goal.returns-clause-again
unfolding returns-clause-rows
returns-clause-again g c = λ script lines known.
    same_report c.in_ok-version.version script c.in_ok-version.script lines c.in_ok-lines.lines.items (returns-clause-rows g c (report_text script lines) known).rows

-- what a script says may be in a report
admitted : (version : Version) (script : Script) → All (IsReported version script.layout.mode script.layout.passes) script.calls.items → AreAdmitted version script.layout.mode script.limits script.calls.items
admitted version script reported =
    record { accepted = script.accepted; few = omega (arith, script.few, script.calls.ok.0); reported = subst (λ (n : ℕ). All (IsReported version script.layout.mode n) script.calls.items) script.of_limits.passes reported }

pub returns-in_err-version-clause-fault : goal.returns-in_err-version-clause-fault
returns-in_err-version-clause-fault g c = λ bytes known.
    passed_on c.script_of.result c.from_residual.result c.in_err-version.field-0.0 c.in_err-version.was (search rules) (λ row cause why. why)
    (c.script_of.ensures.fault bytes (c.new-rows.ensures.none bytes known) c.new-rows.ensures.number)

pub returns-in_err-lines-clause-fault : goal.returns-in_err-lines-clause-fault
returns-in_err-lines-clause-fault g c = λ bytes known.
    let script = c.in_ok-version.script in
    let none = c.new-rows.ensures.none bytes known in
    let calls = c.as_slice.ensures.value in
    passed_on c.lines_of.result c.from_residual-in_err-lines.result c.in_err-lines.field-0.0 c.in_err-lines.was (search rules) (λ row cause why. why)
    (c.lines_of.ensures.fault bytes script.layout.mode script.limits (rw calls (admitted c.in_ok-version.version script c.in_ok-version.ensures.reported))
    (rw calls (c.in_ok-version.ensures.rows bytes none)) (c.in_ok-version.ensures.behind bytes none) (rw calls (c.in_ok-version.ensures.number c.new-rows.ensures.number)))

pub returns-in_err-end_of-clause-fault : goal.returns-in_err-end_of-clause-fault
returns-in_err-end_of-clause-fault g c = λ bytes known.
    let script = c.in_ok-version.script in
    let none = c.new-rows.ensures.none bytes known in
    let start = c.in_ok-version.ensures.rows bytes none in
    let head = rows_of_calls c.in_ok-version.version script.layout.mode script.limits script.calls.items in
    let calls = ap length c.as_slice.ensures.value in
    let lines = c.as_slice-2.ensures.value in
    let many = c.in_ok-lines.ensures.number (rw calls (c.in_ok-version.ensures.number c.new-rows.ensures.number)) (rw calls (omega (arith, script.few, script.calls.ok.0))) in
    let vec = c.in_ok-lines.lines in
    passed_on c.end_of.result c.from_residual-in_err-end_of.result c.in_err-end_of.field-0.0 c.in_err-end_of.was (search rules) (λ row cause why. why)
    (c.end_of.ensures.fault bytes c.in_ok-version.version script.layout.mode script.limits script.calls.items (admitted c.in_ok-version.version script c.in_ok-version.ensures.reported) (rw lines c.in_ok-lines.ensures.spelled)
    (rw lines (c.in_ok-lines.ensures.rows bytes head start)) (rw lines (c.in_ok-lines.ensures.behind bytes head start (c.in_ok-version.ensures.behind bytes none)))
    (c.in_ok-lines.ensures.ends bytes head start) (rw lines (omega (arith, many, calls, vec.ok.0))) (rw lines (omega (arith, vec.ok.0, vec.small, script.few, script.calls.ok.0))))
