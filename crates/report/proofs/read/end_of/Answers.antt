use Rattle.std.proofs.Common.{◌≡◌, ◌≢◌, ◌∷◌, [], ◌++◌, ◌∙◌, arith, length, refl, rules, sym}
use Rattle.texts.specs.Reads.{last_row}
use Rattle.texts.proofs.Lemmas.{begins, passed_on}
use Rattle.report.specs.Report.{report_end_row, rows_of_lines, seven}
use Rattle.report.proofs.Reading.{end_counted, lines_counted}
use Rattle.report.proofs.Refused.{bad_here, lines_begin, no_end_row, no_row_behind, whole_begins}
use Rattle.report.proofs.read.end_of.Goals as goal

pub returns-clause-rows : goal.returns-clause-rows
returns-clause-rows g c = λ bytes before here.
    let last = seven (report_end_row c.args.lines.now) in
    let row : last_row c.args.rows.now ≡ last = sym (c.row_fields.ensures here.row.0) ∙ c.is_end_of.ensures.0 (search rules) in
    rw c.if-branch.false at (c.in_ok-advance.ensures.row bytes (before ++ last ∷ []) (rw row at here.read))

pub returns-then-not-is_end_of-clause-fault : goal.returns-then-not-is_end_of-clause-fault
returns-then-not-is_end_of-clause-fault g c = λ bytes version mode limits calls admitted spelled here behind end number small.
    let lines = c.args.lines.now in
    let other : last_row c.args.rows.now ≢ seven (report_end_row lines) = λ is. let told = c.is_end_of.ensures.1 (c.row_fields.ensures here.row.0 ∙ is) in search rules in
    rw c.fault.ensures
    (bad_here bytes (rows_of_lines version mode limits calls lines) (last_row c.args.rows.now) c.args.rows.now.number (lines_begin version mode limits calls lines admitted spelled (omega (arith, small))) (begins _ bytes _ _ here.read)
    (no_end_row version mode limits calls lines (last_row c.args.rows.now) behind end other)
    (omega (arith, number, lines_counted version mode limits calls lines (length lines) refl)))

pub returns-in_err-advance-clause-fault : goal.returns-in_err-advance-clause-fault
returns-in_err-advance-clause-fault g c = λ bytes version mode limits calls admitted spelled here behind end number small.
    let lines = c.args.lines.now in
    let last = seven (report_end_row lines) in
    let row : last_row c.args.rows.now ≡ last = sym (c.row_fields.ensures here.row.0) ∙ c.is_end_of.ensures.0 (search rules) in
    let many = end_counted version mode limits calls lines last in
    passed_on c.advance.result c.from_residual.result c.in_err-advance.field-0.0 c.in_err-advance.was (search rules) (λ row cause why. why)
    (c.advance.ensures.fault bytes (rows_of_lines version mode limits calls lines ++ last ∷ []) (rw row at here.read) (omega (arith, number, many)) (omega (arith, small, many)) (whole_begins version mode limits calls lines admitted spelled (omega (arith, small))))

pub returns-then-branch-clause-fault : goal.returns-then-branch-clause-fault
returns-then-branch-clause-fault g c = λ bytes version mode limits calls admitted spelled here behind end number small.
    let lines = c.args.lines.now in
    let last = seven (report_end_row lines) in
    let row : last_row c.args.rows.now ≡ last = sym (c.row_fields.ensures here.row.0) ∙ c.is_end_of.ensures.0 (search rules) in
    let late = rw c.if-branch.true at (c.in_ok-advance.ensures.row bytes (rows_of_lines version mode limits calls lines ++ last ∷ []) (rw row at here.read)) in
    let many = end_counted version mode limits calls lines last in
    rw c.fault-then-branch.ensures
    (bad_here bytes (rows_of_lines version mode limits calls lines ++ last ∷ []) (last_row c.advance.new.rows) c.advance.new.rows.number (whole_begins version mode limits calls lines admitted spelled (omega (arith, small))) (begins _ bytes _ _ late.read)
    (no_row_behind version mode limits calls lines last (rw row at behind) refl (last_row c.advance.new.rows))
    (omega (arith, c.advance.ensures.number, number, small, many)))
