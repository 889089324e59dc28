use Rattle.std.proofs.Common.{[], ◌∷◌, ◌∙◌, ap, arith, refl, rules, sym, lit<}
use Rattle.texts.specs.Reads.{last_row}
use Rattle.texts.proofs.Lemmas.{begins, passed_on}
use Rattle.report.specs.Report.{head_rows, title_in, seven}
use Rattle.report.proofs.Reading.{row_read}
use Rattle.report.proofs.Refused.{bad_here, head_begins, head_not_whole, no_limits, no_title, nothing_begins, nothing_not_whole, title_begins, title_not_whole}
use Rattle.report.proofs.read.script_of.Goals as goal

pub invariant_of-script : goal.invariant_of-script
invariant_of-script g c =
    let of_limits = c.in-Some-limits_of.ensures.layout in
    record {
      clients = λ k d lt. (c.in_ok-calls.ensures.accepted k d lt).0;
      few = c.in_ok-calls.ensures.few;
      accepted = c.in-Some-limits_of.ensures.accepted;
      of_limits = record { mode_is = refl; passes = of_limits.passes; nodes = of_limits.nodes; scx = of_limits.scx; none_planted = of_limits.none_planted };
      of_mode = λ k d lt. (c.in_ok-calls.ensures.accepted k d lt).1;
    }

pub returns-in_err-next_row-clause-fault : goal.returns-in_err-next_row-clause-fault
returns-in_err-next_row-clause-fault g c = λ bytes none zero.
    passed_on c.next_row.result c.from_residual.result c.in_err-next_row.field-0.0 c.in_err-next_row.was (search rules) (λ row cause why. why)
    (c.next_row.ensures.fault bytes [] none zero (lit< tt) nothing_begins nothing_not_whole)

pub returns-in_default-clause-fault : goal.returns-in_default-clause-fault
returns-in_default-clause-fault g c = λ bytes none zero.
    let one = c.in_ok-next_row.ensures.row bytes [] none in
    rw c.fault.ensures
    (bad_here bytes [] (last_row c.next_row.new.rows) c.next_row.new.rows.number nothing_begins (begins _ bytes _ _ one.read)
    (no_title (last_row c.next_row.new.rows) (λ version mode is. c.in_default.ensures version mode (c.row_fields.ensures one.row.0 ∙ is)))
    (omega (arith, c.next_row.ensures.number, zero)))

pub returns-in_err-next_row-2-clause-fault : goal.returns-in_err-next_row-2-clause-fault
returns-in_err-next_row-2-clause-fault g c = λ bytes none zero.
    let one = c.in_ok-next_row.ensures.row bytes [] none in
    let title = row_read _ bytes [] c.next_row.new.rows c.row_fields.result _ one (c.row_fields.ensures one.row.0) c.in-Some.ensures in
    passed_on c.next_row-2.result c.from_residual-in_err-next_row-2.result c.in_err-next_row-2.field-0.0 c.in_err-next_row-2.was (search rules) (λ row cause why. why)
    (c.next_row-2.ensures.fault bytes (seven (title_in c.in-Some.version c.in-Some.mode) ∷ []) title (omega (arith, c.next_row.ensures.number, zero)) (lit< tt) (title_begins c.in-Some.version c.in-Some.mode) (title_not_whole c.in-Some.version c.in-Some.mode))

pub returns-in_default-limits_of-clause-fault : goal.returns-in_default-limits_of-clause-fault
returns-in_default-limits_of-clause-fault g c = λ bytes none zero.
    let one = c.in_ok-next_row.ensures.row bytes [] none in
    let title = row_read _ bytes [] c.next_row.new.rows c.row_fields.result _ one (c.row_fields.ensures one.row.0) c.in-Some.ensures in
    let two = c.in_ok-next_row-2.ensures.row bytes (seven (title_in c.in-Some.version c.in-Some.mode) ∷ []) title in
    rw c.fault-in_default-limits_of.ensures
    (bad_here bytes (seven (title_in c.in-Some.version c.in-Some.mode) ∷ []) (last_row c.next_row-2.new.rows) c.next_row-2.new.rows.number (title_begins c.in-Some.version c.in-Some.mode) (begins _ bytes _ _ two.read)
    (no_limits (seven (title_in c.in-Some.version c.in-Some.mode)) (last_row c.next_row-2.new.rows) (λ limits accepted is. c.in_default-limits_of.ensures.none limits accepted (c.row_fields-2.ensures two.row.0 ∙ is)))
    (omega (arith, c.next_row.ensures.number, c.next_row-2.ensures.number, zero)))

pub returns-in_err-next_row-3-clause-fault : goal.returns-in_err-next_row-3-clause-fault
returns-in_err-next_row-3-clause-fault g c = λ bytes none zero.
    let limits = c.in-Some-limits_of.limits in
    let mode = c.in-Some.mode in
    let one = c.in_ok-next_row.ensures.row bytes [] none in
    let title = row_read _ bytes [] c.next_row.new.rows c.row_fields.result _ one (c.row_fields.ensures one.row.0) c.in-Some.ensures in
    let two = c.in_ok-next_row-2.ensures.row bytes (seven (title_in c.in-Some.version mode) ∷ []) title in
    let head = row_read _ bytes (seven (title_in c.in-Some.version mode) ∷ []) c.next_row-2.new.rows c.row_fields-2.result _ two (c.row_fields-2.ensures two.row.0) c.in-Some-limits_of.ensures.row in
    passed_on c.next_row-3.result c.from_residual-in_err-next_row-3.result c.in_err-next_row-3.field-0.0 c.in_err-next_row-3.was (search rules) (λ row cause why. why)
    (c.next_row-3.ensures.fault bytes (head_rows c.in-Some.version mode limits) head (omega (arith, c.next_row.ensures.number, c.next_row-2.ensures.number, zero)) (lit< tt) (head_begins c.in-Some.version mode limits c.in-Some-limits_of.ensures.accepted) (head_not_whole c.in-Some.version mode limits))

pub returns-in_err-calls-clause-fault : goal.returns-in_err-calls-clause-fault
returns-in_err-calls-clause-fault g c = λ bytes none zero.
    let limits = c.in-Some-limits_of.limits in
    let layout = c.in-Some-limits_of.layout in
    let of_limits = c.in-Some-limits_of.ensures.layout in
    let one = c.in_ok-next_row.ensures.row bytes [] none in
    let title = row_read _ bytes [] c.next_row.new.rows c.row_fields.result _ one (c.row_fields.ensures one.row.0) (c.in-Some.ensures ∙ ap (λ m. seven (title_in c.in-Some.version m)) (sym of_limits.mode_is)) in
    let two = c.in_ok-next_row-2.ensures.row bytes (seven (title_in c.in-Some.version layout.mode) ∷ []) title in
    let head = row_read _ bytes (seven (title_in c.in-Some.version layout.mode) ∷ []) c.next_row-2.new.rows c.row_fields-2.result _ two (c.row_fields-2.ensures two.row.0) c.in-Some-limits_of.ensures.row in
    let three = c.in_ok-next_row-3.ensures.row bytes (head_rows c.in-Some.version layout.mode limits) head in
    passed_on c.calls_of.result c.from_residual-in_err-calls.result c.in_err-calls.field-0.0 c.in_err-calls.was (search rules) (λ row cause why. why)
    (c.calls_of.ensures.fault bytes limits c.in-Some-limits_of.ensures.accepted (record { mode_is = refl; passes = of_limits.passes; nodes = of_limits.nodes; scx = of_limits.scx; none_planted = of_limits.none_planted }) three
    (omega (arith, c.next_row.ensures.number, c.next_row-2.ensures.number, c.next_row-3.ensures.number, zero)))

pub returns-clause-rows : goal.returns-clause-rows
returns-clause-rows g c = λ bytes none.
    let limits = c.in-Some-limits_of.limits in
    let layout = c.in-Some-limits_of.layout in
    let one = c.in_ok-next_row.ensures.row bytes [] none in
    let title = row_read _ bytes [] c.next_row.new.rows c.row_fields.result _ one (c.row_fields.ensures one.row.0) (c.in-Some.ensures ∙ ap (λ m. seven (title_in c.in-Some.version m)) (sym c.in-Some-limits_of.ensures.layout.mode_is)) in
    let two = c.in_ok-next_row-2.ensures.row bytes (seven (title_in c.in-Some.version layout.mode) ∷ []) title in
    let head = row_read _ bytes (seven (title_in c.in-Some.version layout.mode) ∷ []) c.next_row-2.new.rows c.row_fields-2.result _ two (c.row_fields-2.ensures two.row.0) c.in-Some-limits_of.ensures.row in
    c.in_ok-calls.ensures.rows bytes (head_rows c.in-Some.version layout.mode limits) (c.in_ok-next_row-3.ensures.row bytes (head_rows c.in-Some.version layout.mode limits) head)

pub returns-clause-behind : goal.returns-clause-behind
returns-clause-behind g c = λ bytes none.
    let one = c.in_ok-next_row.ensures.row bytes [] none in
    let two = c.in_ok-next_row-2.ensures.row bytes _ one.read in
    let three = c.in_ok-next_row-3.ensures.row bytes _ two.read in
    c.in_ok-calls.ensures.behind bytes _ three

pub returns-clause-number : goal.returns-clause-number
returns-clause-number g c = λ zero.
    let three = c.in_ok-calls.ensures.number (omega (arith, c.next_row.ensures.number, c.next_row-2.ensures.number, c.next_row-3.ensures.number, zero)) in
    omega (arith, three, c.in_ok-calls.calls.ok.0)
