use Rattle.std.proofs.Common.{arith, ◌≡◌, ◌<◌, ◌+◌, ◌-◌, ◌^◌, [], ◌∷◌, ◌++◌, ◌∙◌, ap, codes, get_or, length, length-append, map, reverse, rules, subst, sym, true, vec_len}
use Rattle.std.proofs.lemmas.List.{length-reverse, reverse-append}
use Rattle.std.proofs.lemmas.List.Elements.{All-push}
use Rattle.std.specs.Result.{is_ok}
use Rattle.report.specs.Answers.{HasForm}
use Rattle.report.specs.Counts.{HasCountedReplies}
use Rattle.report.specs.Numbered.{AreNumbered}
use Rattle.texts.specs.Reads.{HasRead, IsAtRow, last_row}
use Rattle.texts.proofs.Lemmas.{begins, passed_on}
use Rattle.report.specs.Report.{BeginsBehindCalls, line_row, name_of, rows_of_calls, rows_of_lines, seven}
use Rattle.report.specs.Spellings.{IsSpelledLine}
use Rattle.report.proofs.Counted.{numbered_more}
use Rattle.report.proofs.Fields.{blank, name_is}
use Rattle.report.proofs.Reading.{line_read, lines_counted}
use Rattle.report.proofs.Refused.{IsNoEnd, bad_here, lines_begin, lines_not_whole, no_line_row, some_behind}
use Rattle.report.proofs.read_line.lines_of.Given.{Over}
use Rattle.report.proofs.read_line.lines_of.Goals.{After-row_fields}
use Rattle.report.proofs.read_line.lines_of.Goals as goal

pub loop-alloc-preserved : goal.loop-alloc-preserved
loop-alloc-preserved g c =
    let inv = c.loop-alloc.invariant in
    let lines = c.loop-alloc.lines.items in
    let line = c.in_ok-line.line in
    let pushed : is_ok c.push.result ≡ true = search rules in
    let items : c.push.new.self.items ≡ lines ++ line ∷ [] = rw pushed at c.push.ensures.items in
    let newest : line ∷ reverse lines ≡ reverse c.push.new.self.items = sym (ap reverse items ∙ reverse-append lines (line ∷ [])) in
    let few : length (reverse lines) < 2 ^ 64 - 1 = omega (arith, length-reverse lines, c.loop-alloc.lines.ok.0, c.loop-alloc.lines.small) in
    record {
      counted = subst (λ all. HasCountedReplies c.next_line.new.replies c.args.passes all) newest (c.in_ok-line.ensures.counted (reverse lines) inv.counted few);
      forms = rw items (All-push (HasForm c.args.passes c.args.calls.now) lines line inv.forms (c.in_ok-line.ensures.form c.args.calls.now c.in-Ok.ensures));
      calls = subst (λ all. AreNumbered c.args.passes all) newest (numbered_more c.args.passes c.loop-alloc.replies (reverse lines) line inv.counted c.in_ok-line.ensures.call inv.calls);
      spelled = rw items (All-push (IsSpelledLine c.args.version) lines line inv.spelled c.in_ok-line.ensures.spelled);
      number = λ start few. omega (arith, inv.number start few, c.next_row.ensures.number, rw pushed at c.push.ensures.len, c.loop-alloc.lines.small);
      behind = λ bytes before start other. subst (λ all. BeginsBehindCalls all (last_row c.next_row.new.rows)) (sym items) (some_behind lines line (last_row c.next_row.new.rows));
      rows = λ bytes before start.
          let here = inv.rows bytes before start in
          let row = line_read before lines line (last_row c.loop-alloc.rows) (c.in_ok-line.ensures.row here.row.0) in
          subst (λ rows. IsAtRow g.R.Read.remaining bytes rows 7 c.next_row.new.rows)
          (row ∙ ap (λ all. before ++ map seven (map line_row all)) (sym items))
          (c.in_ok-next_row.ensures.row bytes _ here.read);
    }

-- the row that is read now is named so
name : (g : Over) (c : After-row_fields g) → length (last_row c.loop-alloc.rows) ≡ 7 → name_of (last_row c.loop-alloc.rows) ≡ (get_or c.row_fields.result 0 blank).now
name g c wide = name_is c.row_fields.result (last_row c.loop-alloc.rows) (omega arith) (c.row_fields.ensures wide)

pub returns-in_err-line-clause-fault : goal.returns-in_err-line-clause-fault
returns-in_err-line-clause-fault g c = λ bytes mode limits admitted start other counted.
    let inv = c.loop-alloc.invariant in
    let calls = c.args.calls.now in
    let lines = c.loop-alloc.lines.items in
    let here = inv.rows bytes (rows_of_calls c.args.version mode limits calls) start in
    let named = name g (goal.at.returns-in_err-line-clause-fault g c).After-row_fields here.row.0 in
    let no_end : IsNoEnd (last_row c.loop-alloc.rows) = λ end. let is : (get_or c.row_fields.result 0 blank).now ≡ codes "end" = sym named ∙ end in search rules in
    let many = lines_counted c.args.version mode limits calls lines (vec_len c.loop-alloc.lines) (omega (arith, c.loop-alloc.lines.ok.0)) in
    passed_on c.next_line.result c.from_residual.result c.in_err-line.field-0.0 c.in_err-line.was (search rules)
    (λ row cause why. bad_here bytes (rows_of_lines c.args.version mode limits calls lines) (last_row c.loop-alloc.rows) row
    (lines_begin c.args.version mode limits calls lines admitted inv.spelled (omega (arith, c.loop-alloc.lines.ok.0, c.loop-alloc.lines.small))) (begins _ bytes _ _ here.read)
    (no_line_row c.args.version mode limits calls lines (last_row c.loop-alloc.rows) (inv.behind bytes (rows_of_calls c.args.version mode limits calls) start other) no_end why.1)
    (omega (arith, why.0, inv.number counted admitted.few, many)))
    (c.next_line.ensures.none here.row.0)

pub returns-in_err-next_row-clause-fault : goal.returns-in_err-next_row-clause-fault
returns-in_err-next_row-clause-fault g c = λ bytes mode limits admitted start other counted.
    let inv = c.loop-alloc.invariant in
    let calls = c.args.calls.now in
    let lines = c.loop-alloc.lines.items in
    let line = c.in_ok-line.line in
    let before = rows_of_calls c.args.version mode limits calls in
    let here = inv.rows bytes before start in
    let row = line_read before lines line (last_row c.loop-alloc.rows) (c.in_ok-line.ensures.row here.row.0) in
    let read = subst (λ rows. HasRead g.R.Read.remaining bytes rows c.loop-alloc.rows) row here.read in
    let many = lines_counted c.args.version mode limits calls (lines ++ line ∷ []) (vec_len c.loop-alloc.lines + 1) (omega (arith, c.loop-alloc.lines.ok.0, length-append lines (line ∷ []))) in
    passed_on c.next_row.result c.from_residual-in_err-next_row.result c.in_err-next_row.field-0.0 c.in_err-next_row.was (search rules) (λ row cause why. why)
    (c.next_row.ensures.fault bytes (rows_of_lines c.args.version mode limits calls (lines ++ line ∷ [])) read
    (omega (arith, inv.number counted admitted.few, many))
    (omega (arith, many, admitted.few, c.loop-alloc.lines.small))
    (lines_begin c.args.version mode limits calls (lines ++ line ∷ []) admitted (All-push (IsSpelledLine c.args.version) lines line inv.spelled c.in_ok-line.ensures.spelled) (omega (arith, c.loop-alloc.lines.ok.0, c.loop-alloc.lines.small, length-append lines (line ∷ []))))
    (lines_not_whole c.args.version mode limits calls (lines ++ line ∷ [])))

pub returns-clause-ends : goal.returns-clause-ends
returns-clause-ends g c = λ bytes before start.
    let here = c.loop-alloc.invariant.rows bytes before start in
    let is : (get_or c.row_fields.result 0 blank).now ≡ codes "end" = search rules in
    name g (goal.at.returns-clause-ends g c).After-row_fields here.row.0 ∙ is
