use Rattle.std.proofs.Common.{arith, ◌≡◌, ◌<◌, ◌-◌, ◌^◌, ℕ, All, [], ◌∷◌, ◌++◌, ◌∙◌, ap, codes, get_or, length, length-append, map, reverse, rules, subst, sym, true, vec_len}
use Rattle.std.proofs.lemmas.List.{append-nil, length-reverse, reverse-append}
use Rattle.std.proofs.lemmas.List.Elements.{All-nil, All-push}
use Rattle.std.specs.Result.{is_ok}
use Rattle.arena.specs.Limits.{IsAccepted, IsLayoutOf}
use Rattle.arena.specs.declared.limits.Limits.{Limits}
use Rattle.report.specs.Counts.{HasCounted}
use Rattle.texts.specs.Reads.{HasRead, IsAtRow, last_row}
use Rattle.texts.proofs.Lemmas.{begins, passed_on}
use Rattle.report.specs.Report.{IsCallRow, call_rows, head_rows, rows_of_calls, seven}
use Rattle.report.specs.RowFaults.{AreAdmitted}
use Rattle.report.specs.Spellings.{IsReported}
use Rattle.report.proofs.Fields.{blank, name_is}
use Rattle.report.proofs.Reading.{call_read, calls_counted, calls_counted_more}
use Rattle.report.proofs.Refused.{bad_here, calls_begin, calls_not_whole, no_call_row, no_more_calls}
use Rattle.report.proofs.read_call.calls_of.Given.{Over}
use Rattle.report.proofs.read_call.calls_of.Goals.{After-row_fields}
use Rattle.report.proofs.read_call.calls_of.Goals as goal

pub loop-layout-init : goal.loop-layout-init
unfolding call_rows
loop-layout-init g c =
    let none : c.new-calls.result.items ≡ [] = c.new-calls.ensures.items in
    record {
      few = search rules;
      accepted = rw none (All-nil (IsReported c.args.version c.args.layout.mode c.args.layout.passes));
      counted = rw none c.new-counts.ensures;
      number = λ three. omega (arith, three, c.new-calls.ensures);
      rows = λ bytes before start. rw (none, append-nil before) start;
    }

pub loop-layout-preserved : goal.loop-layout-preserved
loop-layout-preserved g c =
    let inv = c.loop-layout.invariant in
    let calls = c.loop-layout.calls.items in
    let call = c.in_ok-call.call in
    let added : is_ok c.extend_from_slice.result ≡ true = search rules in
    let items : c.extend_from_slice.new.self.items ≡ calls ++ call ∷ [] = rw added at c.extend_from_slice.ensures.items in
    let newest : call ∷ reverse calls ≡ reverse c.extend_from_slice.new.self.items = sym (ap reverse items ∙ reverse-append calls (call ∷ [])) in
    let few : length (reverse calls) < 2 ^ 64 - 1 = omega (arith, length-reverse calls, c.loop-layout.calls.ok.0, inv.few) in
    record {
      few = omega (arith, inv.few, rw added at c.extend_from_slice.ensures.len);
      accepted = rw items (All-push (IsReported c.args.version c.args.layout.mode c.args.layout.passes) calls call inv.accepted c.in_ok-call.ensures.accepted);
      counted = subst (λ all. HasCounted c.next_call.new.counts all) newest (c.in_ok-call.ensures.counted (reverse calls) inv.counted few);
      number = λ three. omega (arith, inv.number three, inv.few, c.next_row.ensures.number, rw added at c.extend_from_slice.ensures.len);
      rows = λ bytes before start.
          let here = inv.rows bytes before start in
          let row = call_read before calls call (last_row c.loop-layout.rows) (c.in_ok-call.ensures.row (reverse calls) inv.counted here.row.0) in
          subst (λ rows. IsAtRow g.R.Read.remaining bytes rows 7 c.next_row.new.rows)
          (row ∙ ap (λ all. before ++ map seven (call_rows [] all)) (sym items))
          (c.in_ok-next_row.ensures.row bytes _ here.read);
    }

-- the calls read so far are those of a report
admitted : (g : Over) (c : After-row_fields g) (limits : Limits) → IsAccepted limits → IsLayoutOf limits c.args.layout.mode c.args.layout → AreAdmitted c.args.version c.args.layout.mode limits c.loop-layout.calls.items
admitted g c limits accepted layout =
    let inv = c.loop-layout.invariant in
    record { accepted = accepted; few = omega (arith, inv.few, c.loop-layout.calls.ok.0); reported = subst (λ (n : ℕ). All (IsReported c.args.version c.args.layout.mode n) c.loop-layout.calls.items) layout.passes inv.accepted }

-- the row that is read now is named as a call's
named : (g : Over) (c : After-row_fields g) → length (last_row c.loop-layout.rows) ≡ 7 → (get_or c.row_fields.result 0 blank).now ≡ codes "call" → IsCallRow (last_row c.loop-layout.rows)
named g c wide is = name_is c.row_fields.result (last_row c.loop-layout.rows) (omega arith) (c.row_fields.ensures wide) ∙ is

-- a row after them with which no report continues is the first that is bad
pub returns-in_err-call-clause-fault : goal.returns-in_err-call-clause-fault
returns-in_err-call-clause-fault g c = λ bytes limits accepted layout start three.
    let inv = c.loop-layout.invariant in
    let calls = c.loop-layout.calls.items in
    let here = inv.rows bytes (head_rows c.args.version c.args.layout.mode limits) start in
    let ok = admitted g (goal.at.returns-in_err-call-clause-fault g c).After-row_fields limits accepted layout in
    let name = named g (goal.at.returns-in_err-call-clause-fault g c).After-row_fields here.row.0 (search rules) in
    passed_on c.next_call.result c.from_residual.result c.in_err-call.field-0.0 c.in_err-call.was (search rules)
    (λ row cause why. bad_here bytes (rows_of_calls c.args.version c.args.layout.mode limits calls) (last_row c.loop-layout.rows) row (calls_begin c.args.version c.args.layout.mode limits calls ok) (begins _ bytes _ _ here.read)
    (no_call_row c.args.version c.args.layout.mode limits calls (last_row c.loop-layout.rows) ok name (λ call reported. why.1 call (subst (λ (n : ℕ). IsReported c.args.version c.args.layout.mode n call) (sym layout.passes) reported)))
    (why.0 ∙ inv.number three ∙ sym (calls_counted c.args.version c.args.layout.mode limits calls (vec_len c.loop-layout.calls) (omega (arith, c.loop-layout.calls.ok.0)))))
    (c.next_call.ensures.none (reverse calls) inv.counted (omega (arith, length-reverse calls, c.loop-layout.calls.ok.0, inv.few)) here.row.0)

pub returns-then-len-eq-MOST_CALLS-clause-fault : goal.returns-then-len-eq-MOST_CALLS-clause-fault
returns-then-len-eq-MOST_CALLS-clause-fault g c = λ bytes limits accepted layout start three.
    let inv = c.loop-layout.invariant in
    let calls = c.loop-layout.calls.items in
    let here = inv.rows bytes (head_rows c.args.version c.args.layout.mode limits) start in
    let ok = admitted g (goal.at.returns-then-len-eq-MOST_CALLS-clause-fault g c).After-row_fields limits accepted layout in
    let name = named g (goal.at.returns-then-len-eq-MOST_CALLS-clause-fault g c).After-row_fields here.row.0 (search rules) in
    rw c.fault.ensures
    (bad_here bytes (rows_of_calls c.args.version c.args.layout.mode limits calls) (last_row c.loop-layout.rows) c.loop-layout.rows.number (calls_begin c.args.version c.args.layout.mode limits calls ok) (begins _ bytes _ _ here.read)
    (no_more_calls c.args.version c.args.layout.mode limits calls (last_row c.loop-layout.rows) ok name (omega (arith, c.len.ensures, c.if-len-eq-MOST_CALLS.true, c.loop-layout.calls.ok.0)))
    (inv.number three ∙ sym (calls_counted c.args.version c.args.layout.mode limits calls (vec_len c.loop-layout.calls) (omega (arith, c.loop-layout.calls.ok.0)))))

pub returns-in_err-next_row-clause-fault : goal.returns-in_err-next_row-clause-fault
returns-in_err-next_row-clause-fault g c = λ bytes limits accepted layout start three.
    let inv = c.loop-layout.invariant in
    let calls = c.loop-layout.calls.items in
    let call = c.in_ok-call.call in
    let before = head_rows c.args.version c.args.layout.mode limits in
    let here = inv.rows bytes before start in
    let row = call_read before calls call (last_row c.loop-layout.rows) (c.in_ok-call.ensures.row (reverse calls) inv.counted here.row.0) in
    let ok = admitted g (goal.at.returns-in_err-next_row-clause-fault g c).After-row_fields limits accepted layout in
    let more : AreAdmitted c.args.version c.args.layout.mode limits (calls ++ call ∷ []) = record {
      accepted = accepted;
      few = omega (arith, inv.few, c.loop-layout.calls.ok.0, length-append calls (call ∷ []), c.len.ensures, c.if-len-eq-MOST_CALLS.false);
      reported = All-push (IsReported c.args.version c.args.layout.mode limits.passes) calls call ok.reported (subst (λ (n : ℕ). IsReported c.args.version c.args.layout.mode n call) layout.passes c.in_ok-call.ensures.accepted);
    } in
    let read = subst (λ rows. HasRead g.R.Read.remaining bytes rows c.loop-layout.rows) row here.read in
    passed_on c.next_row.result c.from_residual-in_err-next_row.result c.in_err-next_row.field-0.0 c.in_err-next_row.was (search rules) (λ row cause why. why)
    (c.next_row.ensures.fault bytes (rows_of_calls c.args.version c.args.layout.mode limits (calls ++ call ∷ [])) read
    (inv.number three ∙ sym (calls_counted_more c.args.version c.args.layout.mode limits calls call (vec_len c.loop-layout.calls) (omega (arith, c.loop-layout.calls.ok.0))))
    (omega (arith, calls_counted_more c.args.version c.args.layout.mode limits calls call (vec_len c.loop-layout.calls) (omega (arith, c.loop-layout.calls.ok.0)), inv.few))
    (calls_begin c.args.version c.args.layout.mode limits (calls ++ call ∷ []) more) (calls_not_whole c.args.version c.args.layout.mode limits (calls ++ call ∷ [])))

pub returns-clause-behind : goal.returns-clause-behind
returns-clause-behind g c = λ bytes before start named.
    let here = c.loop-layout.invariant.rows bytes before start in
    let is : (get_or c.row_fields.result 0 blank).now ≡ codes "call" = sym (name_is c.row_fields.result (last_row c.loop-layout.rows) (omega arith) (c.row_fields.ensures here.row.0)) ∙ named in
    search rules
