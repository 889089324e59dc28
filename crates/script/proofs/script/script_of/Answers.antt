use Rattle.std.proofs.Common.{[], ◌∷◌, inl, inr, lit<, rules}
use Rattle.script.specs.Rows.{limits_row}
use Rattle.texts.proofs.Lemmas.{passed_on}
use Rattle.script.proofs.script.script_of.Goals as goal

pub invariant_of-result-clause-of_mode : goal.invariant_of-result-clause-of_mode
invariant_of-result-clause-of_mode g c k d lt = (c.in_ok-calls.ensures.accepted k d lt).1

pub returns-in_err-head-clause-fault : goal.returns-in_err-head-clause-fault
returns-in_err-head-clause-fault g c bytes told =
    passed_on c.head_of.result c.from_residual.result c.in_err-head.field-0.0 c.in_err-head.was (search rules)
    (λ row cause why. inl why)
    (c.head_of.ensures.fault bytes (c.new-rows.ensures.none bytes told) c.new-rows.ensures.number)

pub returns-in_err-calls-clause-fault : goal.returns-in_err-calls-clause-fault
returns-in_err-calls-clause-fault g c bytes told =
    let head = c.in_ok-head.ensures in
    passed_on c.entries.result c.from_residual-in_err-calls.result c.in_err-calls.field-0.0 c.in_err-calls.was (search rules)
    (λ row cause why. inr (c.in_ok-head.head.0, c.in_ok-head.head.1, head.accepted.0, head.accepted.1, why))
    (c.entries.ensures.fault bytes (limits_row c.in_ok-head.head.0 ∷ []) (head.says bytes (c.new-rows.ensures.none bytes told)) (c.head_of.ensures.number c.new-rows.ensures.number) (lit< tt))

pub returns-clause-says : goal.returns-clause-says
returns-clause-says g c bytes told =
    let head = c.in_ok-head.ensures in
    record { accepted = head.accepted.0; layout_is = head.accepted.1; calls_are = c.in_ok-calls.ensures.entries bytes (limits_row c.in_ok-head.head.0 ∷ []) (head.says bytes (c.new-rows.ensures.none bytes told)) }
