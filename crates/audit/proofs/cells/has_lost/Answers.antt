use Rattle.std.proofs.Common.{◌≡◌, ℕ, false, [], ◌∷◌, sym, subst, ◌∙◌, rules}
use Rattle.histories.specs.Common.{Freeze, log, is_final}
use Rattle.record.specs.Common.{IsInTheWay, IsLastLook}
use Rattle.judge.specs.Histories.{seen_history}
use Rattle.audit.specs.CellCalls.{IsLookAt}
use Rattle.audit.proofs.CellCallFacts.{lost, cell_inside}
use Rattle.audit.proofs.cells.has_lost.Goals as goal

pub returns-then-has_found : goal.returns-then-has_found
returns-then-has_found c = λ start linked steps x t.
    let lay = c.args.steps.now.judge.layout in
    let h = seen_history c.args.steps.now.judge in
    let n = c.node.result.0 in
    let s = c.args.scx.0 in
    let looked : IsLookAt c.args.memory.now.freeze n s c.args.memory.now.begun = search rules in
    let stood : c.was_final.result ≡ false = search rules in
    subst (λ (k : ℕ). IsInTheWay lay c.args.pass.0 h start Freeze (k ∷ []) k s (λ moment. IsLastLook c.args.pass.0 h start moment k × (is_final (log lay moment) k ≡ false))) c.node.ensures.node (lost lay c.args.pass.0 h start linked c.args.memory.now x n s c.in-Some.look c.in-Some.ensures (λ g m. sym (c.was_final.ensures lay h g steps m (cell_inside lay n c.requires c.node.ensures.to_eight)) ∙ stood) looked (c.was_in_the_way.ensures.others t) (λ g m. c.was_in_the_way.ensures.way lay h g steps m t))
