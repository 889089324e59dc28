use Rattle.std.proofs.Common.{◌≡◌, ◌≢◌, ℕ, false, sym, subst, ◌∙◌, rules}
use Rattle.histories.specs.Common.{WasInTheWay, HasFailed, IsOthersScx, value, log, is_final, state}
use Rattle.judge.specs.Histories.{seen_history}
use Rattle.audit.specs.CellCalls.{IsLookAt}
use Rattle.audit.proofs.CellCallFacts.{failed, cell_inside, not_false}
use Rattle.audit.proofs.cells.has_failed.Goals as goal

pub returns-then-scx_word-ne0 : goal.returns-then-scx_word-ne0
returns-then-scx_word-ne0 c = λ start linked steps x t.
    let lay = c.args.steps.now.judge.layout in
    let h = seen_history c.args.steps.now.judge in
    let n = c.node.result.0 in
    let s = c.args.scx.0 in
    let looked : IsLookAt c.args.memory.now.look n s c.args.memory.now.begun = search rules in
    let others : IsOthersScx lay c.args.pass.0 s = search rules in
    let way : WasInTheWay h start n s = search (rules, x.started) in
    let over : value h (state s) ≢ 0 = search rules in
    let final : is_final (log lay start) n ≡ false = sym (c.was_final.ensures lay h start steps x.started (cell_inside lay n c.requires c.node.ensures.to_eight)) ∙ not_false c.was_final.result t in
    subst (λ (k : ℕ). HasFailed lay c.args.pass.0 h start k s) c.node.ensures.node (failed lay c.args.pass.0 h start linked c.args.memory.now x n s looked others way over final)
