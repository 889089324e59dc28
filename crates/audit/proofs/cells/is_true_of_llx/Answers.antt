use Rattle.std.proofs.Common.{◌≡◌, sym, subst, ◌∙◌, eqb-true}
use Rattle.record.specs.declared.record.Answer.{Answer}
use Rattle.record.specs.Rules.Llx.{LlxIsRight}
use Rattle.judge.specs.Histories.{seen_history}
use Rattle.audit.proofs.cells.is_true_of_llx.Goals as goal

pub returns-then-eq : goal.returns-then-eq
returns-then-eq c = λ start linked steps x t.
    let at : c.in-Fail.node.0 ≡ c.args.cell = eqb-true _ _ (sym c.if-eq.ensures) ∙ c.node-in-Fail.ensures.node in
    subst (λ (a : Answer). LlxIsRight c.args.cell c.args.steps.now.judge.layout c.args.pass.0 (seen_history c.args.steps.now.judge) start linked a) (sym c.in-Fail.is) (at, c.has_failed.ensures start linked steps x t)
