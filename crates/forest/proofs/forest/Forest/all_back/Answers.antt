use Rattle.std.proofs.Common.{◌<◌, ap, sym, ◌∙◌, subst}
use Rattle.histories.specs.Common.{Layout}
use Rattle.tables.specs.Passes.{Ground}
use Rattle.std.proofs.lemmas.Bool.{false≢true}
use Rattle.forest.proofs.AllBack.{has_pass, finds_pass, has_more}
use Rattle.tables.proofs.Slotted.{passes_are}
use Rattle.forest.proofs.forest.Forest.all_back.Goals as goal

pub returns-then-not-has_pass : goal.returns-then-not-has_pass
returns-then-not-has_pass g c = (
  λ e. absurd (false≢true e),
  λ all. absurd (false≢true (sym (sym c.has_pass.ensures ∙ c.if-not-has_pass.true) ∙ finds_pass c.args.passes.now c.loop-number.number (all c.loop-number.number (subst (λ (f : Ground). c.loop-number.number < f.layout.passes) c.self.view_is (subst (λ n. c.loop-number.number < n) (sym (passes_are c.self.inside.words.table.shared.key ∙ ap (λ (l : Layout). l.passes) c.self.invariant.0.layout)) c.loop-number-test.true))))),
)

pub loop-number-preserved : goal.loop-number-preserved
loop-number-preserved g c = has_more c.args.passes.now c.loop-number.number c.loop-number.invariant (has_pass c.args.passes.now c.loop-number.number (sym c.has_pass.ensures ∙ c.if-not-has_pass.false))
