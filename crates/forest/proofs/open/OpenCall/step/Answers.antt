use Rattle.std.proofs.Common.{◌≡◌, ◌∙◌, true, false, ap, sym, refl}
use Rattle.histories.specs.Common.{Layout}
use Rattle.forest.specs.Opened.{OpenView}
use Rattle.tables.specs.Passes.{Ground, IsOf, PassView}
use Rattle.forest.proofs.Passes.{layout_of}
use Rattle.forest.proofs.OpenSteps.{open_asks, open_host, open_waits, same_call, stays_lawful, stays_open, is_answered, differ, over_keeps, step_keeps}
use Rattle.forest.proofs.open.OpenCall.step.Goals as goal

-- the call has the layout of the names in the forest's table
of_forest : {lay : Layout} {p q : PassView} {f h : Ground} → lay ≡ p.layout → p ≡ q → f ≡ h → IsOf h q → lay ≡ f.layout
of_forest kept self forest of = kept ∙ layout_of self forest of

pub invariant_of-self : goal.invariant_of-self
invariant_of-self g c = (is_answered g.K.WordKey.is_valid g.K.WordKey.word_of g.V.WordValue.is_valid g.V.WordValue.word_of c.self.inside c.self.invariant.0 c.in_default.field-0 c.in_default.is, λ lasts. over_keeps c.self.inside (c.self.invariant.1 lasts))

pub advance-requires-clause-waits : goal.advance-requires-clause-waits
advance-requires-clause-waits g c = (open_host g.K.WordKey.is_valid g.K.WordKey.word_of g.V.WordValue.is_valid g.V.WordValue.word_of c.self.inside c.self.invariant.0 c.in-Ask.step c.in-Ask.is _ (of_forest refl (ap (λ (o : OpenView). o.began) c.self.view_is) c.forest.view_is c.requires.forest), open_waits g.K.WordKey.is_valid g.K.WordKey.word_of g.V.WordValue.is_valid g.V.WordValue.word_of c.self.inside c.self.invariant.0 c.in-Ask.step c.in-Ask.is)

pub invariant_of-self-in-Ask-turn : goal.invariant_of-self-in-Ask-turn
invariant_of-self-in-Ask-turn g c = (stays_open g.K.WordKey.is_valid g.K.WordKey.word_of g.V.WordValue.is_valid g.V.WordValue.word_of c.self.inside c.self.invariant.0 c.in-Ask.step c.in-Ask.is _ (of_forest refl (ap (λ (o : OpenView). o.began) c.self.view_is) c.forest.view_is c.requires.forest) c.advance.new.seat c.advance.new.machine c.advance.result c.advance.ensures.table.0 c.advance.ensures.table.1 c.advance.ensures.one c.advance.ensures.stands c.advance.ensures.nearer c.self.inside.over (λ e. absurd (differ (sym e ∙ goes))) (λ e. rw c.in-Ask-turn.is tt), λ lasts. step_keeps c.self.inside c.advance.new.seat c.advance.new.machine c.advance.result c.self.inside.over c.advance.ensures.table.2 (c.self.invariant.1 lasts))
  where
    goes : c.self.inside.over ≡ false
    goes = rw (← c.self.view_is) at c.requires.goes

pub invariant_of-self-in-Done : goal.invariant_of-self-in-Done
invariant_of-self-in-Done g c = (stays_open g.K.WordKey.is_valid g.K.WordKey.word_of g.V.WordValue.is_valid g.V.WordValue.word_of c.self.inside c.self.invariant.0 c.in-Ask.step c.in-Ask.is _ (of_forest refl (ap (λ (o : OpenView). o.began) c.self.view_is) c.forest.view_is c.requires.forest) c.advance.new.seat c.advance.new.machine c.advance.result c.advance.ensures.table.0 c.advance.ensures.table.1 c.advance.ensures.one c.advance.ensures.stands c.advance.ensures.nearer true (λ e. rw c.in-Done.is tt) (λ e. absurd (differ e)), λ lasts. step_keeps c.self.inside c.advance.new.seat c.advance.new.machine c.advance.result true c.advance.ensures.table.2 (c.self.invariant.1 lasts))

pub returns-in-Ask-turn-clause-same : goal.returns-in-Ask-turn-clause-same
returns-in-Ask-turn-clause-same g c = rw (← c.self.view_is) (let e = same_call g.K.WordKey.is_valid g.K.WordKey.word_of g.V.WordValue.is_valid g.V.WordValue.word_of c.self.inside c.self.invariant.0 c.in-Ask.step c.in-Ask.is _ (of_forest refl (ap (λ (o : OpenView). o.began) c.self.view_is) c.forest.view_is c.requires.forest) c.advance.new.seat c.advance.new.machine c.advance.result c.advance.ensures.table.0 c.advance.ensures.table.1 c.advance.ensures.one c.advance.ensures.stands in record { began = refl; call = e.0; tries = e.1 })

pub returns-in-Done-clause-same : goal.returns-in-Done-clause-same
returns-in-Done-clause-same g c = rw (← c.self.view_is) (let e = same_call g.K.WordKey.is_valid g.K.WordKey.word_of g.V.WordValue.is_valid g.V.WordValue.word_of c.self.inside c.self.invariant.0 c.in-Ask.step c.in-Ask.is _ (of_forest refl (ap (λ (o : OpenView). o.began) c.self.view_is) c.forest.view_is c.requires.forest) c.advance.new.seat c.advance.new.machine c.advance.result c.advance.ensures.table.0 c.advance.ensures.table.1 c.advance.ensures.one c.advance.ensures.stands in record { began = refl; call = e.0; tries = e.1 })

pub returns-in-Ask-turn-clause-lawful : goal.returns-in-Ask-turn-clause-lawful
returns-in-Ask-turn-clause-lawful g c = stays_lawful g.K.WordKey.is_valid g.K.WordKey.word_of g.V.WordValue.is_valid g.V.WordValue.word_of c.self.inside c.self.invariant.0 c.in-Ask.step c.in-Ask.is _ (of_forest refl (ap (λ (o : OpenView). o.began) c.self.view_is) c.forest.view_is c.requires.forest) c.advance.new.seat c.advance.new.machine c.advance.result c.advance.ensures.table.0 c.advance.ensures.table.1 c.advance.ensures.one c.advance.ensures.stands

pub returns-in-Ask-turn-clause-nothing : goal.returns-in-Ask-turn-clause-nothing
returns-in-Ask-turn-clause-nothing g c = rw (← c.self.view_is) (λ none. absurd (none (open_asks g.K.WordKey.is_valid g.K.WordKey.word_of g.V.WordValue.is_valid g.V.WordValue.word_of c.self.inside c.self.invariant.0 c.in-Ask.step c.in-Ask.is)))

pub returns-in-Done-clause-lawful : goal.returns-in-Done-clause-lawful
returns-in-Done-clause-lawful g c = stays_lawful g.K.WordKey.is_valid g.K.WordKey.word_of g.V.WordValue.is_valid g.V.WordValue.word_of c.self.inside c.self.invariant.0 c.in-Ask.step c.in-Ask.is _ (of_forest refl (ap (λ (o : OpenView). o.began) c.self.view_is) c.forest.view_is c.requires.forest) c.advance.new.seat c.advance.new.machine c.advance.result c.advance.ensures.table.0 c.advance.ensures.table.1 c.advance.ensures.one c.advance.ensures.stands

pub returns-in-Done-clause-nothing : goal.returns-in-Done-clause-nothing
returns-in-Done-clause-nothing g c = rw (← c.self.view_is) (λ none. absurd (none (open_asks g.K.WordKey.is_valid g.K.WordKey.word_of g.V.WordValue.is_valid g.V.WordValue.word_of c.self.inside c.self.invariant.0 c.in-Ask.step c.in-Ask.is)))
