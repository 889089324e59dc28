use Rattle.std.proofs.Common.{rules, ◌≡◌, ◌<◌, ◌-◌, ◌∙◌, ℕ, [], ◌∷◌, List, slice_get, sym, ap, subst}
use Rattle.histories.specs.Common.{Layout, Opened, IsRun}
use Rattle.planting.specs.Plantings.{PlantingView, opening_for}
use Rattle.tables.specs.declared.rule.Plot.{Plot}
use Rattle.tables.specs.declared.view.SeatedPass.{SeatedPass}
use Rattle.tables.specs.Slotted.{plot_at}
use Rattle.tables.specs.TableRule.{all_dealt, new_passes, rest_of, first_of, seated_pass}
use Rattle.tables.specs.Traces.{planting_of}
use Rattle.tables.specs.Passes.{PassView, ground, new_pass}
use Rattle.prims.proofs.Lemmas.{get_more}
use Rattle.tables.proofs.Openings.{first_left, rest_left}
use Rattle.tables.proofs.Slotted.{names_are}
use Rattle.forest.proofs.forest.pass_all.Goals as goal

-- what the next seat knows
dealt : (plot : Plot) (lay : Layout) (n : ℕ) (own : List SeatedPass) → plot.layout ≡ lay → own ≡ first_of (new_passes plot n (lay.passes - n)) → n < lay.passes → own ≡ seated_pass n lay plot.planting (all_dealt lay n) [] ∷ []
dealt plot lay n own same is inside = subst (λ (l : Layout). own ≡ seated_pass n l plot.planting (all_dealt l n) [] ∷ []) same (is ∙ first_left plot n lay.passes inside)

pub new-requires-clause-seat : goal.new-requires-clause-seat
new-requires-clause-seat g c =
    let own = dealt (plot_at c.args.words.now.table.shared.key) c.args.layout.now c.loop-number.number c.deal-own.result.me.0.passes (names_are c.args.words.now.table.shared.key c.args.layout.now c.requires.once.layout c.requires.once.turns) (c.deal-own.ensures.passes.1 ∙ ap first_of c.loop-number.invariant.left) (search rules) in
    (subst (λ (ps : List SeatedPass). c.deal-own.result.me.0.passes ≡ seated_pass c.loop-number.number c.args.layout.now (planting_of ps) (all_dealt c.args.layout.now c.loop-number.number) [] ∷ []) (sym own) own, c.deal-own.ensures.bare.1)

pub new-requires-clause-run : goal.new-requires-clause-run
new-requires-clause-run g c =
    let own = dealt (plot_at c.args.words.now.table.shared.key) c.args.layout.now c.loop-number.number c.deal-own.result.me.0.passes (names_are c.args.words.now.table.shared.key c.args.layout.now c.requires.once.layout c.requires.once.turns) (c.deal-own.ensures.passes.1 ∙ ap first_of c.loop-number.invariant.left) (search rules) in
    subst (λ (b : PlantingView). IsRun g.S.Shape.allows c.args.layout.now (Opened (opening_for b))) (sym (ap planting_of own)) c.requires.run

pub loop-number-preserved : goal.loop-number-preserved
loop-number-preserved g c =
    let planting = c.args.words.now.table.shared.key.planting in
    let own = dealt (plot_at c.args.words.now.table.shared.key) c.args.layout.now c.loop-number.number c.deal-own.result.me.0.passes (names_are c.args.words.now.table.shared.key c.args.layout.now c.requires.once.layout c.requires.once.turns) (c.deal-own.ensures.passes.1 ∙ ap first_of c.loop-number.invariant.left) (search rules) in
    record {
      count = search rules;
      each = λ tries j d get. get_more (λ k (d : PassView). d ≡ new_pass (ground c.args.words.now.table.shared.table_id c.args.layout.now planting tries) k) c.loop-number.passes.items c.new.result c.loop-number.number
          (search rules)
          (c.loop-number.invariant.each tries)
          (c.new.ensures ∙ ap (λ t. new_pass (ground t c.args.layout.now (planting_of c.deal-own.result.me.0.passes) tries) c.loop-number.number) (c.deal-own.ensures.table.1 ∙ c.loop-number.invariant.table)
          ∙ ap (λ (b : PlantingView). new_pass (ground c.args.words.now.table.shared.table_id c.args.layout.now b tries) c.loop-number.number) (ap planting_of own))
          j d (sym (ap (λ l. slice_get l j) c.in_ok-push.ensures.items) ∙ get);
      table = c.deal-own.ensures.table.0 ∙ c.loop-number.invariant.table;
      bare = c.deal-own.ensures.bare.0 ∙ c.loop-number.invariant.bare;
      left = c.deal-own.ensures.passes.0 ∙ ap rest_of c.loop-number.invariant.left ∙ rest_left (plot_at c.args.words.now.table.shared.key) c.loop-number.number c.args.layout.now.passes (search rules);
    }

pub returns : goal.returns
returns g c = λ tries. record { count = search rules; each = c.loop-number.invariant.each tries }
