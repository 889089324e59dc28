use Rattle.std.proofs.Common.{rules, ◌≡◌, ◌<◌, ◌+◌, ◌-◌, ◌∙◌, ℕ, [], ◌∷◌, List, Some, slice_get, sym, ap, subst, arith}
use Rattle.atomic_table.specs.Seated.{TableId}
use Rattle.histories.specs.Common.{Opened, IsRun}
use Rattle.planting.specs.Plantings.{PlantingView, opening_for}
use Rattle.prims.proofs.Lemmas.{get_more}
use Rattle.slots.specs.Lasting.{Lasting}
use Rattle.tables.specs.LastingOpening.{first_memory}
use Rattle.tables.specs.LastingRule.{plot_in}
use Rattle.tables.specs.LastingTables.{new_pass_in}
use Rattle.tables.specs.Passes.{PassView, ground}
use Rattle.tables.specs.Slotted.{in_turns}
use Rattle.tables.specs.TableRule.{first_of, passes_with, rest_of, seated_pass}
use Rattle.tables.specs.Traces.{planting_of}
use Rattle.tables.specs.declared.view.SeatView.{SeatView}
use Rattle.tables.specs.declared.view.SeatedPass.{SeatedPass}
use Rattle.tables.proofs.Openings.{first_with, rest_with}
use Rattle.forest.proofs.lasting.passes_in_turns.Goals as goal

pub loop-number-init : goal.loop-number-init
loop-number-init g c = record {
  count = search rules;
  each = search rules;
  table = c.requires.table;
  bare = c.requires.seat.1;
  left = (let all : c.args.layout.now.passes - 0 ≡ c.args.layout.now.passes = omega arith in rw all (ap (λ (v : SeatView). v.passes) c.requires.seat.0));
}

-- what the next seat knows
dealt : (t : Lasting) (planting : PlantingView) (n : ℕ) (all own : List SeatedPass) → own ≡ first_of all → all ≡ passes_with (first_memory t) (plot_in t planting) n (t.lay.passes - n) → n < t.lay.passes → own ≡ seated_pass n t.lay planting (first_memory t n) [] ∷ []
dealt t planting n all own is left inside = is ∙ ap first_of left ∙ first_with (first_memory t) (plot_in t planting) n t.lay.passes inside

-- what is left of the seat
remaining : (t : Lasting) (planting : PlantingView) (n : ℕ) (all others : List SeatedPass) → others ≡ rest_of all → all ≡ passes_with (first_memory t) (plot_in t planting) n (t.lay.passes - n) → n < t.lay.passes → others ≡ passes_with (first_memory t) (plot_in t planting) (n + 1) (t.lay.passes - (n + 1))
remaining t planting n all others is left inside = is ∙ ap rest_of left ∙ rest_with (first_memory t) (plot_in t planting) n t.lay.passes inside

-- and the pass that is made of it, by the table and what is planted there
made_of : (t : Lasting) (id table : TableId) (own planting : PlantingView) (tries n : ℕ) (p : PassView) → p ≡ new_pass_in t (ground id t.lay own tries) n → id ≡ table → own ≡ planting → p ≡ new_pass_in t (ground table t.lay planting tries) n
made_of t id table own planting tries n p is same planted = is ∙ ap (λ k. new_pass_in t (ground k t.lay own tries) n) same ∙ ap (λ b. new_pass_in t (ground table t.lay b tries) n) planted

pub in_turns-requires-clause-seat : goal.in_turns-requires-clause-seat
in_turns-requires-clause-seat g c =
    let t : Lasting = in_turns c.args.layout.now c.args.turns in
    let own = dealt t c.args.words.now.table.shared.key.planting c.loop-number.number c.loop-number.seat.me.0.passes c.deal-own.result.me.0.passes c.deal-own.ensures.passes.1 c.loop-number.invariant.left (search rules) in
    (subst (λ (ps : List SeatedPass). c.deal-own.result.me.0.passes ≡ seated_pass c.loop-number.number t.lay (planting_of ps) (first_memory t c.loop-number.number) [] ∷ []) (sym own) own, c.deal-own.ensures.bare.1)

pub in_turns-requires-clause-run : goal.in_turns-requires-clause-run
in_turns-requires-clause-run g c =
    let t : Lasting = in_turns c.args.layout.now c.args.turns in
    let own = dealt t c.args.words.now.table.shared.key.planting c.loop-number.number c.loop-number.seat.me.0.passes c.deal-own.result.me.0.passes c.deal-own.ensures.passes.1 c.loop-number.invariant.left (search rules) in
    subst (λ (b : PlantingView). IsRun g.S.Shape.allows t.lay (Opened (opening_for b))) (sym (ap planting_of own)) c.requires.run

pub loop-number-preserved : goal.loop-number-preserved
loop-number-preserved g c =
    let t : Lasting = in_turns c.args.layout.now c.args.turns in
    let planting = c.args.words.now.table.shared.key.planting in
    let own = dealt t planting c.loop-number.number c.loop-number.seat.me.0.passes c.deal-own.result.me.0.passes c.deal-own.ensures.passes.1 c.loop-number.invariant.left (search rules) in
    record {
      count = search rules;
      each = λ tries j d get. get_more (λ k (d : PassView). d ≡ new_pass_in t (ground c.args.words.now.table.shared.table_id t.lay planting tries) k) c.loop-number.passes.items c.in_ok-pass.pass c.loop-number.number
          (search rules)
          (c.loop-number.invariant.each tries)
          (made_of t c.deal-own.result.table_id c.args.words.now.table.shared.table_id (planting_of c.deal-own.result.me.0.passes) planting tries c.loop-number.number c.in_ok-pass.pass c.in_ok-pass.ensures (c.deal-own.ensures.table.1 ∙ c.loop-number.invariant.table) (ap planting_of own))
          j d (subst (λ (l : List PassView). slice_get l j ≡ Some d) c.in_ok-push.ensures.items get);
      table = c.deal-own.ensures.table.0 ∙ c.loop-number.invariant.table;
      bare = c.deal-own.ensures.bare.0 ∙ c.loop-number.invariant.bare;
      left = remaining t planting c.loop-number.number c.loop-number.seat.me.0.passes c.deal-own.new.seat.me.0.passes c.deal-own.ensures.passes.0 c.loop-number.invariant.left (search rules);
    }

pub returns : goal.returns
returns g c = λ tries. record { count = search rules; each = c.loop-number.invariant.each tries }
