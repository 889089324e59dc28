-- A table that is planted begins a run of a typed dictionary, with its pairs.
use Rattle.std.proofs.Common.{◌≡◌, ◌<◌, ◌≤◌, ◌⊎◌, inl, inr, ℕ, List, length, sym, ◌∙◌, ap, subst, arith}
use Rattle.atomic_table.specs.Seated.{TableId}
use Rattle.arena.specs.Layout.{IsMap}
use Rattle.arena.specs.Openings.{Opening, empty}
use Rattle.histories.specs.Common.{Mode, Layout, Opened, Lawful, Shaped, IsRun, value}
use Rattle.ordered_map.specs.declared.pair.Pair.{Pair}
use Rattle.ordered_map.specs.Planted.{IsPlanted, pairs_of}
use Rattle.ordered_map.specs.Spelled.{Spells}
use Rattle.ordered_map.proofs.MapLemmas.{start_spells}
use Rattle.dict.specs.Laws.TypedMaps.{typed_run}
use Rattle.dict.specs.Typed.{AreTyped, TypedAllows}
use Rattle.planting.specs.Plantings.{PlantingView, IsPlantingOf, opening_for}
use Rattle.tables.specs.declared.rule.Plot.{Plot}
use Rattle.forest.specs.Beginnings.{BeginsWithPairs, IsPlotWith}
use Rattle.tables.specs.Passes.{Ground, ground}

pub begins_run : (keys values : ℕ → Type 0) (lay : Layout) (mode : Mode) (ps : List Pair) (p : PlantingView) → IsPlantingOf mode ps p → lay.mode ≡ mode → length p.nodes ≤ lay.planted → AreTyped keys values ps → IsRun (TypedAllows keys values) lay (Opened (opening_for p))
unfolding Lawful Shaped
begins_run keys values lay mode ps p x same room typed = record {
  lawful = (x.mode_is ∙ sym same, (let few = x.planted in omega (arith, few, room)));
  shaped = go x.opens;
}
  where
    go : (opening_for p ≡ empty mode) ⊎ ((l : Layout) → l.mode ≡ mode → IsPlanted l (Opened (opening_for p)) 0) → (opening_for p ≡ empty (opening_for p).mode) ⊎ TypedAllows keys values lay (Opened (opening_for p)) 0
    go (inl e) = inl (e ∙ ap empty (sym x.mode_is))
    go (inr planted) = inr (inr (planted lay same, subst (AreTyped keys values) (sym x.pairs_are) typed))

-- where there are pairs, its words show a tree of them
planted_so : (mode : Mode) (ps : List Pair) (p : PlantingView) → IsPlantingOf mode ps p → (lay : Layout) → lay.mode ≡ mode → 0 < length ps → IsPlanted lay (Opened (opening_for p)) 0
planted_so mode ps p x lay same some = go x.opens
  where
    go : (opening_for p ≡ empty mode) ⊎ ((l : Layout) → l.mode ≡ mode → IsPlanted l (Opened (opening_for p)) 0) → IsPlanted lay (Opened (opening_for p)) 0
    go (inl e) = absurd (let none : length ps ≡ 0 = ap length (sym x.pairs_are ∙ ap (λ (o : Opening). pairs_of o.pairs) e) in omega (arith, none, some))
    go (inr planted) = planted lay same

module _ (keys values : ℕ → Type 0) (lay : Layout) (ps : List Pair) (plot : Plot) (x : IsPlotWith lay ps plot) (is_map : IsMap plot.layout.mode) (run : IsRun (TypedAllows keys values) plot.layout (Opened (opening_for plot.planting))) where
  of_plot : (table : TableId) (tries : ℕ) → BeginsWithPairs (ground table plot.layout plot.planting tries) ps
  of_plot table tries = record {
    first = x.planting.pairs_are;
    spelled = subst (Spells plot.layout (value (Opened (opening_for plot.planting)))) x.planting.pairs_are (start_spells plot.layout (opening_for plot.planting) (is_map, typed_run keys values plot.layout (Opened (opening_for plot.planting)) run));
    planted = planted_so lay.mode ps plot.planting x.planting plot.layout x.mode_is;
    few = x.planting.few;
    full = λ tree. x.planting.full (sym x.mode_is ∙ tree);
    balanced = λ tree. x.planting.balanced (sym x.mode_is ∙ tree);
    room = x.room;
  }

  -- the forest of this plot
  pub begins_with : (f : Ground) → f.layout ≡ plot.layout → f.planting ≡ plot.planting → BeginsWithPairs f ps
  begins_with f same planted = subst (λ (l : Layout). BeginsWithPairs (ground f.table l f.planting f.tries) ps) (sym same) (subst (λ (b : PlantingView). BeginsWithPairs (ground f.table plot.layout b f.tries) ps) (sym planted) (of_plot f.table f.tries))
