use Rattle.std.proofs.Common.{sym, subst}
use Rattle.histories.specs.Common.{Opened, IsRun}
use Rattle.planting.specs.Plantings.{PlantingView, opening_for}
use Rattle.forest.proofs.Passes.{begins_sound}
use Rattle.forest.proofs.forest.Forest.with_layout.Goals as goal

pub with_plot-requires-clause-run : goal.with_plot-requires-clause-run
with_plot-requires-clause-run g c = subst (λ (b : PlantingView). IsRun g.S.Shape.allows c.args.layout (Opened (opening_for b))) (sym c.none-planting.ensures) (begins_sound g.S.Shape.allows c.args.layout)
