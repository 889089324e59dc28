-- How passes of a table that lasts come to know what others know: no row tells of it.
use Rattle.std.specs.Prelude.{◌≡◌, ℕ, List, [], ◌∷◌}
use Rattle.histories.specs.Common.{Layout, Row, History, IsRun}
use Rattle.prims.specs.declared.snap.Snap.{Snap}
use Rattle.tables.specs.Passes.{CanUse, HasTakenNothing, HoldsOfOwn, IsLaterView, PassView, run_of, steps_of}
use Rattle.tables.specs.Shares.{IsBetweenCalls}
use Rattle.tables.specs.TableRule.{Absent, Behind, history_of, plot_of, seated_pass}
use Rattle.tables.specs.declared.rule.Plot.{Plot}
use Rattle.tables.specs.declared.view.SeatView.{SeatView}
use Rattle.tables.specs.declared.view.SeatedPass.{SeatedPass}

-- the pass, when it knows these rows, and remembers what it did
abbrev pub aware_of : List Row → SeatedPass → SeatedPass
aware_of rows p = seated_pass p.number.0 p.layout p.planting p.memory rows

-- so it is of each of these
abbrev pub all_aware : List Row → List SeatedPass → List SeatedPass
all_aware rows [] = []
all_aware rows (p ∷ ps) = aware_of rows p ∷ all_aware rows ps

-- these passes are of such a table, no two of them are one, and each knows a beginning of the run
abbrev pub AreBehind : Plot → List Row → List SeatedPass → Type 0
AreBehind plot rows [] = Unit {0}
AreBehind plot rows (p ∷ ps) = (plot_of p ≡ plot) × Behind rows p × Absent p.number.0 ps × AreBehind plot rows ps

-- a lawful run of a table, of which each of these passes knows a beginning
pub record SharedRun (allows : Layout → History → ℕ → Type 0) (ps : List SeatedPass) : Type 0 where
  pub plot : Plot
  pub rows : List Row
  pub run : IsRun allows plot.layout (history_of plot.planting rows)
  pub behind : AreBehind plot rows ps

-- all passes of a seat have come to know such a run
abbrev pub AllLearn : (Layout → History → ℕ → Type 0) → SeatView → SeatView → Type 0
AllLearn allows v w = (x : SharedRun allows v.passes) × (w.passes ≡ all_aware x.rows v.passes)

-- The pass has come to know more of the run, which is lawful. It has made no row, taken nothing and
-- blamed nobody.
pub record HasOnlyLearnt (allows : Layout → History → ℕ → Type 0) (old new : PassView) : Type 0 where
  pub later : IsLaterView old new
  pub lawful : IsRun allows new.layout (run_of new)
  pub no_row : HoldsOfOwn (λ r. ⊥) new.number (run_of old) (run_of new)
  pub steps : steps_of new ≡ steps_of old
  pub blamed_same : new.blamed ≡ old.blamed
  pub takes_nothing : HasTakenNothing old new
  pub rest : IsBetweenCalls new.layout new.number (run_of new) new.share
  -- it may use each snapshot that it could use
  pub usable : (snap : Snap) → CanUse old snap → CanUse new snap
