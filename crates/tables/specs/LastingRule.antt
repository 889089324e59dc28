-- The rule of a table that lasts: what its words, and what all seats know and remember, have to do
-- with one lawful run over ever new names; and what a step may rely on and tells.
use Rattle.std.specs.Prelude.{◌≡◌, ◌++◌, ℕ, false, List, [], ◌∷◌}
use mathlib.Core.Option.{some}
use lib.ListN.{get_elem?}
use Rattle.atomic_table.specs.Table.{State}
use Rattle.histories.specs.Common.{Layout, Row, History, IsRun, Word, value}
use Rattle.planting.specs.Plantings.{PlantingView}
use Rattle.slots.specs.Counts.{CountsRests, Tally}
use Rattle.slots.specs.Held.{Held}
use Rattle.slots.specs.Lasting.{Lasting}
use Rattle.slots.specs.Window.{IsWindow}
use Rattle.tables.specs.CallSteps.{IsOfMapCall}
use Rattle.tables.specs.TableRule.{ByOthers, MayStep, Owns, history_of, past_of, seated_pass}
use Rattle.tables.specs.LastingMemory.{AreHeldOrGone, FillsDealt, RememberWell, present}
use Rattle.tables.specs.declared.view.SeatView.{SeatView}
use Rattle.tables.specs.declared.memory.PassMemory.{PassMemory}
use Rattle.tables.specs.declared.rule.CallStep.{CallStep}
use Rattle.tables.specs.declared.rule.Plot.{Plot}
use Rattle.tables.specs.declared.view.SeatedPass.{SeatedPass}

-- the layout of the names of a table that lasts, and what is planted in it
abbrev pub plot_in : Lasting → PlantingView → Plot
plot_in t planting = record { layout = t.lay; planting = planting }

-- The words are a window on some lawful run, and count the rests of all passes; and each node that
-- was taken is held, or gone.
pub record WordsLast (allows : Layout → History → ℕ → Type 0) (t : Lasting) (planting : PlantingView) (words : List ℕ) : Type 0 where
  pub rows : List Row
  pub last : ℕ → History
  pub held : Held
  pub tally : Tally
  pub sound : IsRun allows t.lay (history_of planting rows)
  pub window : IsWindow t words (history_of planting rows) last held
  pub counts : CountsRests t words (history_of planting rows) tally
  pub gone : AreHeldOrGone t (present words (history_of planting rows) last held tally)

-- It is so of the words; each pass knows a beginning of the run, after which are rows of others
-- alone; and what passes remember is so.
pub record TableLasts (allows : Layout → History → ℕ → Type 0) (t : Lasting) (planting : PlantingView) (s : State ℕ SeatView) : Type 0 where
  pub run : WordsLast allows t planting s.words
  pub owner : ℕ → ℕ
  pub passes : (id : ℕ) (v : SeatView) → get_elem? s.views id ≡ some v → Owns (plot_in t planting) run.rows owner id v.passes
  pub memories : (id : ℕ) (v : SeatView) → get_elem? s.views id ≡ some v → RememberWell t planting (present s.words (history_of planting run.rows) run.last run.held run.tally) v.passes

-- The pass may make the step: it is there, and the step is lawful, and one of a map's call that
-- began since its last rest; and what it fills is dealt. So of names that nobody has taken it comes
-- only to dealt ones: a call comes to such a name only to fill it.
pub record MayStepOn (allows : Layout → History → ℕ → Type 0) (said : CallStep) (p : SeatedPass) : Type 0 where
  pub may : MayStep allows said p
  pub of_call : IsOfMapCall allows said p
  pub there : p.memory.away ≡ false
  pub dealt : FillsDealt p.memory said.step

-- The only pass of a seat has come to know the whole run, with which others have gone on, and
-- remembers by then what `after` makes of the run.
pub record HasLearnt (allows : Layout → History → ℕ → Type 0) (after : List Row → PassMemory) (ps : List SeatedPass) (rows : List Row) (qs : List SeatedPass) : Type 0 where
  pub pass : SeatedPass
  pub others : List Row
  pub was : ps ≡ pass ∷ []
  pub by_others : ByOthers pass.number.0 others
  pub rows_are : rows ≡ others ++ pass.known
  pub run : IsRun allows pass.layout (past_of pass others)
  pub is : qs ≡ seated_pass pass.number.0 pass.layout pass.planting (after rows) rows ∷ []

-- so it is of these two views of a seat
abbrev pub LearnsWith : (Layout → History → ℕ → Type 0) → (List Row → PassMemory) → SeatView → SeatView → Type 0
LearnsWith allows after v w = (rows : List Row) × HasLearnt allows after v.passes rows w.passes

-- The pass p, the only one of a seat, has come to know the run, and remembers what it did; and in
-- that run the word was n.
pub record LoadsWord (allows : Layout → History → ℕ → Type 0) (p : SeatedPass) (u : Word) (n : ℕ) (v w : SeatView) : Type 0 where
  pub rows : List Row
  pub learnt : HasLearnt allows (λ known. p.memory) v.passes rows w.passes
  pub value : value (history_of p.planting rows) u ≡ n

-- The only pass of a seat has come to know the run, and has gone on by rows of its own; and it
-- remembers by then what `after` makes of them all.
pub record GoesOnWith (allows : Layout → History → ℕ → Type 0) (on : PlantingView → List Row → List Row) (after : List Row → PassMemory) (v w : SeatView) : Type 0 where
  pub pass : SeatedPass
  pub others : List Row
  pub was : v.passes ≡ pass ∷ []
  pub by_others : ByOthers pass.number.0 others
  pub run : IsRun allows pass.layout (history_of pass.planting (on pass.planting (others ++ pass.known)))
  pub passes : w.passes ≡ (let rows : List Row = on pass.planting (others ++ pass.known) in seated_pass pass.number.0 pass.layout pass.planting (after rows) rows) ∷ []
