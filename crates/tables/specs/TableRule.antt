-- The rule of the table: what its words and the views of all seats have to do with one lawful run.
use Rattle.std.specs.Prelude.{◌≡◌, ◌≢◌, ◌<◌, ℕ, zero, suc, false, List, [], ◌∷◌, ◌++◌, length, None, slice_index}
use mathlib.Core.Option.{some}
use lib.ListN.{get_elem?}
use Rattle.atomic_table.specs.Seated.{TableId}
use Rattle.atomic_table.specs.Table.{State}
use Rattle.arena.specs.Share.{whole_share}
use Rattle.histories.specs.Common.{Layout, Settled, Head, Word, LoadSettled, Load, Row, place, table_size, IsWord, node, word_after, History, Opened, ◌⊳◌, value, IsRun, IsTold}
use Rattle.planting.specs.Plantings.{PlantingView, opening_for}
use Rattle.prims.specs.Shares.{share_end}
use Rattle.slots.specs.Lasting.{Lasting, slot_word, table_place}
use Rattle.tables.specs.declared.rule.CallStep.{CallStep}
use Rattle.tables.specs.declared.memory.PassMemory.{PassMemory}
use Rattle.tables.specs.declared.rule.Plot.{Plot}
use Rattle.tables.specs.declared.rule.Site.{Site}
use Rattle.tables.specs.declared.view.SeatedPass.{SeatedPass}
use Rattle.tables.specs.declared.view.SeatView.{SeatView}

-- the history that these rows make, the newest first, where this is planted
abbrev pub history_of : PlantingView → List Row → History
history_of planting [] = Opened (opening_for planting)
history_of planting (r ∷ rs) = r ⊳ history_of planting rs

-- the pass of this number in a table that is planted so, which remembers so much, and knows these
-- rows
abbrev pub seated_pass : ℕ → Layout → PlantingView → PassMemory → List Row → SeatedPass
seated_pass n lay planting memory rows = record { number = record { 0 = n }; layout = lay; planting = planting; memory = memory; known = rows }

-- what a pass remembers that has not rested, and has noted nothing
abbrev pub no_memory : PassMemory
no_memory = record { rested = []; away = false; often = 0; nodes_to = 0; scx_to = 0; notes = []; polls = []; holds = []; empty = []; zeros = [] }

-- where its names end that are dealt: the nodes, and the SCX-records
abbrev pub dealt_to : PassMemory → ℕ × ℕ
dealt_to m = (m.nodes_to, m.scx_to)

-- what a pass remembers that has its names dealt up to there, and nothing else
abbrev pub dealt_up_to : ℕ × ℕ → PassMemory
dealt_up_to end = record no_memory { nodes_to = end.0; scx_to = end.1 }

-- what pass c remembers where all of its names are dealt from the start
abbrev pub all_dealt : Layout → ℕ → PassMemory
all_dealt lay c = dealt_up_to (share_end (whole_share lay c))

-- what a seat knows that has these passes
abbrev pub seat_view : List SeatedPass → SeatView
seat_view ps = record { passes = ps }

-- none of these rows is of pass c
abbrev pub ByOthers : ℕ → List Row → Type 0
ByOthers c [] = Unit {0}
ByOthers c (r ∷ rs) = (r.pass.0 ≢ c) × ByOthers c rs

-- the run is what the pass knows, and after that rows of others alone
abbrev pub Behind : List Row → SeatedPass → Type 0
Behind run p = (others : List Row) × (run ≡ others ++ p.known) × ByOthers p.number.0 others

-- none of these passes has the number n
abbrev pub Absent : ℕ → List SeatedPass → Type 0
Absent n [] = Unit {0}
Absent n (p ∷ ps) = (p.number.0 ≢ n) × Absent n ps

-- the layout and the planting of a pass's table
abbrev pub plot_of : SeatedPass → Plot
plot_of p = record { layout = p.layout; planting = p.planting }

-- each of these passes is of this seat alone, and knows a beginning of the run
abbrev pub Owns : Plot → List Row → (ℕ → ℕ) → ℕ → List SeatedPass → Type 0
Owns plot run owner id [] = Unit {0}
Owns plot run owner id (p ∷ ps) = (owner p.number.0 ≡ id) × (plot_of p ≡ plot) × Behind run p × Absent p.number.0 ps × Owns plot run owner id ps

-- the rule of the table: some lawful run has left the words as they are
pub record TableIsLawful (allows : Layout → History → ℕ → Type 0) (plot : Plot) (s : State ℕ SeatView) : Type 0 where
  pub run : List Row
  pub size : length s.words ≡ table_size plot.layout
  pub holds : (w : Word) → IsWord plot.layout w → slice_index s.words (place plot.layout w) ≡ value (history_of plot.planting run) w
  pub sound : IsRun allows plot.layout (history_of plot.planting run)
  -- each pass is of one seat, and knows a beginning of
  -- the run, after which are rows of others alone
  pub owner : ℕ → ℕ
  pub passes : (id : ℕ) (v : SeatView) → get_elem? s.views id ≡ some v → Owns plot run owner id v.passes

-- Steps

-- the run that a pass knows, and after it these rows of others
abbrev pub past_of : SeatedPass → List Row → History
past_of p others = history_of p.planting (others ++ p.known)

-- the row that a step of pass c leaves when it is made after the history
abbrev pub row : ℕ → CallStep → History → Row
row c said h = record { pass = record { 0 = c }; call = said.call; kind = said.step.kind; word = said.step.word; before = value h said.step.word; after = word_after said.step.access (value h said.step.word) }

-- the step may be made after what the pass knows and any rows of others
abbrev pub MayStep : (Layout → History → ℕ → Type 0) → CallStep → SeatedPass → Type 0
MayStep allows said p = (others : List Row) → ByOthers p.number.0 others → IsRun allows p.layout (past_of p others) → IsRun allows p.layout (row p.number.0 said (past_of p others) ⊳ past_of p others)

-- the only pass of a seat has made the step after rows of others;
-- it has found n, and knows the run up to its step
pub record Made (allows : Layout → History → ℕ → Type 0) (said : CallStep) (ps : List SeatedPass) (n : ℕ) (qs : List SeatedPass) : Type 0 where
  pub pass : SeatedPass
  pub others : List Row
  pub was : ps ≡ pass ∷ []
  pub by_others : ByOthers pass.number.0 others
  pub before : IsRun allows pass.layout (past_of pass others)
  pub after : IsRun allows pass.layout (row pass.number.0 said (past_of pass others) ⊳ past_of pass others)
  pub told : IsTold said.step.access (value (past_of pass others) said.step.word) n
  pub is : qs ≡ seated_pass pass.number.0 pass.layout pass.planting pass.memory (row pass.number.0 said (past_of pass others) ∷ (others ++ pass.known)) ∷ []

-- a look at the table: a load of the head of node 0, which is of no call
abbrev pub look : CallStep
look = record { call = 0; step = record { kind = LoadSettled; word = node 0 (Settled Head); access = Load } }

-- the first of two passes of a seat has looked at the table after a run of which both knew a
-- beginning, and is now the second in the list
pub record Looked (allows : Layout → History → ℕ → Type 0) (ps qs : List SeatedPass) : Type 0 where
  pub first : SeatedPass
  pub second : SeatedPass
  pub run : List Row
  pub were : ps ≡ first ∷ second ∷ []
  pub behind_first : Behind run first
  pub behind_second : Behind run second
  pub apart : first.number.0 ≢ second.number.0
  pub same : plot_of second ≡ plot_of first
  pub before : IsRun allows first.layout (history_of first.planting run)
  pub after : IsRun allows first.layout (row first.number.0 look (history_of first.planting run) ⊳ history_of first.planting run)
  pub are : qs ≡ second ∷ seated_pass first.number.0 first.layout first.planting first.memory (row first.number.0 look (history_of first.planting run) ∷ run) ∷ []

-- Dealing and joining

-- n passes, numbered from `from` on, that remember so much, each by its number, and know nothing
-- yet
abbrev pub passes_with : (ℕ → PassMemory) → Plot → ℕ → ℕ → List SeatedPass
passes_with memory plot from zero = []
passes_with memory plot from (suc n) = seated_pass from plot.layout plot.planting (memory from) [] ∷ passes_with memory plot (suc from) n

-- so many that have all of their names dealt
abbrev pub new_passes : Plot → ℕ → ℕ → List SeatedPass
new_passes plot = passes_with (all_dealt plot.layout) plot

-- the passes after the first
abbrev pub rest_of : List SeatedPass → List SeatedPass
rest_of [] = []
rest_of (p ∷ ps) = ps

-- the first of the passes, if there is one
abbrev pub first_of : List SeatedPass → List SeatedPass
first_of [] = []
first_of (p ∷ ps) = p ∷ []

-- what a seat knows without its first pass
abbrev pub rest_of_seat : SeatView → SeatView
rest_of_seat v = seat_view (rest_of v.passes)

-- what a seat knows that has its first pass alone
abbrev pub first_of_seat : SeatView → SeatView
first_of_seat v = seat_view (first_of v.passes)

-- what a seat knows that has the passes of two
abbrev pub joined_seat : SeatView → SeatView → SeatView
joined_seat v w = seat_view (v.passes ++ w.passes)

-- a seat of one pass, of this layout
pub record IsAlone (lay : Layout) (ps : List SeatedPass) : Type 0 where
  pub pass : SeatedPass
  pub is : ps ≡ pass ∷ []
  pub layout : pass.layout ≡ lay
  pub is_pass : pass.number.0 < lay.passes

-- a pass that has looked at the table after this run
abbrev pub after_look : SeatedPass → List Row → SeatedPass
after_look p run = seated_pass p.number.0 p.layout p.planting p.memory (row p.number.0 look (history_of p.planting run) ∷ run)

-- the pass knew a beginning of the run, and its look is lawful after the run
pub record HasLookedBehind (allows : Layout → History → ℕ → Type 0) (p : SeatedPass) (run : List Row) : Type 0 where
  pub behind : Behind run p
  pub before : IsRun allows p.layout (history_of p.planting run)
  pub after : IsRun allows p.layout (row p.number.0 look (history_of p.planting run) ⊳ history_of p.planting run)

-- two passes have met: the second has looked after a run of which both knew a beginning
pub record Met (allows : Layout → History → ℕ → Type 0) (ps qs new_ps new_qs : List SeatedPass) : Type 0 where
  pub one : SeatedPass
  pub other : SeatedPass
  pub early : List Row
  pub late : List Row
  pub was_one : ps ≡ one ∷ []
  pub was_other : qs ≡ other ∷ []
  pub apart : one.number.0 ≢ other.number.0
  pub same : plot_of one ≡ plot_of other
  pub knew_one : Behind early one
  pub other_looked : HasLookedBehind allows other early
  -- the first has looked after a run that extends that of the second's look
  pub one_looked : HasLookedBehind allows one late
  pub goes_on : Behind late (after_look other early)
  pub is_one : new_ps ≡ after_look one late ∷ []
  pub is_other : new_qs ≡ after_look other early ∷ []
