-- What a pass of a table that lasts does between two calls: how its seat goes on by that.
use Rattle.std.specs.Prelude.{◌≡◌, ◌+◌, ◌*◌, ◌≤◌, ◌++◌, ℕ, List, [], ◌∷◌, Some}
use Rattle.atomic_table.specs.Seated.{TableId}
use Rattle.atomic_table.specs.declared.shared.Seat.{Seat}
use Rattle.histories.specs.Common.{Layout, Row, History, IsRun, Word, table_size, value}
use Rattle.tables.specs.LastingNotes.{memory_away, memory_rested}
use Rattle.tables.specs.LastingRule.{LearnsWith, LoadsWord}
use Rattle.tables.specs.TableRule.{ByOthers, past_of}
use Rattle.tables.specs.declared.memory.PassMemory.{PassMemory}
use Rattle.tables.specs.declared.rule.Site.{Site}
use Rattle.tables.specs.declared.rule.Turns.{Turns}
use Rattle.tables.specs.declared.view.SeatView.{SeatView}
use Rattle.tables.specs.declared.view.SeatedPass.{SeatedPass}
use Rattle.tables.specs.declared.words.Words.{Words}

-- The table's records come back, its words lie as this layout says, and behind them is room for
-- those in which its passes count their rests.
pub record IsLastingTable (id : TableId) (site : Site) (lay : Layout) : Type 0 where
  pub turns : Turns
  pub comes_back : site.turns ≡ Some turns
  pub layout : site.layout ≡ lay
  pub room : table_size lay + 8 * lay.passes ≤ id.words

-- the words are those of such a table, and the seat is at it
abbrev pub IsLastingSeat : {S : Type 0} → Words S → Layout → Seat ℕ SeatView → Type 0
IsLastingSeat words lay seat = IsLastingTable words.table.shared.table_id words.table.shared.key lay × (seat.table_id ≡ words.table.shared.table_id)

-- the pass, later on: others have gone on, and it has made no row of its own
pub record HasGoneOnResting (allows : Layout → History → ℕ → Type 0) (p q : SeatedPass) : Type 0 where
  pub number : q.number ≡ p.number
  pub layout : q.layout ≡ p.layout
  pub planting : q.planting ≡ p.planting
  pub others : List Row
  pub by_others : ByOthers p.number.0 others
  pub known : q.known ≡ others ++ p.known
  -- the run that it knows is lawful, if it was
  pub sound : IsRun allows p.layout (past_of p []) → IsRun allows q.layout (past_of q [])

-- the only pass of a seat has gone on so, and this holds of what it was and what it is
pub record RestsOn (allows : Layout → History → ℕ → Type 0) (so : SeatedPass → SeatedPass → Type 0) (v w : SeatView) : Type 0 where
  pub pass : SeatedPass
  pub later : SeatedPass
  pub was : v.passes ≡ pass ∷ []
  pub is : w.passes ≡ later ∷ []
  pub goes_on : HasGoneOnResting allows pass later
  pub holds : so pass later

-- The only pass of a seat has come to know the run, and remembers by then what `after` makes of what
-- it remembered and of the run.
abbrev pub LearnsFrom : (Layout → History → ℕ → Type 0) → (PassMemory → List Row → PassMemory) → SeatView → SeatView → Type 0
LearnsFrom allows after v w = (p : SeatedPass) × (v.passes ≡ p ∷ []) × LearnsWith allows (after p.memory) v w

-- the only pass of a seat has loaded this word, of a name, which was n
abbrev pub LearnsWord : (Layout → History → ℕ → Type 0) → Word → SeatView → ℕ → SeatView → Type 0
LearnsWord allows word v n w = (p : SeatedPass) × (v.passes ≡ p ∷ []) × LoadsWord allows p word n v w

-- the pass p, which is q now, has loaded it, and remembers what it did
pub record HasLoadedWord (word : Word) (n : ℕ) (p q : SeatedPass) : Type 0 where
  pub same : q.memory ≡ p.memory
  pub value : value (past_of q []) word ≡ n

-- the pass, which is q now, has rested after all that it knows, and remembers all else as before
abbrev pub RemembersRest : SeatedPass → SeatedPass → Type 0
RemembersRest p q = q.memory ≡ memory_rested p.memory q.known

-- it is away, and remembers all else as before
abbrev pub RemembersLeaving : SeatedPass → SeatedPass → Type 0
RemembersLeaving p q = q.memory ≡ memory_away p.memory

-- what a pass remembers of its own rests, of names and of slots is the same: all but its polls
pub record KeepsSlots (m n : PassMemory) : Type 0 where
  pub rested : n.rested ≡ m.rested
  pub away : n.away ≡ m.away
  pub often : n.often ≡ m.often
  pub nodes_to : n.nodes_to ≡ m.nodes_to
  pub scx_to : n.scx_to ≡ m.scx_to
  pub notes : n.notes ≡ m.notes
  pub holds : n.holds ≡ m.holds
  pub empty : n.empty ≡ m.empty
  pub zeros : n.zeros ≡ m.zeros
