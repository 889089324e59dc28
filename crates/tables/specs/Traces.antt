-- The course of a call: the rows that the run has got while it was made.
use Rattle.std.proofs.Common.{◌≡◌, ◌≢◌, ◌==◌, if◌then◌else◌, ℕ, suc, false, List, [], ◌∷◌, ◌++◌, Option, Some, None, refl, arith}
use Rattle.histories.specs.Common.{Kind, Layout, Row, Step, History, ◌⊳◌, Extends, Call, IsRun, MatchTurn, row_of, Turn, Ask, Done, most_taken}
use Rattle.tables.specs.declared.memory.PassMemory.{PassMemory}
use Rattle.tables.specs.declared.view.SeatedPass.{SeatedPass}
use Rattle.arena.specs.declared.limits.Mode.TheVariants.{Records}
use Rattle.planting.specs.Plantings.{PlantingView, nothing_planted}
use Rattle.tables.specs.TableRule.{ByOthers, history_of, no_memory, seated_pass}

-- how a call, begun with the machine `first`, has reached the machine m and the history h
pub data Trace {M : Type 0} (allows : Layout → History → ℕ → Type 0) (waits : M → Call → History → Step → Type 0) (same : M → M → Type 0) (c : Call) (first : M) : M → History → Type 0 where
  -- it begins now
  begins : {m : M} {h : History} → m ≡ first → h ≡ c.start → Trace allows waits same c first m h
  -- a row of another pass was added while the machine waited for a step
  others : {m : M} {h : History} (s : Step) (r : Row) (before : History) → h ≡ r ⊳ before → waits m c h s → r.pass.0 ≢ c.pass → IsRun allows c.layout h → Trace allows waits same c first m before → Trace allows waits same c first m h
  -- the step that the machine waited for was made
  makes : {m : M} {h : History} (s : Step) (before : History) → h ≡ row_of c s before ⊳ before → waits m c before s → IsRun allows c.layout h → Trace allows waits same c first m before → Trace allows waits same c first m h
  -- the machine continued, with what it got
  goes_on : {m : M} {h : History} (old : M) → same old m → Trace allows waits same c first old h → Trace allows waits same c first m h

-- The seat has the pass of the call alone, which knows these rows, and is there; and the call began
-- when the pass had rested last, or later. What its first machine had left of the share is dealt.
pub record IsInCall (left_dealt : PassMemory → Type 0) (ps : List SeatedPass) (c : Call) (planting : PlantingView) (known : List Row) : Type 0 where
  pub memory : PassMemory
  pub alone : ps ≡ seated_pass c.pass c.layout planting memory known ∷ []
  pub since : Extends c.start (history_of planting memory.rested)
  pub there : memory.away ≡ false
  pub left : left_dealt memory

-- so it is in the call, and P holds of the run that the pass knows
pub record HoldsForCall (allows : Layout → History → ℕ → Type 0) (left_dealt : PassMemory → Type 0) (ps : List SeatedPass) (c : Call) (P : History → Type 0) : Type 0 where
  pub planting : PlantingView
  pub known : List Row
  pub is : IsInCall left_dealt ps c planting known
  pub sound : IsRun allows c.layout (history_of planting known)
  pub so : P (history_of planting known)

-- Where a call of a machine is that began with the machine `first`, as the one pass of a seat knows
-- it, whose memory says what is dealt of the share that the machine had left
module _ {M : Type 0} (allows : Layout → History → ℕ → Type 0) (waits : M → Call → History → Step → Type 0) (same : M → M → Type 0) (left_dealt : M → PassMemory → Type 0) (c : Call) (ps : List SeatedPass) (first : M) where
  -- the machine waits for this step
  abbrev pub Waits : M → Step → Type 0
  Waits m step = HoldsForCall allows (left_dealt first) ps c (λ h. waits m c h step × Trace allows waits same c first m h)

  -- the machine may get v, which its step has found
  abbrev pub Told : (M → Call → History → Option ℕ → Type 0) → M → ℕ → Type 0
  Told ready m v = HoldsForCall allows (left_dealt first) ps c (λ h. ready m c h (Some v) × Trace allows waits same c first m h)

  -- the machine has answered a
  abbrev pub Ends : {A : Type 0} → (M → Call → History → A → Type 0) → M → A → Type 0
  Ends answers m a = HoldsForCall allows (left_dealt first) ps c (λ h. answers m c h a × Trace allows waits same c first m h)

  -- the machine waits for the step of this turn, or has answered as the turn says
  abbrev pub Stands : {A : Type 0} → (M → Call → History → A → Type 0) → M → Turn A → Type 0
  Stands answers m turn = MatchTurn turn (Waits m) (Ends answers m)

-- a call begins with this machine
abbrev pub CallBegins : {M : Type 0} → (Layout → History → ℕ → Type 0) → (M → Call → History → Option ℕ → Type 0) → (M → PassMemory → Type 0) → Call → List SeatedPass → M → Type 0
CallBegins allows ready left_dealt c ps first = HoldsForCall allows (left_dealt first) ps c (λ h. (c.start ≡ h) × ready first c h None)

-- how many of these rows are of the pass c
abbrev pub rows_of : ℕ → List Row → ℕ
rows_of c [] = 0
rows_of c (r ∷ rs) = if r.pass.0 == c then suc (rows_of c rs) else rows_of c rs

-- how many steps the pass of a seat has made
abbrev pub seat_steps : List SeatedPass → ℕ
seat_steps [] = 0
seat_steps (p ∷ ps) = rows_of p.number.0 p.known

-- how many nodes are taken at most: those that were planted, and the shares of all passes
abbrev pub shared_nodes : Layout → ℕ
shared_nodes lay = most_taken lay

-- how many turns a machine that has this many steps left may still take
abbrev pub weight : {A : Type 0} → Turn A → ℕ → ℕ
weight (Ask s) n = suc n
weight (Done a) n = 0

-- the layout of no table
pub no_layout : Layout
no_layout = record { mode = Records; passes = 0; nodes = 0; scx = 0; planted = 0; node_words = 162; words = 176; passes_fit = omega arith; nodes_fit = omega arith; scx_fit = omega arith; planted_fit = omega arith; counted = refl; many = omega arith; all_counted = refl }

-- the layout of the names of the one pass of a seat
abbrev pub layout_at : List SeatedPass → Layout
layout_at [] = no_layout
layout_at (p ∷ ps) = p.layout

-- what is planted in the table of the one pass of a seat
abbrev pub planting_of : List SeatedPass → PlantingView
planting_of [] = nothing_planted Records
planting_of (p ∷ ps) = p.planting

-- the run that the one pass of a seat knows
abbrev pub known_of : List SeatedPass → List Row
known_of [] = []
known_of (p ∷ ps) = p.known

-- the history of that run
abbrev pub run_at : List SeatedPass → History
run_at ps = history_of (planting_of ps) (known_of ps)

-- what it remembers, and the run that it knew as it rested last
abbrev pub memory_of : List SeatedPass → PassMemory
memory_of [] = no_memory
memory_of (p ∷ ps) = p.memory

-- what it is told of its table, and remembers
abbrev pub kept_of : List SeatedPass → PlantingView × PassMemory
kept_of ps = (planting_of ps, memory_of ps)

abbrev pub rest_at : List SeatedPass → History
rest_at ps = history_of (planting_of ps) (memory_of ps).rested

-- A seat has the pass of this number alone, which may be away, and has rested last at a moment of
-- the run that it knows.
pub record IsSeatedOrAway (n : ℕ) (lay : Layout) (ps : List SeatedPass) : Type 0 where
  pub alone : ps ≡ seated_pass n lay (planting_of ps) (memory_of ps) (known_of ps) ∷ []
  pub since : Extends (run_at ps) (rest_at ps)

-- A seat has the pass of this number alone, which is there, and has rested last at a moment of the
-- run that it knows.
pub record IsSeated (n : ℕ) (lay : Layout) (ps : List SeatedPass) : Type 0 where
  pub alone : ps ≡ seated_pass n lay (planting_of ps) (memory_of ps) (known_of ps) ∷ []
  pub since : Extends (run_at ps) (rest_at ps)
  pub there : (memory_of ps).away ≡ false

-- a seat's one pass knows these rows, in a table that is planted so
abbrev pub KnowsAs : List SeatedPass → PlantingView → List Row → Type 0
KnowsAs ps planting known = (planting_of ps ≡ planting) × (known_of ps ≡ known)

-- A pass has made a step of this kind, in its call of this number: the newest row that it knows is
-- that of the step, and between that and what it knew before are rows of others alone.
pub record IsStepBehind (old new : List Row) (pass number : ℕ) (kind : Kind) : Type 0 where
  pub others : List Row
  pub row : Row
  pub is : new ≡ row ∷ (others ++ old)
  pub by_others : ByOthers pass others
  pub of_pass : row.pass.0 ≡ pass
  pub of_call : row.call ≡ number
  pub of_kind : row.kind ≡ kind
