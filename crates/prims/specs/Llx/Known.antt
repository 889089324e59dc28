-- When a run of LLX may continue, what it waits for, and what its answer says.
use Rattle.std.specs.Prelude.{◌≡◌, ◌≢◌, ℕ, ◌<◌, Bool, true, false, ◌⊎◌, Option, Some, None}
use Rattle.histories.specs.Common.{Layout, Left, Right, Word, Row, Step, Load, Kind, LoadInfo, LoadState, LoadMarked, LoadChild, all_nodes, info, marked, child, state, History}
use Rattle.histories.specs.Common.{◌⊳◌, value, HasHeld, Extends, IsInProgress, WasInTheWay, HasFailed, HasFound, IsInField, log, fields, is_final, Call, IsRun, MatchTurn, Turn, Ask, Done, ScxNo}
use Rattle.help.specs.declared.state.HelpRun.{HelpRun}
use Rattle.histories.specs.Finalizing.{IsFinalizing}
use Rattle.help.specs.Help.Known.{HelpIsReady, HelpWaits}
use Rattle.prims.specs.FoundThere.{HasFoundThere}
use Rattle.prims.specs.Laws.Idle.{IsQuietSince}
use Rattle.prims.specs.Laws.InTheWay.{HasBeen, IsBehind, IsDisturbed}
use Rattle.prims.specs.Laws.Linked.{IsLinked}
use Rattle.prims.specs.declared.snap.Snap.{Snap}
use Rattle.prims.specs.declared.llx.Llx.{Llx}
use Rattle.prims.specs.declared.llx.Llx.TheVariants.{Snapshot, Finalized, Fail}
use Rattle.prims.specs.declared.llx.LlxRun.{LlxRun}
use Rattle.prims.specs.declared.llx.LlxAt.{LlxAt}
use Rattle.prims.specs.declared.llx.LlxAt.TheVariants.{Start, Marked, Info, State, MarkedAgain, Left as AtLeft, Right as AtRight, InfoAgain, StateAgain, Help, LastInfo, LastState, LastHelp}

-- the node's info has named s in the call, which has itself found it there
pub record HasMet (c : Call) (h : History) (n : ℕ) (was_marked : Bool) (s : ℕ) : Type 0 where
  pub held : HasHeld h (info n) s
  pub named : HasBeen h c.start (λ m. value m (info n) ≡ s)
  pub found : HasFoundThere c.pass h c.start n s
  -- where the first look had found the mark, s finalizes
  -- the node; else the node was unmarked in the call
  pub finalizes : was_marked ≡ true → IsFinalizing h n s
  pub unmarked : was_marked ≡ false → HasBeen h c.start (λ m. value m (marked n) ≡ 0)

-- the run has met s and does not read on, since something has disturbed it
pub record HasStopped (c : Call) (h : History) (n : ℕ) (was_marked : Bool) (s : ℕ) : Type 0 where
  pub met : HasMet c h n was_marked s
  pub disturbed : IsDisturbed h c.start n s

-- the run helps s, which was in progress in the call
pub record Helps (c : Call) (h : History) (n : ℕ) (was_marked : Bool) (s : ℕ) : Type 0 where
  pub stopped : HasStopped c h n was_marked s
  pub running : HasBeen h c.start (λ m. IsInProgress m s)

-- s, which the call's last look at the node's info has found, was in the way of
-- the call, at whose begin the node was not final
pub record IsToBlame (c : Call) (h : History) (n s : ℕ) : Type 0 where
  pub held : HasHeld h (info n) s
  pub found : HasFound c.pass h c.start LoadInfo n s
  pub in_the_way : WasInTheWay h c.start n s
  pub not_final : is_final (log c.layout c.start) n ≡ false

-- s is finished, and as long as the info of n names it the node is not marked
pub record IsFinishedUnmarked (h : History) (n s : ℕ) : Type 0 where
  pub rest : value h (state s) ≢ 0
  pub unmarked : value h (info n) ≡ s → value h (marked n) ≡ 0

-- what holds while a run of LLX of n waits at this place
abbrev pub LlxKnows : Call → History → ℕ → LlxAt → Type 0
LlxKnows c h n (Info b) = (b ≡ true → value h (marked n) ≡ 1) × (b ≡ false → HasBeen h c.start (λ m. value m (marked n) ≡ 0))
LlxKnows c h n (State b s) = HasMet c h n b s.0
LlxKnows c h n (MarkedAgain b s v) = HasMet c h n b s.0 × (v ≢ 0 → value h (state s.0) ≡ v) × (v ≡ 0 → WasInTheWay h c.start n s.0)
LlxKnows c h n (AtLeft b s) = HasMet c h n b s.0 × IsFinishedUnmarked h n s.0
LlxKnows c h n (AtRight b s l) = HasMet c h n b s.0 × IsFinishedUnmarked h n s.0 × (value h (info n) ≡ s.0 → value h (child n Left) ≡ l)
LlxKnows c h n (InfoAgain b s l r) = HasMet c h n b s.0 × IsFinishedUnmarked h n s.0 × (value h (info n) ≡ s.0 → value h (child n Left) ≡ l) × (value h (info n) ≡ s.0 → value h (child n Right) ≡ r)
LlxKnows c h n (StateAgain b s) = HasStopped c h n b s.0
LlxKnows c h n (Help b m) = Helps c h n b m.scx.0
LlxKnows c h n LastInfo = (s : ℕ) × HasStopped c h n false s
LlxKnows c h n (LastState s) = IsToBlame c h n s.0
LlxKnows c h n (LastHelp s m) = IsToBlame c h n s.0 × (m.scx ≡ s)
LlxKnows c h n _ = Unit {0}

-- the load of a word
abbrev pub load : Kind → Word → Step
load kind word = record { kind = kind; word = word; access = Load }

-- the step that a run of LLX of n waits for at this place
abbrev pub LlxHasAsked : (Layout → History → ℕ → Type 0) → Call → History → ℕ → LlxAt → Step → Type 0
LlxHasAsked allows c h n Start step = ⊥
LlxHasAsked allows c h n Marked step = step ≡ load LoadMarked (marked n)
LlxHasAsked allows c h n (Info b) step = step ≡ load LoadInfo (info n)
LlxHasAsked allows c h n (State b s) step = step ≡ load LoadState (state s.0)
LlxHasAsked allows c h n (MarkedAgain b s v) step = step ≡ load LoadMarked (marked n)
LlxHasAsked allows c h n (AtLeft b s) step = step ≡ load LoadChild (child n Left)
LlxHasAsked allows c h n (AtRight b s l) step = step ≡ load LoadChild (child n Right)
LlxHasAsked allows c h n (InfoAgain b s l r) step = step ≡ load LoadInfo (info n)
LlxHasAsked allows c h n (StateAgain b s) step = step ≡ load LoadState (state s.0)
LlxHasAsked allows c h n (Help b m) step = HelpWaits allows c.layout c.pass m h step
LlxHasAsked allows c h n LastInfo step = step ≡ load LoadInfo (info n)
LlxHasAsked allows c h n (LastState s) step = step ≡ load LoadState (state s.0)
LlxHasAsked allows c h n (LastHelp s m) step = HelpWaits allows c.layout c.pass m h step

-- the newest row of h is the pass c's own, was added since the moment `start`, and loads the info
-- of node n
pub record HasJustLooked (c : ℕ) (h start : History) (n : ℕ) : Type 0 where
  pub row : Row
  pub before : History
  pub is : h ≡ row ⊳ before
  pub since : Extends before start
  pub own : row.pass.0 ≡ c
  pub kind : row.kind ≡ LoadInfo
  pub word : row.word ≡ info n

-- what holds once the step of this place has found v: v is what its word holds
abbrev pub LlxIsTold : (Layout → History → ℕ → Type 0) → Call → History → ℕ → LlxAt → ℕ → Type 0
LlxIsTold allows c h n Start v = ⊥
LlxIsTold allows c h n Marked v = value h (marked n) ≡ v
LlxIsTold allows c h n (Info b) v = (value h (info n) ≡ v) × HasFoundThere c.pass h c.start n v
LlxIsTold allows c h n (State b s) v = value h (state s.0) ≡ v
LlxIsTold allows c h n (MarkedAgain b s x) v = value h (marked n) ≡ v
LlxIsTold allows c h n (AtLeft b s) v = value h (child n Left) ≡ v
LlxIsTold allows c h n (AtRight b s l) v = value h (child n Right) ≡ v
LlxIsTold allows c h n (InfoAgain b s l r) v = (value h (info n) ≡ v) × HasJustLooked c.pass h c.start n
LlxIsTold allows c h n (StateAgain b s) v = value h (state s.0) ≡ v
LlxIsTold allows c h n (Help b m) v = HelpIsReady allows c.layout c.pass m h (Some v)
LlxIsTold allows c h n LastInfo v = (value h (info n) ≡ v) × HasFound c.pass h c.start LoadInfo n v
LlxIsTold allows c h n (LastState s) v = value h (state s.0) ≡ v
LlxIsTold allows c h n (LastHelp s m) v = HelpIsReady allows c.layout c.pass m h (Some v)

-- the caller may look at the node: it is of the table, and
-- was there from the start or a field has held it
pub record IsOpened (lay : Layout) (h : History) (n : ℕ) : Type 0 where
  pub in_field : IsInField lay h n
  pub inside : n < all_nodes lay

-- a run of LLX waits for this step, at a moment of its call; since the call's start none of the
-- pass's own SCX-records was in progress
pub record LlxWaits (allows : Layout → History → ℕ → Type 0) (m : LlxRun) (c : Call) (h : History) (step : Step) : Type 0 where
  pub opened : IsOpened c.layout h m.node.0
  pub since : Extends h c.start
  pub quiet : IsQuietSince c.layout c.pass c.start h
  pub known : LlxKnows c h m.node.0 m.at
  pub asked : LlxHasAsked allows c h m.node.0 m.at step

-- what the run has got: nothing at its start, then v by a row of its own
abbrev pub LlxGot : (Layout → History → ℕ → Type 0) → Call → History → ℕ → LlxAt → Option ℕ → Type 0
LlxGot allows c h n at None = at ≡ Start
LlxGot allows c h n at (Some v) = LlxIsTold allows c h n at v × IsBehind h c.start

-- a run of LLX may be called with this: with nothing at its start, then with what its step found
pub record LlxIsReady (allows : Layout → History → ℕ → Type 0) (m : LlxRun) (c : Call) (h : History) (got : Option ℕ) : Type 0 where
  pub opened : IsOpened c.layout h m.node.0
  pub since : Extends h c.start
  pub quiet : IsQuietSince c.layout c.pass c.start h
  pub known : LlxKnows c h m.node.0 m.at
  pub told : LlxGot allows c h m.node.0 m.at got

-- the snapshot is right: it gives the info and the fields that its
-- node has now in the log, where it is not final
pub record IsSnapshot (lay : Layout) (h : History) (n : ℕ) (snap : Snap) : Type 0 where
  pub node : snap.node.0 ≡ n
  pub linked : IsLinked lay h snap
  pub info : value h (info n) ≡ snap.scx.0
  pub left : snap.left.0 ≡ fields lay h n Left
  pub right : snap.right.0 ≡ fields lay h n Right
  pub not_final : is_final (log lay h) n ≡ false

-- the node is final, and s is committed and finalizes it
pub record IsFinalBy (lay : Layout) (h : History) (n s : ℕ) : Type 0 where
  pub final : is_final (log lay h) n ≡ true
  pub by : IsFinalizing h n s
  pub committed : value h (state s) ≡ 1

-- What an answer of LLX says: the node's snapshot now, that it is finalized, or who was in the way.
-- The call has itself found the SCX-record that it names in the node's info.
abbrev pub LlxAnswers : LlxRun → Call → History → Llx → Type 0
LlxAnswers m c h (Snapshot snap) = IsSnapshot c.layout h m.node.0 snap × HasJustLooked c.pass h c.start m.node.0 × HasFoundThere c.pass h c.start m.node.0 snap.scx.0
LlxAnswers m c h (Finalized node s) = (node.0 ≡ m.node.0) × IsFinalBy c.layout h m.node.0 s.0 × HasFoundThere c.pass h c.start m.node.0 s.0
LlxAnswers m c h (Fail node s) = (node.0 ≡ m.node.0) × HasFailed c.layout c.pass h c.start m.node.0 s.0

-- What its turns leave

-- the run goes to this place, keeps all else, and asks for this step
pub record LlxAsks (old now : LlxRun) (turn : Turn Llx) (at : LlxAt) (step : Step) : Type 0 where
  pub stands : now ≡ record old { at = at }
  pub asked : turn ≡ Ask step

-- the run asks for the left field: the SCX-record that it met is
-- aborted, or it is committed and the node has no mark
pub record ReadsLeft (old now : LlxRun) (turn : Turn Llx) (b : Bool) (s : ScxNo) (v : ℕ) (again : Bool) : Type 0 where
  pub in_place : (v ≡ 2) ⊎ ((v ≡ 1) × (again ≡ false))
  pub asks : LlxAsks old now turn (AtLeft b s) (load LoadChild (child old.node.0 Left))

-- the run asks for the state of s once more
abbrev pub LooksAgain : LlxRun → LlxRun → Turn Llx → Bool → ScxNo → Type 0
LooksAgain old now turn b s = LlxAsks old now turn (StateAgain b s) (load LoadState (state s.0))

-- the run looks at the state of s once more, which was
-- in progress, or committed with the node marked
pub record Declines (old now : LlxRun) (turn : Turn Llx) (b : Bool) (s : ScxNo) (v : ℕ) (again : Bool) : Type 0 where
  pub not_aborted : v ≢ 2
  pub marked : v ≡ 1 → again ≡ true
  pub asks : LooksAgain old now turn b s

-- the run looks at the state of s once more, since the info names another
pub record Differs (old now : LlxRun) (turn : Turn Llx) (b : Bool) (s : ScxNo) (v : ℕ) : Type 0 where
  pub other : v ≢ s.0
  pub asks : LooksAgain old now turn b s

-- the run ends with this snapshot: the info still is what it was
pub record Snaps (now old : LlxRun) (turn : Turn Llx) (snap : Snap) (v : ℕ) : Type 0 where
  pub same : v ≡ snap.scx.0
  pub run : now ≡ old
  pub done : turn ≡ Done (Snapshot snap)

-- the run ends with a finalized node
pub record Finalizes (now old : LlxRun) (turn : Turn Llx) (b : Bool) (s : ScxNo) : Type 0 where
  pub final : b ≡ true
  pub run : now ≡ old
  pub done : turn ≡ Done (Finalized old.node s)

-- the node is not finalized, and the run asks for the info once more
pub record LooksLast (old now : LlxRun) (turn : Turn Llx) (b : Bool) : Type 0 where
  pub not_final : b ≡ false
  pub asks : LlxAsks old now turn LastInfo (load LoadInfo (info old.node.0))

-- a turn of LLX is right: the run waits for the step that it asks, or the answer holds
abbrev pub LlxTurn : (Layout → History → ℕ → Type 0) → Call → History → LlxRun → Turn Llx → Type 0
LlxTurn allows c h m turn = MatchTurn turn (LlxWaits allows m c h) (LlxAnswers m c h)

-- a run of HELP inside a run of LLX of n may be called with this
pub record LlxHelps (allows : Layout → History → ℕ → Type 0) (c : Call) (h : History) (n : ℕ) (help : HelpRun) (got : Option ℕ) : Type 0 where
  pub run : IsRun allows c.layout h
  pub opened : IsOpened c.layout h n
  pub since : Extends h c.start
  pub quiet : IsQuietSince c.layout c.pass c.start h
  pub ready : HelpIsReady allows c.layout c.pass help h got

-- a run of LLX of n, disturbed at s, has found its state to be v
pub record Meets (allows : Layout → History → ℕ → Type 0) (c : Call) (h : History) (n : ℕ) (b : Bool) (s v : ℕ) : Type 0 where
  pub run : IsRun allows c.layout h
  pub opened : IsOpened c.layout h n
  pub since : Extends h c.start
  pub quiet : IsQuietSince c.layout c.pass c.start h
  pub stopped : HasStopped c h n b s
  pub state : value h (state s) ≡ v
