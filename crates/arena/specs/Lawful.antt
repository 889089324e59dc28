-- Which rows are lawful after a history: one condition for each of the 13 kinds of step.
use Rattle.std.specs.Prelude.{◌≡◌, ◌≢◌, ℕ, ◌<◌, ◌≤◌, true, ◌⊎◌}
use Rattle.arena.specs.declared.word.Side.{Side}
use Rattle.arena.specs.declared.word.NodeWord.TheVariants.{Settled, Child, Info, Marked}
use Rattle.arena.specs.declared.word.ScxWord.TheVariants.{State, AllFrozen, New}
use Rattle.arena.specs.declared.word.Word.{Word}
use Rattle.arena.specs.declared.word.Word.TheVariants.{Node, Scx}
use Rattle.arena.specs.declared.layout.Layout.{Layout}
use Rattle.arena.specs.declared.step.Row.{Row}
use Rattle.arena.specs.declared.step.Kind.{Kind}
use Rattle.arena.specs.declared.step.Kind.TheVariants.{Fill, LoadSettled, LoadInfo, LoadState, LoadMarked, LoadAllFrozen, LoadChild, Freeze, SetFrozen, Mark, Update, Commit, Abort}
use Rattle.arena.specs.Layout.{all_nodes, IsWord}
use Rattle.arena.specs.Words.{scx, info, marked, child, state}
use Rattle.arena.specs.History.{History, Opened, ◌⊳◌, value, HasHeld}
use Rattle.arena.specs.ScxRecords.{IsPlan, plan, member, seen, new, old, count, scx_finalizes, field_index, field}
use Rattle.arena.specs.Fills.{IsOwnNode, IsOwnScx, MayFill}

-- Loads: the words of each kind

-- a settled word: `head`, `key` or `value` of a node, `plan` to `call` of an SCX-record
abbrev pub IsSettled : Word → Type 0
IsSettled (Node n (Settled p)) = Unit {0}
IsSettled (Node n _) = ⊥
IsSettled (Scx s State) = ⊥
IsSettled (Scx s AllFrozen) = ⊥
IsSettled (Scx s _) = Unit {0}

-- the info of some node
abbrev pub IsInfo : Word → Type 0
IsInfo (Node n Info) = Unit {0}
IsInfo _ = ⊥

-- the state of some SCX-record
abbrev pub IsState : Word → Type 0
IsState (Scx s State) = Unit {0}
IsState _ = ⊥

-- the mark of some node
abbrev pub IsMarked : Word → Type 0
IsMarked (Node n Marked) = Unit {0}
IsMarked _ = ⊥

-- the word `allfrozen` of some SCX-record
abbrev pub IsAllFrozen : Word → Type 0
IsAllFrozen (Scx s AllFrozen) = Unit {0}
IsAllFrozen _ = ⊥

-- a field of some node
abbrev pub IsField : Word → Type 0
IsField (Node n (Child side)) = Unit {0}
IsField _ = ⊥

-- the row loads a word of this sort, and leaves it as it was
pub record IsLoad (IsSuch : Word → Type 0) (r : Row) : Type 0 where
  pub word : IsSuch r.word
  pub same : r.after ≡ r.before

-- The steps of an SCX

-- the row is an exchange: it stores `stored` where the word
-- held `expected`, and elsewhere changes nothing
pub record IsExchange (r : Row) (expected stored : ℕ) : Type 0 where
  pub won : r.before ≡ expected → r.after ≡ stored
  pub lost : r.before ≢ expected → r.after ≡ r.before

-- the j-th node of s was ever frozen for s: its info names s, or has named it at some moment before
abbrev pub IsFrozen : History → ℕ → ℕ → Type 0
IsFrozen h s j = HasHeld h (info (member h s j)) s

-- each node of s before the j-th was ever frozen for s
abbrev pub AreFrozen : History → ℕ → ℕ → Type 0
AreFrozen h s j = (i : ℕ) → i < j → IsFrozen h s i

-- each node that s covers was ever frozen for s
abbrev pub AllAreFrozen : History → ℕ → Type 0
AllAreFrozen h s = AreFrozen h s (count h s)

-- what the first freeze that wins for s asks of the history before it, where pass c makes it
pub record MayBegin (lay : Layout) (h : History) (c s : ℕ) : Type 0 where
  -- none but the owner begins an SCX-record
  pub own : IsOwnScx lay c s
  pub planned : IsPlan (plan h s)
  pub inside : (j : ℕ) → j < count h s → member h s j < all_nodes lay
  pub distinct : (j k : ℕ) → j < count h s → k < count h s → j ≢ k → member h s j ≢ member h s k
  -- the SCX-records in its `i` words are finished
  pub at_rest : (j : ℕ) → j < count h s → value h (state (seen h s j)) ≢ 0
  -- a node whose info still is what the snapshot found there has no mark
  pub unmarked : (j : ℕ) → j < count h s → value h (info (member h s j)) ≡ seen h s j → value h (marked (member h s j)) ≡ 0
  -- the field still holds `old` where its node's info still is what the snapshot found there
  pub shows : value h (info (member h s (field_index h s))) ≡ seen h s (field_index h s) → value h (field h s) ≡ old h s
  -- `new` is a node of the owner's share that no field
  -- and no other SCX-record's `new` has ever held
  pub new_own : IsOwnNode lay c (new h s)
  pub new_in_no_field : (n : ℕ) (side : Side) → ¬ HasHeld h (child n side) (new h s)
  pub new_in_no_other : (u : ℕ) → u ≢ s → ¬ HasHeld h (scx u New) (new h s)

-- the row is a try to freeze the j-th node of s: an exchange of its info from the `i` word to s
pub record IsFreeze (lay : Layout) (h : History) (r : Row) (s j : ℕ) : Type 0 where
  pub within : j < count h s
  pub word : r.word ≡ info (member h s j)
  pub earlier : AreFrozen h s j
  pub exchange : IsExchange r (seen h s j) s
  -- where it wins, s is in progress; where it wins at the first node, s may begin
  pub may_win : r.before ≡ seen h s j → (value h (state s) ≡ 0) × (j ≡ 0 → MayBegin lay h r.pass.0 s)

-- the row sets the word `allfrozen` of s, for which each of its nodes was frozen
pub record IsSetFrozen (h : History) (r : Row) (s : ℕ) : Type 0 where
  pub word : r.word ≡ scx s AllFrozen
  pub stored : r.after ≡ 1
  pub some : 0 < count h s
  pub frozen : AllAreFrozen h s

-- the row marks the j-th node of s, which s finalizes; `allfrozen` of s is set
pub record IsMark (h : History) (r : Row) (s j : ℕ) : Type 0 where
  pub within : j < count h s
  pub removed : scx_finalizes h s j ≡ true
  pub word : r.word ≡ marked (member h s j)
  pub stored : r.after ≡ 1
  pub all_frozen : value h (scx s AllFrozen) ≡ 1

-- each node that s finalizes is marked
abbrev pub AllAreMarked : History → ℕ → Type 0
AllAreMarked h s = (j : ℕ) → j < count h s → scx_finalizes h s j ≡ true → value h (marked (member h s j)) ≡ 1

-- the row is a try of the update of s, an exchange of its field from `old` to `new`; `allfrozen` of
-- s is set and all that s finalizes is marked
pub record IsUpdate (h : History) (r : Row) (s : ℕ) : Type 0 where
  pub word : r.word ≡ field h s
  pub all_frozen : value h (scx s AllFrozen) ≡ 1
  pub all_marked : AllAreMarked h s
  pub exchange : IsExchange r (old h s) (new h s)

-- the row is an update of s that wins: it finds `old` and changes the field
pub record IsWin (h : History) (r : Row) (s : ℕ) : Type 0 where
  pub kind : r.kind ≡ Update
  pub update : IsUpdate h r s
  pub found : r.before ≡ old h s
  pub changed : r.before ≢ r.after

-- some row of the history is an update of s that won
unfoldable pub HasWon : History → ℕ → Type 0
HasWon (Opened o) s = ⊥
HasWon (r ⊳ h) s = IsWin h r s ⊎ HasWon h s

-- the row commits s, one of whose update exchanges has won
pub record IsCommit (h : History) (r : Row) (s : ℕ) : Type 0 where
  pub word : r.word ≡ state s
  pub stored : r.after ≡ 1
  pub won : HasWon h s

-- the row aborts s: its j-th node is the first that was never frozen for s, and the info of that
-- node is not what the snapshot found there
pub record IsAbort (lay : Layout) (h : History) (r : Row) (s j : ℕ) : Type 0 where
  pub word : r.word ≡ state s
  pub stored : r.after ≡ 2
  pub unset : value h (scx s AllFrozen) ≡ 0
  -- the pass owns s, or the first node of s was ever frozen for s
  pub by : IsOwnScx lay r.pass.0 s ⊎ IsFrozen h s 0
  pub within : j < count h s
  pub earlier : AreFrozen h s j
  pub never : ¬ IsFrozen h s j
  pub passed : value h (info (member h s j)) ≢ seen h s j

-- The table

-- what the table of kinds asks of a row of this kind after the history
abbrev pub Obeys : Layout → History → Row → Kind → Type 0
Obeys lay h r Fill = MayFill lay h r.pass.0 r.word r.after
Obeys lay h r LoadSettled = IsLoad IsSettled r
Obeys lay h r LoadInfo = IsLoad IsInfo r
Obeys lay h r LoadState = IsLoad IsState r
Obeys lay h r LoadMarked = IsLoad IsMarked r
Obeys lay h r LoadAllFrozen = IsLoad IsAllFrozen r
Obeys lay h r LoadChild = IsLoad IsField r
Obeys lay h r Freeze = (s j : ℕ) × IsFreeze lay h r s j
Obeys lay h r SetFrozen = (s : ℕ) × IsSetFrozen h r s
Obeys lay h r Mark = (s j : ℕ) × IsMark h r s j
Obeys lay h r Update = (s : ℕ) × IsUpdate h r s
Obeys lay h r Commit = (s : ℕ) × IsCommit h r s
Obeys lay h r Abort = (s j : ℕ) × IsAbort lay h r s j

-- a row is lawful after h: it found what its word holds, its kind allows it,
-- and it is of a pass and of a word of the table
pub record IsLawful (lay : Layout) (h : History) (r : Row) : Type 0 where
  pub before : r.before ≡ value h r.word
  pub obeys : Obeys lay h r r.kind
  pub pass : r.pass.0 < lay.passes
  pub word : IsWord lay r.word

-- each row of the history is lawful after those before it, over
-- an opening of the layout's mode, for which there is room
unfoldable pub Lawful : Layout → History → Type 0
Lawful lay (Opened o) = (o.mode ≡ lay.mode) × (o.planted ≤ lay.planted)
Lawful lay (r ⊳ h) = Lawful lay h × IsLawful lay h r
