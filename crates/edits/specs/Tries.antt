-- The tries of a call, and what its pass has entered into the log since it began.
use Rattle.std.specs.Prelude.{◌≡◌, ◌≢◌, ℕ, ◌<◌, length}
use Rattle.histories.specs.Common.{Layout, Fill, Row, IsOwnScx, History, ◌⊳◌, Extends, IsWin, Call, plan, count, member, seen}
use Rattle.template.specs.Common.{snap_at, Update, IsNewestTry, MayTryNext}
use Rattle.template.specs.Tries.{IsInNewest}
use Rattle.template.specs.declared.walk.WalkAt.{WalkAt}
use Rattle.template.specs.declared.walk.WalkAt.TheVariants.{Root}

-- after the moment `start` no update of an SCX-record of the pass c has won, but perhaps of s
abbrev pub HasEnteredOnly : Layout → ℕ → ℕ → History → History → Type 0
HasEnteredOnly lay c s h start = (row : Row) (before : History) (t : ℕ) → Extends h (row ⊳ before) → Extends before start → IsWin before row t → IsOwnScx lay c t → t ≡ s

-- nor of any
abbrev pub HasEnteredNone : Layout → ℕ → History → History → Type 0
HasEnteredNone lay c h start = (row : Row) (before : History) (t : ℕ) → Extends h (row ⊳ before) → Extends before start → IsWin before row t → ¬ IsOwnScx lay c t

-- the pass c has filled no word since the moment `begin`: so it has taken nothing of its share
abbrev pub HasFilledNone : ℕ → History → History → Type 0
HasFilledNone c now begin = (row : Row) (before : History) → Extends now (row ⊳ before) → Extends before begin → row.pass.0 ≡ c → row.kind ≢ Fill

-- It has filled none in its newest try since the moment `start`.
pub record HasOnlyLooked (c : ℕ) (now start : History) : Type 0 where
  pub begin : History
  pub since : Extends begin start
  pub newest : IsNewestTry c now begin
  pub none : HasFilledNone c now begin

-- A try may begin, of a call that may try `limit` times in all, and `left` are left after it:
-- until the moment `begin` the pass has entered nothing, and by now it has lost all others.
pub record MayTry (c : Call) (begin now : History) (limit left : ℕ) : Type 0 where
  pub since : Extends begin c.start
  pub none : HasEnteredNone c.layout c.pass begin c.start
  pub next : MayTryNext c now limit left

-- it has begun at that moment, and is the newest
pub record IsTry (c : Call) (begin now : History) (limit left : ℕ) : Type 0 where
  pub since : Extends begin c.start
  pub none : HasEnteredNone c.layout c.pass begin c.start
  pub newest : IsInNewest c begin now limit left

-- which of the two it is while its walk waits: it begins with the load of the root's head
abbrev pub IsTryAt : Call → History → History → ℕ → ℕ → WalkAt → Type 0
IsTryAt c begin now limit left Root = MayTry c begin now limit left
IsTryAt c begin now limit left _ = IsTry c begin now limit left

-- the SCX-record has the plan of this update, covers the nodes of its snapshots, and no other, and
-- has seen of each what its snapshot found
pub record CoversSnaps (h : History) (s : ℕ) (u : Update) : Type 0 where
  pub planned : plan h s ≡ u.plan.0
  pub count : count h s ≡ length u.snaps
  pub members : (j : ℕ) → j < length u.snaps → member h s j ≡ (snap_at u.snaps j).node.0
  pub saw : (j : ℕ) → j < length u.snaps → seen h s j ≡ (snap_at u.snaps j).scx.0
