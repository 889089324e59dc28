-- Passes that rest: moments between two calls, and what a pass has done since one.
use Rattle.std.specs.Prelude.{◌≡◌, ◌<◌, ◌⊎◌, ℕ}
use Rattle.histories.specs.Common.{Layout, ScxWord, Settled, Head, Fill, Row, History, ◌⊳◌, Extends, node, scx, IsOwnScx, IsTakenNode, IsTakenScx}
use Rattle.prims.specs.Moments.{AreFinished}
use Rattle.touching.specs.Steps.{IsStepSince}

-- By the row a pass passes over a name of its own that nobody had taken as it rested: of a node by
-- a fill of its head, of an SCX-record by a row of any word. A row of a call may look so, too. An
-- SCX-record that is taken so has to be finished by its pass, or else the pass never rests again.
pub data PassesOver (lay : Layout) (rest : History) (r : Row) : Type 0 where
  past_node : (n : ℕ) → ¬ IsTakenNode rest n → r.kind ≡ Fill → r.word ≡ node n (Settled Head) → PassesOver lay rest r
  past_scx : (s : ℕ) (part : ScxWord) → IsOwnScx lay r.pass.0 s → ¬ IsTakenScx rest s → r.word ≡ scx s part → PassesOver lay rest r

-- what a pass may do from its rest on: the row is a step of a call that began since, or passes over
-- a name
abbrev pub IsRowSince : Layout → ℕ → History → History → Row → Type 0
IsRowSince lay o rest h r = IsStepSince lay o rest h r ⊎ PassesOver lay rest r

-- At the moment `rest` of h the pass o has rested, between two of its calls: all SCX-records that
-- it had taken were finished. Since then, up to h, it has made steps of calls that began since, and
-- has passed over names.
pub record HasRestedAt (lay : Layout) (h : History) (o : ℕ) (rest : History) : Type 0 where
  pub within : Extends h rest
  pub over : AreFinished lay o 0 rest
  pub rows : (r : Row) (g : History) → Extends h (r ⊳ g) → Extends g rest → r.pass.0 ≡ o → IsRowSince lay o rest g r

-- The pass is away from the moment `since` on up to h: it was between two of its calls then, and
-- has made no row.
pub record IsAway (lay : Layout) (h : History) (o : ℕ) (since : History) : Type 0 where
  pub within : Extends h since
  pub over : AreFinished lay o 0 since
  pub still : (r : Row) (g : History) → Extends h (r ⊳ g) → Extends g since → ¬ (r.pass.0 ≡ o)

-- each pass has rested at the moment that `rests` says of it
abbrev pub HaveRestedAt : Layout → History → (ℕ → History) → Type 0
HaveRestedAt lay h rests = (o : ℕ) → o < lay.passes → HasRestedAt lay h o (rests o)

-- for each pass the moment of `later` is that of `rests`, or behind it
abbrev pub AreLater : Layout → (ℕ → History) → (ℕ → History) → Type 0
AreLater lay later rests = (o : ℕ) → o < lay.passes → Extends (later o) (rests o)

-- for each pass it is the moment m, or behind it
abbrev pub AreSince : Layout → (ℕ → History) → History → Type 0
AreSince lay rests m = AreLater lay rests (λ o. m)

-- The moments have moved on from `last`, at which each pass has rested: for each pass `next` is a
-- moment of the history, the same one or one behind it. It need not be a rest.
pub record HaveMovedOn (lay : Layout) (h : History) (last next : ℕ → History) : Type 0 where
  pub rested : HaveRestedAt lay h last
  pub within : (o : ℕ) → o < lay.passes → Extends h (next o)
  pub later : AreLater lay next last
