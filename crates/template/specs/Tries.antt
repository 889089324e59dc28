-- Which tries a call on the tree begins: the next only once all before it are lost.
use Rattle.std.specs.Prelude.{◌≡◌, ℕ, suc, ◌+◌, ◌-◌, ◌≤◌, true}
use Rattle.histories.specs.Common.{Layout, Row, WasInTheWay, IsOthersScx, History, ◌⊳◌, Extends, Call}
use Rattle.prims.specs.FoundThere.{HasFoundThere}
use Rattle.ordered_map.specs.Tries.{begins_try, tries_begun, IsNewestTry}

-- how many tries the pass c has begun since the moment `start`
abbrev pub tries_since : ℕ → History → History → ℕ
tries_since c now start = tries_begun c now - tries_begun c start

-- The try that the pass c has begun at the moment `begin` is lost by now: since then an SCX-record
-- of another pass was in the way over some node, and c has itself found it in the node's info.
pub record WasLost (lay : Layout) (c : ℕ) (now begin : History) : Type 0 where
  pub node : ℕ
  pub scx : ℕ
  pub others : IsOthersScx lay c scx
  pub in_the_way : WasInTheWay now begin node scx
  pub found : HasFoundThere c now begin node scx

-- since the moment `start` the pass c has begun a try, at the moment `begin`
pub record HasBegunTry (c : ℕ) (now start begin : History) : Type 0 where
  pub first : Row
  pub begins : begins_try c first ≡ true
  pub within : Extends now (first ⊳ begin)
  pub since : Extends begin start

-- each try that the pass has begun since then is lost by now
abbrev pub HasLostAll : Layout → ℕ → History → History → Type 0
HasLostAll lay c now start = (begin : History) → HasBegunTry c now start begin → WasLost lay c now begin

-- whenever the pass has begun a try since then, it had lost each that it had begun before: so each
-- but the newest was lost by the start of the next
abbrev pub HasTriedAsNeeded : Layout → ℕ → History → History → Type 0
HasTriedAsNeeded lay c now start = (begin : History) → HasBegunTry c now start begin → HasLostAll lay c begin start

-- The pass has begun at most `limit` tries since the moment `start`, each only as needed.
pub record HasTriedAtMost (lay : Layout) (c : ℕ) (now start : History) (limit : ℕ) : Type 0 where
  pub few : tries_since c now start ≤ limit
  pub as_needed : HasTriedAsNeeded lay c now start

-- A call that may try `limit` times may begin the next try, after which `left` are left: it has
-- begun all others, each only as needed, and has lost them all.
pub record MayTryNext (c : Call) (now : History) (limit left : ℕ) : Type 0 where
  pub all : tries_begun c.pass now + suc left ≡ tries_begun c.pass c.start + limit
  pub as_needed : HasTriedAsNeeded c.layout c.pass now c.start
  pub lost : HasLostAll c.layout c.pass now c.start

-- it is in the try that it has so begun at the moment `begin`, which is its newest
pub record IsInNewest (c : Call) (begin now : History) (limit left : ℕ) : Type 0 where
  pub next : MayTryNext c begin limit left
  pub newest : IsNewestTry c.pass now begin

-- of the tries that it may begin it has begun all but `left`, each only as needed
pub record HasTriedAllBut (c : Call) (now : History) (limit left : ℕ) : Type 0 where
  pub all : tries_begun c.pass now + left ≡ tries_begun c.pass c.start + limit
  pub as_needed : HasTriedAsNeeded c.layout c.pass now c.start
