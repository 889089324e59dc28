-- The tries of calls of the map. Each begins with a load of the root's head, which such a call
-- makes nowhere else: so a history shows how many tries a pass has
-- begun, and where the newest began.
use Rattle.std.specs.Prelude.{◌≡◌, ℕ, suc, ◌+◌, Bool, true, false, if◌then◌else◌, ◌&&◌, ◌==◌}
use Rattle.histories.specs.Common.{Row, Kind, LoadSettled, Settled, Head, WasInTheWay, History, Opened, ◌⊳◌, Extends, node, same_word}

-- whether a step of this kind loads a settled word
abbrev pub is_settled_load : Kind → Bool
is_settled_load LoadSettled = true
is_settled_load _ = false

-- whether the row begins a try of the pass c: it loads the root's head
abbrev pub begins_try : ℕ → Row → Bool
begins_try c r = r.pass.0 == c && (is_settled_load r.kind && same_word r.word (node 0 (Settled Head)))

-- how many tries the pass c has begun
unfoldable pub tries_begun : ℕ → History → ℕ
tries_begun c (Opened o) = 0
tries_begun c (r ⊳ h) = if begins_try c r then suc (tries_begun c h) else tries_begun c h

-- the newest try of the pass c began right after the moment `begin`
pub record IsNewestTry (c : ℕ) (now begin : History) : Type 0 where
  pub first : Row
  pub begins : begins_try c first ≡ true
  pub within : Extends now (first ⊳ begin)
  pub none_since : tries_begun c now ≡ tries_begun c (first ⊳ begin)

-- Since the moment `start` the pass c has begun `tries` tries, and lost the newest of them: in that
-- one the SCX-record s was in the way over the node n.
pub record HasLostTries (c : ℕ) (now start : History) (tries n s : ℕ) : Type 0 where
  pub begin : History
  pub since : Extends begin start
  pub newest : IsNewestTry c now begin
  pub all : tries_begun c now ≡ tries_begun c start + tries
  pub in_the_way : WasInTheWay now begin n s
