-- Nodes that are blank: their fields are 0, and only the SCX-record
-- that is to put them into a field has named them.
use Rattle.std.specs.Prelude.{◌≡◌, ◌≢◌, ℕ}
use Rattle.histories.specs.Common.{Side, New, Member, scx, child, History, value, HasHeld, Extends, HasWon}

-- the node n is blank: its fields are 0, no field has ever held it, no SCX-record has covered it,
-- and none but s has ever had it as its `new`
pub record IsBlank (h : History) (s n : ℕ) : Type 0 where
  pub empty : (side : Side) → value h (child n side) ≡ 0
  pub in_no_field : (m : ℕ) (side : Side) → ¬ HasHeld h (child m side) n
  pub covered_by_none : (u j : ℕ) → ¬ HasHeld h (scx u (Member j)) n
  pub new_of_no_other : (u : ℕ) → u ≢ s → ¬ HasHeld h (scx u New) n

-- n was blank at each moment since `start` at which no update of s had won
pub record WasBlank (start h : History) (s n : ℕ) : Type 0 where
  pub since : Extends h start
  pub blank : (k : History) → Extends h k → Extends k start → ¬ HasWon k s → IsBlank k s n
