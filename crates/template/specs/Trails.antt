-- Which nodes a call has passed on its way down the tree.
use Rattle.std.specs.Prelude.{◌≡◌, ◌≢◌, ℕ, true, false}
use Rattle.histories.specs.Common.{Row, Side, child, History, ◌⊳◌, value, Extends, Call}
use Rattle.ordered_map.specs.Paths.{Passed}
use Rattle.ordered_map.specs.Strays.{HasWalked}
use Rattle.ordered_map.specs.TrieShape.{Stays}
use Rattle.ordered_map.specs.TreeWords.{class, is_leaf, toward}
use Rattle.template.specs.declared.walk.Trail.{Trail}

-- the newest row of h is the call's own
pub record IsOwnMoment (c : Call) (h : History) : Type 0 where
  pub row : Row
  pub before : History
  pub is : h ≡ row ⊳ before
  pub since : Extends before c.start
  pub own : row.pass.0 ≡ c.pass

-- the call has walked to the node n on its way to k, since a moment that is not before its first
-- own row
pub record WasPassed (c : Call) (h : History) (k n : ℕ) : Type 0 where
  pub first : History
  pub own : IsOwnMoment c first
  pub passed : HasWalked c.layout h first k n

-- it has surely come to n on its way to k: n was on the path of k at a moment since then
pub record WasOn (c : Call) (h : History) (k n : ℕ) : Type 0 where
  pub first : History
  pub own : IsOwnMoment c first
  pub passed : Passed h first k n

-- and stays on it
pub record IsSurelyOn (c : Call) (h : History) (k n : ℕ) : Type 0 where
  pub on : WasOn c h k n
  pub stays : Stays c.layout (value h) k n

-- at an own moment of the call, by which it had passed n on its way to k, the field of n on this
-- side held the node `next`
pub record HasShown (c : Call) (h : History) (k n : ℕ) (side : Side) (next : ℕ) : Type 0 where
  pub moment : History
  pub within : Extends h moment
  pub own : IsOwnMoment c moment
  pub passed : WasPassed c moment k n
  pub held : value moment (child n side) ≡ next

-- the call has passed this fork, with k on this side of it, and there it has found `next`
pub record HasTurned (c : Call) (h : History) (k n : ℕ) (side : Side) (next : ℕ) : Type 0 where
  pub passed : WasPassed c h k n
  pub fork : is_leaf (value h) n ≡ false
  pub side_is : toward (value h) n k ≡ side
  pub shown : HasShown c h k n side next

-- The call has passed the nodes of the trail on its way to k, each in a field of the one above it.
-- The root, which is node 0, has no fork above it, and a child of the root has one.
pub record OnTrail (c : Call) (h : History) (k : ℕ) (t : Trail) : Type 0 where
  pub node : WasPassed c h k t.node.0
  pub parent : t.node.0 ≢ 0 → HasTurned c h k t.parent.0 t.side t.node.0
  pub grand : t.node.0 ≢ 0 → t.parent.0 ≢ 0 → HasTurned c h k t.grand.0 t.grand_side t.parent.0
  -- a leaf below the root is above all keys
  pub high : t.node.0 ≢ 0 → t.parent.0 ≡ 0 → is_leaf (value h) t.node.0 ≡ true → class (value h) t.node.0 ≡ 0 → ⊥
