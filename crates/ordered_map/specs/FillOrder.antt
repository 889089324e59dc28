-- Which nodes fields have named, how the levels of such forks rise, and in which order machines
-- fill the words of nodes so that they do: the table of kinds leaves that open.
use Rattle.std.specs.Prelude.{◌≡◌, ℕ, ◌/◌, ◌%◌, ◌<◌, true, false, ◌⊎◌, ◌==◌, IsTrue}
use Rattle.histories.specs.Common.{Side, Settled, Head, Fill, Row, node, child, History, Opened, ◌⊳◌, value, HasHeld}
use Rattle.ordered_map.specs.TreeWords.{is_leaf, level}
use Rattle.ordered_map.specs.Paths.{WasInTree}

-- the node is there from the start, or a field has named it at some moment
abbrev pub HasStoodInField : History → ℕ → Type 0
HasStoodInField h n = (n < 3) ⊎ ((m : ℕ) × (from : Side) × HasHeld h (child m from) n)

-- each fork that a field has ever named, in the tree or removed, has a level below its children's
abbrev pub HasRisingLevels : History → Type 0
HasRisingLevels h = (n : ℕ) (side : Side) → HasStoodInField h n → is_leaf (value h) n ≡ false → level (value h) n < level (value h) (value h (child n side))

-- a node whose head is filled gets the head of a leaf, or no field has named it; what is put into a
-- field has been in the tree, or is a leaf by its head
pub record IsFillInOrder (h : History) (r : Row) : Type 0 where
  pub head : (n : ℕ) → r.kind ≡ Fill → r.word ≡ node n (Settled Head) → IsTrue (r.after / 4 % 2 == 1) ⊎ (¬ HasStoodInField h n)
  pub field : (n : ℕ) (side : Side) → r.kind ≡ Fill → r.word ≡ child n side → WasInTree h r.after ⊎ (is_leaf (value h) r.after ≡ true)

-- each fill of the history is in order
abbrev pub AreFilledInOrder : History → Type 0
AreFilledInOrder (Opened o) = Unit {0}
AreFilledInOrder (r ⊳ h) = AreFilledInOrder h × IsFillInOrder h r
