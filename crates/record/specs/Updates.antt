-- What an entry does.
use Rattle.std.specs.Prelude.{◌≡◌, ℕ, List}
use Rattle.histories.specs.Common.{Layout, Side, node, child, first_value, History, value, IsOwnNode, Entry as Entered, has}

-- the entry covers these cells, finalizes those of them in the second list, and
-- puts a fresh node of client c's into that field
pub record IsEntryOver (lay : Layout) (c : ℕ) (before : History) (e : Entered) (cells removed : List ℕ) (field : ℕ × Side) (x : ℕ) : Type 0 where
  pub members : e.members ≡ cells
  pub finalizes : (n : ℕ) → has e.removed n ≡ has removed n
  pub node_is : e.node ≡ field.0
  pub side_is : e.side ≡ field.1
  -- the node is of the client's share; just before the
  -- entry it has this value, and its fields are 0
  pub fresh : IsOwnNode lay c e.new
  pub value_is : value before (node e.new first_value) ≡ x
  pub empty_fields : (side : Side) → value before (child e.new side) ≡ 0
