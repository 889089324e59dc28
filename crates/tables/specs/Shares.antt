-- A pass between two calls, and its entries in the log.
use Rattle.std.specs.Prelude.{◌≡◌, ◌≤◌, ℕ, if◌then◌else◌, ◌==◌, List, [], ◌∷◌}
use Rattle.histories.specs.Common.{Layout, Remaining, History, Entry}
use Rattle.template.specs.Common.{AreFinished, IsShare}
use Rattle.prims.specs.Shares.{IsUpperEnd, share_end}
use Rattle.tables.specs.declared.memory.PassMemory.{PassMemory}
use Rattle.tables.specs.TableRule.{dealt_to}

-- each pass has as many names as there may be in a table in which none comes back
abbrev pub HasFewNames : Layout → Type 0
HasFewNames lay = (lay.nodes ≤ 32768) × (lay.scx ≤ 32768)

-- pass c is between two calls: it has taken all of its share before what is left, and each
-- SCX-record that it has taken is finished
pub record IsBetweenCalls (lay : Layout) (c : ℕ) (h : History) (left : Remaining) : Type 0 where
  pub share : IsShare lay h c left left.next_node left.next_scx
  -- what is left is all of its names from there on, in a table in which none comes back
  pub upper : HasFewNames lay → IsUpperEnd lay c left
  pub over : AreFinished lay c left.next_scx h

-- what is left of a pass's share ends where the names end that it remembers as dealt
abbrev pub EndsAsDealt : Remaining → PassMemory → Type 0
EndsAsDealt left memory = share_end left ≡ dealt_to memory

-- the entries of pass c among these
abbrev pub entries_of : ℕ → List Entry → List Entry
entries_of c [] = []
entries_of c (e ∷ es) = if e.owner == c then e ∷ entries_of c es else entries_of c es
