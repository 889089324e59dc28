-- Which record each slot holds.
use Rattle.std.specs.Prelude.{◌≡◌, ◌+◌, ◌-◌, ◌*◌, ◌/◌, ◌%◌, ℕ, Bool, false, if◌then◌else◌, ◌==◌, nat_lt, Option, Some, None}
use Rattle.histories.specs.Common.{all_nodes, all_scx, opening_nodes}
use Rattle.resting.specs.Records.{Record, the_node, the_scx}
use Rattle.slots.specs.Lasting.{Lasting, slot_of, IsFirstRecord, IsNameOf}

-- the record that each slot holds, by its name; none while it is being cleaned, or waits for a name
abbrev pub Held : Type 0
Held = Record → Option Record

-- its slot holds the record
abbrev pub IsHeld : Lasting → Held → Record → Type 0
IsHeld t held x = held (slot_of t x) ≡ Some x

-- whether two records are one
abbrev pub same_record : Record → Record → Bool
same_record (the_node n) (the_node m) = n == m
same_record (the_scx s) (the_scx u) = s == u
same_record _ _ = false

-- what slots hold once this slot holds that
abbrev pub with_slot : Held → Record → Option Record → Held
with_slot held slot found k = if same_record k slot then found else held k

-- each slot holds a name of its own, and what was there from the start is held
pub record AreNames (t : Lasting) (held : Held) : Type 0 where
  pub own : (slot x : Record) → held slot ≡ Some x → IsNameOf t slot x
  pub first : (x : Record) → IsFirstRecord t.lay x → IsHeld t held x

-- the number at the place k, among the shares of the passes from `first` on, in shares of that many
abbrev pub in_shares : (first share all k : ℕ) → ℕ
in_shares first share all k = first + (k - first) / share * all + (k - first) % share

-- the first name of a slot, of its first lap
abbrev pub first_name : Lasting → Record → Record
first_name t (the_node k) = if nat_lt k (opening_nodes t.table) then the_node k else the_node (in_shares (opening_nodes t.table) t.table.nodes t.lay.nodes k)
first_name t (the_scx k) = if nat_lt k 1 then the_scx k else the_scx (in_shares 1 t.table.scx t.lay.scx k)

-- each slot of the table holds its first name
abbrev pub first_held : Lasting → Held
first_held t (the_node k) = if nat_lt k (all_nodes t.table) then Some (first_name t (the_node k)) else None
first_held t (the_scx k) = if nat_lt k (all_scx t.table) then Some (first_name t (the_scx k)) else None
