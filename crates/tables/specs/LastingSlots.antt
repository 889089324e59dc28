-- How slots of a table that lasts come to hold nothing.
use Rattle.std.specs.Prelude.{◌≡◌, ◌≤◌, ◌%◌, if◌then◌else◌, ℕ, suc, List, [], ◌∷◌}
use Rattle.histories.specs.Common.{Word, Remaining}
use Rattle.resting.specs.Records.{Record, the_node, the_scx}
use Rattle.slots.specs.Held.{same_record}
use Rattle.slots.specs.Lasting.{Lasting}
use Rattle.tables.specs.LastingMemory.{record_at}
use Rattle.tables.specs.declared.memory.PassMemory.{PassMemory}
use Rattle.tables.specs.declared.memory.RecordNo.{RecordNo}
use Rattle.tables.specs.declared.memory.RecordNo.TheVariants.{Node, Scx}

-- the slot of the name
abbrev pub slot_number : Lasting → RecordNo → RecordNo
slot_number t (Node n) = Node record { 0 = n.0 % t.node_turn }
slot_number t (Scx s) = Scx record { 0 = s.0 % t.scx_turn }

-- those of these that are of other records
abbrev pub of_others : {A : Type 0} → (A → Record) → Record → List A → List A
of_others of x [] = []
of_others of x (a ∷ xs) = if same_record (of a) x then of_others of x xs else a ∷ of_others of x xs

-- these names without that one
abbrev pub names_without : Record → List RecordNo → List RecordNo
names_without = of_others record_at

-- What is remembered once the slot of the name holds nothing, and names up to these two are dealt;
-- and if as many are dealt as before.
abbrev pub memory_without : Lasting → PassMemory → RecordNo → (nodes_to scx_to : ℕ) → PassMemory
memory_without t m name nodes_to scx_to = record m { nodes_to = nodes_to; scx_to = scx_to; holds = names_without (record_at name) m.holds; empty = slot_number t name ∷ m.empty }

abbrev pub memory_let_go : Lasting → PassMemory → RecordNo → PassMemory
memory_let_go t m name = memory_without t m name m.nodes_to m.scx_to

-- so it is once the last name that is dealt is given back, which nobody has taken
abbrev pub memory_given_back : Lasting → PassMemory → RecordNo → PassMemory
memory_given_back t m (Node n) = memory_without t m (Node n) n.0 m.scx_to
memory_given_back t m (Scx s) = memory_without t m (Scx s) m.nodes_to s.0

-- the name is the last that is dealt
abbrev pub IsLastDealt : PassMemory → Record → Type 0
IsLastDealt m (the_node n) = m.nodes_to ≡ suc n
IsLastDealt m (the_scx s) = m.scx_to ≡ suc s

-- the name is not before what is left of a share: it is left, or behind what has been dealt
abbrev pub IsNotBefore : Remaining → Record → Type 0
IsNotBefore left (the_node n) = left.next_node ≤ n
IsNotBefore left (the_scx s) = left.next_scx ≤ s

-- what is remembered once this word is 0
abbrev pub memory_cleared : PassMemory → Word → PassMemory
memory_cleared m u = record m { zeros = u ∷ m.zeros }
