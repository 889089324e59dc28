-- How a slot of a table that lasts gets its next name, and which are passed over on the way.
use Rattle.std.specs.Prelude.{◌≡◌, ◌<◌, ◌+◌, ℕ, zero, suc, false, List, [], ◌∷◌}
use Rattle.histories.specs.Common.{Fill, Abort, Settled, Head, Seen, node, scx, state, Row, Word, ◌⊳◌, IsWord, Remaining}
use Rattle.arena.specs.declared.word.ScxWord.TheVariants.{Plan}
use Rattle.planting.specs.Plantings.{PlantingView}
use Rattle.prims.specs.Moments.{AreFinished}
use Rattle.prims.specs.Shares.{IsShare}
use Rattle.resting.specs.Records.{Record, record_of}
use Rattle.slots.specs.Lasting.{IsOwnName, Lasting, slot_of}
use Rattle.slots.specs.Passing.{row_over}
use Rattle.tables.specs.TableRule.{history_of, past_of}
use Rattle.tables.specs.LastingMemory.{record_at}
use Rattle.tables.specs.LastingNotes.{IsAmongThese}
use Rattle.tables.specs.LastingSlots.{of_others, names_without}
use Rattle.tables.specs.declared.memory.PassMemory.{PassMemory}
use Rattle.tables.specs.declared.memory.RecordNo.{RecordNo}
use Rattle.tables.specs.declared.memory.RecordNo.TheVariants.{Node, Scx}
use Rattle.tables.specs.declared.view.SeatedPass.{SeatedPass}

-- these rows, and after them those by which the pass o passes over so many nodes from that one on
abbrev pub past_nodes : (o from count : ℕ) → PlantingView → List Row → List Row
past_nodes o from zero planting rows = rows
past_nodes o from (suc count) planting rows = past_nodes o (suc from) count planting (row_over o Fill (node from (Settled Head)) 0 (history_of planting rows) ∷ rows)

-- these rows, and after them those by which it passes over that SCX-record
abbrev pub scx_rows : (o s : ℕ) → PlantingView → List Row → List Row
scx_rows o s planting rows =
    let one : Row = row_over o Fill (scx s Plan) 1 (history_of planting rows) in
    let two : Row = row_over o Fill (scx s (Seen 0)) s (one ⊳ history_of planting rows) in
    row_over o Abort (state s) 2 (two ⊳ one ⊳ history_of planting rows) ∷ two ∷ one ∷ rows

-- those by which it passes over so many from that one on
abbrev pub past_scxs : (o from count : ℕ) → PlantingView → List Row → List Row
past_scxs o from zero planting rows = rows
past_scxs o from (suc count) planting rows = past_scxs o (suc from) count planting (scx_rows o from planting rows)

-- these words without those of that record
abbrev pub without_words : Record → List Word → List Word
without_words = of_others record_of

-- the name of a node that is so many behind those that are dealt
abbrev pub node_ahead : PassMemory → ℕ → RecordNo
node_ahead m count = Node record { 0 = m.nodes_to + count }

-- and of an SCX-record
abbrev pub scx_ahead : PassMemory → ℕ → RecordNo
scx_ahead m count = Scx record { 0 = m.scx_to + count }

-- what is remembered once the slot holds the name, and names up to these two are dealt, by a pass
-- that rests then, after these rows
abbrev pub memory_with : PassMemory → (name slot : RecordNo) → (nodes_to scx_to : ℕ) → List Row → PassMemory
memory_with m name slot nodes_to scx_to rows = record m {
  rested = rows;
  nodes_to = nodes_to;
  scx_to = scx_to;
  holds = name ∷ m.holds;
  empty = names_without (record_at slot) m.empty;
  zeros = without_words (record_at slot) m.zeros;
}

-- so it is once so many names of nodes are passed over, and the next is held; and of SCX-records
abbrev pub memory_with_node : PassMemory → (count : ℕ) → RecordNo → List Row → PassMemory
memory_with_node m count slot = memory_with m (node_ahead m count) slot (m.nodes_to + suc count) m.scx_to

abbrev pub memory_with_scx : PassMemory → (count : ℕ) → RecordNo → List Row → PassMemory
memory_with_scx m count slot = memory_with m (scx_ahead m count) slot m.nodes_to (m.scx_to + suc count)

-- A pass that is there and between two calls, which has so much left of its share, may give the
-- slot the name: it is its own, and this its slot, which holds nothing, and whose words are all 0.
pub record MayGiveName (t : Lasting) (p : SeatedPass) (left : Remaining) (name slot : RecordNo) : Type 0 where
  pub is_pass : p.number.0 < t.lay.passes
  pub there : p.memory.away ≡ false
  pub share : IsShare p.layout (past_of p []) p.number.0 left left.next_node left.next_scx
  pub over : AreFinished p.layout p.number.0 0 (past_of p [])
  pub own : IsOwnName t p.number.0 (record_at name)
  pub slot_is : slot_of t (record_at name) ≡ record_at slot
  pub empty : IsAmongThese slot p.memory.empty
  pub zeros : (w : Word) → IsWord t.table w → record_of w ≡ record_at slot → IsAmongThese w p.memory.zeros
