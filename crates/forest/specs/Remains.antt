-- What remains of a forest whose records come back, once its passes are there.
use Rattle.std.specs.Prelude.{◌≡◌, ◌<◌, ◌%◌, ℕ, List, [], ◌∷◌, slice_index}
use Rattle.histories.specs.Common.{Child, Contents, Extends, History, IsRun, Layout, Node, NodeWord, Row, Word, all_nodes, log, node, place, value, word_at}
use Rattle.planting.specs.Plantings.{PlantingView}
use Rattle.slots.specs.Lasting.{IsLasting, Lasting, table_place}
use Rattle.touching.specs.Kinds.{IsInTree}
use Rattle.forest.specs.Copies.{IsMapWord}
use Rattle.forest.specs.JoinedSeats.{IsOneOf}
use Rattle.tables.specs.Passes.{HasBlamed, HaveLeftShares, PassView, done_of, run_of, steps_of}
use Rattle.tables.specs.Shares.{IsBetweenCalls, entries_of}
use Rattle.tables.specs.TableRule.{history_of, seated_pass}
use Rattle.tables.specs.Traces.{rows_of}
use Rattle.tables.specs.declared.view.SeatedPass.{SeatedPass}

-- the words at the end of a table whose records come back, and which slots its names have
pub record SlotWords : Type 0 where
  pub slots : Lasting
  pub words : List ℕ

-- what a word of a slot holds
abbrev pub slot_value : SlotWords → Word → ℕ
slot_value c w = slice_index c.words (place c.slots.table w)

-- the same where a field names the slot of its child
abbrev pub by_slots : SlotWords → Word → ℕ
by_slots c (Node n (Child side)) = slot_value c (Node n (Child side)) % c.slots.node_turn
by_slots c w = slot_value c w

-- the words of the first slots that a map is read from are copied so
abbrev pub AreNamedBySlots : SlotWords → Contents → ℕ → Type 0
AreNamedBySlots from to k = (n : ℕ) (part : NodeWord) → n < k → IsMapWord part → word_at to (node n part) ≡ by_slots from (node n part)

-- each node of the tree has a slot of the table, whose words are what the run says
abbrev pub ShowTree : SlotWords → History → Type 0
ShowTree c h = (n : ℕ) → IsInTree h n → n < all_nodes c.slots.lay → (n % c.slots.node_turn < all_nodes c.slots.table) × ((part : NodeWord) → slice_index c.words (table_place c.slots (node n part)) ≡ value h (node n part))

-- these rows, in a table that is planted so, are what each pass knew and after that rows of others
-- alone; its entries in them are those of its done list
abbrev pub AreAsKnown : List PassView → PlantingView → List Row → Type 0
AreAsKnown [] planting rows = Unit {0}
AreAsKnown (p ∷ ps) planting rows = Extends (history_of planting rows) (run_of p) × (entries_of p.number (log p.layout (history_of planting rows)) ≡ done_of p) × (rows_of p.number rows ≡ steps_of p) × AreAsKnown ps planting rows

-- The forest whose names have this layout has ended: one run extends what these passes knew, and
-- its words show the tree of that run.
pub record AreRemains (allows : Layout → History → ℕ → Type 0) (lay : Layout) (passes : List PassView) (c : SlotWords) : Type 0 where
  pub names : c.slots.lay ≡ lay
  pub lasting : IsLasting c.slots
  pub planting : PlantingView
  pub rows : List Row
  pub sound : IsRun allows lay (history_of planting rows)
  pub shows : ShowTree c (history_of planting rows)
  pub known : AreAsKnown passes planting rows
  -- no share still holds an SCX-record that a pass has blamed
  pub blamed : HaveLeftShares passes

-- the pass p, as a seat has it
pub record IsSeatOf (allows : Layout → History → ℕ → Type 0) (p : PassView) (k : SeatedPass) : Type 0 where
  pub is : k ≡ seated_pass p.number p.layout p.planting k.memory p.known
  pub is_pass : p.number < p.layout.passes
  pub sound : IsRun allows p.layout (run_of p)
  pub rest : IsBetweenCalls p.layout p.number (run_of p) p.share
  pub blamed : HasBlamed p

-- each of the passes is one of these of a seat
abbrev pub AreSeated : (Layout → History → ℕ → Type 0) → List PassView → List SeatedPass → Type 0
AreSeated allows [] ks = Unit {0}
AreSeated allows (p ∷ ps) ks = ((k : SeatedPass) × IsOneOf k ks × IsSeatOf allows p k) × AreSeated allows ps ks
