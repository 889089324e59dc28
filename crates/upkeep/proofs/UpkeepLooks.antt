-- Looks of a pass at a table that lasts.
use Rattle.std.proofs.Common.{◌≡◌, ◌<◌, ◌%◌, ℕ, List, [], ◌∷◌, refl, sym, ◌∙◌, ap, subst, arith}
use Rattle.atomic_table.specs.Table.{Allows}
use Rattle.atomic_table.specs.declared.shared.Seat.{Seat}
use Rattle.histories.specs.Common.{Layout, Row, History, IsWord, NodeWord, ScxWord, Word, Node, Scx, node, place, table_size, scx}
use Rattle.arena.specs.Words.{IsPart, IsScxWord, node_place, offset, scx_place}
use Rattle.arena.specs.declared.number.PassNo.{PassNo}
use Rattle.histories.proofs.Lemmas.{own_node_inside, own_scx_inside}
use Rattle.resting.specs.Records.{Record, record_of, the_node, the_scx}
use Rattle.slots.specs.Lasting.{IsOwnRecord, IsRecord, Lasting, table_place}
use Rattle.tables.specs.LastingRule.{LearnsWith, TableLasts}
use Rattle.tables.specs.LastingSlots.{slot_number}
use Rattle.tables.specs.Ruled.{IsRuled}
use Rattle.tables.specs.Seats.{IsSameSeat}
use Rattle.upkeep.specs.UpkeepSteps.{HasGoneOnResting, RestsOn}
use Rattle.upkeep.specs.UpkeepBook.{IsAtLasting, LearnsOf, NowRemembers, name_numbered, parts_of, record_numbered, slots_in}
use Rattle.tables.specs.declared.memory.PassMemory.{PassMemory}
use Rattle.tables.specs.declared.memory.RecordNo.{RecordNo}
use Rattle.tables.specs.declared.memory.RecordNo.TheVariants.{Node as NodeRecord, Scx as ScxRecord}
use Rattle.upkeep.specs.declared.kind.RecordKind.{RecordKind}
use Rattle.upkeep.specs.declared.kind.RecordKind.TheVariants.{Node as NodeKind, Scx as ScxKind}
use Rattle.tables.specs.declared.view.SeatedPass.{SeatedPass}
use Rattle.tables.specs.declared.view.SeatView.{SeatView}
use Rattle.tables.specs.declared.words.Words.{Words}
use Rattle.tables.proofs.Slotted.{table_is}
use Rattle.upkeep.proofs.UpkeepTurn.{from_pass}
use Rattle.upkeep.proofs.UpkeepSteps.{passes_of_table, seat_learns, upkeep_allows}

-- Where a table lasts

-- an own record is one of the table
pub own_record_inside : (lay : Layout) (o : ℕ) (x : Record) → o < lay.passes → IsOwnRecord lay o x → IsRecord lay x
own_record_inside lay o (the_node n) is_pass own = own_node_inside lay o n is_pass own
own_record_inside lay o (the_scx s) is_pass own = own_scx_inside lay o s is_pass own

pub is_word : (lay : Layout) (w : Word) → IsPart w → IsRecord lay (record_of w) → IsWord lay w
is_word lay (Node n part) is_part i = i
is_word lay (Scx s part) is_part i = (i, is_part)

-- so is a word of an own record
pub is_word_of : (lay : Layout) (o : ℕ) (w : Word) (x : Record) → o < lay.passes → IsOwnRecord lay o x → record_of w ≡ x → IsPart w → IsWord lay w
is_word_of lay o w x is_pass own is part = is_word lay w part (subst (IsRecord lay) (sym is) (own_record_inside lay o x is_pass own))

-- words of one record, at one place of it, are at one place
pub placed : (lay : Layout) (u w : Word) → record_of u ≡ record_of w → offset u ≡ offset w → place lay u ≡ place lay w
placed lay (Node n part) (Node m other) e f = let q : n.0 ≡ m.0 = cc in rw (q, f) refl
placed lay (Scx s part) (Scx r other) e f = let q : s.0 ≡ r.0 = cc in rw (q, f) refl
placed lay (Node n part) (Scx s other) e f = absurd cc
placed lay (Scx s other) (Node n part) e f = absurd cc

abbrev number_of : RecordNo → ℕ
number_of (NodeRecord n) = n.0
number_of (ScxRecord s) = s.0

-- the word of a name is in the slot that it is in
pub node_in_slot : (t : Lasting) (lay : Layout) (slot name : ℕ) (part : NodeWord) → t.table ≡ lay → slot_number t (name_numbered NodeKind name) ≡ name_numbered NodeKind slot → table_place t (node name part) ≡ place lay (node slot part)
node_in_slot t lay slot name part same is = ap (λ k. place t.table (node k part)) (let e : name % t.node_turn ≡ slot = ap number_of is in e) ∙ ap (λ l. place l (node slot part)) same

pub scx_in_slot : (t : Lasting) (lay : Layout) (slot name : ℕ) (part : ScxWord) → t.table ≡ lay → slot_number t (name_numbered ScxKind name) ≡ name_numbered ScxKind slot → table_place t (scx name part) ≡ place lay (scx slot part)
scx_in_slot t lay slot name part same is = ap (λ k. place t.table (scx k part)) (let e : name % t.scx_turn ≡ slot = ap number_of is in e) ∙ ap (λ l. place l (scx slot part)) same

module _ {S : Type 0} (words : Words S) (lay : Layout) where
  -- a word of an own record is at a place of the table
  pub inside : (seat : Seat ℕ SeatView) (p : SeatedPass) (at : ℕ) → IsAtLasting words lay seat p → at < table_size lay → at < words.table.shared.table_id.words
  inside seat p at here less = let room = here.table.0.room in omega (arith, room, less)

  -- it has this layout
  pub table_in : (seat : Seat ℕ SeatView) (p : SeatedPass) → IsAtLasting words lay seat p → (slots_in words).table ≡ lay
  table_in seat p here = let site = words.table.shared.key in table_is site.layout site.turns ∙ here.table.0.layout

  -- the pass is one of those of its names
  pub passes_in : (seat : Seat ℕ SeatView) (p : SeatedPass) → IsAtLasting words lay seat p → p.number.0 < (slots_in words).lay.passes
  passes_in seat p here = let site = words.table.shared.key in subst (λ n. p.number.0 < n) (ap (λ (l : Layout). l.passes) (sym here.table.0.layout) ∙ sym (passes_of_table site)) here.is_pass

  -- it still is at the table once it has gone on
  pub at_later : (allows : Layout → History → ℕ → Type 0) (old new : Seat ℕ SeatView) (p q : SeatedPass) → IsAtLasting words lay old p → IsSameSeat old new → new.me.0.passes ≡ q ∷ [] → HasGoneOnResting allows p q → IsAtLasting words lay new q
  at_later allows old new p q at stays one goes = record {
    table = (at.table.0, stays.0 ∙ at.table.1);
    alone = one;
    names = goes.layout ∙ at.names;
    is_pass = subst (λ (k : PassNo). k.0 < lay.passes) (sym goes.number) at.is_pass;
  }

  -- so it is of the pass that it is now
  pub at_now : (allows : Layout → History → ℕ → Type 0) (so : SeatedPass → SeatedPass → Type 0) (old new : Seat ℕ SeatView) (p : SeatedPass) → IsAtLasting words lay old p → IsSameSeat old new → (x : RestsOn allows so old.me.0 new.me.0) → IsAtLasting words lay new x.later
  at_now allows so old new p at stays x = at_later allows old new p x.later at stays x.is (from_pass allows so old.me.0 new.me.0 p at.alone x).0

  -- and what was the pass's own still is
  pub own_now : (allows : Layout → History → ℕ → Type 0) (so : SeatedPass → SeatedPass → Type 0) (old new : Seat ℕ SeatView) (p : SeatedPass) → IsAtLasting words lay old p → (x : RestsOn allows so old.me.0 new.me.0) → (r : Record) → IsOwnRecord lay p.number.0 r → IsOwnRecord lay x.later.number.0 r
  own_now allows so old new p at x r own = subst (λ (k : PassNo). IsOwnRecord lay k.0 r) (sym (from_pass allows so old.me.0 new.me.0 p at.alone x).0.number) own

-- a record has so many words
node_few : (part : NodeWord) → node_place part < 18
node_few part = grind arith

scx_few : (part : ScxWord) → IsScxWord part → scx_place part < 14
scx_few part i = grind arith

pub few_parts : (lay : Layout) (kind : RecordKind) (slot count : ℕ) (w : Word) → count ≡ parts_of kind → record_of w ≡ record_numbered kind slot → IsWord lay w → offset w < count
few_parts lay NodeKind slot count (Node n part) e same i = subst (λ k. node_place part < k) (sym e) (node_few part)
few_parts lay ScxKind slot count (Scx s part) e same i = subst (λ k. scx_place part < k) (sym e) (scx_few part i.1)
few_parts lay NodeKind slot count (Scx s part) e same i = absurd cc
few_parts lay ScxKind slot count (Node n part) e same i = absurd cc

-- What looks tell

module _ (allows : Layout → History → ℕ → Type 0) (after : PassMemory → ℕ → List Row → PassMemory) where
  -- a look by which the pass p remembers so much, may be told so of the one pass of the seat
  pub may_learn : {S : Type 0} (words : Words S) (lay : Layout) (seat : Seat ℕ SeatView) (p : SeatedPass) (place at : ℕ) (f : ℕ → ℕ) → IsAtLasting words lay seat p → place ≡ at → Allows (TableLasts allows (slots_in words) words.table.shared.key.planting) words.table.shared.table_id.slots seat.id seat.me place f (λ n w. LearnsWith allows (after p.memory n) seat.me.0 w.0 × (w.1 ≡ seat.me.1)) → Allows (IsRuled allows words.table.shared.key) words.table.shared.table_id.slots seat.id seat.me at f (λ n w. LearnsOf allows after seat.me.0 n w.0 × (w.1 ≡ seat.me.1))
  may_learn words lay seat p place at f here there law = let turns = here.table.0 in
      upkeep_allows allows words.table.shared.key turns.turns turns.comes_back words.table.shared.table_id.slots seat.id seat.me place at f (λ n w. LearnsWith allows (after p.memory n) seat.me.0 w) (LearnsOf allows after seat.me.0) there (λ n w x. (p, here.alone, x)) law

  -- and the pass remembers so much
  pub has_learnt : (v w : SeatView) (n : ℕ) (so : PassMemory → List Row → PassMemory) → ((m : PassMemory) (rows : List Row) → after m n rows ≡ so m rows) → LearnsOf allows after v n w → RestsOn allows (NowRemembers so) v w
  has_learnt v w n so same x = seat_learns allows (after x.0.memory n) (NowRemembers so) x.0 v w x.1 x.2 (λ q goes e. e ∙ same x.0.memory q.known)
