-- Where words are in a table: where each record has a place of its own, where the layout says; and
-- where records come back, where the low bits of its name say.
use Rattle.std.proofs.Common.{◌≡◌, ◌<◌, ◌+◌, ◌%◌, ◌*◌, ◌^◌, ◌∙◌, ℕ, Bool, true, false, Option, Some, None, ap, arith, bit_and, refl, sym}
use Rattle.std.proofs.Math.Nat.{lt_of_lt_of_le, mod-eq_of_lt, mod-lt, mul-zero, one-le-pow, zero-mod}
use Rattle.std.proofs.Math.Pow.{pow_mono}
use Rattle.std.proofs.lemmas.Nat.{and_mask}
use Rattle.atomic_table.specs.Seated.{TableId}
use Rattle.arena.specs.Layout.{scx_start}
use Rattle.arena.specs.Opening.{node_size}
use Rattle.arena.specs.Words.{IsPart, offset}
use Rattle.arena.specs.declared.word.ScxWord.TheVariants.{State}
use Rattle.arena.specs.declared.limits.Mode.TheVariants.{Tree, Trie, Records}
use Rattle.histories.specs.Common.{Layout, Mode, NodeNo, ScxNo, Word, Node, Scx, Settled, Head, IsWord, all_nodes, all_scx, node, scx}
use Rattle.slots.specs.Lasting.{Lasting, slot_word, table_place}
use Rattle.tables.specs.Slotted.{in_place, names_of_table, node_begins, scx_begins, slots_by, slots_of_table, word_begins}
use Rattle.tables.specs.TablePlans.{HasMasks, IsTableOf}
use Rattle.tables.specs.declared.rule.Site.{Site}
use Rattle.tables.specs.declared.rule.Turns.{Turns}
use Rattle.tables.specs.declared.table_plan.TablePlan.{TablePlan}

-- where each record has a place of its own, a word's place in its slot is that of the layout
pub slot_in_place : (lay : Layout) (w : Word) → IsWord lay w → slot_word (in_place lay) w ≡ w
slot_in_place lay (Node n part) i = ap (λ k. node k part) (mod-eq_of_lt i)
slot_in_place lay (Scx s part) i = ap (λ k. scx k part) (mod-eq_of_lt i.0)

-- the names of a table of this layout in which none comes back
pub names_are : (site : Site) (lay : Layout) → site.layout ≡ lay → site.turns ≡ None → names_of_table site ≡ lay
names_are site lay same once = ap (λ t. (slots_by site.layout t).lay) once ∙ same

-- the layout of the table, by which its words lie; it has the passes of that of its names
pub table_is : (lay : Layout) (t : Option Turns) → (slots_by lay t).table ≡ lay
table_is lay None = refl
table_is lay (Some t) = refl

passes_by : (lay : Layout) (t : Option Turns) → (slots_by lay t).lay.passes ≡ lay.passes
passes_by lay None = refl
passes_by lay (Some t) = refl

pub passes_are : (site : Site) → (names_of_table site).passes ≡ site.layout.passes
passes_are site = passes_by site.layout site.turns

-- the slot of a node, and of an SCX-record: where records come back, the low bits of its name say
node_by : (lasts : Bool) (lay : Layout) (t : Option Turns) (plan : TablePlan) → HasMasks lasts t plan → (n : ℕ) → n < all_nodes (slots_by lay t).lay → (lasts ≡ true → bit_and n plan.node_mask ≡ n % (slots_by lay t).node_turn) × (lasts ≡ false → n ≡ n % (slots_by lay t).node_turn)
node_by false lay None plan e n less = (λ q. cc, λ q. sym (mod-eq_of_lt less))
node_by true lay (Some t) plan masks n less = (λ q. ap (bit_and n) masks.1 ∙ and_mask n t.node_bits, λ q. cc)
node_by false lay (Some t) plan e n less = absurd (let y : Some t ≡ None = e in cc)
node_by true lay None plan masks n less = absurd masks

scx_by : (lasts : Bool) (lay : Layout) (t : Option Turns) (plan : TablePlan) → HasMasks lasts t plan → (s : ℕ) → s < all_scx (slots_by lay t).lay → (lasts ≡ true → bit_and s plan.scx_mask ≡ s % (slots_by lay t).scx_turn) × (lasts ≡ false → s ≡ s % (slots_by lay t).scx_turn)
scx_by false lay None plan e s less = (λ q. cc, λ q. sym (mod-eq_of_lt less))
scx_by true lay (Some t) plan masks s less = (λ q. ap (bit_and s) masks.2 ∙ and_mask s t.scx_bits, λ q. cc)
scx_by false lay (Some t) plan e s less = absurd (let y : Some t ≡ None = e in cc)
scx_by true lay None plan masks s less = absurd masks

-- where the records come back nodes begin low, so that 32 bits say where
low_size : (mode : Mode) (k : ℕ) → k < 2 ^ 26 → node_size mode * k < 4294967296
low_size Tree k less = omega (arith, less)
low_size Trie k less = omega (arith, less)
low_size Records k less = omega (arith, less)

low_by : (lasts : Bool) (lay : Layout) (t : Option Turns) (plan : TablePlan) → HasMasks lasts t plan → (n : NodeNo) → lasts ≡ true → node_begins (slots_by lay t) n < 4294967296
low_by true lay (Some t) plan masks n e = low_size lay.mode (n.0 % 2 ^ t.node_bits) (lt_of_lt_of_le (mod-lt n.0 (one-le-pow t.node_bits 2 (omega arith))) (pow_mono masks.0))
low_by true lay None plan masks n e = absurd masks
low_by false lay t plan masks n e = cc

-- so it is of a table
module _ {mode : Mode} {lasts : Bool} {id : TableId} {site : Site} {plan : TablePlan} (x : IsTableOf mode lasts id site plan) where
  table_laid : (slots_of_table site).table ≡ plan.layout
  table_laid = table_is site.layout site.turns ∙ x.layout

  -- where its words begin is a number that a sum with a place does not overflow
  module _ (n : NodeNo) (less : n.0 < all_nodes (names_of_table site)) where
    pub node_masked : lasts ≡ true → bit_and n.0 plan.node_mask ≡ n.0 % (slots_of_table site).node_turn
    node_masked = (node_by lasts site.layout site.turns plan x.masks n.0 less).0

    pub node_unmasked : lasts ≡ false → n.0 ≡ n.0 % (slots_of_table site).node_turn
    node_unmasked = (node_by lasts site.layout site.turns plan x.masks n.0 less).1

    pub node_begins_soon : lasts ≡ true → node_begins (slots_of_table site) n < 4294967296
    node_begins_soon = low_by lasts site.layout site.turns plan x.masks n

    pub node_begins_at : (size slot : ℕ) → size ≡ node_size plan.layout.mode → slot ≡ n.0 % (slots_of_table site).node_turn → size * slot ≡ node_begins (slots_of_table site) n
    node_begins_at size slot sized is = rw (sized, is, table_laid) refl

    pub node_begins_low : node_begins (slots_of_table site) n < 2 ^ 40
    node_begins_low = let i = x.inside (Node n (Settled Head)) less in let few = x.few in omega (arith, i, few)

  module _ (s : ScxNo) (less : s.0 < all_scx (names_of_table site)) where
    pub scx_masked : lasts ≡ true → bit_and s.0 plan.scx_mask ≡ s.0 % (slots_of_table site).scx_turn
    scx_masked = (scx_by lasts site.layout site.turns plan x.masks s.0 less).0

    pub scx_unmasked : lasts ≡ false → s.0 ≡ s.0 % (slots_of_table site).scx_turn
    scx_unmasked = (scx_by lasts site.layout site.turns plan x.masks s.0 less).1

    pub scx_begins_at : (base slot : ℕ) → base ≡ scx_start plan.layout record { 0 = 0 } → slot ≡ s.0 % (slots_of_table site).scx_turn → base + 14 * slot ≡ scx_begins (slots_of_table site) s
    scx_begins_at base slot based is = rw (based, is, table_laid) (omega arith)

    pub scx_begins_low : scx_begins (slots_of_table site) s < 2 ^ 40
    scx_begins_low = let i = x.inside (Scx s State) (less, tt) in let few = x.few in omega (arith, i, few)

  pub begins_low : (w : Word) → IsWord (names_of_table site) w → word_begins (slots_of_table site) w < 2 ^ 40
  begins_low (Node n part) i = node_begins_low n i
  begins_low (Scx s part) i = scx_begins_low s i.0

-- no record comes back where none is said to
once_in : (lasts : Bool) (t : Option Turns) (plan : TablePlan) → HasMasks lasts t plan → lasts ≡ false → t ≡ None
once_in false t plan e once = e
once_in true t plan masks once = cc

pub once_by : {mode : Mode} {lasts : Bool} {id : TableId} {site : Site} {plan : TablePlan} → IsTableOf mode lasts id site plan → lasts ≡ false → site.turns ≡ None
once_by {lasts = lasts} {site = site} {plan = plan} x = once_in lasts site.turns plan x.masks

-- a word is where its record begins, and its offset further
pub place_from_start : (t : Lasting) (w : Word) → word_begins t w + offset w ≡ table_place t w
place_from_start t (Node n part) = refl
place_from_start t (Scx s part) = refl

-- and nodes or SCX-records have such a word
pub word_part : (lay : Layout) (w : Word) → IsWord lay w → IsPart w
word_part lay (Node n part) i = tt
word_part lay (Scx s part) i = i.1

-- the root is where a table begins, in whatever slots
pub root_begins : (t : Lasting) → 0 ≡ node_begins t record { 0 = 0 }
root_begins t = sym (mul-zero (node_size t.table.mode)) ∙ ap (λ k. node_size t.table.mode * k) (sym (zero-mod t.node_turn))
