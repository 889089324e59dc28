-- Two words are the same where the test says so, and only there.
use Rattle.std.proofs.Common.{◌≡◌, ◌≢◌, ℕ, true, false, eqb, refl, sym, ap, ◌∙◌, eqb-true, eq-eqb}
use Rattle.arena.specs.declared.word.Side.{Side}
use Rattle.arena.specs.declared.word.Side.TheVariants.{Left, Right}
use Rattle.arena.specs.declared.word.NodeWord.{NodeWord}
use Rattle.arena.specs.declared.word.NodeWord.TheVariants.{Settled, Child, Info, Marked}
use Rattle.arena.specs.declared.word.SettledPart.{SettledPart}
use Rattle.arena.specs.declared.word.SettledPart.TheVariants.{Head, More, Key, Value, High}
use Rattle.arena.specs.declared.word.Slot.{Slot}
use Rattle.arena.specs.declared.word.Slot.TheVariants.{First, Second, Third, Fourth}
use Rattle.arena.specs.declared.word.ScxWord.{ScxWord}
use Rattle.arena.specs.declared.word.ScxWord.TheVariants.{State, AllFrozen, Plan, New, Old, Member, Seen, Call}
use Rattle.arena.specs.declared.word.Word.{Word}
use Rattle.arena.specs.declared.word.Word.TheVariants.{Node, Scx}
use Rattle.arena.specs.Words.{slot_no, same_word, same_side, same_settled, same_node_word, same_scx_word}
use Rattle.arena.proofs.Bools.{and_left, and_right}

side_same : (a b : Side) → same_side a b ≡ true → a ≡ b
side_same Left Left e = refl
side_same Right Right e = refl
side_same _ _ e = cc

pub slot_same : (a b : Slot) → eqb (slot_no a) (slot_no b) ≡ true → a ≡ b
slot_same First First e = refl
slot_same Second Second e = refl
slot_same Third Third e = refl
slot_same Fourth Fourth e = refl
slot_same First Second e = cc
slot_same First Third e = cc
slot_same First Fourth e = cc
slot_same Second First e = cc
slot_same Second Third e = cc
slot_same Second Fourth e = cc
slot_same Third First e = cc
slot_same Third Second e = cc
slot_same Third Fourth e = cc
slot_same Fourth First e = cc
slot_same Fourth Second e = cc
slot_same Fourth Third e = cc

settled_same : (a b : SettledPart) → same_settled a b ≡ true → a ≡ b
settled_same Head Head e = refl
settled_same More More e = refl
settled_same (Key a) (Key b) e = ap Key (slot_same a b e)
settled_same (Value a) (Value b) e = ap Value (slot_same a b e)
settled_same (High a) (High b) e = ap High (slot_same a b e)
settled_same _ _ e = cc

node_word_same : (a b : NodeWord) → same_node_word a b ≡ true → a ≡ b
node_word_same (Settled p) (Settled q) e = ap Settled (settled_same p q e)
node_word_same (Child a) (Child b) e = ap Child (side_same a b e)
node_word_same Info Info e = refl
node_word_same Marked Marked e = refl
node_word_same _ _ e = cc

scx_word_same : (a b : ScxWord) → same_scx_word a b ≡ true → a ≡ b
scx_word_same State State e = refl
scx_word_same AllFrozen AllFrozen e = refl
scx_word_same Plan Plan e = refl
scx_word_same New New e = refl
scx_word_same Old Old e = refl
scx_word_same (Member j) (Member k) e = ap Member (eqb-true j k e)
scx_word_same (Seen j) (Seen k) e = ap Seen (eqb-true j k e)
scx_word_same Call Call e = refl
scx_word_same _ _ e = cc

pub word_same : (u w : Word) → same_word u w ≡ true → u ≡ w
word_same (Node n a) (Node m b) e =
    let p : n.0 ≡ m.0 = eqb-true n.0 m.0 (and_left _ _ e) in
    let q : a ≡ b = node_word_same a b (and_right _ _ e) in
    λ i. Node record { 0 = p i } (q i)
word_same (Scx s a) (Scx t b) e =
    let p : s.0 ≡ t.0 = eqb-true s.0 t.0 (and_left _ _ e) in
    let q : a ≡ b = scx_word_same a b (and_right _ _ e) in
    λ i. Scx record { 0 = p i } (q i)
word_same (Node _ _) (Scx _ _) e = cc
word_same (Scx _ _) (Node _ _) e = cc

eqb_refl : (n : ℕ) → eqb n n ≡ true
eqb_refl n = eq-eqb n n refl

side_refl : (a : Side) → same_side a a ≡ true
side_refl Left = refl
side_refl Right = refl

settled_refl : (a : SettledPart) → same_settled a a ≡ true
settled_refl Head = refl
settled_refl More = refl
settled_refl (Key slot) = eqb_refl (slot_no slot)
settled_refl (Value slot) = eqb_refl (slot_no slot)
settled_refl (High slot) = eqb_refl (slot_no slot)

pub node_word_refl : (a : NodeWord) → same_node_word a a ≡ true
node_word_refl (Settled p) = settled_refl p
node_word_refl (Child a) = side_refl a
node_word_refl Info = refl
node_word_refl Marked = refl

scx_word_refl : (a : ScxWord) → same_scx_word a a ≡ true
scx_word_refl State = refl
scx_word_refl AllFrozen = refl
scx_word_refl Plan = refl
scx_word_refl New = refl
scx_word_refl Old = refl
scx_word_refl (Member j) = eqb_refl j
scx_word_refl (Seen j) = eqb_refl j
scx_word_refl Call = refl

pub word_refl : (w : Word) → same_word w w ≡ true
word_refl (Node n a) = rw (eqb_refl, node_word_refl) refl
word_refl (Scx s a) = rw (eqb_refl, scx_word_refl) refl

pub word_apart : (u w : Word) → same_word u w ≡ false → w ≢ u
word_apart u w e same = let x : same_word u u ≡ false = ap (same_word u) (sym same) ∙ e in let y : same_word u u ≡ true = word_refl u in cc
