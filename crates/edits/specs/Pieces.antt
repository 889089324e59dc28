-- What fresh nodes are to hold.
use Rattle.std.specs.Prelude.{ℕ, suc, ◌+◌, ◌*◌, ◌-◌, ◌/◌, ◌%◌, ◌^◌, min, nat_lt, Bool, true, false, if◌then◌else◌, List, length, Option, Some, None}
use Rattle.histories.specs.Common.{NodeNo, Left, Right, NodeWord, Settled, Child, Info, Marked, Head, More, Key, Value, High, Slot, First as FirstSlot, field_index_of, side_of, Remaining, slot_no, first_key}
use Rattle.arena.specs.Heads.{head_word}
use Rattle.template.specs.Common.{child_of, snap_at, Snap, Update, Pair, slot_behind}
use Rattle.edits.specs.declared.edit.Nodes.{Nodes}
use Rattle.edits.specs.declared.edit.Nth.{Nth}
use Rattle.edits.specs.declared.edit.Nth.TheVariants.{First, Second, Third}
use Rattle.edits.specs.declared.edit.Work.{Work}
use Rattle.edits.specs.declared.piece.Piece.{Piece}
use Rattle.edits.specs.declared.piece.Piece.TheVariants.{Leaf, Fork}
use Rattle.edits.specs.Pairs.{pair_at}

-- the word of a head, of a level that a word can hold
abbrev pub piece_head : ℕ → Bool → ℕ → ℕ
piece_head level leaf class = head_word record { level = min level (2 ^ 61 - 1); leaf = leaf; class = class % 4 }

-- what a word of a leaf after its head is to hold
abbrev pub leaf_word : List Pair → NodeWord → ℕ
leaf_word pairs (Settled More) = length pairs - 1
leaf_word pairs (Settled (Key slot)) = (pair_at pairs (slot_no slot)).key
leaf_word pairs (Settled (Value slot)) = (pair_at pairs (slot_no slot)).value % 2 ^ 64
leaf_word pairs (Settled (High slot)) = (pair_at pairs (slot_no slot)).value / 2 ^ 64
leaf_word pairs _ = 0

-- What a word of the node is to hold. What is not filled is 0.
abbrev pub word_of : Piece → NodeWord → ℕ
word_of (Leaf level class pairs) (Settled Head) = piece_head level true class
word_of (Leaf level class pairs) part = leaf_word pairs part
word_of (Fork level class key l r) (Settled Head) = piece_head level false class
word_of (Fork level class key l r) (Settled (Key FirstSlot)) = key
word_of (Fork level class key l r) (Child Left) = l.0
word_of (Fork level class key l r) (Child Right) = r.0
word_of _ _ = 0

-- whether it is a leaf
abbrev pub is_leaf_piece : Piece → Bool
is_leaf_piece (Leaf level class pairs) = true
is_leaf_piece (Fork level class key l r) = false

-- whether the value in this slot has a high half that is not 0
abbrev pub has_high : List Pair → Slot → Bool
has_high pairs slot = nat_lt 0 ((pair_at pairs (slot_no slot)).value / 2 ^ 64)

-- Whether the word is filled: a leaf's count, where it has more than one pair; key and value of
-- each pair, and the high half of the value where that is not 0.
abbrev pub is_filled : Piece → NodeWord → Bool
is_filled (Leaf level class pairs) (Settled Head) = true
is_filled (Leaf level class pairs) (Settled More) = nat_lt 1 (length pairs)
is_filled (Leaf level class pairs) (Settled (Key slot)) = nat_lt (slot_no slot) (length pairs)
is_filled (Leaf level class pairs) (Settled (Value slot)) = nat_lt (slot_no slot) (length pairs)
is_filled (Leaf level class pairs) (Settled (High slot)) = has_high pairs slot
is_filled (Fork level class key l r) (Settled Head) = true
is_filled (Fork level class key l r) (Settled (Key FirstSlot)) = true
is_filled (Fork level class key l r) (Child side) = true
is_filled _ _ = false

-- the words of a node in the order in which they are filled
abbrev pub fill_place : NodeWord → ℕ
fill_place (Settled Head) = 0
fill_place (Settled More) = 1
fill_place (Settled (Key slot)) = 2 + 3 * slot_no slot
fill_place (Settled (Value slot)) = 3 + 3 * slot_no slot
fill_place (Settled (High slot)) = 4 + 3 * slot_no slot
fill_place (Child Left) = 14
fill_place (Child Right) = 15
fill_place Info = 16
fill_place Marked = 17

-- the key of the first pair, if there is one
abbrev pub key_first : List Pair → Option NodeWord
key_first pairs = if nat_lt 0 (length pairs) then Some first_key else None

-- the key in this slot, if it is one
abbrev pub slot_key : Option Slot → Option NodeWord
slot_key None = None
slot_key (Some slot) = Some (Settled (Key slot))

-- the key after the pair of this slot, if there is one
abbrev pub key_behind : List Pair → Slot → Option NodeWord
key_behind pairs slot = slot_key (slot_behind (length pairs - 1) slot)

-- the value in this slot, if the list has a pair there
abbrev pub value_in : List Pair → Slot → Option NodeWord
value_in pairs slot = if nat_lt (slot_no slot) (length pairs) then Some (Settled (Value slot)) else None

-- the word of a leaf that is filled after this one
abbrev pub leaf_behind : List Pair → NodeWord → Option NodeWord
leaf_behind pairs (Settled Head) = if nat_lt 1 (length pairs) then Some (Settled More) else key_first pairs
leaf_behind pairs (Settled More) = key_first pairs
leaf_behind pairs (Settled (Key slot)) = value_in pairs slot
leaf_behind pairs (Settled (Value slot)) = if has_high pairs slot then Some (Settled (High slot)) else key_behind pairs slot
leaf_behind pairs (Settled (High slot)) = key_behind pairs slot
leaf_behind pairs _ = None

-- and of a fork
abbrev pub fork_behind : NodeWord → Option NodeWord
fork_behind (Settled Head) = Some first_key
fork_behind (Settled (Key FirstSlot)) = Some (Child Left)
fork_behind (Child Left) = Some (Child Right)
fork_behind _ = None

-- the word that is filled after this one
abbrev pub part_behind : Piece → NodeWord → Option NodeWord
part_behind (Leaf level class pairs) part = leaf_behind pairs part
part_behind (Fork level class key l r) part = fork_behind part

-- how many words are filled after this one, at most
abbrev pub fills_behind : Piece → NodeWord → ℕ
fills_behind (Leaf level class pairs) part = 1 + 3 * min (length pairs) 4 - fill_place part
fills_behind (Fork level class key l r) (Settled Head) = 3
fills_behind (Fork level class key l r) (Settled (Key FirstSlot)) = 2
fills_behind (Fork level class key l r) (Child Left) = 1
fills_behind (Fork level class key l r) _ = 0

-- and how many in all
abbrev pub many_fills : Piece → ℕ
many_fills p = suc (fills_behind p (Settled Head))

-- so many in the third fresh node, where that many are needed
abbrev pub third_fills : ℕ → (Nth → Piece) → ℕ
third_fills need pieces = if nat_lt 2 need then many_fills (pieces Third) else 0

-- so many in the fresh nodes after this place
abbrev pub fills_after : ℕ → (Nth → Piece) → Nth → ℕ
fills_after need pieces First = if nat_lt 1 need then many_fills (pieces Second) + third_fills need pieces else 0
fills_after need pieces Second = third_fills need pieces
fills_after need pieces Third = 0

-- and in all of them
abbrev pub all_fills : ℕ → (Nth → Piece) → ℕ
all_fills need pieces = many_fills (pieces First) + fills_after need pieces First

-- the fresh node of this place
abbrev pub nth_node : Nodes → Nth → NodeNo
nth_node ns First = ns.first
nth_node ns Second = ns.second
nth_node ns Third = ns.third

-- the last of that many fresh nodes
abbrev pub top_of : ℕ → Nodes → ℕ
top_of need ns =
    if nat_lt 2 need then ns.third.0
    else (if nat_lt 1 need then ns.second.0 else ns.first.0)

-- what is left of a share once a node is taken
abbrev pub less_a_node : Remaining → Remaining
less_a_node left = record left { next_node = left.next_node + 1; nodes = left.nodes - 1 }

-- how many fresh nodes come before this place
abbrev pub nth_no : Nth → ℕ
nth_no First = 0
nth_no Second = 1
nth_no Third = 2

-- the place of the fresh node that is filled after this one
abbrev pub nth_behind : ℕ → Nth → Option Nth
nth_behind need First = if nat_lt 1 need then Some Second else None
nth_behind need Second = if nat_lt 2 need then Some Third else None
nth_behind need Third = None

-- there is nothing to do
abbrev pub no_work : Work
no_work = record { need = 0; plan = record { 0 = 0 } }

-- What the SCX is to do that this work asks for, once these snapshots are taken and these nodes are
-- full: into the field that the plan names goes the last fresh node.
abbrev pub update_for : Work → List Snap → Nodes → Update
update_for w snaps ns = record {
  snaps = snaps;
  plan = w.plan;
  old = child_of (snap_at snaps (field_index_of w.plan.0)) (side_of w.plan.0);
  fresh = record { 0 = top_of w.need ns };
}
