-- What is read of a node, word by word: its head; of a fork of class 0 the key; of a leaf of class
-- 0 how many pairs it has after its first, and then key, value and high half of each.
use Rattle.std.specs.Prelude.{◌≡◌, ℕ, ◌+◌, ◌*◌, ◌-◌, Bool, false, ◌==◌, ◌&&◌, if◌then◌else◌, [], ◌∷◌, ◌++◌, length, take, Option, Some, None, IfSome, is_none, unwrap_or}
use Rattle.arena.specs.declared.head.Head.{Head}
use Rattle.histories.specs.Common.{Settled, SettledPart, Head as HeadPart, More, Key, Value, High, Slot, First, Word, head_of, node, slot_no, NodeNo}
use Rattle.template.specs.Common.{Pair, slot_behind, wide_value, held_behind, held_pairs, pair}
use Rattle.edits.specs.declared.reading.Known.{Known}
use Rattle.edits.specs.declared.reading.Known.TheVariants.{Nothing, Leaf}
use Rattle.edits.specs.declared.reading.Reading.{Reading}

-- nothing is read
abbrev pub nothing_read : Reading
nothing_read = record { head = None; more = None; slot = Some First; key = None; low = None; pairs = [] }

-- of a leaf with this head and this many pairs after its first, these two are
abbrev pub leaf_begun : Head → ℕ → Reading
leaf_begun head more = record { head = Some head; more = Some more; slot = Some First; key = None; low = None; pairs = [] }

-- what is read of a node at first, where this is known of it
abbrev pub known_reading : Known → Reading
known_reading Nothing = nothing_read
known_reading (Leaf head more) = leaf_begun head more

-- the node that is read, if one is, and what is read of it at first
abbrev pub known_reads : Option (NodeNo × Known) → Option (NodeNo × Reading)
known_reads None = None
known_reads (Some x) = Some (x.0, known_reading x.1)

-- the word that is read next of the pair in this slot, if there is one
abbrev pub next_in_pair : Option Slot → Option ℕ → Option ℕ → Option SettledPart
next_in_pair None key low = None
next_in_pair (Some slot) None low = Some (Key slot)
next_in_pair (Some slot) (Some k) None = Some (Value slot)
next_in_pair (Some slot) (Some k) (Some l) = Some (High slot)

-- of a leaf
abbrev pub next_in_leaf : Reading → Option ℕ → Option SettledPart
next_in_leaf r None = Some More
next_in_leaf r (Some more) = next_in_pair r.slot r.key r.low

-- of a fork
abbrev pub next_in_fork : Option ℕ → Option SettledPart
next_in_fork None = Some (Key First)
next_in_fork (Some k) = None

-- of a node with this head
abbrev pub next_behind_head : Reading → Option Head → Option SettledPart
next_behind_head r None = Some HeadPart
next_behind_head r (Some head) = if head.class == 0 then (if head.leaf then next_in_leaf r r.more else next_in_fork r.key) else None

-- the word that is read next, none at the end
abbrev pub next_read : Reading → Option SettledPart
next_read r = next_behind_head r r.head

-- the pair in this slot, once its high half is read
abbrev pub pair_read : Reading → ℕ → Pair
pair_read r v = pair (unwrap_or r.key 0) (wide_value (unwrap_or r.low 0) v)

-- what is read once this word was found to hold v
abbrev pub read_with : Reading → SettledPart → ℕ → Reading
read_with r HeadPart v = record r { head = Some (head_of v) }
read_with r More v = record r { more = Some v }
read_with r (Key slot) v = record r { key = Some v }
read_with r (Value slot) v = record r { low = Some v }
read_with r (High slot) v = record { head = r.head; more = r.more; slot = slot_behind (unwrap_or r.more 0) slot; key = None; low = None; pairs = take 5 (r.pairs ++ pair_read r v ∷ []) }

-- and once these words of the pair in this slot were found to hold key, value and high half
abbrev pub pair_read_with : Reading → Slot → ℕ → ℕ → ℕ → Reading
pair_read_with r slot key low high = read_with (read_with (read_with r (Key slot) key) (Value slot) low) (High slot) high

-- How many words are left

-- one for a word that is not read
abbrev pub if_unread : Option ℕ → ℕ
if_unread None = 1
if_unread (Some v) = 0

-- how many words at most of the pairs from this slot on: three of each
abbrev pub left_in_pairs : Option Slot → Option ℕ → Option ℕ → ℕ
left_in_pairs None key low = 0
left_in_pairs (Some slot) None low = 12 - 3 * slot_no slot
left_in_pairs (Some slot) (Some k) None = 11 - 3 * slot_no slot
left_in_pairs (Some slot) (Some k) (Some l) = 10 - 3 * slot_no slot

-- of a node with this head
abbrev pub left_behind_head : Reading → Option Head → ℕ
left_behind_head r None = 2 + left_in_pairs r.slot r.key r.low
left_behind_head r (Some head) = if head.class == 0 then (if head.leaf then if_unread r.more + left_in_pairs r.slot r.key r.low else if_unread r.key) else 0

-- how many words are read from now on, at most
abbrev pub reads_left : Reading → ℕ
reads_left r = left_behind_head r r.head

-- What is known of it

-- whether a leaf's head is read
abbrev pub is_leaf_read : Option Head → Bool
is_leaf_read None = false
is_leaf_read (Some head) = head.leaf

-- whether it is a leaf that is read, and of the next pair nothing: a key that is read next then
-- begins a pair, and no fork
abbrev pub is_at_pair : Reading → Bool
is_at_pair r = is_leaf_read r.head && is_none r.low && is_none r.key

-- the slot that is read, the first of a node that is none
abbrev pub slot_read : Reading → Slot
slot_read r = unwrap_or r.slot First

-- what is read of this node is what it holds: the pairs that are read, and those from the slot on
-- that is read, are all that it holds
pub record IsRead (f : Word → ℕ) (n : ℕ) (r : Reading) : Type 0 where
  pub head : IfSome r.head (λ head. head_of (f (node n (Settled HeadPart))) ≡ head)
  pub more : IfSome r.more (λ more. f (node n (Settled More)) ≡ more)
  pub key : IfSome r.key (λ k. f (node n (Settled (Key (slot_read r)))) ≡ k)
  pub low : IfSome r.low (λ l. f (node n (Settled (Value (slot_read r)))) ≡ l)
  pub pairs : r.pairs ++ held_behind f n r.slot ≡ held_pairs f n
  pub count : IfSome r.slot (λ slot. length r.pairs ≡ slot_no slot)
  pub first : is_leaf_read r.head ≡ false → r.slot ≡ Some First
