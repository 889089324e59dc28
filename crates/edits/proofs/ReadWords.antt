-- What an update waits for while it reads words for its fresh nodes.
use Rattle.std.proofs.Common.{◌≡◌, ℕ, suc, ◌+◌, ◌-◌, ◌*◌, ◌<◌, ◌≤◌, Bool, true, false, ◌==◌, ◌&&◌, Some, None, Option, [], ◌∷◌, ◌++◌, length, take, eq-eqb, refl, sym, ◌∙◌, ap, subst, arith, append_assoc, append-nil, length-append}
use Rattle.std.specs.Prelude.{if◌then◌else◌, nat_lt, IfSome, is_none, unwrap_or, Ok}
use Rattle.arena.specs.declared.head.Head.{Head}
use Rattle.histories.specs.Common.{Layout, NodeNo, Load as LoadAccess, LoadSettled, Settled, SettledPart, Head as HeadPart, More, Key, Value}
use Rattle.histories.specs.Common.{High, Slot, Word, Node as NodeOf, head_of, History, value, Call, begun_at, Remaining, node, slot_no}
use Rattle.arena.specs.declared.word.Slot.TheVariants as slots
use Rattle.template.specs.Common.{slot_behind, wide_value, held_from, held_behind, held_pairs, pair}
use Rattle.ordered_map.proofs.Lemmas.{held_next}
use Rattle.template.specs.declared.walk.Found.{Found}
use Rattle.edits.specs.declared.edit.Nth.{Nth}
use Rattle.edits.specs.declared.edit.Nth.TheVariants.{First}
use Rattle.edits.specs.declared.piece.Piece.{Piece}
use Rattle.edits.specs.declared.reading.Reading.{Reading}
use Rattle.edits.specs.declared.update.UpdateAt.TheVariants.{Read}
use Rattle.edits.specs.declared.update.UpdateRun.{UpdateRun}
use Rattle.edits.specs.Next.{ComesNearer, HasSpentForNext, UpdateGoesOn, standing, told}
use Rattle.edits.specs.Steps.{try_left}
use Rattle.edits.specs.Tries.{IsTry}
use Rattle.edits.specs.declared.update.Next.TheVariants.{Read as ReadNext}
use Rattle.edits.specs.Edits.{EditMeaning}
use Rattle.edits.specs.Known.{IsReadWhole, MayReadAt, CanWork, CanRead, CanFill, CanFillNode, Reads, TryWaits, piece, top}
use Rattle.edits.specs.Laws.Hand.{HasFilledTo}
use Rattle.edits.specs.Laws.PieceFills.{HoldsWords, blank_before, head_filled, the_same}
use Rattle.edits.specs.Pieces.{nth_node}
use Rattle.edits.specs.declared.edit.Work.{Work}
use Rattle.edits.proofs.NodePlaces.{piece_is}
use Rattle.edits.specs.Readings.{IsRead, leaf_begun, nothing_read, if_unread, is_at_pair, is_leaf_read, left_behind_head, left_in_pairs, next_behind_head, next_in_fork, next_in_leaf, next_in_pair, next_read, pair_read, pair_read_with, read_with, reads_left, slot_read}
use Rattle.edits.specs.Sound.{LooksWell}
use Rattle.edits.proofs.Nearer.{as_many, no_more, some_left, to_next_read}
use Rattle.edits.proofs.PairPlaces.{take_whole}

-- Pieces by their numbers

-- nodes that are full stay so where the pieces are the same
filled_same : (lay : Layout) (h : History) (c : ℕ) (left : Remaining) (first top n : ℕ) (p q : ℕ → Piece) → ((k : ℕ) → first ≤ k → k < n → p k ≡ q k) → HasFilledTo lay h c left first top n p → HasFilledTo lay h c left first top n q
filled_same lay h c left first top n p q same x = record {
  some = x.some;
  hand = x.hand;
  share = x.share;
  next = x.next;
  over = x.over;
  taken = x.taken;
  full = λ k i j t. subst (λ z. HoldsWords h k z) (same k i j) (x.full k i j t);
  blank = x.blank;
}

-- What is read

some_part : {A : Type 0} (o : Option A) (a : A) (P : A → Type 0) → o ≡ Some a → IfSome o P → P a
some_part None a P e x = absurd (let z : None ≡ Some a = e in cc)
some_part (Some b) a P e x = subst P (the_same b a e) x

-- the slot after a slot is the next one
next_count : (more : ℕ) (s : Slot) (n : ℕ) → n ≡ suc (slot_no s) → IfSome (slot_behind more s) (λ t. n ≡ slot_no t)
next_count more slots.First n e = go (nat_lt 0 more)
  where
    go : (t : Bool) → IfSome (if t then Some slots.Second else None) (λ t. n ≡ slot_no t)
    go true = e
    go false = tt
next_count more slots.Second n e = go (nat_lt 1 more)
  where
    go : (t : Bool) → IfSome (if t then Some slots.Third else None) (λ t. n ≡ slot_no t)
    go true = e
    go false = tt
next_count more slots.Third n e = go (nat_lt 2 more)
  where
    go : (t : Bool) → IfSome (if t then Some slots.Fourth else None) (λ t. n ≡ slot_no t)
    go true = e
    go false = tt
next_count more slots.Fourth n e = tt

few_slots : (s : Slot) → slot_no s < 4
few_slots slots.First = omega arith
few_slots slots.Second = omega arith
few_slots slots.Third = omega arith
few_slots slots.Fourth = omega arith

module _ (f : Word → ℕ) (n : ℕ) (r : Reading) (v : ℕ) (x : IsRead f n r) where
  abbrev Then : SettledPart → Type 0
  Then part = f (node n (Settled part)) ≡ v → IsRead f n (read_with r part v)

  head_told : r.head ≡ None → Then HeadPart
  head_told h e = record { head = ap head_of e; more = x.more; key = x.key; low = x.low; pairs = x.pairs; count = x.count; first = λ leaf. x.first (rw h refl) }

  more_told : Then More
  more_told e = record { head = x.head; more = e; key = x.key; low = x.low; pairs = x.pairs; count = x.count; first = x.first }

  key_told : (s : Slot) → r.slot ≡ Some s → Then (Key s)
  key_told s at e = record { head = x.head; more = x.more; key = rw at e; low = x.low; pairs = x.pairs; count = x.count; first = x.first }

  value_told : (s : Slot) → r.slot ≡ Some s → Then (Value s)
  value_told s at e = record { head = x.head; more = x.more; key = x.key; low = rw at e; pairs = x.pairs; count = x.count; first = x.first }

  -- a pair more is read
  high_told : (s : Slot) (more k l : ℕ) → is_leaf_read r.head ≡ true → r.more ≡ Some more → r.slot ≡ Some s → r.key ≡ Some k → r.low ≡ Some l → Then (High s)
  high_told s more k l leaf is_more at is_key is_low e = record {
    head = x.head;
    more = x.more;
    key = tt;
    low = tt;
    pairs = ap (λ ps. ps ++ held_behind f n behind) whole ∙ append_assoc r.pairs (pair_read r v ∷ []) (held_behind f n behind) ∙ ap (λ ps. r.pairs ++ ps) (sym here) ∙ rest;
    count = subst (λ ps. IfSome behind (λ t. length ps ≡ slot_no t)) (sym whole) (next_count (unwrap_or r.more 0) s (length (r.pairs ++ pair_read r v ∷ [])) longer);
    first = λ no. absurd (let z : true ≡ false = sym leaf ∙ no in cc);
  }
    where
      behind : Option Slot
      behind = slot_behind (unwrap_or r.more 0) s

      many : length r.pairs ≡ slot_no s
      many = some_part r.slot s (λ t. length r.pairs ≡ slot_no t) at x.count

      longer : length (r.pairs ++ pair_read r v ∷ []) ≡ suc (slot_no s)
      longer = length-append r.pairs (pair_read r v ∷ []) ∙ (let m = many in omega (arith, m))

      whole : take 5 (r.pairs ++ pair_read r v ∷ []) ≡ r.pairs ++ pair_read r v ∷ []
      whole = take_whole 5 (r.pairs ++ pair_read r v ∷ []) (let a = longer in let b = few_slots s in omega (arith, a, b))

      slot_is : slot_read r ≡ s
      slot_is = ap (λ o. unwrap_or o slots.First) at

      key_is : f (node n (Settled (Key s))) ≡ unwrap_or r.key 0
      key_is = subst (λ (t : Slot). f (node n (Settled (Key t))) ≡ unwrap_or r.key 0) slot_is (some_part r.key k (λ w. f (node n (Settled (Key (slot_read r)))) ≡ w) is_key x.key ∙ sym (ap (λ o. unwrap_or o 0) is_key))

      low_is : f (node n (Settled (Value s))) ≡ unwrap_or r.low 0
      low_is = subst (λ (t : Slot). f (node n (Settled (Value t))) ≡ unwrap_or r.low 0) slot_is (some_part r.low l (λ w. f (node n (Settled (Value (slot_read r)))) ≡ w) is_low x.low ∙ sym (ap (λ o. unwrap_or o 0) is_low))

      more_is : f (node n (Settled More)) ≡ unwrap_or r.more 0
      more_is = some_part r.more more (λ w. f (node n (Settled More)) ≡ w) is_more x.more ∙ sym (ap (λ o. unwrap_or o 0) is_more)

      here : held_from f n s ≡ pair_read r v ∷ held_behind f n behind
      here = held_next f n s ∙ (λ i. pair (key_is i) (wide_value (low_is i) (e i)) ∷ held_behind f n (slot_behind (more_is i) s))

      rest : r.pairs ++ held_from f n s ≡ held_pairs f n
      rest = ap (λ o. r.pairs ++ held_behind f n o) (sym at) ∙ x.pairs

  pair_told : (part : SettledPart) (more : ℕ) → is_leaf_read r.head ≡ true → r.more ≡ Some more → (s : Option Slot) → r.slot ≡ s → (k : Option ℕ) → r.key ≡ k → (l : Option ℕ) → r.low ≡ l → next_in_pair s k l ≡ Some part → Then part
  pair_told part more leaf is_more None at k is_key l is_low e = absurd (let z : None ≡ Some part = e in cc)
  pair_told part more leaf is_more (Some s) at None is_key l is_low e = subst Then (the_same (Key s) part e) (key_told s at)
  pair_told part more leaf is_more (Some s) at (Some k) is_key None is_low e = subst Then (the_same (Value s) part e) (value_told s at)
  pair_told part more leaf is_more (Some s) at (Some k) is_key (Some l) is_low e = subst Then (the_same (High s) part e) (high_told s more k l leaf is_more at is_key is_low)

  leaf_told : (part : SettledPart) → is_leaf_read r.head ≡ true → (m : Option ℕ) → r.more ≡ m → next_in_leaf r m ≡ Some part → Then part
  leaf_told part leaf None is_more e = subst Then (the_same More part e) more_told
  leaf_told part leaf (Some m) is_more e = pair_told part m leaf is_more r.slot refl r.key refl r.low refl e

  fork_told : (part : SettledPart) → is_leaf_read r.head ≡ false → (k : Option ℕ) → next_in_fork k ≡ Some part → Then part
  fork_told part fork None e = subst Then (the_same (Key slots.First) part e) (key_told slots.First (x.first fork))
  fork_told part fork (Some k) e = absurd (let z : None ≡ Some part = e in cc)

  low_told : (part : SettledPart) (leaf : Bool) → is_leaf_read r.head ≡ leaf → (if leaf then next_in_leaf r r.more else next_in_fork r.key) ≡ Some part → Then part
  low_told part true is e = leaf_told part is r.more refl e
  low_told part false is e = fork_told part is r.key e

  node_told : (part : SettledPart) (o : Option Head) → r.head ≡ o → next_behind_head r o ≡ Some part → Then part
  node_told part None is e = subst Then (the_same HeadPart part e) (head_told is)
  node_told part (Some head) is e = go (head.class == 0) e
    where
      go : (low : Bool) → (if low then (if head.leaf then next_in_leaf r r.more else next_in_fork r.key) else None) ≡ Some part → Then part
      go true d = low_told part head.leaf (rw is refl) d
      go false d = absurd (let z : None ≡ Some part = d in cc)

  -- what is read stays right, once the next word has been found to hold what it holds
  pub read_one : (part : SettledPart) → next_read r ≡ Some part → Then part
  read_one part e = node_told part r.head refl e

-- How many words are left

one_unread : (o : Option ℕ) → if_unread o ≤ 1
one_unread None = omega arith
one_unread (Some v) = omega arith

module _ (r : Reading) (v : ℕ) where
  abbrev Fewer : ℕ → SettledPart → Type 0
  Fewer left part = reads_left (read_with r part v) < left

  head_fewer : Fewer (2 + left_in_pairs r.slot r.key r.low) HeadPart
  head_fewer = go ((head_of v).class == 0) (head_of v).leaf
    where
      go : (low leaf : Bool) → (if low then (if leaf then if_unread r.more + left_in_pairs r.slot r.key r.low else if_unread r.key) else 0) < 2 + left_in_pairs r.slot r.key r.low
      go true true = let a = one_unread r.more in omega (arith, a)
      go true false = let a = one_unread r.key in omega (arith, a)
      go false leaf = omega arith

  behind_fewer : (more : ℕ) (s : Slot) → left_in_pairs (slot_behind more s) None None < 10 - 3 * slot_no s
  behind_fewer more slots.First = go (nat_lt 0 more)
    where
      go : (t : Bool) → left_in_pairs (if t then Some slots.Second else None) None None < 10
      go true = omega arith
      go false = omega arith
  behind_fewer more slots.Second = go (nat_lt 1 more)
    where
      go : (t : Bool) → left_in_pairs (if t then Some slots.Third else None) None None < 7
      go true = omega arith
      go false = omega arith
  behind_fewer more slots.Third = go (nat_lt 2 more)
    where
      go : (t : Bool) → left_in_pairs (if t then Some slots.Fourth else None) None None < 4
      go true = omega arith
      go false = omega arith
  behind_fewer more slots.Fourth = omega arith

  key_fewer : (s : Slot) (l : Option ℕ) → left_in_pairs (Some s) (Some v) l < 12 - 3 * slot_no s
  key_fewer s None = let f = few_slots s in omega (arith, f)
  key_fewer s (Some l) = let f = few_slots s in omega (arith, f)

  pair_fewer : (head : Head) (part : SettledPart) (more : ℕ) → r.more ≡ Some more → (s : Option Slot) → r.slot ≡ s → (k : Option ℕ) → r.key ≡ k → (l : Option ℕ) → r.low ≡ l → next_in_pair s k l ≡ Some part → if_unread (read_with r part v).more + left_in_pairs (read_with r part v).slot (read_with r part v).key (read_with r part v).low < left_in_pairs s k l
  pair_fewer head part more is_more None at k is_key l is_low e = absurd (let z : None ≡ Some part = e in cc)
  pair_fewer head part more is_more (Some s) at None is_key l is_low e = subst (λ q. if_unread (read_with r q v).more + left_in_pairs (read_with r q v).slot (read_with r q v).key (read_with r q v).low < 12 - 3 * slot_no s) (the_same (Key s) part e) (rw (is_more, at) (let k = key_fewer s r.low in omega (arith, k)))
  pair_fewer head part more is_more (Some s) at (Some k) is_key None is_low e = subst (λ q. if_unread (read_with r q v).more + left_in_pairs (read_with r q v).slot (read_with r q v).key (read_with r q v).low < 11 - 3 * slot_no s) (the_same (Value s) part e) (rw (is_more, at, is_key) (let f = few_slots s in omega (arith, f)))
  pair_fewer head part more is_more (Some s) at (Some k) is_key (Some l) is_low e = subst (λ q. if_unread (read_with r q v).more + left_in_pairs (read_with r q v).slot (read_with r q v).key (read_with r q v).low < 10 - 3 * slot_no s) (the_same (High s) part e) (rw is_more (let k = behind_fewer more s in omega (arith, k)))

  abbrev left_in_leaf : Reading → ℕ
  left_in_leaf q = if_unread q.more + left_in_pairs q.slot q.key q.low

  leaf_fewer : (head : Head) (part : SettledPart) → (m : Option ℕ) → r.more ≡ m → next_in_leaf r m ≡ Some part → left_in_leaf (read_with r part v) < if_unread m + left_in_pairs r.slot r.key r.low
  leaf_fewer head part None is_more e = subst (λ q. left_in_leaf (read_with r q v) < 1 + left_in_pairs r.slot r.key r.low) (the_same More part e) (omega arith)
  leaf_fewer head part (Some m) is_more e = let y = pair_fewer head part m is_more r.slot refl r.key refl r.low refl e in omega (arith, y)

  fork_fewer : (part : SettledPart) (k : Option ℕ) → next_in_fork k ≡ Some part → if_unread (read_with r part v).key < if_unread k
  fork_fewer part None e = subst (λ q. if_unread (read_with r q v).key < 1) (the_same (Key slots.First) part e) (omega arith)
  fork_fewer part (Some k) e = absurd (let z : None ≡ Some part = e in cc)

  -- a word that is read after a head leaves that
  same_head : (head : Head) (part : SettledPart) (low leaf : Bool) → (if low then (if leaf then next_in_leaf r r.more else next_in_fork r.key) else None) ≡ Some part → (read_with r part v).head ≡ r.head
  same_head head part false leaf e = absurd (let z : None ≡ Some part = e in cc)
  same_head head part true false e = go r.key e
    where
      go : (k : Option ℕ) → next_in_fork k ≡ Some part → (read_with r part v).head ≡ r.head
      go None d = subst (λ q. (read_with r q v).head ≡ r.head) (the_same (Key slots.First) part d) refl
      go (Some k) d = absurd (let z : None ≡ Some part = d in cc)
  same_head head part true true e = go r.more e
    where
      pair_head : (s : Option Slot) (k l : Option ℕ) → next_in_pair s k l ≡ Some part → (read_with r part v).head ≡ r.head
      pair_head None k l d = absurd (let z : None ≡ Some part = d in cc)
      pair_head (Some s) None l d = subst (λ q. (read_with r q v).head ≡ r.head) (the_same (Key s) part d) refl
      pair_head (Some s) (Some k) None d = subst (λ q. (read_with r q v).head ≡ r.head) (the_same (Value s) part d) refl
      pair_head (Some s) (Some k) (Some l) d = subst (λ q. (read_with r q v).head ≡ r.head) (the_same (High s) part d) refl

      go : (m : Option ℕ) → next_in_leaf r m ≡ Some part → (read_with r part v).head ≡ r.head
      go None d = subst (λ q. (read_with r q v).head ≡ r.head) (the_same More part d) refl
      go (Some m) d = pair_head r.slot r.key r.low d

  low_fewer : (head : Head) (part : SettledPart) (low leaf : Bool) → (if low then (if leaf then next_in_leaf r r.more else next_in_fork r.key) else None) ≡ Some part
      → (if low then (if leaf then left_in_leaf (read_with r part v) else if_unread (read_with r part v).key) else 0) < (if low then (if leaf then left_in_leaf r else if_unread r.key) else 0)
  low_fewer head part false leaf e = absurd (let z : None ≡ Some part = e in cc)
  low_fewer head part true true e = leaf_fewer head part r.more refl e
  low_fewer head part true false e = fork_fewer part r.key e

  node_fewer : (part : SettledPart) (o : Option Head) → r.head ≡ o → next_behind_head r o ≡ Some part → reads_left (read_with r part v) < left_behind_head r o
  node_fewer part None is e = subst (λ q. reads_left (read_with r q v) < 2 + left_in_pairs r.slot r.key r.low) (the_same HeadPart part e) head_fewer
  node_fewer part (Some head) is e = rw (same_head head part (head.class == 0) head.leaf e ∙ is) (low_fewer head part (head.class == 0) head.leaf e)

  -- each word that is read is one less
  pub reads_fewer : (part : SettledPart) → next_read r ≡ Some part → reads_left (read_with r part v) < reads_left r
  reads_fewer part e = node_fewer part r.head refl e

-- What is read next in a leaf

-- where the next word is of a pair of a leaf, head and count are read, and stay
leaf_goes : (r q : Reading) (part : SettledPart) (behind : Option SettledPart) → q.head ≡ r.head → q.more ≡ r.more → (HeadPart ≡ part → ⊥) → (More ≡ part → ⊥) → (is_leaf_read r.head ≡ false → next_in_fork r.key ≡ Some part → ⊥)
    → (next_in_pair r.slot r.key r.low ≡ Some part → next_in_pair q.slot q.key q.low ≡ behind) → next_read r ≡ Some part → next_read q ≡ behind
leaf_goes r q part behind heads mores no_head no_more no_fork pair e = subst (λ o. next_behind_head q o ≡ behind) (sym heads) (at_head r.head refl e)
  where
    in_leaf : (m : Option ℕ) → next_in_leaf r m ≡ Some part → next_in_leaf q m ≡ behind
    in_leaf None d = absurd (no_more (the_same More part d))
    in_leaf (Some m) d = pair d

    in_class : (low leaf : Bool) → is_leaf_read r.head ≡ leaf → (if low then (if leaf then next_in_leaf r r.more else next_in_fork r.key) else None) ≡ Some part → (if low then (if leaf then next_in_leaf q q.more else next_in_fork q.key) else None) ≡ behind
    in_class true true is d = subst (λ o. next_in_leaf q o ≡ behind) (sym mores) (in_leaf r.more d)
    in_class true false is d = absurd (no_fork is d)
    in_class false leaf is d = absurd (let z : None ≡ Some part = d in cc)

    at_head : (o : Option Head) → r.head ≡ o → next_behind_head r o ≡ Some part → next_behind_head q o ≡ behind
    at_head None is d = absurd (no_head (the_same HeadPart part d))
    at_head (Some head) is d = in_class (head.class == 0) head.leaf (ap is_leaf_read is) d

fork_has_key : (part : SettledPart) (k : Option ℕ) → (Key slots.First ≡ part → ⊥) → next_in_fork k ≡ Some part → ⊥
fork_has_key part None other d = other (the_same (Key slots.First) part d)
fork_has_key part (Some k) other d = let z : None ≡ Some part = d in cc

first_true : (a b : Bool) → (a && b) ≡ true → a ≡ true
first_true true b e = refl
first_true false b e = absurd (let z : false ≡ true = e in cc)

last_true : (a b : Bool) → (a && b) ≡ true → b ≡ true
last_true true b e = e
last_true false b e = absurd (let z : false ≡ true = e in cc)

module _ (r : Reading) (slot : Slot) (v : ℕ) where
  -- after a key the value without its high half, where of that nothing is read yet
  pub key_then_value : is_at_pair r ≡ true → next_read r ≡ Some (Key slot) → next_read (read_with r (Key slot) v) ≡ Some (Value slot)
  key_then_value at e = leaf_goes r (read_with r (Key slot) v) (Key slot) (Some (Value slot)) refl refl (λ q. cc) (λ q. cc) (λ fork d. let z : true ≡ false = sym (first_true (is_leaf_read r.head) (is_none r.low) (first_true (is_leaf_read r.head && is_none r.low) (is_none r.key) at)) ∙ fork in cc) (in_pair r.slot r.key r.low (last_true (is_leaf_read r.head) (is_none r.low) (first_true (is_leaf_read r.head && is_none r.low) (is_none r.key) at))) e
    where
      in_pair : (s : Option Slot) (k l : Option ℕ) → is_none l ≡ true → next_in_pair s k l ≡ Some (Key slot) → next_in_pair s (Some v) l ≡ Some (Value slot)
      in_pair None k l free d = absurd (let z : None ≡ Some (Key slot) = d in cc)
      in_pair (Some s) None None free d = let z : Some (Key s) ≡ Some (Key slot) = d in cc
      in_pair (Some s) None (Some l) free d = absurd (let z : false ≡ true = free in cc)
      in_pair (Some s) (Some k) None free d = absurd (let z : Some (Value s) ≡ Some (Key slot) = d in cc)
      in_pair (Some s) (Some k) (Some l) free d = absurd (let z : false ≡ true = free in cc)

  -- after that the high half
  pub value_then_high : next_read r ≡ Some (Value slot) → next_read (read_with r (Value slot) v) ≡ Some (High slot)
  value_then_high e = leaf_goes r (read_with r (Value slot) v) (Value slot) (Some (High slot)) refl refl (λ q. cc) (λ q. cc) (λ fork. fork_has_key (Value slot) r.key (λ q. cc)) (in_pair r.slot r.key r.low) e
    where
      in_pair : (s : Option Slot) (k l : Option ℕ) → next_in_pair s k l ≡ Some (Value slot) → next_in_pair s k (Some v) ≡ Some (High slot)
      in_pair None k l d = absurd (let z : None ≡ Some (Value slot) = d in cc)
      in_pair (Some s) None l d = absurd (let z : Some (Key s) ≡ Some (Value slot) = d in cc)
      in_pair (Some s) (Some k) None d = let z : Some (Value s) ≡ Some (Value slot) = d in cc
      in_pair (Some s) (Some k) (Some l) d = absurd (let z : Some (High s) ≡ Some (Value slot) = d in cc)

  -- and after that the next pair
  pub high_then_pair : next_read r ≡ Some (High slot) → next_read (read_with r (High slot) v) ≡ next_in_pair (slot_behind (unwrap_or r.more 0) slot) None None
  high_then_pair e = leaf_goes r (read_with r (High slot) v) (High slot) (next_in_pair (slot_behind (unwrap_or r.more 0) slot) None None) refl refl (λ q. cc) (λ q. cc) (λ fork. fork_has_key (High slot) r.key (λ q. cc)) (λ d. refl) e

-- so it continues where all three words of a pair are kept at once
pub pair_goes : (r q : Reading) (slot : Slot) (key low high : ℕ) (o : Option Slot) → q ≡ pair_read_with r slot key low high → q.slot ≡ o → next_read (read_with (read_with r (Key slot) key) (Value slot) low) ≡ Some (High slot) → next_read q ≡ next_in_pair o None None
pair_goes r q slot key low high o is at e = subst (λ s. next_read q ≡ next_in_pair s None None) at (subst (λ (x : Reading). next_read x ≡ next_in_pair x.slot None None) (sym is) (high_then_pair (read_with (read_with r (Key slot) key) (Value slot) low) slot high e))

-- The machine

module _ {E : Type 0} (e : EditMeaning E) where
  -- it waits for the load
  pub reads_word : {A : Type 0} (m : UpdateRun E A) (c : Call) (h : History) (f : Found) (n : NodeNo) (part : SettledPart) → CanRead e m c h f n → next_read m.read ≡ Some part → TryWaits e (standing m (Read f n part)) c h record { kind = LoadSettled; word = NodeOf n (Settled part); access = LoadAccess }
  reads_word m c h f n part x next = (
    record {
      works = x.work.works;
      full = x.work.full;
      hand = x.work.hand;
      blank = x.work.blank;
      from = x.from;
      is = x.is;
      read = x.read;
      next = next;
    },
    refl,
  )

  -- what is read does not matter yet for the fresh nodes, since none is full
  pub with_read : {A : Type 0} (m : UpdateRun E A) (c : Call) (h : History) (f : Found) (read : Reading) → CanWork e m c h f → CanWork e (record m { read = read }) c h f
  with_read m c h f read x = record {
    works = record { run = x.works.run; since = x.works.since; quiet = x.works.quiet; looked = x.works.looked; enough = x.works.enough; asked = x.works.asked; need = x.works.need; in_order = x.works.in_order; some = x.works.some; guarded = x.works.guarded; untaken = x.works.untaken };
    full = filled_same c.layout h c.pass m.share m.nodes.first.0 (top m) m.nodes.first.0 (piece e m f) (piece e (record m { read = read }) f) (λ k i j. absurd (omega (arith, i, j))) x.full;
    hand = record { lowest = x.hand.lowest; highest = x.hand.highest };
    blank = x.blank;
  }

  -- it begins to read
  pub begins_reading : {A : Type 0} (m : UpdateRun E A) (c : Call) (h : History) (f : Found) (n : NodeNo) (read : Reading) → LooksWell e → CanWork e m c h f → e.reads m.edit f m.snaps.items ≡ Some (n, read) → CanRead e (record m { read = read }) c h f n
  begins_reading m c h f n read looks x is = record {
    work = with_read m c h f read x;
    from = read;
    is = is;
    read = looks.reads m.edit c h f m.snaps.items (n, read) x.works.run (subst (λ (w : Work). 0 < w.need) x.works.asked x.works.need) x.works.looked x.works.enough is;
  }

  -- and continues once the load has found a word
  pub goes_reading : {A : Type 0} (m : UpdateRun E A) (c : Call) (h : History) (f : Found) (n : NodeNo) (part : SettledPart) (v : ℕ) → Reads e m c h f n part → value h (node n.0 (Settled part)) ≡ v → CanRead e (record m { read = read_with m.read part v }) c h f n
  goes_reading m c h f n part v x told = record {
    work = with_read m c h f (read_with m.read part v) record { works = x.works; full = x.full; hand = x.hand; blank = x.blank };
    from = x.from;
    is = x.is;
    read = record { named = x.read.named; inside = x.read.inside; is = read_one (value h) n.0 m.read v x.read.is part x.next told };
  }

  -- it may fill a node that is blank, from its head on
  pub fills_head : {A : Type 0} (m : UpdateRun E A) (c : Call) (h : History) (f : Found) (nth : Nth) → CanFillNode e m c h f nth → CanFill e m c h f nth (Settled HeadPart)
  fills_head m c h f nth x = record {
    fills = record { works = x.works; full = x.full; hand = x.hand; read = x.read; whole = x.whole; part_is = head_filled (piece e m f (nth_node m.nodes nth).0) };
    same = piece_is (λ i. e.pieces m.edit f m.snaps.items m.nodes m.read i) m.nodes m.work.need nth x.works.need x.works.in_order;
    may = tt;
    words = blank_before h (nth_node m.nodes nth).0 (piece e m f (nth_node m.nodes nth).0) x.blank;
  }

  -- the first, once all is read
  pub all_read : {A : Type 0} (m : UpdateRun E A) (c : Call) (h : History) (f : Found) (n : NodeNo) → CanRead e m c h f n → next_read m.read ≡ None → CanFillNode e m c h f First
  all_read m c h f n x none = record {
    works = x.work.works;
    full = x.work.full;
    hand = x.work.hand;
    blank = x.work.blank;
    read = subst (λ o. MayReadAt c.layout h o m.read) (sym x.is) x.read;
    whole = subst (λ o. IsReadWhole o m.read) (sym x.is) none;
  }

  -- or where nothing is
  pub none_read : {A : Type 0} (m : UpdateRun E A) (c : Call) (h : History) (f : Found) → CanWork e m c h f → e.reads m.edit f m.snaps.items ≡ None → CanFillNode e m c h f First
  none_read m c h f x is = record {
    works = x.works;
    full = x.full;
    hand = x.hand;
    blank = x.blank;
    read = subst (λ o. MayReadAt c.layout h o m.read) (sym is) tt;
    whole = subst (λ o. IsReadWhole o m.read) (sym is) tt;
  }

  -- once a word is found after which another one is read, it continues with that
  pub told_turn : {A : Type 0} (m : UpdateRun E A) (c : Call) (b h : History) (f : Found) (n : NodeNo) (part next : SettledPart) (v : ℕ) → IsTry c b h m.limit m.tries → Reads e m (begun_at c b) h f n part → value h (node n.0 (Settled part)) ≡ v → next_read (read_with m.read part v) ≡ Some next → UpdateGoesOn e c h (told m part v) f (Ok (ReadNext n next))
  told_turn m c b h f n part next v try x is_v is_next = (b, try, tt, reads_word (told m part v) (begun_at c b) h f n next (goes_reading m (begun_at c b) h f n part v x is_v) is_next)

  -- which takes nothing of the share
  pub told_spends : {A : Type 0} (m : UpdateRun E A) (f : Found) (n : NodeNo) (part next : SettledPart) (v : ℕ) → HasSpentForNext e m.share (told m part v) f (Ok (ReadNext n next)) m.tries (m.tries + 1)
  told_spends m f n part next v = (no_more _, no_more _, as_many (e.most_nodes m.edit) m.share.nodes m.share.scx m.tries)

  -- and leaves fewer words
  pub told_nearer : {A : Type 0} (m : UpdateRun E A) (f : Found) (n : NodeNo) (part next : SettledPart) (v nodes : ℕ) → next_read m.read ≡ Some part → next_read (read_with m.read part v) ≡ Some next → ComesNearer e (told m part v) f (Ok (ReadNext n next)) nodes (m.tries * try_left e m.edit nodes + (reads_left m.read - 1 + e.most_fills m.edit + 39))
  told_nearer m f n part next v nodes is_part is_next = to_next_read (m.tries * try_left e m.edit nodes) (reads_left (read_with m.read part v)) (reads_left m.read) (e.most_fills m.edit) (some_left _ _ (reads_fewer (read_with m.read part v) 0 next is_next)) (reads_fewer m.read v part is_part)

-- At the end

module _ (f : Word → ℕ) (n : ℕ) (r : Reading) (x : IsRead f n r) (whole : next_read r ≡ None) where
  -- its head is read
  pub head_read : r.head ≡ Some (head_of (f (node n (Settled HeadPart))))
  head_read = go r.head refl whole x.head
    where
      go : (o : Option Head) → r.head ≡ o → next_behind_head r o ≡ None → IfSome o (λ head. head_of (f (node n (Settled HeadPart))) ≡ head) → o ≡ Some (head_of (f (node n (Settled HeadPart))))
      go None is e y = absurd (let z : Some HeadPart ≡ None = e in cc)
      go (Some head) is e y = ap Some (sym y)

  behind_head : (if (head_of (f (node n (Settled HeadPart)))).class == 0 then (if (head_of (f (node n (Settled HeadPart)))).leaf then next_in_leaf r r.more else next_in_fork r.key) else None) ≡ None
  behind_head = subst (λ o. next_behind_head r o ≡ None) head_read whole

  -- of a leaf of class 0 all pairs
  pub leaf_read : (head_of (f (node n (Settled HeadPart)))).class ≡ 0 → (head_of (f (node n (Settled HeadPart)))).leaf ≡ true → r.pairs ≡ held_pairs f n
  leaf_read low leaf = go r.more refl (rw (eq-eqb (head_of (f (node n (Settled HeadPart)))).class 0 low, leaf) at behind_head)
    where
      no_slot : (s : Option Slot) (k l : Option ℕ) → next_in_pair s k l ≡ None → s ≡ None
      no_slot None k l e = refl
      no_slot (Some s) None l e = absurd (let z : Some (Key s) ≡ None = e in cc)
      no_slot (Some s) (Some k) None e = absurd (let z : Some (Value s) ≡ None = e in cc)
      no_slot (Some s) (Some k) (Some l) e = absurd (let z : Some (High s) ≡ None = e in cc)

      go : (m : Option ℕ) → r.more ≡ m → next_in_leaf r m ≡ None → r.pairs ≡ held_pairs f n
      go None is e = absurd (let z : Some More ≡ None = e in cc)
      go (Some m) is e = sym (append-nil r.pairs) ∙ ap (λ o. r.pairs ++ held_behind f n o) (sym (no_slot r.slot r.key r.low e)) ∙ x.pairs

  -- of a fork of class 0 the key
  pub fork_read : (head_of (f (node n (Settled HeadPart)))).class ≡ 0 → (head_of (f (node n (Settled HeadPart)))).leaf ≡ false → unwrap_or r.key 0 ≡ f (node n (Settled (Key slots.First)))
  fork_read low fork = go r.key refl (rw (eq-eqb (head_of (f (node n (Settled HeadPart)))).class 0 low, fork) at behind_head) x.key
    where
      first : slot_read r ≡ slots.First
      first = ap (λ o. unwrap_or o slots.First) (x.first (ap is_leaf_read head_read ∙ fork))

      go : (k : Option ℕ) → r.key ≡ k → next_in_fork k ≡ None → IfSome k (λ v. f (node n (Settled (Key (slot_read r)))) ≡ v) → unwrap_or k 0 ≡ f (node n (Settled (Key slots.First)))
      go None is e y = absurd (let z : Some (Key slots.First) ≡ None = e in cc)
      go (Some k) is e y = sym y ∙ ap (λ s. f (node n (Settled (Key s)))) first

-- what is known of a leaf at whose head and count a walk has ended
pub begun_read : (f : Word → ℕ) (n : ℕ) (head : Head) (more : ℕ) → head_of (f (node n (Settled HeadPart))) ≡ head → f (node n (Settled More)) ≡ more → IsRead f n (leaf_begun head more)
begun_read f n head more e d = record { head = e; more = d; key = tt; low = tt; pairs = refl; count = refl; first = λ leaf. refl }

-- and of a node with nothing read
pub unread : (f : Word → ℕ) (n : ℕ) → IsRead f n nothing_read
unread f n = record { head = tt; more = tt; key = tt; low = tt; pairs = refl; count = refl; first = λ leaf. refl }

-- this many words are left
pub begun_left : (head : Head) (more : ℕ) → reads_left (leaf_begun head more) ≤ 12
begun_left head more = go (head.class == 0) head.leaf
  where
    go : (low leaf : Bool) → (if low then (if leaf then 0 + 12 else 1) else 0) ≤ 12
    go true true = omega arith
    go true false = omega arith
    go false leaf = omega arith
