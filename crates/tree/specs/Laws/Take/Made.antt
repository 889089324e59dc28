-- What takes a key out has filled: its leaf without the pair, or a copy of the leaf's sibling.
use Rattle.std.proofs.Common.{◌≡◌, ◌≢◌, ℕ, ◌+◌, ◌*◌, ◌/◌, ◌%◌, ◌^◌, ◌<◌, ◌≤◌, Bool, true, false, ◌==◌, eq-eqb, ne_eqb, List, [], ◌∷◌, length, Option, Some, None, refl, sym, ◌∙◌, ap, subst, arith}
use Rattle.std.proofs.Common.{unwrap_or, IfSome}
use Rattle.std.proofs.lemmas.Nat.{mul-le}
use native.Mathlib.Decide.{ℕ_discrete}
use Rattle.arena.specs.declared.head.Head.{Head as HeadParts}
use Rattle.histories.specs.Common.{Settled, Child, Head, Key, Side, Left, Right, Slot, First as FirstSlot, head_of, History, value, Call, taken_nodes, most_taken, node, child, first_key, first_value}
use Rattle.arena.specs.Heads.{head_word}
use Rattle.arena.specs.ScxRecords.{bit}
use Rattle.arena.proofs.Lemmas.{taken_few}
use Rattle.template.specs.Common.{child_of, Snap, Pair, AllBelow, Delete as TakeEdit, IsRising, delete, pair, held_pairs, IsWellCounted, WasInTree, IsMapRun, class, is_leaf, level, HasFoundLeaf, Key as ToKey}
use Rattle.ordered_map.specs.Edits.{IsSwapBy}
use Rattle.ordered_map.proofs.Lemmas.{counted_few, held_count, held_first}
use Rattle.ordered_map.proofs.MapLemmas.{stood_blank, stood_counted, stood_depth}
use Rattle.template.specs.FreshNodes.{HasFreshCopy}
use Rattle.template.specs.declared.walk.Found.{Found}
use Rattle.template.proofs.Lemmas.{found_level, no_deeper}
use Rattle.tree.specs.Take.Means.{copied_pairs, copy_with, sibling_copy}
use Rattle.tree.specs.Laws.LeafLooks.{class_is, held_is, many, pairs_are}
use Rattle.tree.specs.Laws.PairLists.{delete_least, delete_most}
use Rattle.edits.specs.declared.piece.Piece.TheVariants.{Leaf, Fork}
use Rattle.edits.specs.declared.reading.Reading.{Reading}
use Rattle.edits.specs.Known.{HoldsPiece, MayRead}
use Rattle.edits.specs.Laws.PieceFills.{HoldsWords}
use Rattle.edits.specs.Pairs.{pair_at}
use Rattle.edits.specs.Pieces.{piece_head}
use Rattle.edits.specs.Readings.{is_leaf_read, next_read, slot_read}
use Rattle.edits.proofs.Lemmas.{IsLeafWith, fork_read, head_is, head_read, leaf_read, leaf_with}

-- where the leaf has other pairs, what holds them takes its place
module _ (k : ℕ) (c : Call) (h : History) (f : Found) (read : Reading) (n_node : ℕ) (run : IsMapRun c.layout h) (found : HasFoundLeaf c h k f) (low : f.head.class ≡ 0) (some : 0 < f.more) (right : MayRead c.layout h f.trail.node.0 read) (whole : next_read read ≡ None) (holds : HoldsPiece c h n_node (Leaf f.head.level 0 (delete k read.pairs))) where
  abbrev old_leaf : ℕ
  old_leaf = f.trail.node.0

  abbrev old_pairs : List Pair
  old_pairs = held_pairs (value h) old_leaf

  read_is : read.pairs ≡ old_pairs
  read_is = pairs_are k c h f run found low read right whole

  held : IsWellCounted (value h) old_leaf × AllBelow (2 ^ 64) old_pairs × IsRising old_pairs
  held = held_is k c h f run found low

  -- as many are left as a leaf may hold
  least : 0 < length (delete k old_pairs)
  least =
      let m : length old_pairs ≡ 1 + f.more = many k c h f run found low in
      let l = delete_least k old_pairs in
      omega (arith, m, some, l)

  most : length (delete k old_pairs) ≤ 4
  most =
      let m = held_count (value h) old_leaf held.0 in
      let few = counted_few (value h) old_leaf held.0 in
      let l = delete_most k old_pairs in
      omega (arith, m, few, l)

  pairs_left : delete k read.pairs ≡ delete k old_pairs
  pairs_left = ap (delete k) read_is

  pub fresh_leaf : IsLeafWith (value h) n_node f.head.level 0 (delete k read.pairs)
  fresh_leaf = leaf_with h n_node f.head.level f.head.level 0 (delete k read.pairs) refl (let a = found_level (ToKey k) c h f run found in omega (arith, a)) (omega arith) holds.words
      (subst (λ ps. 0 < length ps) (sym pairs_left) least) (subst (λ ps. length ps ≤ 4) (sym pairs_left) most)

  pub fresh_swap : IsSwapBy (value h) (TakeEdit k) f.trail.node.0 n_node
  fresh_swap = record {
    leaf = found.leaf;
    class = class_is k c h f run found low;
    new = record { leaf = fresh_leaf.leaf; class = fresh_leaf.class; counted = fresh_leaf.counted };
    pairs = fresh_leaf.pairs ∙ pairs_left;
    deep = fresh_leaf.level ∙ sym (ap (λ w. w.level) found.head);
  }

-- the word of a head that was read is that word
bit_back : (b : ℕ) → b < 2 → bit (b == 1) ≡ b
bit_back b few = go (ℕ_discrete b 1)
  where
    go : Dec (b ≡ 1) → bit (b == 1) ≡ b
    go (yes e) = rw e refl
    go (no d) = rw (ne_eqb b 1 d) (omega (arith, few, d))

head_back : (w : ℕ) → w / 8 < 2 ^ 61 → piece_head (w / 8) (w / 4 % 2 == 1) (w % 4) ≡ w
head_back w fits = head_is (w / 8) (w % 4) (w / 4 % 2 == 1) fits (omega arith) ∙ whole
  where
    whole : head_word (head_of w) ≡ w
    whole = let b : bit (w / 4 % 2 == 1) ≡ w / 4 % 2 = bit_back (w / 4 % 2) (omega arith) in omega (arith, b)

-- what is not read of a key that is 0 is taken to be 0
blank_key : (o : Option ℕ) (w : ℕ) → IfSome o (λ k. w ≡ k) → w ≡ 0 → unwrap_or o 0 ≡ 0
blank_key None w is e = refl
blank_key (Some k) w is e = sym is ∙ e

module _ (c : Call) (h : History) (sibling : Snap) (read : Reading) (n_node : ℕ) (run : IsMapRun c.layout h) (in_tree : WasInTree h sibling.node.0) (right : MayRead c.layout h sibling.node.0 read) (whole : next_read read ≡ None) (holds : HoldsPiece c h n_node (sibling_copy sibling read)) where
  abbrev z_node : ℕ
  z_node = sibling.node.0

  abbrev w : ℕ
  w = value h (node z_node (Settled Head))

  fits : w / 8 < 2 ^ 61
  fits =
      let deep : level (value h) z_node < 67 + length (taken_nodes h) = no_deeper c.layout.mode (length (taken_nodes h)) (level (value h) z_node) (stood_depth c.layout h z_node run in_tree) in
      let few : length (taken_nodes h) ≤ most_taken c.layout = taken_few c.layout h run.1.lawful in
      let planted : c.layout.planted ≤ 67108864 = c.layout.planted_fit in
      let most : c.layout.passes * c.layout.nodes ≤ 32 * 1125899906842624 = mul-le c.layout.passes c.layout.nodes 32 1125899906842624 c.layout.passes_fit c.layout.nodes_fit in
      omega (arith, deep, few, planted, most)

  is_head : read.head ≡ Some (head_of w)
  is_head = head_read (value h) z_node read right.is whole

  copied : HoldsPiece c h n_node (copy_with sibling (head_of w) read)
  copied = subst (λ (o : Option HeadParts). HoldsPiece c h n_node (copy_with sibling (unwrap_or o (head_of 0)) read)) is_head holds

  blank : class (value h) z_node ≢ 0 → value h (node z_node first_key) ≡ 0
  blank high = stood_blank c.layout h z_node run in_tree high

  -- of a leaf
  module _ (leaf : is_leaf (value h) z_node ≡ true) where
    abbrev ps : List Pair
    ps = copied_pairs (w % 4) read

    leaf_words : HoldsWords h n_node (Leaf (w / 8) (w % 4) ps)
    leaf_words = rw leaf at copied.words

    low_copied : class (value h) z_node ≡ 0 → ps ≡ read.pairs
    low_copied is_low = rw (eq-eqb (w % 4) 0 is_low) refl

    high_copied : class (value h) z_node ≢ 0 → ps ≡ pair 0 0 ∷ []
    high_copied high = rw (ne_eqb (w % 4) 0 high) refl

    low_pairs_are : class (value h) z_node ≡ 0 → ps ≡ held_pairs (value h) z_node
    low_pairs_are is_low = low_copied is_low ∙ leaf_read (value h) z_node read right.is whole is_low leaf

    leaf_copied : class (value h) z_node ≡ 0 → IsLeafWith (value h) n_node (w / 8) (w % 4) ps
    leaf_copied is_low =
        let counted = stood_counted c.layout h z_node run in_tree leaf is_low in
        let m = held_count (value h) z_node counted in
        let few = counted_few (value h) z_node counted in
        leaf_with h n_node (w / 8) (w / 8) (w % 4) ps refl fits (omega arith) leaf_words
        (subst (λ qs. 0 < length qs) (sym (low_pairs_are is_low)) (omega (arith, m))) (subst (λ qs. length qs ≤ 4) (sym (low_pairs_are is_low)) (omega (arith, m, few)))

    leaf_key : Dec (class (value h) z_node ≡ 0) → value h (node n_node first_key) ≡ value h (node z_node first_key)
    leaf_key (yes is_low) = (leaf_copied is_low).key ∙ ap (λ qs. (pair_at qs 0).key) (low_pairs_are is_low ∙ (held_first (value h) z_node).is)
    leaf_key (no high) = leaf_words first_key tt ∙ ap (λ qs. (pair_at qs 0).key) (high_copied high) ∙ sym (blank high)

    leaf_copy : HasFreshCopy c.layout c.pass h sibling n_node
    leaf_copy = record {
      fresh = copied.fresh;
      copy = record {
        same_head = leaf_words (Settled Head) tt ∙ ap (λ b. piece_head (w / 8) b (w % 4)) (sym leaf) ∙ head_back w fits;
        same_key = leaf_key (ℕ_discrete (class (value h) z_node) 0);
        same_pairs = λ _ is_low. ((leaf_copied is_low).counted, (leaf_copied is_low).pairs ∙ low_pairs_are is_low);
      };
      fields = λ fork side. absurd (let y : true ≡ false = sym leaf ∙ fork in cc);
      unfilled = λ fork. absurd (let y : true ≡ false = sym leaf ∙ fork in cc);
    }

  -- or of a fork
  module _ (fork : is_leaf (value h) z_node ≡ false) where
    fork_words : HoldsWords h n_node (Fork (w / 8) (w % 4) (unwrap_or read.key 0) sibling.left sibling.right)
    fork_words = rw fork at copied.words

    at_first : slot_read read ≡ FirstSlot
    at_first = ap (λ o. unwrap_or o FirstSlot) (right.is.first (ap is_leaf_read is_head ∙ fork))

    fork_key : Dec (class (value h) z_node ≡ 0) → unwrap_or read.key 0 ≡ value h (node z_node first_key)
    fork_key (yes is_low) = fork_read (value h) z_node read right.is whole is_low fork
    fork_key (no high) = blank_key read.key (value h (node z_node first_key)) (subst (λ (s : Slot). IfSome read.key (λ k. value h (node z_node (Settled (Key s))) ≡ k)) at_first right.is.key) (blank high) ∙ sym (blank high)

    field_is : (side : Side) → value h (child n_node side) ≡ (child_of sibling side).0
    field_is Left = fork_words (Child Left) tt
    field_is Right = fork_words (Child Right) tt

    fork_copy : HasFreshCopy c.layout c.pass h sibling n_node
    fork_copy = record {
      fresh = copied.fresh;
      copy = record {
        same_head = fork_words (Settled Head) tt ∙ ap (λ b. piece_head (w / 8) b (w % 4)) (sym fork) ∙ head_back w fits;
        same_key = fork_words first_key tt ∙ fork_key (ℕ_discrete (class (value h) z_node) 0);
        same_pairs = λ leaf _. absurd (let y : true ≡ false = sym leaf ∙ fork in cc);
      };
      fields = λ _ side. field_is side;
      unfilled = λ _. fork_words first_value tt;
    }

  pub fresh_copy : HasFreshCopy c.layout c.pass h sibling n_node
  fresh_copy = go (is_leaf (value h) z_node) refl
    where
      go : (b : Bool) → is_leaf (value h) z_node ≡ b → HasFreshCopy c.layout c.pass h sibling n_node
      go true leaf = leaf_copy leaf
      go false fork = fork_copy fork
