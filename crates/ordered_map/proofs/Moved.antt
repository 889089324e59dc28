-- The facts of an edit go over to words that agree on its nodes.
use Rattle.std.proofs.Common.{◌≡◌, ℕ, ◌+◌, ◌*◌, ◌/◌, ◌%◌, ◌^◌, eqb, ◌++◌, sym, ◌∙◌, ap, ltb, cond, subst}
use Rattle.histories.specs.Common.{Side, Left, Right, Settled, Head, Word, child, first_key}
use Rattle.ordered_map.specs.OrderedMap.{AllBelow, AllFrom, MapEdit, edit_key, edited, end_pair, get}
use Rattle.ordered_map.specs.TreeWords.{class, is_leaf, level, rank, toward, opposite, said, end_said, leaf_items}
use Rattle.ordered_map.proofs.Holding.{SameSettled, held_same, counted_same, same_items, same_pairs}
use Rattle.ordered_map.specs.TrieShape.{IsAboveBy}
use Rattle.ordered_map.specs.Edits.{IsLowLeaf, IsLastLeaf, IsSwapBy, IsSplitBy, HasTreeLevels, IsCopyOf, IsJoinBy}

pub settled_rank : (b f : Word → ℕ) (n : ℕ) → SameSettled b f n → rank f n ≡ rank b n
settled_rank b f n e = λ i. e (Settled Head) tt i % 4 * 2 ^ 64 + e first_key tt i

pub settled_toward : (b f : Word → ℕ) (n k : ℕ) → SameSettled b f n → toward f n k ≡ toward b n k
settled_toward b f n k e = ap (λ v. cond (ltb k v) Left Right) (settled_rank b f n e)

pub settled_class : (b f : Word → ℕ) (n : ℕ) → SameSettled b f n → class f n ≡ class b n
settled_class b f n e = ap (λ v. v % 4) (e (Settled Head) tt)

pub settled_leaf : (b f : Word → ℕ) (n : ℕ) → SameSettled b f n → is_leaf f n ≡ is_leaf b n
settled_leaf b f n e = ap (λ v. eqb (v / 4 % 2) 1) (e (Settled Head) tt)

pub settled_level : (b f : Word → ℕ) (n : ℕ) → SameSettled b f n → level f n ≡ level b n
settled_level b f n e = ap (λ v. v / 8) (e (Settled Head) tt)

pub settled_said : (b f : Word → ℕ) (k n : ℕ) → SameSettled b f n → said f k n ≡ said b k n
settled_said b f k n e = ap (get k) (same_pairs b f n e)

pub settled_end : (side : Side) (b f : Word → ℕ) (n : ℕ) → SameSettled b f n → end_said side f n ≡ end_said side b n
settled_end side b f n e = ap (end_pair side) (same_pairs b f n e)

module _ (b f : Word → ℕ) where
  move_low : (n : ℕ) → SameSettled b f n → IsLowLeaf b n → IsLowLeaf f n
  move_low n e s = record { leaf = settled_leaf b f n e ∙ s.leaf; class = settled_class b f n e ∙ s.class; counted = counted_same b f n e s.counted }

  move_last : (n l : ℕ) → SameSettled b f n → SameSettled b f l → IsLastLeaf b n l → IsLastLeaf f n l
  move_last n l e el s = record {
    leaf = settled_leaf b f n e ∙ s.leaf;
    same_class = settled_class b f n e ∙ s.same_class ∙ sym (settled_class b f l el);
    counted = λ z. counted_same b f n e (s.counted (sym (settled_class b f n e) ∙ z));
    key = λ d. e first_key tt ∙ s.key (λ z. d (settled_class b f n e ∙ z)) ∙ sym (el first_key tt);
  }

  pub move_swap_by : (e : MapEdit) (l c : ℕ) → SameSettled b f l → SameSettled b f c → IsSwapBy b e l c → IsSwapBy f e l c
  move_swap_by e l c el ec s = record {
    leaf = settled_leaf b f l el ∙ s.leaf;
    class = settled_class b f l el ∙ s.class;
    new = move_low c ec s.new;
    pairs = held_same b f c ec ∙ s.pairs ∙ ap (edited e) (sym (held_same b f l el));
    deep = settled_level b f c ec ∙ s.deep ∙ sym (settled_level b f l el);
  }

  pub move_split_by : (e : MapEdit) (l c x y : ℕ) → SameSettled b f l → SameSettled b f c → SameSettled b f x → SameSettled b f y → ((side : Side) → f (child c side) ≡ b (child c side)) → IsSplitBy b e l c x y → IsSplitBy f e l c x y
  move_split_by e l c x y el ec ex ey fields s = record {
    leaf = settled_leaf b f l el ∙ s.leaf;
    fork = settled_leaf b f c ec ∙ s.fork;
    left = fields Left ∙ s.left;
    right = fields Right ∙ s.right;
    first = move_low x ex s.first;
    small = subst (AllBelow (2 ^ 64)) (sym (held_same b f x ex)) s.small;
    last = move_last y l ey el s.last;
    items = (λ i. same_items b f x ex i ++ same_items b f y ey i) ∙ s.items ∙ ap (edited e) (sym (same_items b f l el));
    before = subst (λ r. AllBelow r (leaf_items f x)) (sym (settled_rank b f c ec)) (subst (AllBelow (rank b c)) (sym (same_items b f x ex)) s.before);
    behind = subst (λ r. AllFrom r (leaf_items f y)) (sym (settled_rank b f c ec)) (subst (AllFrom (rank b c)) (sym (same_items b f y ey)) s.behind);
    same_class = settled_class b f c ec ∙ s.same_class ∙ sym (settled_class b f l el);
    key = λ d. ec first_key tt ∙ s.key (λ z. d (settled_class b f c ec ∙ z)) ∙ sym (el first_key tt);
  }

  pub move_levels : (l c x y : ℕ) → SameSettled b f l → SameSettled b f c → SameSettled b f x → SameSettled b f y → HasTreeLevels b l c x y → HasTreeLevels f l c x y
  move_levels l c x y el ec ex ey s = record {
    deep = settled_level b f c ec ∙ s.deep ∙ sym (settled_level b f l el);
    low = settled_level b f x ex ∙ s.low ∙ ap (λ v. v + 1) (sym (settled_level b f c ec));
    high = settled_level b f y ey ∙ s.high ∙ ap (λ v. v + 1) (sym (settled_level b f c ec));
  }

  move_copy : (z c : ℕ) → SameSettled b f z → SameSettled b f c → IsCopyOf b c z → IsCopyOf f c z
  move_copy z c ez ec s = record {
    same_head = ec (Settled Head) tt ∙ s.same_head ∙ sym (ez (Settled Head) tt);
    same_key = ec first_key tt ∙ s.same_key ∙ sym (ez first_key tt);
    same_pairs = λ leaf low.
        let x = s.same_pairs (sym (settled_leaf b f z ez) ∙ leaf) (sym (settled_class b f z ez) ∙ low) in
        (counted_same b f c ec x.0, held_same b f c ec ∙ x.1 ∙ sym (held_same b f z ez));
  }

  pub move_join_by : (e : MapEdit) (q l z c : ℕ) → SameSettled b f q → SameSettled b f l → SameSettled b f z → SameSettled b f c → IsJoinBy b e q l z c → IsJoinBy f e q l z c
  move_join_by e q l z c eq el ez ec s = record {
    fork = settled_leaf b f q eq ∙ s.fork;
    leaf = settled_leaf b f l el ∙ s.leaf;
    low = settled_class b f l el ∙ s.low;
    emptied = ap (edited e) (held_same b f l el) ∙ s.emptied;
    copy = move_copy z c ez ec s.copy;
  }

  pub move_above : (e : MapEdit) (u c x : ℕ) (side : Side) → SameSettled b f u → SameSettled b f c → SameSettled b f x → ((at : Side) → f (child c at) ≡ b (child c at)) → IsAboveBy b e u c x side → IsAboveBy f e u c x side
  move_above e u c x side eu ec ex fields s = record {
    old_fork = settled_leaf b f u eu ∙ s.old_fork;
    old_low = settled_class b f u eu ∙ s.old_low;
    first = move_low x ex s.first;
    pairs = held_same b f x ex ∙ s.pairs;
    fork = settled_leaf b f c ec ∙ s.fork;
    low = settled_class b f c ec ∙ s.low;
    turn = settled_toward b f c (edit_key e) ec ∙ s.turn;
    leaf = fields side ∙ s.leaf;
    other = fields (opposite side) ∙ s.other;
  }
