-- What an insert looks at, reads and fills, and that it makes the edit.
use Rattle.std.proofs.Common.{◌≡◌, ◌≢◌, ℕ, ◌+◌, ◌^◌, ◌<◌, ◌≤◌, ◌⊎◌, inl, inr, ⊎_elim, Bool, true, false, ◌==◌, eqb-true, eq-eqb, ne_eqb, lt-ltb, le-ltb, if◌then◌else◌, List, [], ◌∷◌, ◌++◌, length, take, drop, Option, Some, None, unwrap_or, refl, sym, ◌∙◌, ap, subst, arith}
use Rattle.std.specs.Prelude.{nat_lt}
use Rattle.std.proofs.Math.Decide.{dec_lt}
use native.Mathlib.Decide.{ℕ_discrete}
use Rattle.arena.specs.declared.limits.Mode.TheVariants.{Trie as TrieMode}
use Rattle.histories.specs.Common.{Tree as TreeMode, NodeNo, Child, Side, Left, Right, History, value, Call, IsInField, node, child, first_key, Descriptor}
use Rattle.template.specs.Common.{Job, Says, Snap, Pair, Insert as PutEdit, AllBelow, IsRising, insert, pair, get, held_pairs, leaf_plan}
use Rattle.template.specs.Common.{IsUpdateOver, IsWellCounted, IsMapRun, class, level, rank, HasFoundLeaf, HasTurned, IsFresh, IsPromised, MayGo, Key as ToKey, End}
use Rattle.ordered_map.specs.OrderedMap.{AllFrom, first_pair, last_pair}
use Rattle.ordered_map.specs.Bits.{PartsKeys, place_between}
use Rattle.ordered_map.specs.declared.fork_place.ForkPlace.{ForkPlace}
use Rattle.ordered_map.specs.EditPlans.{above_plan}
use Rattle.ordered_map.specs.Edits.{HasTreeLevels, IsSplitBy, IsSwapBy}
use Rattle.ordered_map.specs.TrieShape.{HasTrieLevels, IsAboveBy, PartsPairs}
use Rattle.ordered_map.specs.TreeWords.{leaf_items}
use Rattle.ordered_map.proofs.Lemmas.{PartsFrom, counted_few, edited_below, edited_rises, either_first, high_items, low_items, low_pairs, parts_of_five, place_falling, place_rising, put_before}
use Rattle.ordered_map.proofs.MapLemmas.{stood_in_field, walked_stood}
use Rattle.template.specs.FreshNodes.{FitsThere}
use Rattle.template.specs.Promises.{HasFreshEdit}
use Rattle.template.specs.declared.walk.Found.{Found}
use Rattle.template.proofs.Lemmas.{edit_promised, found_below, found_blank, found_class, found_level, put_above_promised, said_low, split_fits_there, swap_fits_there}
use Rattle.tree.specs.LeafEdit.{leaf_looks, leaf_reads}
use Rattle.tree.specs.declared.put.PutPair.{PutPair}
use Rattle.tree.specs.Put.Laws.{put_bounds}
use Rattle.tree.specs.Put.Means.{above_pieces, put_means, put_need, put_pieces, put_reads, put_way, put_work, has_room, lower, next_node, pairs_with, parts_by, place_among, split_or_leaf, split_pieces, second_pairs, splits, splits_by}
use Rattle.tree.specs.Laws.LeafLooks.{HasBoth, IsCovering, above_over, class_is, has_both, held_is, is_above_edit, is_leaf_edit, leaf_begins, leaf_covered, leaf_differs, leaf_over, leaf_stood, leaf_there, many, no_trie, pairs_are}
use Rattle.tree.specs.Laws.PairLists.{below_apart, both_parts, ends_of, first_below, first_long, insert_absent, insert_least, insert_most, insert_present, insert_some, last_of, parts_apart, parts_long}
use Rattle.tree.specs.Laws.Put.Stands.{IsAtFork, IsAtLeaf, PutStands, stands_at, stands_covered, stands_covering}
use Rattle.edits.specs.declared.edit.Look.TheVariants.{Enough}
use Rattle.edits.specs.declared.edit.Nodes.{Nodes}
use Rattle.edits.specs.declared.edit.Nth.{Nth}
use Rattle.edits.specs.declared.edit.Nth.TheVariants.{First, Second, Third}
use Rattle.edits.specs.declared.edit.Work.{Work}
use Rattle.edits.specs.declared.piece.Piece.{Piece}
use Rattle.edits.specs.declared.piece.Piece.TheVariants.{Fork, Leaf}
use Rattle.edits.specs.declared.reading.Reading.{Reading}
use Rattle.edits.specs.Known.{ComesBefore, IsNeeded, IsReadWhole, HasLooked, HasFilledAll, HoldsPiece, MayRead, MayReadAt}
use Rattle.edits.specs.Laws.PieceFills.{HoldsWords, the_same}
use Rattle.edits.specs.Pairs.{below as below_key, pair_at}
use Rattle.edits.specs.Pieces.{is_filled, nth_node, word_of, top_of, update_for}
use Rattle.edits.specs.Sound.{LooksWell, FillsWell, MakesWell, EditLaws}
use Rattle.edits.proofs.Lemmas.{IsForkWith, IsLeafWith, fork_with, leaf_with, take_whole}

-- What it looks at, and what it reads

-- where it stands
pub stands : (ed : PutPair) (c : Call) (h : History) (f : Found) (snaps : List Snap) → IsMapRun c.layout h → HasLooked put_means c h ed f snaps → PutStands ed.trie ed.key c h f
stands ed c h f snaps run x = stands_at ed.trie ed.key c h f run x.may x.found

covering : (ed : PutPair) (c : Call) (h : History) (f : Found) (snaps : List Snap) → IsMapRun c.layout h → HasLooked put_means c h ed f snaps → IsCovering ed.key c h f (next_node ed.trie f)
covering ed c h f snaps run x = stands_covering ed.trie ed.key c h f run (stands ed c h f snaps run x)

put_reads_well : (ed : PutPair) (c : Call) (h : History) (f : Found) (y : NodeNo × Reading) → IsMapRun c.layout h → PutStands ed.trie ed.key c h f → put_reads ed.trie f ≡ Some y → MayRead c.layout h y.0.0 y.1
put_reads_well ed c h f y run (inl a) e = go (f.head.class == 0) refl (rw a.stays at e)
  where
    go : (b : Bool) → (f.head.class == 0) ≡ b → (if b then Some (leaf_reads f) else None) ≡ Some y → MayRead c.layout h y.0.0 y.1
    go true t d = subst (λ (z : NodeNo × Reading). MayRead c.layout h z.0.0 z.1) (the_same (leaf_reads f) y d) (leaf_begins ed.key c h f run a.found (eqb-true f.head.class 0 t))
    go false t d = absurd (let z : None ≡ Some y = d in cc)
put_reads_well ed c h f y run (inr a) e = absurd (let z : None ≡ Some y = rw a.strays at e in cc)

-- an LLX may look at both nodes, which were not final, the leaf may be read, and where the parent
-- has another child its last SCX-record was in the way
pub put_look : LooksWell put_means
put_look = record {
  there = λ e c h f snaps n run d x at. leaf_there e.key c h f (next_node e.trie f) snaps run (covering e c h f snaps run x) n at;
  stood = λ e c h f snaps n run d x at. leaf_stood e.key c h f (next_node e.trie f) snaps run (covering e c h f snaps run x) n at;
  differs = λ e c h f snaps n s run d x at quiet. leaf_differs e.key c h (put_way e.trie) f (next_node e.trie f) snaps n s run (record { small = x.small; may = x.may; found = x.found; usable = x.usable; seen = x.seen }) at quiet;
  reads = λ e c h f snaps y run d x enough is. put_reads_well e c h f y run (stands e c h f snaps run x) is;
}

-- What it fills

-- a field of its fork holds one of its leaves
abbrev pub IsLeafBefore : Nodes → Nth → ℕ → Type 0
IsLeafBefore ns nth n = (i : Nth) × ComesBefore i nth × (n ≡ (nth_node ns i).0)

parted_fields : (low : Bool) (ps : List Pair) (f : Found) (ns : Nodes) (nth : Nth) (side : Side) → is_filled (parts_by low ps f ns nth) (Child side) ≡ true → IsLeafBefore ns nth (word_of (parts_by low ps f ns nth) (Child side))
parted_fields true ps f ns First side p = absurd (let z : false ≡ true = p in cc)
parted_fields false ps f ns First side p = absurd (let z : false ≡ true = p in cc)
parted_fields true ps f ns Second side p = absurd (let z : false ≡ true = p in cc)
parted_fields false ps f ns Second side p = absurd (let z : false ≡ true = p in cc)
parted_fields true ps f ns Third Left p = (First, omega arith, refl)
parted_fields true ps f ns Third Right p = (Second, omega arith, refl)
parted_fields false ps f ns Third Left p = (First, omega arith, refl)
parted_fields false ps f ns Third Right p = (Second, omega arith, refl)

pub split_fields : (trie split : Bool) (ps : List Pair) (f : Found) (ns : Nodes) (nth : Nth) (side : Side) → is_filled (split_or_leaf trie split ps f ns nth) (Child side) ≡ true → IsLeafBefore ns nth (word_of (split_or_leaf trie split ps f ns nth) (Child side))
split_fields in_trie false ps f ns nth side p = absurd (let z : false ≡ true = p in cc)
split_fields true true ps f ns nth side p = parted_fields (f.head.class == 0) ps f ns nth side p
split_fields false true ps f ns First side p = absurd (let z : false ≡ true = p in cc)
split_fields false true ps f ns Second side p = absurd (let z : false ≡ true = p in cc)
split_fields false true ps f ns Third Left p = (First, omega arith, refl)
split_fields false true ps f ns Third Right p = (Second, omega arith, refl)

-- or the fork that was found
pub above_fields : (k v : ℕ) (f : Found) (ns : Nodes) (nth : Nth) (side : Side) → is_filled (above_pieces k v f ns nth) (Child side) ≡ true → IsLeafBefore ns nth (word_of (above_pieces k v f ns nth) (Child side)) ⊎ (word_of (above_pieces k v f ns nth) (Child side) ≡ f.trail.node.0)
above_fields k v f ns First side p = absurd (let z : false ≡ true = p in cc)
above_fields k v f ns Second side p = two (nat_lt k f.key) side
  where
    two : (b : Bool) (side : Side) → let q : Piece = Fork (place_between k f.key).level 0 (place_between k f.key).key (if b then ns.first else f.trail.node) (if b then f.trail.node else ns.first) in IsLeafBefore ns Second (word_of q (Child side)) ⊎ (word_of q (Child side) ≡ f.trail.node.0)
    two true Left = inl (First, omega arith, refl)
    two true Right = inr refl
    two false Left = inr refl
    two false Right = inl (First, omega arith, refl)
above_fields k v f ns Third side p = three (nat_lt k f.key) side
  where
    three : (b : Bool) (side : Side) → let q : Piece = Fork (place_between k f.key).level 0 (place_between k f.key).key (if b then ns.first else f.trail.node) (if b then f.trail.node else ns.first) in IsLeafBefore ns Third (word_of q (Child side)) ⊎ (word_of q (Child side) ≡ f.trail.node.0)
    three true Left = inl (First, omega arith, refl)
    three true Right = inr refl
    three false Left = inr refl
    three false Right = inl (First, omega arith, refl)

put_fields : (ed : PutPair) (c : Call) (h : History) (f : Found) (ns : Nodes) (read : Reading) (nth : Nth) (side : Side) → IsMapRun c.layout h → PutStands ed.trie ed.key c h f → is_filled (put_pieces ed.key ed.value ed.trie f ns read nth) (Child side) ≡ true
    → IsLeafBefore ns nth (word_of (put_pieces ed.key ed.value ed.trie f ns read nth) (Child side)) ⊎ IsInField c.layout h (word_of (put_pieces ed.key ed.value ed.trie f ns read nth) (Child side))
put_fields ed c h f ns read nth side run (inl a) p = inl (rw a.stays (split_fields ed.trie (splits f) (pairs_with ed.key ed.value f read) f ns nth side (rw a.stays at p)))
put_fields ed c h f ns read nth side run (inr a) p = rw a.strays (⊎_elim inl (λ e. inr (subst (IsInField c.layout h) (sym e) in_field)) (above_fields ed.key ed.value f ns nth side (rw a.strays at p)))
  where
    in_field : IsInField c.layout h f.trail.node.0
    in_field = let t = a.found.trail.node in stood_in_field c.layout h f.trail.node.0 run (walked_stood c.layout h t.first ed.key f.trail.node.0 t.passed)

-- the fields of its fork hold its leaves, or the fork that was found
pub put_fills : FillsWell put_means
put_fills = record { fields = λ e c h f snaps ns read nth side run x enough n p. put_fields e c h f ns read nth side run (stands e c h f snaps run x) p }

-- What it makes

lower_is : (deep : ℕ) → deep + 1 < 2 ^ 61 → lower deep ≡ deep + 1
lower_is deep fits = omega (arith, fits)

module _ (ed : PutPair) (c : Call) (h : History) (f : Found) (snaps : List Snap) (ns : Nodes) (read : Reading) (run : IsMapRun c.layout h) (x : HasFilledAll put_means c h ed f snaps ns read) where
  small_key : ed.key < 2 ^ 64
  small_key = x.looked.small

  both : HasBoth f (next_node ed.trie f) snaps
  both = has_both f (next_node ed.trie f) snaps x.enough x.looked.seen

  -- its pairs with the new one
  abbrev all : List Pair
  all = pairs_with ed.key ed.value f read

  -- At a leaf
  module _ (a : IsAtLeaf ed.trie ed.key c h f) where
    abbrev found : HasFoundLeaf c h ed.key f
    found = a.found

    parent : HasTurned c h ed.key f.trail.parent.0 f.trail.side f.trail.node.0
    parent = found.trail.parent (found_below (ToKey ed.key) c h f run found)

    fits : f.head.level + 1 < 2 ^ 61
    fits = found_level (ToKey ed.key) c h f run found

    small : f.head.class < 4
    small = found_class (ToKey ed.key) c h f run found

    -- the leaf that was found
    abbrev old_leaf : ℕ
    old_leaf = f.trail.node.0

    same_class : class (value h) old_leaf ≡ f.head.class
    same_class = ap (λ w. w.class) found.head

    level_is : level (value h) old_leaf ≡ f.head.level
    level_is = ap (λ w. w.level) found.head

    abbrev Made : ℕ → Type 0
    Made n = HasFreshEdit c.layout c.pass h (PutEdit ed.key ed.value) old_leaf n × FitsThere c.layout h f.trail.parent.0 f.trail.side n

    work_is : put_work ed.trie f ≡ record { need = put_need (splits f); plan = record { 0 = leaf_plan f.trail.side } }
    work_is = rw a.stays refl

    piece_is : (i : Nth) → put_pieces ed.key ed.value ed.trie f ns read i ≡ split_or_leaf ed.trie (splits f) all f ns i
    piece_is i = rw a.stays refl

    holds : (split : Bool) → splits f ≡ split → (i : Nth) → IsNeeded (put_need split) i → HoldsPiece c h (nth_node ns i).0 (split_or_leaf ed.trie split all f ns i)
    holds split is i n =
        subst (λ (q : Bool). HoldsPiece c h (nth_node ns i).0 (split_or_leaf ed.trie q all f ns i)) is
        (subst (HoldsPiece c h (nth_node ns i).0) (piece_is i) (x.holds i (subst (λ (w : Work). IsNeeded w.need i) (sym work_is) (subst (λ (q : Bool). IsNeeded (put_need q) i) (sym is) n))))

    below : lower f.head.level ≡ f.head.level + 1
    below = lower_is f.head.level fits

    -- a leaf of class 0
    module _ (low : f.head.class ≡ 0) where
      abbrev old_pairs : List Pair
      old_pairs = held_pairs (value h) old_leaf

      was : class (value h) old_leaf ≡ 0
      was = class_is ed.key c h f run found low

      reads_is : put_reads ed.trie f ≡ Some (leaf_reads f)
      reads_is = rw (a.stays, eq-eqb f.head.class 0 low) refl

      read_is : read.pairs ≡ old_pairs
      read_is = pairs_are ed.key c h f run found low read (subst (λ o. MayReadAt c.layout h o read) reads_is x.right) (subst (λ o. IsReadWhole o read) reads_is x.whole)

      held : IsWellCounted (value h) old_leaf × AllBelow (2 ^ 64) old_pairs × IsRising old_pairs
      held = held_is ed.key c h f run found low

      few_old : f.more < 4
      few_old = let a = counted_few (value h) old_leaf held.0 in let b = found.more low in omega (arith, a, b)

      many_old : length old_pairs ≡ 1 + f.more
      many_old = many ed.key c h f run found low

      five : all ≡ take 5 (insert ed.key ed.value read.pairs)
      five = rw (eq-eqb f.head.class 0 low) refl

      all_is : all ≡ insert ed.key ed.value old_pairs
      all_is =
          five
          ∙ ap (λ ps. take 5 (insert ed.key ed.value ps)) read_is
          ∙ take_whole 5 (insert ed.key ed.value old_pairs) (let a = insert_most ed.key ed.value old_pairs in let b = few_old in let m = many_old in omega (arith, a, b, m))

      -- one leaf with the pair
      one_leaf : splits f ≡ false → length (insert ed.key ed.value old_pairs) ≤ 4 → Made ns.first.0
      one_leaf whole few = (
        record { fresh = p.fresh; edit = inl swap; below = λ fork. absurd (let z : true ≡ false = sym now.leaf ∙ fork in cc) },
        swap_fits_there c h (PutEdit ed.key ed.value) f ns.first.0 run small_key parent a.parent.stays swap,
      )
        where
          p : HoldsPiece c h ns.first.0 (Leaf f.head.level 0 all)
          p = holds false whole First (omega arith)

          now : IsLeafWith (value h) ns.first.0 f.head.level 0 all
          now = leaf_with h ns.first.0 f.head.level f.head.level 0 all refl (let a = fits in omega (arith, a)) (omega arith) p.words
              (subst (λ ps. 0 < length ps) (sym all_is) (insert_some ed.key ed.value old_pairs)) (subst (λ ps. length ps ≤ 4) (sym all_is) few)

          swap : IsSwapBy (value h) (PutEdit ed.key ed.value) old_leaf ns.first.0
          swap = record {
            leaf = found.leaf;
            class = was;
            new = record { leaf = now.leaf; class = now.class; counted = now.counted };
            pairs = now.pairs ∙ all_is;
            deep = now.level ∙ sym level_is;
          }

    -- three nodes
    module _ (grows : splits f ≡ true) where
      abbrev x_node : ℕ
      x_node = ns.first.0

      abbrev y_node : ℕ
      y_node = ns.second.0

      abbrev fork_node : ℕ
      fork_node = ns.third.0

      abbrev Split : Type 0
      Split = IsSplitBy (value h) (PutEdit ed.key ed.value) old_leaf fork_node x_node y_node

      holds_piece : (i : Nth) → IsNeeded 3 i → HoldsPiece c h (nth_node ns i).0 (split_or_leaf ed.trie true all f ns i)
      holds_piece i n = holds true grows i n

      -- in a tree, and in a trie, for a leaf of class 0 or the other
      tree_piece : ed.trie ≡ false → (i : Nth) → IsNeeded 3 i → HoldsWords h (nth_node ns i).0 (split_pieces all f ns i)
      tree_piece tree i n = subst (λ (b : Bool). HoldsWords h (nth_node ns i).0 (split_or_leaf b true all f ns i)) tree (holds_piece i n).words

      trie_piece : ed.trie ≡ true → (low : Bool) → (f.head.class == 0) ≡ low → (i : Nth) → IsNeeded 3 i → HoldsWords h (nth_node ns i).0 (parts_by low all f ns i)
      trie_piece is_trie low is i n = subst (λ (b : Bool). HoldsWords h (nth_node ns i).0 (parts_by b all f ns i)) is (subst (λ (b : Bool). HoldsWords h (nth_node ns i).0 (split_or_leaf b true all f ns i)) is_trie (holds_piece i n).words)

      -- what holds of the three, whatever their levels
      fresh_split : Split → (HasTreeLevels (value h) old_leaf fork_node x_node y_node ⊎ (c.layout.mode ≡ TrieMode)) → HasFreshEdit c.layout c.pass h (PutEdit ed.key ed.value) old_leaf fork_node
      fresh_split split levels = record {
        fresh = (holds_piece Third (omega arith)).fresh;
        edit = inr (x_node, y_node, split, levels);
        below = λ is_fork side. under side;
      }
        where
          under : (side : Side) → IsFresh c.layout c.pass h (value h (child fork_node side))
          under Left = subst (IsFresh c.layout c.pass h) (sym split.left) (holds_piece First (omega arith)).fresh
          under Right = subst (IsFresh c.layout c.pass h) (sym split.right) (holds_piece Second (omega arith)).fresh

      -- of a leaf of class 0 with four pairs, where the pairs are parted at a key
      module _ (low : f.head.class ≡ 0) (lx ly lc key cut : ℕ) (fork : IsForkWith (value h) fork_node lc f.head.class key x_node y_node)
          (xs : IsLeafWith (value h) x_node lx 0 (take cut all)) (ys : IsLeafWith (value h) y_node ly f.head.class (drop cut all)) (apart : AllBelow key (take cut all) × AllFrom key (drop cut all)) where
        all_below : AllBelow (2 ^ 64) all
        all_below = subst (AllBelow (2 ^ 64)) (sym (all_is low)) (edited_below (PutEdit ed.key ed.value) (2 ^ 64) (held_pairs (value h) old_leaf) (held low).1 small_key)

        x_items : leaf_items (value h) x_node ≡ take cut all
        x_items = low_items (value h) x_node xs.class ∙ xs.pairs

        y_items : leaf_items (value h) y_node ≡ drop cut all
        y_items = low_items (value h) y_node (ys.class ∙ low) ∙ ys.pairs

        at_key : rank (value h) fork_node ≡ key
        at_key = let a = fork.class in let b = fork.key in omega (arith, a, b, low)

        parted_low : Split
        parted_low = record {
          leaf = found.leaf;
          fork = fork.fork;
          left = fork.left;
          right = fork.right;
          first = record { leaf = xs.leaf; class = xs.class; counted = xs.counted };
          small = subst (AllBelow (2 ^ 64)) (sym xs.pairs) (first_below cut (2 ^ 64) all all_below);
          last = record { leaf = ys.leaf; same_class = ys.class ∙ sym same_class; counted = λ _. ys.counted; key = λ high. absurd (high (ys.class ∙ low)) };
          items = (λ i. (x_items i) ++ (y_items i)) ∙ both_parts cut all ∙ all_is low ∙ ap (insert ed.key ed.value) (sym (low_items (value h) old_leaf (was low)));
          before = subst (λ n. AllBelow n (leaf_items (value h) x_node)) (sym at_key) (subst (AllBelow key) (sym x_items) apart.0);
          behind = subst (λ n. AllFrom n (leaf_items (value h) y_node)) (sym at_key) (subst (AllFrom key) (sym y_items) apart.1);
          same_class = fork.class ∙ sym same_class;
          key = λ high. absurd (high (fork.class ∙ low));
        }

      module _ (low : f.head.class ≡ 0) (four : 4 ≤ length (held_pairs (value h) old_leaf)) where
        least : 4 ≤ length all
        least = subst (λ ps. 4 ≤ length ps) (sym (all_is low)) (let a = insert_least ed.key ed.value (held_pairs (value h) old_leaf) in omega (arith, a, four))

        most : length all ≤ 5
        most = subst (λ ps. length ps ≤ 5) (sym (all_is low)) (let a = insert_most ed.key ed.value (held_pairs (value h) old_leaf) in let b = few_old low in let m = many_old low in omega (arith, a, b, m))

        rises : IsRising all
        rises = subst IsRising (sym (all_is low)) (edited_rises (PutEdit ed.key ed.value) (held_pairs (value h) old_leaf) (held low).2)

        -- in a tree
        module _ (tree : ed.trie ≡ false) where
          second_is : second_pairs f all ≡ drop 2 all
          second_is = rw (eq-eqb f.head.class 0 low) refl

          two : length (take 2 all) ≡ 2
          two = first_long all (let a = least in omega (arith, a))

          three : length (take 2 all) + length (drop 2 all) ≡ length all
          three = parts_long 2 all

          xs : IsLeafWith (value h) x_node (f.head.level + 1) 0 (take 2 all)
          xs = leaf_with h x_node (lower f.head.level) (f.head.level + 1) 0 (take 2 all) below fits (omega arith) (tree_piece tree First (omega arith)) (let t = two in omega (arith, t)) (let t = two in omega (arith, t))

          ys : IsLeafWith (value h) y_node (f.head.level + 1) f.head.class (drop 2 all)
          ys = leaf_with h y_node (lower f.head.level) (f.head.level + 1) f.head.class (drop 2 all) below fits small
              (subst (λ ps. HoldsWords h y_node (Leaf (lower f.head.level) f.head.class ps)) second_is (tree_piece tree Second (omega arith)))
              (let t = two in let s = three in let a = least in omega (arith, t, s, a)) (let t = two in let s = three in let a = most in omega (arith, t, s, a))

          fork : IsForkWith (value h) fork_node f.head.level f.head.class (pair_at (drop 2 all) 0).key x_node y_node
          fork = fork_with h fork_node f.head.level f.head.class (pair_at (drop 2 all) 0).key ns.first ns.second (let a = fits in omega (arith, a)) small
              (subst (λ ps. HoldsWords h fork_node (Fork f.head.level f.head.class (pair_at ps 0).key ns.first ns.second)) second_is (tree_piece tree Third (omega arith)))

          tree_low : c.layout.mode ≡ TreeMode → Made fork_node
          tree_low mode = (
            fresh_split (parted_low low (f.head.level + 1) (f.head.level + 1) f.head.level (pair_at (drop 2 all) 0).key 2 fork xs ys (parts_apart all (let a = least in omega (arith, a)) rises))
                (inl record {
                  deep = fork.level ∙ sym level_is;
                  low = xs.level ∙ ap (λ m. m + 1) (sym fork.level);
                  high = ys.level ∙ ap (λ m. m + 1) (sym fork.level);
                }),
            no_trie mode,
          )

        -- in a trie: there are five
        module _ (is_trie : ed.trie ≡ true) (mode : c.layout.mode ≡ TrieMode) (full : length all ≡ 5) where
          abbrev place : ForkPlace
          place = place_among all

          abbrev cut : ℕ
          cut = below_key place.key all

          apart : AllBelow place.key (take cut all) × AllFrom place.key (drop cut all)
          apart = below_apart place.key all rises

          abbrev first : Pair
          first = pair_at all 0

          abbrev last : Pair
          last = unwrap_or (last_pair all) (pair 0 0)

          ends : (first_pair all ≡ Some first) × (last_pair all ≡ Some last) × (first.key < last.key)
          ends = ends_of all (let e = full in omega (arith, e)) rises

          last_small : last.key < 2 ^ 64
          last_small = last_of (2 ^ 64) all (let e = full in omega (arith, e)) (subst (AllBelow (2 ^ 64)) (sym (all_is low)) (edited_below (PutEdit ed.key ed.value) (2 ^ 64) (held_pairs (value h) old_leaf) (held low).1 small_key))

          parts : PartsKeys first.key last.key place.key place.level
          parts = place_rising first.key last.key ends.2 last_small

          long : (0 < length (take cut all)) × (length (take cut all) ≤ 4) × (0 < length (drop cut all)) × (length (drop cut all) ≤ 4)
          long =
              let same = both_parts cut all in
              parts_of_five place.key (take cut all) (drop cut all) first last (ap length same ∙ full) (ap first_pair same ∙ ends.0) (ap last_pair same ∙ ends.1) parts.below parts.above apart.0 apart.1

          x_part : IsLeafWith (value h) x_node 66 0 (take cut all)
          x_part = leaf_with h x_node 66 66 0 (take cut all) refl (omega arith) (omega arith) (trie_piece is_trie true (eq-eqb f.head.class 0 low) First (omega arith)) long.0 long.1

          y_part : IsLeafWith (value h) y_node 66 f.head.class (drop cut all)
          y_part = subst (λ n. IsLeafWith (value h) y_node 66 n (drop cut all)) (sym low) (leaf_with h y_node 66 66 0 (drop cut all) refl (omega arith) (omega arith) (trie_piece is_trie true (eq-eqb f.head.class 0 low) Second (omega arith)) long.2 long.3)

          fork_part : IsForkWith (value h) fork_node place.level f.head.class place.key x_node y_node
          fork_part = subst (λ n. IsForkWith (value h) fork_node place.level n place.key x_node y_node) (sym low)
              (fork_with h fork_node place.level 0 place.key ns.first ns.second (let d = parts.fork.deep in omega (arith, d)) (omega arith) (trie_piece is_trie true (eq-eqb f.head.class 0 low) Third (omega arith)))

          split_part : Split
          split_part = parted_low low 66 66 place.level place.key cut fork_part x_part y_part apart

          levels : HasTrieLevels (value h) (PutEdit ed.key ed.value) old_leaf fork_node x_node y_node
          levels = record {
            first = x_part.level;
            last = λ _. y_part.level;
            parts = λ _. subst (λ ps. PartsPairs ps (value h (node fork_node first_key)) (level (value h) fork_node)) (all_is low) record {
              first = first;
              last = last;
              is_first = ends.0;
              is_last = ends.1;
              parts = subst (λ k. PartsKeys first.key last.key k (level (value h) fork_node)) (sym fork_part.key) (subst (PartsKeys first.key last.key place.key) (sym fork_part.level) parts);
            };
            high = λ high. absurd (high (was low));
          }

          trie_low : Made fork_node
          trie_low = (fresh_split split_part (inr mode), split_fits_there c h (PutEdit ed.key ed.value) f fork_node run small_key parent a.parent.stays x_node y_node split_part levels)

      -- of a leaf above all keys
      module _ (high : f.head.class ≢ 0) (lx ly lc : ℕ) (fork : IsForkWith (value h) fork_node lc f.head.class 0 x_node y_node)
          (xs : IsLeafWith (value h) x_node lx 0 (pair ed.key ed.value ∷ [])) (ys : IsLeafWith (value h) y_node ly f.head.class (pair 0 0 ∷ [])) where
        blank : value h (node old_leaf first_key) ≡ 0
        blank = found_blank (ToKey ed.key) c h f run found high

        old_high : class (value h) old_leaf ≢ 0
        old_high z = high (sym same_class ∙ z)

        x_high_items : leaf_items (value h) x_node ≡ pair ed.key ed.value ∷ []
        x_high_items = low_items (value h) x_node xs.class ∙ xs.pairs

        same_rank : rank (value h) y_node ≡ rank (value h) old_leaf
        same_rank = let a = ys.class in let b = ys.key in let p = same_class in let q = blank in omega (arith, a, b, p, q)

        y_high_items : leaf_items (value h) y_node ≡ pair (rank (value h) old_leaf) 0 ∷ []
        y_high_items = high_items (value h) y_node (λ z. high (sym ys.class ∙ z)) ∙ (λ i. pair (same_rank i) 0 ∷ [])

        at_leaf : rank (value h) fork_node ≡ rank (value h) old_leaf
        at_leaf = let a = fork.class in let b = fork.key in let p = same_class in let q = blank in omega (arith, a, b, p, q)

        lower_key : ed.key < rank (value h) old_leaf
        lower_key = let a = small_key in let p = old_high in omega (arith, a, p)

        parted_high : Split
        parted_high = record {
          leaf = found.leaf;
          fork = fork.fork;
          left = fork.left;
          right = fork.right;
          first = record { leaf = xs.leaf; class = xs.class; counted = xs.counted };
          small = subst (AllBelow (2 ^ 64)) (sym xs.pairs) (small_key, tt);
          last = record { leaf = ys.leaf; same_class = ys.class ∙ sym same_class; counted = λ _. ys.counted; key = λ _. ys.key ∙ sym blank };
          items = (λ i. (x_high_items i) ++ (y_high_items i)) ∙ sym (put_before ed.key ed.value (rank (value h) old_leaf) 0 lower_key) ∙ ap (insert ed.key ed.value) (sym (high_items (value h) old_leaf old_high));
          before = subst (AllBelow (rank (value h) fork_node)) (sym x_high_items) (let a = at_leaf in let b = lower_key in omega (arith, a, b), tt);
          behind = subst (AllFrom (rank (value h) fork_node)) (sym y_high_items) (let a = at_leaf in omega (arith, a), tt);
          same_class = fork.class ∙ sym same_class;
          key = λ _. fork.key ∙ sym blank;
        }

      module _ (high : f.head.class ≢ 0) where
        all_high : all ≡ pair ed.key ed.value ∷ []
        all_high = rw (ne_eqb f.head.class 0 high) refl

        -- in a tree
        module _ (tree : ed.trie ≡ false) where
          second_high : second_pairs f all ≡ pair 0 0 ∷ []
          second_high = rw (ne_eqb f.head.class 0 high) refl

          x_high : IsLeafWith (value h) x_node (f.head.level + 1) 0 (pair ed.key ed.value ∷ [])
          x_high = leaf_with h x_node (lower f.head.level) (f.head.level + 1) 0 (pair ed.key ed.value ∷ []) below fits (omega arith)
              (subst (λ ps. HoldsWords h x_node (Leaf (lower f.head.level) 0 (take 2 ps))) all_high (tree_piece tree First (omega arith))) (omega arith) (omega arith)

          y_high : IsLeafWith (value h) y_node (f.head.level + 1) f.head.class (pair 0 0 ∷ [])
          y_high = leaf_with h y_node (lower f.head.level) (f.head.level + 1) f.head.class (pair 0 0 ∷ []) below fits small
              (subst (λ ps. HoldsWords h y_node (Leaf (lower f.head.level) f.head.class ps)) second_high (tree_piece tree Second (omega arith))) (omega arith) (omega arith)

          fork_high : IsForkWith (value h) fork_node f.head.level f.head.class 0 x_node y_node
          fork_high = fork_with h fork_node f.head.level f.head.class 0 ns.first ns.second (let a = fits in omega (arith, a)) small
              (subst (λ ps. HoldsWords h fork_node (Fork f.head.level f.head.class (pair_at ps 0).key ns.first ns.second)) second_high (tree_piece tree Third (omega arith)))

          tree_high : c.layout.mode ≡ TreeMode → Made fork_node
          tree_high mode = (
            fresh_split (parted_high high (f.head.level + 1) (f.head.level + 1) f.head.level fork_high x_high y_high)
                (inl record {
                  deep = fork_high.level ∙ sym level_is;
                  low = x_high.level ∙ ap (λ m. m + 1) (sym fork_high.level);
                  high = y_high.level ∙ ap (λ m. m + 1) (sym fork_high.level);
                }),
            no_trie mode,
          )

        -- in a trie
        module _ (is_trie : ed.trie ≡ true) (mode : c.layout.mode ≡ TrieMode) where
          x_top : IsLeafWith (value h) x_node 66 0 (pair ed.key ed.value ∷ [])
          x_top = leaf_with h x_node 66 66 0 (pair ed.key ed.value ∷ []) refl (omega arith) (omega arith)
              (subst (λ ps. HoldsWords h x_node (Leaf 66 0 ps)) all_high (trie_piece is_trie false (ne_eqb f.head.class 0 high) First (omega arith))) (omega arith) (omega arith)

          y_top : IsLeafWith (value h) y_node 2 f.head.class (pair 0 0 ∷ [])
          y_top = leaf_with h y_node 2 2 f.head.class (pair 0 0 ∷ []) refl (omega arith) small (trie_piece is_trie false (ne_eqb f.head.class 0 high) Second (omega arith)) (omega arith) (omega arith)

          fork_top : IsForkWith (value h) fork_node 1 f.head.class 0 x_node y_node
          fork_top = fork_with h fork_node 1 f.head.class 0 ns.first ns.second (omega arith) small (trie_piece is_trie false (ne_eqb f.head.class 0 high) Third (omega arith))

          split_top : Split
          split_top = parted_high high 66 2 1 fork_top x_top y_top

          trie_high : Made fork_node
          trie_high = (
            fresh_split split_top (inr mode),
            split_fits_there c h (PutEdit ed.key ed.value) f fork_node run small_key parent a.parent.stays x_node y_node split_top record {
              first = x_top.level;
              last = λ was_low. absurd (high (sym same_class ∙ was_low));
              parts = λ was_low. absurd (high (sym same_class ∙ was_low));
              high = λ _. (fork_top.level, y_top.level);
            },
          )

    -- whatever the leaf holds
    abbrev MadeAtTop : Type 0
    MadeAtTop = (n : ℕ) × (top_of (put_need (splits f)) ns ≡ n) × Made n

    top_one : splits f ≡ false → Made ns.first.0 → MadeAtTop
    top_one whole y = (ns.first.0, ap (λ b. top_of (put_need b) ns) whole, y)

    top_three : splits f ≡ true → Made ns.third.0 → MadeAtTop
    top_three split y = (ns.third.0, ap (λ b. top_of (put_need b) ns) split, y)

    -- its walk goes in the mode of the layout
    mode_is : (b : Bool) → ed.trie ≡ b → MayGo c.layout (put_way b) (ToKey ed.key)
    mode_is b is = subst (λ q. MayGo c.layout (put_way q) (ToKey ed.key)) is x.looked.may

    grown_low : (grows : splits f ≡ true) (low : f.head.class ≡ 0) → 4 ≤ length (held_pairs (value h) old_leaf) → length (insert ed.key ed.value (held_pairs (value h) old_leaf)) ≡ 5 → (b : Bool) → ed.trie ≡ b → Made ns.third.0
    grown_low grows low four full false is = tree_low grows low four is (mode_is false is)
    grown_low grows low four full true is = trie_low grows low four is (mode_is true is) (ap length (all_is low) ∙ full)

    grown_high : (grows : splits f ≡ true) (high : f.head.class ≢ 0) → (b : Bool) → ed.trie ≡ b → Made ns.third.0
    grown_high grows high false is = tree_high grows high is (mode_is false is)
    grown_high grows high true is = trie_high grows high is (mode_is true is)

    made_low : (low : f.head.class ≡ 0) → (o : Option ℕ) → f.value ≡ o → MadeAtTop
    made_low low (Some old) is = top_one whole (one_leaf low whole (let m = many_old low in let l = few_old low in let e = same in omega (arith, m, l, e)))
      where
        whole : splits f ≡ false
        whole = ap (λ o. splits_by o (has_room f)) is

        there : get ed.key (held_pairs (value h) old_leaf) ≡ Some old
        there = ap (get ed.key) (sym (low_pairs (value h) old_leaf (was low))) ∙ sym found.says ∙ is

        same : length (insert ed.key ed.value (held_pairs (value h) old_leaf)) ≡ length (held_pairs (value h) old_leaf)
        same = insert_present ed.key ed.value old (held_pairs (value h) old_leaf) (held low).2 there
    made_low low None is = go (dec_lt f.more 3)
      where
        absent : get ed.key (held_pairs (value h) old_leaf) ≡ None
        absent = ap (get ed.key) (sym (low_pairs (value h) old_leaf (was low))) ∙ sym found.says ∙ is

        go : Dec (f.more < 3) → MadeAtTop
        go (yes l) =
            let room : has_room f ≡ true = rw (eq-eqb f.head.class 0 low) (lt-ltb f.more 3 l) in
            let whole : splits f ≡ false = (λ i. splits_by (is i) (room i)) in
            top_one whole (one_leaf low whole (let m = many_old low in let a = insert_most ed.key ed.value (held_pairs (value h) old_leaf) in omega (arith, m, a, l)))
        go (no n) =
            let room : has_room f ≡ false = rw (eq-eqb f.head.class 0 low) (le-ltb f.more 3 (omega (arith, n))) in
            let split : splits f ≡ true = (λ i. splits_by (is i) (room i)) in
            let one = insert_absent ed.key ed.value (held_pairs (value h) old_leaf) absent in
            top_three split (grown_low split low (let m = many_old low in omega (arith, m, n)) (let m = many_old low in let few = few_old low in omega (arith, one, m, few, n)) ed.trie refl)

    made_high : f.head.class ≢ 0 → (o : Option ℕ) → f.value ≡ o → MadeAtTop
    made_high high (Some old) is = absurd (high (sym same_class ∙ said_low (value h) ed.key old_leaf old (sym is ∙ found.says)))
    made_high high None is =
        let room : has_room f ≡ false = rw (ne_eqb f.head.class 0 high) refl in
        let split : splits f ≡ true = (λ i. splits_by (is i) (room i)) in
        top_three split (grown_high split high ed.trie refl)

    is_made : MadeAtTop
    is_made = go (ℕ_discrete f.head.class 0)
      where
        go : Dec (f.head.class ≡ 0) → MadeAtTop
        go (yes low) = made_low low f.value refl
        go (no high) = made_high high f.value refl

    leaf_promised : (j : Job) (d : Descriptor) → j.update ≡ update_for (put_work ed.trie f) snaps ns → Says d j → IsPromised c.layout c.pass h j.scx.0 d (PutEdit ed.key ed.value)
    leaf_promised j d is says = edit_promised c h j.scx.0 (PutEdit ed.key ed.value) f d is_made.0 run small_key found a.parent
        (is_leaf_edit f snaps ns (put_work ed.trie f) j d is_made.0 (rw a.stays at both) (ap (λ (w : Work). w.plan.0) work_is) is (ap (λ (w : Work). top_of w.need ns) work_is ∙ is_made.1) says) is_made.2.0 is_made.2.1
        (λ e. absurd (let z : Some ed.value ≡ None = e in cc))

  -- At a fork
  module _ (a : IsAtFork ed.trie ed.key c h f) (small_fork : f.key < 2 ^ 64) where
    abbrev old_fork : ℕ
    old_fork = f.trail.node.0

    above_work : put_work ed.trie f ≡ record { need = 2; plan = record { 0 = above_plan f.trail.side } }
    above_work = rw a.strays refl

    above_holds : (i : Nth) → IsNeeded 2 i → HoldsPiece c h (nth_node ns i).0 (above_pieces ed.key ed.value f ns i)
    above_holds i n = rw a.strays at (x.holds i (subst (λ (w : Work). IsNeeded w.need i) (sym above_work) n))

    above_leaf : IsLeafWith (value h) ns.first.0 66 0 (pair ed.key ed.value ∷ [])
    above_leaf = leaf_with h ns.first.0 66 66 0 (pair ed.key ed.value ∷ []) refl (omega arith) (omega arith) (above_holds First (omega arith)).words (omega arith) (omega arith)

    abbrev spot : ForkPlace
    spot = place_between ed.key f.key

    -- the fork over it and the other, by the side of the key
    above_fork : spot.level < 2 ^ 61 → (b : Bool) → nat_lt ed.key f.key ≡ b → IsForkWith (value h) ns.second.0 spot.level 0 spot.key (if b then ns.first else f.trail.node).0 (if b then f.trail.node else ns.first).0
    above_fork few b is = fork_with h ns.second.0 spot.level 0 spot.key (if b then ns.first else f.trail.node) (if b then f.trail.node else ns.first) few (omega arith)
        (subst (λ (b : Bool). HoldsWords h ns.second.0 (Fork spot.level 0 spot.key (if b then ns.first else f.trail.node) (if b then f.trail.node else ns.first))) is (above_holds Second (omega arith)).words)

    few_levels : spot.level < 2 ^ 61
    few_levels = omega arith

    class_low : class (value h) old_fork ≡ 0
    class_low = ap (λ w. w.class) a.found.head ∙ a.found.low

    key_is : value h (node old_fork first_key) ≡ f.key
    key_is = a.found.key

    fork_at : IsForkWith (value h) ns.second.0 spot.level 0 spot.key (if nat_lt ed.key f.key then ns.first else f.trail.node).0 (if nat_lt ed.key f.key then f.trail.node else ns.first).0
    fork_at = above_fork few_levels (nat_lt ed.key f.key) refl

    parts_from : PartsFrom (value h) old_fork ns.second.0 ed.key
    parts_from = either_first (value h) old_fork ns.second.0 ed.key class_low a.found.outside
        (λ l. rw (key_is, fork_at.key, fork_at.level) (place_rising ed.key f.key (rw key_is at l) small_fork))
        (λ l. rw (key_is, fork_at.key, fork_at.level) (place_falling ed.key f.key (rw key_is at l) small_key))

    above_by : PartsFrom (value h) old_fork ns.second.0 ed.key → (side : Side) × IsAboveBy (value h) (PutEdit ed.key ed.value) old_fork ns.second.0 ns.first.0 side
    above_by (inl p) =
        let k = key_is in
        let below : ed.key < value h (node ns.second.0 first_key) = p.below in
        let above : value h (node ns.second.0 first_key) ≤ value h (node old_fork first_key) = p.above in
        let now = above_fork few_levels true (lt-ltb ed.key f.key (omega (arith, k, below, above))) in (
          Left,
          record {
            old_fork = a.found.fork;
            old_low = class_low;
            first = record { leaf = above_leaf.leaf; class = above_leaf.class; counted = above_leaf.counted };
            pairs = above_leaf.pairs;
            fork = now.fork;
            low = now.class;
            turn = (let low = now.class in rw (lt-ltb ed.key (rank (value h) ns.second.0) (omega (arith, low, below))) refl);
            leaf = now.left;
            other = now.right;
          },
        )
    above_by (inr p) =
        let k = key_is in
        let below : value h (node old_fork first_key) < value h (node ns.second.0 first_key) = p.below in
        let above : value h (node ns.second.0 first_key) ≤ ed.key = p.above in
        let now = above_fork few_levels false (le-ltb ed.key f.key (omega (arith, k, below, above))) in (
          Right,
          record {
            old_fork = a.found.fork;
            old_low = class_low;
            first = record { leaf = above_leaf.leaf; class = above_leaf.class; counted = above_leaf.counted };
            pairs = above_leaf.pairs;
            fork = now.fork;
            low = now.class;
            turn = (let low = now.class in rw (le-ltb ed.key (rank (value h) ns.second.0) (omega (arith, low, above))) refl);
            leaf = now.right;
            other = now.left;
          },
        )

    above_promised : (j : Job) (d : Descriptor) → j.update ≡ update_for (put_work ed.trie f) snaps ns → Says d j → IsPromised c.layout c.pass h j.scx.0 d (PutEdit ed.key ed.value)
    above_promised j d is says =
        let made = above_by parts_from in
        put_above_promised c h j.scx.0 (PutEdit ed.key ed.value) f d ns.second.0 ns.first.0 made.0 run small_key a.found
        (is_above_edit f snaps ns (put_work ed.trie f) j d ns.second.0 (rw a.strays at both) (ap (λ (w : Work). w.plan.0) above_work) is (ap (λ (w : Work). top_of w.need ns) above_work) says)
        (above_holds Second (omega arith)).fresh (above_holds First (omega arith)).fresh made.1 parts_from above_leaf.level

  put_is_promised : PutStands ed.trie ed.key c h f → (j : Job) (d : Descriptor) → j.update ≡ update_for (put_work ed.trie f) snaps ns → Says d j → IsPromised c.layout c.pass h j.scx.0 d (PutEdit ed.key ed.value)
  put_is_promised (inl a) j d is says = leaf_promised a j d is says
  put_is_promised (inr a) j d is says = above_promised a a.found.small j d is says

put_over : (ed : PutPair) (c : Call) (h : History) (f : Found) (snaps : List Snap) (ns : Nodes) → IsMapRun c.layout h → HasLooked put_means c h ed f snaps → leaf_looks f (next_node ed.trie f) snaps ≡ Enough → PutStands ed.trie ed.key c h f → IsUpdateOver (update_for (put_work ed.trie f) snaps ns)
put_over ed c h f snaps ns run x enough (inl a) = leaf_over ed.key c h f (next_node ed.trie f) snaps ns (put_work ed.trie f) (covering ed c h f snaps run x) (has_both f (next_node ed.trie f) snaps enough x.seen) (rw a.stays refl)
put_over ed c h f snaps ns run x enough (inr a) = above_over ed.key c h f (next_node ed.trie f) snaps ns (put_work ed.trie f) (covering ed c h f snaps run x) (has_both f (next_node ed.trie f) snaps enough x.seen) (rw a.strays refl)

-- its plan covers its two nodes, and what it has filled is promised to put the value at the key
pub put_makes : MakesWell put_means
put_makes = record {
  over = λ e c h f snaps guard ns run n x enough two. put_over e c h f snaps ns run x enough (stands e c h f snaps run x);
  leaf = λ e c h f snaps guard ns s run n x enough k row later won since covers makes. leaf_covered (PutEdit e.key e.value) f (next_node e.trie f) snaps ns (put_work e.trie f) k s (has_both f (next_node e.trie f) snaps enough x.seen) covers ∙ stands_covered e.trie e.key c h f (stands e c h f snaps run x);
  ends = λ e c h f snaps guard ns s run n x enough is. absurd (let z : false ≡ true = is in cc);
  promised = λ e c h f snaps guard ns read j d run n x two is says. put_is_promised e c h f snaps ns read run x (stands e c h f snaps run x.looked) j d is says;
}

-- an insert is an edit that an update can make
pub put_laws : EditLaws put_means
put_laws = record { at_found = λ e f. refl; at_end = λ e side is. absurd (let z : ToKey e.key ≡ End side = is in cc); bounds = put_bounds; looks = put_look; fills = put_fills; makes = put_makes }
