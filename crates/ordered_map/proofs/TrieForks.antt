-- The forks of a trie: each that was ever in it parts keys at a bit, and its children keep to its
-- sides. So no node is deeper than level 66.
use Rattle.std.proofs.Common.{◌≡◌, ℕ, ◌/◌, ◌%◌, ◌<◌, ◌≤◌, Bool, true, false, ◌⊎◌, inl, inr, length, refl, sym, ◌∙◌, ap, arith, eqb, subst}
use native.Mathlib.Decide.{ℕ_discrete}
use Rattle.histories.specs.Common.{Mode, Tree as TreeMode, Records, Layout, Row, Side, Settled, Child, Head, child, History}
use Rattle.histories.specs.Common.{Opened, ◌⊳◌, value, Extends, field_index, member, plan, side_of, IsNamed, by_field, taken_nodes}
use Rattle.arena.specs.declared.limits.Mode.TheVariants.{Trie as TrieMode}
use Rattle.arena.specs.Layout.{IsMap}
use Rattle.arena.proofs.Lemmas.{held_at, node_apart}
use Rattle.histories.proofs.Lemmas.{Effect, Facts, effect, facts_before, freeze, freeze_keeps_field, lawful_tail, named_since, node_since, node_stays, quiet, update, update_keeps_other}
use Rattle.ordered_map.specs.OrderedMap.{MapEdit}
use Rattle.ordered_map.specs.Bits.{Keeps, IsTrieFork}
use Rattle.ordered_map.specs.Paths.{WasInTree, depth}
use Rattle.ordered_map.specs.Spelled.{IsTree}
use Rattle.ordered_map.specs.TreeWords.{Tree, Has, class, is_leaf, level, root}
use Rattle.ordered_map.proofs.Holding.{SameSettled}
use Rattle.ordered_map.proofs.Moved.{settled_level}
use Rattle.ordered_map.proofs.Spanned.{same_fork, same_keeps}
use Rattle.ordered_map.proofs.Trees.{IsBelowFork, has_above}
use Rattle.ordered_map.proofs.TreeFacts.{TreeFacts, all_named}
use Rattle.ordered_map.proofs.Edited.{spot_fork_then}
use Rattle.ordered_map.proofs.Grown.{IsGrown, tree_facts, grown_tail, grown_since}
use Rattle.ordered_map.proofs.Stood.{one_tree}
use Rattle.ordered_map.proofs.Taken.{grown_depth}

module _ (calls : ℕ → MapEdit) (lay : Layout) (trie : lay.mode ≡ TrieMode) where
  -- a fork of the tree
  fork_now : (h : History) (t : Tree) (n : ℕ) → IsGrown calls lay h → IsTree (value h) t → Has t n → IsTrieFork (value h) n
  fork_now h t n g i p =
      let x : TreeFacts calls lay h = tree_facts calls lay h g in
      x.forks trie n (subst (λ u. Has u n) (one_tree h t x.tree i x.is_tree) p)

  -- one row more
  module _ (h : History) (r : Row) (g : IsGrown calls lay (r ⊳ h)) (n : ℕ) (named : IsNamed lay h n) where
    f : Facts lay h
    f = facts_before lay h r g.lawful

    settled : (m : ℕ) → IsNamed lay h m → SameSettled (value h) (value (r ⊳ h)) m
    settled m p a i = node_stays lay h r m a g.lawful i p

    child_named : (side : Side) → IsNamed lay h (value h (child n side))
    child_named side = by_field n side named (held_at h (child n side) (value h (child n side)) refl)

    same_fields : ((side : Side) → value (r ⊳ h) (child n side) ≡ value h (child n side)) → IsTrieFork (value h) n → IsTrieFork (value (r ⊳ h)) n
    same_fields fields = same_fork (value h) (value (r ⊳ h)) n (settled n named)
        (λ fork side k. subst (Keeps (value (r ⊳ h)) n side) (sym (fields side)) (same_keeps (value h) (value (r ⊳ h)) n side (value h (child n side)) (settled n named) (settled (value h (child n side)) (child_named side)) k))

    fork_stays : IsTrieFork (value h) n → IsTrieFork (value (r ⊳ h)) n
    fork_stays x = go (effect lay h r g.lawful)
      where
        go : Effect lay h r → IsTrieFork (value (r ⊳ h)) n
        go (quiet k) = same_fields (λ side. k.node n (Child side) tt named) x
        go (freeze s j w) = same_fields (λ side. freeze_keeps_field f w n side) x
        go (update s w) = at_node (ℕ_discrete (member h s (field_index h s)) n)
          where
            at_node : Dec (member h s (field_index h s) ≡ n) → IsTrieFork (value (r ⊳ h)) n
            at_node (no d) = same_fields (λ side. update_keeps_other f w (child n side) (node_apart (member h s (field_index h s)) n (Child (side_of (plan h s))) (Child side) d)) x
            at_node (yes q) = subst (IsTrieFork (value (r ⊳ h))) q (spot_fork_then calls lay h r s f w g.mode g.lawful (tree_facts calls lay h (grown_tail calls lay h r g)) trie)

  -- a fork that was ever in the tree
  pub grown_fork : (h m : History) (t : Tree) (n : ℕ) → IsGrown calls lay h → Extends h m → IsTree (value m) t → Has t n → IsTrieFork (value h) n
  grown_fork (Opened o) m t n g e i p = fork_now (Opened o) t n g (subst (λ x. IsTree (value x) t) e i) p
  grown_fork (r ⊳ h) m t n g (inl e) i p = fork_now (r ⊳ h) t n g (subst (λ x. IsTree (value x) t) e i) p
  grown_fork (r ⊳ h) m t n g (inr e) i p =
      fork_stays h r g n (named_since lay h m n (lawful_tail lay h r g.lawful) e (all_named lay m t n g.mode i p)) (grown_fork h m t n (grown_tail calls lay h r g) e i p)

  -- no fork is deeper than 65
  fork_deep : (h : History) (n : ℕ) → IsTrieFork (value h) n → is_leaf (value h) n ≡ false → level (value h) n ≤ 65
  fork_deep h n x fork = go (ℕ_discrete (class (value h) n) 0)
    where
      go : Dec (class (value h) n ≡ 0) → level (value h) n ≤ 65
      go (yes z) = ((x fork).0.key z).deep
      go (no d) = let a = (x fork).0.top d in omega (arith, a)

  -- and what keeps to its side is no deeper than 66
  kept_deep : (h : History) (n m : ℕ) (side : Side) → Keeps (value h) n side m → IsTrieFork (value h) m → level (value h) m ≤ 66
  kept_deep h n m side k x = go (is_leaf (value h) m) refl (ℕ_discrete (class (value h) m) 0)
    where
      go : (b : Bool) → is_leaf (value h) m ≡ b → Dec (class (value h) m ≡ 0) → level (value h) m ≤ 66
      go false e z = let a = fork_deep h m x e in omega (arith, a)
      go true e (yes z) = let a = (k.leaf e z).0 in omega (arith, a)
      go true e (no d) = let a = k.last e d in omega (arith, a)

  tree_deep : (h : History) (t : Tree) (n : ℕ) → IsGrown calls lay h → IsTree (value h) t → Has t n → level (value h) n ≤ 66
  tree_deep h t n g i p = go (has_above (value h) t _ _ n i.shows p) (is_leaf (value h) n) refl
    where
      mine : IsTrieFork (value h) n
      mine = fork_now h t n g i p

      go : (n ≡ root t) ⊎ IsBelowFork (value h) t n → (b : Bool) → is_leaf (value h) n ≡ b → level (value h) n ≤ 66
      go x false e = let a = fork_deep h n mine e in omega (arith, a)
      go (inl e) true leaf = absurd (root_fork e leaf)
        where
          root_fork : n ≡ root t → is_leaf (value h) n ≡ true → ⊥
          root_fork e leaf =
              let zero : n ≡ 0 = e ∙ i.is in
              let head = (tree_facts calls lay h g).root_head in
              let q : true ≡ false = sym leaf ∙ ap (is_leaf (value h)) zero ∙ ap (λ v. eqb (v / 4 % 2) 1) head in cc
      go (inr y) true leaf = kept_deep h y.fork n y.side (subst (Keeps (value h) y.fork y.side) y.holds ((fork_now h t y.fork g i y.has y.kind).1 y.side)) mine

-- so a node that was passed is no deeper than its mode lets it be
pub map_depth : (calls : ℕ → MapEdit) (lay : Layout) (h : History) (n : ℕ) → IsGrown calls lay h → WasInTree h n → level (value h) n < depth lay.mode (length (taken_nodes h))
map_depth calls lay h n g w = go lay.mode refl g.mode
  where
    same : level (value h) n ≡ level (value w.moment) n
    same = settled_level (value w.moment) (value h) n (λ a i. node_since lay h w.moment n a g.lawful w.within i (all_named lay w.moment w.tree n g.mode w.is_tree w.has))

    go : (mode : Mode) → lay.mode ≡ mode → IsMap mode → level (value h) n < depth mode (length (taken_nodes h))
    go TreeMode e is = grown_depth calls lay h n e g w
    go TrieMode e is = let d = tree_deep calls lay e w.moment w.tree n (grown_since calls lay h w.moment w.within g) w.is_tree w.has in omega (arith, same, d)
    go Records e is = absurd (let q : false ≡ true = is in cc)
