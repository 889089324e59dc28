-- What a history of a map keeps, in a tree or a trie, whatever edits it makes: levels, how deep it
-- is, what is blank, and which nodes are final.
use Rattle.std.proofs.Common.{◌≡◌, ◌≢◌, ◌⊎◌, inl, inr, ◌/◌, ◌%◌, ◌<◌, Bool, true, false, eqb, ℕ, List, [], ◌∷◌, ◌++◌, None, length, refl, ◌∙◌, ap, arith, subst}
use Rattle.std.specs.Prelude.{All}
use Rattle.std.proofs.lemmas.List.Elements.{All-head, All-tail}
use Rattle.histories.specs.Common.{Layout, Tree as TreeMode, Side, Left, Right, Settled, Head, node, child, marked, Row, new, History, ◌⊳◌, value, Extends, log, is_final, IsInField, taken_nodes}
use Rattle.histories.proofs.Lemmas.{Facts, UpdateWins, facts_before, node_since, not_final}
use Rattle.ordered_map.specs.OrderedMap.{MapEdit, get}
use Rattle.ordered_map.specs.TreeWords.{Tree, Has, class, is_leaf, level, said, IsBlankAboveKeys, root}
use Rattle.arena.proofs.Lemmas.{held_at, held_since}
use Rattle.ordered_map.specs.Spelled.{IsTree, Spells}
use Rattle.ordered_map.specs.Paths.{IsOnPath, Passed, WasInTree, WasOnPath, depth}
use Rattle.ordered_map.specs.TrieShape.{Stays}
use Rattle.ordered_map.specs.Runs.{IsMapRun}
use Rattle.ordered_map.proofs.Past.{grown_rises}
use Rattle.ordered_map.proofs.Removed.{grown_not_final}
use Rattle.ordered_map.proofs.Blanks.{grown_blank}
use Rattle.ordered_map.proofs.Remaining.{grown_on_path, grown_remains}
use Rattle.ordered_map.proofs.Growing.{grown_root}
use Rattle.ordered_map.proofs.Stood.{was_now, was_passed, was_named}
use Rattle.ordered_map.proofs.TreeFacts.{TreeFacts}
use Rattle.ordered_map.proofs.Edited.{result, tree_now, new_in}
use Rattle.arena.specs.Layout.{IsMap}
use Rattle.ordered_map.proofs.Grown.{tree_facts, grown_tail}
use Rattle.ordered_map.proofs.Trees.{passes_has, IsBelowFork, has_above, fields_apart, path_level}
use Rattle.ordered_map.proofs.Holding.{SameSettled, high_pairs}
use Rattle.ordered_map.proofs.LeafLists.{leaves_in}
use Rattle.ordered_map.proofs.TrieForks.{map_depth}
use Rattle.ordered_map.proofs.Meanings.{edits_of, grown, run_since, run_spells}

-- a node of the tree is not final
pub tree_not_final : (lay : Layout) (h : History) (t : Tree) (n : ℕ) → IsMapRun lay h → IsTree (value h) t → Has t n → is_final (log lay h) n ≡ false
tree_not_final lay h t n g i p = go (is_final (log lay h) n) refl
  where
    go : (b : Bool) → is_final (log lay h) n ≡ b → b ≡ false
    go false e = refl
    go true e = absurd (grown_not_final (edits_of lay h g).edits lay h t n (grown lay h g) i p e)

-- nor is one on a search path in the tree
pub path_not_final : (lay : Layout) (h : History) (k n : ℕ) → IsMapRun lay h → IsOnPath h k n → is_final (log lay h) n ≡ false
path_not_final lay h k n g x = tree_not_final lay h x.tree n g x.is_tree (passes_has (value h) k x.tree n x.passes)

-- a node that was in the tree and is not final is still there; in a trie each fork
pub tree_remains : (lay : Layout) (h : History) (t : Tree) (n : ℕ) → IsMapRun lay h → WasInTree h n → (lay.mode ≡ TreeMode) ⊎ (is_leaf (value h) n ≡ false) → is_final (log lay h) n ≡ false → IsTree (value h) t → Has t n
tree_remains lay h t n g x kind e i = grown_remains (edits_of lay h g).edits lay h t n (grown lay h g) x kind e i

-- the new node of an update that has won is in the tree
pub new_stood : (lay : Layout) (h : History) (r : Row) (u : ℕ) → IsMapRun lay (r ⊳ h) → UpdateWins h r u → WasInTree (r ⊳ h) (new h u)
new_stood lay h r u g w = was_now (r ⊳ h) (result edits lay h r u f w map g.1.lawful then).tree (new h u) (tree_now edits lay h r u f w map g.1.lawful then) (new_in edits lay h r u f w map g.1.lawful then)
  where
    map : IsMap lay.mode
    map = g.0

    edits : ℕ → MapEdit
    edits = (edits_of lay (r ⊳ h) g).edits

    f : Facts lay h
    f = facts_before lay h r g.1.lawful

    then : TreeFacts edits lay h
    then = tree_facts edits lay h (grown_tail edits lay h r (grown lay (r ⊳ h) g))

-- the levels of a node that was ever in the tree and of its children rise for ever
pub levels_rise : (lay : Layout) (h : History) (n : ℕ) (side : Side) → IsMapRun lay h → WasInTree h n → is_leaf (value h) n ≡ false → level (value h) n < level (value h) (value h (child n side))
levels_rise lay h n side g x fork = grown_rises (edits_of lay h g).edits lay h n side (grown lay h g) x fork

-- what was ever in the tree above all keys is blank
pub stood_blank : (lay : Layout) (h : History) (n : ℕ) → IsMapRun lay h → WasInTree h n → IsBlankAboveKeys (value h) n
stood_blank lay h n g x = grown_blank (edits_of lay h g).edits lay h (grown lay h g) n x

-- the root's head is as at the start: a fork of class 2, whose level is 0
pub root_head : (lay : Layout) (h : History) → IsMapRun lay h → value h (node 0 (Settled Head)) ≡ 2
root_head lay h g = grown_root (edits_of lay h g).edits lay h (grown lay h g)

-- a node that was on a path, and stays there until it is final, is on it if it is not
pub path_remains : (lay : Layout) (h : History) (k n : ℕ) → IsMapRun lay h → WasOnPath h k n → Stays lay (value h) k n → is_final (log lay h) n ≡ false → IsOnPath h k n
path_remains lay h k n g p stay e = grown_on_path (edits_of lay h g).edits lay h p.0 k n (grown lay h g) p.1 p.2 stay e

-- so is one that was passed and is not marked
pub passed_unmarked : (lay : Layout) (h start : History) (k n : ℕ) → IsMapRun lay h → Passed h start k n → Stays lay (value h) k n → value h (marked n) ≡ 0 → IsOnPath h k n
passed_unmarked lay h start k n g p stay e = path_remains lay h k n g (p.0, p.1, p.3) stay (not_final lay h n g.1.lawful e)

-- a node that was in the tree is not as deep as its mode lets it be
pub stood_depth : (lay : Layout) (h : History) (n : ℕ) → IsMapRun lay h → WasInTree h n → level (value h) n < depth lay.mode (length (taken_nodes h))
stood_depth lay h n g x = map_depth (edits_of lay h g).edits lay h n (grown lay h g) x

-- and so is one that was passed
pub passed_depth : (lay : Layout) (h start : History) (k n : ℕ) → IsMapRun lay h → Passed h start k n → level (value h) n < depth lay.mode (length (taken_nodes h))
passed_depth lay h start k n g p = stood_depth lay h n g (was_passed h start k n p)

-- the settled words of a node that was in the tree do not change
pub stood_settled : (lay : Layout) (h m : History) (n : ℕ) → IsMapRun lay h → Extends h m → WasInTree m n → SameSettled (value m) (value h) n
stood_settled lay h m n g e x part i = node_since lay h m n part g.1.lawful e i (was_named lay m n g.0 (run_since lay h m g e).1.lawful x)

-- a node that was in the tree is the root, or a field of the fork above it has held it
pub stood_in_field : (lay : Layout) (h : History) (n : ℕ) → IsMapRun lay h → WasInTree h n → IsInField lay h n
stood_in_field lay h n g x = go (has_above (value x.moment) x.tree _ _ n x.is_tree.shows x.has)
  where
    go : (n ≡ root x.tree) ⊎ IsBelowFork (value x.moment) x.tree n → IsInField lay h n
    go (inl e) = let z : n ≡ 0 = e ∙ x.is_tree.is in inl (rw g.0 (omega (arith, z)))
    go (inr y) = inr (y.fork, y.side, was_named lay h y.fork g.0 g.1.lawful record { moment = x.moment; within = x.within; tree = x.tree; is_tree = x.is_tree; has = y.has }, held_since h x.moment (child y.fork y.side) n x.within (held_at x.moment (child y.fork y.side) n y.holds))

-- the children of a fork that has been in the tree and is not final are in the tree
child_has : (lay : Layout) (h : History) (t : Tree) (n : ℕ) (side : Side) → IsMapRun lay h → IsTree (value h) t → WasInTree h n → is_final (log lay h) n ≡ false → is_leaf (value h) n ≡ false → Has t (value h (child n side))
child_has lay h t n side g i x e fork = (path_level (value h) t _ _ n side i.shows (tree_remains lay h t n g x (inr fork) e i) fork).1

-- what a fork holds in its fields that has been in the tree and is not final is in the tree
pub child_stood : (lay : Layout) (h m : History) (n : ℕ) (side : Side) → IsMapRun lay h → Extends h m → WasInTree m n → is_final (log lay m) n ≡ false → is_leaf (value m) n ≡ false → WasInTree h (value m (child n side))
child_stood lay h m n side g e x not_final fork = record { moment = m; within = e; tree = spelled.tree; is_tree = spelled.is_tree; has = child_has lay m spelled.tree n side run spelled.is_tree x not_final fork }
  where
    run : IsMapRun lay m
    run = run_since lay h m g e

    spelled : Spells lay (value m) (run_spells lay m run).0
    spelled = (run_spells lay m run).1

-- its two children are different
pub children_apart : (lay : Layout) (h : History) (n : ℕ) → IsMapRun lay h → WasInTree h n → is_final (log lay h) n ≡ false → is_leaf (value h) n ≡ false → value h (child n Left) ≢ value h (child n Right)
children_apart lay h n g x not_final fork = fields_apart (value h) spelled.tree _ _ n spelled.is_tree.shows (tree_remains lay h spelled.tree n g x (inr fork) not_final spelled.is_tree) fork
  where
    spelled : Spells lay (value h) (run_spells lay h g).0
    spelled = (run_spells lay h g).1

-- what such a fork holds is not final
pub child_not_final : (lay : Layout) (h : History) (n : ℕ) (side : Side) → IsMapRun lay h → WasInTree h n → is_final (log lay h) n ≡ false → is_leaf (value h) n ≡ false → is_final (log lay h) (value h (child n side)) ≡ false
child_not_final lay h n side g x not_final fork = tree_not_final lay h spelled.tree (value h (child n side)) g spelled.is_tree (child_has lay h spelled.tree n side g spelled.is_tree x not_final fork)
  where
    spelled : Spells lay (value h) (run_spells lay h g).0
    spelled = (run_spells lay h g).1

-- Node 2

all_last : (P : ℕ → Type 0) (xs : List ℕ) (a b : ℕ) → All P (xs ++ a ∷ b ∷ []) → P b
all_last P [] a b x = All-head P b [] (All-tail P a (b ∷ []) x)
all_last P (y ∷ ys) a b x = all_last P ys a b (All-tail P y (ys ++ a ∷ b ∷ []) x)

-- it is always the last leaf
two_there : (lay : Layout) (h : History) (g : IsMapRun lay h) → Has (run_spells lay h g).1.tree 2
two_there lay h g =
    let s : Spells lay (value h) (run_spells lay h g).0 = (run_spells lay h g).1 in
    all_last (λ n. Has s.tree n) s.others s.one 2 (subst (All (λ n. Has s.tree n)) s.last (leaves_in s.tree))

-- of class 2
pub two_stood : (lay : Layout) (h : History) → IsMapRun lay h → WasInTree h 2 × (is_leaf (value h) 2 ≡ true) × (class (value h) 2 ≡ 2)
two_stood lay h g =
    let head = (tree_facts (edits_of lay h g).edits lay h (grown lay h g)).last_head in
    (was_now h (run_spells lay h g).1.tree 2 (run_spells lay h g).1.is_tree (two_there lay h g), ap (λ v. eqb (v / 4 % 2) 1) head, ap (λ v. v % 4) head)

-- on level 1
pub two_level : (lay : Layout) (h : History) → IsMapRun lay h → level (value h) 2 ≡ 1
two_level lay h g = ap (λ v. v / 8) (tree_facts (edits_of lay h g).edits lay h (grown lay h g)).last_head

-- never final
pub two_not_final : (lay : Layout) (h : History) → IsMapRun lay h → is_final (log lay h) 2 ≡ false
two_not_final lay h g = tree_not_final lay h (run_spells lay h g).1.tree 2 g (run_spells lay h g).1.is_tree (two_there lay h g)

-- and without pairs
pub two_says_none : (lay : Layout) (h : History) (k : ℕ) → IsMapRun lay h → said (value h) k 2 ≡ None
two_says_none lay h k g = let two = (two_stood lay h g).2 in ap (get k) (high_pairs (value h) 2 (λ z. omega (arith, two, z)))
