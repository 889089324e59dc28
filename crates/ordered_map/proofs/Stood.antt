-- Which nodes ever were in the tree: each was there at the start, or an update has put it there.
use Rattle.std.proofs.Common.{◌≡◌, ℕ, ◌⊎◌, inl, inr, ⊎_elim, sym, ◌∙◌, subst}
use Rattle.histories.specs.Common.{Side, Settled, Child, Layout, Row, child, History, Opening, Opened, ◌⊳◌, value, Extends, IsNamed, Lawful}
use Rattle.arena.specs.Layout.{IsMap}
use Rattle.arena.proofs.Lemmas.{ends_self}
use Rattle.histories.proofs.Lemmas.{Effect, Facts, UpdateWins, effect, facts_before, freeze, freeze_keeps_field, named_since, node_stays, quiet, update}
use Rattle.ordered_map.specs.OrderedMap.{MapEdit}
use Rattle.ordered_map.specs.Paths.{IsOnPath, Passed, StoodSince, WasInTree}
use Rattle.ordered_map.specs.Spelled.{IsTree}
use Rattle.ordered_map.specs.Planted.{IsPlanted}
use Rattle.ordered_map.specs.TreeWords.{Tree, Has, Passes}
use Rattle.ordered_map.proofs.Trees.{Same, frame, frame_path, same_tree, passes_has}
use Rattle.ordered_map.proofs.TreeFacts.{TreeFacts, all_named}
use Rattle.ordered_map.proofs.Edited.{Born, result, tree_now}
use Rattle.ordered_map.proofs.Grown.{IsGrown, planted, tree_facts, grown_tail}

pub one_tree : (h : History) (t u : Tree) → IsTree (value h) t → IsTree (value h) u → t ≡ u
one_tree h t u a b = same_tree (value h) t u _ _ _ _ a.shows b.shows (a.is ∙ sym b.is)

pub was_more : (h : History) (r : Row) (n : ℕ) → WasInTree h n → WasInTree (r ⊳ h) n
was_more h r n x = record { moment = x.moment; within = inr x.within; tree = x.tree; is_tree = x.is_tree; has = x.has }

-- it was there before, or is there now
pub was_split : (h : History) (r : Row) (n : ℕ) → WasInTree (r ⊳ h) n → WasInTree h n ⊎ ((t : Tree) × IsTree (value (r ⊳ h)) t × Has t n)
was_split h r n x = go x.within
  where
    go : Extends (r ⊳ h) x.moment → WasInTree h n ⊎ ((t : Tree) × IsTree (value (r ⊳ h)) t × Has t n)
    go (inl e) = inr (x.tree, subst (λ m. IsTree (value m) x.tree) e x.is_tree, x.has)
    go (inr e) = inl record { moment = x.moment; within = e; tree = x.tree; is_tree = x.is_tree; has = x.has }

pub was_now : (h : History) (t : Tree) (n : ℕ) → IsTree (value h) t → Has t n → WasInTree h n
was_now h t n i x = record { moment = h; within = ends_self h; tree = t; is_tree = i; has = x }

-- a node that was passed was there
pub was_passed : (h start : History) (k n : ℕ) → Passed h start k n → WasInTree h n
was_passed h start k n p = record { moment = p.0; within = p.1; tree = p.3.tree; is_tree = p.3.is_tree; has = passes_has (value p.0) k p.3.tree n p.3.passes }

-- so since the walk began
pub passed_since : (h start : History) (k n : ℕ) → Passed h start k n → StoodSince h start n
passed_since h start k n p = (record { moment = p.0; within = p.1; tree = p.3.tree; is_tree = p.3.is_tree; has = passes_has (value p.0) k p.3.tree n p.3.passes }, p.2)

pub since_more : (h start : History) (r : Row) (n : ℕ) → StoodSince h start n → StoodSince (r ⊳ h) start n
since_more h start r n (x, since) = (record { moment = x.moment; within = inr x.within; tree = x.tree; is_tree = x.is_tree; has = x.has }, since)

-- a node that was in the tree was named
pub was_named : (lay : Layout) (h : History) (n : ℕ) → IsMap lay.mode → Lawful lay h → WasInTree h n → IsNamed lay h n
was_named lay h n o l x = named_since lay h x.moment n l x.within (all_named lay x.moment x.tree n o x.is_tree x.has)

-- One row more

module _ (calls : ℕ → MapEdit) (lay : Layout) (h : History) (r : Row) (g : IsGrown calls lay (r ⊳ h)) where
  abbrev pub facts_then : Facts lay h
  facts_then = facts_before lay h r g.lawful

  abbrev pub tree_then : TreeFacts calls lay h
  tree_then = tree_facts calls lay h (grown_tail calls lay h r g)

  abbrev pub PutThere : (u : ℕ) → UpdateWins h r u → ℕ → Type 0
  PutThere u w = Born calls lay h r u facts_then w g.mode g.lawful tree_then

  -- a row that leaves the fields of named nodes leaves the tree
  module _ (fields : (n : ℕ) (side : Side) → IsNamed lay h n → value (r ⊳ h) (child n side) ≡ value h (child n side)) where
    same_words : (n : ℕ) → IsNamed lay h n → Same (value h) (value (r ⊳ h)) n
    same_words n p (Settled q) i = node_stays lay h r n (Settled q) g.lawful tt p
    same_words n p (Child side) i = fields n side p
    same_words n p _ i = absurd i

    pub tree_stays : IsTree (value (r ⊳ h)) tree_then.tree
    tree_stays = record { shows = frame (value h) (value (r ⊳ h)) tree_then.tree _ _ (λ n p. same_words n (all_named lay h tree_then.tree n g.mode tree_then.is_tree p)) tree_then.is_tree.shows; is = tree_then.is_tree.is }

    -- and its paths
    pub path_stays : (k n : ℕ) → Passes (value h) k tree_then.tree n → IsOnPath (r ⊳ h) k n
    path_stays k n p = record {
      tree = tree_then.tree;
      is_tree = tree_stays;
      passes = frame_path (value h) (value (r ⊳ h)) k tree_then.tree n (λ m q. same_words m (all_named lay h tree_then.tree m g.mode tree_then.is_tree q)) p;
    }

    stood_before : (tree : Tree) (n : ℕ) → IsTree (value (r ⊳ h)) tree → Has tree n → Has tree_then.tree n
    stood_before tree n i p = subst (λ v. Has v n) (one_tree (r ⊳ h) tree tree_then.tree i tree_stays) p

    pub was_back : (n : ℕ) → WasInTree (r ⊳ h) n → WasInTree h n
    was_back n x = ⊎_elim (λ y. y) (λ y. was_now h tree_then.tree n tree_then.is_tree (stood_before y.0 n y.1 y.2)) (was_split h r n x)

  -- after an update a node of the tree was there before, or was put there
  pub in_updated : (u : ℕ) (w : UpdateWins h r u) (tree : Tree) (n : ℕ) → IsTree (value (r ⊳ h)) tree → Has tree n → Has tree_then.tree n ⊎ PutThere u w n
  in_updated u w tree n i p =
      (result calls lay h r u facts_then w g.mode g.lawful tree_then).made n
      (subst (λ v. Has v n) (one_tree (r ⊳ h) tree (result calls lay h r u facts_then w g.mode g.lawful tree_then).tree i (tree_now calls lay h r u facts_then w g.mode g.lawful tree_then)) p)

  -- so it is after each row
  pub came : (tree : Tree) (n : ℕ) → IsTree (value (r ⊳ h)) tree → Has tree n → Has tree_then.tree n ⊎ ((u : ℕ) × (w : UpdateWins h r u) × PutThere u w n)
  came tree n i p = go (effect lay h r g.lawful)
    where
      go : Effect lay h r → Has tree_then.tree n ⊎ ((u : ℕ) × (w : UpdateWins h r u) × PutThere u w n)
      go (quiet k) = inl (stood_before (λ n side q. k.node n (Child side) tt q) tree n i p)
      go (freeze s j w) = inl (stood_before (λ n side q. freeze_keeps_field facts_then w n side) tree n i p)
      go (update u w) = ⊎_elim inl (λ b. inr (u, w, b)) (in_updated u w tree n i p)

-- What is true of the opening nodes and of each node as it is put into the tree, and stays so, is
-- true of each node that ever was there.
module _ (calls : ℕ → MapEdit) (lay : Layout) (P : History → ℕ → Type 0)
    (opens : (o : Opening) (x : IsPlanted lay (Opened o) 0) (n : ℕ) → Has x.tree n → P (Opened o) n)
    (stays : (h : History) (r : Row) (n : ℕ) → IsGrown calls lay (r ⊳ h) → IsNamed lay h n → P h n → P (r ⊳ h) n)
    (begins : (h : History) (r : Row) (u : ℕ) (g : IsGrown calls lay (r ⊳ h)) (w : UpdateWins h r u) → ((n : ℕ) → Has (tree_then calls lay h r g).tree n → P h n) → (n : ℕ) → PutThere calls lay h r g u w n → P (r ⊳ h) n) where
  at_start : (o : Opening) → IsPlanted lay (Opened o) 0 → (n : ℕ) → WasInTree (Opened o) n → P (Opened o) n
  at_start o x n was = opens o x n (subst (λ u. Has u n) (one_tree (Opened o) was.tree x.tree (subst (λ m. IsTree (value m) was.tree) was.within was.is_tree) x.is_tree) was.has)

  step : (h : History) (r : Row) → IsGrown calls lay (r ⊳ h) → ((n : ℕ) → WasInTree h n → P h n) → (n : ℕ) → WasInTree (r ⊳ h) n → P (r ⊳ h) n
  step h r g before n x = ⊎_elim old (λ y. ⊎_elim (λ q. old (was_now h then.tree n then.is_tree q)) (λ b. begins h r b.0 g b.1 (λ m q. before m (was_now h then.tree m then.is_tree q)) n b.2) (came calls lay h r g y.0 n y.1 y.2)) (was_split h r n x)
    where
      then : TreeFacts calls lay h
      then = tree_then calls lay h r g

      old : WasInTree h n → P (r ⊳ h) n
      old y = stays h r n g (was_named lay h n g.mode (grown_tail calls lay h r g).lawful y) (before n y)

  pub of_all_stood : (h : History) → IsGrown calls lay h → (n : ℕ) → WasInTree h n → P h n
  of_all_stood (Opened o) g = at_start o (planted calls lay o g)
  of_all_stood (r ⊳ h) g = step h r g (of_all_stood h (grown_tail calls lay h r g))
