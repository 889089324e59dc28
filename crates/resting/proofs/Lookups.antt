-- What looking a key up tells of a leaf that has it: where the map has no such key, the leaf is not
-- in the tree or the trie.
use Rattle.std.proofs.Common.{◌≡◌, ℕ, Bool, true, false, cond, eqb, eq-eqb, List, [], ◌∷◌, ◌++◌, Some, None, inl, inr, refl, sym, ◌∙◌, ap, subst}
use Rattle.histories.specs.Common.{Layout, First, Word, node, first_key, History, Extends, value, IsOwnNode, IsTakenNode}
use Rattle.arena.proofs.Lemmas.{ends_trans}
use Rattle.prims.specs.Laws.InTheWay.{HasBeen}
use Rattle.ordered_map.specs.declared.pair.Pair.{Pair}
use Rattle.ordered_map.specs.Holding.{held_pairs, pair_in}
use Rattle.ordered_map.specs.OrderedMap.{get}
use Rattle.ordered_map.specs.Paths.{IsAnswerAt}
use Rattle.ordered_map.specs.Runs.{IsMapRun}
use Rattle.ordered_map.specs.Spelled.{Spells}
use Rattle.ordered_map.specs.TreeWords.{Tree, Leaf, Fork, Has, Shows, class, is_leaf, pairs, rank, said}
use Rattle.ordered_map.proofs.Lemmas.{SameSettled, get_here, same_tree, settled_class, settled_leaf}
use Rattle.ordered_map.proofs.MapLemmas.{run_since, stood_settled}
use Rattle.touching.specs.Kinds.{IsInTree}
use Rattle.touching.proofs.Lemmas.{is_was}
use Rattle.resting.specs.Dead.{IsOut}
use Rattle.resting.specs.Lookups.{WasLeafOf}

-- neither of two lists has a key that both together do not have
parts_none : (k : ℕ) (xs ys : List Pair) → get k (xs ++ ys) ≡ None → (get k xs ≡ None) × (get k ys ≡ None)
parts_none k [] ys e = (refl, e)
parts_none k (x ∷ xs) ys e = go (λ z. parts_none k xs ys z) (eqb k x.key) refl
  where
    go : (get k (xs ++ ys) ≡ None → (get k xs ≡ None) × (get k ys ≡ None)) → (b : Bool) → eqb k x.key ≡ b → (get k (x ∷ xs) ≡ None) × (get k ys ≡ None)
    go rest true q = absurd (let z : Some x.value ≡ None = sym (ap (λ b. cond b (Some x.value) (get k (xs ++ ys))) q) ∙ e in cc)
    go rest false q = let r = rest (sym (ap (λ b. cond b (Some x.value) (get k (xs ++ ys))) q) ∙ e) in (ap (λ b. cond b (Some x.value) (get k xs)) q ∙ r.0, r.1)

-- nor has a leaf of a tree
leaf_none : (f : Word → ℕ) (k : ℕ) (t : Tree) (lo hi n : ℕ) → Shows f lo hi t → Has t n → is_leaf f n ≡ true → get k (pairs f t) ≡ None → said f k n ≡ None
leaf_none f k (Leaf m) lo hi n s e leaf none = subst (λ v. said f k v ≡ None) e none
leaf_none f k (Fork m a b) lo hi n s (inl e) leaf none = absurd (let z : true ≡ false = sym leaf ∙ subst (λ v. is_leaf f v ≡ false) e s.0.fork in cc)
leaf_none f k (Fork m a b) lo hi n s (inr (inl q)) leaf none = leaf_none f k a lo (rank f m) n s.1 q leaf (parts_none k (pairs f a) (pairs f b) none).0
leaf_none f k (Fork m a b) lo hi n s (inr (inr q)) leaf none = leaf_none f k b (rank f m) hi n s.2 q leaf (parts_none k (pairs f a) (pairs f b) none).1

-- the leaf that was read since the map did not have its key
module _ (lay : Layout) (h m : History) (k n : ℕ) (run : IsMapRun lay h) (within : Extends h m) (leaf : WasLeafOf h m n k) (x : IsInTree m n) where
  -- what is settled of it then is so later
  same : (P : History → Type 0) (y : HasBeen h m P) → SameSettled (value m) (value y.moment) n
  same P y = stood_settled lay y.moment m n (run_since lay h y.moment run y.within) y.since (is_was m n x)

  leaf_then : is_leaf (value m) n ≡ true
  leaf_then = sym (settled_leaf (value m) (value leaf.head.moment) n (same _ leaf.head)) ∙ leaf.head.was.0

  class_then : class (value m) n ≡ 0
  class_then = sym (settled_class (value m) (value leaf.head.moment) n (same _ leaf.head)) ∙ leaf.head.was.1

  key_then : value m (node n first_key) ≡ k
  key_then = sym (same _ leaf.key first_key tt) ∙ leaf.key.was

  says : said (value m) k n ≡ Some (pair_in (value m) n First).value
  says = ap (λ b. get k (cond b (held_pairs (value m) n) [])) (eq-eqb (class (value m) n) 0 class_then) ∙ get_here (value m) n First k (sym key_then)

  not_absent : (map : List Pair) → Spells lay (value m) map → get k map ≡ None → ⊥
  not_absent map spelled none = absurd (let z : Some (pair_in (value m) n First).value ≡ None = sym says ∙ said_none in cc)
    where
      has : Has spelled.tree n
      has = subst (λ u. Has u n) (same_tree (value m) x.tree spelled.tree _ _ _ _ x.is_tree.shows spelled.is_tree.shows (x.is_tree.is ∙ sym spelled.is_tree.is)) x.has

      said_none : said (value m) k n ≡ None
      said_none = leaf_none (value m) k spelled.tree _ _ n spelled.is_tree.shows has leaf_then (ap (get k) spelled.pairs ∙ none)

pub absent_out : (lay : Layout) (h m : History) (map : List Pair) (k n : ℕ) → IsMapRun lay h → Extends h m → Spells lay (value m) map → get k map ≡ None → WasLeafOf h m n k → ¬ IsInTree m n
absent_out lay h m map k n run within spelled none leaf x = not_absent lay h m k n run within leaf x map spelled none

-- so a get that begins after a rest finds out that an own leaf is out, if that is read behind it
pub looked_up : (lay : Layout) (h done start rest : History) (p n k : ℕ) → IsMapRun lay h → Extends h done → Extends start rest → IsAnswerAt lay done start k None → WasLeafOf h done n k → IsOwnNode lay p n → IsTakenNode rest n → (t : History) × Extends done t × IsOut lay p rest t n
looked_up lay h done start rest p n k run within since answer leaf its_own taken = (t, answer.within, record { own = its_own; taken = taken; since = ends_trans t start rest answer.since since; out = absent_out lay h t answer.map k n run (ends_trans h done t within answer.within) answer.spelled answer.gives since_then })
  where
    t : History
    t = answer.moment

    earlier : (P : History → Type 0) → HasBeen h done P → HasBeen h t P
    earlier P y = record { moment = y.moment; within = y.within; since = ends_trans y.moment done t y.since answer.within; was = y.was }

    since_then : WasLeafOf h t n k
    since_then = record { head = earlier _ leaf.head; key = earlier _ leaf.key }
