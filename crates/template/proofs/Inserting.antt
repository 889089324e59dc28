-- What an edit of a leaf has filled makes the edit, whatever rows come until its SCX-record begins.
use Rattle.std.proofs.Common.{◌≡◌, ◌≢◌, ℕ, ◌^◌, ◌<◌, ◌⊎◌, true, false, inl, inr, None, refl, sym, ◌∙◌, ap, arith, subst, length}
use Rattle.arena.specs.Layout.{IsMap}
use Rattle.arena.specs.declared.limits.Mode.TheVariants.{Records, Trie as TrieMode}
use Rattle.histories.specs.Common.{Mode, Tree as TreeMode, Layout, Side, Word, child, History, value, IsNamed, Call, Descriptor}
use Rattle.template.specs.Common.{Job, Says, snap_at, MapEdit, edit_key, WasOnPath, HasWalked, Passed, IsMapRun, leaf_plan, is_leaf, level, opposite, toward, said, HasFoundLeaf, HasFoundFork, IsFresh, IsPromised, HasTurned, WasPassed, Key as ToKey}
use Rattle.ordered_map.specs.OrderedMap.{value_left}
use Rattle.ordered_map.specs.Strays.{IsApart}
use Rattle.ordered_map.specs.Bits.{Shares}
use Rattle.ordered_map.specs.Edits.{IsCopyOf, IsSwapBy, IsSplitBy}
use Rattle.ordered_map.specs.EditPlans.{above_plan}
use Rattle.ordered_map.specs.Paths.{HasHadChild}
use Rattle.ordered_map.specs.TrieShape.{Stays, FitsTrie, IsAboveBy}
use Rattle.ordered_map.specs.TrieShape.{HasTrieLevels}
use Rattle.arena.proofs.Lemmas.{ends_trans}
use Rattle.ordered_map.proofs.Lemmas.{PartsFrom, SameSettled, same_stays, settled_leaf, settled_toward}
use Rattle.ordered_map.proofs.MapLemmas.{above_fits, join_fits, run_since, split_fits, stood_settled, swap_fits, walk_next, walked_above, walked_stood}
use Rattle.template.specs.FreshNodes.{IsLeafEditAt, IsAboveAt, FitsThere}
use Rattle.template.specs.Trails.{WasOn, IsSurelyOn}
use Rattle.template.specs.Promises.{HasFreshEdit}
use Rattle.template.specs.declared.walk.Found.{Found}
use Rattle.template.proofs.Promised.{above_promised, leaf_edit_promised}
use Rattle.template.proofs.WalkBounds.{found_below, passed_named}

-- the words that say a job over the leaf's parent and the leaf are those of an edit of the leaf
pub leaf_edit_words : (m : Job) (d : Descriptor) (f : Found) (n : ℕ) → Says d m → m.update.plan.0 ≡ leaf_plan f.trail.side → length m.update.snaps ≡ 2 → (snap_at m.update.snaps 0).node.0 ≡ f.trail.parent.0 → (snap_at m.update.snaps 1).node.0 ≡ f.trail.node.0 → m.update.old.0 ≡ f.trail.node.0 → m.update.fresh.0 ≡ n → IsLeafEditAt f d n
leaf_edit_words m d f n x plan two parent leaf old new = record {
  plan = x.plan ∙ plan;
  parent = x.member 0 (omega (arith, two)) ∙ parent;
  leaf = x.member 1 (omega (arith, two)) ∙ leaf;
  old = x.old ∙ old;
  new = x.new ∙ new;
}

-- What a walk knows of the forks above its node

-- a map is a tree or a trie
pub either_mode : (mode : Mode) → IsMap mode → (mode ≡ TreeMode) ⊎ (mode ≡ TrieMode)
either_mode TreeMode map = inl refl
either_mode TrieMode map = inr refl
either_mode Records map = absurd (let x : false ≡ true = map in cc)

-- a fork that stays on the path of k is not apart from it
not_apart : (lay : Layout) (f : Word → ℕ) (k n : ℕ) → lay.mode ≡ TrieMode → is_leaf f n ≡ false → Stays lay f k n → ¬ IsApart f n k
not_apart lay f k n trie fork (inl tree) x = let y : TreeMode ≡ TrieMode = sym tree ∙ trie in cc
not_apart lay f k n trie fork (inr s) x = (x.fork fork).1 (s.1 (x.fork fork).0)

-- so a walk to k that has come to it has not strayed
pub surely_on : (c : Call) (h : History) (k n : ℕ) → WasPassed c h k n → is_leaf (value h) n ≡ false → Stays c.layout (value h) k n → IsSurelyOn c h k n
surely_on c h k n x fork stays = record { on = record { first = x.first; own = x.own; passed = go x.passed }; stays = stays }
  where
    go : HasWalked c.layout h x.first k n → Passed h x.first k n
    go (inl p) = p
    go (inr s) = absurd (not_apart c.layout (value h) k n s.trie fork stays s.apart)

pub on_path : (c : Call) (h : History) (k n : ℕ) → IsSurelyOn c h k n → WasOnPath h k n
on_path c h k n x = let p = x.on.passed in (p.0, p.1, p.3)

-- a fork by which the call went down to what is not apart from k is surely on the path of k
turned_surely : (c : Call) (h : History) (k n : ℕ) (side : Side) (next : ℕ) → k < 2 ^ 64 → IsMapRun c.layout h → HasTurned c h k n side next → (c.layout.mode ≡ TrieMode → ¬ IsApart (value h) next k) → IsSurelyOn c h k n
turned_surely c h k n side next small run t near = go (either_mode c.layout.mode run.0)
  where
    go : (c.layout.mode ≡ TreeMode) ⊎ (c.layout.mode ≡ TrieMode) → IsSurelyOn c h k n
    go (inl tree) = surely_on c h k n t.passed t.fork (inl tree)
    go (inr trie) =
        let s = t.shown in
        let x = walked_above c.layout h t.passed.first k n next side small trie run t.passed.passed t.fork record { moment = s.moment; within = s.within; stood = walked_stood c.layout s.moment s.passed.first k n s.passed.passed; held = s.held } (near trie) in
        record { on = record { first = t.passed.first; own = t.passed.own; passed = x.0 }; stays = x.1 }

-- what it has found by a fork that is so was on the path of k too
pub child_on : (c : Call) (h : History) (k n : ℕ) (side : Side) (next : ℕ) → IsMapRun c.layout h → HasTurned c h k n side next → Stays c.layout (value h) k n → WasOn c h k next
unfolding surely_on
child_on c h k n side next run t stays = record { first = t.shown.passed.first; own = t.shown.passed.own; passed = later below }
  where
    then : IsMapRun c.layout t.shown.moment
    then = run_since c.layout h t.shown.moment run t.shown.within

    same : SameSettled (value t.shown.moment) (value h) n
    same = stood_settled c.layout h t.shown.moment n run t.shown.within (walked_stood c.layout t.shown.moment t.shown.passed.first k n t.shown.passed.passed)

    fork : is_leaf (value t.shown.moment) n ≡ false
    fork = sym (settled_leaf (value t.shown.moment) (value h) n same) ∙ t.fork

    stayed : Stays c.layout (value t.shown.moment) k n
    stayed = same_stays (value h) (value t.shown.moment) c.layout k n (λ a i. sym (same a i)) stays

    to : toward (value t.shown.moment) n k ≡ side
    to = sym (settled_toward (value t.shown.moment) (value h) n k same) ∙ t.side_is

    below : Passed t.shown.moment t.shown.passed.first k next
    below = subst (Passed t.shown.moment t.shown.passed.first k) (ap (λ (z : Side). value t.shown.moment (child n z)) to ∙ t.shown.held)
        (walk_next c.layout t.shown.moment t.shown.passed.first k n then (surely_on c t.shown.moment k n t.shown.passed fork stayed).on.passed stayed fork)

    later : Passed t.shown.moment t.shown.passed.first k next → Passed h t.shown.passed.first k next
    later p = (p.0, ends_trans h t.shown.moment p.0 t.shown.within p.1, p.2, p.3)

-- the fork above a leaf that has the key is so, and the fork above that
pub parent_surely : (c : Call) (h : History) (k : ℕ) (f : Found) → k < 2 ^ 64 → IsMapRun c.layout h → HasFoundLeaf c h k f → f.value ≢ None → IsSurelyOn c h k f.trail.parent.0
parent_surely c h k f small run a there = turned_surely c h k f.trail.parent.0 f.trail.side f.trail.node.0 small run (a.trail.parent (found_below (ToKey k) c h f run a)) (λ trie x. there (a.says ∙ x.leaf a.leaf))

pub grand_surely : (c : Call) (h : History) (k : ℕ) (f : Found) → k < 2 ^ 64 → IsMapRun c.layout h → HasFoundLeaf c h k f → f.value ≢ None → f.trail.parent.0 ≢ 0 → IsSurelyOn c h k f.trail.grand.0
grand_surely c h k f small run a there below =
    let parent = a.trail.parent (found_below (ToKey k) c h f run a) in
    turned_surely c h k f.trail.grand.0 f.trail.grand_side f.trail.parent.0 small run (a.trail.grand (found_below (ToKey k) c h f run a) below)
    (λ trie. not_apart c.layout (value h) k f.trail.parent.0 trie parent.fork (parent_surely c h k f small run a there).stays)

-- An SCX-record that puts such a fresh node in place of the leaf that was found makes the edit.
pub edit_promised : (c : Call) (h : History) (s : ℕ) (e : MapEdit) (f : Found) (d : Descriptor) (n : ℕ) → IsMapRun c.layout h → (edit_key e) < 2 ^ 64 → HasFoundLeaf c h (edit_key e) f → IsSurelyOn c h (edit_key e) f.trail.parent.0 → IsLeafEditAt f d n → HasFreshEdit c.layout c.pass h e f.trail.node.0 n → FitsThere c.layout h f.trail.parent.0 f.trail.side n → (value_left e ≡ None → f.value ≢ None) → IsPromised c.layout c.pass h s d e
edit_promised c h s e f d n run small a surely i w fits there = leaf_edit_promised c.layout c.pass s h d e c.is_pass record {
  small = small;
  path = subst (WasOnPath h (edit_key e)) (sym i.parent) (on_path c h (edit_key e) f.trail.parent.0 surely);
  stays = subst (Stays c.layout (value h) (edit_key e)) (sym i.parent) surely.stays;
  named = subst (IsNamed c.layout h) (sym i.parent) (passed_named c h (edit_key e) f.trail.parent.0 run parent.passed);
  fork = subst (λ m. is_leaf (value h) m ≡ false) (sym i.parent) parent.fork;
  plan = i.plan ∙ ap leaf_plan (sym turn);
  old = i.old ∙ sym i.leaf;
  leaf_named = subst (IsNamed c.layout h) (sym i.leaf) (passed_named c h (edit_key e) f.trail.node.0 run a.trail.node);
  edit = subst (HasFreshEdit c.layout c.pass h e (d.member 1)) (sym i.new) (subst (λ l. HasFreshEdit c.layout c.pass h e l n) (sym i.leaf) w);
  fits = λ trie. subst (λ z. FitsTrie (value h) (d.member 0) z d.new) (sym turn) (subst (λ z. FitsTrie (value h) z f.trail.side d.new) (sym i.parent) (subst (FitsTrie (value h) f.trail.parent.0 f.trail.side) (sym i.new) (fits trie)));
  there = λ none absent. there none (a.says ∙ ap (said (value h) (edit_key e)) (sym i.leaf) ∙ absent);
}
  where
    parent : HasTurned c h (edit_key e) f.trail.parent.0 f.trail.side f.trail.node.0
    parent = a.trail.parent (found_below (ToKey (edit_key e)) c h f run a)

    turn : toward (value h) (d.member 0) (edit_key e) ≡ f.trail.side
    turn = subst (λ m. toward (value h) m (edit_key e) ≡ f.trail.side) (sym i.parent) parent.side_is

-- What fits in a trie below the fork above the leaf or the fork that was found, which stays on the
-- path of k

-- that fork has named what was found
had_child : (c : Call) (h : History) (k n : ℕ) (side : Side) (next : ℕ) → HasTurned c h k n side next → HasHadChild h n (toward (value h) n k) next
had_child c h k n side next t = record {
  moment = t.shown.moment;
  within = t.shown.within;
  stood = walked_stood c.layout t.shown.moment t.shown.passed.first k n t.shown.passed.passed;
  held = ap (λ (z : Side). value t.shown.moment (child n z)) t.side_is ∙ t.shown.held;
}

module _ (c : Call) (h : History) (e : MapEdit) (f : Found) (n : ℕ) (run : IsMapRun c.layout h) (small : edit_key e < 2 ^ 64) (t : HasTurned c h (edit_key e) f.trail.parent.0 f.trail.side f.trail.node.0) (stays : Stays c.layout (value h) (edit_key e) f.trail.parent.0) where
  abbrev on_side : FitsTrie (value h) f.trail.parent.0 (toward (value h) f.trail.parent.0 (edit_key e)) n → FitsTrie (value h) f.trail.parent.0 f.trail.side n
  on_side x = subst (λ side. FitsTrie (value h) f.trail.parent.0 side n) t.side_is x

  -- a leaf in the place of the leaf
  pub swap_fits_there : IsSwapBy (value h) e f.trail.node.0 n → FitsThere c.layout h f.trail.parent.0 f.trail.side n
  swap_fits_there s trie = on_side (swap_fits c.layout h trie run e small f.trail.parent.0 stays f.trail.node.0 n (had_child c h (edit_key e) f.trail.parent.0 f.trail.side f.trail.node.0 t) s)

  -- a fork over two
  pub split_fits_there : (x y : ℕ) → IsSplitBy (value h) e f.trail.node.0 n x y → HasTrieLevels (value h) e f.trail.node.0 n x y → FitsThere c.layout h f.trail.parent.0 f.trail.side n
  split_fits_there x y s levels trie = on_side (split_fits c.layout h trie run e small f.trail.parent.0 stays f.trail.node.0 n x y (had_child c h (edit_key e) f.trail.parent.0 f.trail.side f.trail.node.0 t) s levels)

  -- a fork above the fork
  pub above_fits_there : (x : ℕ) (at : Side) → ¬ Shares (value h) f.trail.node.0 (edit_key e) → IsAboveBy (value h) e f.trail.node.0 n x at → PartsFrom (value h) f.trail.node.0 n (edit_key e) → level (value h) x ≡ 66 → FitsThere c.layout h f.trail.parent.0 f.trail.side n
  above_fits_there x at outside s parts deep trie = on_side (above_fits c.layout h trie run e small f.trail.parent.0 stays f.trail.node.0 n x at (had_child c h (edit_key e) f.trail.parent.0 f.trail.side f.trail.node.0 t) outside s parts deep)

-- a copy of what the leaf's parent had on its other side, in the place of the parent
pub join_fits_there : (c : Call) (h : History) (e : MapEdit) (f : Found) (z n : ℕ) → IsMapRun c.layout h → edit_key e < 2 ^ 64 → HasTurned c h (edit_key e) f.trail.grand.0 f.trail.grand_side f.trail.parent.0 → Stays c.layout (value h) (edit_key e) f.trail.grand.0 → is_leaf (value h) f.trail.parent.0 ≡ false
    → HasHadChild h f.trail.parent.0 (opposite (toward (value h) f.trail.parent.0 (edit_key e))) z → IsCopyOf (value h) n z → (is_leaf (value h) z ≡ false → (to : Side) → HasHadChild h z to (value h (child n to))) → FitsThere c.layout h f.trail.grand.0 f.trail.grand_side n
join_fits_there c h e f z n run small t stays fork beside copy fields trie = subst (λ side. FitsTrie (value h) f.trail.grand.0 side n) t.side_is
    (join_fits c.layout h trie run e small f.trail.grand.0 stays f.trail.parent.0 z n (had_child c h (edit_key e) f.trail.grand.0 f.trail.grand_side f.trail.parent.0 t) fork beside copy fields)

-- An SCX-record that puts such a fresh fork above the fork that was found makes the edit.
pub put_above_promised : (c : Call) (h : History) (s : ℕ) (e : MapEdit) (f : Found) (d : Descriptor) (n leaf : ℕ) (side : Side) → IsMapRun c.layout h → edit_key e < 2 ^ 64 → HasFoundFork (ToKey (edit_key e)) c h f → IsAboveAt f d n → IsFresh c.layout c.pass h n → IsFresh c.layout c.pass h leaf → IsAboveBy (value h) e f.trail.node.0 n leaf side → PartsFrom (value h) f.trail.node.0 n (edit_key e) → level (value h) leaf ≡ 66 → IsPromised c.layout c.pass h s d e
put_above_promised c h s e f d n leaf side run small a i fresh fresh_leaf above parts deep = above_promised c.layout c.pass s h d e f.trail.node.0 leaf side c.is_pass record {
  trie = a.trie;
  small = small;
  path = subst (WasOnPath h (edit_key e)) (sym i.parent) (on_path c h (edit_key e) f.trail.parent.0 (surely_on c h (edit_key e) f.trail.parent.0 parent.passed parent.fork a.stays));
  stays = subst (Stays c.layout (value h) (edit_key e)) (sym i.parent) a.stays;
  named = subst (IsNamed c.layout h) (sym i.parent) (passed_named c h (edit_key e) f.trail.parent.0 run parent.passed);
  fork = subst (λ m. is_leaf (value h) m ≡ false) (sym i.parent) parent.fork;
  plan = i.plan ∙ ap above_plan (sym turn);
  guard = i.guard;
  old = i.old;
  old_named = passed_named c h (edit_key e) f.trail.node.0 run a.trail.node;
  fresh = subst (IsFresh c.layout c.pass h) (sym i.new) fresh;
  fresh_leaf = fresh_leaf;
  edit = subst (λ m. IsAboveBy (value h) e f.trail.node.0 m leaf side) (sym i.new) above;
  fits = λ trie. subst (λ z. FitsTrie (value h) (d.member 0) z d.new) (sym turn) (subst (λ z. FitsTrie (value h) z f.trail.side d.new) (sym i.parent) (subst (FitsTrie (value h) f.trail.parent.0 f.trail.side) (sym i.new) (above_fits_there c h e f n run small parent a.stays leaf side a.outside above parts deep trie)));
}
  where
    parent : HasTurned c h (edit_key e) f.trail.parent.0 f.trail.side f.trail.node.0
    parent = a.trail.parent a.below

    turn : toward (value h) (d.member 0) (edit_key e) ≡ f.trail.side
    turn = subst (λ m. toward (value h) m (edit_key e) ≡ f.trail.side) (sym i.parent) parent.side_is
