-- What has left the tree, or the trie, never comes back: what an update puts in was never there.
use Rattle.std.proofs.Common.{◌≡◌, ◌≢◌, ◌<◌, ◌≤◌, ℕ, Bool, true, false, ◌⊎◌, inl, inr, ⊎_elim, refl, sym, ◌∙◌, ap, subst, arith, eqb, ◌/◌, ◌%◌}
use Rattle.histories.specs.Common.{Layout, Row, Side, Left, Right, Settled, Head, Child, Info, ScxWord, New, Old, Plan, Member, Freeze, Update, Word, same_word, scx, info, child, field, History, Opened, ◌⊳◌, value, HasHeld, Extends, count, count_of, member, new, old, seen, plan, field_index, field_index_of, side_of, IsNamed, by_field, IsNamedScx, IsInField, Lawful, HasWon, log, is_final}
use Rattle.arena.proofs.Lemmas.{ends_self, ends_trans, held_at, held_since, held_start, opening_info, node_apart, node_word_apart, value_at, word_same}
use Rattle.histories.proofs.Lemmas.{Effect, Facts, IsScxFill, UpdateWins, effect, facts_before, freeze, freeze_keeps_field, lawful_row, lawful_since, named_since, node_stays, quiet, some_is_real, update, update_finds, update_flagged, update_in_progress, update_is_first, update_keeps_other, update_won, win_not_final, won_more}
use Rattle.prims.specs.Laws.Linked.{in_field_named}
use Rattle.ordered_map.specs.EditPlans.{above_plan, sibling_place}
use Rattle.ordered_map.specs.Edits.{HasFieldsOf, IsCopyOf, IsLeafEdit, IsSplitBy}
use Rattle.ordered_map.specs.OrderedMap.{MapEdit}
use Rattle.ordered_map.specs.Paths.{WasInTree}
use Rattle.ordered_map.specs.Runs.{IsMapRun}
use Rattle.ordered_map.specs.Spelled.{IsTree, Spells}
use Rattle.ordered_map.specs.TreeShape.{EditsLeaf, IsEdit, TakesLeafOut}
use Rattle.ordered_map.specs.TreeWords.{Tree, Leaf, Fork, root, rank, level, opposite, Has, Shows, is_leaf}
use Rattle.ordered_map.specs.TrieShape.{IsTrieEdit, PutsAbove, TakesEndLeafOut}
use Rattle.ordered_map.proofs.Lemmas.{end_join_plan_says, end_leaf_plan_says, join_plan_says, leaf_plan_says, was_passed}
use Rattle.ordered_map.proofs.MapLemmas.{run_since, run_spells, stood_in_field, tree_remains}
use Rattle.touching.specs.Kinds.{IsInTree}
use Rattle.touching.proofs.Begun.{HasBegunEdit, below_named, begun_edit, first_keeps, kept, leaf_then, member_named, named_begun, new_named, word_then}
use Rattle.touching.proofs.Present.{one_first}
use Rattle.order.proofs.Lemmas.{has_below, has_root}

-- Trees

-- no node of a tree is above its root
low_root : (f : Word → ℕ) (t : Tree) (lo hi n : ℕ) → Shows f lo hi t → Has t n → level f (root t) ≤ level f n
low_root f (Leaf m) lo hi n s e = subst (λ k. level f m ≤ level f k) e (omega arith)
low_root f (Fork m a b) lo hi n s (inl e) = subst (λ k. level f m ≤ level f k) e (omega arith)
low_root f (Fork m a b) lo hi n s (inr (inl q)) = let x = low_root f a lo (rank f m) n s.1 q in let y = s.0.low in omega (arith, x, y)
low_root f (Fork m a b) lo hi n s (inr (inr q)) = let x = low_root f b (rank f m) hi n s.2 q in let y = s.0.high in omega (arith, x, y)

-- below the node `put` of the tree u is the node n
record IsBelowPut (f : Word → ℕ) (u : Tree) (put n : ℕ) : Type 0 where
  tree : Tree
  low : ℕ
  high : ℕ
  shows : Shows f low high tree
  is : root tree ≡ put
  has : Has tree n
  there : Has u put

-- of words that show the tree t, others are left but for fields that hold `put`: then a node of a
-- tree that they show, whose root is in t, is in t or below `put`
module _ (f g : Word → ℕ) (t : Tree) (lo hi : ℕ) (shown : Shows f lo hi t) (W : Type 0) (put : ℕ)
    (kind : (m : ℕ) → Has t m → is_leaf g m ≡ is_leaf f m)
    (same : (m : ℕ) (side : Side) → Has t m → (g (child m side) ≡ f (child m side)) ⊎ ((g (child m side) ≡ put) × W)) where
  down : (m : ℕ) (side : Side) (x : Tree) (a b n : ℕ) → Shows g a b x → g (child m side) ≡ root x → Has t m → is_leaf g m ≡ false → Has x n → (Has t (root x) → Has t n ⊎ (IsBelowPut g x put n × W)) → Has t n ⊎ (IsBelowPut g x put n × W)
  down m side x a b n s e top fork q more = go (same m side top)
    where
      go : (g (child m side) ≡ f (child m side)) ⊎ ((g (child m side) ≡ put) × W) → Has t n ⊎ (IsBelowPut g x put n × W)
      go (inl z) = more (subst (Has t) (sym z ∙ e) (has_below f t lo hi m side shown top (sym (kind m top) ∙ fork)))
      go (inr z) = let is : root x ≡ put = sym e ∙ z.0 in inr (record { tree = x; low = a; high = b; shows = s; is = is; has = q; there = subst (Has x) is (has_root x) }, z.1)

  wider : (u x : Tree) (n : ℕ) → (Has x put → Has u put) → Has t n ⊎ (IsBelowPut g x put n × W) → Has t n ⊎ (IsBelowPut g u put n × W)
  wider u x n up (inl h) = inl h
  wider u x n up (inr z) = let y = z.0 in inr (record { tree = y.tree; low = y.low; high = y.high; shows = y.shows; is = y.is; has = y.has; there = up y.there }, z.1)

  found_in : (u : Tree) (a b n : ℕ) → Shows g a b u → Has t (root u) → Has u n → Has t n ⊎ (IsBelowPut g u put n × W)
  found_in (Leaf m) a b n s top e = inl (subst (Has t) e top)
  found_in (Fork m x y) a b n s top (inl e) = inl (subst (Has t) e top)
  found_in (Fork m x y) a b n s top (inr (inl q)) = wider (Fork m x y) x n (λ h. inr (inl h)) (down m Left x a (rank g m) n s.1 s.0.left top s.0.fork q (λ below. found_in x a (rank g m) n s.1 below q))
  found_in (Fork m x y) a b n s top (inr (inr q)) = wider (Fork m x y) y n (λ h. inr (inr h)) (down m Right y (rank g m) b n s.2 s.0.right top s.0.fork q (λ below. found_in y (rank g m) b n s.2 below q))

-- What an SCX-record is to put in

-- its new node, or a leaf below that which nothing named as it began
abbrev pub IsMadeAt : Layout → History → ℕ → ℕ → Type 0
IsMadeAt lay b s n = (n ≡ new b s) ⊎ ((side : Side) × (value b (child (new b s) side) ≡ n) × ¬ IsNamed lay b n)

pub record IsPending (h : History) (s : ℕ) : Type 0 where
  pub real : s ≢ 0
  pub named : IsNamedScx h s
  pub unwon : ¬ HasWon h s

-- none of it was in the tree before
fresh_at : (lay : Layout) (h : History) (s n : ℕ) → IsMapRun lay h → (x : HasBegunEdit lay h s) → IsMadeAt lay x.before s n → ¬ WasInTree x.before n
fresh_at lay h s n run x made stood = go made
  where
    run_then : IsMapRun lay x.before
    run_then = run_since lay h x.before run (ends_trans h (x.row ⊳ x.before) x.before x.within (inr (ends_self x.before)))

    in_field : IsInField lay x.before n
    in_field = stood_in_field lay x.before n run_then stood

    go : IsMadeAt lay x.before s n → ⊥
    go (inl e) = ⊎_elim
        (λ i. let a = x.may_begin.new_own.from in omega (arith, a, e, i))
        (λ y. x.may_begin.new_in_no_field y.0 y.1 (subst (HasHeld x.before (child y.0 y.1)) e y.3))
        in_field
    go (inr y) = y.2 (in_field_named n in_field)

-- two SCX-records put in different nodes
module _ (lay : Layout) (h : History) (run : IsMapRun lay h) where
  later : (a d n : ℕ) → a ≢ 0 → a ≢ d → (x : HasBegunEdit lay h a) (y : HasBegunEdit lay h d) → Extends y.before (x.row ⊳ x.before) → IsMadeAt lay x.before a n → IsMadeAt lay y.before d n → ⊥
  later a d n real apart x y e made made_later = go made made_later
    where
      l : Lawful lay h
      l = run.1.lawful

      within : Extends h y.before
      within = ends_trans h (y.row ⊳ y.before) y.before y.within (inr (ends_self y.before))

      new_held : HasHeld y.before (scx a New) (new x.before a)
      new_held = held_at y.before (scx a New) (new x.before a) (word_then lay h a l real x y.before within e New tt)

      new_then : IsNamed lay y.before (new x.before a)
      new_then = named_since lay y.before (x.row ⊳ x.before) (new x.before a) (lawful_since lay h y.before l within) e (new_named lay h a l real x)

      below_held : (side : Side) → HasHeld y.before (child (new x.before a) side) (value x.before (child (new x.before a) side))
      below_held side = held_since y.before (x.row ⊳ x.before) (child (new x.before a) side) _ e
          (held_at (x.row ⊳ x.before) (child (new x.before a) side) _ (first_keeps lay h a l real x (child (new x.before a) side) (node_word_apart (member x.before a 0) (new x.before a) Info (Child side) refl)))

      go : IsMadeAt lay x.before a n → IsMadeAt lay y.before d n → ⊥
      go (inl p) (inl q) = y.may_begin.new_in_no_other a apart (subst (HasHeld y.before (scx a New)) (sym p ∙ q) new_held)
      go (inl p) (inr q) = q.2 (subst (IsNamed lay y.before) (sym p) new_then)
      go (inr p) (inl q) = y.may_begin.new_in_no_field (new x.before a) p.0 (subst (HasHeld y.before (child (new x.before a) p.0)) (p.1 ∙ q) (below_held p.0))
      go (inr p) (inr q) = q.2 (subst (IsNamed lay y.before) p.1 (by_field (new x.before a) p.0 new_then (below_held p.0)))

  abbrev last_row : Row → History → Row
  last_row r (Opened o) = r
  last_row r (q ⊳ k) = q

  once : (a d n : ℕ) → a ≢ 0 → d ≢ 0 → a ≢ d → (x : HasBegunEdit lay h a) (y : HasBegunEdit lay h d) → IsMadeAt lay x.before a n → IsMadeAt lay y.before d n → ⊥
  once a d n real_a real_d apart x y made_a made_d = go (one_first h (x.row ⊳ x.before) (y.row ⊳ y.before) x.within y.within)
    where
      same : x.row ≡ y.row → ⊥
      same e = apart (sym x.begins.stored ∙ ap (λ (r : Row). r.after) e ∙ y.begins.stored)

      go : Extends (x.row ⊳ x.before) (y.row ⊳ y.before) ⊎ Extends (y.row ⊳ y.before) (x.row ⊳ x.before) → ⊥
      go (inl (inl e)) = same (sym (ap (last_row x.row) e))
      go (inl (inr e)) = later d a n real_d (λ q. apart (sym q)) y x e made_d made_a
      go (inr (inl e)) = same (ap (last_row x.row) e)
      go (inr (inr e)) = later a d n real_a apart x y e made_a made_d

-- One row more

-- what an update that wins puts in
pub record IsPutIn (lay : Layout) (g : History) (r : Row) (n : ℕ) : Type 0 where
  pub scx : ℕ
  pub wins : UpdateWins g r scx
  pub begun : HasBegunEdit lay g scx
  pub made : IsMadeAt lay begun.before scx n

-- the fields of the new fork of what wins are as when that began
abbrev pub KeepsNew : Layout → History → Type 0
KeepsNew lay g = (s : ℕ) → IsPending g s → (x : HasBegunEdit lay g s) → (side : Side) → value g (child (new x.before s) side) ≡ value x.before (child (new x.before s) side)

module _ (lay : Layout) (g : History) (r : Row) (run : IsMapRun lay (r ⊳ g)) where
  abbrev f : Facts lay g
  f = facts_before lay g r run.1.lawful

  run_now : IsMapRun lay g
  run_now = run_since lay (r ⊳ g) g run (inr (ends_self g))

  abbrev spelled : Spells lay (value g) (run_spells lay g run_now).0
  spelled = (run_spells lay g run_now).1

  was : (m : ℕ) → Has spelled.tree m → WasInTree g m
  was m h = record { moment = g; within = ends_self g; tree = spelled.tree; is_tree = spelled.is_tree; has = h }

  tree_named : (m : ℕ) → Has spelled.tree m → IsNamed lay g m
  tree_named m h = in_field_named m (stood_in_field lay g m run_now (was m h))

  leaf_stays : (m : ℕ) → IsNamed lay g m → is_leaf (value (r ⊳ g)) m ≡ is_leaf (value g) m
  leaf_stays m named = ap (λ v. eqb (v / 4 % 2) 1) (node_stays lay g r m (Settled Head) run.1.lawful tt named)

  there : (n : ℕ) → Has spelled.tree n → IsInTree g n
  there n h = record { tree = spelled.tree; is_tree = spelled.is_tree; has = h }

  module _ (n : ℕ) (x : IsInTree (r ⊳ g) n) where
    root_in : Has spelled.tree (root x.tree)
    root_in = subst (Has spelled.tree) (spelled.is_tree.is ∙ sym x.is_tree.is) (has_root spelled.tree)

    -- rows that leave the fields of the tree leave it
    by_quiet : ((m : ℕ) (side : Side) → Has spelled.tree m → value (r ⊳ g) (child m side) ≡ value g (child m side)) → IsInTree g n
    by_quiet fields = ⊎_elim (λ h. there n h) (λ z. absurd z.1)
        (found_in (value g) (value (r ⊳ g)) spelled.tree _ _ spelled.is_tree.shows ⊥ 0 (λ m h. leaf_stays m (tree_named m h)) (λ m side h. inl (fields m side h)) x.tree _ _ n x.is_tree.shows root_in x.has)

    -- an update that wins
    module _ (keeps : KeepsNew lay g) (u : ℕ) (w : UpdateWins g r u) where
      abbrev real : u ≢ 0
      real = some_is_real f (update_flagged f w).some

      abbrev named_u : IsNamedScx g u
      named_u = (member g u 0, (update_flagged f w).frozen 0 (update_flagged f w).some)

      abbrev b : HasBegunEdit lay g u
      b = begun_edit lay g u run_now.1.lawful run_now.1.shaped real named_u

      abbrev then : Word → ℕ
      then = value b.before

      l : Lawful lay g
      l = run_now.1.lawful

      word : (a : ScxWord) → IsScxFill a → value g (scx u a) ≡ then (scx u a)
      word a i = word_then lay g u l real b g (ends_self g) b.within a i

      new_is : new g u ≡ new b.before u
      new_is = word New tt

      few : (j : ℕ) → j < count b.before u → j < count g u
      few j i = subst (λ p. j < count_of p) (sym (word Plan tt)) i

      -- what it covers is not final, and is frozen
      covered_open : (j : ℕ) → j < count b.before u → is_final (log lay g) (member b.before u j) ≡ false
      covered_open j i = win_not_final lay g r u (member b.before u j) run.1.lawful w record { index = j; within = few j i; is = word (Member j) tt }

      held : (j : ℕ) → j < count b.before u → HasHeld g (info (member b.before u j)) u
      held j i = subst (λ m. HasHeld g (info m) u) (word (Member j) tt) ((update_flagged f w).frozen j (few j i))

      keeps_fields : (j : ℕ) → j < count b.before u → IsNamed lay b.before (member b.before u j) → (then (info (member b.before u j)) ≡ seen b.before u j) × ((side : Side) → value g (child (member b.before u j) side) ≡ then (child (member b.before u j) side))
      keeps_fields j i named = let y = kept lay g u l real b (update_is_first f w) (update_in_progress f w) j i named g (ends_self g) b.within (held j i) in (y.saw, y.fields)

      -- its new node
      new_leaf : is_leaf (value (r ⊳ g)) (new g u) ≡ is_leaf then (new b.before u)
      new_leaf =
          let named : IsNamed lay g (new b.before u) = named_since lay g (b.row ⊳ b.before) (new b.before u) l b.within (new_named lay g u l real b) in
          leaf_stays (new g u) (subst (IsNamed lay g) (sym new_is) named) ∙ ap (is_leaf (value g)) new_is ∙ leaf_then lay g u l real b g (ends_self g) b.within (new b.before u) (new_named lay g u l real b)

      below_leaf : (side : Side) → is_leaf (value (r ⊳ g)) (then (child (new b.before u) side)) ≡ is_leaf then (then (child (new b.before u) side))
      below_leaf side =
          let named : IsNamed lay (b.row ⊳ b.before) (then (child (new b.before u) side)) = below_named lay g u l real b side in
          leaf_stays _ (named_since lay g (b.row ⊳ b.before) _ l b.within named) ∙ leaf_then lay g u l real b g (ends_self g) b.within _ named

      member_leaf : (j : ℕ) → is_leaf (value g) (member b.before u j) ≡ is_leaf then (member b.before u j)
      member_leaf j = leaf_then lay g u l real b g (ends_self g) b.within (member b.before u j) (member_named lay g u l real b j)

      before : Extends g b.before
      before = ends_trans g (b.row ⊳ b.before) b.before b.within (inr (ends_self b.before))

      run_then : IsMapRun lay b.before
      run_then = run_since lay g b.before run_now before

      -- a row keeps what is in the tree, but for the field
      left : (m : ℕ) (side : Side) → Has spelled.tree m → (value (r ⊳ g) (child m side) ≡ value g (child m side)) ⊎ ((value (r ⊳ g) (child m side) ≡ new g u) × Unit {0})
      left m side h = go (same_word (field g u) (child m side)) refl
        where
          go : (t : Bool) → same_word (field g u) (child m side) ≡ t → (value (r ⊳ g) (child m side) ≡ value g (child m side)) ⊎ ((value (r ⊳ g) (child m side) ≡ new g u) × Unit {0})
          go false e = inl (update_keeps_other f w (child m side) e)
          go true e = inr (value_at r g (child m side) (w.update.word ∙ word_same (field g u) (child m side) e) ∙ w.stored, tt)

      put : IsMadeAt lay b.before u n → Has spelled.tree n ⊎ IsPutIn lay g r n
      put made = inr record { scx = u; wins = w; begun = b; made = made }

      -- the field is one of its first node, a fork of the tree
      module _ (index : field_index b.before u ≡ 0) (some : 0 < count b.before u) where
        abbrev spot : ℕ
        spot = member b.before u 0

        spot_is : member g u (field_index g u) ≡ spot
        spot_is = ap (λ p. value g (scx u (Member (field_index_of p)))) (word Plan tt) ∙ ap (λ i. value g (scx u (Member i))) index ∙ word (Member 0) tt

        spot_stood : WasInTree b.before spot
        spot_stood = let p = b.may.path in was_passed b.before p.0 _ spot (p.0, p.1, ends_self p.0, p.2)

        spot_named : IsNamed lay b.before spot
        spot_named = in_field_named spot (stood_in_field lay b.before spot run_then spot_stood)

        spot_fork : is_leaf (value g) spot ≡ false
        spot_fork = member_leaf 0 ∙ b.may.fork

        spot_in : Has spelled.tree spot
        spot_in = let q = spot_stood in tree_remains lay g spelled.tree spot run_now record { moment = q.moment; within = ends_trans g b.before q.moment before q.within; tree = q.tree; is_tree = q.is_tree; has = q.has } (inr spot_fork) (covered_open 0 some) spelled.is_tree

        old_in : Has spelled.tree (old b.before u)
        old_in = subst (Has spelled.tree) (ap (λ m. value g (child m (side_of (plan g u)))) (sym spot_is) ∙ update_finds f w ∙ word Old tt)
            (has_below (value g) spelled.tree _ _ spot (side_of (plan g u)) spelled.is_tree.shows spot_in spot_fork)

        new_apart : member g u (field_index g u) ≢ new g u
        new_apart e = fresh_at lay g u spot run_now b (inl (sym spot_is ∙ e ∙ new_is)) spot_stood

        below_is : (side : Side) → value (r ⊳ g) (child (new g u) side) ≡ then (child (new b.before u) side)
        below_is side =
            update_keeps_other f w (child (new g u) side) (node_apart (member g u (field_index g u)) (new g u) (Child (side_of (plan g u))) (Child side) new_apart)
            ∙ ap (λ m. value g (child m side)) new_is
            ∙ keeps u record { real = real; named = named_u; unwon = update_is_first f w } b side

        -- what it holds was put there by its owner's snapshot
        first_info : then (info spot) ≡ seen b.before u 0
        first_info = sym ((lawful_row lay b.before b.row (lawful_since lay g (b.row ⊳ b.before) l b.within)).before ∙ ap then b.begins.word) ∙ b.begins.found

        old_named : IsNamed lay b.before (old b.before u)
        old_named =
            let shows : then (field b.before u) ≡ old b.before u = b.may_begin.shows (ap (λ i. then (info (member b.before u i))) index ∙ first_info ∙ ap (seen b.before u) (sym index)) in
            by_field (member b.before u (field_index b.before u)) (side_of (plan b.before u)) (subst (λ i. IsNamed lay b.before (member b.before u i)) (sym index) spot_named) (held_at b.before (field b.before u) (old b.before u) shows)

        -- below its new fork
        module _ (fork : is_leaf then (new b.before u) ≡ false) (side : Side) (sub : Tree) (a c : ℕ) (shows : Shows (value (r ⊳ g)) a c sub) (e : value (r ⊳ g) (child (new g u) side) ≡ root sub) (deep : level (value (r ⊳ g)) (new g u) < level (value (r ⊳ g)) (root sub)) (z : Has sub n) where
          root_is : then (child (new b.before u) side) ≡ root sub
          root_is = sym (below_is side) ∙ e

          again : Has spelled.tree (then (child (new b.before u) side)) → Has spelled.tree n ⊎ IsPutIn lay g r n
          again top = ⊎_elim inl (λ y. absurd (let low = low_root (value (r ⊳ g)) sub a c (new g u) shows y.0.there in omega (arith, low, deep)))
              (found_in (value g) (value (r ⊳ g)) spelled.tree _ _ spelled.is_tree.shows (Unit {0}) (new g u) (λ m h. leaf_stays m (tree_named m h)) left sub a c n shows (subst (Has spelled.tree) root_is top) z)

          by_leaf : is_leaf then (then (child (new b.before u) side)) ≡ true → count b.before u ≡ 2 → Has spelled.tree n ⊎ IsPutIn lay g r n
          by_leaf leaf two = go sub shows root_is z
            where
              go : (t : Tree) → Shows (value (r ⊳ g)) a c t → then (child (new b.before u) side) ≡ root t → Has t n → Has spelled.tree n ⊎ IsPutIn lay g r n
              go (Leaf m) s q h = put (inr (side, q ∙ h, λ named. b.may.fresh two fork side leaf (subst (IsNamed lay b.before) (sym (q ∙ h)) named)))
              go (Fork m x y) s q h = absurd (let d : true ≡ false = sym (below_leaf side ∙ leaf) ∙ ap (is_leaf (value (r ⊳ g))) q ∙ s.0.fork in cc)

          -- a join puts in a copy of a fork of the tree
          by_copy : (j : ℕ) → 1 < count b.before u → j < count b.before u → old b.before u ≡ member b.before u 1 → is_leaf then (member b.before u 1) ≡ false
              → (then (info (member b.before u 1)) ≡ seen b.before u 1 → (s : Side) × (then (child (member b.before u 1) s) ≡ member b.before u j))
              → IsCopyOf then (new b.before u) (member b.before u j) → (then (info (member b.before u j)) ≡ seen b.before u j → HasFieldsOf then (new b.before u) (member b.before u j)) → Has spelled.tree n ⊎ IsPutIn lay g r n
          by_copy j one place old_is fork_one shown copy copied = again (subst (Has spelled.tree) (second.1 side ∙ sym (copied second.0 copy_fork side)) (has_below (value g) spelled.tree _ _ (member b.before u j) side spelled.is_tree.shows in_two (member_leaf j ∙ copy_fork)))
            where
              named_one : IsNamed lay b.before (member b.before u 1)
              named_one = subst (IsNamed lay b.before) old_is old_named

              first : (then (info (member b.before u 1)) ≡ seen b.before u 1) × ((s : Side) → value g (child (member b.before u 1) s) ≡ then (child (member b.before u 1) s))
              first = keeps_fields 1 one named_one

              at : (s : Side) × (then (child (member b.before u 1) s) ≡ member b.before u j)
              at = shown first.0

              in_two : Has spelled.tree (member b.before u j)
              in_two = subst (Has spelled.tree) (first.1 at.0 ∙ at.1) (has_below (value g) spelled.tree _ _ (member b.before u 1) at.0 spelled.is_tree.shows (subst (Has spelled.tree) old_is old_in) (member_leaf 1 ∙ fork_one))

              second : (then (info (member b.before u j)) ≡ seen b.before u j) × ((s : Side) → value g (child (member b.before u j) s) ≡ then (child (member b.before u j) s))
              second = keeps_fields j place (by_field (member b.before u 1) at.0 named_one (held_at b.before (child (member b.before u 1) at.0) (member b.before u j) at.1))

              copy_fork : is_leaf then (member b.before u j) ≡ false
              copy_fork = ap (λ v. eqb (v / 4 % 2) 1) (sym copy.same_head) ∙ fork

      -- so it is with each edit
      module _ (fork : is_leaf then (new b.before u) ≡ false) (side : Side) (sub : Tree) (a c : ℕ) (shows : Shows (value (r ⊳ g)) a c sub) (e : value (r ⊳ g) (child (new g u) side) ≡ root sub) (deep : level (value (r ⊳ g)) (new g u) < level (value (r ⊳ g)) (root sub)) (z : Has sub n) where
        abbrev Found : Type 0
        Found = Has spelled.tree n ⊎ IsPutIn lay g r n

        of_leaf : is_leaf then (new b.before u) ≡ true → Found
        of_leaf leaf = absurd (let d : true ≡ false = sym leaf ∙ fork in cc)

        of_split : (x : MapEdit) (l p q : ℕ) → IsSplitBy then x l (new b.before u) p q → field_index b.before u ≡ 0 → count b.before u ≡ 2 → Found
        of_split x l p q split index two = by_leaf index (omega (arith, two)) fork side sub a c shows e deep z (at side) two
          where
            at : (s : Side) → is_leaf then (then (child (new b.before u) s)) ≡ true
            at Left = ap (is_leaf then) split.left ∙ split.first.leaf
            at Right = ap (is_leaf then) split.right ∙ split.last.leaf

        of_edits_leaf : EditsLeaf b.before u b.edit → Found
        of_edits_leaf x = go x.edit
          where
            index : field_index b.before u ≡ 0
            index = (leaf_plan_says (plan b.before u) _ x.plan).0

            two : count b.before u ≡ 2
            two = (leaf_plan_says (plan b.before u) _ x.plan).3

            go : IsLeafEdit then b.edit (member b.before u 1) (new b.before u) → Found
            go (inl swap) = of_leaf swap.new.leaf
            go (inr y) = of_split b.edit (member b.before u 1) y.0 y.1 y.2 index two

        of_takes_out : (s : Side) → TakesLeafOut b.before u b.edit s → Found
        of_takes_out s x = by_copy index some fork side sub a c shows e deep z (sibling_place s) one (place s) x.old x.edit.fork (λ q. at s (x.fields q)) x.edit.copy x.copied
          where
            index : field_index b.before u ≡ 0
            index = (join_plan_says (plan b.before u) _ x.plan).0

            four : count b.before u ≡ 4
            four = (join_plan_says (plan b.before u) _ x.plan).3

            some : 0 < count b.before u
            some = omega (arith, four)

            one : 1 < count b.before u
            one = omega (arith, four)

            place : (t : Side) → sibling_place t < count b.before u
            place Left = omega (arith, four)
            place Right = omega (arith, four)

            at : (t : Side) → (then (child (member b.before u 1) Left) ≡ member b.before u 2) × (then (child (member b.before u 1) Right) ≡ member b.before u 3) → (k : Side) × (then (child (member b.before u 1) k) ≡ member b.before u (sibling_place t))
            at Left q = (Right, q.1)
            at Right q = (Left, q.0)

        of_takes_end : (s : Side) → TakesEndLeafOut b.before u b.edit s → Found
        of_takes_end s x = by_copy index (omega (arith, four)) fork side sub a c shows e deep z 2 (omega (arith, four)) (omega (arith, four)) x.old x.edit.fork (λ q. (opposite s, (x.fields q).1)) x.edit.copy x.copied
          where
            index : field_index b.before u ≡ 0
            index = (end_join_plan_says (plan b.before u) _ x.plan).0

            four : count b.before u ≡ 4
            four = (end_join_plan_says (plan b.before u) _ x.plan).3

        of_above : PutsAbove b.before u b.edit → Found
        of_above x = at side x.side refl refl
          where
            says : (p : ℕ) (s : Side) → p ≡ above_plan s → (field_index_of p ≡ 0) × (count_of p ≡ 2)
            says p Left q = rw q (refl, refl)
            says p Right q = rw q (refl, refl)

            index : field_index b.before u ≡ 0
            index = (says (plan b.before u) _ x.plan).0

            two : count b.before u ≡ 2
            two = (says (plan b.before u) _ x.plan).1

            some : 0 < count b.before u
            some = omega (arith, two)

            fresh : side ≡ x.side → Found
            fresh q = by_leaf index some fork side sub a c shows e deep z (ap (λ s. is_leaf then (then (child (new b.before u) s))) q ∙ ap (is_leaf then) x.edit.leaf ∙ x.edit.first.leaf) two

            other : side ≡ opposite x.side → Found
            other q = again index some fork side sub a c shows e deep z (subst (Has spelled.tree) (sym (ap (λ s. then (child (new b.before u) s)) q ∙ x.edit.other)) (old_in index some))

            at : (s t : Side) → side ≡ s → x.side ≡ t → Found
            at Left Left p q = fresh (p ∙ sym q)
            at Right Right p q = fresh (p ∙ sym q)
            at Left Right p q = other (p ∙ sym (ap opposite q))
            at Right Left p q = other (p ∙ sym (ap opposite q))

        of_edit : IsEdit lay b.before u b.edit → Found
        of_edit (inl x) = of_edits_leaf x
        of_edit (inr (inl x)) = of_takes_out _ x
        of_edit (inr (inr x)) = go x.1
          where
            go : IsTrieEdit b.before u b.edit → Found
            go (inl y) = let says = leaf_plan_says (plan b.before u) _ y.plan in of_split b.edit (member b.before u 1) y.first y.last y.edit says.0 says.3
            go (inr (inl y)) = of_leaf y.edit.new.leaf
            go (inr (inr (inl y))) = of_takes_end _ y
            go (inr (inr (inr y))) = of_above y

      below_put : (t : Tree) (lo hi : ℕ) → Shows (value (r ⊳ g)) lo hi t → root t ≡ new g u → Has t n → Has spelled.tree n ⊎ IsPutIn lay g r n
      below_put (Leaf m) lo hi s is e = put (inl (sym e ∙ is ∙ new_is))
      below_put (Fork m p q) lo hi s is (inl e) = put (inl (sym e ∙ is ∙ new_is))
      below_put (Fork m p q) lo hi s is (inr (inl z)) = of_edit (sym new_leaf ∙ subst (λ k. is_leaf (value (r ⊳ g)) k ≡ false) is s.0.fork) Left p lo (rank (value (r ⊳ g)) m) s.1 (subst (λ k. value (r ⊳ g) (child k Left) ≡ root p) is s.0.left) (subst (λ k. level (value (r ⊳ g)) k < level (value (r ⊳ g)) (root p)) is s.0.low) z b.may.edit
      below_put (Fork m p q) lo hi s is (inr (inr z)) = of_edit (sym new_leaf ∙ subst (λ k. is_leaf (value (r ⊳ g)) k ≡ false) is s.0.fork) Right q (rank (value (r ⊳ g)) m) hi s.2 (subst (λ k. value (r ⊳ g) (child k Right) ≡ root q) is s.0.right) (subst (λ k. level (value (r ⊳ g)) k < level (value (r ⊳ g)) (root q)) is s.0.high) z b.may.edit

      by_update : IsInTree g n ⊎ IsPutIn lay g r n
      by_update = go (found_in (value g) (value (r ⊳ g)) spelled.tree _ _ spelled.is_tree.shows (Unit {0}) (new g u) (λ m h. leaf_stays m (tree_named m h)) left x.tree _ _ n x.is_tree.shows root_in x.has)
        where
          go : Has spelled.tree n ⊎ (IsBelowPut (value (r ⊳ g)) x.tree (new g u) n × Unit {0}) → IsInTree g n ⊎ IsPutIn lay g r n
          go (inl h) = inl (there n h)
          go (inr y) = let z = y.0 in ⊎_elim (λ h. inl (there n h)) inr (below_put z.tree z.low z.high z.shows z.is z.has)

    -- what is in the tree was there before, or is put in
    step : KeepsNew lay g → IsInTree g n ⊎ IsPutIn lay g r n
    step keeps = go (effect lay g r run.1.lawful)
      where
        go : Effect lay g r → IsInTree g n ⊎ IsPutIn lay g r n
        go (quiet k) = inl (by_quiet (λ m side h. k.node m (Child side) tt (tree_named m h)))
        go (freeze s j w) = inl (by_quiet (λ m side h. freeze_keeps_field f w m side))
        go (update u w) = by_update keeps u w

-- Always

above_index : (p : ℕ) (s : Side) → p ≡ above_plan s → field_index_of p ≡ 0
above_index p Left q = rw q refl
above_index p Right q = rw q refl

pub edit_index : (lay : Layout) (b : History) (u : ℕ) (e : MapEdit) → IsEdit lay b u e → field_index b u ≡ 0
edit_index lay b u e (inl x) = (leaf_plan_says (plan b u) _ x.plan).0
edit_index lay b u e (inr (inl x)) = (join_plan_says (plan b u) _ x.plan).0
edit_index lay b u e (inr (inr x)) = go x.1
  where
    go : IsTrieEdit b u e → field_index b u ≡ 0
    go (inl y) = (leaf_plan_says (plan b u) _ y.plan).0
    go (inr (inl y)) = (end_leaf_plan_says (plan b u) _ y.plan).0
    go (inr (inr (inl y))) = (end_join_plan_says (plan b u) _ y.plan).0
    go (inr (inr (inr y))) = above_index (plan b u) _ y.plan

pub was_since : (h m : History) (n : ℕ) → Extends h m → WasInTree m n → WasInTree h n
was_since h m n e x = record { moment = x.moment; within = ends_trans h m x.moment e x.within; tree = x.tree; is_tree = x.is_tree; has = x.has }

-- the node of the field of an SCX-record that has begun has been in the tree
field_stood : (lay : Layout) (g : History) (u : ℕ) → IsMapRun lay g → u ≢ 0 → HasBegunEdit lay g u → WasInTree g (member g u (field_index g u))
field_stood lay g u run real y = subst (WasInTree g) (sym spot_is) (was_since g y.before (member y.before u 0) (ends_trans g (y.row ⊳ y.before) y.before y.within (inr (ends_self y.before))) (let p = y.may.path in was_passed y.before p.0 _ (member y.before u 0) (p.0, p.1, ends_self p.0, p.2)))
  where
    word : (a : ScxWord) → IsScxFill a → value g (scx u a) ≡ value y.before (scx u a)
    word a i = word_then lay g u run.1.lawful real y g (ends_self g) y.within a i

    spot_is : member g u (field_index g u) ≡ member y.before u 0
    spot_is = ap (λ p. value g (scx u (Member (field_index_of p)))) (word Plan tt) ∙ ap (λ i. value g (scx u (Member i))) (edit_index lay y.before u y.edit y.may.edit) ∙ word (Member 0) tt

-- what an SCX-record in progress is to put in was never in the tree
pub record NewFacts (lay : Layout) (h : History) : Type 0 where
  pub unborn : (s n : ℕ) → IsPending h s → (x : HasBegunEdit lay h s) → IsMadeAt lay x.before s n → ¬ WasInTree h n
  pub keeps : KeepsNew lay h

module _ (lay : Layout) (g : History) (r : Row) (run : IsMapRun lay (r ⊳ g)) (facts : NewFacts lay g) where
  abbrev g_facts : Facts lay g
  g_facts = facts_before lay g r run.1.lawful

  run_g : IsMapRun lay g
  run_g = run_since lay (r ⊳ g) g run (inr (ends_self g))

  abbrev before_of : History → History
  before_of (Opened o) = Opened o
  before_of (q ⊳ k) = k

  abbrev row_of : History → Row
  row_of (Opened o) = r
  row_of (q ⊳ k) = q

  abbrev begun_then : (s : ℕ) (x : HasBegunEdit lay (r ⊳ g) s) → Extends g (x.row ⊳ x.before) → HasBegunEdit lay g s
  begun_then s x e = record { row = x.row; before = x.before; within = e; begins = x.begins; may_begin = x.may_begin; edit = x.edit; may = x.may }

  pending_then : (s : ℕ) (x : HasBegunEdit lay (r ⊳ g) s) → Extends g (x.row ⊳ x.before) → IsPending (r ⊳ g) s → IsPending g s
  pending_then s x e p = record { real = p.real; named = (q.0, held_since g (x.row ⊳ x.before) (info q.0) s e q.1); unwon = λ w. p.unwon (won_more r g s w) }
    where
      q : IsNamedScx (x.row ⊳ x.before) s
      q = named_begun lay (r ⊳ g) s run.1.lawful p.real x

  was_or_is : (n : ℕ) → WasInTree (r ⊳ g) n → IsInTree (r ⊳ g) n ⊎ WasInTree g n
  was_or_is n x = go x.within
    where
      go : Extends (r ⊳ g) x.moment → IsInTree (r ⊳ g) n ⊎ WasInTree g n
      go (inl e) = inl record { tree = x.tree; is_tree = subst (λ k. IsTree (value k) x.tree) e x.is_tree; has = x.has }
      go (inr e) = inr record { moment = x.moment; within = e; tree = x.tree; is_tree = x.is_tree; has = x.has }

  is_was : (n : ℕ) → IsInTree g n → WasInTree g n
  is_was n x = record { moment = g; within = ends_self g; tree = x.tree; is_tree = x.is_tree; has = x.has }

  unborn_now : (s n : ℕ) → IsPending (r ⊳ g) s → (x : HasBegunEdit lay (r ⊳ g) s) → IsMadeAt lay x.before s n → ¬ WasInTree (r ⊳ g) n
  unborn_now s n p x made was = go x.within (was_or_is n was)
    where
      -- it begins now
      first : (x.row ⊳ x.before) ≡ (r ⊳ g) → WasInTree g n → ⊥
      first e y = fresh_at lay (r ⊳ g) s n run x made (subst (λ k. WasInTree k n) (sym (ap before_of e)) y)

      kinds : (x.row ⊳ x.before) ≡ (r ⊳ g) → r.kind ≡ Update → ⊥
      kinds e u = let z : Freeze ≡ Update = sym x.begins.kind ∙ ap (λ (q : Row). q.kind) (ap row_of e) ∙ u in cc

      stood : Extends g (x.row ⊳ x.before) → WasInTree g n → ⊥
      stood e y = facts.unborn s n (pending_then s x e p) (begun_then s x e) made y

      put : Extends g (x.row ⊳ x.before) → IsPutIn lay g r n → ⊥
      put e y = once lay g run_g s y.scx n p.real (some_is_real g_facts (update_flagged g_facts y.wins).some) (λ q. p.unwon (subst (HasWon (r ⊳ g)) (sym q) (update_won g_facts y.wins))) (begun_then s x e) y.begun made y.made

      go : Extends (r ⊳ g) (x.row ⊳ x.before) → IsInTree (r ⊳ g) n ⊎ WasInTree g n → ⊥
      go (inl e) (inr y) = first e y
      go (inl e) (inl y) = ⊎_elim (λ q. first e (is_was n q)) (λ q. kinds e q.wins.kind) (step lay g r run n y facts.keeps)
      go (inr e) (inr y) = stood e y
      go (inr e) (inl y) = ⊎_elim (λ q. stood e (is_was n q)) (put e) (step lay g r run n y facts.keeps)

  keeps_now : KeepsNew lay (r ⊳ g)
  keeps_now s p x side = go x.within
    where
      row_keeps : Extends g (x.row ⊳ x.before) → Effect lay g r → value (r ⊳ g) (child (new x.before s) side) ≡ value g (child (new x.before s) side)
      row_keeps e (quiet k) = k.node (new x.before s) (Child side) tt (named_since lay g (x.row ⊳ x.before) (new x.before s) run_g.1.lawful e (new_named lay (r ⊳ g) s run.1.lawful p.real x))
      row_keeps e (freeze u j w) = freeze_keeps_field g_facts w (new x.before s) side
      row_keeps e (update u w) = update_keeps_other g_facts w (child (new x.before s) side) (node_apart (member g u (field_index g u)) (new x.before s) (Child (side_of (plan g u))) (Child side) apart)
        where
          real_u : u ≢ 0
          real_u = some_is_real g_facts (update_flagged g_facts w).some

          apart : member g u (field_index g u) ≢ new x.before s
          apart q = facts.unborn s (new x.before s) (pending_then s x e p) (begun_then s x e) (inl refl)
              (subst (WasInTree g) q (field_stood lay g u run_g real_u (begun_edit lay g u run_g.1.lawful run_g.1.shaped real_u (member g u 0, (update_flagged g_facts w).frozen 0 (update_flagged g_facts w).some))))

      go : Extends (r ⊳ g) (x.row ⊳ x.before) → value (r ⊳ g) (child (new x.before s) side) ≡ value x.before (child (new x.before s) side)
      go (inl e) = subst (λ k. value k (child (new x.before s) side) ≡ value x.before (child (new x.before s) side)) e (first_keeps lay (r ⊳ g) s run.1.lawful p.real x (child (new x.before s) side) (node_word_apart (member x.before s 0) (new x.before s) Info (Child side) refl))
      go (inr e) = row_keeps e (effect lay g r run.1.lawful) ∙ facts.keeps s (pending_then s x e p) (begun_then s x e) side

pub new_facts : (lay : Layout) (h : History) → IsMapRun lay h → NewFacts lay h
new_facts lay (Opened o) run = record {
  unborn = λ s n p x made was. none s p;
  keeps = λ s p x side. absurd (none s p);
}
  where
    none : (s : ℕ) → IsPending (Opened o) s → ⊥
    none s p = p.real (sym (held_start o (info p.named.0) s p.named.1) ∙ opening_info o p.named.0)
new_facts lay (r ⊳ h) run = let before = new_facts lay h (run_since lay (r ⊳ h) h run (inr (ends_self h))) in record { unborn = unborn_now lay h r run before; keeps = keeps_now lay h r run before }

-- so what has been in the tree by now was there before, or this row has put it in
pub put_or_stood : (lay : Layout) (h : History) (r : Row) (n : ℕ) → IsMapRun lay (r ⊳ h) → WasInTree (r ⊳ h) n → WasInTree h n ⊎ IsPutIn lay h r n
put_or_stood lay h r n run was = go (was_or_is lay h r run facts n was)
  where
    facts : NewFacts lay h
    facts = new_facts lay h (run_since lay (r ⊳ h) h run (inr (ends_self h)))

    go : IsInTree (r ⊳ h) n ⊎ WasInTree h n → WasInTree h n ⊎ IsPutIn lay h r n
    go (inr y) = inl y
    go (inl y) = ⊎_elim (λ q. inl (is_was lay h r run facts n q)) inr (step lay h r run n y facts.keeps)

-- So what has been in the tree and is not there now is not there after one more row

came_back : (lay : Layout) (h : History) (r : Row) (n : ℕ) → IsMapRun lay (r ⊳ h) → WasInTree h n → IsInTree (r ⊳ h) n → IsInTree h n
came_back lay h r n run was x = ⊎_elim (λ y. y) (λ y. absurd (facts.unborn y.scx n (pending y) y.begun y.made was)) (step lay h r run n x facts.keeps)
  where
    f : Facts lay h
    f = facts_before lay h r run.1.lawful

    facts : NewFacts lay h
    facts = new_facts lay h (run_since lay (r ⊳ h) h run (inr (ends_self h)))

    pending : (y : IsPutIn lay h r n) → IsPending h y.scx
    pending y = record { real = some_is_real f (update_flagged f y.wins).some; named = (member h y.scx 0, (update_flagged f y.wins).frozen 0 (update_flagged f y.wins).some); unwon = update_is_first f y.wins }

-- nor ever after
pub there_before : (lay : Layout) (h m : History) (n : ℕ) → IsMapRun lay h → Extends h m → WasInTree m n → IsInTree h n → IsInTree m n
there_before lay (Opened o) m n run e was x = subst (λ k. IsInTree k n) (sym e) x
there_before lay (r ⊳ h) m n run (inl e) was x = subst (λ k. IsInTree k n) (sym e) x
there_before lay (r ⊳ h) m n run (inr e) was x = there_before lay h m n (run_since lay (r ⊳ h) h run (inr (ends_self h))) e was (came_back lay h r n run (was_since h m n e was) x)
