-- What is known after each history of the tree, and that rows that win no update keep it.
use Rattle.std.proofs.Common.{◌≡◌, ◌≢◌, ℕ, ◌<◌, false, ◌⊎◌, inl, inr, ⊎_elim, ◌++◌, refl, sym, ◌∙◌, ap, arith, subst}
use native.Mathlib.Decide.{ℕ_discrete}
use Rattle.arena.specs.declared.limits.Mode.TheVariants.{Trie as TrieMode}
use Rattle.histories.specs.Common.{Side, NodeWord, SettledPart, Settled, Child, Info, Marked, Head, Key, First, New, Member, Layout, Row, Freeze, Update}
use Rattle.histories.specs.Common.{same_node_word, node, scx, info, marked, child, first_key, History, ◌⊳◌, value, HasHeld, Extends, count, member, seen}
use Rattle.histories.specs.Common.{new, IsNamed, opening_node, by_field, by_scx, IsNamedScx, MayBegin, IsSettled, HasWon, Lawful, log, descriptor}
use Rattle.arena.specs.Layout.{IsMap}
use Rattle.arena.proofs.Lemmas.{value_apart, held_at, held_more, held_back, node_word_apart, ends_self}
use Rattle.histories.proofs.Lemmas.{Facts, FreezeWins, Kept, Logs, first_frozen, freeze_descriptor, freeze_distinct, freeze_finds, freeze_held, freeze_is_new, freeze_keeps_field, freeze_keeps_info, freeze_keeps_mark, freeze_keeps_scx, freeze_real, freeze_stores, lawful_tail, log_same, logs, map_nodes, named_since, node_stays, same, update_is_first, update_won, wins, won_more}
use Rattle.ordered_map.specs.OrderedMap.{MapEdit}
use Rattle.ordered_map.proofs.Pending.{AllowsGiven, tree_named, tree_field, Mine, Pending, Holds, pending_kept, pending_freeze}
use Rattle.ordered_map.proofs.Trees.{items, ends, EndsLow, Same, frame, frame_items, frame_low, frame_path, passes_has, path_level, same_tree, settled_same}
use Rattle.ordered_map.proofs.Spanned.{same_fork, same_keeps, same_stays}
use Rattle.ordered_map.specs.Bits.{Keeps, IsTrieFork}
use Rattle.ordered_map.specs.TrieShape.{Stays}
use Rattle.ordered_map.specs.Paths.{IsOnPath}
use Rattle.ordered_map.specs.Runs.{map_of_log, first_pairs}
use Rattle.ordered_map.specs.Spelled.{IsTree}
use Rattle.ordered_map.specs.TreeWords.{Tree, root, Has, Passes, is_leaf}

-- what is known after each such history
pub record TreeFacts (calls : ℕ → MapEdit) (lay : Layout) (h : History) : Type 0 where
  pub tree : Tree
  pub is_tree : IsTree (value h) tree
  pub items : items (value h) tree ≡ map_of_log calls (first_pairs h) (log lay h) ++ ends
  pub ends_low : EndsLow (value h) tree
  pub pending : (s n : ℕ) → s ≢ 0 → HasHeld h (info n) s → ¬ HasWon h s → Pending calls lay h s
  pub one_new : (s u m n : ℕ) → s ≢ 0 → u ≢ 0 → HasHeld h (info m) s → HasHeld h (info n) u → new h s ≡ new h u → s ≡ u
  pub unborn : (s n : ℕ) → s ≢ 0 → HasHeld h (info n) s → ¬ HasWon h s → is_leaf (value h) (new h s) ≡ false → ¬ Has tree (new h s)
  pub path : (m : History) (k n : ℕ) → Extends h m → IsOnPath m k n → Stays lay (value h) k n → Passes (value h) k tree n ⊎ (value h (marked n) ≢ 0)
  pub forks : lay.mode ≡ TrieMode → (n : ℕ) → Has tree n → IsTrieFork (value h) n
  -- node 0 is a fork above all keys, and node 2 a leaf of class 2 on level 1, with the key 0
  pub root_head : value h (node 0 (Settled Head)) ≡ 2
  pub last_head : value h (node 2 (Settled Head)) ≡ 14
  pub last_key : value h (node 2 first_key) ≡ 0

pub path_now : (h : History) (t : Tree) (k n : ℕ) → IsTree (value h) t → IsOnPath h k n → Passes (value h) k t n
path_now h t k n i p =
    let e : p.tree ≡ t = same_tree (value h) p.tree t _ _ _ _ p.is_tree.shows i.shows (p.is_tree.is ∙ sym i.is) in
    rw e at p.passes

root_named : (lay : Layout) (h : History) (t : Tree) → IsMap lay.mode → IsTree (value h) t → IsNamed lay h (root t)
root_named lay h t o i = opening_node (rw (i.is, o) (omega arith))

pub all_named : (lay : Layout) (h : History) (t : Tree) (n : ℕ) → IsMap lay.mode → IsTree (value h) t → Has t n → IsNamed lay h n
all_named lay h t n o i p = tree_named lay h t _ _ n i.shows (root_named lay h t o i) p

-- the settled words of the first three nodes stay
pub early_stays : (lay : Layout) (h : History) (r : Row) (n : ℕ) (part : SettledPart) → Lawful lay (r ⊳ h) → IsMap lay.mode → n < 3 → value (r ⊳ h) (node n (Settled part)) ≡ value h (node n (Settled part))
early_stays lay h r n part l o i = node_stays lay h r n (Settled part) l tt (opening_node (rw o (omega (arith, i))))

-- a row that leaves the fields of named nodes leaves the tree
module _ (calls : ℕ → MapEdit) (lay : Layout) (h : History) (r : Row) (o : IsMap lay.mode) (l : Lawful lay (r ⊳ h)) (t : TreeFacts calls lay h)
    (field_stays : (n : ℕ) (side : Side) → IsNamed lay h n → value (r ⊳ h) (child n side) ≡ value h (child n side))
    (same_log : log lay (r ⊳ h) ≡ log lay h)
    (marks : (n : ℕ) → value h (marked n) ≢ 0 → value (r ⊳ h) (marked n) ≢ 0) where
  same_parts : (n : ℕ) → IsNamed lay h n → Same (value h) (value (r ⊳ h)) n
  same_parts n p (Settled q) i = node_stays lay h r n (Settled q) l tt p
  same_parts n p (Child side) i = field_stays n side p
  same_parts n p _ i = absurd i

  in_tree : (n : ℕ) → Has t.tree n → Same (value h) (value (r ⊳ h)) n
  in_tree n p = same_parts n (all_named lay h t.tree n o t.is_tree p)

  tree_stays : IsTree (value (r ⊳ h)) t.tree
  tree_stays = record { shows = frame (value h) (value (r ⊳ h)) t.tree _ _ in_tree t.is_tree.shows; is = t.is_tree.is }

  items_stay : items (value (r ⊳ h)) t.tree ≡ map_of_log calls (first_pairs (r ⊳ h)) (log lay (r ⊳ h)) ++ ends
  items_stay = frame_items (value h) (value (r ⊳ h)) t.tree in_tree ∙ rw same_log t.items

  low_stays : EndsLow (value (r ⊳ h)) t.tree
  low_stays = frame_low (value h) (value (r ⊳ h)) t.tree in_tree t.ends_low

  path_stays : (m : History) (k n : ℕ) → Extends (r ⊳ h) m → IsOnPath m k n → Stays lay (value (r ⊳ h)) k n → Passes (value (r ⊳ h)) k t.tree n ⊎ (value (r ⊳ h) (marked n) ≢ 0)
  path_stays m k n (inl e) p stay = inl (path_now (r ⊳ h) t.tree k n tree_stays (rw e at p))
  path_stays m k n (inr e) p stay = ⊎_elim (λ q. inl (frame_path (value h) (value (r ⊳ h)) k t.tree n in_tree q)) (λ q. inr (marks n q)) (t.path m k n e p (same_stays (value (r ⊳ h)) (value h) lay k n (λ a i. sym (settled_same (value h) (value (r ⊳ h)) n (same_parts n named) a i)) stay))
    where
      named : IsNamed lay h n
      named = named_since lay h m n (lawful_tail lay h r l) e (all_named lay m p.tree n o p.is_tree (passes_has (value m) k p.tree n p.passes))

  forks_stay : lay.mode ≡ TrieMode → (n : ℕ) → Has t.tree n → IsTrieFork (value (r ⊳ h)) n
  forks_stay e n p = same_fork (value h) (value (r ⊳ h)) n (settled_same (value h) (value (r ⊳ h)) n (in_tree n p)) keeps (t.forks e n p)
    where
      keeps : is_leaf (value h) n ≡ false → (side : Side) → Keeps (value h) n side (value h (child n side)) → Keeps (value (r ⊳ h)) n side (value (r ⊳ h) (child n side))
      keeps d side x =
          let below : Has t.tree (value h (child n side)) = (path_level (value h) t.tree _ _ n side t.is_tree.shows p d).1 in
          subst (Keeps (value (r ⊳ h)) n side) (sym (in_tree n p (Child side) tt))
          (same_keeps (value h) (value (r ⊳ h)) n side (value h (child n side)) (settled_same (value h) (value (r ⊳ h)) n (in_tree n p)) (settled_same (value h) (value (r ⊳ h)) (value h (child n side)) (in_tree (value h (child n side)) below)) x)

-- a row that freezes nothing and wins nothing
pub tree_kept : (calls : ℕ → MapEdit) (lay : Layout) (h : History) (r : Row) → Facts lay h → IsMap lay.mode → Lawful lay (r ⊳ h) → TreeFacts calls lay h → Kept lay h r → TreeFacts calls lay (r ⊳ h)
tree_kept calls lay h r f o l t k = record {
  tree = t.tree;
  is_tree = tree_stays calls lay h r o l t fields same_log marks;
  items = items_stay calls lay h r o l t fields same_log marks;
  ends_low = low_stays calls lay h r o l t fields same_log marks;
  path = path_stays calls lay h r o l t fields same_log marks;
  forks = forks_stay calls lay h r o l t fields same_log marks;
  pending = λ s n d p w. pending_kept calls f k s n l d (back n s p) (t.pending s n d (back n s p) (λ x. w (won_more r h s x)));
  one_new = λ s u m n d b p q x. t.one_new s u m n d b (back m s p) (back n u q) (sym (new_same s m d (back m s p)) ∙ x ∙ new_same u n b (back n u q));
  unborn = λ s n d p w x. unborn s n d (back n s p) (λ y. w (won_more r h s y)) x;
  root_head = early_stays lay h r 0 Head l o (omega arith) ∙ t.root_head;
  last_head = early_stays lay h r 2 Head l o (omega arith) ∙ t.last_head;
  last_key = early_stays lay h r 2 (Key First) l o (omega arith) ∙ t.last_key;
}
  where
    fields : (n : ℕ) (side : Side) → IsNamed lay h n → value (r ⊳ h) (child n side) ≡ value h (child n side)
    fields n side p = k.node n (Child side) tt p

    same_log : log lay (r ⊳ h) ≡ log lay h
    same_log = go (logs lay h r l)
      where
        go : Logs lay h r → log lay (r ⊳ h) ≡ log lay h
        go (same e _) = e
        go (wins u w e) = absurd (update_is_first f w (k.won u (update_won f w)))

    marks : (n : ℕ) → value h (marked n) ≢ 0 → value (r ⊳ h) (marked n) ≢ 0
    marks n d e = ⊎_elim (λ q. d (sym q ∙ e)) (λ x. let y = x.stored in omega (arith, y, e)) (k.mark n)

    back : (n s : ℕ) → HasHeld (r ⊳ h) (info n) s → HasHeld h (info n) s
    back n s p = held_back r h _ s (k.info n) p

    new_same : (s n : ℕ) → s ≢ 0 → HasHeld h (info n) s → new (r ⊳ h) s ≡ new h s
    new_same s n d p = k.settled s d (n, p) New tt

    unborn : (s n : ℕ) → s ≢ 0 → HasHeld h (info n) s → ¬ HasWon h s → is_leaf (value (r ⊳ h)) (new (r ⊳ h) s) ≡ false → ¬ Has t.tree (new (r ⊳ h) s)
    unborn s n d p w x =
        let q : new (r ⊳ h) s ≡ new h s = new_same s n d p in
        let y : is_leaf (value (r ⊳ h)) (new h s) ≡ false = rw q at x in
        let c : value (r ⊳ h) (node (new h s) (Settled Head)) ≡ value h (node (new h s) (Settled Head)) = node_stays lay h r (new h s) (Settled Head) l tt (by_scx s New (n, p) tt (held_at h (scx s New) (new h s) refl)) in
        let z : is_leaf (value h) (new h s) ≡ false = rw c at y in
        λ i. t.unborn s n d p w z (rw q at i)

-- a freezing exchange that wins
module _ (calls : ℕ → MapEdit) (lay : Layout) (h : History) (r : Row) (u j : ℕ) (f : Facts lay h) (z : FreezeWins lay h r u j)
    (o : IsMap lay.mode) (l : Lawful lay (r ⊳ h)) (t : TreeFacts calls lay h) (allowed : j ≡ 0 → AllowsGiven calls lay h u) where
  may_begin : j ≡ 0 → MayBegin lay h r.pass.0 u
  may_begin e = (z.freeze.may_win z.found).1 e

  named_now : j ≡ 0 → IsNamedScx (r ⊳ h) u
  named_now e = (member h u j, held_at (r ⊳ h) _ _ (freeze_stores f z))

  begin : j ≡ 0 → Pending calls lay (r ⊳ h) u
  begin e = record {
    before = h;
    past = inr (ends_self h);
    allowed = allowed e;
    same = sym (freeze_descriptor f z u);
    unheld = (may_begin e).new_in_no_field;
    shows = λ q. (may_begin e).shows (rw q (rw e at (freeze_finds f z)));
    named = named;
    settled = λ n m c i. value_apart r h (info (member h u j)) (node n c) z.freeze.word (node_word_apart _ n Info c (not_info n c i));
    fields = λ _ side. freeze_keeps_field f z (new h u) side;
    saw = λ i m q. saw i m q (ℕ_discrete i j);
    shown = λ i m d q side. freeze_keeps_field f z (member h u i) side;
  }
    where
      not_info : (n : ℕ) (c : NodeWord) → IsSettled (node n c) → same_node_word Info c ≡ false
      not_info n Info i = absurd i
      not_info n Marked i = absurd i
      not_info n (Child s) i = absurd i
      not_info n _ i = refl

      new_named : IsNamed lay (r ⊳ h) (new h u)
      new_named = by_scx u New (named_now e) tt (held_more r h _ _ (held_at h (scx u New) (new h u) refl))

      named : (n : ℕ) → Mine h u n → IsNamed lay (r ⊳ h) n
      named n (inl q) = rw q new_named
      named n (inr (inl q)) = by_field (new h u) q.0 new_named (held_more r h _ _ (held_at h _ _ q.1))
      named n (inr (inr q)) = by_scx u (Member q.0) (named_now e) tt (held_more r h _ _ (held_at h _ _ q.1))

      none_frozen : (i : ℕ) → HasHeld h (info (member h u i)) u → ⊥
      none_frozen i p =
          let u0 : u ≢ 0 = freeze_real f z in
          let y : HasHeld h (info (member h u 0)) u = first_frozen h u _ p (f.cell u _ u0 p) in
          freeze_is_new f z (rw e y)

      saw : (i : ℕ) → i < count h u → Holds (descriptor h u) (r ⊳ h) u i → Dec (i ≡ j) → value h (info (member h u i)) ≡ seen h u i
      saw i m q (yes y) = rw y (freeze_finds f z)
      saw i m (inl q) (no y) = sym (freeze_keeps_info f z _ (freeze_distinct f z j i z.freeze.within m (λ x. y (sym x)))) ∙ q
      saw i m (inr q) (no y) = absurd (⊎_elim (λ x. freeze_distinct f z j i z.freeze.within m (λ w. y (sym w)) x.1) (none_frozen i) (freeze_held f z (member h u i) u q.0))

  -- the SCX-record begins by this row, or an info word has named it before
  before_or_now : (s n : ℕ) → HasHeld (r ⊳ h) (info n) s → ((s ≡ u) × (j ≡ 0)) ⊎ ((m : ℕ) × HasHeld h (info m) s)
  before_or_now s n p = go (freeze_held f z n s p) (ℕ_discrete j 0)
    where
      go : ((s ≡ u) × (member h u j ≡ n)) ⊎ HasHeld h (info n) s → Dec (j ≡ 0) → ((s ≡ u) × (j ≡ 0)) ⊎ ((m : ℕ) × HasHeld h (info m) s)
      go (inr q) _ = inr (n, q)
      go (inl q) (yes e) = inl (q.0, e)
      go (inl q) (no e) = inr (member h u 0, rw q.0 (z.freeze.earlier 0 (omega arith)))

  new_same : (s : ℕ) → new (r ⊳ h) s ≡ new h s
  new_same s = freeze_keeps_scx f z s New

  pending_now : (s n : ℕ) → s ≢ 0 → HasHeld (r ⊳ h) (info n) s → ¬ HasWon (r ⊳ h) s → Pending calls lay (r ⊳ h) s
  pending_now s n d p w = go (before_or_now s n p)
    where
      go : ((s ≡ u) × (j ≡ 0)) ⊎ ((m : ℕ) × HasHeld h (info m) s) → Pending calls lay (r ⊳ h) s
      go (inl q) = rw q.0 (begin q.1)
      go (inr q) = pending_freeze calls f z s q.0 l d q.1 (t.pending s q.0 d q.1 (λ x. w (won_more r h s x)))

  not_other : j ≡ 0 → (s : ℕ) → new h s ≡ new h u → s ≡ u
  not_other e s q = go (ℕ_discrete s u)
    where
      go : Dec (s ≡ u) → s ≡ u
      go (yes y) = y
      go (no y) = absurd ((may_begin e).new_in_no_other s y (held_at h _ _ q))

  one_new_now : (s w m n : ℕ) → s ≢ 0 → w ≢ 0 → HasHeld (r ⊳ h) (info m) s → HasHeld (r ⊳ h) (info n) w → new (r ⊳ h) s ≡ new (r ⊳ h) w → s ≡ w
  one_new_now s w m n d c p q x = go (before_or_now s m p) (before_or_now w n q)
    where
      y : new h s ≡ new h w
      y = sym (new_same s) ∙ x ∙ new_same w

      go : ((s ≡ u) × (j ≡ 0)) ⊎ ((m : ℕ) × HasHeld h (info m) s) → ((w ≡ u) × (j ≡ 0)) ⊎ ((m : ℕ) × HasHeld h (info m) w) → s ≡ w
      go (inr p) (inr q) = t.one_new s w p.0 q.0 d c p.1 q.1 y
      go (inl p) _ = p.0 ∙ sym (not_other p.1 w (sym y ∙ ap (new h) p.0))
      go (inr p) (inl q) = not_other q.1 s (y ∙ ap (new h) q.0) ∙ sym q.0

  unborn_now : (s n : ℕ) → s ≢ 0 → HasHeld (r ⊳ h) (info n) s → ¬ HasWon (r ⊳ h) s → is_leaf (value (r ⊳ h)) (new (r ⊳ h) s) ≡ false → ¬ Has t.tree (new (r ⊳ h) s)
  unborn_now s n d p w x i = go (before_or_now s n p)
    where
      y : Has t.tree (new h s)
      y = rw (new_same s) at i

      g : is_leaf (value h) (new h s) ≡ false
      g =
          let c : is_leaf (value (r ⊳ h)) (new h s) ≡ false = rw (new_same s) at x in
          let e : value (r ⊳ h) (node (new h s) (Settled Head)) ≡ value h (node (new h s) (Settled Head)) = value_apart r h (info (member h u j)) (node (new h s) (Settled Head)) z.freeze.word (node_word_apart _ (new h s) Info (Settled Head) refl) in
          rw e at c

      new_not : j ≡ 0 → ¬ Has t.tree (new h u)
      new_not e q = ⊎_elim
          (λ c. let c1 : new h u ≡ 0 = c ∙ t.is_tree.is in let c2 = (may_begin e).new_own.from in let c3 = map_nodes lay o in omega (arith, c1, c2, c3))
          (λ c. (may_begin e).new_in_no_field c.0 c.1 (held_at h _ _ c.2))
          (tree_field h t.tree _ _ (new h u) t.is_tree.shows q)

      go : ((s ≡ u) × (j ≡ 0)) ⊎ ((m : ℕ) × HasHeld h (info m) s) → ⊥
      go (inl q) = new_not q.1 (rw q.0 at y)
      go (inr q) = t.unborn s q.0 d q.1 (λ c. w (won_more r h s c)) g y

  pub tree_frozen : TreeFacts calls lay (r ⊳ h)
  tree_frozen = record {
    tree = t.tree;
    is_tree = tree_stays calls lay h r o l t stays no_log marks;
    items = items_stay calls lay h r o l t stays no_log marks;
    ends_low = low_stays calls lay h r o l t stays no_log marks;
    path = path_stays calls lay h r o l t stays no_log marks;
    forks = forks_stay calls lay h r o l t stays no_log marks;
    pending = pending_now;
    one_new = one_new_now;
    unborn = unborn_now;
    root_head = early_stays lay h r 0 Head l o (omega arith) ∙ t.root_head;
    last_head = early_stays lay h r 2 Head l o (omega arith) ∙ t.last_head;
    last_key = early_stays lay h r 2 (Key First) l o (omega arith) ∙ t.last_key;
  }
    where
      stays : (n : ℕ) (side : Side) → IsNamed lay h n → value (r ⊳ h) (child n side) ≡ value h (child n side)
      stays n side _ = freeze_keeps_field f z n side

      no_log : log lay (r ⊳ h) ≡ log lay h
      no_log = log_same lay h r (λ c. let e : Freeze ≡ Update = sym z.kind ∙ c in cc)

      marks : (n : ℕ) → value h (marked n) ≢ 0 → value (r ⊳ h) (marked n) ≢ 0
      marks n d e = d (sym (freeze_keeps_mark f z n) ∙ e)
