-- What the links of a history lead to.
use Rattle.std.proofs.Common.{◌≡◌, ℕ, zero, suc, ◌+◌, ◌*◌, ◌<◌, ◌≤◌, ◌⊎◌, inl, inr, ⊎_elim, Bool, true, false, cond, ltb, List, [], ◌∷◌, ◌++◌, refl, sym, ◌∙◌, subst, arith, lt-ltb}
use borrow.Author.Tests.{ltb-true}
use Rattle.histories.specs.Common.{Layout, Side, Settled, Child, Info, Marked, ScxWord, State, AllFrozen, Plan, New, Old, Member, Seen, Word, Node, Scx, Row, all_nodes, all_scx}
use Rattle.histories.specs.Common.{opening_nodes, IsWord, same_word, info, child, scx, History, Opened, ◌⊳◌, HasHeld, IsNamed, opening_node, by_field, by_scx, IsNamedScx, IsInField, Lawful}
use Rattle.arena.specs.declared.word.ScxWord.TheVariants.{Call}
use Rattle.arena.specs.Words.{same_scx_word}
use Rattle.arena.specs.Fills.{NamesNode}
use Rattle.arena.proofs.Lemmas.{word_same, value_at, value_other, held_at, held_more, held_back, held_split, held_start, opening_info, opening_scx}
use Rattle.histories.proofs.Lemmas.{lawful_tail, lawful_row, value_start, start_nodes, some_open, named_scx_inside}
use Rattle.judge.specs.Graph.{IsLink, IsReached, first, along}
use Rattle.judge.proofs.Spreading.{same_or}
use Rattle.judge.specs.Naming.{word_links, scx_links, opening_links, named_links}

-- what a word has held, it got by the newest row or held before
pub held_by_row : (r : Row) (h : History) (w : Word) (v : ℕ) → HasHeld (r ⊳ h) w v → ((r.word ≡ w) × (r.after ≡ v)) ⊎ HasHeld h w v
held_by_row r h w v p = go (same_word r.word w) refl
  where
    go : (b : Bool) → same_word r.word w ≡ b → ((r.word ≡ w) × (r.after ≡ v)) ⊎ HasHeld h w v
    go false d = inr (held_back r h w v (value_other r h w d) p)
    go true d =
        let at = word_same r.word w d in
        ⊎_elim (λ e. inl (at, sym (value_at r h w at) ∙ e)) (λ q. inr q) (held_split r h w v p)

pub held_row : (r : Row) (h : History) (w : Word) → r.word ≡ w → HasHeld (r ⊳ h) w r.after
held_row r h w e = held_at (r ⊳ h) w r.after (value_at r h w e)

-- Lists of links

link_right : (more links : List (ℕ × ℕ)) (u v : ℕ) → IsLink links u v → IsLink (more ++ links) u v
link_right [] links u v l = l
link_right (k ∷ more) links u v l = inr (link_right more links u v l)

link_left : (more links : List (ℕ × ℕ)) (u v : ℕ) → IsLink more u v → IsLink (more ++ links) u v
link_left [] links u v l = absurd l
link_left (k ∷ more) links u v (inl e) = inl e
link_left (k ∷ more) links u v (inr l) = inr (link_left more links u v l)

link_parts : (more links : List (ℕ × ℕ)) (u v : ℕ) → IsLink (more ++ links) u v → IsLink more u v ⊎ IsLink links u v
link_parts [] links u v l = inr l
link_parts (k ∷ more) links u v (inl e) = inl (inl e)
link_parts (k ∷ more) links u v (inr l) = ⊎_elim (λ a. inl (inr a)) (λ a. inr a) (link_parts more links u v l)

-- Where a link comes from

-- a node of the start, the dummy, or what a word has held
data Origin (lay : Layout) (h : History) (u v : ℕ) : Type 0 where
  of_start : (v < opening_nodes lay) → Origin lay h u v
  of_shown : (n : ℕ) → n < opening_nodes lay → v ≡ all_nodes lay + n → Origin lay h u v
  of_dummy : v ≡ 2 * all_nodes lay + 0 → Origin lay h u v
  of_field : (m : ℕ) (side : Side) (n : ℕ) → HasHeld h (child m side) n → u ≡ m → n < all_nodes lay → (v ≡ n) ⊎ (v ≡ all_nodes lay + n) → m < all_nodes lay → Origin lay h u v
  of_info : (m s : ℕ) → HasHeld h (info m) s → s < all_scx lay → v ≡ 2 * all_nodes lay + s → Origin lay h u v
  of_scx : (s : ℕ) (part : ScxWord) (n : ℕ) → NamesNode part → HasHeld h (scx s part) n → s < all_scx lay → u ≡ 2 * all_nodes lay + s → v ≡ n → n < all_nodes lay → Origin lay h u v

origin_more : (lay : Layout) (r : Row) (h : History) (u v : ℕ) → Origin lay h u v → Origin lay (r ⊳ h) u v
origin_more lay r h u v (of_start e) = of_start e
origin_more lay r h u v (of_shown n e d) = of_shown n e d
origin_more lay r h u v (of_dummy e) = of_dummy e
origin_more lay r h u v (of_field m side n p e l d k) = of_field m side n (held_more r h (child m side) n p) e l d k
origin_more lay r h u v (of_info m s p l e) = of_info m s (held_more r h (info m) s p) l e
origin_more lay r h u v (of_scx s part n q p k e d l) = of_scx s part n q (held_more r h (scx s part) n p) k e d l

origin_start : (lay : Layout) (k : ℕ) (u v : ℕ) → k ≤ opening_nodes lay → IsLink (opening_links (all_nodes lay) k) u v → (h : History) → Origin lay h u v
origin_start lay zero u v l (inl e) h = of_dummy (omega (e.1, arith))
origin_start lay zero u v l (inr p) h = absurd p
origin_start lay (suc k) u v l (inl e) h = of_shown k (omega (l, arith)) (sym e.1)
origin_start lay (suc k) u v l (inr (inl e)) h = of_start (omega (e.1, l, arith))
origin_start lay (suc k) u v l (inr (inr p)) h = origin_start lay k u v (omega (l, arith)) p h

-- a link that is there where a test holds
under_test : (t : Bool) (links : List (ℕ × ℕ)) (u v : ℕ) → IsLink (cond t links []) u v → (t ≡ true) × IsLink links u v
under_test true links u v l = (refl, l)
under_test false links u v l = absurd l

ltb_lt : (m n : ℕ) → ltb m n ≡ true → m < n
ltb_lt m n e = ltb-true m n e

module _ (lay : Layout) (r : Row) (h : History) (word : IsWord lay r.word) (u v : ℕ) where
  scx_origin : (s : ℕ) (part : ScxWord) → NamesNode part → r.word ≡ scx s part → s < all_scx lay → IsLink (scx_links (all_nodes lay) s r.after) u v → Origin lay (r ⊳ h) u v
  scx_origin s part q e k l =
      let t = under_test (ltb r.after (all_nodes lay)) _ u v l in
      ⊎_elim (λ d. of_scx s part r.after q (held_row r h (scx s part) e) k (sym d.0) (sym d.1) (ltb_lt r.after (all_nodes lay) t.0)) (λ p. absurd p) t.1

  word_origin : (w : Word) → r.word ≡ w → IsWord lay w → IsLink (word_links (all_nodes lay) (all_scx lay) w r.after) u v → Origin lay (r ⊳ h) u v
  word_origin (Node m (Child side)) e i l =
      let t = under_test (ltb r.after (all_nodes lay)) _ u v l in
      let n = ltb_lt r.after (all_nodes lay) t.0 in
      let held = held_row r h (child m.0 side) e in
      ⊎_elim (λ d. of_field m.0 side r.after held (sym d.0) n (inr (sym d.1)) i) (λ p. ⊎_elim (λ d. of_field m.0 side r.after held (sym d.0) n (inl (sym d.1)) i) (λ q. absurd q) p) t.1
  word_origin (Node m Info) e i l =
      let t = under_test (ltb r.after (all_scx lay)) _ u v l in
      ⊎_elim (λ d. of_info m.0 r.after (held_row r h (info m.0) e) (ltb_lt r.after (all_scx lay) t.0) (sym d.1)) (λ p. absurd p) t.1
  word_origin (Node m (Settled p)) e i l = absurd l
  word_origin (Node m Marked) e i l = absurd l
  word_origin (Scx s New) e i l = scx_origin s.0 New tt e i.0 l
  word_origin (Scx s Old) e i l = scx_origin s.0 Old tt e i.0 l
  word_origin (Scx s (Member j)) e i l = scx_origin s.0 (Member j) tt e i.0 l
  word_origin (Scx s State) e i l = absurd l
  word_origin (Scx s AllFrozen) e i l = absurd l
  word_origin (Scx s Plan) e i l = absurd l
  word_origin (Scx s (Seen j)) e i l = absurd l
  word_origin (Scx s Call) e i l = absurd l

origin : (lay : Layout) (h : History) (u v : ℕ) → Lawful lay h → IsLink (named_links lay h) u v → Origin lay h u v
unfolding named_links
origin lay (Opened o) u v l p = origin_start lay (opening_nodes lay) u v (omega arith) p (Opened o)
origin lay (r ⊳ h) u v l p = ⊎_elim
    (λ q. word_origin lay r h (lawful_row lay h r l).word u v r.word refl (lawful_row lay h r l).word q)
    (λ q. origin_more lay r h u v (origin lay h u v (lawful_tail lay h r l) q))
    (link_parts (word_links (all_nodes lay) (all_scx lay) r.word r.after) (named_links lay h) u v p)

-- What a place means

record Means (lay : Layout) (h : History) (p : ℕ) : Type 0 where
  node : p < all_nodes lay → IsNamed lay h p
  shown : (n : ℕ) → n < all_nodes lay → p ≡ all_nodes lay + n → IsInField lay h n
  begun : (s : ℕ) → p ≡ 2 * all_nodes lay + s → IsNamedScx h s

start_named : (lay : Layout) (h : History) → HasHeld h (info 0) 0 → IsNamedScx h 0
start_named lay h p = (0, p)

-- the dummy is named from the start
info_opened : (h : History) → HasHeld h (info 0) 0
info_opened (Opened o) = held_at (Opened o) (info 0) 0 (opening_info o 0)
info_opened (r ⊳ h) = held_more r h (info 0) 0 (info_opened h)

some_nodes : (lay : Layout) → opening_nodes lay ≤ all_nodes lay
some_nodes lay = omega arith

module _ (lay : Layout) (h : History) (lawful : Lawful lay h) where
  origin_means : (u v : ℕ) → Origin lay h u v → Means lay h u → Means lay h v
  origin_means u v (of_start e) m = record {
    node = λ l. opening_node e;
    shown = λ n l d. absurd (let s = some_nodes lay in omega (e, d, s, arith));
    begun = λ s d. absurd (let t = some_nodes lay in omega (e, d, t, arith));
  }
  origin_means u v (of_shown n e d) m = record {
    node = λ l. absurd (omega (l, d, arith));
    shown = λ k l f. inl (omega (e, d, f, arith));
    begun = λ s f. absurd (let t = some_nodes lay in omega (e, d, f, t, arith));
  }
  origin_means u v (of_dummy e) m =
      let o = some_open lay in
      let t = some_nodes lay in
      record {
        node = λ l. absurd (omega (l, e, o, t, arith));
        shown = λ n l d. absurd (omega (l, d, e, arith));
        begun = λ s d. let z : s ≡ 0 = omega (d, e, arith) in rw z (start_named lay h (info_opened h));
      }
  origin_means u v (of_field a side n p e l d k) m =
      let named : IsNamed lay h a = subst (λ (w : ℕ). IsNamed lay h w) e (m.node (omega (e, k, arith))) in
      ⊎_elim
      (λ f. record {
        node = λ i. rw f (by_field a side named p);
        shown = λ j i g. absurd (omega (f, l, g, arith));
        begun = λ s g. absurd (omega (f, l, g, arith));
      })
      (λ f. record {
        node = λ i. absurd (omega (f, i, arith));
        shown = λ j i g. let z : j ≡ n = omega (f, g, arith) in rw z (inr (a, side, named, p));
        begun = λ s g. absurd (omega (f, l, g, arith));
      })
      d
  origin_means u v (of_info a s p l e) m = record {
    node = λ k. absurd (omega (k, e, arith));
    shown = λ n k d. absurd (omega (k, d, e, arith));
    begun = λ t d. let z : t ≡ s = omega (d, e, arith) in (a, rw z p);
  }
  origin_means u v (of_scx s part n q p k e d l) m = record {
    node = λ i. rw d (by_scx s part (m.begun s e) q p);
    shown = λ j i g. absurd (omega (d, l, g, arith));
    begun = λ t g. absurd (omega (d, l, g, arith));
  }

  means : (p : ℕ) → IsReached (named_links lay h) p → Means lay h p
  means p first =
      let o = some_open lay in
      let t = some_nodes lay in
      record {
        node = λ l. opening_node o;
        shown = λ n l d. absurd (omega (o, t, d, arith));
        begun = λ s d. absurd (omega (o, t, d, arith));
      }
  means p (along u q l) = origin_means u p (origin lay h u p lawful l) (means u q)

-- What is named is reached

-- the link that a word makes
test_link : (n size u v : ℕ) (links : List (ℕ × ℕ)) → n < size → IsLink links u v → IsLink (cond (ltb n size) links []) u v
test_link n size u v links l p = rw (lt-ltb n size l) p

new_link : (lay : Layout) (r : Row) (h : History) (u v : ℕ) → IsLink (word_links (all_nodes lay) (all_scx lay) r.word r.after) u v → IsLink (named_links lay (r ⊳ h)) u v
unfolding named_links
new_link lay r h u v l = link_left (word_links (all_nodes lay) (all_scx lay) r.word r.after) (named_links lay h) u v l

old_link : (lay : Layout) (r : Row) (h : History) (u v : ℕ) → IsLink (named_links lay h) u v → IsLink (named_links lay (r ⊳ h)) u v
unfolding named_links
old_link lay r h u v l = link_right (word_links (all_nodes lay) (all_scx lay) r.word r.after) (named_links lay h) u v l

opened_link : (nodes k j : ℕ) → j < k → IsLink (opening_links nodes k) 0 j × IsLink (opening_links nodes k) 0 (nodes + j)
opened_link nodes zero j l = absurd (omega (l, arith))
opened_link nodes (suc k) j l = ⊎_elim
    (λ e. (inr (inl (refl, sym e)), inl (refl, rw e refl)))
    (λ d. let more = opened_link nodes k j (omega (l, d, arith)) in (inr (inr more.0), inr (inr more.1)))
    (same_or j k)

opened_dummy : (nodes k : ℕ) → IsLink (opening_links nodes k) 0 (2 * nodes)
opened_dummy nodes zero = inl (refl, refl)
opened_dummy nodes (suc k) = inr (inr (opened_dummy nodes k))

abbrev StartLink : Layout → History → Type 0
StartLink lay h = ((j : ℕ) → j < opening_nodes lay → IsLink (named_links lay h) 0 j × IsLink (named_links lay h) 0 (all_nodes lay + j)) × IsLink (named_links lay h) 0 (2 * all_nodes lay)

start_links : (lay : Layout) (h : History) → StartLink lay h
unfolding named_links
start_links lay (Opened o) = (λ j l. opened_link (all_nodes lay) (opening_nodes lay) j l, opened_dummy (all_nodes lay) (opening_nodes lay))
start_links lay (r ⊳ h) =
    let more = start_links lay h in
    (λ j l. let m = more.0 j l in (old_link lay r h 0 j m.0, old_link lay r h 0 (all_nodes lay + j) m.1), old_link lay r h 0 (2 * all_nodes lay) more.1)

-- a field holds it
abbrev FieldLink : Layout → History → ℕ → ℕ → Type 0
FieldLink lay h m n = (n < opening_nodes lay) ⊎ ((m < all_nodes lay) × IsLink (named_links lay h) m n × IsLink (named_links lay h) m (all_nodes lay + n))

field_link : (lay : Layout) (h : History) (m : ℕ) (side : Side) (n : ℕ) → Lawful lay h → n < all_nodes lay → HasHeld h (child m side) n → FieldLink lay h m n
field_link lay (Opened o) m side n l i p =
    let small = o.fields m side in
    let few = start_nodes lay o l in
    let e = held_start o (child m side) n p in
    let f = value_start o (child m side) in
    inl (omega (small, few, e, f, arith))
field_link lay (r ⊳ h) m side n l i p = ⊎_elim
    (λ e.
    let inside : IsWord lay (child m side) = subst (λ (w : Word). IsWord lay w) e.0 (lawful_row lay h r l).word in
    let t = test_link r.after (all_nodes lay) in
    let more : r.after < all_nodes lay = omega (e.1, i, arith) in
    let links : List (ℕ × ℕ) = (m, all_nodes lay + r.after) ∷ (m, r.after) ∷ [] in
    let word : IsLink (word_links (all_nodes lay) (all_scx lay) (child m side) r.after) m r.after = t m r.after links more (inr (inl (refl, refl))) in
    let shown : IsLink (word_links (all_nodes lay) (all_scx lay) (child m side) r.after) m (all_nodes lay + r.after) = t m (all_nodes lay + r.after) links more (inl (refl, refl)) in
    let P : ℕ → Word → Type 0 = λ v w. IsLink (word_links (all_nodes lay) (all_scx lay) w r.after) m v in
    let one = new_link lay r h m r.after (subst (P r.after) (sym e.0) word) in
    let two = new_link lay r h m (all_nodes lay + r.after) (subst (P (all_nodes lay + r.after)) (sym e.0) shown) in
    inr (inside, rw (← e.1) one, rw (← e.1) two))
    (λ q. ⊎_elim (λ k. inl k) (λ k. inr (k.0, old_link lay r h m n k.1, old_link lay r h m (all_nodes lay + n) k.2)) (field_link lay h m side n (lawful_tail lay h r l) i q))
    (held_by_row r h (child m side) n p)

info_link : (lay : Layout) (h : History) (m s : ℕ) → Lawful lay h → s < all_scx lay → HasHeld h (info m) s → IsLink (named_links lay h) 0 (2 * all_nodes lay + s)
info_link lay (Opened o) m s l i p =
    let z : s ≡ 0 = sym (held_start o (info m) s p) ∙ opening_info o m in
    let one = (start_links lay (Opened o)).1 in
    let at : 2 * all_nodes lay + s ≡ 2 * all_nodes lay = omega (z, arith) in
    rw at one
info_link lay (r ⊳ h) m s l i p = ⊎_elim
    (λ e.
    let word : IsLink (word_links (all_nodes lay) (all_scx lay) (info m) r.after) 0 (2 * all_nodes lay + r.after) = test_link r.after (all_scx lay) 0 (2 * all_nodes lay + r.after) ((0, 2 * all_nodes lay + r.after) ∷ []) (omega (e.1, i, arith)) (inl (refl, refl)) in
    let P : Word → Type 0 = λ w. IsLink (word_links (all_nodes lay) (all_scx lay) w r.after) 0 (2 * all_nodes lay + r.after) in
    rw (← e.1) (new_link lay r h 0 (2 * all_nodes lay + r.after) (subst P (sym e.0) word)))
    (λ q. old_link lay r h 0 (2 * all_nodes lay + s) (info_link lay h m s (lawful_tail lay h r l) i q))
    (held_by_row r h (info m) s p)

names_other : (part : ScxWord) → NamesNode part → same_scx_word State part ≡ false
names_other State p = absurd p
names_other _ p = refl

names_links : (nodes scxs s v : ℕ) (part : ScxWord) → NamesNode part → word_links nodes scxs (scx s part) v ≡ scx_links nodes s v
names_links nodes scxs s v New p = refl
names_links nodes scxs s v Old p = refl
names_links nodes scxs s v (Member j) p = refl
names_links nodes scxs s v State p = absurd p
names_links nodes scxs s v AllFrozen p = absurd p
names_links nodes scxs s v Plan p = absurd p
names_links nodes scxs s v (Seen j) p = absurd p
names_links nodes scxs s v Call p = absurd p

abbrev ScxLink : Layout → History → ℕ → ℕ → Type 0
ScxLink lay h s n = (n < opening_nodes lay) ⊎ IsLink (named_links lay h) (2 * all_nodes lay + s) n

scx_link : (lay : Layout) (h : History) (s : ℕ) (part : ScxWord) (n : ℕ) → Lawful lay h → NamesNode part → n < all_nodes lay → HasHeld h (scx s part) n → ScxLink lay h s n
scx_link lay (Opened o) s part n l names i p =
    let z : n ≡ 0 = sym (held_start o (scx s part) n p) ∙ opening_scx o s part (names_other part names) in
    let some = some_open lay in
    inl (omega (z, some, arith))
scx_link lay (r ⊳ h) s part n l names i p = ⊎_elim
    (λ e.
    let from : ℕ = 2 * all_nodes lay + s in
    let one : IsLink (scx_links (all_nodes lay) s r.after) (2 * all_nodes lay + s) r.after = test_link r.after (all_nodes lay) (2 * all_nodes lay + s) r.after ((2 * all_nodes lay + s, r.after) ∷ []) (omega (e.1, i, arith)) (inl (refl, refl)) in
    let word : IsLink (word_links (all_nodes lay) (all_scx lay) (scx s part) r.after) (2 * all_nodes lay + s) r.after = rw (names_links (all_nodes lay) (all_scx lay) s r.after part names) one in
    let P : Word → Type 0 = λ w. IsLink (word_links (all_nodes lay) (all_scx lay) w r.after) (2 * all_nodes lay + s) r.after in
    inr (rw (← e.1) (new_link lay r h (2 * all_nodes lay + s) r.after (subst P (sym e.0) word))))
    (λ q. ⊎_elim (λ k. inl k) (λ k. inr (old_link lay r h (2 * all_nodes lay + s) n k)) (scx_link lay h s part n (lawful_tail lay h r l) names i q))
    (held_by_row r h (scx s part) n p)

module _ (lay : Layout) (h : History) (lawful : Lawful lay h) where
  open_reached : (n : ℕ) → n < opening_nodes lay → IsReached (named_links lay h) n
  open_reached n e = along 0 first ((start_links lay h).0 n e).0

  scx_reached : (s : ℕ) → s < all_scx lay → IsNamedScx h s → IsReached (named_links lay h) (2 * all_nodes lay + s)
  scx_reached s l q = along 0 first (info_link lay h q.0 s lawful l q.1)

  named_reached : (n : ℕ) → n < all_nodes lay → IsNamed lay h n → IsReached (named_links lay h) n
  named_reached n l (opening_node e) = open_reached n e
  named_reached n l (by_field m side q p) = by_link (λ k. named_reached m k q) (field_link lay h m side n lawful l p)
    where
      by_link : (m < all_nodes lay → IsReached (named_links lay h) m) → FieldLink lay h m n → IsReached (named_links lay h) n
      by_link more (inl e) = open_reached n e
      by_link more (inr k) = along m (more k.0) k.1
  named_reached n l (by_scx s part q names p) = ⊎_elim
      (λ e. open_reached n e)
      (λ k. along (2 * all_nodes lay + s) (scx_reached s (named_scx_inside lay h s lawful q) q) k)
      (scx_link lay h s part n lawful names l p)

  -- what the judge asks

  pub node_named : (n : ℕ) → n < all_nodes lay → IsReached (named_links lay h) n → IsNamed lay h n
  node_named n l p = (means lay h lawful n p).node l

  pub named_node : (n : ℕ) → n < all_nodes lay → IsNamed lay h n → IsReached (named_links lay h) n
  named_node n l p = named_reached n l p

  pub node_shown : (n : ℕ) → n < all_nodes lay → IsReached (named_links lay h) (all_nodes lay + n) → IsInField lay h n
  node_shown n l p = (means lay h lawful (all_nodes lay + n) p).shown n l refl

  pub shown_reached : (n : ℕ) → n < all_nodes lay → IsInField lay h n → IsReached (named_links lay h) (all_nodes lay + n)
  shown_reached n l (inl e) = along 0 first ((start_links lay h).0 n e).1
  shown_reached n l (inr x) = by_link (field_link lay h x.0 x.1 n lawful l x.3)
    where
      by_link : FieldLink lay h x.0 n → IsReached (named_links lay h) (all_nodes lay + n)
      by_link (inl e) = along 0 first ((start_links lay h).0 n e).1
      by_link (inr k) = along x.0 (named_reached x.0 k.0 x.2) k.2

  pub scx_named : (s : ℕ) → IsReached (named_links lay h) (2 * all_nodes lay + s) → IsNamedScx h s
  scx_named s p = (means lay h lawful (2 * all_nodes lay + s) p).begun s refl

  pub named_scx : (s : ℕ) → IsNamedScx h s → (s < all_scx lay) × IsReached (named_links lay h) (2 * all_nodes lay + s)
  named_scx s q = let l = named_scx_inside lay h s lawful q in (l, scx_reached s l q)
