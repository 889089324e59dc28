-- The laws of walks: rows of others leave them waiting, their steps are lawful, and what they
-- get is so, and leads them no deeper than the taken nodes allow.
use Rattle.std.proofs.Common.{◌≡◌, ◌≢◌, ℕ, ◌+◌, ◌^◌, ◌<◌, ◌≤◌, length, ⊎_elim, inl, Option, Some, None, inr, refl, sym, ◌∙◌, ap, arith, subst}
use Rattle.histories.specs.Common.{Layout, Row, Step, LoadSettled, LoadChild, Side, Settled, Child as ChildWord, SettledPart, Head as HeadWord, More as MoreWord, Key as KeyWord}
use Rattle.histories.specs.Common.{Value as ValueWord, High as HighWord, Slot, First, head_of, all_nodes, node, child, History, ◌⊳◌, value, IsRun, Call, row_of, IsTold, taken_nodes}
use Rattle.arena.specs.declared.head.Head.{Head as HeadParts}
use Rattle.arena.specs.Layout.{IsMap}
use Rattle.arena.proofs.Lemmas.{ends_self}
use Rattle.prims.specs.Llx.Known.{load}
use Rattle.prims.specs.Llx.Laws.{load_lawful, load_told}
use Rattle.ordered_map.specs.Holding.{end_slot}
use Rattle.ordered_map.specs.OrderedMap.{get}
use Rattle.ordered_map.specs.Paths.{WasInTree, depth as depth_in}
use Rattle.ordered_map.specs.Runs.{IsMapRun}
use Rattle.ordered_map.specs.Strays.{HasWalked}
use Rattle.ordered_map.specs.TreeShape.{TreeAllows}
use Rattle.ordered_map.specs.TreeWords.{level, toward}
use Rattle.ordered_map.specs.TrieShape.{Stays}
use Rattle.ordered_map.proofs.Lemmas.{walk_stays, tree_inside, SameSettled, same_from, same_stays, held_same, settled_leaf, settled_toward, settled_class, settled_level}
use Rattle.ordered_map.proofs.MapLemmas.{levels_rise, run_since, stood_depth, stood_settled, strayed_more, walk_first, walked_next, walked_stood}
use Rattle.template.specs.FoundLeaf.{path_key}
use Rattle.template.specs.Trails.{WasPassed, HasTurned, OnTrail}
use Rattle.template.specs.declared.walk.Trail.{Trail}
use Rattle.template.specs.declared.walk.Way.{Way}
use Rattle.template.specs.declared.walk.Way.TheVariants.{InTree, InTrie, Within}
use Rattle.template.specs.declared.walk.WalkRun.{WalkRun}
use Rattle.template.specs.declared.walk.WalkAt.{WalkAt}
use Rattle.template.specs.declared.walk.WalkAt.TheVariants.{Start, Root, Head, Key, Child, More, Pair, Value, High}
use Rattle.ordered_map.specs.declared.rule.Goal.{Goal}
use Rattle.ordered_map.specs.declared.rule.Goal.TheVariants.{Key as ToKey, End}
use Rattle.template.specs.Walk.Known.{MayGo, LoadsChild, IsSure, WalkStandsAtLeaf, IsSlotFor, WalkKnows, walk_part, walk_kind, walk_step, WalkWaits, WalkIsReady, here}
use Rattle.template.specs.Walk.Steps.{WalkFitsAt, WalkFits, room}

-- One row more

module _ (c : Call) (h : History) (r : Row) (g : IsMapRun c.layout h) (run : IsRun TreeAllows c.layout (r ⊳ h)) where
  passed_more : (k n : ℕ) → WasPassed c h k n → WasPassed c (r ⊳ h) k n
  passed_more k n x = record { first = x.first; own = x.own; passed = ⊎_elim (λ p. inl (walk_stays r h x.first k n p)) (λ s. inr (strayed_more c.layout h x.first r k n (g.0, run) s)) x.passed }

  -- the settled words of a node that was passed stay
  settled_more : (k n : ℕ) → WasPassed c h k n → SameSettled (value h) (value (r ⊳ h)) n
  settled_more k n x = stood_settled c.layout (r ⊳ h) h n (g.0, run) (inr (ends_self h)) (walked_stood c.layout h x.first k n x.passed)

  turned_more : (k n : ℕ) (side : Side) (next : ℕ) → HasTurned c h k n side next → HasTurned c (r ⊳ h) k n side next
  turned_more k n side next x = record {
    passed = passed_more k n x.passed;
    fork = settled_leaf (value h) (value (r ⊳ h)) n (settled_more k n x.passed) ∙ x.fork;
    side_is = settled_toward (value h) (value (r ⊳ h)) n k (settled_more k n x.passed) ∙ x.side_is;
    shown = let s = x.shown in record { moment = s.moment; within = inr s.within; own = s.own; passed = s.passed; held = s.held };
  }

  -- what a call has passed it has passed
  pub trail_more : (k : ℕ) (t : Trail) → OnTrail c h k t → OnTrail c (r ⊳ h) k t
  trail_more k t x = record {
    node = passed_more k t.node.0 x.node;
    parent = λ d. turned_more k t.parent.0 t.side t.node.0 (x.parent d);
    grand = λ d p. turned_more k t.grand.0 t.grand_side t.parent.0 (x.grand d p);
    high = λ d z leaf low. x.high d z (sym (settled_leaf (value h) (value (r ⊳ h)) t.node.0 same) ∙ leaf) (sym (settled_class (value h) (value (r ⊳ h)) t.node.0 same) ∙ low);
  }
    where
      same : SameSettled (value h) (value (r ⊳ h)) t.node.0
      same = settled_more k t.node.0 x.node

  -- so does what it knows of a leaf of class 0
  leaf_more : (m : WalkRun) (head : HeadParts) → WalkStandsAtLeaf c h m.goal m.trail head → WalkStandsAtLeaf c (r ⊳ h) m.goal m.trail head
  leaf_more m head k = record {
    trail = trail_more (path_key m.goal) m.trail k.trail;
    head = ap head_of (settled_more (path_key m.goal) m.trail.node.0 k.trail.node (Settled HeadWord) tt) ∙ k.head;
    low = k.low;
    leaf = k.leaf;
  }

  slot_more : (goal : Goal) (n : ℕ) (slot : Slot) → SameSettled (value h) (value (r ⊳ h)) n → IsSlotFor goal (value h) n slot → IsSlotFor goal (value (r ⊳ h)) n slot
  slot_more (ToKey k) n slot same x = ap (get k) (held_same (value h) (value (r ⊳ h)) n same) ∙ x ∙ ap (get k) (sym (same_from (value h) (value (r ⊳ h)) n slot same))
  slot_more (End side) n slot same x = x ∙ ap (end_slot side) (sym (same (Settled MoreWord) tt))

  -- what a walk knows at its place stays so
  pub walk_known_more : (m : WalkRun) (at : WalkAt) → WalkKnows c h m at → WalkKnows c (r ⊳ h) m at
  walk_known_more m Start k = k
  walk_known_more m Root k = k
  walk_known_more m (Head above) k =
      let y : level (value (r ⊳ h)) m.trail.node.0 ≡ level (value h) m.trail.node.0 = settled_level (value h) (value (r ⊳ h)) m.trail.node.0 (settled_more (path_key m.goal) m.trail.node.0 k.0.node) in
      (trail_more (path_key m.goal) m.trail k.0, (let z = k.1 in omega (arith, y, z)))
  walk_known_more m (Key head) k = (trail_more (path_key m.goal) m.trail k.0, ap head_of (settled_more (path_key m.goal) m.trail.node.0 k.0.node (Settled HeadWord) tt) ∙ k.1, k.2, k.3)
  walk_known_more m (Child low side) k =
      let same : SameSettled (value h) (value (r ⊳ h)) m.trail.node.0 = settled_more (path_key m.goal) m.trail.node.0 k.0.node in
      (trail_more (path_key m.goal) m.trail k.0, settled_level (value h) (value (r ⊳ h)) m.trail.node.0 same ∙ k.1, settled_leaf (value h) (value (r ⊳ h)) m.trail.node.0 same ∙ k.2, settled_toward (value h) (value (r ⊳ h)) m.trail.node.0 (path_key m.goal) same ∙ k.3)
  walk_known_more m (More head) k = leaf_more m head k
  walk_known_more m (Pair head more slot) k =
      let same : SameSettled (value h) (value (r ⊳ h)) m.trail.node.0 = settled_more (path_key m.goal) m.trail.node.0 k.0.trail.node in
      (leaf_more m head k.0, same (Settled MoreWord) tt ∙ k.1, slot_more m.goal m.trail.node.0 slot same k.2)
  walk_known_more m (Value head more slot key) k =
      let same : SameSettled (value h) (value (r ⊳ h)) m.trail.node.0 = settled_more (path_key m.goal) m.trail.node.0 k.0.trail.node in
      (leaf_more m head k.0, same (Settled MoreWord) tt ∙ k.1, slot_more m.goal m.trail.node.0 slot same k.2, same (Settled (KeyWord slot)) tt ∙ k.3, k.4)
  walk_known_more m (High head more slot key low) k =
      let same : SameSettled (value h) (value (r ⊳ h)) m.trail.node.0 = settled_more (path_key m.goal) m.trail.node.0 k.0.trail.node in
      (leaf_more m head k.0, same (Settled MoreWord) tt ∙ k.1, slot_more m.goal m.trail.node.0 slot same k.2, same (Settled (KeyWord slot)) tt ∙ k.3, k.4, same (Settled (ValueWord slot)) tt ∙ k.5)

  -- what it knows of its trail
  trail_known : (m : WalkRun) (at : WalkAt) → WalkKnows c h m at → m.trail.node.0 ≢ 0 → OnTrail c h (path_key m.goal) m.trail
  trail_known m Start k d = absurd k
  trail_known m Root k d = absurd (d k)
  trail_known m (Head above) k d = k.0
  trail_known m (Key head) k d = k.0
  trail_known m (Child low side) k d = k.0
  trail_known m (More head) k d = k.trail
  trail_known m (Pair head more slot) k d = k.0.trail
  trail_known m (Value head more slot key) k d = k.0.trail
  trail_known m (High head more slot key low) k d = k.0.trail

  leaves_known : (m : WalkRun) (at : WalkAt) → WalkKnows c h m at → LoadsChild at → WasPassed c h (path_key m.goal) m.trail.node.0
  leaves_known m Start k x = absurd x
  leaves_known m Root k x = absurd x
  leaves_known m (Head above) k x = absurd x
  leaves_known m (Key head) k x = absurd x
  leaves_known m (Child low side) k x = k.0.node
  leaves_known m (More head) k x = absurd x
  leaves_known m (Pair head more slot) k x = absurd x
  leaves_known m (Value head more slot key) k x = absurd x
  leaves_known m (High head more slot key low) k x = absurd x

  -- what stays on the path of its key still does
  stays_more : (k n : ℕ) → WasPassed c h k n → Stays c.layout (value h) k n → Stays c.layout (value (r ⊳ h)) k n
  stays_more k n x s = same_stays (value h) (value (r ⊳ h)) c.layout k n (settled_more k n x) s

  pub sure_more : (m : WalkRun) → WalkKnows c h m m.at → IsSure m c h → IsSure m c (r ⊳ h)
  sure_more m k s = record {
    above = λ d. stays_more (path_key m.goal) m.trail.parent.0 ((trail_known m m.at k d).parent d).passed (s.above d);
    leaves = λ x. stays_more (path_key m.goal) m.trail.node.0 (leaves_known m m.at k x) (s.leaves x);
  }

run_more : (c : Call) (h : History) (r : Row) → IsMapRun c.layout h → IsRun TreeAllows c.layout (r ⊳ h) → IsMapRun c.layout (r ⊳ h)
run_more c h r g run = (g.0, run)

-- rows of other passes leave a walk waiting for the same step
pub walk_keeps : (m : WalkRun) (c : Call) (h : History) (s : Step) (r : Row) → IsRun TreeAllows c.layout (r ⊳ h) → r.pass.0 ≢ c.pass → WalkWaits m c h s → WalkWaits m c (r ⊳ h) s
walk_keeps m c h s r run other w = record { run = run_more c h r w.run run; may = w.may; small = w.small; since = inr w.since; known = walk_known_more c h r w.run run m m.at w.known; sure = λ e. sure_more c h r w.run run m w.known (w.sure e); asked = w.asked }

-- The step that it waits for

root_inside : (lay : Layout) → IsMap lay.mode → 0 < all_nodes lay
root_inside lay e = rw e (omega arith)

walked_inside : (lay : Layout) (h start : History) (k n : ℕ) → IsMapRun lay h → HasWalked lay h start k n → n < all_nodes lay
walked_inside lay h start k n g p =
    let x : WasInTree h n = walked_stood lay h start k n p in
    tree_inside lay x.moment x.tree (run_since lay h x.moment g x.within).1.lawful x.is_tree n x.has

leaf_inside : (c : Call) (h : History) (m : WalkRun) (head : HeadParts) → IsMapRun c.layout h → WalkStandsAtLeaf c h m.goal m.trail head → m.trail.node.0 < all_nodes c.layout
leaf_inside c h m head g k = walked_inside c.layout h k.trail.node.first (path_key m.goal) m.trail.node.0 g k.trail.node.passed

inside : (c : Call) (h : History) (m : WalkRun) (at : WalkAt) → IsMapRun c.layout h → WalkKnows c h m at → m.trail.node.0 < all_nodes c.layout
inside c h m Start g k = absurd k
inside c h m Root g k = rw k (root_inside c.layout g.0)
inside c h m (Head above) g k = walked_inside c.layout h k.0.node.first (path_key m.goal) m.trail.node.0 g k.0.node.passed
inside c h m (Key head) g k = walked_inside c.layout h k.0.node.first (path_key m.goal) m.trail.node.0 g k.0.node.passed
inside c h m (Child low side) g k = walked_inside c.layout h k.0.node.first (path_key m.goal) m.trail.node.0 g k.0.node.passed
inside c h m (More head) g k = leaf_inside c h m head g k
inside c h m (Pair head more slot) g k = leaf_inside c h m head g k.0
inside c h m (Value head more slot key) g k = leaf_inside c h m head g k.0
inside c h m (High head more slot key low) g k = leaf_inside c h m head g k.0

-- a load of a settled word of its node
settled_lawful : (m : WalkRun) (c : Call) (h : History) (part : SettledPart) (s : Step) → IsRun TreeAllows c.layout h → s ≡ load LoadSettled (node m.trail.node.0 (Settled part)) → m.trail.node.0 < all_nodes c.layout → IsRun TreeAllows c.layout (row_of c s h ⊳ h)
settled_lawful m c h part s run e i = load_lawful TreeAllows c h LoadSettled (node m.trail.node.0 (Settled part)) s run e record { word = tt; same = refl } (λ q. cc) i

lawful_at : (m : WalkRun) (c : Call) (h : History) (at : WalkAt) (s : Step) → IsRun TreeAllows c.layout h → s ≡ walk_step m at → m.trail.node.0 < all_nodes c.layout → IsRun TreeAllows c.layout (row_of c s h ⊳ h)
lawful_at m c h Start s run e i = settled_lawful m c h HeadWord s run e i
lawful_at m c h Root s run e i = settled_lawful m c h HeadWord s run e i
lawful_at m c h (Head above) s run e i = settled_lawful m c h HeadWord s run e i
lawful_at m c h (Key head) s run e i = settled_lawful m c h (KeyWord First) s run e i
lawful_at m c h (Child low side) s run e i = load_lawful TreeAllows c h LoadChild (node m.trail.node.0 (ChildWord side)) s run e record { word = tt; same = refl } (λ q. cc) i
lawful_at m c h (More head) s run e i = settled_lawful m c h MoreWord s run e i
lawful_at m c h (Pair head more slot) s run e i = settled_lawful m c h (KeyWord slot) s run e i
lawful_at m c h (Value head more slot key) s run e i = settled_lawful m c h (ValueWord slot) s run e i
lawful_at m c h (High head more slot key low) s run e i = settled_lawful m c h (HighWord slot) s run e i

-- the step that a walk waits for continues the run
pub walk_lawful : (m : WalkRun) (c : Call) (h : History) (s : Step) → IsRun TreeAllows c.layout h → WalkWaits m c h s → IsRun TreeAllows c.layout (row_of c s h ⊳ h)
walk_lawful m c h s run w = lawful_at m c h m.at s run w.asked (inside c h m m.at w.run w.known)

-- once the step is made, the walk may be called with what it found
pub walk_made : (m : WalkRun) (c : Call) (h : History) (s : Step) (v : ℕ) → IsRun TreeAllows c.layout (row_of c s h ⊳ h) → IsTold s.access (value h s.word) v → WalkWaits m c h s → WalkIsReady m c (row_of c s h ⊳ h) (Some v)
walk_made m c h s v run t w = record {
  run = run_more c h (row_of c s h) w.run run;
  may = w.may;
  small = w.small;
  own = record { row = row_of c s h; before = h; is = refl; since = w.since; own = refl };
  known = walk_known_more c h (row_of c s h) w.run run m m.at w.known;
  sure = λ e. sure_more c h (row_of c s h) w.run run m w.known (w.sure e);
  told = load_told c h (walk_kind m.at) (node m.trail.node.0 (walk_part m.at)) s v w.asked t;
}

-- What it gets

-- no node that was walked to is deeper than the taken nodes allow, or a trie
deep_by : (lay : Layout) (way : Way) (goal : Goal) (taken nodes l : ℕ) → MayGo lay way goal → taken ≤ nodes → l < depth_in lay.mode taken → l < 2 + room way nodes
deep_by lay InTree goal taken nodes l may few deep = let d : l < 2 + taken = subst (λ mode. l < depth_in mode taken) may deep in omega (arith, d, few)
deep_by lay InTrie goal taken nodes l may few deep = subst (λ mode. l < depth_in mode taken) may deep
deep_by lay Within (ToKey k) taken nodes l may few deep = subst (λ mode. l < depth_in mode taken) may deep
deep_by lay Within (End side) taken nodes l may few deep = absurd may

module _ (m : WalkRun) (c : Call) (h : History) (nodes : ℕ) (g : IsMapRun c.layout h) (may : MayGo c.layout m.way m.goal) (few : length (taken_nodes h) ≤ nodes) where
  deep_at : (start : History) (n l : ℕ) → HasWalked c.layout h start (path_key m.goal) n → level (value h) n ≡ l → l < 2 + room m.way nodes
  deep_at start n l p e = deep_by c.layout m.way m.goal (length (taken_nodes h)) nodes l may few (subst (λ d. d < depth_in c.layout.mode (length (taken_nodes h))) e (stood_depth c.layout h n g (walked_stood c.layout h start (path_key m.goal) n p)))

  leaf_deep : (head : HeadParts) → WalkStandsAtLeaf c h m.goal m.trail head → head.level < 2 + room m.way nodes
  leaf_deep head k = deep_at k.trail.node.first m.trail.node.0 head.level k.trail.node.passed (ap (λ w. w.level) k.head)

  fits_at : (v : ℕ) (at : WalkAt) → path_key m.goal < 2 ^ 64 → WalkKnows c h m at → here h m (walk_part at) ≡ v → WalkFitsAt at v (room m.way nodes)
  fits_at v Start small k t = tt
  fits_at v Root small k t = deep_at h 0 (head_of v).level (inl (walk_first c.layout h (path_key m.goal) g)) (rw k at (ap (λ w. (head_of w).level) t))
  fits_at v (Head above) small k t =
      let e : level (value h) m.trail.node.0 ≡ (head_of v).level = ap (λ w. (head_of w).level) t in
      (subst (λ l. above < l) e k.1, deep_at k.0.node.first m.trail.node.0 (head_of v).level k.0.node.passed e)
  fits_at v (Key head) small k t = deep_at k.0.node.first m.trail.node.0 head.level k.0.node.passed (ap (λ w. w.level) k.1)
  fits_at v (Child low side) small k t =
      let n = m.trail.node.0 in
      let below : ℕ = value h (child n (toward (value h) n (path_key m.goal))) in
      let next : HasWalked c.layout h k.0.node.first (path_key m.goal) below = walked_next c.layout h k.0.node.first (path_key m.goal) n small g k.0.node.passed k.2 in
      let deep = deep_at k.0.node.first below (level (value h) below) next refl in
      let rises : level (value h) n < level (value h) below = levels_rise c.layout h n (toward (value h) n (path_key m.goal)) g (walked_stood c.layout h k.0.node.first (path_key m.goal) n k.0.node.passed) k.2 in
      let e = k.1 in
      omega (arith, deep, rises, e)
  fits_at v (More head) small k t = tt
  fits_at v (Pair head more slot) small k t = leaf_deep head k.0
  fits_at v (Value head more slot key) small k t = leaf_deep head k.0
  fits_at v (High head more slot key low) small k t = tt

-- what a walk may get fits the nodes that are taken by then
pub walk_told : (m : WalkRun) (c : Call) (h : History) (got : Option ℕ) (nodes : ℕ) → IsRun TreeAllows c.layout h → WalkIsReady m c h got → length (taken_nodes h) ≤ nodes → WalkFits m got nodes
walk_told m c h None nodes run r few = subst (λ (at : WalkAt). WalkFitsAt at 0 (room m.way nodes)) (sym r.at) tt
walk_told m c h (Some v) nodes run r few = fits_at m c h nodes r.run r.may few v m.at r.small r.known r.told
