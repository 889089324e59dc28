-- What else is known of walks: they ask for loads alone; how they begin, and what they have found.
use Rattle.std.proofs.Common.{◌≡◌, ◌≢◌, ℕ, ◌+◌, ◌*◌, ◌%◌, ◌^◌, ◌<◌, ◌≤◌, length, arith, true, false, cond, eqb, ◌⊎◌, inl, inr, ⊎_elim, ne_eqb, Option, Some, None, refl, sym, ◌∙◌, ap, subst}
use native.Mathlib.Decide.{ℕ_discrete}
use Rattle.arena.specs.declared.limits.Mode.TheVariants.{Records, Trie as TrieMode}
use Rattle.std.proofs.lemmas.Nat.{mul-le}
use Rattle.histories.specs.Common.{Mode, Tree as TreeMode, Row, Step, Load, Kind, Fill, LoadSettled, LoadChild, Side, Settled, Head as HeadWord, More as MoreWord, Key as KeyWord}
use Rattle.histories.specs.Common.{Word, head_of, node, info, child, first_key, History, ◌⊳◌, value, Extends, IsNamed, WasInTheWay, IsRun, Call, taken_nodes, most_taken}
use Rattle.arena.proofs.Lemmas.{ends_self, ends_trans, taken_few, taken_more}
use Rattle.ordered_map.specs.Paths.{depth}
use Rattle.prims.specs.Laws.Linked.{in_field_named}
use Rattle.template.specs.Common.{end_slot, held_pairs, IsWellCounted, AllBelow, IsRising, IsAnswerAt, IsMapRun, TreeAllows, class, is_leaf, said}
use Rattle.template.specs.Common.{Goal, Key as ToKey, End, path_key, asked_in, HasFoundGoal, HasFoundFork, FoundBy, HasFoundLeaf, HasTurned, MayGo, WasInTree, WasPassed, WalkWaits, WalkIsReady}
use Rattle.ordered_map.proofs.Lemmas.{blame_field, SameSettled, same_stays, settled_said, settled_leaf}
use Rattle.ordered_map.specs.TrieShape.{Stays}
use Rattle.template.specs.Trails.{OnTrail}
use Rattle.template.specs.declared.walk.Way.{Way}
use Rattle.template.specs.declared.walk.Way.TheVariants.{InTree, InTrie, Within}
use Rattle.ordered_map.proofs.Lemmas.{same_shares}
use Rattle.ordered_map.proofs.MapLemmas.{run_since, root_head, stood_blank, stood_holds, stood_in_field, stood_settled, walked_answers, walked_stood}
use Rattle.template.specs.declared.walk.Found.{Found}
use Rattle.template.specs.declared.walk.WalkRun.{WalkRun}
use Rattle.template.specs.declared.walk.WalkAt.{WalkAt}
use Rattle.template.specs.declared.walk.WalkAt.TheVariants.{Start, Root, Head, Key, Child, More, Pair, Value, High}
use Rattle.template.specs.Walk.Laws.{trail_more}
use Rattle.template.specs.Walk.Known.{walk_kind}
use Rattle.template.proofs.WalkTurns.{own_since}

-- Its steps

kind_is : (at : WalkAt) → (walk_kind at ≡ LoadSettled) ⊎ (walk_kind at ≡ LoadChild)
kind_is Start = inl refl
kind_is Root = inl refl
kind_is (Head above) = inl refl
kind_is (Key head) = inl refl
kind_is (Child low side) = inr refl
kind_is (More head) = inl refl
kind_is (Pair head more slot) = inl refl
kind_is (Value head more slot key) = inl refl
kind_is (High head more slot key low) = inl refl

-- a walk asks for loads alone, of settled words and of fields
pub walk_loads : (m : WalkRun) (c : Call) (h : History) (s : Step) → WalkWaits m c h s → ((s.kind ≡ LoadSettled) ⊎ (s.kind ≡ LoadChild)) × (s.access ≡ Load)
walk_loads m c h s w = (subst (λ k. (k ≡ LoadSettled) ⊎ (k ≡ LoadChild)) (sym (ap (λ (t : Step). t.kind) w.asked)) (kind_is m.at), ap (λ (t : Step). t.access) w.asked)

no_fill : (k : Kind) → (k ≡ LoadSettled) ⊎ (k ≡ LoadChild) → k ≢ Fill
no_fill k (inl e) f = cc
no_fill k (inr e) f = cc

-- so it fills nothing: it takes nothing of its share
pub walk_fills_not : (m : WalkRun) (c : Call) (h : History) (s : Step) → WalkWaits m c h s → s.kind ≢ Fill
walk_fills_not m c h s w = no_fill s.kind (walk_loads m c h s w).0

-- How it begins and ends

-- a walk that has not begun may be called
pub walk_ready_first : (m : WalkRun) (c : Call) (h : History) → IsMapRun c.layout h → MayGo c.layout m.way m.goal → path_key m.goal < 2 ^ 64 → Extends h c.start → m.at ≡ Start → m.trail.node.0 ≡ 0 → WalkIsReady m c h None
walk_ready_first m c h run may small since at root = record { run = run; may = may; small = small; since = since; at = at; root = root }

-- what a call has found of its key, the map gave at a moment that is not before its first row
pub found_gives : (c : Call) (h : History) (k : ℕ) (f : Found) → IsMapRun c.layout h → k < 2 ^ 64 → (a : HasFoundLeaf c h k f) → IsAnswerAt c.layout h a.trail.node.first k f.value
found_gives c h k f run small a = subst (IsAnswerAt c.layout h a.trail.node.first k) (sym a.says) (walked_answers c.layout h a.trail.node.first k f.trail.node.0 small run a.trail.node.passed a.leaf)

-- a walk that is ready runs in a tree, to a key of one word
pub walk_ready_run : (m : WalkRun) (c : Call) (h : History) (got : Option ℕ) → WalkIsReady m c h got → IsMapRun c.layout h × (path_key m.goal < 2 ^ 64)
walk_ready_run m c h None r = (r.run, r.small)
walk_ready_run m c h (Some v) r = (r.run, r.small)

-- What a leaf says of a key

-- one that answers a value is of class 0
pub said_low : (f : Word → ℕ) (k n old : ℕ) → Some old ≡ said f k n → class f n ≡ 0
said_low f k n old e = go (ℕ_discrete (class f n) 0)
  where
    go : Dec (class f n ≡ 0) → class f n ≡ 0
    go (yes z) = z
    go (no d) = absurd (let y : Some old ≡ None = e ∙ rw (ne_eqb (class f n) 0 d) refl in cc)

-- What it has found

-- no mode allows more levels than this
pub no_deeper : (mode : Mode) (taken l : ℕ) → l < depth mode taken → l < 67 + taken
no_deeper TrieMode taken l d = omega (arith, d)
no_deeper TreeMode taken l d = omega (arith, d)
no_deeper Records taken l d = omega (arith, d)

-- what one row more leaves so
deep_more : (mode : Mode) (taken more l : ℕ) → taken ≤ more → l < depth mode taken → l < depth mode more
deep_more TrieMode taken more l few d = d
deep_more TreeMode taken more l few d = omega (arith, few, d)
deep_more Records taken more l few d = omega (arith, few, d)

module _ (goal : Goal) (c : Call) (h : History) (f : Found) (run : IsMapRun c.layout h) (a : HasFoundGoal goal c h f) where
  pub found_stood : WasInTree h f.trail.node.0
  found_stood = walked_stood c.layout h a.trail.node.first (path_key goal) f.trail.node.0 a.trail.node.passed

  -- a leaf is not the root
  pub found_below : f.trail.node.0 ≢ 0
  found_below e =
      let leaf : is_leaf (value h) 0 ≡ true = subst (λ n. is_leaf (value h) n ≡ true) e a.leaf in
      let fork : is_leaf (value h) 0 ≡ false = rw (root_head c.layout h run) refl in
      let x : true ≡ false = sym leaf ∙ fork in
      cc

  -- a leaf of class 0 holds as many pairs as it may hold, of rising keys below 2 ^ 64
  pub found_holds : f.head.class ≡ 0 → IsWellCounted (value h) f.trail.node.0 × AllBelow (2 ^ 64) (held_pairs (value h) f.trail.node.0) × IsRising (held_pairs (value h) f.trail.node.0)
  found_holds low = stood_holds c.layout h f.trail.node.0 run found_stood a.leaf (ap (λ w. w.class) a.head ∙ low)

  -- the key of a leaf above all keys is 0
  pub found_blank : f.head.class ≢ 0 → value h (node f.trail.node.0 first_key) ≡ 0
  found_blank high = stood_blank c.layout h f.trail.node.0 run found_stood (λ e. high (sym (ap (λ w. w.class) a.head) ∙ e))

  -- its class is one that a word can hold
  pub found_class : f.head.class < 4
  found_class = let e : class (value h) f.trail.node.0 ≡ f.head.class = ap (λ w. w.class) a.head in omega (arith, e)

  -- the level below it fits the word of a head, too: no table has as many nodes as there are levels
  pub found_level : f.head.level + 1 < 2 ^ 61
  found_level =
      let deep : f.head.level < 67 + length (taken_nodes h) = no_deeper c.layout.mode (length (taken_nodes h)) f.head.level a.deep in
      let few : length (taken_nodes h) ≤ most_taken c.layout = taken_few c.layout h run.1.lawful in
      let planted : c.layout.planted ≤ 67108864 = c.layout.planted_fit in
      let most : c.layout.passes * c.layout.nodes ≤ 32 * 1125899906842624 = mul-le c.layout.passes c.layout.nodes 32 1125899906842624 c.layout.passes_fit c.layout.nodes_fit in
      omega (arith, deep, few, planted, most)

-- what a leaf answers does not change with its settled words
pub settled_asked : (goal : Goal) (b f : Word → ℕ) (n : ℕ) → SameSettled b f n → asked_in goal f n ≡ asked_in goal b n
settled_asked (ToKey k) b f n e = refl
settled_asked (End side) b f n e = λ i. cond (eqb (e (Settled HeadWord) tt i % 4) 0) (key i) 0
  where
    key : f (node n (Settled (KeyWord (end_slot side (f (node n (Settled MoreWord))))))) ≡ b (node n (Settled (KeyWord (end_slot side (b (node n (Settled MoreWord)))))))
    key = e (Settled (KeyWord (end_slot side (f (node n (Settled MoreWord)))))) tt ∙ ap (λ more. b (node n (Settled (KeyWord (end_slot side more))))) (e (Settled MoreWord) tt)

-- what a call has found it has found, whatever row comes
pub found_more : (c : Call) (h : History) (r : Row) (goal : Goal) (f : Found) → IsMapRun c.layout h → IsRun TreeAllows c.layout (r ⊳ h) → HasFoundGoal goal c h f → HasFoundGoal goal c (r ⊳ h) f
found_more c h r goal f run run_now a = record {
  trail = trail_more c h r run run_now (path_key goal) f.trail a.trail;
  leaf = settled_leaf (value h) (value (r ⊳ h)) f.trail.node.0 same ∙ a.leaf;
  head = ap head_of (same (Settled HeadWord) tt) ∙ a.head;
  deep = deep_more c.layout.mode (length (taken_nodes h)) (length (taken_nodes (r ⊳ h))) f.head.level (taken_more h r) a.deep;
  more = λ low. same (Settled MoreWord) tt ∙ a.more low;
  none = a.none;
  key = asked ∙ a.key;
  says = a.says ∙ sym (ap (λ k. said (value (r ⊳ h)) k f.trail.node.0) asked ∙ settled_said (value h) (value (r ⊳ h)) (asked_in goal (value h) f.trail.node.0) f.trail.node.0 same);
}
  where
    same : SameSettled (value h) (value (r ⊳ h)) f.trail.node.0
    same = stood_settled c.layout (r ⊳ h) h f.trail.node.0 (run.0, run_now) (inr (ends_self h)) (found_stood goal c h f run a)

    asked : asked_in goal (value (r ⊳ h)) f.trail.node.0 ≡ asked_in goal (value h) f.trail.node.0
    asked = settled_asked goal (value h) (value (r ⊳ h)) f.trail.node.0 same

-- so it is by each way
module _ (c : Call) (h : History) (r : Row) (goal : Goal) (f : Found) (run : IsMapRun c.layout h) (run_now : IsRun TreeAllows c.layout (r ⊳ h)) where
  same_passed : (n : ℕ) → WasPassed c h (path_key goal) n → SameSettled (value h) (value (r ⊳ h)) n
  same_passed n x = stood_settled c.layout (r ⊳ h) h n (run.0, run_now) (inr (ends_self h)) (walked_stood c.layout h x.first (path_key goal) n x.passed)

  stays_more : OnTrail c h (path_key goal) f.trail → f.trail.node.0 ≢ 0 → Stays c.layout (value h) (path_key goal) f.trail.parent.0 → Stays c.layout (value (r ⊳ h)) (path_key goal) f.trail.parent.0
  stays_more t d x = same_stays (value h) (value (r ⊳ h)) c.layout (path_key goal) f.trail.parent.0 (same_passed f.trail.parent.0 (t.parent d).passed) x

  fork_more : HasFoundFork goal c h f → HasFoundFork goal c (r ⊳ h) f
  fork_more a = record {
    trie = a.trie;
    to_key = a.to_key;
    trail = trail_more c h r run run_now (path_key goal) f.trail a.trail;
    below = a.below;
    stays = stays_more a.trail a.below a.stays;
    fork = settled_leaf (value h) (value (r ⊳ h)) f.trail.node.0 same ∙ a.fork;
    head = ap head_of (same (Settled HeadWord) tt) ∙ a.head;
    low = a.low;
    key = same first_key tt ∙ a.key;
    small = a.small;
    outside = λ x. a.outside (same_shares (value (r ⊳ h)) (value h) f.trail.node.0 (path_key goal) (λ part i. sym (same part i)) x);
    none = a.none;
  }
    where
      same : SameSettled (value h) (value (r ⊳ h)) f.trail.node.0
      same = same_passed f.trail.node.0 a.trail.node

  pub found_by_more : (way : Way) → FoundBy way goal c h f → FoundBy way goal c (r ⊳ h) f
  found_by_more InTree a = found_more c h r goal f run run_now a
  found_by_more InTrie a = found_more c h r goal f run run_now a
  found_by_more Within (inl a) = inl record { found = found_more c h r goal f run run_now a.found; stays = λ d. stays_more a.found.trail d (a.stays d) }
  found_by_more Within (inr a) = inr (fork_more a)

-- what is found by any way is a leaf or a fork
pub found_either : (way : Way) (goal : Goal) (c : Call) (h : History) (f : Found) → FoundBy way goal c h f → HasFoundGoal goal c h f ⊎ HasFoundFork goal c h f
found_either InTree goal c h f a = inl a
found_either InTrie goal c h f a = inl a
found_either Within goal c h f (inl a) = inl a.found
found_either Within goal c h f (inr a) = inr a

-- it is below the root, and the call has come by its trail
pub found_trail : (way : Way) (goal : Goal) (c : Call) (h : History) (f : Found) → FoundBy way goal c h f → OnTrail c h (path_key goal) f.trail
found_trail way goal c h f a = ⊎_elim (λ x. x.trail) (λ x. x.trail) (found_either way goal c h f a)

pub found_under : (way : Way) (goal : Goal) (c : Call) (h : History) (f : Found) → IsMapRun c.layout h → FoundBy way goal c h f → f.trail.node.0 ≢ 0
found_under way goal c h f run a = ⊎_elim (found_below goal c h f run) (λ x. x.below) (found_either way goal c h f a)

-- a node that was passed is named
pub passed_named : (c : Call) (h : History) (k n : ℕ) → IsMapRun c.layout h → WasPassed c h k n → IsNamed c.layout h n
passed_named c h k n run x = in_field_named n (stood_in_field c.layout h n run (walked_stood c.layout h x.first k n x.passed))

-- A field by which the call went down, and that holds another node now: the SCX-record that its
-- node's info names was in the way of the call.
pub turned_lost : (c : Call) (h : History) (k n : ℕ) (side : Side) (next : ℕ) → IsMapRun c.layout h → HasTurned c h k n side next → value h (child n side) ≢ next → WasInTheWay h c.start n (value h (info n))
turned_lost c h k n side next run x d =
    let s = x.shown in
    let named : IsNamed c.layout s.moment n = passed_named c s.moment k n (run_since c.layout h s.moment run s.within) s.passed in
    let w : WasInTheWay h s.moment n (value h (info n)) = blame_field c.layout h s.moment n side run.1.lawful s.within named (λ e. d (e ∙ s.held)) in
    record { row = w.row; before = w.before; within = w.within; since = ends_trans w.before s.moment c.start w.since (own_since c s.moment s.own); running = w.running; covers = w.covers }
