-- From place to place of a walk.
use Rattle.std.proofs.Common.{◌≡◌, ◌≢◌, ℕ, ◌^◌, ◌<◌, ◌⊎◌, true, false, cond, ltb, refl, None, Some}
use Rattle.arena.specs.declared.head.Head.{Head as HeadParts}
use Rattle.histories.specs.Common.{Ask, Done, LoadSettled, LoadChild, Side, Left, Right, Settled, Child as ChildWord, Head as HeadWord, More as MoreWord}
use Rattle.histories.specs.Common.{Key as KeyWord, Value as ValueWord, High as HighWord, Slot, head_of, node, first_key, History, Extends, Call}
use Rattle.template.specs.Common.{load, slot_behind, wide_value, IsMapRun, FoundBy, asked_key, path_key, MayGo, WalkIsTold, WalkWaits, Goal}
use Rattle.template.specs.Walk.Known.{EndsAt, asks_key, open_side, goal_slot, here, WalkStands}
use Rattle.template.specs.Walk.Places.{trail_below, way_at, way_from, LoadsHead}
use Rattle.template.specs.declared.walk.Trail.{Trail}
use Rattle.template.specs.declared.walk.WalkAt.{WalkAt}
use Rattle.template.specs.declared.walk.WalkAt.TheVariants.{Start, Root, Head, Key, Child, More, Pair, Value, High}
use Rattle.template.specs.declared.walk.Way.{Way}
use Rattle.template.specs.declared.walk.WalkRun.{WalkRun}
use Rattle.template.proofs.WalkTurns.{waits_at, ends_above, level_is, fork_is, stands_by, turn_key, turn_more, turn_value, turn_high, stays_unasked, ends_at_fork, asks_value, asks_next, ends_without, turn_down, stands_at_root, asked_low, unasked_turn}

-- it begins at the root
pub walk_begins : (way : Way) (goal : Goal) (d : Call) (h : History) → IsMapRun d.layout h → MayGo d.layout way goal → path_key goal < 2 ^ 64 → Extends h d.start → WalkWaits (way_from way goal) d h (load LoadSettled (node 0 (Settled HeadWord)))
walk_begins way goal d h run may small since = record { run = run; may = may; small = small; since = since; known = refl; sure = λ w. record { above = λ d. absurd (d refl); leaves = λ x. absurd x }; asked = refl }

module _ (way : Way) (goal : Goal) (t : Trail) (d : Call) (h : History) where
  -- at a node whose head it has loaded
  stands_at_head : (p : WalkAt) (v : ℕ) → LoadsHead p → WalkIsTold (way_at way goal t p) d h v → WalkStands (way_at way goal t p) d h × (here h (way_at way goal t p) (Settled HeadWord) ≡ v)
  stands_at_head Root v x w = (stands_at_root d h (way_at way goal t Root) w.run w.may w.small w.own w.known, w.told)
  stands_at_head (Head above) v x w = (record { run = w.run; may = w.may; small = w.small; own = w.own; trail = w.known.0; sure = λ x. (w.sure x).above }, w.told)
  stands_at_head Start v x w = absurd x
  stands_at_head (Key head) v x w = absurd x
  stands_at_head (Child low side) v x w = absurd x
  stands_at_head (More head) v x w = absurd x
  stands_at_head (Pair head more slot) v x w = absurd x
  stands_at_head (Value head more slot key) v x w = absurd x
  stands_at_head (High head more slot key low) v x w = absurd x

  module _ (p : WalkAt) (v : ℕ) (head : HeadParts) (x : LoadsHead p) (is : head_of v ≡ head) (w : WalkIsTold (way_at way goal t p) d h v) where
    stood : WalkStands (way_at way goal t p) d h
    stood = (stands_at_head p v x w).0

    head_is : head_of (here h (way_at way goal t p) (Settled HeadWord)) ≡ head
    head_is = rw (stands_at_head p v x w).1 is

    -- it ends at a leaf above all keys
    pub head_ends : head.leaf ≡ true → head.class ≢ 0 → FoundBy way goal d h record { trail = t; head = head; more = 0; key = asked_key goal 0; value = None }
    head_ends leaf high = ends_above d h (way_at way goal t p) (way_at way goal t p) (Done _) head stood record { stands = refl; done = refl } head_is high leaf

    -- of another leaf it loads how many pairs it has after its first
    pub head_to_more : head.leaf ≡ true → head.class ≡ 0 → WalkWaits (way_at way goal t (More head)) d h (load LoadSettled (node t.node.0 (Settled MoreWord)))
    head_to_more leaf low = waits_at d h (way_at way goal t p) (way_at way goal t (More head)) (Ask _) (More head) _ stood record { stands = refl; asked = refl } (record { trail = stood.trail; head = head_is; low = low; leaf = leaf }) (λ x. absurd) refl

    -- it loads the key of a fork where it asks for it
    pub head_to_key : head.leaf ≡ false → asks_key goal head ≡ true → WalkWaits (way_at way goal t (Key head)) d h (load LoadSettled (node t.node.0 first_key))
    head_to_key fork asks = waits_at d h (way_at way goal t p) (way_at way goal t (Key head)) (Ask _) (Key head) _ stood record { stands = refl; asked = refl } (stood.trail, head_is, asked_low goal head asks, fork) (λ x. absurd) refl

    -- another fork it leaves at once
    pub head_to_child : head.leaf ≡ false → asks_key goal head ≡ false → WalkWaits (way_at way goal t (Child head.level (open_side goal head))) d h (load LoadChild (node t.node.0 (ChildWord (open_side goal head))))
    head_to_child fork asks = let m = way_at way goal t p in
        waits_at d h m (way_at way goal t (Child head.level (open_side goal head))) (Ask _) (Child head.level (open_side goal head)) _ stood record { stands = refl; asked = refl }
        (stood.trail, level_is d h m stood head head_is, fork_is d h m stood head head_is fork, unasked_turn d h m head stood head_is asks fork) (λ x y. stays_unasked d h m head stood head_is asks fork x) refl

  -- after the key of a fork it continues by that, or it ends there
  pub key_to_child : (head : HeadParts) (low : ℕ) (side : Side) → WalkIsTold (way_at way goal t (Key head)) d h low → EndsAt (way_at way goal t (Key head)) low false → side ≡ cond (ltb (path_key goal) low) Left Right → WalkWaits (way_at way goal t (Child head.level side)) d h (load LoadChild (node t.node.0 (ChildWord side)))
  key_to_child head low side w goes is = let m = way_at way goal t (Key head) in turn_key d h m (way_at way goal t (Child head.level side)) (Ask _) head side low (stands_by m d h low w w.known.0) w.known.1 w.known.2 w.known.3 w.told is goes record { stands = refl; asked = refl }

  pub key_ends : (head : HeadParts) (low : ℕ) → WalkIsTold (way_at way goal t (Key head)) d h low → low < 2 ^ 64 → EndsAt (way_at way goal t (Key head)) low true → FoundBy way goal d h record { trail = t; head = head; more = 0; key = low; value = None }
  key_ends head low w small ends = let m = way_at way goal t (Key head) in ends_at_fork d h m m (Done _) head low (stands_by m d h low w w.known.0) w.known.1 w.known.2 w.known.3 w.told small ends record { stands = refl; done = refl }

  -- of a leaf it loads the key in the slot with which it begins
  pub more_to_pair : (head : HeadParts) (more : ℕ) → WalkIsTold (way_at way goal t (More head)) d h more → WalkWaits (way_at way goal t (Pair head more (goal_slot goal more))) d h (load LoadSettled (node t.node.0 (Settled (KeyWord (goal_slot goal more)))))
  more_to_pair head more w = turn_more d h (way_at way goal t (More head)) (way_at way goal t (Pair head more (goal_slot goal more))) (Ask _) head more refl w record { stands = refl; asked = refl }

  module _ (head : HeadParts) (more : ℕ) (slot : Slot) (key : ℕ) (w : WalkIsTold (way_at way goal t (Pair head more slot)) d h key) where
    abbrev at_slot : WalkRun
    at_slot = way_at way goal t (Pair head more slot)

    stood_at_slot : WalkStands at_slot d h
    stood_at_slot = stands_by at_slot d h key w w.known.0.trail

    -- the value of the key that it answers
    pub pair_to_value : asked_key goal key ≡ key → WalkWaits (way_at way goal t (Value head more slot key)) d h (load LoadSettled (node t.node.0 (Settled (ValueWord slot))))
    pair_to_value same = asks_value d h at_slot (way_at way goal t (Value head more slot key)) (Ask _) head more slot key stood_at_slot w.known.0 w.known.1 w.known.2 w.told same record { stands = refl; asked = refl }

    -- or the next key
    pub pair_to_pair : asked_key goal key ≢ key → (next : Slot) → slot_behind more slot ≡ Some next → WalkWaits (way_at way goal t (Pair head more next)) d h (load LoadSettled (node t.node.0 (Settled (KeyWord next))))
    pair_to_pair other next behind = asks_next d h at_slot (way_at way goal t (Pair head more next)) (Ask _) head more slot key stood_at_slot w.known.0 w.known.1 w.known.2 w.told other next behind record { stands = refl; asked = refl }

    -- or it ends
    pub pair_ends : asked_key goal key ≢ key → (slot_behind more slot ≡ None) ⊎ (asked_key goal key < key) → FoundBy way goal d h record { trail = t; head = head; more = more; key = asked_key goal key; value = None }
    pair_ends other none = ends_without d h at_slot at_slot (Done _) head more slot key stood_at_slot w.known.0 w.known.1 w.known.2 w.told other none record { stands = refl; done = refl }

  -- after the value comes its high half
  pub value_to_high : (head : HeadParts) (more : ℕ) (slot : Slot) (key low : ℕ) → WalkIsTold (way_at way goal t (Value head more slot key)) d h low → WalkWaits (way_at way goal t (High head more slot key low)) d h (load LoadSettled (node t.node.0 (Settled (HighWord slot))))
  value_to_high head more slot key low w = turn_value d h (way_at way goal t (Value head more slot key)) (way_at way goal t (High head more slot key low)) (Ask _) head more slot key low refl w record { stands = refl; asked = refl }

  -- which is the last word that it gets
  pub high_ends : (head : HeadParts) (more : ℕ) (slot : Slot) (key low high : ℕ) → WalkIsTold (way_at way goal t (High head more slot key low)) d h high → FoundBy way goal d h record { trail = t; head = head; more = more; key = key; value = Some (wide_value low high) }
  high_ends head more slot key low high w = let m = way_at way goal t (High head more slot key low) in turn_high d h m m (Done _) head more slot key low high refl w record { stands = refl; done = refl }

  -- it goes down to the child that it has got
  pub child_to_head : (level : ℕ) (side : Side) (n : ℕ) → WalkIsTold (way_at way goal t (Child level side)) d h n → WalkWaits (way_at way goal (trail_below t side n) (Head level)) d h (load LoadSettled (node n (Settled HeadWord)))
  child_to_head level side n w = let m = way_at way goal t (Child level side) in
      turn_down d h m (way_at way goal (trail_below t side n) (Head level)) (Ask _) level side n
      record { run = w.run; may = w.may; small = w.small; own = w.own; trail = w.known.0; sure = λ x. (w.sure x).above } (λ x. (w.sure x).leaves tt) w.known.1 w.known.2 w.known.3 w.told record { stands = refl; asked = refl }
