-- Slots: where the words of names are in the table, and that words of two held records are apart.
use Rattle.std.proofs.Common.{◌≡◌, ◌<◌, ◌≤◌, ◌⊎◌, ◌+◌, ◌*◌, ◌%◌, ℕ, eq-eqb, ne_eqb, inl, inr, refl, sym, ◌∙◌, ap, subst, arith}
use Rattle.std.specs.Prelude.{Option, Some, None}
use Rattle.std.proofs.Math.Nat.{add-mul-mod_self_right, mod-eq_of_lt, mul-le-mul_right}
use native.Mathlib.Decide.{ℕ_discrete}
use Rattle.histories.specs.Common.{Layout, Row, History, ◌⊳◌, NodeWord, Head, Settled, Word, Node, Scx, ScxWord, State, first_node, first_scx, opening_nodes, nodes_at_start, place, node, scx, IsWord, IsFillOfNode, IsOwnNode, IsOwnScx, IsTakenNode, IsTakenScx}
use Rattle.arena.specs.Fills.{IsFillOfScx}
use Rattle.histories.proofs.Lemmas.{own_node_inside, own_scx_inside}
use Rattle.resting.specs.Records.{Record, record_of, the_node, the_scx}
use Rattle.slots.specs.Held.{Held, IsHeld, AreNames, with_slot}
use Rattle.slots.specs.Lasting.{Lasting, IsLasting, IsFirstRecord, IsNameOf, IsOwnName, IsRecord, IsUntaken, slot_of, slot_word, table_place}
use Rattle.slots.proofs.Places.{place_apart}

-- Records

pub record_discrete : (x y : Record) → Dec (x ≡ y)
record_discrete (the_node n) (the_node m) = go (ℕ_discrete n m)
  where
    go : Dec (n ≡ m) → Dec (the_node n ≡ the_node m)
    go (yes e) = yes (ap the_node e)
    go (no d) = no (λ e. d (let q : n ≡ m = cc in q))
record_discrete (the_scx s) (the_scx u) = go (ℕ_discrete s u)
  where
    go : Dec (s ≡ u) → Dec (the_scx s ≡ the_scx u)
    go (yes e) = yes (ap the_scx e)
    go (no d) = no (λ e. d (let q : s ≡ u = cc in q))
record_discrete (the_node n) (the_scx s) = no (λ e. let q : the_node n ≡ the_scx s = e in cc)
record_discrete (the_scx s) (the_node n) = no (λ e. let q : the_scx s ≡ the_node n = e in cc)

pub with_same : (held : Held) (slot : Record) (found : Option Record) → with_slot held slot found slot ≡ found
with_same held (the_node n) found = rw (eq-eqb n n refl) refl
with_same held (the_scx s) found = rw (eq-eqb s s refl) refl

pub with_other : (held : Held) (slot k : Record) (found : Option Record) → ¬ (k ≡ slot) → with_slot held slot found k ≡ held k
with_other held (the_node n) (the_node m) found d = rw (ne_eqb m n (λ e. d (ap the_node e))) refl
with_other held (the_scx s) (the_scx u) found d = rw (ne_eqb u s (λ e. d (ap the_scx e))) refl
with_other held (the_node n) (the_scx s) found d = refl
with_other held (the_scx s) (the_node n) found d = refl

pub word_record : (lay : Layout) (w : Word) → IsWord lay w → IsRecord lay (record_of w)
word_record lay (Node n part) i = i
word_record lay (Scx s part) i = i.0

pub slot_record : (t : Lasting) (w : Word) → record_of (slot_word t w) ≡ slot_of t (record_of w)
slot_record t (Node n part) = refl
slot_record t (Scx s part) = refl

-- what is untaken is not there from the start
pub untaken_not_first : (lay : Layout) (h : History) (x : Record) → IsUntaken lay h x → ¬ IsFirstRecord lay x
untaken_not_first lay h (the_node n) free first = let late = free.0 in omega (arith, late, first)
untaken_not_first lay h (the_scx s) free first = free.0 first

-- and a row of another record leaves it so
pub untaken_more : (lay : Layout) (h : History) (r : Row) (x : Record) → ¬ (record_of r.word ≡ x) → IsUntaken lay h x → IsUntaken lay (r ⊳ h) x
unfolding IsTakenNode IsTakenScx
untaken_more lay h r (the_node n) other free = (free.0, go)
  where
    go : IsFillOfNode n r ⊎ IsTakenNode h n → ⊥
    go (inl x) = other (ap record_of x.2)
    go (inr x) = free.1 x
untaken_more lay h r (the_scx s) other free = (free.0, go)
  where
    go : IsFillOfScx s r ⊎ IsTakenScx h s → ⊥
    go (inl x) = other (ap record_of x.2)
    go (inr x) = free.1 x

-- Words

abbrev pub number_of : Record → ℕ
number_of (the_node n) = n
number_of (the_scx s) = s

abbrev node_part : Word → NodeWord
node_part (Node n part) = part
node_part (Scx s part) = Settled Head

abbrev scx_part : Word → ScxWord
scx_part (Node n part) = State
scx_part (Scx s part) = part

-- a word is known by its record, and by the word of its slot
one_word : (t : Lasting) (u w : Word) → record_of u ≡ record_of w → slot_word t u ≡ slot_word t w → u ≡ w
one_word t (Node n a) (Node m b) e f = λ i. node (number_of (e i)) (node_part (f i))
one_word t (Scx s a) (Scx u b) e f = λ i. scx (number_of (e i)) (scx_part (f i))
one_word t (Node n a) (Scx s b) e f = absurd (let d : the_node n.0 ≡ the_scx s.0 = e in cc)
one_word t (Scx s a) (Node n b) e f = absurd (let d : the_scx s.0 ≡ the_node n.0 = e in cc)

pub one_found : (x y : Record) → Some x ≡ Some y → x ≡ y
one_found x y e = cc

-- Names

module _ (t : Lasting) (fit : IsLasting t) where
  pub same_start : opening_nodes t.lay ≡ opening_nodes t.table
  same_start = ap (λ m. nodes_at_start m t.lay.planted) fit.mode ∙ ap (nodes_at_start t.table.mode) fit.planted

  -- what is there from the start has its own number for a slot
  pub first_slot : (x : Record) → IsFirstRecord t.lay x → slot_of t x ≡ x
  first_slot (the_node n) first = ap the_node (mod-eq_of_lt (let same = same_start in let room = fit.node_room in omega (arith, same, room, first)))
  first_slot (the_scx s) first = ap the_scx (mod-eq_of_lt (let room = fit.scx_room in omega (arith, room, first)))

  first_inside : (x : Record) → IsFirstRecord t.lay x → IsRecord t.table x
  first_inside (the_node n) first = let same = same_start in omega (arith, same, first)
  first_inside (the_scx s) first = omega (arith, first)

  own_inside : (o : ℕ) (x : Record) → o < t.lay.passes → IsOwnName t o x → IsRecord t.table (slot_of t x)
  own_inside o (the_node n) is_pass own = own_node_inside t.table o (n % t.node_turn) (rw fit.passes at is_pass) own.1
  own_inside o (the_scx s) is_pass own = own_scx_inside t.table o (s % t.scx_turn) (rw fit.passes at is_pass) own.1

  -- the slot of a name is one of the table
  pub name_inside : (slot x : Record) → IsNameOf t slot x → IsRecord t.table (slot_of t x)
  name_inside slot x name = go name.name
    where
      go : IsFirstRecord t.lay x ⊎ ((o : ℕ) × (o < t.lay.passes) × IsOwnName t o x) → IsRecord t.table (slot_of t x)
      go (inl first) = subst (IsRecord t.table) (sym (first_slot x first)) (first_inside x first)
      go (inr own) = own_inside own.0 x own.1 own.2

  pub word_inside : (w : Word) → IsWord t.lay w → IsRecord t.table (slot_of t (record_of w)) → IsWord t.table (slot_word t w)
  word_inside (Node n part) i inside = inside
  word_inside (Scx s part) i inside = (inside, i.1)

  module _ (held : Held) (names : AreNames t held) where
    pub held_inside : (w : Word) → IsWord t.lay w → IsHeld t held (record_of w) → IsWord t.table (slot_word t w)
    held_inside w i is = word_inside w i (name_inside (slot_of t (record_of w)) (record_of w) (names.own (slot_of t (record_of w)) (record_of w) is))

    -- words of held records that have one place are one
    pub held_apart : (u w : Word) → IsWord t.lay u → IsHeld t held (record_of u) → IsWord t.lay w → IsHeld t held (record_of w) → table_place t u ≡ table_place t w → u ≡ w
    held_apart u w i is j also e = one_word t u w same_record_of same
      where
        same : slot_word t u ≡ slot_word t w
        same = place_apart t.table (slot_word t u) (slot_word t w) (held_inside u i is) (held_inside w j also) e

        slots : slot_of t (record_of u) ≡ slot_of t (record_of w)
        slots = sym (slot_record t u) ∙ ap record_of same ∙ slot_record t w

        same_record_of : record_of u ≡ record_of w
        same_record_of = one_found (record_of u) (record_of w) (sym is ∙ ap held slots ∙ also)

    -- and an empty slot has no word of a held one
    pub empty_apart : (u w : Word) → IsWord t.table u → held (record_of u) ≡ None → IsWord t.lay w → IsHeld t held (record_of w) → ¬ (table_place t w ≡ place t.table u)
    empty_apart u w i none j is e = absurd (let d : None ≡ Some (record_of w) = sym none ∙ ap held (sym (ap record_of same) ∙ slot_record t w) ∙ is in cc)
      where
        same : slot_word t w ≡ u
        same = place_apart t.table (slot_word t w) u (held_inside w j is) i e

-- the word of a record that the word of its slot stands for
pub record WordOfSlot (t : Lasting) (x : Record) (w : Word) : Type 0 where
  pub word : Word
  pub is_word : IsWord t.lay word
  pub record_is : record_of word ≡ x
  pub slot_is : slot_word t word ≡ w

module _ (t : Lasting) (fit : IsLasting t) where
  pub name_record : (slot x : Record) → IsNameOf t slot x → IsRecord t.lay x
  name_record slot x name = go x name.name
    where
      go : (y : Record) → IsFirstRecord t.lay y ⊎ ((o : ℕ) × (o < t.lay.passes) × IsOwnName t o y) → IsRecord t.lay y
      go (the_node n) (inl first) = omega (arith, first)
      go (the_scx s) (inl first) = omega (arith, first)
      go (the_node n) (inr own) = own_node_inside t.lay own.0 n own.1 own.2.0
      go (the_scx s) (inr own) = own_scx_inside t.lay own.0 s own.1 own.2.0

  pub word_of_slot : (x : Record) (w : Word) → IsWord t.table w → IsRecord t.lay x → record_of w ≡ slot_of t x → WordOfSlot t x w
  word_of_slot (the_node n) (Node m part) i inside e = record { word = node n part; is_word = inside; record_is = refl; slot_is = λ j. node (number_of (sym e j)) part }
  word_of_slot (the_scx s) (Scx u part) i inside e = record { word = scx s part; is_word = (inside, i.1); record_is = refl; slot_is = λ j. scx (number_of (sym e j)) part }
  word_of_slot (the_node n) (Scx u part) i inside e = absurd (let d : the_scx u.0 ≡ the_node (n % t.node_turn) = e in cc)
  word_of_slot (the_scx s) (Node m part) i inside e = absurd (let d : the_node m.0 ≡ the_scx (s % t.scx_turn) = e in cc)

-- The names of a pass's laps

-- how a number of a lap splits
split_share : (first o share laps turn all lap i : ℕ) → all ≡ share + laps * turn → first + o * all + (lap * turn + i) ≡ (first + o * share + i) + (o * laps + lap) * turn
split_share first o share laps turn all lap i e = rw e (grind arith)

-- so it has the slot that it has in the first lap
lap_slot : (first o share laps turn all lap i : ℕ) → all ≡ share + laps * turn → first + o * share + i < turn → (first + o * all + (lap * turn + i)) % turn ≡ first + o * share + i
lap_slot first o share laps turn all lap i e small =
    ap (λ k. k % turn) (split_share first o share laps turn all lap i e)
    ∙ add-mul-mod_self_right (first + o * share + i) (o * laps + lap) turn
    ∙ mod-eq_of_lt small

-- and it is in the share
lap_below : (share laps turn all lap i : ℕ) → all ≡ share + laps * turn → lap ≤ laps → i < share → lap * turn + i < all
lap_below share laps turn all lap i e few small = let some : lap * turn ≤ laps * turn = mul-le-mul_right turn few in omega (arith, e, some, small)

module _ (t : Lasting) (fit : IsLasting t) (o lap i : ℕ) (is_pass : o < t.lay.passes) (few : lap ≤ t.laps) where
  module _ (small : i < t.table.nodes) where
    node_place : IsOwnNode t.table o (first_node t.table o + i)
    node_place = record { from = omega arith; below = omega (arith, small) }

    node_room : first_node t.table o + i < t.node_turn
    node_room = let room = fit.node_room in let inside = own_node_inside t.table o (first_node t.table o + i) (rw fit.passes at is_pass) node_place in omega (arith, room, inside)

    node_slot : (first_node t.lay o + (lap * t.node_turn + i)) % t.node_turn ≡ first_node t.table o + i
    node_slot = ap (λ k. (k + o * t.lay.nodes + (lap * t.node_turn + i)) % t.node_turn) (same_start t fit) ∙ lap_slot (opening_nodes t.table) o t.table.nodes t.laps t.node_turn t.lay.nodes lap i fit.nodes node_room

    pub node_lap : IsOwnName t o (the_node (first_node t.lay o + (lap * t.node_turn + i))) × (slot_of t (the_node (first_node t.lay o + (lap * t.node_turn + i))) ≡ the_node (first_node t.table o + i))
    node_lap = (
      (
        record { from = omega arith; below = let below = lap_below t.table.nodes t.laps t.node_turn t.lay.nodes lap i fit.nodes few small in omega (arith, below) },
        subst (IsOwnNode t.table o) (sym node_slot) node_place,
      ),
      ap the_node node_slot,
    )

  module _ (small : i < t.table.scx) where
    scx_place : IsOwnScx t.table o (first_scx t.table o + i)
    scx_place = record { from = omega arith; below = omega (arith, small) }

    scx_room : first_scx t.table o + i < t.scx_turn
    scx_room = let room = fit.scx_room in let inside = own_scx_inside t.table o (first_scx t.table o + i) (rw fit.passes at is_pass) scx_place in omega (arith, room, inside)

    scx_slot : (first_scx t.lay o + (lap * t.scx_turn + i)) % t.scx_turn ≡ first_scx t.table o + i
    scx_slot = lap_slot 1 o t.table.scx t.laps t.scx_turn t.lay.scx lap i fit.scx scx_room

    pub scx_lap : IsOwnName t o (the_scx (first_scx t.lay o + (lap * t.scx_turn + i))) × (slot_of t (the_scx (first_scx t.lay o + (lap * t.scx_turn + i))) ≡ the_scx (first_scx t.table o + i))
    scx_lap = (
      (
        record { from = omega arith; below = let below = lap_below t.table.scx t.laps t.scx_turn t.lay.scx lap i fit.scx few small in omega (arith, below) },
        subst (IsOwnScx t.table o) (sym scx_slot) scx_place,
      ),
      ap the_scx scx_slot,
    )
