-- A table whose records come back: that its names fit, and that each of their words has a place.
use Rattle.std.proofs.Common.{◌≡◌, ◌<◌, ◌≤◌, ◌⊎◌, ◌+◌, ◌-◌, ◌*◌, ◌%◌, ◌^◌, ℕ, true, Option, Some, inl, inr, refl, sym, subst, arith, min}
use Rattle.std.proofs.Math.Nat.{le-mul_of_pos_right, min-eq_left, mod-lt}
use Rattle.std.proofs.Math.Pow.{pow_mono}
use Rattle.std.proofs.lemmas.Nat.{leading_length, pow-add, pow_pos}
use Rattle.std.specs.Int.Count.{leading_unique}
use lib.Count.{count_leading_zeros}
use Rattle.atomic_table.specs.Seated.{TableId}
use Rattle.arena.specs.Opening.{node_size}
use Rattle.arena.specs.Words.{IsScxWord, node_place, scx_place}
use Rattle.arena.specs.declared.limits.Mode.TheVariants.{Tree, Trie, Records}
use Rattle.arena.specs.declared.word.NodeWord.{NodeWord}
use Rattle.arena.specs.declared.word.ScxWord.{ScxWord}
use Rattle.histories.specs.Common.{History, IsRun, Lawful, Layout, Mode, Opened, Shaped, Opening, Word, Node, Scx, IsWord, all_nodes, all_scx, first_node, first_scx}
use Rattle.arena.specs.Share.{whole_share}
use Rattle.arena.specs.Openings.{empty}
use Rattle.ordered_map.proofs.Lemmas.{none_edited}
use Rattle.ordered_map.specs.Planted.{IsPlanted}
use Rattle.dict.specs.Typed.{TypedAllows}
use Rattle.prims.proofs.Lemmas.{none_taken, whole_untouched}
use Rattle.prims.specs.Shares.{IsShare, share_end}
use Rattle.slots.specs.Lasting.{IsLasting, Lasting, table_place}
use Rattle.tables.specs.LastingOpening.{first_memory}
use Rattle.tables.specs.LastingTables.{HasWordsFor, MayTakeTurns, first_share}
use Rattle.tables.specs.Shares.{EndsAsDealt, HasFewNames, IsBetweenCalls}
use Rattle.tables.specs.Slotted.{in_turns, names_for, slots_by}
use Rattle.tables.specs.TablePlans.{HasMasks, IsTableOf}
use Rattle.tables.specs.declared.rule.Site.{Site}
use Rattle.tables.specs.declared.rule.Turns.{Turns}
use Rattle.tables.specs.declared.table_plan.TablePlan.{TablePlan}

-- the digits of a number tell those below it apart, and one digit fewer does not
pub bits_enough : (count k : ℕ) → k ≤ 32 → count < 2 ^ k → (let bits : ℕ = 32 - count_leading_zeros 32 count in (count ≤ 2 ^ bits) × (2 ^ bits ≤ 2 * count + 1) × (bits ≤ k))
bits_enough count k few less =
    let t = leading_length k count less in
    let same : 32 - t.0 ≡ count_leading_zeros 32 count = leading_unique 32 count (32 - t.0) t.0 (omega (arith, few, t.1)) t.2 t.3 in
    let bits : 32 - count_leading_zeros 32 count ≡ t.0 = omega (arith, few, same, t.1) in
    (rw bits (omega (arith, t.2)), rw bits t.3, omega (arith, bits, t.1))

-- that many laps of the wider turns, or of others, are numbers that fit
laps_fit : (a m : ℕ) → a ≤ m → m ≤ 29 → 2 ^ (49 - m) * 2 ^ a ≤ 2 ^ 49
laps_fit a m less few = subst (λ k. k ≤ 2 ^ 49) (pow-add 2 (49 - m) a) (pow_mono {j = 49} (omega (arith, less, few)))

pub turns_fit : (lay : Layout) (nodes scx most laps : ℕ) → all_nodes lay ≤ 2 ^ nodes → all_scx lay ≤ 2 ^ scx → nodes ≤ 26 → scx ≤ 29 → nodes ≤ most → scx ≤ most → most ≤ 29 → laps ≡ 2 ^ (49 - most) → MayTakeTurns lay record { node_bits = nodes; scx_bits = scx; laps = laps }
turns_fit lay nodes scx most laps node_room scx_room few_nodes few_scx under_nodes under_scx few are = record {
  nodes = node_room;
  scx = scx_room;
  node_bits = few_nodes;
  scx_bits = few_scx;
  node_names = rw are (laps_fit nodes most under_nodes few);
  scx_names = rw are (laps_fit scx most under_scx few);
  many = rw are (pow_mono {i = 20} (omega (arith, few)));
}

-- a pass has as many names as its slots and laps give: that is no number that is too high
names_are_all : (slots more : ℕ) → slots ≤ 32768 → more ≤ 2 ^ 49 → min (slots + more) (2 ^ 50) ≡ slots + more
names_are_all slots more few less = min-eq_left (omega (arith, few, less))

module _ (lay : Layout) (t : Turns) (few : HasFewNames lay) (may : MayTakeTurns lay t) where
  pub node_names_are : names_for lay.nodes t.laps (2 ^ t.node_bits) ≡ lay.nodes + t.laps * 2 ^ t.node_bits
  node_names_are = names_are_all lay.nodes (t.laps * 2 ^ t.node_bits) few.0 may.node_names

  pub scx_names_are : names_for lay.scx t.laps (2 ^ t.scx_bits) ≡ lay.scx + t.laps * 2 ^ t.scx_bits
  scx_names_are = names_are_all lay.scx (t.laps * 2 ^ t.scx_bits) few.1 may.scx_names

  -- so it is a table that lasts
  pub lasts_in_turns : IsLasting (in_turns lay t)
  lasts_in_turns = record { mode = refl; passes = refl; planted = refl; nodes = node_names_are; scx = scx_names_are; node_room = may.nodes; scx_room = may.scx }

  -- and it has more names than any in which none comes back
  pub many_names : ¬ HasFewNames (in_turns lay t).lay
  many_names none =
      let least = le-mul_of_pos_right t.laps (pow_pos t.node_bits) in
      let many = may.many in
      let all : lay.nodes + t.laps * 2 ^ t.node_bits ≤ 32768 = subst (λ n. n ≤ 32768) node_names_are none.0 in
      omega (arith, least, many, all)

-- a node's words are within what its slot has, and so are those of an SCX-record
node_within : (mode : Mode) (part : NodeWord) → node_place part < node_size mode
node_within Tree part = grind arith
node_within Trie part = grind arith
node_within Records part = grind arith

scx_within : (part : ScxWord) → IsScxWord part → scx_place part < 14
scx_within part is = grind arith

times_less : (a k turn : ℕ) → k < turn → a * k + a ≤ a * turn
times_less a k turn less = grind arith

-- each word of a record that has a name is one of so many
inside_turns : (lay : Layout) (t : Turns) (words : ℕ) → HasWordsFor lay t words → (w : Word) → IsWord (in_turns lay t).lay w → table_place (in_turns lay t) w < words
inside_turns lay t words room (Node n part) i =
    let turn = mod-lt n.0 (pow_pos t.node_bits) in
    let below = times_less (node_size lay.mode) (n.0 % 2 ^ t.node_bits) (2 ^ t.node_bits) turn in
    let within = node_within lay.mode part in
    let enough = room.nodes in
    omega (arith, below, within, enough)
inside_turns lay t words room (Scx s part) i =
    let turn = mod-lt s.0 (pow_pos t.scx_bits) in
    let within = scx_within part i.1 in
    let enough = room.scx in
    omega (arith, turn, within, enough)

-- So the words lie as a plan says that has the masks of these bits.
pub turned_table : (id : TableId) (site : Site) (t : Turns) → site.turns ≡ Some t → MayTakeTurns site.layout t → HasWordsFor site.layout t id.words → IsTableOf site.layout.mode true id site record { layout = site.layout; node_mask = 2 ^ t.node_bits - 1; scx_mask = 2 ^ t.scx_bits - 1 }
turned_table id site t turns may room = record {
  mode_is = refl;
  layout = refl;
  masks = subst (λ (o : Option Turns). HasMasks true o plan) (sym turns) (may.node_bits, refl, refl);
  inside = subst (λ (o : Option Turns). (w : Word) → IsWord (slots_by site.layout o).lay w → table_place (slots_by site.layout o) w < id.words) (sym turns) (inside_turns site.layout t id.words room);
  few = room.few;
}
  where
    plan : TablePlan
    plan = record { layout = site.layout; node_mask = 2 ^ t.node_bits - 1; scx_mask = 2 ^ t.scx_bits - 1 }

-- At the start a pass that has its names of the first lap is at rest.
pub begins_in_turns : (lay : Layout) (t : Turns) (o : Opening) (c : ℕ) → HasFewNames lay → MayTakeTurns lay t → Lawful (in_turns lay t).lay (Opened o) → IsBetweenCalls (in_turns lay t).lay c (Opened o) (first_share (in_turns lay t) c)
begins_in_turns lay t o c few may lawful = record {
  share = record {
    from_node = omega arith;
    to_node = (let all = node_names_are lay t few may in omega (arith, all));
    from_scx = omega arith;
    to_scx = (let all = scx_names_are lay t few may in omega (arith, all));
    taken_nodes = whole.taken_nodes;
    taken_scx = whole.taken_scx;
    unmentioned = whole.unmentioned;
    untaken_nodes = whole.untaken_nodes;
    untaken = whole.untaken;
  };
  upper = λ none. absurd (many_names lay t few may none);
  over = λ s own d taken. absurd (none_taken o s taken);
}
  where
    whole : IsShare (in_turns lay t).lay (Opened o) c (whole_share (in_turns lay t).lay c) (first_node (in_turns lay t).lay c) (first_scx (in_turns lay t).lay c)
    whole = whole_untouched (in_turns lay t).lay o c lawful

-- what it has ends where the names end that are dealt
pub ends_as_dealt : (t : Lasting) (c : ℕ) → EndsAsDealt (first_share t c) (first_memory t c)
unfolding share_end
ends_as_dealt t c = refl

-- What is planted in a table has the same shape over the layout of its names: that is of the table's
-- mode, with as many planted nodes.
planted_in_turns : (lay : Layout) (t : Turns) (h : History) (s : ℕ) → IsPlanted lay h s → IsPlanted (in_turns lay t).lay h s
planted_in_turns lay t h s x = record {
  dummy = x.dummy;
  tree = x.tree;
  is_tree = x.is_tree;
  items = x.items;
  ends_low = x.ends_low;
  whole = x.whole;
  there = x.there;
  root = x.root;
  last = x.last;
  right = x.right;
  blank = x.blank;
  deep = x.deep;
  forks = x.forks;
}

pub opening_in_turns : (keys values : ℕ → Type 0) (lay : Layout) (t : Turns) (o : Opening) → IsRun (TypedAllows keys values) lay (Opened o) → IsRun (TypedAllows keys values) (in_turns lay t).lay (Opened o)
unfolding Lawful Shaped
opening_in_turns keys values lay t o run = record { lawful = run.lawful; shaped = go run.shaped }
  where
    go : (o ≡ empty o.mode) ⊎ TypedAllows keys values lay (Opened o) 0 → (o ≡ empty o.mode) ⊎ TypedAllows keys values (in_turns lay t).lay (Opened o) 0
    go (inl e) = inl e
    go (inr (inl x)) = absurd (none_edited lay o x.0 x.1)
    go (inr (inr x)) = inr (inr (planted_in_turns lay t (Opened o) 0 x.0, x.1))
