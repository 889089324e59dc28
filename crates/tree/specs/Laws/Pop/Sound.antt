-- What a pop of a trie looks at, reads and fills, and that it makes the edit.
use Rattle.std.proofs.Common.{◌≡◌, ℕ, suc, ◌<◌, inr, Bool, true, false, ne_eqb, lt-ltb, cond, if◌then◌else◌, List, [], ◌∷◌, ◌++◌, length, Some, None, refl, sym, ◌∙◌, ap, subst, arith}
use Rattle.std.proofs.Common.{unwrap_or, ltb-true}
use Rattle.std.proofs.Math.Decide.{dec_lt}
use Rattle.histories.specs.Common.{NodeNo, ScxNo, Child, Side, IsInField, head_of, Row, History, ◌⊳◌, value, Extends, IsWin, IsMember, Call, IsPlan, count, count_of, member, child, Descriptor}
use Rattle.arena.proofs.Lemmas.{ends_self}
use Rattle.prims.specs.Laws.Idle.{IsQuietSince}
use Rattle.prims.specs.Laws.Linked.{IsLinked, in_field_named}
use Rattle.template.specs.Common.{IsUpdateOver, Job, Says, child_of, snap_at, Snap, Update, Delete as TakeEdit}
use Rattle.template.specs.Common.{delete, WasInTree, IsMapRun, edit_leaf, class, is_leaf, opposite, toward, HasFoundLeaf, IsPromised, HasTurned, Key as ToKey, End, IsContended, WasNotFinal}
use Rattle.ordered_map.specs.EditPlans.{end_join_plan, end_leaf_plan}
use Rattle.ordered_map.specs.Edits.{IsSwapBy}
use Rattle.ordered_map.specs.Paths.{HasHadChild}
use Rattle.ordered_map.proofs.Lemmas.{leaf_taken_at_end, settled_toward}
use Rattle.ordered_map.proofs.MapLemmas.{run_since, stood_settled, walked_stood}
use Rattle.template.specs.FreshNodes.{IsEndJoinAt, IsEndLeafEditAt, FitsThere, HasFreshCopy}
use Rattle.template.specs.Promises.{IsSnapOf}
use Rattle.template.specs.Trails.{IsSurelyOn}
use Rattle.template.specs.declared.walk.Found.{Found}
use Rattle.template.specs.declared.walk.Way.TheVariants.{InTree, InTrie}
use Rattle.template.proofs.Lemmas.{end_edit_promised, end_join_promised, join_fits_there, swap_fits_there}
use Rattle.tree.specs.LeafEdit.{leaf_looks, leaf_reads}
use Rattle.tree.specs.declared.pop.PopPair.{PopPair}
use Rattle.tree.specs.declared.take.TakePair.{TakePair}
use Rattle.tree.specs.Pop.Laws.{pop_bounds}
use Rattle.tree.specs.Pop.Means.{end_looks, pop_means, pop_plan, pop_reads, pop_work}
use Rattle.tree.specs.Take.Means.{has_more, sibling_copy, take_plan, take_work, work_by}
use Rattle.tree.specs.Laws.LeafLooks.{HasBoth, IsCovering, class_is, covering_leaf, field_shown, has_both, leaf_begins, leaf_differs, leaf_stood, leaf_there}
use Rattle.tree.specs.Laws.Pop.Looks.{HasThree, end_differs, end_not_final, end_there, has_three, still_needed}
use Rattle.tree.specs.Laws.Pop.Three.{all_apart, both_apart, covers_many, covers_member, covers_shown, end_begins, end_join_first, end_join_planned, end_leaf_first, end_leaf_planned, guard_long, guard_there, linked_at, parent_used, sibling_there, still_there, used_at, with_guard}
use Rattle.tree.specs.Laws.Put.Stands.{found_leaf}
use Rattle.tree.specs.Laws.Take.Made.{fresh_copy, fresh_swap}
use Rattle.tree.specs.Laws.Take.Sound.{LooksToTake, copy_fields, grand_on, grand_turned, key_there, low_there, parent_on, parent_turned, take_usable}
use Rattle.edits.specs.declared.edit.Look.TheVariants.{At, Differs, Enough}
use Rattle.edits.specs.declared.edit.Nodes.{Nodes}
use Rattle.edits.specs.declared.edit.Nth.TheVariants.{First}
use Rattle.edits.specs.declared.piece.Piece.TheVariants.{Leaf}
use Rattle.edits.specs.declared.reading.Reading.{Reading}
use Rattle.edits.specs.Known.{HasFilledAll, HasLooked, HasSnappedAfterWalk, HoldsPiece, MayRead, covered}
use Rattle.edits.specs.Laws.PieceFills.{the_same}
use Rattle.edits.specs.Pieces.{is_filled, top_of, update_for, word_of}
use Rattle.edits.specs.Readings.{nothing_read}
use Rattle.edits.specs.Tries.{CoversSnaps}
use Rattle.edits.specs.Sound.{EditLaws, FillsWell, LooksWell, MakesWell}

-- a delete of the same key
abbrev pub taking_it : PopPair → TakePair
taking_it e = record { key = e.key; trie = true }

-- its plan is that of one of these
plan_is : (f : Found) → 0 < (pop_work f).need → (b : Bool) → has_more f ≡ b → (pop_work f).plan.0 ≡ cond b (end_leaf_plan f.trail.side) (end_join_plan f.trail.grand_side)
plan_is f d b t = ap (λ o. (work_by o (pop_plan f)).plan.0) (key_there f.value (pop_plan f) d).1 ∙ ap (λ q. cond q (end_leaf_plan f.trail.side) (end_join_plan f.trail.grand_side)) t

-- where the leaf has more than the pair, it looks as an edit of that leaf does
looked_leaf : (e : PopPair) (c : Call) (h : History) (f : Found) (snaps : List Snap) → has_more f ≡ true → HasLooked pop_means c h e f snaps → LooksToTake (λ g. leaf_looks g f.trail.node) c h e.key f snaps
looked_leaf e c h f snaps t x = record { small = x.small; found = x.found; usable = take_usable true e.key c h f snaps x.usable; seen = λ i p. rw t at (x.seen i p) }

-- and else to take it out
pub looked_end : (e : PopPair) (c : Call) (h : History) (f : Found) (snaps : List Snap) → has_more f ≡ false → HasLooked pop_means c h e f snaps → LooksToTake end_looks c h e.key f snaps
looked_end e c h f snaps t x = record { small = x.small; found = x.found; usable = take_usable true e.key c h f snaps x.usable; seen = λ i p. rw t at (x.seen i p) }

module _ (e : PopPair) (c : Call) (h : History) (f : Found) (snaps : List Snap) (run : IsMapRun c.layout h) (d : 0 < (pop_work f).need) (x : HasLooked pop_means c h e f snaps) where
  abbrev ed : TakePair
  ed = taking_it e

  needed : 0 < (take_work f).need
  needed = still_needed f.value (pop_plan f) (take_plan f) d

  pop_covering : IsCovering e.key c h f f.trail.node
  pop_covering = covering_leaf e.key c h f run x.found (parent_on ed c h f run needed x.small x.found)

  pop_low : f.head.class ≡ 0
  pop_low = low_there e.key c h f needed x.found

  pop_both : (if true then leaf_looks f f.trail.node snaps else end_looks f snaps) ≡ Enough → has_more f ≡ true → HasBoth f f.trail.node snaps
  pop_both enough t = has_both f f.trail.node snaps enough (looked_leaf e c h f snaps t x).seen

  pop_three : end_looks f snaps ≡ Enough → has_more f ≡ false → HasThree f snaps
  pop_three enough t = has_three f snaps enough (looked_end e c h f snaps t x).seen

  -- What it looks at

  pop_there : (n : NodeNo) (b : Bool) → has_more f ≡ b → (if b then leaf_looks f f.trail.node snaps else end_looks f snaps) ≡ At n → WasInTree h n.0
  pop_there n true t at = leaf_there e.key c h f f.trail.node snaps run pop_covering n at
  pop_there n false t at = end_there ed c h f run needed snaps n (looked_end e c h f snaps t x) at

  pop_stood : (n : NodeNo) (b : Bool) → has_more f ≡ b → (if b then leaf_looks f f.trail.node snaps else end_looks f snaps) ≡ At n → WasNotFinal c h n.0
  pop_stood n true t at = leaf_stood e.key c h f f.trail.node snaps run pop_covering n at
  pop_stood n false t at = end_not_final ed c h f run needed snaps n (looked_end e c h f snaps t x) at

  pop_differs : (n : NodeNo) (s : ScxNo) → IsQuietSince c.layout c.pass c.start h → (b : Bool) → has_more f ≡ b → (if b then leaf_looks f f.trail.node snaps else end_looks f snaps) ≡ Differs n s → IsContended c h n.0 s.0
  pop_differs n s quiet true t at = leaf_differs e.key c h InTrie f f.trail.node snaps n s run (record { small = x.small; may = x.may; found = x.found; usable = x.usable; seen = λ i p. rw t at (x.seen i p) }) at quiet
  pop_differs n s quiet false t at = end_differs ed c h f run needed snaps n s (looked_end e c h f snaps t x) at quiet

  pop_reads_well : (b : Bool) → has_more f ≡ b → (if b then leaf_looks f f.trail.node snaps else end_looks f snaps) ≡ Enough → let y : NodeNo × Reading = (if b then leaf_reads f else ((snap_at snaps 2).node, nothing_read)) in MayRead c.layout h y.0.0 y.1
  pop_reads_well true t enough = leaf_begins e.key c h f run x.found pop_low
  pop_reads_well false t enough = end_begins ed c h f snaps run needed (pop_three enough t) (looked_end e c h f snaps t x)

  -- What it covers

  module _ (guard : Snap) (ns : Nodes) where
    pop_over : guard.node.0 ≡ 2 → (b : Bool) → has_more f ≡ b → (if b then leaf_looks f f.trail.node snaps else end_looks f snaps) ≡ Enough → IsUpdateOver (update_for (pop_work f) (with_guard snaps guard) ns)
    pop_over two true t enough =
        let both : HasBoth f f.trail.node snaps = pop_both enough t in
        record {
          planned = subst IsPlan (sym (plan_is f d true t)) (end_leaf_planned f.trail.side).0;
          count = ap count_of (plan_is f d true t) ∙ (end_leaf_planned f.trail.side).1 ∙ sym (guard_long snaps guard 2 both.two);
          distinct = both_apart e.key c h f snaps guard run pop_covering (class_is e.key c h f run x.found pop_low) both two;
          old = refl;
        }
    pop_over two false t enough =
        let three : HasThree f snaps = pop_three enough t in
        record {
          planned = subst IsPlan (sym (plan_is f d false t)) (end_join_planned f.trail.grand_side).0;
          count = ap count_of (plan_is f d false t) ∙ (end_join_planned f.trail.grand_side).1 ∙ sym (guard_long snaps guard 3 three.three);
          distinct = all_apart ed c h f snaps run needed three (looked_end e c h f snaps t x) guard two;
          old = refl;
        }

    -- Just before it wins

    module _ (k : History) (row : Row) (s : ℕ) (later : IsMapRun c.layout (row ⊳ k)) (win : IsWin k row s) (since : Extends k h) (covers : CoversSnaps k s (update_for (pop_work f) (with_guard snaps guard) ns)) where
      -- the leaf is still its parent's child
      leaf_holds : (i many : ℕ) → i < many → length snaps ≡ many → HasSnappedAfterWalk c h InTree (ToKey e.key) f (snap_at snaps i) → (snap_at snaps i).node.0 ≡ f.trail.parent.0 → (child_of (snap_at snaps i) f.trail.side).0 ≡ f.trail.node.0 → value k (child f.trail.parent.0 f.trail.side) ≡ f.trail.node.0
      leaf_holds i many p long u is shows =
          subst (λ n. value k (child n f.trail.side) ≡ f.trail.node.0) is
          (covers_shown snaps guard many long (pop_work f) ns k s covers c h row e.key i f f.trail.side later win since p u ∙ shows)

      is_member : (i many : ℕ) → i < many → length snaps ≡ many → (snap_at snaps i).node.0 ≡ f.trail.parent.0 → IsMember k s f.trail.parent.0
      is_member i many p long is = record {
        index = i;
        within = let l : count k s ≡ suc many = covers_many snaps guard many long (pop_work f) ns k s covers in omega (arith, l, p);
        is = covers_member snaps guard many long (pop_work f) ns k s covers i p ∙ is;
      }

      pop_ends : (b : Bool) → has_more f ≡ b → (if b then leaf_looks f f.trail.node snaps else end_looks f snaps) ≡ Enough → IsMember k s f.trail.parent.0 × (value k (child f.trail.parent.0 f.trail.side) ≡ f.trail.node.0)
      pop_ends true t enough =
          let both : HasBoth f f.trail.node snaps = pop_both enough t in
          (is_member 0 2 (omega arith) both.two both.parent, leaf_holds 0 2 (omega arith) both.two ((looked_leaf e c h f snaps t x).usable 0 (let l = both.two in omega (arith, l))) both.parent both.child)
      pop_ends false t enough =
          let three : HasThree f snaps = pop_three enough t in
          (is_member 1 3 (omega arith) three.three three.parent, leaf_holds 1 3 (omega arith) three.three (parent_used ed c h f snaps run needed three (looked_end e c h f snaps t x)) three.parent three.child)

      -- and what stands for it is that
      is_covered : f.trail.node.0 ≡ covered f
      is_covered = sym (rw (found_leaf e.key c h f x.found) refl)

      turned : HasTurned c h e.key f.trail.parent.0 f.trail.side f.trail.node.0
      turned = parent_turned ed c h f run needed h run x.found

      stood : WasInTree h f.trail.parent.0
      stood = walked_stood c.layout h turned.passed.first e.key f.trail.parent.0 turned.passed.passed

      side_is : toward (value k) f.trail.parent.0 e.key ≡ f.trail.side
      side_is = settled_toward (value h) (value k) f.trail.parent.0 e.key (stood_settled c.layout k h f.trail.parent.0 (run_since c.layout (row ⊳ k) k later (inr (ends_self k))) since stood) ∙ turned.side_is

      pop_covered : (b : Bool) → has_more f ≡ b → (if b then leaf_looks f f.trail.node snaps else end_looks f snaps) ≡ Enough → edit_leaf k s (TakeEdit e.key) ≡ covered f
      pop_covered true t enough =
          let both : HasBoth f f.trail.node snaps = pop_both enough t in
          let many : count k s ≡ 3 = covers_many snaps guard 2 both.two (pop_work f) ns k s covers in
          rw (ne_eqb (count k s) 4 (λ four. omega (arith, many, four))) (covers_member snaps guard 2 both.two (pop_work f) ns k s covers 1 (omega arith) ∙ both.leaf ∙ is_covered)
      pop_covered false t enough =
          let three : HasThree f snaps = pop_three enough t in
          let parent : member k s 1 ≡ f.trail.parent.0 = covers_member snaps guard 3 three.three (pop_work f) ns k s covers 1 (omega arith) ∙ three.parent in
          leaf_taken_at_end k s (TakeEdit e.key) f.trail.grand_side (covers.planned ∙ plan_is f d false t)
          ∙ ap (λ n. value k (child n (toward (value k) n e.key))) parent
          ∙ ap (λ side. value k (child f.trail.parent.0 side)) side_is
          ∙ (pop_ends false t enough).1
          ∙ is_covered

-- its nodes were in the trie, and not final, what it reads may be read, and where a fork has
-- another child its last SCX-record was in the way
pub pop_look : LooksWell pop_means
pop_look = record {
  there = λ e c h f snaps n run d x at. pop_there e c h f snaps run d x n (has_more f) refl at;
  stood = λ e c h f snaps n run d x at. pop_stood e c h f snaps run d x n (has_more f) refl at;
  differs = λ e c h f snaps n s run d x at quiet. pop_differs e c h f snaps run d x n s quiet (has_more f) refl at;
  reads = λ e c h f snaps y run d x enough is. subst (λ (z : NodeNo × Reading). MayRead c.layout h z.0.0 z.1) (the_same (pop_reads f snaps) y is) (pop_reads_well e c h f snaps run d x (has_more f) refl enough);
}

-- What it fills

-- the fields of its copy hold what the sibling's have held
end_fields : (e : PopPair) (c : Call) (h : History) (f : Found) (snaps : List Snap) (read : Reading) (side : Side) → IsMapRun c.layout h → 0 < (take_work f).need → HasThree f snaps → LooksToTake end_looks c h e.key f snaps → is_filled (sibling_copy (snap_at snaps 2) read) (Child side) ≡ true → IsInField c.layout h (word_of (sibling_copy (snap_at snaps 2) read) (Child side))
end_fields e c h f snaps read side run needs three x p =
    let s : Snap = snap_at snaps 2 in
    let l : IsLinked c.layout h s = linked_at (taking_it e) c h f snaps run needs three x 2 (omega arith) in
    subst (IsInField c.layout h) (copy_fields s (unwrap_or read.head (head_of 0)) read side p) (inr (s.node.0, side, in_field_named s.node.0 l.in_field, l.had side))

pop_fields : (e : PopPair) (c : Call) (h : History) (f : Found) (snaps : List Snap) (read : Reading) (side : Side) → IsMapRun c.layout h → 0 < (take_work f).need → HasLooked pop_means c h e f snaps → (b : Bool) → has_more f ≡ b → (if b then leaf_looks f f.trail.node snaps else end_looks f snaps) ≡ Enough
    → is_filled (if b then Leaf f.head.level 0 (delete e.key read.pairs) else sibling_copy (snap_at snaps 2) read) (Child side) ≡ true → IsInField c.layout h (word_of (if b then Leaf f.head.level 0 (delete e.key read.pairs) else sibling_copy (snap_at snaps 2) read) (Child side))
pop_fields e c h f snaps read side run needs x true t enough p = absurd (let z : false ≡ true = p in cc)
pop_fields e c h f snaps read side run needs x false t enough p =
    let y : LooksToTake end_looks c h e.key f snaps = looked_end e c h f snaps t x in
    end_fields e c h f snaps read side run needs (has_three f snaps enough y.seen) y p

pub pop_fills : FillsWell pop_means
pop_fills = record { fields = λ e c h f snaps ns read nth side run x enough n p. inr (pop_fields e c h f snaps read side run (still_needed f.value (pop_plan f) (take_plan f) (omega (arith, n))) x (has_more f) refl enough p) }

-- What it makes

module _ (e : PopPair) (c : Call) (h : History) (f : Found) (snaps : List Snap) (guard : Snap) (ns : Nodes) (read : Reading) (run : IsMapRun c.layout h) (d : 0 < (pop_work f).need) (x : HasFilledAll pop_means c h e f snaps ns read) (is_two : guard.node.0 ≡ 2) where
  abbrev it : TakePair
  it = taking_it e

  abbrev all : List Snap
  all = snaps ++ guard ∷ []

  abbrev n_node : ℕ
  n_node = ns.first.0

  found : HasFoundLeaf c h e.key f
  found = x.looked.found

  does : 0 < (take_work f).need
  does = needed e c h f snaps run d x.looked

  present : (old : ℕ) × (f.value ≡ Some old)
  present = key_there f.value (pop_plan f) d

  low : f.head.class ≡ 0
  low = pop_low e c h f snaps run d x.looked

  top : top_of (pop_work f).need ns ≡ n_node
  top = ap (λ o. top_of (work_by o (pop_plan f)).need ns) present.1

  -- its SCX-record
  module _ (j : Job) (w : Descriptor) (is : j.update ≡ update_for (pop_work f) all ns) (says : Says w j) (many : ℕ) (long : length snaps ≡ many) where
    longer : length j.update.snaps ≡ suc many
    longer = ap (λ (u : Update). length u.snaps) is ∙ guard_long snaps guard many long

    at_snap : (i : ℕ) → i < many → snap_at j.update.snaps i ≡ snap_at snaps i
    at_snap i p = ap (λ (u : Update). snap_at u.snaps i) is ∙ still_there snaps guard many long i p

    has_member : (i : ℕ) → i < many → w.member i ≡ (snap_at snaps i).node.0
    has_member i p = says.member i (let l = longer in omega (arith, l, p)) ∙ ap (λ (t : Snap). t.node.0) (at_snap i p)

    has_seen : (i : ℕ) → i < many → w.seen i ≡ (snap_at snaps i).scx.0
    has_seen i p = says.seen i (let l = longer in omega (arith, l, p)) ∙ ap (λ (t : Snap). t.scx.0) (at_snap i p)

    has_guard : w.member many ≡ 2
    has_guard = says.member many (let l = longer in omega (arith, l)) ∙ ap (λ (u : Update). (snap_at u.snaps many).node.0) is ∙ ap (λ (t : Snap). t.node.0) (guard_there snaps guard many long) ∙ is_two

    has_plan : w.plan ≡ (pop_work f).plan.0
    has_plan = says.plan ∙ ap (λ (u : Update). u.plan.0) is

    has_old : w.old ≡ field_shown (pop_work f).plan.0 all
    has_old = says.old ∙ ap (λ (u : Update). u.old.0) is

    has_new : w.new ≡ n_node
    has_new = says.new ∙ ap (λ (u : Update). u.fresh.0) is ∙ top

    first_shown : 0 < many → (side : Side) → (child_of (snap_at all 0) side).0 ≡ (child_of (snap_at snaps 0) side).0
    first_shown p side = ap (λ (t : Snap). (child_of t side).0) (still_there snaps guard many long 0 p)

  -- the pair goes out of its leaf
  module _ (t : has_more f ≡ true) where
    both : HasBoth f f.trail.node snaps
    both = pop_both e c h f snaps run d x.looked (rw t at x.enough) t

    p : HoldsPiece c h n_node (Leaf f.head.level 0 (delete e.key read.pairs))
    p = rw t at (x.holds First d)

    swap : IsSwapBy (value h) (TakeEdit e.key) f.trail.node.0 n_node
    swap = fresh_swap e.key c h f read n_node run found low (ltb-true 0 f.more t) (rw t at x.right) x.whole p

    surely : IsSurelyOn c h e.key f.trail.parent.0
    surely = parent_on it c h f run does x.looked.small found

    leaf_words : (j : Job) (w : Descriptor) → j.update ≡ update_for (pop_work f) all ns → Says w j → IsEndLeafEditAt f w n_node
    leaf_words j w is says = record {
      plan = has_plan j w is says 2 both.two ∙ plan_is f d true t;
      parent = has_member j w is says 2 both.two 0 (omega arith) ∙ both.parent;
      leaf = has_member j w is says 2 both.two 1 (omega arith) ∙ both.leaf;
      guard = has_guard j w is says 2 both.two;
      old = has_old j w is says 2 both.two ∙ ap (λ q. field_shown q all) (plan_is f d true t) ∙ end_leaf_first f.trail.side all ∙ first_shown j w is says 2 both.two (omega arith) f.trail.side ∙ both.child;
      new = has_new j w is says 2 both.two;
    }

    leaf_promised : (j : Job) (w : Descriptor) → j.update ≡ update_for (pop_work f) all ns → Says w j → IsPromised c.layout c.pass h j.scx.0 w (TakeEdit e.key)
    leaf_promised j w is says = end_edit_promised c h j.scx.0 (TakeEdit e.key) f w n_node x.looked.may run x.looked.small found surely (leaf_words j w is says) p.fresh swap
        (swap_fits_there c h (TakeEdit e.key) f n_node run x.looked.small (parent_turned it c h f run does h run found) surely.stays swap)
        (λ z. let y : Some present.0 ≡ None = sym present.1 ∙ z in cc)

  -- or the leaf out of the trie
  module _ (t : has_more f ≡ false) where
    looked : LooksToTake end_looks c h e.key f snaps
    looked = looked_end e c h f snaps t x.looked

    three : HasThree f snaps
    three = pop_three e c h f snaps run d x.looked (rw t at x.enough) t

    abbrev sibling : Snap
    sibling = snap_at snaps 2

    abbrev z_node : ℕ
    z_node = sibling.node.0

    alone : f.more ≡ 0
    alone = go (dec_lt 0 f.more)
      where
        go : Dec (0 < f.more) → f.more ≡ 0
        go (yes l) = absurd (let y : true ≡ false = sym (lt-ltb 0 f.more l) ∙ t in cc)
        go (no n) = omega (arith, n)

    -- the copy
    copy : HasFreshCopy c.layout c.pass h sibling n_node
    copy = fresh_copy c h sibling read n_node run (sibling_there it c h f snaps run does three looked) (rw t at x.right) x.whole (rw t at (x.holds First d))

    -- it fits where the parent is
    turn : HasTurned c h e.key f.trail.parent.0 f.trail.side f.trail.node.0
    turn = parent_turned it c h f run does h run found

    beside : HasHadChild h f.trail.parent.0 (opposite (toward (value h) f.trail.parent.0 e.key)) z_node
    beside =
        let u = parent_used it c h f snaps run does three looked in
        let at : Side = opposite (toward (value h) f.trail.parent.0 e.key) in
        record {
          moment = u.moment;
          within = u.within;
          stood = subst (WasInTree u.moment) three.parent u.stood;
          held = ap (λ n. value u.moment (child n at)) (sym three.parent) ∙ u.is.linked.fields at u.is.info ∙ ap (λ s. (child_of (snap_at snaps 1) (opposite s)).0) turn.side_is ∙ sym three.sibling;
        }

    below_copy : is_leaf (value h) z_node ≡ false → (to : Side) → HasHadChild h z_node to (value h (child n_node to))
    below_copy fork to = let u = used_at it c h f snaps run does three looked 2 (omega arith) in record { moment = u.moment; within = u.within; stood = u.stood; held = u.is.linked.fields to u.is.info ∙ sym (copy.fields fork to) }

    fits_there : FitsThere c.layout h f.trail.grand.0 f.trail.grand_side n_node
    fits_there = join_fits_there c h (TakeEdit e.key) f z_node n_node run x.looked.small (grand_turned it c h f run does h run found) (grand_on it c h f run does x.looked.small found).stays turn.fork beside copy.copy below_copy

    end_words : (j : Job) (w : Descriptor) → j.update ≡ update_for (pop_work f) all ns → Says w j → IsEndJoinAt f w n_node
    end_words j w is says = record {
      plan = has_plan j w is says 3 three.three ∙ plan_is f d false t;
      grand = has_member j w is says 3 three.three 0 (omega arith) ∙ three.grand;
      parent = has_member j w is says 3 three.three 1 (omega arith) ∙ three.parent;
      guard = has_guard j w is says 3 three.three;
      old = has_old j w is says 3 three.three ∙ ap (λ q. field_shown q all) (plan_is f d false t) ∙ end_join_first f.trail.grand_side all ∙ first_shown j w is says 3 three.three (omega arith) f.trail.grand_side ∙ three.held;
      new = has_new j w is says 3 three.three;
    }

    snap_is : (j : Job) (w : Descriptor) → j.update ≡ update_for (pop_work f) all ns → Says w j → (i : ℕ) → i < 3 → IsSnapOf c.layout h w i (snap_at snaps i)
    snap_is j w is says i q = record { linked = linked_at it c h f snaps run does three looked i q; node = sym (has_member j w is says 3 three.three i q); scx = sym (has_seen j w is says 3 three.three i q) }

    end_promised : (j : Job) (w : Descriptor) → j.update ≡ update_for (pop_work f) all ns → Says w j → IsPromised c.layout c.pass h j.scx.0 w (TakeEdit e.key)
    end_promised j w is says = end_join_promised c h j.scx.0 e.key present.0 f w (snap_at snaps 1) sibling n_node x.looked.may run x.looked.small found present.1 alone (end_words j w is says) (snap_is j w is says 1 (omega arith)) three.child (snap_is j w is says 2 (omega arith)) (sym three.sibling) copy fits_there

  pop_is_promised : (j : Job) (w : Descriptor) → j.update ≡ update_for (pop_work f) all ns → Says w j → IsPromised c.layout c.pass h j.scx.0 w (TakeEdit e.key)
  pop_is_promised j w is says = go (has_more f) refl
    where
      go : (b : Bool) → has_more f ≡ b → IsPromised c.layout c.pass h j.scx.0 w (TakeEdit e.key)
      go true t = leaf_promised t j w is says
      go false t = end_promised t j w is says

-- its plan covers its nodes, and what it has filled is promised to take the key out
pub pop_makes : MakesWell pop_means
pop_makes = record {
  over = λ e c h f snaps guard ns run n x enough two. pop_over e c h f snaps run n x guard ns (two refl) (has_more f) refl enough;
  leaf = λ e c h f snaps guard ns s run n x enough k row later won since covers makes. pop_covered e c h f snaps run n x guard ns k row s later won since covers (has_more f) refl enough;
  ends = λ e c h f snaps guard ns s run n x enough is k row later won since covers. pop_ends e c h f snaps run n x guard ns k row s later won since covers (has_more f) refl enough;
  promised = λ e c h f snaps guard ns read j w run n x two is says. pop_is_promised e c h f snaps guard ns read run n x (two refl) j w is says;
}

-- a pop of a trie is an edit that an update can make
pub pop_laws : EditLaws pop_means
pop_laws = record { at_found = λ e f. refl; at_end = λ e side is. absurd (let z : ToKey e.key ≡ End side = is in cc); bounds = pop_bounds; looks = pop_look; fills = pop_fills; makes = pop_makes }
