-- The rule of a table that lasts holds of the words and the seat with which it opens.
use Rattle.std.proofs.Common.{◌≡◌, ◌+◌, ◌-◌, ◌%◌, ◌<◌, ◌≤◌, ◌++◌, ℕ, zero, suc, List, [], ◌∷◌, Some, ⊎_elim, refl, sym, ◌∙◌, ap, subst, arith}
use mathlib.Core.Option.{some, some-injective, some-ne-none}
use lib.ListN.{get_elem?}
use Rattle.atomic_table.specs.Table.{opening}
use Rattle.histories.specs.Common.{Layout, History, Opened, first_node, first_scx, IsTakenNode}
use Rattle.planting.specs.Plantings.{PlantingView, opening_for}
use Rattle.resting.specs.Records.{Record, the_node, the_scx}
use Rattle.slots.specs.Counts.{no_rests}
use Rattle.slots.specs.Held.{Held, IsHeld, first_held}
use Rattle.slots.specs.Lasting.{IsOwnName, IsOwnRecord, IsUntaken, Lasting, slot_of}
use Rattle.slots.proofs.Lemmas.{counts_open, first_names, first_nodes_held, first_scx_held, node_lap, opens, scx_lap}
use Rattle.tables.specs.Passes.{Each}
use Rattle.tables.specs.TableRule.{Owns, passes_with}
use Rattle.tables.specs.LastingMemory.{IsDealt, IsHeldName, Present, RememberWell, RemembersWell, present}
use Rattle.tables.specs.LastingRule.{TableLasts, plot_in}
use Rattle.tables.specs.LastingOpening.{OpensLasting, first_memory, first_view, nodes_from, scx_from}
use Rattle.tables.specs.declared.view.SeatView.{SeatView}
use Rattle.tables.specs.declared.memory.RecordNo.{RecordNo}
use Rattle.tables.specs.declared.memory.RecordNo.TheVariants.{Node, Scx}
use Rattle.tables.proofs.Deals.{owns_new}
use Rattle.tables.proofs.LastingSlots.{one_record_owner, own_not_first}

each_both : {A : Type 0} (P : A → Type 0) (xs ys : List A) → Each P xs → Each P ys → Each P (xs ++ ys)
each_both P [] ys a b = b
each_both P (x ∷ xs) ys a b = (a.0, each_both P xs ys a.1 b)

each_node : (P : RecordNo → Type 0) (from count : ℕ) → ((i : ℕ) → i < count → P (Node record { 0 = from + i })) → Each P (nodes_from from count)
each_node P from zero f = tt
each_node P from (suc count) f = (subst (λ n. P (Node record { 0 = n })) (omega arith) (f 0 (omega arith)), each_node P (suc from) count (λ i less. subst (λ n. P (Node record { 0 = n })) (omega arith) (f (suc i) (omega (arith, less)))))

each_scx : (P : RecordNo → Type 0) (from count : ℕ) → ((i : ℕ) → i < count → P (Scx record { 0 = from + i })) → Each P (scx_from from count)
each_scx P from zero f = tt
each_scx P from (suc count) f = (subst (λ n. P (Scx record { 0 = n })) (omega arith) (f 0 (omega arith)), each_scx P (suc from) count (λ i less. subst (λ n. P (Scx record { 0 = n })) (omega arith) (f (suc i) (omega (arith, less)))))

none_taken : (planting : PlantingView) (n : ℕ) → ¬ IsTakenNode (Opened (opening_for planting)) n
unfolding IsTakenNode
none_taken planting n z = z

module _ (allows : Layout → History → ℕ → Type 0) (t : Lasting) (planting : PlantingView) (words : List ℕ) (x : OpensLasting allows t planting words) where
  abbrev start : History
  start = Opened (opening_for planting)

  abbrev held : Held
  held = first_held t

  abbrev now : Present
  now = present words start (λ o. start) held no_rests

  module _ (o : ℕ) (is_pass : o < t.lay.passes) where
    -- the number of a name of the first lap
    node_held : (i : ℕ) → i < t.table.nodes → IsOwnName t o (the_node (first_node t.lay o + i)) × IsHeld t held (the_node (first_node t.lay o + i))
    node_held i small = (subst (λ n. IsOwnName t o (the_node (first_node t.lay o + n))) (omega arith) (node_lap t x.lasting o 0 i is_pass (omega arith) small).0, first_nodes_held t x.lasting o i is_pass small)

    scx_held : (i : ℕ) → i < t.table.scx → IsOwnName t o (the_scx (first_scx t.lay o + i)) × IsHeld t held (the_scx (first_scx t.lay o + i))
    scx_held i small = (subst (λ n. IsOwnName t o (the_scx (first_scx t.lay o + n))) (omega arith) (scx_lap t x.lasting o 0 i is_pass (omega arith) small).0, first_scx_held t x.lasting o i is_pass small)

    dealt : (y : Record) → IsOwnRecord t.lay o y → IsDealt (first_memory t o) y → IsUntaken t.lay start y → IsHeld t held y
    dealt (the_node n) own d free = let from = own.from in subst (λ k. IsHeld t held (the_node k)) (omega (arith, from)) (node_held (n - first_node t.lay o) (omega (arith, from, d))).1
    dealt (the_scx s) own d free = let from = own.from in subst (λ k. IsHeld t held (the_scx k)) (omega (arith, from)) (scx_held (s - first_scx t.lay o) (omega (arith, from, d))).1

    -- what a slot of the pass holds is of the first lap
    own_slot : (y : Record) → IsOwnRecord t.lay o y → IsHeld t held y → IsOwnRecord t.table o (slot_of t y)
    own_slot y own is = ⊎_elim (λ first. absurd (own_not_first t.lay o y own first)) (λ z. subst (λ q. IsOwnRecord t.table q (slot_of t y)) (one_record_owner t.lay z.0 o y z.2.0 own) z.2.1) ((first_names t x.lasting).own (slot_of t y) y is).name

    -- Names of a kind are numbered on from the first of the pass's own, and so are the slots of its
    -- first lap: so a name that one of these holds is of that lap.
    held_in_lap : (the : ℕ → Record) → ((i j : ℕ) → the i ≡ the j → i ≡ j) → (first turned count : ℕ) → ((i : ℕ) → i < count → slot_of t (the (first + i)) ≡ the (turned + i)) → ((i : ℕ) → i < count → IsHeld t held (the (first + i)))
        → (n k : ℕ) → slot_of t (the n) ≡ the k → turned ≤ k → k < turned + count → IsHeld t held (the n) → n < first + count
    held_in_lap the one first turned count lap first_held n k slot from below is =
        let i : ℕ = k - turned in
        let small : i < count = omega (arith, from, below) in
        let same_slot : slot_of t (the (first + i)) ≡ slot_of t (the n) = lap i small ∙ ap the (omega (arith, from)) ∙ sym slot in
        let same : Some (the (first + i)) ≡ Some (the n) = sym (first_held i small) ∙ ap held same_slot ∙ is in
        let number : first + i ≡ n = one (first + i) n (let q : the (first + i) ≡ the n = cc in q) in
        omega (arith, number, small)

    in_lap : (y : Record) → IsOwnRecord t.lay o y → IsHeld t held y → IsDealt (first_memory t o) y
    in_lap (the_node n) own is =
        let slot = own_slot (the_node n) own is in
        held_in_lap the_node (λ i j e. cc) (first_node t.lay o) (first_node t.table o) t.table.nodes
        (λ i small. ap (λ j. slot_of t (the_node j)) (omega arith) ∙ (node_lap t x.lasting o 0 i is_pass (omega arith) small).1)
        (λ i small. first_nodes_held t x.lasting o i is_pass small) n (n % t.node_turn) refl slot.from slot.below is
    in_lap (the_scx s) own is =
        let slot = own_slot (the_scx s) own is in
        held_in_lap the_scx (λ i j e. cc) (first_scx t.lay o) (first_scx t.table o) t.table.scx
        (λ i small. ap (λ j. slot_of t (the_scx j)) (omega arith) ∙ (scx_lap t x.lasting o 0 i is_pass (omega arith) small).1)
        (λ i small. first_scx_held t x.lasting o i is_pass small) s (s % t.scx_turn) refl slot.from slot.below is

    first_well : RemembersWell t planting now o (first_memory t o)
    first_well = record {
      away = refl;
      often = refl;
      rested = λ z. refl;
      names = record {
        dealt = dealt;
        later = λ y own d is. d (in_lap y own is);
        notes = tt;
        polls = tt;
        holds = each_both (IsHeldName t o now) (nodes_from (first_node t.lay o) t.table.nodes) (scx_from (first_scx t.lay o) t.table.scx) (each_node (IsHeldName t o now) (first_node t.lay o) t.table.nodes node_held) (each_scx (IsHeldName t o now) (first_scx t.lay o) t.table.scx scx_held);
        empty = tt;
        zeros = tt;
      };
    }

  all_well : (from n : ℕ) → from + n ≤ t.lay.passes → RememberWell t planting now (passes_with (first_memory t) (plot_in t planting) from n)
  all_well from zero few = tt
  all_well from (suc n) few = (first_well from (omega (arith, few)), all_well (suc from) n (omega (arith, few)))

  only : (P : ℕ → SeatView → Type 0) → P 0 (first_view t planting) → (j : ℕ) (v : SeatView) → get_elem? (first_view t planting ∷ []) j ≡ some v → P j v
  only P y zero v e = subst (P 0) (some-injective (first_view t planting) v e) y
  only P y (suc j) v e = absurd (some-ne-none v (sym e))

  pub lasting_opens : TableLasts allows t planting (opening words [] (first_view t planting))
  lasting_opens = record {
    run = record {
      rows = [];
      last = λ o. start;
      held = held;
      tally = no_rests;
      sound = x.run;
      window = opens t x.lasting words (opening_for planting) held x.map (let room = x.room in omega (arith, room)) (first_names t x.lasting) x.holds;
      counts = counts_open t words start x.room x.zeros;
      gone = λ n z. absurd (none_taken planting n z);
    };
    owner = λ _. 0;
    passes = only (λ j v. Owns (plot_in t planting) [] (λ _. 0) j v.passes) (owns_new (first_memory t) (plot_in t planting) 0 t.lay.passes);
    memories = only (λ j v. RememberWell t planting now v.passes) (all_well 0 t.lay.passes (omega arith));
  }
