-- A pass gives a slot that is clean its next name, under the rule of a table that lasts.
use Rattle.std.proofs.Common.{◌≡◌, ◌≢◌, ◌+◌, ◌<◌, ◌≤◌, ◌⊎◌, ◌++◌, ℕ, suc, false, List, [], ◌∷◌, Some, None, inl, inr, ⊎_elim, refl, sym, ◌∙◌, ap, subst, arith}
use mathlib.Core.Option.{some}
use lib.ListN.{get_elem?}
use native.Mathlib.Decide.{dec_lt}
use Rattle.atomic_table.specs.Table.{State, Me, Allows, keeps}
use Rattle.histories.specs.Common.{Layout, Row, History, IsOwnNode, IsOwnScx, IsTakenNode, IsRun, Remaining}
use Rattle.arena.proofs.Lemmas.{ends_self}
use Rattle.planting.specs.Plantings.{PlantingView}
use Rattle.ordered_map.specs.Paths.{WasInTree}
use Rattle.prims.specs.Shares.{IsShare}
use Rattle.resting.specs.Records.{Record, record_of, the_node, the_scx}
use Rattle.resting.specs.Rests.{HaveMovedOn}
use Rattle.slots.specs.Counts.{with_rest}
use Rattle.slots.specs.Held.{Held, IsHeld, with_slot}
use Rattle.slots.specs.Lasting.{IsOwnRecord, IsUntaken, Lasting, slot_of}
use Rattle.slots.specs.Window.{IsWindow}
use Rattle.slots.proofs.Lemmas.{none_passed, passes_over, record_discrete, rest_other, rest_same, seen_moves, takes, with_other, with_same}
use Rattle.tables.specs.LastingSlots.{IsNotBefore}
use Rattle.tables.specs.TableRule.{history_of, Owns, seat_view, seated_pass}
use Rattle.tables.specs.LastingMemory.{AreHeldOrGone, IsDealt, IsEmptySlot, IsOutForGood, IsZeroWord, Present, RemembersNames, RemembersWell, StaysUnborn, present, record_at}
use Rattle.tables.specs.LastingNames.{MayGiveName, memory_with, memory_with_node, memory_with_scx, node_ahead, past_nodes, past_scxs, scx_ahead}
use Rattle.tables.specs.LastingRule.{GoesOnWith, TableLasts, plot_in, LearnsWith}
use Rattle.tables.specs.declared.view.SeatView.{SeatView}
use Rattle.tables.specs.declared.memory.PassMemory.{PassMemory}
use Rattle.tables.specs.declared.memory.RecordNo.{RecordNo}
use Rattle.tables.specs.declared.rule.Plot.{Plot}
use Rattle.tables.specs.declared.view.SeatedPass.{SeatedPass}
use Rattle.tables.proofs.LastingKept.{Later, Spares, each_kept, gone_kept, note_kept, poll_kept, untaken_before}
use Rattle.tables.proofs.LastingGhosts.{as_loaded, goes_on, in_each, seen_by}
use Rattle.tables.proofs.LastingNames.{IsReady, PassesOn, PassedNodes, PassedScx, passes_all_scx, passes_nodes}
use Rattle.tables.proofs.LastingRests.{moves_now}
use Rattle.tables.proofs.LastingSeats.{aware, learnt, now, over, own, share_now, well}
use Rattle.tables.proofs.LastingSlots.{each_of_others, one_record_owner, left_untaken}

-- What slots hold once one that held nothing holds x

module _ (t : Lasting) (held : Held) (slot x : Record) (none : held slot ≡ None) where
  abbrev with_x : Held
  with_x = with_slot held slot (Some x)

  still : (y : Record) → IsHeld t held y → IsHeld t with_x y
  still y is = with_other held slot (slot_of t y) (Some x) (λ e. let q : None ≡ Some y = sym none ∙ ap held (sym e) ∙ is in cc) ∙ is

  new_or_still : (y : Record) → IsHeld t with_x y → (x ≡ y) ⊎ IsHeld t held y
  new_or_still y is = go (record_discrete (slot_of t y) slot)
    where
      go : Dec (slot_of t y ≡ slot) → (x ≡ y) ⊎ IsHeld t held y
      go (yes e) = inl (let q : Some x ≡ Some y = sym (with_same held slot (Some x)) ∙ ap with_x (sym e) ∙ is in cc)
      go (no d) = inr (sym (with_other held slot (slot_of t y) (Some x) d) ∙ is)

-- It may give the slot this name, once the run has gone on to these rows; then it remembers so
-- much.
module _ (allows : Layout → History → ℕ → Type 0) (t : Lasting) (planting : PlantingView) (stays : StaysUnborn t.lay) (s : State ℕ SeatView) (kept : TableLasts allows t planting s) (id : ℕ) (v : SeatView) (fits : get_elem? s.views id ≡ some v) (p : SeatedPass) (one : v.passes ≡ p ∷ []) (at : ℕ) (left : Remaining) (name slot : RecordNo) (nodes_to scx_to : ℕ) (may : MayGiveName t p left name slot) where
  abbrev o : ℕ
  o = p.number.0

  abbrev x : Record
  x = record_at name

  abbrev before : Present
  before = now allows t planting s kept id v fits p one

  pub recalls : RemembersWell t planting before p.number.0 p.memory
  recalls = well allows t planting s kept id v fits p one

  pub owned : Owns (plot_in t planting) kept.run.rows kept.owner id (p ∷ [])
  owned = own allows t planting s kept id v fits p one

  pub is_there : kept.run.tally.away p.number.0 ≡ false
  is_there = sym recalls.away ∙ may.there

  pub its_share : IsShare t.lay (history_of planting kept.run.rows) p.number.0 left left.next_node left.next_scx
  its_share = share_now allows t planting s kept id v fits p one left may.is_pass may.share

  pub passes_none : PassesOn allows t planting kept.run.held kept.run.last kept.run.tally s.words kept.owner id p.number.0 owned.0 kept.run.rows may.is_pass is_there kept.run.rows
  passes_none = record {
    goes = record { sound = kept.run.sound; within = ends_self (history_of planting kept.run.rows); rested = kept.run.window.rested; counts = kept.run.counts; seen = λ q l n y. y; grows = λ j other ps y. y };
    run = kept.run.window.run;
    over = over allows t planting s kept id v fits p one may.over;
    passed = none_passed t kept.run.held kept.run.last p.number.0 (history_of planting kept.run.rows);
  }

  module _ (rows : List Row) (ready : IsReady allows t planting kept.run.held kept.run.last kept.run.tally s.words kept.owner id p.number.0 owned.0 kept.run.rows may.is_pass is_there (record_at name) p.memory (memory_with p.memory name slot nodes_to scx_to rows) rows) where
    abbrev k : History
    k = history_of planting rows

    abbrev last : ℕ → History
    last = with_rest kept.run.last p.number.0 (history_of planting rows)

    abbrev after : PassMemory
    after = memory_with p.memory name slot nodes_to scx_to rows

    abbrev held : Held
    held = with_slot kept.run.held (record_at slot) (Some (record_at name))

    abbrev there : Present
    there = present s.words k last held kept.run.tally

    empty_slot : IsEmptySlot t p.number.0 before slot
    empty_slot = in_each (IsEmptySlot t p.number.0 before) slot p.memory.empty may.empty recalls.names.empty

    none : kept.run.held (record_at slot) ≡ None
    none = empty_slot.1

    window : IsWindow t s.words k last held
    window = takes t s.words k last kept.run.held (passes_over t s.words (history_of planting kept.run.rows) k kept.run.last kept.run.held o kept.run.window ready.so_far.goes.within ready.so_far.run ready.so_far.passed may.is_pass ready.so_far.over) (record_at slot) x none
        record { slot_is = may.slot_is; name = inr (o, may.is_pass, may.own) } ready.free
        (λ w is_word of_slot. (in_each (IsZeroWord t o before) w p.memory.zeros (may.zeros w is_word of_slot) recalls.names.zeros).zero)

    moved : HaveMovedOn t.lay k kept.run.last last
    moved = moves_now t k kept.run.last o ready.so_far.goes.rested

    later : Later t before there
    later = record { run = ready.so_far.run; within = ready.so_far.goes.within; moved = moved; seen = λ q l n i y. seen_moves k kept.run.last kept.run.tally q l n (ready.so_far.goes.seen q l n y) t last i moved }

    x_held : IsHeld t held x
    x_held = ap held may.slot_is ∙ with_same kept.run.held (record_at slot) (Some x)

    still_held : (y : Record) → IsHeld t kept.run.held y → IsHeld t held y
    still_held = still t kept.run.held (record_at slot) x none

    unborn : (n : ℕ) → IsTakenNode k n → IsOwnNode t.lay o n × (¬ WasInTree k n) → IsOutForGood t.lay k last n
    unborn n z y = inr (inr (o, may.is_pass, record { own = y.0; taken = subst (λ l. IsTakenNode l n) (sym (rest_same kept.run.last o k)) z; never = subst (λ l. ¬ WasInTree l n) (sym (rest_same kept.run.last o k)) y.1 }))

    gone : AreHeldOrGone t there
    gone n z = ⊎_elim (λ y. ⊎_elim (λ is. inl (still_held (the_node n) is)) (λ g. inr (gone_kept t planting before there later stays n g)) (kept.run.gone n y)) (λ y. inr (unborn n z y)) (ready.others n z)

    dealt : (y : Record) → IsOwnRecord t.lay o y → IsDealt after y → IsUntaken t.lay k y → IsHeld t held y
    dealt y its_own d free = ⊎_elim (λ e. subst (IsHeld t held) (sym e) x_held) (λ old. still_held y (recalls.names.dealt y its_own old (untaken_before t planting before there later stays y free))) (ready.dealt y its_own d free)

    undealt : (y : Record) → IsOwnRecord t.lay o y → ¬ IsDealt after y → ¬ IsHeld t held y
    undealt y its_own d is = ⊎_elim (λ e. d (subst (IsDealt after) e ready.itself)) (recalls.names.later y its_own (ready.undealt y d)) (new_or_still t kept.run.held (record_at slot) x none y is)

    slot_kept : (y : Record) → ¬ (y ≡ record_at slot) → kept.run.held y ≡ None → held y ≡ None
    slot_kept y d e = with_other kept.run.held (record_at slot) y (Some x) d ∙ e

    names : RemembersNames t planting there o after
    names = record {
      dealt = dealt;
      later = undealt;
      notes = each_kept _ _ (λ n. note_kept t planting before there later stays o (record_at n.name) n.note) p.memory.notes recalls.names.notes;
      polls = each_kept _ _ (poll_kept t planting before there later stays) p.memory.polls recalls.names.polls;
      holds = ((may.own, x_held), each_kept _ _ (λ n e. (e.0, still_held (record_at n) e.1)) p.memory.holds recalls.names.holds);
      empty = each_of_others record_at (IsEmptySlot t o before) (IsEmptySlot t o there) (record_at slot) (λ n d e. (e.0, slot_kept (record_at n) d e.1)) p.memory.empty recalls.names.empty;
      zeros = each_of_others record_of (IsZeroWord t o before) (IsZeroWord t o there) (record_at slot) (λ w d e. record { is_word = e.is_word; own = e.own; none = slot_kept (record_of w) d e.none; zero = e.zero }) p.memory.zeros recalls.names.zeros;
    }

    not_mine : (q : ℕ) → q ≢ o → (y : Record) → IsOwnRecord t.table q y → ¬ (y ≡ record_at slot)
    not_mine q d y its_own e = d (one_record_owner t.table q o (record_at slot) (subst (IsOwnRecord t.table q) e its_own) empty_slot.0)

    spares : (q : ℕ) → q ≢ p.number.0 → Spares t planting before there later stays q
    spares q d = record {
      held = λ y its_own is. still_held y is;
      free = λ y its_own not is. ⊎_elim (λ e. d (one_record_owner t.lay q o y its_own (subst (IsOwnRecord t.lay o) e may.own.0))) not (new_or_still t kept.run.held (record_at slot) x none y is);
      empty = λ n e. (e.0, slot_kept (record_at n) (not_mine q d (record_at n) e.0) e.1);
      zeros = λ w e. record { is_word = e.is_word; own = e.own; none = slot_kept (record_of w) (not_mine q d (record_of w) e.own) e.none; zero = e.zero };
    }

    pub name_taken : TableLasts allows t planting (seen_by allows t planting stays s kept id v fits p one at rows after)
    name_taken = as_loaded allows t planting stays s kept id v fits p one at rows after
        (goes_on allows t planting stays s kept id v fits p one at s.words record { rows = rows; last = last; held = held; tally = kept.run.tally; sound = ready.so_far.goes.sound; window = window; counts = ready.so_far.goes.counts; gone = gone } after later (λ q d. (refl, refl)) (λ q d z. rest_other kept.run.last o k q d)
        record { away = recalls.away; often = recalls.often; rested = λ z. rest_same kept.run.last o k; names = names }
        spares ready.so_far.goes.grows)

module _ (allows : Layout → History → ℕ → Type 0) (t : Lasting) (planting : PlantingView) (stays : StaysUnborn t.lay) (slots id : ℕ) (me : Me ℕ SeatView) (p : SeatedPass) (one : me.0.passes ≡ p ∷ []) (at count : ℕ) (left : Remaining) (slot : RecordNo) where
  -- the next name of a node but so many, at a load of any word
  pub lasting_nodes : MayGiveName t p left (node_ahead p.memory count) slot → left.next_node ≡ p.memory.nodes_to → Allows (TableLasts allows t planting) slots id me at (λ n. n) (λ n w. GoesOnWith allows (past_nodes p.number.0 p.memory.nodes_to count) (memory_with_node p.memory count slot) me.0 w.0 × (w.1 ≡ me.1))
  lasting_nodes may all s kept sized fits small = (
    seat_view (seated_pass o p.layout p.planting (memory_with_node p.memory count slot rows) rows ∷ []),
    keeps,
    tt,
    name_taken allows t planting stays s kept id me.0 fits p one at left (node_ahead p.memory count) slot (p.memory.nodes_to + suc count) p.memory.scx_to may rows ready,
    (
      record {
        pass = p;
        others = mine.2.0;
        was = one;
        by_others = mine.2.2;
        run = subst (λ (g : Plot). IsRun allows g.layout (history_of g.planting (past_nodes o p.memory.nodes_to count g.planting (mine.2.0 ++ p.known)))) (sym mine.1) (subst (λ l. IsRun allows t.lay (history_of planting (past_nodes o p.memory.nodes_to count planting l))) mine.2.1 passed.so_far.goes.sound);
        passes = ap (λ l. seated_pass o p.layout p.planting (memory_with_node p.memory count slot l) l ∷ []) rows_are;
      },
      refl,
    ),
  )
    where
      o : ℕ
      o = p.number.0

      mine : Owns (plot_in t planting) kept.run.rows kept.owner id (p ∷ [])
      mine = owned allows t planting stays s kept id me.0 fits p one at left (node_ahead p.memory count) slot (p.memory.nodes_to + suc count) p.memory.scx_to may

      known : RemembersWell t planting (now allows t planting s kept id me.0 fits p one) o p.memory
      known = recalls allows t planting stays s kept id me.0 fits p one at left (node_ahead p.memory count) slot (p.memory.nodes_to + suc count) p.memory.scx_to may

      rows : List Row
      rows = past_nodes o p.memory.nodes_to count planting kept.run.rows

      rows_are : rows ≡ past_nodes o p.memory.nodes_to count p.planting (mine.2.0 ++ p.known)
      rows_are = ap (λ l. past_nodes o p.memory.nodes_to count planting l) mine.2.1 ∙ ap (λ (g : Plot). past_nodes o p.memory.nodes_to count g.planting (mine.2.0 ++ p.known)) (sym mine.1)

      share : IsShare t.lay (history_of planting kept.run.rows) o left left.next_node left.next_scx
      share = its_share allows t planting stays s kept id me.0 fits p one at left (node_ahead p.memory count) slot (p.memory.nodes_to + suc count) p.memory.scx_to may

      from_left : (n : ℕ) → p.memory.nodes_to ≤ n → left.next_node ≤ n
      from_left n more = let e = all in omega (arith, e, more)

      own_between : (n : ℕ) → p.memory.nodes_to ≤ n → n < p.memory.nodes_to + count → IsOwnNode t.lay o n
      own_between n more less = record { from = (let a = share.from_node in let e = all in omega (arith, a, e, more)); below = (let b = may.own.0.below in omega (arith, b, less)) }

      begins : PassedNodes allows t planting kept.run.held kept.run.last kept.run.tally s.words kept.owner id o mine.0 kept.run.rows may.is_pass (is_there allows t planting stays s kept id me.0 fits p one at left (node_ahead p.memory count) slot (p.memory.nodes_to + suc count) p.memory.scx_to may) p.memory.nodes_to kept.run.rows
      begins = record {
        so_far = passes_none allows t planting stays s kept id me.0 fits p one at left (node_ahead p.memory count) slot (p.memory.nodes_to + suc count) p.memory.scx_to may;
        taken = λ n its_own less. share.taken_nodes n its_own (let e = all in omega (arith, e, less));
        untaken = λ n its_own more. share.untaken_nodes n its_own (from_left n more);
        unmentioned = λ n its_own more. share.unmentioned n its_own (from_left n more);
        others = λ n z. inl z;
      }

      passed : PassedNodes allows t planting kept.run.held kept.run.last kept.run.tally s.words kept.owner id o mine.0 kept.run.rows may.is_pass (is_there allows t planting stays s kept id me.0 fits p one at left (node_ahead p.memory count) slot (p.memory.nodes_to + suc count) p.memory.scx_to may) (p.memory.nodes_to + count) rows
      passed = passes_nodes allows t planting kept.run.held kept.run.last kept.run.tally s.words kept.owner id o mine.0 kept.run.rows may.is_pass (is_there allows t planting stays s kept id me.0 fits p one at left (node_ahead p.memory count) slot (p.memory.nodes_to + suc count) p.memory.scx_to may) count p.memory.nodes_to kept.run.rows begins
          (λ n more less. (own_between n more less, known.names.later (the_node n) (own_between n more less) (λ z. omega (arith, more, z))))

      dealt : (y : Record) → IsOwnRecord t.lay o y → IsDealt (memory_with_node p.memory count slot rows) y → IsUntaken t.lay (history_of planting rows) y → (y ≡ the_node (p.memory.nodes_to + count)) ⊎ IsDealt p.memory y
      dealt (the_node n) its_own d free = go (dec_lt n (p.memory.nodes_to + count))
        where
          go : Dec (n < p.memory.nodes_to + count) → (the_node n ≡ the_node (p.memory.nodes_to + count)) ⊎ (n < p.memory.nodes_to)
          go (yes less) = absurd (free.1 (passed.taken n its_own less))
          go (no more) = inl (ap the_node (omega (arith, d, more)))
      dealt (the_scx i) its_own d free = inr d

      undealt : (y : Record) → ¬ IsDealt (memory_with_node p.memory count slot rows) y → ¬ IsDealt p.memory y
      undealt (the_node n) d z = d (omega (arith, z))
      undealt (the_scx i) d z = d z

      ready : IsReady allows t planting kept.run.held kept.run.last kept.run.tally s.words kept.owner id o mine.0 kept.run.rows may.is_pass (is_there allows t planting stays s kept id me.0 fits p one at left (node_ahead p.memory count) slot (p.memory.nodes_to + suc count) p.memory.scx_to may) (the_node (p.memory.nodes_to + count)) p.memory (memory_with_node p.memory count slot rows) rows
      ready = record {
        so_far = passed.so_far;
        free = ((let a = may.own.0.from in omega (arith, a)), passed.untaken (p.memory.nodes_to + count) may.own.0 (omega arith));
        dealt = dealt;
        undealt = undealt;
        itself = omega arith;
        others = passed.others;
      }

  -- and of an SCX-record
  pub lasting_scx : MayGiveName t p left (scx_ahead p.memory count) slot → left.next_scx ≡ p.memory.scx_to → Allows (TableLasts allows t planting) slots id me at (λ n. n) (λ n w. GoesOnWith allows (past_scxs p.number.0 p.memory.scx_to count) (memory_with_scx p.memory count slot) me.0 w.0 × (w.1 ≡ me.1))
  lasting_scx may all s kept sized fits small = (
    seat_view (seated_pass o p.layout p.planting (memory_with_scx p.memory count slot rows) rows ∷ []),
    keeps,
    tt,
    name_taken allows t planting stays s kept id me.0 fits p one at left (scx_ahead p.memory count) slot p.memory.nodes_to (p.memory.scx_to + suc count) may rows ready,
    (
      record {
        pass = p;
        others = mine.2.0;
        was = one;
        by_others = mine.2.2;
        run = subst (λ (g : Plot). IsRun allows g.layout (history_of g.planting (past_scxs o p.memory.scx_to count g.planting (mine.2.0 ++ p.known)))) (sym mine.1) (subst (λ l. IsRun allows t.lay (history_of planting (past_scxs o p.memory.scx_to count planting l))) mine.2.1 passed.so_far.goes.sound);
        passes = ap (λ l. seated_pass o p.layout p.planting (memory_with_scx p.memory count slot l) l ∷ []) rows_are;
      },
      refl,
    ),
  )
    where
      o : ℕ
      o = p.number.0

      mine : Owns (plot_in t planting) kept.run.rows kept.owner id (p ∷ [])
      mine = owned allows t planting stays s kept id me.0 fits p one at left (scx_ahead p.memory count) slot p.memory.nodes_to (p.memory.scx_to + suc count) may

      known : RemembersWell t planting (now allows t planting s kept id me.0 fits p one) o p.memory
      known = recalls allows t planting stays s kept id me.0 fits p one at left (scx_ahead p.memory count) slot p.memory.nodes_to (p.memory.scx_to + suc count) may

      rows : List Row
      rows = past_scxs o p.memory.scx_to count planting kept.run.rows

      rows_are : rows ≡ past_scxs o p.memory.scx_to count p.planting (mine.2.0 ++ p.known)
      rows_are = ap (λ l. past_scxs o p.memory.scx_to count planting l) mine.2.1 ∙ ap (λ (g : Plot). past_scxs o p.memory.scx_to count g.planting (mine.2.0 ++ p.known)) (sym mine.1)

      share : IsShare t.lay (history_of planting kept.run.rows) o left left.next_node left.next_scx
      share = its_share allows t planting stays s kept id me.0 fits p one at left (scx_ahead p.memory count) slot p.memory.nodes_to (p.memory.scx_to + suc count) may

      from_left : (n : ℕ) → p.memory.scx_to ≤ n → left.next_scx ≤ n
      from_left n more = let e = all in omega (arith, e, more)

      own_between : (n : ℕ) → p.memory.scx_to ≤ n → n < p.memory.scx_to + count → IsOwnScx t.lay o n
      own_between n more less = record { from = (let a = share.from_scx in let e = all in omega (arith, a, e, more)); below = (let b = may.own.0.below in omega (arith, b, less)) }

      begins : PassedScx allows t planting kept.run.held kept.run.last kept.run.tally s.words kept.owner id o mine.0 kept.run.rows may.is_pass (is_there allows t planting stays s kept id me.0 fits p one at left (scx_ahead p.memory count) slot p.memory.nodes_to (p.memory.scx_to + suc count) may) p.memory.scx_to kept.run.rows
      begins = record {
        so_far = passes_none allows t planting stays s kept id me.0 fits p one at left (scx_ahead p.memory count) slot p.memory.nodes_to (p.memory.scx_to + suc count) may;
        taken = λ n its_own less. share.taken_scx n its_own (let e = all in omega (arith, e, less));
        untaken = λ n its_own more. share.untaken n its_own (from_left n more);
        others = λ n z. z;
      }

      passed : PassedScx allows t planting kept.run.held kept.run.last kept.run.tally s.words kept.owner id o mine.0 kept.run.rows may.is_pass (is_there allows t planting stays s kept id me.0 fits p one at left (scx_ahead p.memory count) slot p.memory.nodes_to (p.memory.scx_to + suc count) may) (p.memory.scx_to + count) rows
      passed = passes_all_scx allows t planting kept.run.held kept.run.last kept.run.tally s.words kept.owner id o mine.0 kept.run.rows may.is_pass (is_there allows t planting stays s kept id me.0 fits p one at left (scx_ahead p.memory count) slot p.memory.nodes_to (p.memory.scx_to + suc count) may) count p.memory.scx_to kept.run.rows begins
          (λ n more less. (own_between n more less, known.names.later (the_scx n) (own_between n more less) (λ z. omega (arith, more, z))))

      dealt : (y : Record) → IsOwnRecord t.lay o y → IsDealt (memory_with_scx p.memory count slot rows) y → IsUntaken t.lay (history_of planting rows) y → (y ≡ the_scx (p.memory.scx_to + count)) ⊎ IsDealt p.memory y
      dealt (the_scx n) its_own d free = go (dec_lt n (p.memory.scx_to + count))
        where
          go : Dec (n < p.memory.scx_to + count) → (the_scx n ≡ the_scx (p.memory.scx_to + count)) ⊎ (n < p.memory.scx_to)
          go (yes less) = absurd (free.1 (passed.taken n its_own less))
          go (no more) = inl (ap the_scx (omega (arith, d, more)))
      dealt (the_node i) its_own d free = inr d

      undealt : (y : Record) → ¬ IsDealt (memory_with_scx p.memory count slot rows) y → ¬ IsDealt p.memory y
      undealt (the_scx n) d z = d (omega (arith, z))
      undealt (the_node i) d z = d z

      ready : IsReady allows t planting kept.run.held kept.run.last kept.run.tally s.words kept.owner id o mine.0 kept.run.rows may.is_pass (is_there allows t planting stays s kept id me.0 fits p one at left (scx_ahead p.memory count) slot p.memory.nodes_to (p.memory.scx_to + suc count) may) (the_scx (p.memory.scx_to + count)) p.memory (memory_with_scx p.memory count slot rows) rows
      ready = record {
        so_far = passed.so_far;
        free = ((λ e. let a = may.own.0.from in omega (arith, a, e)), passed.untaken (p.memory.scx_to + count) may.own.0 (omega arith));
        dealt = dealt;
        undealt = undealt;
        itself = omega arith;
        others = λ n z. inl (passed.others n z);
      }

-- The name behind those that are dealt, of which some may be left, with none passed over.
module _ (allows : Layout → History → ℕ → Type 0) (t : Lasting) (planting : PlantingView) (stays : StaysUnborn t.lay) (slots id : ℕ) (me : Me ℕ SeatView) (p : SeatedPass) (one : me.0.passes ≡ p ∷ []) (at : ℕ) (left : Remaining) (slot : RecordNo) where
  next_taken : (name : RecordNo) (nodes_to scx_to : ℕ) → MayGiveName t p left name slot → IsNotBefore left (record_at name)
      → ((rows : List Row) (y : Record) → IsDealt (memory_with p.memory name slot nodes_to scx_to rows) y → (y ≡ record_at name) ⊎ IsDealt p.memory y)
      → ((rows : List Row) (y : Record) → ¬ IsDealt (memory_with p.memory name slot nodes_to scx_to rows) y → ¬ IsDealt p.memory y)
      → ((rows : List Row) → IsDealt (memory_with p.memory name slot nodes_to scx_to rows) (record_at name))
      → Allows (TableLasts allows t planting) slots id me at (λ n. n) (λ n w. LearnsWith allows (memory_with p.memory name slot nodes_to scx_to) me.0 w.0 × (w.1 ≡ me.1))
  next_taken name nodes_to scx_to may is_left dealt undealt itself s kept sized fits small = (
    seat_view (aware allows t planting s kept id me.0 fits p one (memory_with p.memory name slot nodes_to scx_to kept.run.rows) ∷ []),
    keeps,
    tt,
    name_taken allows t planting stays s kept id me.0 fits p one at left name slot nodes_to scx_to may kept.run.rows record {
      so_far = passes_none allows t planting stays s kept id me.0 fits p one at left name slot nodes_to scx_to may;
      free = left_untaken t.lay (history_of planting kept.run.rows) p.number.0 left (record_at name) may.own.0 is_left (its_share allows t planting stays s kept id me.0 fits p one at left name slot nodes_to scx_to may);
      dealt = λ y its_own d free. dealt kept.run.rows y d;
      undealt = undealt kept.run.rows;
      itself = itself kept.run.rows;
      others = λ n z. inl z;
    },
    ((kept.run.rows, learnt allows t planting s kept id me.0 fits p one refl), refl),
  )

  pub lasting_next_node : MayGiveName t p left (node_ahead p.memory 0) slot → IsNotBefore left (record_at (node_ahead p.memory 0)) → Allows (TableLasts allows t planting) slots id me at (λ n. n) (λ n w. LearnsWith allows (memory_with_node p.memory 0 slot) me.0 w.0 × (w.1 ≡ me.1))
  lasting_next_node may is_left = next_taken (node_ahead p.memory 0) (p.memory.nodes_to + 1) p.memory.scx_to may is_left dealt undealt (λ rows. omega arith)
    where
      dealt : (rows : List Row) (y : Record) → IsDealt (memory_with_node p.memory 0 slot rows) y → (y ≡ the_node (p.memory.nodes_to + 0)) ⊎ IsDealt p.memory y
      dealt rows (the_node n) d = go (dec_lt n p.memory.nodes_to)
        where
          go : Dec (n < p.memory.nodes_to) → (the_node n ≡ the_node (p.memory.nodes_to + 0)) ⊎ (n < p.memory.nodes_to)
          go (yes less) = inr less
          go (no more) = inl (ap the_node (omega (arith, d, more)))
      dealt rows (the_scx i) d = inr d

      undealt : (rows : List Row) (y : Record) → ¬ IsDealt (memory_with_node p.memory 0 slot rows) y → ¬ IsDealt p.memory y
      undealt rows (the_node n) d z = d (omega (arith, z))
      undealt rows (the_scx i) d z = d z

  pub lasting_next_scx : MayGiveName t p left (scx_ahead p.memory 0) slot → IsNotBefore left (record_at (scx_ahead p.memory 0)) → Allows (TableLasts allows t planting) slots id me at (λ n. n) (λ n w. LearnsWith allows (memory_with_scx p.memory 0 slot) me.0 w.0 × (w.1 ≡ me.1))
  lasting_next_scx may is_left = next_taken (scx_ahead p.memory 0) p.memory.nodes_to (p.memory.scx_to + 1) may is_left dealt undealt (λ rows. omega arith)
    where
      dealt : (rows : List Row) (y : Record) → IsDealt (memory_with_scx p.memory 0 slot rows) y → (y ≡ the_scx (p.memory.scx_to + 0)) ⊎ IsDealt p.memory y
      dealt rows (the_scx n) d = go (dec_lt n p.memory.scx_to)
        where
          go : Dec (n < p.memory.scx_to) → (the_scx n ≡ the_scx (p.memory.scx_to + 0)) ⊎ (n < p.memory.scx_to)
          go (yes less) = inr less
          go (no more) = inl (ap the_scx (omega (arith, d, more)))
      dealt rows (the_node i) d = inr d

      undealt : (rows : List Row) (y : Record) → ¬ IsDealt (memory_with_scx p.memory 0 slot rows) y → ¬ IsDealt p.memory y
      undealt rows (the_scx n) d z = d (omega (arith, z))
      undealt rows (the_node i) d z = d z
