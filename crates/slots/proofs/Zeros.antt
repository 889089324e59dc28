-- In a run of a map all words of an untaken record are 0.
use Rattle.std.proofs.Common.{◌≡◌, ◌≢◌, ◌<◌, ◌≤◌, ◌⊎◌, ℕ, inl, inr, refl, sym, ◌∙◌, ap, subst, arith}
use native.Mathlib.Decide.{ℕ_discrete}
use Rattle.histories.specs.Common.{Layout, Row, Side, NodeWord, Settled, Child, Info, Marked, Word, Node, Scx, ScxWord, State, AllFrozen, Plan, New, Old, Member, Seen, History, Opened, ◌⊳◌, HasHeld, opening_nodes, node, scx, info, marked, child, state, value, plan, count, count_of, member, field, field_index, side_of, Fill, IsTakenNode, IsTakenScx, Lawful}
use Rattle.arena.specs.declared.word.ScxWord.TheVariants.{Call}
use Rattle.arena.proofs.Lemmas.{ends_self, fill_takes_node, fill_takes_scx, held_at, held_more, held_now, held_split, held_start, node_apart, node_word_apart, opening_info, opening_scx, taken_node_more, taken_scx_more, value_apart, value_quiet}
use Rattle.histories.specs.Finalizing.{IsFinalizing}
use Rattle.histories.proofs.Lemmas.{Change, Facts, FreezeWins, IsScxFill, UpdateWins, aborts, change, commits, facts, fills_node, fills_scx, finished_taken, freeze_in_progress, freeze_keeps_scx, freeze_stores, freezes, lawful_row, lawful_tail, marks, not_state, nothing, planned_taken, sets_frozen, some_is_real, start_nodes, update_about, update_flagged, updates, value_start}
use Rattle.ordered_map.specs.Paths.{WasInTree}
use Rattle.ordered_map.specs.Runs.{IsMapRun}
use Rattle.ordered_map.proofs.MapLemmas.{run_since}
use Rattle.prims.specs.Laws.Linked.{marker_named}
use Rattle.prims.specs.Laws.Unfilled.{words_unfilled}
use Rattle.touching.proofs.Lemmas.{never_stood, reached_stood, settled_zero}
use Rattle.resting.specs.Records.{record_of}
use Rattle.slots.specs.Lasting.{IsUntaken}

-- Nodes

-- a node that an SCX-record freezes was in the tree
frozen_stood : (lay : Layout) (h : History) (r : Row) (s j : ℕ) → IsMapRun lay (r ⊳ h) → FreezeWins lay h r s j → WasInTree (r ⊳ h) (member h s j)
frozen_stood lay h r s j run w = reached_stood lay (r ⊳ h) s (member h s j) run
    record { unfinished = freeze_keeps_scx f w s State ∙ freeze_in_progress f w; named = (member h s j, held_at (r ⊳ h) (info (member h s j)) s (freeze_stores f w)) }
    record { index = j; within = subst (λ p. j < count_of p) (sym (freeze_keeps_scx f w s Plan)) w.freeze.within; is = same j; earlier = λ i few. subst (λ m. HasHeld (r ⊳ h) (info m) s) (sym (same i)) (held_more r h (info (member h s i)) s (w.freeze.earlier i few)) }
  where
    f : Facts lay h
    f = facts lay h (lawful_tail lay h r run.1.lawful)

    same : (i : ℕ) → member (r ⊳ h) s i ≡ member h s i
    same i = freeze_keeps_scx f w s (Member i)

-- so no info of an untaken one has ever named an SCX-record
info_zero : (lay : Layout) (h : History) (n v : ℕ) → IsMapRun lay h → opening_nodes lay ≤ n → ¬ IsTakenNode h n → HasHeld h (info n) v → v ≡ 0
info_zero lay (Opened o) n v run late free p = sym (held_start o (info n) v p) ∙ opening_info o n
info_zero lay (r ⊳ h) n v run late free p = go (info_zero lay h n v (run_since lay (r ⊳ h) h run (inr (ends_self h))) late (λ t. free (taken_node_more r h n t))) (held_split r h (info n) v p)
  where
    l : Lawful lay (r ⊳ h)
    l = run.1.lawful

    kept : (HasHeld h (info n) v → v ≡ 0) → value (r ⊳ h) (info n) ≡ v → value (r ⊳ h) (info n) ≡ value h (info n) → v ≡ 0
    kept before e same = before (held_at h (info n) v (sym same ∙ e))

    by_freeze : (HasHeld h (info n) v → v ≡ 0) → (s j : ℕ) → FreezeWins lay h r s j → Dec (member h s j ≡ n) → value (r ⊳ h) (info n) ≡ v → v ≡ 0
    by_freeze before s j w (yes same) e = absurd (never_stood lay (r ⊳ h) n run late free (subst (WasInTree (r ⊳ h)) same (frozen_stood lay h r s j run w)))
    by_freeze before s j w (no d) e = kept before e (value_apart r h (info (member h s j)) (info n) w.freeze.word (node_apart (member h s j) n Info Info d))

    by_fill : (HasHeld h (info n) v → v ≡ 0) → (m : ℕ) (part : NodeWord) → r.word ≡ node m part → Dec (m ≡ n) → r.kind ≡ Fill → value (r ⊳ h) (info n) ≡ v → v ≡ 0
    by_fill before m part word (yes same) kind e = absurd (free (fill_takes_node r h n part kind (word ∙ ap (λ z. node z part) same)))
    by_fill before m part word (no d) kind e = kept before e (value_apart r h (node m part) (info n) word (node_apart m n part Info d))

    now : (HasHeld h (info n) v → v ≡ 0) → Change lay h r → value (r ⊳ h) (info n) ≡ v → v ≡ 0
    now before (nothing k a) e = kept before e (value_quiet r h (lawful_row lay h r l).before a (info n))
    now before (fills_node m part x) e = by_fill before m part x.word (ℕ_discrete m n) x.kind e
    now before (fills_scx s part x) e = kept before e (value_apart r h (scx s part) (info n) x.word refl)
    now before (freezes s j w) e = by_freeze before s j w (ℕ_discrete (member h s j) n) e
    now before (sets_frozen s k x) e = kept before e (value_apart r h (scx s AllFrozen) (info n) x.word refl)
    now before (marks s j k x) e = kept before e (value_apart r h (marked (member h s j)) (info n) x.word (node_word_apart (member h s j) n Marked Info refl))
    now before (updates s w) e = kept before e (value_apart r h (field h s) (info n) w.update.word (node_word_apart (member h s (field_index h s)) n (Child (side_of (plan h s))) Info refl))
    now before (commits s k x) e = kept before e (value_apart r h (state s) (info n) x.word refl)
    now before (aborts s j k x) e = kept before e (value_apart r h (state s) (info n) x.word refl)

    go : (HasHeld h (info n) v → v ≡ 0) → (value (r ⊳ h) (info n) ≡ v) ⊎ HasHeld h (info n) v → v ≡ 0
    go before (inl e) = now before (change lay h r l) e
    go before (inr q) = before q

-- the field is 0 after a row that leaves it
abbrev IfKept : History → Row → ℕ → Side → Type 0
IfKept h r n side = value (r ⊳ h) (child n side) ≡ value h (child n side) → value (r ⊳ h) (child n side) ≡ 0

-- nor has a field of it changed
field_zero : (lay : Layout) (h : History) (n : ℕ) (side : Side) → IsMapRun lay h → opening_nodes lay ≤ n → ¬ IsTakenNode h n → value h (child n side) ≡ 0
field_zero lay (Opened o) n side run late free = value_start o (child n side) ∙ o.beyond n (Child side) (let few = start_nodes lay o run.1.lawful in omega (arith, few, late))
field_zero lay (r ⊳ h) n side run late free = now (change lay h r l) (λ same. same ∙ field_zero lay h n side run_h late free_h)
  where
    l : Lawful lay (r ⊳ h)
    l = run.1.lawful

    run_h : IsMapRun lay h
    run_h = run_since lay (r ⊳ h) h run (inr (ends_self h))

    free_h : ¬ IsTakenNode h n
    free_h t = free (taken_node_more r h n t)

    by_fill : (m : ℕ) (part : NodeWord) → r.word ≡ node m part → Dec (m ≡ n) → r.kind ≡ Fill → IfKept h r n side → value (r ⊳ h) (child n side) ≡ 0
    by_fill m part word (yes same) kind kept = absurd (free (fill_takes_node r h n part kind (word ∙ ap (λ z. node z part) same)))
    by_fill m part word (no d) kind kept = kept (value_apart r h (node m part) (child n side) word (node_apart m n part (Child side) d))

    by_update : (s : ℕ) → UpdateWins h r s → Dec (member h s (field_index h s) ≡ n) → IfKept h r n side → value (r ⊳ h) (child n side) ≡ 0
    by_update s w (no d) kept = kept (value_apart r h (field h s) (child n side) w.update.word (node_apart (member h s (field_index h s)) n (Child (side_of (plan h s))) (Child side) d))
    by_update s w (yes same) kept = absurd (some_is_real f (update_flagged f w).some (info_zero lay h n s run_h late free_h (subst (λ m. HasHeld h (info m) s) same ((update_flagged f w).frozen (field_index h s) (update_about f w).planned.field))))
      where
        f : Facts lay h
        f = facts lay h run_h.1.lawful

    now : Change lay h r → IfKept h r n side → value (r ⊳ h) (child n side) ≡ 0
    now (nothing k a) kept = kept (value_quiet r h (lawful_row lay h r l).before a (child n side))
    now (fills_node m part x) kept = by_fill m part x.word (ℕ_discrete m n) x.kind kept
    now (fills_scx s part x) kept = kept (value_apart r h (scx s part) (child n side) x.word refl)
    now (freezes s j w) kept = kept (value_apart r h (info (member h s j)) (child n side) w.freeze.word (node_word_apart (member h s j) n Info (Child side) refl))
    now (sets_frozen s k x) kept = kept (value_apart r h (scx s AllFrozen) (child n side) x.word refl)
    now (marks s j k x) kept = kept (value_apart r h (marked (member h s j)) (child n side) x.word (node_word_apart (member h s j) n Marked (Child side) refl))
    now (updates s w) kept = by_update s w (ℕ_discrete (member h s (field_index h s)) n) kept
    now (commits s k x) kept = kept (value_apart r h (state s) (child n side) x.word refl)
    now (aborts s j k x) kept = kept (value_apart r h (state s) (child n side) x.word refl)

module _ (lay : Layout) (h : History) (n : ℕ) (run : IsMapRun lay h) (late : opening_nodes lay ≤ n) (free : ¬ IsTakenNode h n) where
  -- a marked node names what finalizes it, and the dummy covers none
  mark_zero : Dec (value h (marked n) ≡ 0) → value h (marked n) ≡ 0
  mark_zero (yes e) = e
  mark_zero (no d) =
      let x : IsFinalizing h n 0 = marker_named lay h n 0 run.1.lawful d (info_zero lay h n (value h (info n)) run late free (held_now h (info n))) in
      let none : count h 0 ≡ 0 = rw (facts lay h run.1.lawful).empty refl in
      let some = x.removed.within in
      absurd (omega (arith, none, some))

  node_zero : (part : NodeWord) → value h (node n part) ≡ 0
  node_zero (Settled part) = settled_zero lay h n part run.1.lawful late free
  node_zero (Child side) = field_zero lay h n side run late free
  node_zero Info = info_zero lay h n (value h (info n)) run late free (held_now h (info n))
  node_zero Marked = mark_zero (ℕ_discrete (value h (marked n)) 0)

-- SCX-records

filled_zero : (lay : Layout) (h : History) (s : ℕ) (part : ScxWord) → Lawful lay h → ¬ IsTakenScx h s → IsScxFill part → value h (scx s part) ≡ 0
filled_zero lay (Opened o) s part l free fill = opening_scx o s part (not_state part fill)
filled_zero lay (r ⊳ h) s part l free fill =
    words_unfilled lay h r s l (λ q x. free (fill_takes_scx r h s q x.kind x.word)) part fill
    ∙ filled_zero lay h s part (lawful_tail lay h r l) (λ t. free (taken_scx_more r h s t)) fill

module _ (lay : Layout) (h : History) (s : ℕ) (l : Lawful lay h) (real : s ≢ 0) (free : ¬ IsTakenScx h s) where
  state_zero : Dec (value h (state s) ≡ 0) → value h (state s) ≡ 0
  state_zero (yes e) = e
  state_zero (no d) = absurd (free (finished_taken lay h s l real d))

  flag_zero : Dec (value h (scx s AllFrozen) ≡ 0) → value h (scx s AllFrozen) ≡ 0
  flag_zero (yes e) = e
  flag_zero (no d) = absurd (free (planned_taken lay h s l ((facts lay h l).flagged s d).some))

  scx_zero : (part : ScxWord) → value h (scx s part) ≡ 0
  scx_zero State = state_zero (ℕ_discrete (value h (state s)) 0)
  scx_zero AllFrozen = flag_zero (ℕ_discrete (value h (scx s AllFrozen)) 0)
  scx_zero Plan = filled_zero lay h s Plan l free tt
  scx_zero New = filled_zero lay h s New l free tt
  scx_zero Old = filled_zero lay h s Old l free tt
  scx_zero (Member j) = filled_zero lay h s (Member j) l free tt
  scx_zero (Seen j) = filled_zero lay h s (Seen j) l free tt
  scx_zero Call = filled_zero lay h s Call l free tt

pub untaken_zero : (lay : Layout) (h : History) (w : Word) → IsMapRun lay h → IsUntaken lay h (record_of w) → value h w ≡ 0
untaken_zero lay h (Node n part) run free = node_zero lay h n.0 run free.0 free.1 part
untaken_zero lay h (Scx s part) run free = scx_zero lay h s.0 run.1.lawful free.0 free.1 part
