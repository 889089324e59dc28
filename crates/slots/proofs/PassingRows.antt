-- A pass may pass over its next name: a node by a fill, an SCX-record by fills and an abort.
use Rattle.std.proofs.Common.{◌≡◌, ◌≢◌, ◌<◌, ℕ, inl, inr, refl, sym, ◌∙◌, ap, subst, arith}
use native.Mathlib.Decide.{ℕ_discrete}
use Rattle.histories.specs.Common.{Layout, all_scx, Kind, Fill, Freeze, Abort, Settled, Head, State, AllFrozen, Seen, Row, History, Opened, ◌⊳◌, value, node, scx, info, state, plan, seen, count, count_of, member, IsNamedScx, IsOthersScx, IsTakenNode, IsTakenScx, IsLawful}
use Rattle.arena.specs.declared.word.ScxWord.TheVariants.{Plan}
use Rattle.arena.specs.Fills.{IsOpenNode, IsOpenScx}
use Rattle.arena.specs.Lawful.{IsAbort}
use Rattle.arena.specs.Shape.{Shaped}
use Rattle.arena.proofs.Lemmas.{held_at, held_back, scx_apart, scx_word_apart, taken_scx_more, value_apart, value_at}
use Rattle.histories.proofs.Lemmas.{facts, lawful_more, one_scx_owner, own_node_inside, own_scx_inside, untaken_by_node, untaken_by_other_fill, untaken_by_step}
use Rattle.ordered_map.specs.Runs.{IsMapRun}
use Rattle.ordered_map.specs.TreeShape.{TreeAllows}
use Rattle.prims.specs.Moments.{AreFinished}
use Rattle.resting.specs.Records.{record_of, the_node, the_scx}
use Rattle.resting.specs.Rests.{PassesOver, past_node, past_scx}
use Rattle.resting.proofs.Lemmas.{no_row_behind}
use Rattle.slots.specs.Held.{Held, IsHeld}
use Rattle.slots.specs.Lasting.{Lasting}
use Rattle.slots.specs.Passing.{row_over, past_node_of, filled_past, past_scx_of}
use Rattle.slots.specs.Window.{HasPassedOver}

-- a row that is no freeze begins nothing
shaped_past : (lay : Layout) (h : History) (r : Row) → Shaped TreeAllows lay h → r.kind ≢ Freeze → Shaped TreeAllows lay (r ⊳ h)
unfolding Shaped
shaped_past lay h r shaped other = (shaped, λ s begins. absurd (other begins.kind))

run_past : (lay : Layout) (h : History) (r : Row) → IsMapRun lay h → IsLawful lay h r → r.kind ≢ Freeze → IsMapRun lay (r ⊳ h)
run_past lay h r run lawful other = (run.0, record { lawful = lawful_more lay h r run.1.lawful lawful; shaped = shaped_past lay h r run.1.shaped other })

no_freeze : (k : Kind) → k ≡ Fill → k ≢ Freeze
no_freeze k e d = let z : Fill ≡ Freeze = sym e ∙ d in cc

pub node_passed : (lay : Layout) (h : History) (o n : ℕ) → IsMapRun lay h → o < lay.passes → IsOpenNode lay h o n → IsMapRun lay (past_node_of o n h)
node_passed lay h o n run is_pass next = run_past lay h (row_over o Fill (node n (Settled Head)) 0 h) run record { before = refl; obeys = next; pass = is_pass; word = own_node_inside lay o n is_pass next.own } (no_freeze Fill refl)

module _ (lay : Layout) (h : History) (o s : ℕ) (run : IsMapRun lay h) (is_pass : o < lay.passes) (next : IsOpenScx lay h o s) where
  abbrev one : Row
  one = row_over o Fill (scx s Plan) 1 h

  abbrev planned : History
  planned = one ⊳ h

  abbrev two : Row
  two = row_over o Fill (scx s (Seen 0)) s planned

  abbrev filled : History
  filled = filled_past o s h

  inside : s < all_scx lay
  inside = own_scx_inside lay o s is_pass next.own

  run_one : IsMapRun lay planned
  run_one = run_past lay h one run record { before = refl; obeys = next; pass = is_pass; word = (inside, tt) } (no_freeze Fill refl)

  -- it stays unnamed
  unnamed_one : ¬ IsNamedScx planned s
  unnamed_one p = next.unnamed (p.0, held_back one h (info p.0) s (value_apart one h (scx s Plan) (info p.0) refl refl) p.1)

  unnamed_two : ¬ IsNamedScx filled s
  unnamed_two p = unnamed_one (p.0, held_back two planned (info p.0) s (value_apart two planned (scx s (Seen 0)) (info p.0) refl refl) p.1)

  open_one : IsOpenScx lay planned o s
  open_one = record { own = next.own; in_order = λ u own less. taken_scx_more one h u (next.in_order u own less); unnamed = unnamed_one }

  no_other : ¬ IsOthersScx lay o s
  no_other x = x.is_other (one_scx_owner lay x.pass o s x.owns next.own)

  run_two : IsMapRun lay filled
  run_two = run_past lay planned two run_one record { before = refl; obeys = (open_one, λ x. absurd (no_other x)); pass = is_pass; word = (inside, omega arith) } (no_freeze Fill refl)

  plan_is : plan filled s ≡ 1
  plan_is = value_apart two planned (scx s (Seen 0)) (scx s Plan) refl (scx_word_apart s s (Seen 0) Plan refl) ∙ value_at one h (scx s Plan) refl

  seen_is : seen filled s 0 ≡ s
  seen_is = value_at two planned (scx s (Seen 0)) refl

  some : 0 < count filled s
  some = subst (λ p. 0 < count_of p) (sym plan_is) (omega arith)

  unset : Dec (value filled (scx s AllFrozen) ≡ 0) → value filled (scx s AllFrozen) ≡ 0
  unset (yes e) = e
  unset (no d) = absurd (unnamed_two (member filled s 0, ((facts lay filled run_two.1.lawful).flagged s d).frozen 0 some))

  abort : IsAbort lay filled (row_over o Abort (state s) 2 filled) s 0
  abort = record {
    word = refl;
    stored = refl;
    unset = unset (ℕ_discrete (value filled (scx s AllFrozen)) 0);
    by = inl next.own;
    within = some;
    earlier = λ i few. absurd (omega (arith, few));
    never = λ p. unnamed_two (member filled s 0, p);
    passed = λ e. unnamed_two (member filled s 0, held_at filled (info (member filled s 0)) s (e ∙ seen_is));
  }

  pub scx_passed : IsMapRun lay (past_scx_of o s h)
  scx_passed = run_past lay filled (row_over o Abort (state s) 2 filled) run_two record { before = refl; obeys = (s, 0, abort); pass = is_pass; word = (inside, tt) } (λ e. let z : Abort ≡ Freeze = e in cc)

-- Its SCX-records are finished if they were

pub node_rests : (lay : Layout) (h : History) (o n : ℕ) → AreFinished lay o 0 h → AreFinished lay o 0 (past_node_of o n h)
node_rests lay h o n over t own real taken z = untaken_by_node h r n t (Settled Head) refl (λ y. over t own real y (sym (value_apart r h (node n (Settled Head)) (state t) refl refl) ∙ z)) taken
  where
    r : Row
    r = row_over o Fill (node n (Settled Head)) 0 h

pub scx_rests : (lay : Layout) (h : History) (o s : ℕ) → AreFinished lay o 0 h → AreFinished lay o 0 (past_scx_of o s h)
scx_rests lay h o s over t own real taken z = go (ℕ_discrete t s)
  where
    one : Row
    one = row_over o Fill (scx s Plan) 1 h

    two : Row
    two = row_over o Fill (scx s (Seen 0)) s (one ⊳ h)

    three : Row
    three = row_over o Abort (state s) 2 (two ⊳ one ⊳ h)

    same : t ≢ s → value (three ⊳ two ⊳ one ⊳ h) (state t) ≡ value h (state t)
    same d =
        value_apart three (two ⊳ one ⊳ h) (state s) (state t) refl (scx_apart s t State State (λ e. d (sym e)))
        ∙ value_apart two (one ⊳ h) (scx s (Seen 0)) (state t) refl (scx_word_apart s t (Seen 0) State refl)
        ∙ value_apart one h (scx s Plan) (state t) refl (scx_word_apart s t Plan State refl)

    go : Dec (t ≡ s) → ⊥
    go (yes e) =
        let ended : value (three ⊳ two ⊳ one ⊳ h) (state s) ≡ 2 = value_at three (two ⊳ one ⊳ h) (state s) refl in
        let open_still : value (three ⊳ two ⊳ one ⊳ h) (state s) ≡ 0 = subst (λ u. value (three ⊳ two ⊳ one ⊳ h) (state u) ≡ 0) e z in
        omega (arith, ended, open_still)
    go (no d) =
        untaken_by_step (two ⊳ one ⊳ h) three t (λ e. let k : Abort ≡ Fill = e in cc)
        (untaken_by_other_fill (one ⊳ h) two s t (Seen 0) refl d (untaken_by_other_fill h one s t Plan refl d (λ y. over t own real y (sym (same d) ∙ z))))
        taken

-- One name after another

abbrev row_in : Row → History → Row
row_in r (Opened p) = r
row_in r (q ⊳ h) = q

module _ (t : Lasting) (held : Held) (last : ℕ → History) (o : ℕ) (h : History) where
  pub none_passed : HasPassedOver t held last o h h
  none_passed r g within since = absurd (no_row_behind h g r within since)

  row_passed : (k : History) (q : Row) → HasPassedOver t held last o h k → q.pass.0 ≡ o → PassesOver t.lay (last o) q → ¬ IsHeld t held (record_of q.word) → HasPassedOver t held last o h (q ⊳ k)
  row_passed k q rows own past free r g (inl e) since = subst (λ (x : Row). (x.pass.0 ≡ o) × PassesOver t.lay (last o) x × ¬ IsHeld t held (record_of x.word)) (sym (ap (row_in q) e)) (own, past, free)
  row_passed k q rows own past free r g (inr e) since = rows r g e since

  pub passes_node : (k : History) (n : ℕ) → HasPassedOver t held last o h k → IsMapRun t.lay k → o < t.lay.passes → IsOpenNode t.lay k o n → ¬ IsTakenNode (last o) n → ¬ IsHeld t held (the_node n) → IsMapRun t.lay (past_node_of o n k) × HasPassedOver t held last o h (past_node_of o n k)
  passes_node k n rows run is_pass next free unheld = (
    node_passed t.lay k o n run is_pass next,
    row_passed k (row_over o Fill (node n (Settled Head)) 0 k) rows refl (past_node n free refl refl) unheld,
  )

  pub passes_scx : (k : History) (s : ℕ) → HasPassedOver t held last o h k → IsMapRun t.lay k → o < t.lay.passes → IsOpenScx t.lay k o s → ¬ IsTakenScx (last o) s → ¬ IsHeld t held (the_scx s) → IsMapRun t.lay (past_scx_of o s k) × HasPassedOver t held last o h (past_scx_of o s k)
  passes_scx k s rows run is_pass next free unheld = (
    scx_passed t.lay k o s run is_pass next,
    row_passed (filled_past o s k) (row_over o Abort (state s) 2 (filled_past o s k))
        (row_passed planned (row_over o Fill (scx s (Seen 0)) s planned) (row_passed k (row_over o Fill (scx s Plan) 1 k) rows refl (past_scx s Plan next.own free refl) unheld) refl (past_scx s (Seen 0) next.own free refl) unheld)
        refl (past_scx s State next.own free refl) unheld,
  )
    where
      planned : History
      planned = row_over o Fill (scx s Plan) 1 k ⊳ k
