-- A fork stays on the path of each key for as long as it is not final and no fork is put above
-- another: what puts one there covers node 2. So what covers node 2 with the SCX-record that a walk
-- to an end found there knows, when it wins, that the forks which it has passed since are on that
-- path still.
use Rattle.std.proofs.Common.{◌≡◌, ◌≢◌, ℕ, ◌/◌, ◌%◌, ◌<◌, Bool, true, false, ◌⊎◌, inl, inr, ⊎_elim, eqb, refl, sym, ◌∙◌, ap, arith, subst}
use native.Mathlib.Decide.{ℕ_discrete}
use Rattle.histories.specs.Common.{Layout, Row, Settled, Child, Head, ScxWord, Plan, Member, Seen, scx, child, info, marked, state, History, Opened, ◌⊳◌, value, Extends, HasHeld, HasWon, IsNamed, IsNamedScx, IsWin, opening_node, Lawful, log, is_final, count, count_of, member, seen}
use Rattle.arena.proofs.Lemmas.{ends_self, ends_trans, held_back}
use Rattle.histories.proofs.Lemmas.{Effect, Facts, FreezeWins, IsScxFill, UpdateWins, effect, facts, finished_stays, freeze, freeze_finds, freeze_held, freeze_keeps_field, freeze_keeps_scx, final_by, lawful_since, lawful_tail, named_since, node_stays, passed_stays, quiet, scx_since, some_is_real, update, update_flagged, update_held, update_in_progress, update_is_first, update_about, update_won, won_since}
use Rattle.ordered_map.specs.OrderedMap.{MapEdit}
use Rattle.ordered_map.specs.Paths.{IsOnPath, Passed}
use Rattle.ordered_map.specs.Runs.{IsMapRun}
use Rattle.ordered_map.specs.TreeWords.{is_leaf, toward, Passes}
use Rattle.ordered_map.proofs.Edited.{IsCut, result, tree_now}
use Rattle.ordered_map.proofs.EditedPaths.{fork_paths, second_or_two}
use Rattle.ordered_map.proofs.Grown.{IsGrown, grown_tail}
use Rattle.ordered_map.proofs.Meanings.{edits_of, grown, run_since, wins_of}
use Rattle.ordered_map.proofs.Past.{path_named, Latest, latest_now, latest_more, latest_goes_on}
use Rattle.ordered_map.proofs.Remaining.{cut_final, not_final_then}
use Rattle.ordered_map.proofs.Stood.{facts_then, tree_then, path_stays}
use Rattle.ordered_map.proofs.TreeFacts.{path_now}

-- an SCX-record that is finished stays so
finished_since : (lay : Layout) (h m : History) (s : ℕ) → Lawful lay h → Extends h m → value m (state s) ≢ 0 → value h (state s) ≢ 0
finished_since lay (Opened o) m s l e d = subst (λ x. value x (state s) ≢ 0) e d
finished_since lay (r ⊳ h) m s l (inl e) d = subst (λ x. value x (state s) ≢ 0) e d
finished_since lay (r ⊳ h) m s l (inr e) d = finished_stays lay h r s l (finished_since lay h m s (lawful_tail lay h r l) e d)

-- one that is not holds each node that it has held
holds_still : (lay : Layout) (h : History) (n s : ℕ) → Facts lay h → s ≢ 0 → value h (state s) ≡ 0 → HasHeld h (info n) s → value h (info n) ≡ s
holds_still lay h n s f real going held =
    let c = f.cell s n real held in
    subst (λ v. value h (info v) ≡ s) c.is ((f.about s n real held).holds c.index c.within (subst (λ v. HasHeld h (info v) s) (sym c.is) held) going)

-- Up to the moment `top` the SCX-record s, if there is one, is in progress and has not won, and of
-- node 2 it has seen the guard.
record IsGuard (lay : Layout) (top : History) (guard s : ℕ) : Type 0 where
  lawful : Lawful lay top
  going : s ≢ 0 → value top (state s) ≡ 0
  unwon : s ≢ 0 → ¬ HasWon top s
  saw : s ≢ 0 → (j : ℕ) → j < count top s → member top s j ≡ 2 → seen top s j ≡ guard

module _ (calls : ℕ → MapEdit) (lay : Layout) (k n guard s : ℕ) (top : History) (a : IsGuard lay top guard s) where
  -- the info of node 2 is no longer the guard, and s has not held node 2: so it never will
  abbrev IsPast : History → Type 0
  IsPast h = (value h (info 2) ≢ guard) × (s ≢ 0 → ¬ HasHeld h (info 2) s)

  -- or n is on the path
  abbrev IsGuarded : History → Type 0
  IsGuarded h = IsOnPath h k n ⊎ IsPast h

  going_then : (h : History) → Extends top h → s ≢ 0 → value h (state s) ≡ 0
  going_then h e real = go (ℕ_discrete (value h (state s)) 0)
    where
      go : Dec (value h (state s) ≡ 0) → value h (state s) ≡ 0
      go (yes z) = z
      go (no d) = absurd (finished_since lay top h s a.lawful e d (a.going real))

  -- one row more
  module _ (h : History) (r : Row) (within : Extends top (r ⊳ h)) (g : IsGrown calls lay (r ⊳ h)) (done : value h (state guard) ≢ 0) where
    abbrev f : Facts lay h
    f = facts_then calls lay h r g

    two_named : IsNamed lay h 2
    two_named = opening_node (rw g.mode (omega arith))

    -- where s freezes node 2, that names the guard
    guard_found : (u j : ℕ) → FreezeWins lay h r u j → s ≢ 0 → s ≡ u → member h u j ≡ 2 → HasHeld (r ⊳ h) (info 2) s → value h (info 2) ≡ guard
    guard_found u j w real e is held = ap (λ v. value h (info v)) (sym is) ∙ freeze_finds f w ∙ sym seen_is ∙ a.saw real j few member_is
      where
        same : (part : ScxWord) → IsScxFill part → value top (scx s part) ≡ value h (scx s part)
        same part i = scx_since lay top (r ⊳ h) s a.lawful within real (2, held) part i ∙ freeze_keeps_scx f w s part

        few : j < count top s
        few = subst (λ v. j < count_of v) (sym (same Plan tt)) (subst (λ v. j < count h v) (sym e) w.freeze.within)

        member_is : member top s j ≡ 2
        member_is = same (Member j) tt ∙ ap (λ v. member h v j) e ∙ is

        seen_is : seen top s j ≡ seen h u j
        seen_is = same (Seen j) tt ∙ ap (λ v. seen h v j) e

    still_passed : IsPast h → IsPast (r ⊳ h)
    still_passed d = (passed_stays lay h r 2 guard g.lawful two_named done d.0, λ real q. go real q (effect lay h r g.lawful))
      where
        go : s ≢ 0 → HasHeld (r ⊳ h) (info 2) s → Effect lay h r → ⊥
        go real q (quiet x) = d.1 real (held_back r h _ s (x.info 2) q)
        go real q (freeze u j w) = ⊎_elim (λ e. d.0 (guard_found u j w real e.0 e.1 q)) (d.1 real) (freeze_held f w 2 s q)
        go real q (update u w) = d.1 real (update_held f w 2 s q)

    -- where n is a fork, and is not final after it
    module _ (fork : is_leaf (value h) n ≡ false) (kept : is_final (log lay (r ⊳ h)) n ≡ false) where
      after_win : (u : ℕ) (w : UpdateWins h r u) → Passes (value h) k (tree_then calls lay h r g).tree n → IsGuarded (r ⊳ h)
      after_win u w q = ⊎_elim (λ second. go (fork_paths calls lay h r u f w g.mode g.lawful (tree_then calls lay h r g) k n fork second q)) (λ two. inr (still_passed (other two, not_held two))) (second_or_two calls lay h r u f w g.mode g.lawful (tree_then calls lay h r g))
        where
          -- what wins now is in progress, and the guard is finished
          other : value h (info 2) ≡ u → value h (info 2) ≢ guard
          other two e = done (subst (λ (v : ℕ). value h (state v) ≡ 0) (sym two ∙ e) (update_in_progress f w))

          -- nor is it s, which would hold node 2 if it had held it
          not_held : value h (info 2) ≡ u → s ≢ 0 → ¬ HasHeld h (info 2) s
          not_held two real held =
              let here : u ≡ s = sym two ∙ holds_still lay h 2 s f real (going_then h (ends_trans top (r ⊳ h) h within (inr (ends_self h))) real) held in
              a.unwon real (won_since lay top (r ⊳ h) s a.lawful within (subst (λ v. HasWon (r ⊳ h) v) here (update_won f w)))

          go : Passes (value (r ⊳ h)) k (result calls lay h r u f w g.mode g.lawful (tree_then calls lay h r g)).tree n ⊎ IsCut calls lay h r u f w g.mode g.lawful (tree_then calls lay h r g) n → IsGuarded (r ⊳ h)
          go (inl p) = inl record { tree = (result calls lay h r u f w g.mode g.lawful (tree_then calls lay h r g)).tree; is_tree = tree_now calls lay h r u f w g.mode g.lawful (tree_then calls lay h r g); passes = p }
          go (inr c) = absurd (let y : true ≡ false = sym (cut_final calls lay h r g n u w c) ∙ kept in cc)

      on_path_then : Passes (value h) k (tree_then calls lay h r g).tree n → IsGuarded (r ⊳ h)
      on_path_then q = go (effect lay h r g.lawful)
        where
          go : Effect lay h r → IsGuarded (r ⊳ h)
          go (quiet x) = inl (path_stays calls lay h r g (λ m side y. x.node m (Child side) tt y) k n q)
          go (freeze u j w) = inl (path_stays calls lay h r g (λ m side y. freeze_keeps_field f w m side) k n q)
          go (update u w) = after_win u w q

      guarded_step : IsGuarded h → IsGuarded (r ⊳ h)
      guarded_step (inr d) = inr (still_passed d)
      guarded_step (inl p) = on_path_then (path_now h (tree_then calls lay h r g).tree k n (tree_then calls lay h r g).is_tree p)

  -- A fork that was on a path once the guard was finished is on it still, if it is not final; or
  -- the info of node 2 is no longer the guard, and s can freeze it no more.
  grown_guarded : (h m : History) → Extends top h → IsGrown calls lay h → Extends h m → value m (state guard) ≢ 0 → IsOnPath m k n → is_leaf (value h) n ≡ false → is_final (log lay h) n ≡ false → IsGuarded h
  grown_guarded (Opened o) m w g e done p fork kept = inl (subst (λ x. IsOnPath x k n) e p)
  grown_guarded (r ⊳ h) m w g (inl e) done p fork kept = inl (subst (λ x. IsOnPath x k n) e p)
  grown_guarded (r ⊳ h) m w g (inr e) done p fork kept =
      let before : IsGrown calls lay h = grown_tail calls lay h r g in
      let named : IsNamed lay h n = named_since lay h m n before.lawful e (path_named lay m k n g.mode p) in
      let was : is_leaf (value h) n ≡ false = ap (λ v. eqb (v / 4 % 2) 1) (sym (node_stays lay h r n (Settled Head) g.lawful tt named)) ∙ fork in
      guarded_step h r w g (finished_since lay h m guard before.lawful e done) was kept
      (grown_guarded h m (ends_trans top (r ⊳ h) h w (inr (ends_self h))) before e done p was (not_final_then calls lay h r g n kept))

  -- what is past stays so
  past_since : (h m : History) → Extends top h → IsGrown calls lay h → Extends h m → value m (state guard) ≢ 0 → IsPast m → IsPast h
  past_since (Opened o) m w g e done d = subst IsPast e d
  past_since (r ⊳ h) m w g (inl e) done d = subst IsPast e d
  past_since (r ⊳ h) m w g (inr e) done d =
      let before : IsGrown calls lay h = grown_tail calls lay h r g in
      still_passed h r w g (finished_since lay h m guard before.lawful e done) (past_since h m (ends_trans top (r ⊳ h) h w (inr (ends_self h))) before e done d)

  -- So its fields are as at a moment when it was on the path.
  module _ (h : History) (r : Row) (g : IsGrown calls lay (r ⊳ h)) where
    -- what is final is marked
    final_marked : is_final (log lay (r ⊳ h)) n ≡ true → value (r ⊳ h) (marked n) ≢ 0
    final_marked e z =
        let x = final_by lay (r ⊳ h) n g.lawful e in
        let q : value (r ⊳ h) (marked n) ≡ 1 = subst (λ v. value (r ⊳ h) (marked v) ≡ 1) x.1.removed.is ((facts lay (r ⊳ h) g.lawful).all_marked x.0 x.1.won x.1.removed.index x.1.removed.within x.1.removed.removed) in
        omega (arith, z, q)

  grown_latest : (h m : History) → Extends top h → IsGrown calls lay h → Extends h m → value m (state guard) ≢ 0 → IsOnPath m k n → is_leaf (value h) n ≡ false → Latest h m k n ⊎ IsPast h
  grown_latest (Opened o) m w g e done p fork = inl (latest_now (Opened o) m k n e (subst (λ x. IsOnPath x k n) e p))
  grown_latest (r ⊳ h) m w g (inl e) done p fork = inl (latest_now (r ⊳ h) m k n (inl e) (subst (λ x. IsOnPath x k n) e p))
  grown_latest (r ⊳ h) m w g (inr e) done p fork = go (is_final (log lay (r ⊳ h)) n) refl (grown_latest h m (ends_trans top (r ⊳ h) h w (inr (ends_self h))) before e done p was)
    where
      before : IsGrown calls lay h
      before = grown_tail calls lay h r g

      named : IsNamed lay h n
      named = named_since lay h m n before.lawful e (path_named lay m k n g.mode p)

      was : is_leaf (value h) n ≡ false
      was = ap (λ v. eqb (v / 4 % 2) 1) (sym (node_stays lay h r n (Settled Head) g.lawful tt named)) ∙ fork

      go : (b : Bool) → is_final (log lay (r ⊳ h)) n ≡ b → Latest h m k n ⊎ IsPast h → Latest (r ⊳ h) m k n ⊎ IsPast (r ⊳ h)
      go false kept earlier = ⊎_elim (λ q. inl (latest_now (r ⊳ h) m k n (inr e) q)) inr (grown_guarded (r ⊳ h) m w g (inr e) done p fork kept)
      go true gone earlier = ⊎_elim (λ x. inl (latest_more calls lay h m r k n g named (final_marked h r g gone) x)) (λ d. inr (still_passed h r w g (finished_since lay h m guard before.lawful e done) d)) earlier

-- A walk to a key, which began once the SCX-record that node 2 then named was finished, goes on:
-- what it finds was on the path, or node 2 names another by now.
pub guarded_next : (lay : Layout) (h start : History) (k n guard : ℕ) → IsMapRun lay h → value start (state guard) ≢ 0 → Passed h start k n → is_leaf (value h) n ≡ false → Passed h start k (value h (child n (toward (value h) n k))) ⊎ (value h (info 2) ≢ guard)
guarded_next lay h start k n guard g done p fork = ⊎_elim (λ x. inl (latest_goes_on h p.0 start k n x p.2 fork)) (λ d. inr d.0) (grown_latest (edits_of lay h g).edits lay k n guard 0 h none h p.0 (ends_self h) (grown lay h g) p.1 finished p.3 fork)
  where
    none : IsGuard lay h guard 0
    none = record { lawful = g.1.lawful; going = λ real. absurd (real refl); unwon = λ real. absurd (real refl); saw = λ real. absurd (real refl) }

    finished : value p.0 (state guard) ≢ 0
    finished = finished_since lay p.0 start guard (lawful_since lay h p.0 g.1.lawful p.1) p.2 done

-- A walk to k, which began at the moment `start`, has come to n by the moment m: n was on the path,
-- or node 2 named another SCX-record than the guard, and s had not begun.
pub data HasComeBy (h start : History) (k n guard s : ℕ) : Type 0 where
  came : Passed h start k n → HasComeBy h start k n guard s
  changed : (m : History) → Extends h m → Extends m start → value m (info 2) ≢ guard → ¬ IsNamedScx m s → HasComeBy h start k n guard s

-- Just before an SCX-record wins that covers node 2, a fork to which a walk has come that began
-- once what the SCX-record has seen of node 2 was finished is on its path, if it is not final.
pub guarded_win : (lay : Layout) (h start : History) (row : Row) (s j k n : ℕ) → IsMapRun lay (row ⊳ h) → IsWin h row s → j < count h s → member h s j ≡ 2 → value start (state (seen h s j)) ≢ 0 → HasComeBy h start k n (seen h s j) s → is_leaf (value h) n ≡ false → is_final (log lay h) n ≡ false → IsOnPath h k n
guarded_win lay h start row s j k n g won few two done x fork kept = go x
  where
    run : IsMapRun lay h
    run = run_since lay (row ⊳ h) h g (inr (ends_self h))

    calls : ℕ → MapEdit
    calls = (edits_of lay h run).edits

    f : Facts lay h
    f = facts lay h run.1.lawful

    w : UpdateWins h row s
    w = wins_of lay h row s g.1.lawful won

    held : HasHeld h (info 2) s
    held = subst (λ v. HasHeld h (info v) s) two ((update_flagged f w).frozen j few)

    saw : (i : ℕ) → i < count h s → member h s i ≡ 2 → seen h s i ≡ seen h s j
    saw i y is = same (ℕ_discrete i j)
      where
        same : Dec (i ≡ j) → seen h s i ≡ seen h s j
        same (yes q) = ap (seen h s) q
        same (no d) = absurd ((update_about f w).distinct i j y few d (is ∙ sym two))

    real : s ≢ 0
    real = some_is_real f (update_flagged f w).some

    guard : IsGuard lay h (seen h s j) s
    guard = record { lawful = run.1.lawful; going = λ _. update_in_progress f w; unwon = λ _. update_is_first f w; saw = λ _. saw }

    finished : (m : History) → Extends h m → Extends m start → value m (state (seen h s j)) ≢ 0
    finished m e since = finished_since lay m start (seen h s j) (lawful_since lay h m run.1.lawful e) since done

    go : HasComeBy h start k n (seen h s j) s → IsOnPath h k n
    go (came p) = ⊎_elim (λ q. q) (λ d. absurd (d.1 real held)) (grown_guarded calls lay k n (seen h s j) s h guard h p.0 (ends_self h) (grown lay h run) p.1 (finished p.0 p.1 p.2) p.3 fork kept)
    go (changed m e since other none) = absurd ((past_since calls lay k n (seen h s j) s h guard h m (ends_self h) (grown lay h run) e (finished m e since) (other, λ _ y. none (2, y))).1 real held)
