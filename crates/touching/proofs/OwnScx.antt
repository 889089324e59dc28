-- An SCX of an edit of a map fills its own SCX-record, and then finds that, and nodes that were in
-- the tree, or in the trie, at a moment of the call, or that an SCX-record covers that was in
-- progress at one.
use Rattle.std.proofs.Common.{◌≡◌, ◌≢◌, ◌<◌, ℕ, false, List, inl, inr, ⊎_elim, length, refl, sym, ◌∙◌, ap, subst, arith}
use native.Mathlib.Decide.{ℕ_discrete}
use Rattle.histories.specs.Common.{Layout, Step, ScxNo, State, History, Opened, ◌⊳◌, Extends, value, info, state, count, count_of, member, seen, AreFrozen, IsNamedScx, IsTakenScx, IsInProgress, Lawful, Call, begun_at}
use Rattle.arena.proofs.Lemmas.{ends_self, ends_trans, held_back}
use Rattle.histories.proofs.Lemmas.{Effect, Facts, FreezeWins, effect, facts_before, freeze, freeze_held, freeze_in_progress, freeze_keeps_scx, lawful_since, lawful_tail, named_scx_taken, planned_taken, quiet, update, update_held}
use Rattle.help.specs.Allowed.{IsPrepared}
use Rattle.help.specs.Help.Known.{HelpKnows, IsServed, Reading, reading, help_step}
use Rattle.help.specs.Laws.Help.Allowing.{later_self}
use Rattle.help.specs.declared.state.HelpAt.{HelpAt}
use Rattle.ordered_map.specs.Runs.{IsMapRun}
use Rattle.ordered_map.specs.TreeShape.{TreeAllows}
use Rattle.ordered_map.specs.TreeWords.{is_leaf}
use Rattle.ordered_map.proofs.MapLemmas.{run_since}
use Rattle.ordered_map.specs.Paths.{WasInTree}
use Rattle.prims.specs.Laws.InTheWay.{HasBeen, been_more}
use Rattle.template.specs.Common.{IsSnapshot}
use Rattle.prims.specs.Scx.Known.{Job, HasFilled, ScxWaitsAt}
use Rattle.prims.specs.Snap.{snap_at}
use Rattle.prims.specs.declared.snap.Snap.{Snap}
use Rattle.prims.specs.declared.scx.ScxAt.{ScxAt}
use Rattle.prims.specs.declared.scx.ScxAt.TheVariants as at_scx
use Rattle.touching.specs.Kinds.{IsInTree}
use Rattle.touching.specs.Touches.{WasInProgress}
use Rattle.touching.proofs.Changing.{fills_at, untaken}
use Rattle.touching.proofs.Finding.{FillsOrFinds, Finds, FindsNode, FindsScx, found_covered, found_filled, found_so}
use Rattle.touching.proofs.Helping.{help_at, running_member}
use Rattle.touching.proofs.Moments.{been_wider}
use Rattle.touching.proofs.Reached.{info_reached}
use Rattle.touching.proofs.Standing.{fork_now, fork_then}

-- between a moment at which no info word had named it and one at which one had, an SCX-record was
-- in progress
begun_since : (lay : Layout) (h b : History) (s : ℕ) → Lawful lay h → Extends h b → ¬ IsNamedScx b s → IsNamedScx h s → HasBeen h b (λ m. IsInProgress m s)
begun_since lay (Opened o) b s l e free p = absurd (free (subst (λ k. IsNamedScx k s) (sym e) p))
begun_since lay (r ⊳ h) b s l (inl e) free p = absurd (free (subst (λ k. IsNamedScx k s) (sym e) p))
begun_since lay (r ⊳ h) b s l (inr e) free p = go (effect lay h r l) (λ q. been_more r h b (λ m. IsInProgress m s) (begun_since lay h b s (lawful_tail lay h r l) e free q))
  where
    f : Facts lay h
    f = facts_before lay h r l

    now : (u j : ℕ) → FreezeWins lay h r u j → s ≡ u → HasBeen (r ⊳ h) b (λ m. IsInProgress m s)
    now u j w q = record {
      moment = r ⊳ h;
      within = ends_self (r ⊳ h);
      since = inr e;
      was = record { unfinished = subst (λ v. value (r ⊳ h) (state v) ≡ 0) (sym q) (freeze_keeps_scx f w u State ∙ freeze_in_progress f w); named = p };
    }

    go : Effect lay h r → (IsNamedScx h s → HasBeen (r ⊳ h) b (λ m. IsInProgress m s)) → HasBeen (r ⊳ h) b (λ m. IsInProgress m s)
    go (quiet k) before = before (p.0, held_back r h (info p.0) s (k.info p.0) p.1)
    go (update u w) before = before (p.0, update_held f w p.0 s p.1)
    go (freeze u j w) before = ⊎_elim (λ q. now u j w q.0) (λ q. before (p.0, q)) (freeze_held f w p.0 s p.1)

-- the snapshot was right at a moment of the call, by which its node had been in the tree
pub record WasSnapped (c : Call) (h : History) (snap : Snap) : Type 0 where
  pub moment : History
  pub within : Extends h moment
  pub since : Extends moment c.start
  pub stood : WasInTree moment snap.node.0
  pub is : IsSnapshot c.layout moment snap.node.0 snap

abbrev pub WereSnapped : Call → History → List Snap → Type 0
WereSnapped c h snaps = (i : ℕ) → i < length snaps → WasSnapped c h (snap_at snaps i)

abbrev pub InTree : Layout → History → ℕ → Type 0
InTree lay h n = IsInTree h n

-- the SCX began at the moment `b` of the call, and its snapshots were taken in the call before
module _ (c : Call) (b h : History) (run : IsMapRun c.layout h) (since : Extends b c.start) (later : Extends h b) (m : Job) (snapped : WereSnapped c b m.update.snaps) where
  module _ (s : ℕ) (filled : HasFilled (begun_at c b) h s m.call m.update) where
    free : ¬ IsTakenScx c.start s
    free = untaken InTree TreeAllows c b h run.1 since m s filled.way.free

    real : s ≢ 0
    real e = let a = filled.own.from in omega (arith, a, e)

    few : count h s ≡ length m.update.snaps
    few = ap count_of filled.planned ∙ filled.over.count

    -- once it is named, it was in progress in the call
    member_found : IsNamedScx h s → (j : ℕ) → j < count h s → AreFrozen h s j → FindsNode InTree c h (member h s j)
    member_found named j i frozen = running_member InTree c h run.1.lawful s j i frozen in_call
      where
        start : Extends h c.start
        start = ends_trans h b c.start later since

        in_call : WasInProgress c h s
        in_call = begun_since c.layout h c.start s run.1.lawful start (λ q. free (named_scx_taken c.layout c.start s (lawful_since c.layout h c.start run.1.lawful start) real q)) named

    -- its first node was a fork of the tree when its snapshot was taken, or has been covered since
    module _ (some : 0 < count h s) (ready : IsPrepared TreeAllows c.layout c.pass h s) where
      abbrev first_snap : Snap
      first_snap = snap_at m.update.snaps 0

      in_list : 0 < length m.update.snaps
      in_list = subst (λ k. 0 < k) few some

      u : WasSnapped c b first_snap
      u = snapped 0 in_list

      here : Extends h u.moment
      here = ends_trans h b u.moment later u.within

      node_is : member h s 0 ≡ first_snap.node.0
      node_is = filled.members 0 in_list

      seen_is : seen h s 0 ≡ first_snap.scx.0
      seen_is = filled.found 0 in_list

      by_fork : is_leaf (value h) (member h s 0) ≡ false → FindsNode InTree c h first_snap.node.0
      by_fork fork = found_so record {
        moment = u.moment;
        within = here;
        since = u.since;
        was = fork_now c.layout u.moment first_snap.node.0 (run_since c.layout h u.moment run here) u.stood u.is.not_final
            (fork_then c.layout h u.moment first_snap.node.0 run here u.stood (subst (λ n. is_leaf (value h) n ≡ false) node_is fork));
      }

      by_allowed : TreeAllows c.layout h s → FindsNode InTree c h first_snap.node.0
      by_allowed (inl e) = by_fork e.1.fork
      by_allowed (inr p) = absurd (real p.dummy)

      by_change : value h (info first_snap.node.0) ≢ value u.moment (info first_snap.node.0) → FindsNode InTree c h first_snap.node.0
      by_change d =
          found_covered (value h (info first_snap.node.0)) (been_wider h u.moment c.start _ u.since (info_reached c.layout h u.moment first_snap.node.0 run.1.lawful here d))

      first_found : FindsNode InTree c h (member h s 0)
      first_found = subst (FindsNode InTree c h) (sym node_is) (go (ℕ_discrete (value h (info (member h s 0))) (seen h s 0)))
        where
          go : Dec (value h (info (member h s 0)) ≡ seen h s 0) → FindsNode InTree c h first_snap.node.0
          go (yes q) = by_allowed (ready.allowed h (later_self c.pass s h) run.1 refl ready.begins q)
          go (no d) = by_change (λ q. d (ap (λ n. value h (info n)) node_is ∙ q ∙ u.is.info ∙ sym seen_is))

    -- so far it has filled it
    own_word : FindsScx InTree c h s
    own_word = found_filled filled.own free (planned_taken c.layout h s run.1.lawful (subst (λ p. 0 < count_of p) (sym filled.planned) filled.over.planned.some))

    own_member : (j : ℕ) → IsServed TreeAllows c.layout c.pass h s → j < count h s → AreFrozen h s j → FindsNode InTree c h (member h s j)
    own_member j served within frozen = go served (ℕ_discrete j 0)
      where
        go : IsServed TreeAllows c.layout c.pass h s → Dec (j ≡ 0) → FindsNode InTree c h (member h s j)
        go (inl started) _ = member_found started.named j within frozen
        go (inr ready) (yes e) = subst (λ i. FindsNode InTree c h (member h s i)) (sym e) (first_found (omega (arith, within)) ready)
        go (inr ready) (no d) = member_found (member h s 0, frozen 0 (omega (arith, d))) j within frozen

    -- HELP of it
    help_there : (r : Reading) → r.scx ≡ s → (at : HelpAt) → HelpKnows TreeAllows c.layout c.pass h r at → Finds InTree c h (help_step h r.scx at).word
    help_there r is = help_at c.layout h run.1.lawful r TreeAllows c.pass (Finds InTree c h) (λ part. subst (FindsScx InTree c h) (sym is) own_word)
        (λ j part. subst (λ v. IsServed TreeAllows c.layout c.pass h v → j < count h v → AreFrozen h v j → FindsNode InTree c h (member h v j)) (sym is) (own_member j))

  pub scx_there : (at : ScxAt) (s : Step) → ScxWaitsAt TreeAllows (begun_at c b) h m at s → FillsOrFinds InTree c h s
  scx_there at_scx.Start s k = absurd k
  scx_there at_scx.Plan s k = fills_at InTree TreeAllows c b h run.1 since m at_scx.Plan s k
  scx_there at_scx.New s k = fills_at InTree TreeAllows c b h run.1 since m at_scx.New s k
  scx_there at_scx.Old s k = fills_at InTree TreeAllows c b h run.1 since m at_scx.Old s k
  scx_there (at_scx.Member j) s k = fills_at InTree TreeAllows c b h run.1 since m (at_scx.Member j) s k
  scx_there (at_scx.Seen j) s k = fills_at InTree TreeAllows c b h run.1 since m (at_scx.Seen j) s k
  scx_there at_scx.Call s k = fills_at InTree TreeAllows c b h run.1 since m at_scx.Call s k
  scx_there (at_scx.Help help) s k = inr (rw k.0.asked (help_there m.scx.0 k.2 (reading help) (ap (λ (n : ScxNo). n.0) k.1) help.at k.0.known))
