-- What a run of LLX knows and waits for after each of its turns.
use Rattle.std.proofs.Common.{◌≡◌, ◌≢◌, ℕ, Bool, true, false, not, eqb, eq-eqb, ne_eqb, Option, Some, None, ◌⊎◌, inl, inr, refl, sym, ◌∙◌, arith, unwrap_or}
use native.Mathlib.Decide.{ℕ_discrete}
use Rattle.histories.specs.Common.{Layout, ScxNo, Turn, Done, Step, LoadInfo, LoadState, LoadMarked, LoadChild, Side, Left, Right, info, marked, child, state, History, value, HasHeld, Extends, IsRun, Call}
use Rattle.arena.proofs.Lemmas.{held_at}
use Rattle.histories.proofs.Lemmas.{Facts, IsEnded, aborted_unmarked, by_final, committed_won, facts, fields_are, not_final}
use Rattle.help.specs.Help.Known.{HelpAnswers}
use Rattle.help.specs.declared.state.HelpRun.{HelpRun}
use Rattle.help.specs.declared.state.HelpAt.TheVariants.{Start as HelpStart}
use Rattle.prims.specs.Laws.Idle.{IsQuietSince}
use Rattle.prims.specs.Laws.InTheWay.{IsBehind, IsDisturbed, in_progress, came_marked, passed, been_now, way_now, open_at_start, flagged_commits, blame_met, way_others}
use Rattle.prims.specs.Laws.Linked.{marker_named}
use Rattle.prims.specs.Snap.{child_of}
use Rattle.prims.specs.Llx.Known.{HasMet, HasStopped, IsToBlame, IsFinishedUnmarked, IsOpened, IsSnapshot, IsFinalBy, LlxAsks, ReadsLeft, Declines, Differs, Snaps, Finalizes, LooksLast, LlxHelps, load, LlxKnows, LlxHasAsked, LlxIsTold, LlxIsReady, LlxTurn}
use Rattle.prims.specs.declared.llx.Llx.{Llx}
use Rattle.prims.specs.declared.llx.Llx.TheVariants.{Fail}
use Rattle.prims.specs.declared.llx.LlxRun.{LlxRun}
use Rattle.prims.specs.declared.llx.LlxAt.{LlxAt}
use Rattle.prims.specs.declared.llx.LlxAt.TheVariants.{Start, Marked, Info, State, MarkedAgain, Left as AtLeft, Right as AtRight, InfoAgain, StateAgain, LastInfo, LastState}

-- what a run of LLX knows at its place, once its step has found this
pub record Knows (allows : Layout → History → ℕ → Type 0) (c : Call) (h : History) (n : ℕ) (at : LlxAt) (found : ℕ) : Type 0 where
  pub opened : IsOpened c.layout h n
  pub since : Extends h c.start
  pub quiet : IsQuietSince c.layout c.pass c.start h
  pub known : LlxKnows c h n at
  pub told : LlxIsTold allows c h n at found
  pub behind : IsBehind h c.start

-- a run that is past its start and may be called has got something there
pub knows : (allows : Layout → History → ℕ → Type 0) (m : LlxRun) (c : Call) (h : History) (got : Option ℕ) (found : ℕ) (at : LlxAt) → m.at ≡ at → (at ≡ Start → ⊥) → found ≡ unwrap_or got 0 → LlxIsReady allows m c h got → Knows allows c h m.node.0 at found
knows allows m c h None found at is d e r = absurd (d (sym is ∙ r.told))
knows allows m c h (Some v) found at is d e r = record { opened = r.opened; since = r.since; quiet = r.quiet; known = rw (sym is) r.known; told = rw (e, sym is) r.told.0; behind = r.told.1 }

module _ (allows : Layout → History → ℕ → Type 0) (c : Call) (h : History) (run : IsRun allows c.layout h) where
  -- a run that has asked for a step waits for it
  waits_at : (old now : LlxRun) (turn : Turn Llx) (at : LlxAt) (step : Step) → LlxAsks old now turn at step → IsOpened c.layout h old.node.0 → Extends h c.start → IsQuietSince c.layout c.pass c.start h → LlxKnows c h old.node.0 at → LlxHasAsked allows c h old.node.0 at step → LlxTurn allows c h now turn
  waits_at old now turn at step a o f q k e = rw (a.asked, a.stands) record { opened = o; since = f; quiet = q; known = k; asked = e }

  -- HELP may begin for an SCX-record that an info names and that is in progress
  pub new_help : (n : ℕ) (s : ScxNo) (help : HelpRun) → IsOpened c.layout h n → Extends h c.start → IsQuietSince c.layout c.pass c.start h → HasHeld h (info n) s.0 → value h (state s.0) ≡ 0 → help.scx ≡ s → help.at ≡ HelpStart → LlxHelps allows c h n help None
  new_help n s help o f w p e q z = record {
    run = run;
    opened = o;
    since = f;
    quiet = w;
    ready = (z, inl (rw q record { real = λ y. (let d = (facts c.layout h run.lawful).dummy in let w : value h (state 0) ≡ 0 = rw y at e in omega arith); named = (n, p) }));
  }

  -- the run begins with a load of the mark
  pub turn_first : (m now : LlxRun) (turn : Turn Llx) → LlxIsReady allows m c h None → LlxAsks m now turn Marked (load LoadMarked (marked m.node.0)) → LlxTurn allows c h now turn
  turn_first m now turn r a = waits_at m now turn Marked _ a r.opened r.since r.quiet tt refl

  -- after the first mark it loads the info
  pub turn_info : (m now : LlxRun) (turn : Turn Llx) (b : Bool) (v : ℕ) → Knows allows c h m.node.0 Marked v → (b ≡ true → v ≢ 0) → (b ≡ false → v ≡ 0) → LlxAsks m now turn (Info b) (load LoadInfo (info m.node.0)) → LlxTurn allows c h now turn
  turn_info m now turn b v k d z a = waits_at m now turn (Info b) _ a k.opened k.since k.quiet (λ e. (facts c.layout h run.lawful).mark m.node.0 (λ z. d e (sym k.told ∙ z)), λ e. been_now h c.start (λ x. value x (marked m.node.0) ≡ 0) k.since (k.told ∙ z e)) refl

  -- after the info it loads the state of the SCX-record named there
  pub turn_state : (m now : LlxRun) (turn : Turn Llx) (b : Bool) (v : ℕ) → Knows allows c h m.node.0 (Info b) v → LlxAsks m now turn (State b record { 0 = v }) (load LoadState (state v)) → LlxTurn allows c h now turn
  turn_state m now turn b v k a = waits_at m now turn (State b record { 0 = v }) _ a k.opened k.since k.quiet
      record {
        held = held_at h (info m.node.0) v k.told.0;
        named = been_now h c.start (λ x. value x (info m.node.0) ≡ v) k.since k.told.0;
        found = k.told.1;
        finalizes = λ e. marker_named c.layout h m.node.0 v run.lawful (λ z. let y = k.known.0 e in omega arith) k.told.0;
        unmarked = k.known.1;
      }
      refl

  -- after the state it loads the mark once more
  pub turn_mark : (m now : LlxRun) (turn : Turn Llx) (b : Bool) (s : ScxNo) (v : ℕ) → Knows allows c h m.node.0 (State b s) v → LlxAsks m now turn (MarkedAgain b s v) (load LoadMarked (marked m.node.0)) → LlxTurn allows c h now turn
  turn_mark m now turn b s v k a = waits_at m now turn (MarkedAgain b s v) _ a k.opened k.since k.quiet
      (k.known, λ d. k.told, λ e. way_now c.layout h c.start m.node.0 s.0 run.lawful k.behind k.known.held (k.told ∙ e))
      refl

  -- where that lets it read on no more, something disturbed it
  declined : (n : ℕ) (b : Bool) (s : ScxNo) (v found : ℕ) (again : Bool) → Knows allows c h n (MarkedAgain b s v) found → (again ≡ true → found ≢ 0) → v ≢ 2 → (v ≡ 1 → again ≡ true) → IsDisturbed h c.start n s.0
  declined n b s v found again k d two one = go (ℕ_discrete v 0)
    where
      f : Facts c.layout h
      f = facts c.layout h run.lawful

      ends : v ≢ 0 → IsEnded h s.0 (value h (state s.0)) → v ≡ 1
      ends z (inl x) = sym (k.known.1 z) ∙ x.0
      ends z (inr x) = absurd (two (sym (k.known.1 z) ∙ x.0))

      go : Dec (v ≡ 0) → IsDisturbed h c.start n s.0
      go (yes z) = in_progress (k.known.2 z)
      go (no z) = came_marked (f.mark n (λ e. d (one (ends z (f.ended s.0 (λ y. z (sym (k.known.1 z) ∙ y))))) (sym k.told ∙ e)))

  -- after the second mark it loads the left field, or the state once more
  pub turn_read : (m now : LlxRun) (turn : Turn Llx) (b : Bool) (s : ScxNo) (v found : ℕ) (again : Bool) → Knows allows c h m.node.0 (MarkedAgain b s v) found → (again ≡ false → found ≡ 0) → (again ≡ true → found ≢ 0) → ReadsLeft m now turn b s v again ⊎ Declines m now turn b s v again → LlxTurn allows c h now turn
  turn_read m now turn b s v found again k d t (inr a) = waits_at m now turn (StateAgain b s) _ a.asks k.opened k.since k.quiet record { met = k.known.0; disturbed = declined m.node.0 b s v found again k t a.not_aborted a.marked } refl
  turn_read m now turn b s v found again k d t (inl a) = waits_at m now turn (AtLeft b s) _ a.asks k.opened k.since k.quiet (k.known.0, go a.in_place) refl
    where
      go : (v ≡ 2) ⊎ ((v ≡ 1) × (again ≡ false)) → IsFinishedUnmarked h m.node.0 s.0
      go (inl e) = let q = k.known.1 (λ z. omega arith) in record { rest = λ z. omega arith; unmarked = λ i. aborted_unmarked c.layout h m.node.0 s.0 run.lawful i (q ∙ e) }
      go (inr e) = let q = k.known.1 (λ z. let y = e.0 in omega arith) in record { rest = λ z. let y = e.0 in omega arith; unmarked = λ i. k.told ∙ d e.1 }

  -- after the left field it loads the right one
  pub turn_right : (m now : LlxRun) (turn : Turn Llx) (b : Bool) (s : ScxNo) (v : ℕ) → Knows allows c h m.node.0 (AtLeft b s) v → LlxAsks m now turn (AtRight b s v) (load LoadChild (child m.node.0 Right)) → LlxTurn allows c h now turn
  turn_right m now turn b s v k a = waits_at m now turn (AtRight b s v) _ a k.opened k.since k.quiet (k.known.0, k.known.1, λ e. k.told) refl

  -- after the fields it loads the info once more
  pub turn_again : (m now : LlxRun) (turn : Turn Llx) (b : Bool) (s : ScxNo) (x v : ℕ) → Knows allows c h m.node.0 (AtRight b s x) v → LlxAsks m now turn (InfoAgain b s x v) (load LoadInfo (info m.node.0)) → LlxTurn allows c h now turn
  turn_again m now turn b s x v k a = waits_at m now turn (InfoAgain b s x v) _ a k.opened k.since k.quiet (k.known.0, k.known.1, k.known.2, λ e. k.told) refl

  -- fields that were read while the info was that finished SCX-record are the snapshot's
  snapshot : (n : ℕ) (b : Bool) (s : ScxNo) (x y : ℕ) → IsOpened c.layout h n → LlxKnows c h n (InfoAgain b s x y) → value h (info n) ≡ s.0 → IsSnapshot c.layout h n record { node = record { 0 = n }; scx = s; left = record { 0 = x }; right = record { 0 = y } }
  snapshot n b s x y o k e = record {
    node = refl;
    linked = record { in_field = o.in_field; inside = o.inside; held = k.0.held; rest = k.1.rest; unmarked = k.1.unmarked; had = λ side. held_at h (child n side) _ (fields side e); fields = fields };
    info = e;
    left = sym (k.2 e) ∙ fields_are c.layout h n Left run.lawful;
    right = sym (k.3 e) ∙ fields_are c.layout h n Right run.lawful;
    not_final = not_final c.layout h n run.lawful (k.1.unmarked e);
  }
    where
      fields : (side : Side) → value h (info n) ≡ s.0 → value h (child n side) ≡ (child_of record { node = record { 0 = n }; scx = s; left = record { 0 = x }; right = record { 0 = y } } side).0
      fields Left = k.2
      fields Right = k.3

  -- after the second info it ends with the snapshot, or loads the state once more
  pub turn_compare : (m now : LlxRun) (turn : Turn Llx) (b : Bool) (s : ScxNo) (x y found : ℕ) → Knows allows c h m.node.0 (InfoAgain b s x y) found
      → Snaps now m turn record { node = m.node; scx = s; left = record { 0 = x }; right = record { 0 = y } } found ⊎ Differs m now turn b s found → LlxTurn allows c h now turn
  turn_compare m now turn b s x y found k (inr a) = waits_at m now turn (StateAgain b s) _ a.asks k.opened k.since k.quiet record { met = k.known.0; disturbed = passed k.known.1.rest (λ e. a.other (sym k.told.0 ∙ e)) } refl
  turn_compare m now turn b s x y found k (inl a) = rw (a.done, a.run) (snapshot m.node.0 b s x y k.opened k.known (k.told.0 ∙ a.same), k.told.1, k.known.0.found)

  -- a committed SCX-record that finalizes the node made it final
  final_by_met : (n s : ℕ) (b : Bool) → HasMet c h n b s → b ≡ true → value h (state s) ≡ 1 → IsFinalBy c.layout h n s
  final_by_met n s b m e q = record { final = by_final c.layout h n s run.lawful record { won = committed_won c.layout h s run.lawful q; removed = (m.finalizes e).removed }; by = m.finalizes e; committed = q }

  -- where the SCX-record that it met is finished and not committed, the first load had found no
  -- mark
  pub not_marked : (n s : ℕ) (b : Bool) → HasMet c h n b s → value h (state s) ≢ 0 → value h (state s) ≢ 1 → b ≡ false
  not_marked n s false x d e = refl
  not_marked n s true x d e = absurd (e (flagged_commits c.layout h n s run.lawful (x.finalizes refl) d))

  -- once the SCX-record that it met is finished, it ends with a
  -- finalized node, or loads the info for the last time
  pub turn_helped : (m now : LlxRun) (turn : Turn Llx) (b t : Bool) (s : ScxNo) → IsOpened c.layout h m.node.0 → Extends h c.start → IsQuietSince c.layout c.pass c.start h → HasStopped c h m.node.0 b s.0 → (t ≡ true → (b ≡ true) × (value h (state s.0) ≡ 1)) → (t ≡ false → b ≡ false) → Finalizes now m turn t s ⊎ LooksLast m now turn t → LlxTurn allows c h now turn
  turn_helped m now turn b t s o f q x d z (inr a) = waits_at m now turn LastInfo _ a.asks o f q (s.0, rw (z a.not_final) at x) refl
  turn_helped m now turn b t s o f q x d z (inl a) = rw (a.done, a.run) (refl, final_by_met m.node.0 s.0 b x.met (d a.final).0 (d a.final).1, x.met.found)

  -- after the last info it loads the state of the SCX-record named there, which is to blame
  pub turn_last : (m now : LlxRun) (turn : Turn Llx) (v : ℕ) → Knows allows c h m.node.0 LastInfo v → LlxAsks m now turn (LastState record { 0 = v }) (load LoadState (state v)) → LlxTurn allows c h now turn
  turn_last m now turn v k a = waits_at m now turn (LastState record { 0 = v }) _ a k.opened k.since k.quiet
      record {
        held = held_at h (info m.node.0) v k.told.0;
        found = k.told.1;
        in_the_way = blame_met c.layout h c.start m.node.0 k.known.0 v run.lawful (k.known.1.met.unmarked refl) k.known.1.met.named k.known.1.disturbed k.told.0;
        not_final = open_at_start c.layout h c.start m.node.0 run.lawful (k.known.1.met.unmarked refl);
      }
      refl

  -- once that one is finished it fails
  pub turn_fail : (m : LlxRun) (turn : Turn Llx) (s : ScxNo) → IsQuietSince c.layout c.pass c.start h → IsToBlame c h m.node.0 s.0 → value h (state s.0) ≢ 0 → turn ≡ Done (Fail m.node s) → LlxTurn allows c h m turn
  turn_fail m turn s q x d e = rw e (refl, record { found = x.found; others = way_others c.layout c.pass h c.start m.node.0 s.0 run.lawful q x.in_the_way; in_the_way = x.in_the_way; over = d; not_final = x.not_final })

-- where HELP answers true, its SCX-record is committed
pub committed_state : (c : Call) (h : History) (b : Bool) (now help : HelpRun) → HelpAnswers c.layout c.pass now h b → now.scx ≡ help.scx → b ≡ true → value h (state help.scx.0) ≡ 1
committed_state c h true now help a e t = rw e at a
committed_state c h false now help a e t = cc

-- where HELP answers false, its SCX-record is aborted
pub aborted_state : (c : Call) (h : History) (b : Bool) (now help : HelpRun) → HelpAnswers c.layout c.pass now h b → now.scx ≡ help.scx → b ≡ false → value h (state help.scx.0) ≡ 2
aborted_state c h false now help a e t = rw e at a.aborted
aborted_state c h true now help a e t = cc

-- whatever HELP answers, its SCX-record is finished
pub over_state : (c : Call) (h : History) (b : Bool) (now help : HelpRun) → HelpAnswers c.layout c.pass now h b → now.scx ≡ help.scx → value h (state help.scx.0) ≢ 0
over_state c h true now help a e z = let x = committed_state c h true now help a e refl in omega arith
over_state c h false now help a e z = let x = aborted_state c h false now help a e refl in omega arith

-- where the test for 0 fails, the value is not 0
pub not_zero : (v : ℕ) → not (eqb v 0) ≡ true → v ≢ 0
not_zero v e z = let x : eqb v 0 ≡ true = eq-eqb v 0 z in cc

-- where the test for 0 holds, the value is 0
pub is_zero : (v : ℕ) → not (eqb v 0) ≡ false → v ≡ 0
is_zero v e = go (ℕ_discrete v 0)
  where
    go : Dec (v ≡ 0) → v ≡ 0
    go (yes z) = z
    go (no d) = absurd (let x : eqb v 0 ≡ false = ne_eqb v 0 d in cc)
