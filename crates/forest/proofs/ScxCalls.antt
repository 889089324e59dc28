-- What a call of `scx` says.
use Rattle.std.proofs.Common.{◌≡◌, ◌<◌, ◌≤◌, ◌+◌, ◌⊎◌, ◌↔◌, ℕ, inl, inr, Bool, true, false, cond, eqb, List, [], ◌∷◌, length, None, refl, sym, ◌∙◌, ap, subst, arith}
use Rattle.atomic_table.specs.declared.shared.Seat.{Seat}
use Rattle.arena.specs.Layout.{IsMap}
use Rattle.histories.specs.Common.{Layout, NodeNo, Side, state, value, History, Opened, ◌⊳◌, Extends, IsOwnNode, IsOwnScx, IsTakenScx, Lawful, HasWon, Entry, log, has, IsEntered, Freeze, Records, Resource, Nodes}
use Rattle.arena.specs.Log.{AreOnce}
use Rattle.histories.proofs.Lemmas.{IsIn, Logs, aborted_never_won, lawful_tail, logs, newest, older, once, same as log_same, wins as log_wins}
use Rattle.template.specs.Common.{AllowsAll, HasChanged, IsAmong, ListsNode, update_field_index, snap_at, nodes_of, PutIsReady, PutWaits, PutAnswers, Snap, Scx, Done, Lost, PutRun}
use Rattle.prims.specs.Moments.{IsAsFound}
use Rattle.prims.specs.Scx.Known.{IsEntryAt, IsDone as IsScxDone, removed_nodes, update_entry}
use Rattle.prims.proofs.Lemmas.{removed_those, left_own_node, left_own_scx, same_end, taken_share, upper_end, next_free, next_unwon, all_over, put_ready_first}
use Rattle.prims.specs.declared.scx.ScxAt.TheVariants.{Start as ScxStart}
use Rattle.prims.specs.declared.put.PutAt.TheVariants.{Start as PutStart}
use Rattle.arena.specs.Share.{after_taking, IsFullOf}
use Rattle.arena.specs.declared.fault.Resource.TheVariants.{Scx as ScxRecords}
use Rattle.tables.specs.declared.memory.PassMemory.{PassMemory}
use Rattle.tables.specs.declared.view.SeatView.{SeatView}
use Rattle.forest.specs.declared.pass.Pass.TheInside.{Inside}
use Rattle.tables.specs.CallSteps.{AnyLeft, no_map_of_cells}
use Rattle.tables.specs.TableRule.{history_of}
use Rattle.tables.specs.Traces.{IsSeated, Trace, HoldsForCall, seat_steps, run_at}
use Rattle.tables.specs.Shares.{HasFewNames, IsBetweenCalls, entries_of}
use Rattle.forest.specs.Puts.{IsPutOver}
use Rattle.tables.specs.Passes.{PassView, AreOfCall, HasGoneOn, IsAllTaken, IsLaterView, CanUse, HasLeftAlone, Each, ScxSays, done_of, run_of, taken_of}
use Rattle.forest.specs.PassInvariant.{pass_view, layout_in, IsPass}
use Rattle.tables.proofs.Frames.{CarriesOn}
use Rattle.straight.proofs.AfterCalls.{HasHand, course_keeps, put_goes, put_rests}
use Rattle.forest.proofs.Called.{course_calls, course_since}
use Rattle.forest.proofs.Passes.{begun_with, call_of, can_use_later, steps_are}
use Rattle.forest.proofs.Blames.{blamed_later}
use Rattle.forest.proofs.VlxCalls.{each_at}
use Rattle.straight.proofs.Advances.{call_back}

-- Entries

-- a list in which no SCX-record has two entries
in_entered : (e : Entry) (es : List Entry) → IsIn e es → IsEntered es e.scx
in_entered e _ (newest es) = inl refl
in_entered e _ (older x es i) = inr (in_entered e es i)

once_same : (a b : Entry) (es : List Entry) → AreOnce es → a.scx ≡ b.scx → IsIn a es → IsIn b es → a ≡ b
once_same a b [] o e i j = absurd (none a i)
  where
    none : (x : Entry) → IsIn x [] → ⊥
    none x i = let z : IsEntered [] x.scx = in_entered x [] i in z
once_same a b (x ∷ es) o e i j = go (split a i) (split b j) (once_same a b es o.1 e)
  where
    split : (y : Entry) → IsIn y (x ∷ es) → (y ≡ x) ⊎ IsIn y es
    split y (newest _) = inl refl
    split y (older _ _ k) = inr k

    go : (a ≡ x) ⊎ IsIn a es → (b ≡ x) ⊎ IsIn b es → (IsIn a es → IsIn b es → a ≡ b) → a ≡ b
    go (inl p) (inl q) more = p ∙ sym q
    go (inl p) (inr q) more = absurd (o.0 (subst (λ s. IsEntered es s) (sym e ∙ ap (λ (z : Entry). z.scx) p) (in_entered b es q)))
    go (inr p) (inl q) more = absurd (o.0 (subst (λ s. IsEntered es s) (e ∙ ap (λ (z : Entry). z.scx) q) (in_entered a es p)))
    go (inr p) (inr q) more = more p q

-- an entry of the log stays
in_since : (lay : Layout) (h m : History) (e : Entry) → Lawful lay h → Extends h m → IsIn e (log lay m) → IsIn e (log lay h)
in_since lay (Opened o) m e l p i = subst (λ k. IsIn e (log lay k)) p i
in_since lay (r ⊳ h) m e l (inl p) i = subst (λ k. IsIn e (log lay k)) p i
in_since lay (r ⊳ h) m e l (inr p) i = go (logs lay h r l) (in_since lay h m e (lawful_tail lay h r l) p i)
  where
    go : Logs lay h r → IsIn e (log lay h) → IsIn e (log lay (r ⊳ h))
    go (log_same q back) j = rw q j
    go (log_wins u w q) j = rw q (older _ _ j)

-- an entry of the pass is one of the list
in_entries : (c : ℕ) (e : Entry) (es rest : List Entry) → entries_of c es ≡ e ∷ rest → IsIn e es
in_entries c e [] rest q = cc
in_entries c e (x ∷ es) rest q = go (eqb x.owner c) q (in_entries c e es rest)
  where
    first : (a b : Entry) (more others : List Entry) → a ∷ more ≡ b ∷ others → a ≡ b
    first a b more others p = cc

    go : (t : Bool) → cond t (x ∷ entries_of c es) (entries_of c es) ≡ e ∷ rest → (entries_of c es ≡ e ∷ rest → IsIn e es) → IsIn e (x ∷ es)
    go true p more = subst (λ y. IsIn y (x ∷ es)) (first x e _ _ p) (newest es)
    go false p more = older x es (more p)

-- Calls

-- further on it is still that
put_same : (old now : PutRun) (snaps : List Snap) (finalize : List NodeNo) (field : ℕ × Side) (v node scx number : ℕ) → (now.scx.scx ≡ old.scx.scx) × (now.scx.update ≡ old.scx.update) × (now.scx.call ≡ old.scx.call) × (now.value ≡ old.value) → IsPutOver old snaps finalize field v node scx number → IsPutOver now snaps finalize field v node scx number
put_same old now snaps finalize field v node scx number s x = record {
  over = rw s.1 x.over;
  snaps_are = rw s.1 x.snaps_are;
  fresh = rw s.1 x.fresh;
  record_is = rw s.0 x.record_is;
  called = rw s.2 x.called;
  removed = rw s.1 x.removed;
  node_is = rw s.1 x.node_is;
  side = rw s.1 x.side;
  is_value = s.3 ∙ x.is_value;
}

-- where none of its names is left, all of them are taken
pub all_taken : (p : PassView) (what : Resource) (k : ℕ) → HasFewNames p.layout → IsBetweenCalls p.layout p.number (run_of p) p.share → IsFullOf p.share what k → IsAllTaken p what
all_taken p Nodes k few x full = λ n own. x.share.taken_nodes n own (let e = (upper_end p.layout p.number p.share (x.upper few)).0 in let z = full.0 in let b = own.below in omega (arith, e, z, b))
all_taken p ScxRecords k few x full = λ s own. x.share.taken_scx s own (let e = (upper_end p.layout p.number p.share (x.upper few)).1 in let z = full.1 in let b = own.below in omega (arith, e, z, b))

-- it has the next records of the pass's share, and the snapshots, in hand
put_hand : (m : PutRun) (snaps : List Snap) (finalize : List NodeNo) (field : ℕ × Side) (v node scx number : ℕ) → IsPutOver m snaps finalize field v node scx number → HasHand m node scx snaps
put_hand m snaps finalize field v node scx number x = record { fresh = x.fresh; record_is = x.record_is; snaps_are = x.snaps_are }

module _ {T : Type 0} (p : Inside T) (x : IsPass AllowsAll Records p) (some_node : 0 < p.share.nodes) (some_scx : 0 < p.share.scx) (snaps : List Snap) (finalize : List NodeNo) (field : ℕ × Side) (v number : ℕ) where
  -- a run of this call
  abbrev pub Is : PutRun → Type 0
  Is m = IsPutOver m snaps finalize field v p.share.next_node p.share.next_scx number

  abbrev start : History
  start = run_at p.seat.me.0.passes

  own_node : IsOwnNode (layout_in p) p.number.0 p.share.next_node
  own_node = left_own_node (layout_in p) start p.number.0 p.share _ _ p.share.next_node x.rest.share record { from = omega arith; below = omega arith }

  own_scx : IsOwnScx (layout_in p) p.number.0 p.share.next_scx
  own_scx = left_own_scx (layout_in p) start p.number.0 p.share _ _ p.share.next_scx x.rest.share record { from = omega arith; below = omega arith }

  free : ¬ IsTakenScx start p.share.next_scx
  free = next_free (layout_in p) start p.number.0 p.share _ _ x.rest.share own_scx

  pub put_begins : (m : PutRun) → Is m → m.at ≡ PutStart → m.scx.at ≡ ScxStart → Each (CanUse (pass_view p)) snaps → HoldsForCall AllowsAll (AnyLeft m) p.seat.me.0.passes (call_of p x number) (λ h. ((call_of p x number).start ≡ h) × PutIsReady AllowsAll m (call_of p x number) h None)
  put_begins m of at scx_at usable = begun_with p x number tt (put_ready_first (layout_in p) p.number.0 number x.is_pass start m x.sound.lawful of.over (rw of.snaps_are (each_at (CanUse (pass_view p)) snaps usable)) at
      scx_at (rw of.record_is own_scx) (rw of.record_is x.rest.share.taken_scx) (rw of.record_is free) (rw of.fresh own_node) (rw of.fresh x.rest.share.taken_nodes)
      (rw of.fresh (x.rest.share.unmentioned p.share.next_node own_node (omega arith)))
      (rw of.fresh (x.rest.share.untaken_nodes p.share.next_node own_node (omega arith)))
      (all_over (layout_in p) start p.number.0 p.share _ _ x.rest.share x.rest.over))

  -- what the pass has after the call
  pub record HasPut (s : Seat ℕ SeatView) (a : Scx) : Type 0 where
    pub seat : IsSeated p.number.0 (layout_in p) s.me.0.passes
    pub run : PutRun
    pub is_of : Is run
    pub answers : PutAnswers run (call_of p x number) (run_at s.me.0.passes) a
    pub goes : CarriesOn AllowsAll (layout_in p) p.number.0 start (run_at s.me.0.passes) (after_taking p.share) p.share.next_node p.share.next_scx snaps
    pub calls : AreOfCall p.number.0 number start (run_at s.me.0.passes)

  abbrev pub Same : PutRun → PutRun → Type 0
  Same old now = (now.scx.scx ≡ old.scx.scx) × (now.scx.update ≡ old.scx.update) × (now.scx.call ≡ old.scx.call) × (now.value ≡ old.value)

  pub put_called : {left : PassMemory → Type 0} (s : Seat ℕ SeatView) (first m : PutRun) (a : Scx) → Is first → HoldsForCall AllowsAll left s.me.0.passes (call_of p x number) (λ h. PutAnswers m (call_of p x number) h a × Trace AllowsAll (PutWaits AllowsAll) Same (call_of p x number) first m h) → HasPut s a
  put_called s first m a of y =
      let now : history_of y.planting y.known ≡ run_at s.me.0.passes = sym (ap run_at y.is.alone) in
      record {
        seat = call_back s.me.0.passes (call_of p x number) y.planting y.known y.is (course_since (call_of p x number) m _ y.so.1);
        run = m;
        is_of = course_keeps Is of (λ old now e q. put_same old now snaps finalize field v p.share.next_node p.share.next_scx number e q) m _ y.so.1;
        answers = subst (λ h. PutAnswers m (call_of p x number) h a) now y.so.0;
        goes = subst (λ h. CarriesOn AllowsAll (layout_in p) p.number.0 start h (after_taking p.share) p.share.next_node p.share.next_scx snaps) now
            (put_goes Same (call_of p x number) first (after_taking p.share) p.share.next_node p.share.next_scx snaps (put_hand first snaps finalize field v p.share.next_node p.share.next_scx number of)
            (λ old now e q. record { fresh = rw e.1 q.fresh; record_is = rw e.0 q.record_is; snaps_are = rw e.1 q.snaps_are })
            (omega arith) (omega arith) x.sound (taken_share (layout_in p) start p.number.0 p.share some_node some_scx x.rest.share) x.rest.over
            (λ w. next_unwon (layout_in p) start p.number.0 p.share _ _ x.sound.lawful x.rest.share own_scx w.1) m _ y.so.1).1;
        calls = subst (λ h. AreOfCall p.number.0 number start h) now (course_calls (call_of p x number) m _ y.so.1);
      }

  -- the pass with what is left of its share, and its seat as it is now
  abbrev pub spent : Seat ℕ SeatView → Inside T
  spent s = record p { share = after_taking p.share; seat = s }

  pub put_pass : (s : Seat ℕ SeatView) (a : Scx) → s.me.1 ≡ p.seat.me.1 → HasPut s a → IsPass AllowsAll Records (spent s)
  put_pass s a bare y = record {
    seat = y.seat;
    bare = bare ∙ x.bare;
    is_mode = x.is_mode;
    is_pass = x.is_pass;
    first_is = x.first_is;
    few = x.few;
    sound = y.goes.sound;
    rest = put_rests (call_of p x number) y.run _ a (after_taking p.share) p.share.next_node p.share.next_scx snaps (put_hand y.run snaps finalize field v p.share.next_node p.share.next_scx number y.is_of) (omega arith) (omega arith) (λ e. let q = own_scx.from in omega arith) y.answers y.goes (λ few. same_end p.share some_node some_scx ∙ x.rest.upper few);
    dealt = λ map. absurd (no_map_of_cells (subst IsMap x.is_mode map));
    blamed = blamed_later (pass_view p) (pass_view (spent s)) refl refl refl y.goes.sound.lawful y.goes.since x.blamed;
  }

  pub put_says : (s : Seat ℕ SeatView) (a : Scx) → number ≡ taken_of (pass_view p) → HasPut s a → ScxSays (pass_view p) (pass_view (spent s)) snaps finalize field v a
  put_says s Done is y = (
    e,
    record {
      row = d.entry.row;
      before = d.entry.before;
      within = at.within;
      since = at.since;
      wins = at.wins;
      logged = at.logged;
      done = z.2 ∙ ap (λ k. k ∷ done_of (pass_view p)) same;
      of_pass = refl;
      of_record = y.is_of.record_is;
      of_call = y.is_of.called ∙ is;
      members = ap nodes_of y.is_of.snaps_are;
      removed = λ n. subst (λ l. (has (removed_nodes m.scx.update.plan.0 l 0) n ≡ true) ↔ (IsAmong snaps n × ListsNode finalize n)) (sym y.is_of.snaps_are) (removed_those m.scx.update.plan.0 snaps _ y.is_of.removed n);
      node = ap (λ l. (snap_at l (update_field_index m.scx.update)).node.0) y.is_of.snaps_are ∙ y.is_of.node_is;
      side = y.is_of.side;
      fresh = y.is_of.fresh;
      has_value = y.answers.1.value ∙ y.is_of.is_value;
      empty_fields = y.answers.1.empty;
      found = subst (λ l. (i : ℕ) → i < length l → IsAsFound (layout_in p) h d.entry.before (snap_at l i)) y.is_of.snaps_are at.found;
    },
  )
    where
      m : PutRun
      m = y.run

      h : History
      h = run_at s.me.0.passes

      e : Entry
      e = update_entry p.number.0 m.scx

      d : IsScxDone (call_of p x number) h m.scx
      d = y.answers.1.done

      at : IsEntryAt (call_of p x number) h m.scx d.entry.row d.entry.before
      at = d.entry.is

      z : (k : Entry) × (k.scx ≡ p.share.next_scx) × (done_of (pass_view (spent s)) ≡ k ∷ done_of (pass_view p))
      z = y.goes.won (own_scx, subst (λ k. HasWon h k) y.is_of.record_is d.won)

      same : z.0 ≡ e
      same = once_same z.0 e (log (layout_in p) h) (once (layout_in p) h y.goes.sound.lawful) (z.1 ∙ sym y.is_of.record_is) (in_entries p.number.0 z.0 (log (layout_in p) h) (done_of (pass_view p)) z.2)
          (in_since (layout_in p) h (d.entry.row ⊳ d.entry.before) e y.goes.sound.lawful at.within (subst (λ l. IsIn e l) (sym at.logged) (newest _)))
  put_says s (Lost n u) is y = (
    subst (λ l. HasChanged (layout_in p) p.number.0 Freeze h start l n.0 u.0) y.is_of.snaps_are y.answers.1.changed,
    y.goes.unwon (λ w. aborted_never_won (layout_in p) h y.run.scx.scx.0 y.goes.sound.lawful y.answers.1.aborted (rw y.is_of.record_is w.1)),
    subst (λ (k : ℕ). value h (state k) ≡ 2) y.is_of.record_is y.answers.1.aborted,
  )
    where
      h : History
      h = run_at s.me.0.passes

  -- snapshots of other nodes are still left alone
  pub put_alone : (s : Seat ℕ SeatView) (a : Scx) → HasPut s a → (snap : Snap) → ¬ IsAmong snaps snap.node.0 → HasLeftAlone (pass_view p) snap → HasLeftAlone (pass_view (spent s)) snap
  put_alone s a y = y.goes.alone

  -- its run is extended
  pub put_goes_on : (s : Seat ℕ SeatView) (a : Scx) (left most : ℕ) → s.table_id ≡ p.seat.table_id → s.me.1 ≡ p.seat.me.1 → HasPut s a → seat_steps s.me.0.passes ≤ seat_steps p.seat.me.0.passes + left → left ≤ most → HasGoneOn AllowsAll (pass_view p) (pass_view (spent s)) number most p.blamed
  put_goes_on s a left most table bare y few small = record {
    later = later;
    lawful = y.goes.sound;
    calls = y.calls;
    steps = let a = steps_are p.number.0 (layout_in p) s.me.0.passes y.seat in let b = steps_are p.number.0 (layout_in p) p.seat.me.0.passes x.seat in omega arith;
    blamed_these = refl;
    blames = (put_pass s a bare y).blamed;
    rest = (put_pass s a bare y).rest;
    usable = can_use_later (pass_view p) (pass_view (spent s)) later y.goes.sound.lawful;
  }
    where
      later : IsLaterView (pass_view p) (pass_view (spent s))
      later = record { table = table; layout = refl; number = refl; run = y.goes.since }
