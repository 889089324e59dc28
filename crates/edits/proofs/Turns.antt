-- What an update waits for after each of its turns.
use Rattle.std.proofs.Common.{◌≡◌, ◌≢◌, ℕ, suc, ◌-◌, ◌<◌, ◌⊎◌, true, false, inr, refl, ⊎_elim, sym, ◌∙◌, ap, subst, arith}
use Rattle.histories.specs.Common.{Turn, Ask, Done, NodeNo, ScxNo, Step, Store, Fill as FillKind, LoadMarked, LoadSettled, NodeWord, Settled, Head as HeadWord, Node as NodeOf}
use Rattle.histories.specs.Common.{History, ◌⊳◌, value, Extends, IsNamedScx, IsOwnNode, IsOwnScx, IsTakenNode, Lawful, Call, IsRun, MatchTurn, begun_at, Remaining, marked, node, state}
use Rattle.arena.proofs.Lemmas.{ends_self, ends_trans}
use Rattle.histories.proofs.Lemmas.{finished_taken}
use Rattle.prims.specs.Laws.FoundThere.{there_wider}
use Rattle.prims.specs.Laws.Idle.{IsQuietSince, quiet_at_start}
use Rattle.ordered_map.proofs.MapLemmas.{two_stood}
use Rattle.template.specs.Common.{HasFoundThere, IsMapRun, IsOpened, IsOwnMoment, IsSnapshot, Llx, LlxAnswers, LlxRun, LlxWaits, MayGo, Snap, Snapshot, WalkKnows, load, AreFinished, Job, ScxWaits, IsShare, Scx as ScxAnswer, Done as ScxDone, Lost, ScxRun}
use Rattle.template.specs.Common.{Update, TreeAllows, FoundBy, Tracks, WalkIsTold, WalkWaits, IsPastRoot, IsContended, HasTriedAllBut}
use Rattle.prims.specs.Scx.Known.{IsDone, IsLost, ScxAnswers}
use Rattle.prims.specs.declared.llx.LlxAt.TheVariants.{Start as LlxStart, Marked as AtMarked}
use Rattle.prims.proofs.Lemmas.{over_ends, turn_first}
use Rattle.template.proofs.Lemmas.{contended_wider, next_again, opened_if_stood, own_since, tried_in}
use Rattle.template.specs.Walk.Known.{LoadsChild, WalkAnswers}
use Rattle.template.specs.declared.walk.Found.{Found}
use Rattle.template.specs.declared.walk.WalkAt.TheVariants.{Root}
use Rattle.template.specs.declared.walk.WalkRun.{WalkRun}
use Rattle.edits.specs.declared.edit.Look.TheVariants.{At}
use Rattle.edits.specs.declared.edit.Nth.{Nth}
use Rattle.edits.specs.declared.piece.Piece.{Piece}
use Rattle.edits.specs.declared.update.Updated.{Updated}
use Rattle.edits.specs.declared.update.UpdateAt.TheVariants.{Walk, Guard, Look, Fill, Scx}
use Rattle.edits.specs.declared.update.UpdateRun.{UpdateRun}
use Rattle.edits.specs.Next.{guard_begun, guard_step, standing}
use Rattle.edits.specs.Edits.{EditMeaning, says}
use Rattle.edits.specs.Sound.{HasGuardAtEnd, IsAtFound}
use Rattle.edits.specs.Known.{RestsWith, AreSnappedInCall, CoversEnd, CoversLeaf, Guarded, Guards, HasGuard, MayBeginTry, Walks, CanLook, CanFill, Scxs, IsUntouched, HasLostTry, HasLostEveryTry, TryWaits, UpdateWaits, UpdateAnswers, HasMade, ToldEnd, done_at}
use Rattle.edits.specs.Laws.Entered.{none_filled_yet, none_joined, none_lost, none_quiet}
use Rattle.edits.specs.Laws.Kept.{idle_rests}
use Rattle.edits.specs.Laws.Trying.{past_root}
use Rattle.edits.specs.Pieces.{nth_node, word_of}
use Rattle.edits.specs.Tries.{HasEnteredOnly, HasEnteredNone, MayTry, IsTry}
use Rattle.edits.proofs.Blaming.{lost_contended}
use Rattle.edits.proofs.Looking.{is_needed}
use Rattle.edits.proofs.Making.{made_at_leaf}
use Rattle.edits.proofs.Widened.{found_by_wider}

-- where the SCX-record in hand is finished, the pass is at rest again
rests_again : (c : Call) (h : History) (left : Remaining) (m : ScxRun) → Lawful c.layout h → IsShare c.layout h c.pass left left.next_node m.scx.0 → left.next_scx ≡ suc m.scx.0 → AreFinished c.layout c.pass m.scx.0 h → m.scx.0 ≢ 0 → value h (state m.scx.0) ≢ 0 → RestsWith c h left
rests_again c h left m l share next over real finished = record {
  share = record {
    from_node = share.from_node;
    to_node = share.to_node;
    from_scx = share.from_scx;
    to_scx = share.to_scx;
    taken_nodes = share.taken_nodes;
    taken_scx = λ s o i. ⊎_elim (share.taken_scx s o) (λ e. rw e (finished_taken c.layout h m.scx.0 l real finished)) (less s (rw next at i));
    unmentioned = share.unmentioned;
    untaken_nodes = share.untaken_nodes;
    untaken = share.untaken;
  };
  over = over_ends c.layout c.pass m.scx.0 h over finished;
}
  where
    less : (s : ℕ) → s < suc m.scx.0 → (s < m.scx.0) ⊎ (s ≡ m.scx.0)
    less s i = grind arith

module _ {E : Type 0} (e : EditMeaning E) where
  -- its walk begins with the root's head, and a try with it
  pub begins_walk : {A : Type 0} (m : UpdateRun E A) (walk : WalkRun) (c : Call) (h : History) → MayBeginTry e m c h → MayTry c h h m.limit m.tries → IsUntouched c h m.share → walk.goal ≡ e.goal m.edit → walk.way ≡ e.way m.edit → walk.trail.node.0 ≡ 0 → UpdateWaits e (standing m (Walk (record walk { at = Root }))) c h (load LoadSettled (node 0 (Settled HeadWord)))
  begins_walk m walk c h b try first is by root = (
    h,
    try,
    first,
    (
      record { small = b.small; may = b.may; rests = record { share = b.rests.share; over = b.rests.over }; quiet = quiet_at_start c.layout c.pass h (idle_rests c h m.share b.run.1.lawful b.rests); none_filled = none_filled_yet c.pass h; same = is; same_way = by },
      record { run = b.run; may = rw (is, by) b.may; small = rw is b.small; since = ends_self h; known = root; sure = λ w. record { above = λ d. absurd (d root); leaves = λ x. absurd x }; asked = ap (λ n. load LoadSettled (node n (Settled HeadWord))) (sym root) },
      λ past. absurd past,
    ),
  )

  -- its walk asks for a step, past the root's head
  pub walks_on : {A : Type 0} (m : UpdateRun E A) (walk after : WalkRun) (c : Call) (b h : History) (v : ℕ) (turn : Turn Found) (step : Step) → IsTry c b h m.limit m.tries → IsUntouched c b m.share → Walks e m (begun_at c b) h walk.way walk.goal → (after.goal ≡ walk.goal) × (after.way ≡ walk.way) → IsPastRoot after.at → turn ≡ Ask step → ((g : History) → WalkIsTold walk (begun_at c g) h v → MatchTurn turn (WalkWaits after (begun_at c g) h) (WalkAnswers after (begun_at c g) h)) → WalkIsTold walk (begun_at c b) h v → Guarded e m.edit (begun_at c b) h m.guard (λ k. WalkIsTold walk k h v) → UpdateWaits e (standing m (Walk after)) c h step
  walks_on m walk after c b h v turn step try first x same past asked w told guarded = (
    b,
    past_root after.at past try,
    first,
    (
      record { small = x.small; may = x.may; rests = x.rests; quiet = x.quiet; none_filled = x.none_filled; same = same.0 ∙ x.same; same_way = same.1 ∙ x.same_way },
      rw asked at (w b told),
      λ _ is. let y = guarded is in (y.0, y.1, rw asked at (w y.0 y.2)),
    ),
  )

  -- its walk gets something, at a moment of the call
  pub walk_rests : {A : Type 0} (m : UpdateRun E A) (walk : WalkRun) (c : Call) (h : History) (v : ℕ) → Walks e m c h walk.way walk.goal → WalkIsTold walk c h v → MayBeginTry e m c h
  walk_rests m walk c h v x told = record { run = told.run; small = x.small; may = x.may; since = own_since c h told.own; rests = x.rests }

  -- its walk has found a leaf
  pub walk_finds : {A : Type 0} (m : UpdateRun E A) (walk after : WalkRun) (c : Call) (h : History) (turn : Turn Found) (f : Found) → Walks e m c h walk.way walk.goal → (after.goal ≡ walk.goal) × (after.way ≡ walk.way) → turn ≡ Done f → (k : Call) → MatchTurn turn (WalkWaits after k h) (WalkAnswers after k h) → FoundBy (e.way m.edit) (e.goal m.edit) k h f
  walk_finds m walk after c h turn f x same done k w = subst (λ way. FoundBy way (e.goal m.edit) k h f) (same.1 ∙ x.same_way) (subst (λ goal. FoundBy after.way goal k h f) (same.0 ∙ x.same) (rw done at w))

  -- behind the root's head it begins with its guard
  pub guard_begins : {A : Type 0} (m : UpdateRun E A) (walk : WalkRun) (c : Call) (b h : History) (v : ℕ) → IsTry c b h m.limit m.tries → IsUntouched c b m.share → Walks e m (begun_at c b) h walk.way walk.goal → WalkIsTold walk (begun_at c b) h v → walk.at ≡ Root → e.guard m.edit ≡ true → UpdateWaits e (standing m (Guard walk v guard_begun)) c h guard_step
  guard_begins m walk c b h v try first x told at asked = (
    b,
    try,
    first,
    (
      h,
      record {
        run = told.run;
        small = x.small;
        may = x.may;
        rests = x.rests;
        quiet = x.quiet;
        none_filled = x.none_filled;
        same = x.same;
        same_way = x.same_way;
        asked = asked;
        at = at;
        root = root;
        told = ap (λ n. value h (node n (Settled HeadWord))) (sym root) ∙ rw at at told.told;
        is_two = refl;
        now = own_since (begun_at c b) h told.own;
        since = own_since (begun_at c b) h told.own;
      },
      turn_first TreeAllows (begun_at (begun_at c b) h) h told.run.1 (record { node = record { 0 = 2 }; at = LlxStart }) guard_begun (Ask guard_step) record {
        opened = opened_if_stood c.layout h 2 told.run (two_stood c.layout h told.run).0;
        since = ends_self h;
        quiet = quiet_at_start c.layout c.pass h (idle_rests (begun_at c b) h m.share told.run.1.lawful x.rests);
        known = tt;
        told = refl;
      } record { stands = refl; asked = refl },
    ),
  )
    where
      root : walk.trail.node.0 ≡ 0
      root = subst (WalkKnows (begun_at c b) h walk) at told.known

  module _ {A : Type 0} (m : UpdateRun E A) (walk : WalkRun) (head : ℕ) (llx after : LlxRun) (c : Call) (b begin h : History) (turn : Turn Llx) (try : IsTry c b h m.limit m.tries) (first : IsUntouched c b m.share) (x : Guards e m (begun_at c b) h walk head llx begin) (same : after.node ≡ llx.node)
      (w : MatchTurn turn (LlxWaits TreeAllows after (begun_at (begun_at c b) begin) h) (LlxAnswers after (begun_at (begun_at c b) begin) h)) where
    abbrev d : Call
    d = begun_at c b

    two : after.node.0 ≡ 2
    two = ap (λ (n : NodeNo). n.0) same ∙ x.is_two

    -- its LLX asks for a step
    pub guard_asks : (step : Step) → turn ≡ Ask step → UpdateWaits e (standing m (Guard walk head after)) c h step
    guard_asks step asked = (b, try, first, (begin, record { run = x.run; small = x.small; may = x.may; rests = x.rests; quiet = x.quiet; none_filled = x.none_filled; same = x.same; same_way = x.same_way; asked = x.asked; at = x.at; root = x.root; told = x.told; is_two = two; now = x.now; since = x.since }, rw asked at w))

    pub guard_walks : (snap : Snap) → Walks e (record m { guard = snap }) d h walk.way walk.goal
    guard_walks snap = record { small = x.small; may = x.may; rests = x.rests; quiet = x.quiet; none_filled = x.none_filled; same = x.same; same_way = x.same_way }

    -- the walk continues with the root's head, as one of the call or of that from its guard on
    told_then : (k : Call) → k.layout ≡ c.layout → IsOwnMoment k h → WalkIsTold walk k h head
    told_then k lay own = record {
      run = subst (λ l. IsMapRun l h) (sym lay) x.run;
      may = subst (λ l. MayGo l walk.way walk.goal) (sym lay) (rw (x.same, x.same_way) x.may);
      small = rw x.same x.small;
      own = own;
      known = subst (WalkKnows k h walk) (sym x.at) x.root;
      sure = λ _. record { above = λ n. absurd (n x.root); leaves = λ l. absurd (subst LoadsChild x.at l) };
      told = rw (x.at, x.root) x.told;
    }

    pub guard_told : IsOwnMoment d h → WalkIsTold walk d h head
    guard_told own = told_then d refl own

    -- its LLX has taken a snapshot
    pub guard_kept : (snap : Snap) → turn ≡ Done (Snapshot snap) → IsOwnMoment d h → Guarded e m.edit d h snap (λ k. WalkIsTold walk k h head)
    guard_kept snap done own _ = (
      own.before,
      record {
        row = own.row;
        within = subst (λ k. Extends k (own.row ⊳ own.before)) (sym own.is) (ends_self (own.row ⊳ own.before));
        since = own.since;
        is = subst (λ k. IsSnapshot c.layout k 2 snap) own.is (subst (λ n. IsSnapshot c.layout h n snap) two (rw done at w).0);
        met = subst (λ k. HasFoundThere c.pass k b 2 snap.scx.0) own.is (there_wider c.pass h begin b 2 snap.scx.0 x.since (subst (λ n. HasFoundThere c.pass h begin n snap.scx.0) two (rw done at w).2));
      },
      told_then (begun_at d own.before) refl record { row = own.row; before = own.before; is = own.is; since = ends_self own.before; own = own.own },
    )

    -- or the try is lost
    pub guard_lost : (n : NodeNo) (s : ScxNo) → IsContended d h n.0 s.0 → MayBeginTry e m c h × HasLostTry e m.edit c h m.limit m.tries n.0 s.0
    guard_lost n s way = (
      record { run = x.run; small = x.small; may = x.may; since = ends_trans h b c.start x.now try.since; rests = record { share = x.rests.share; over = x.rests.over } },
      record { begin = b; try = try; way = way; none = none_joined c.layout c.pass h b c.start x.now try.none (none_quiet c.layout c.pass h b x.run.1.lawful x.quiet); needed = λ z. absurd (let y : true ≡ false = sym x.asked ∙ z in cc) },
    )

  -- its LLX may begin, and asks for the mark of its node
  pub looks_at : {A : Type 0} (m : UpdateRun E A) (f : Found) (n : NodeNo) (c : Call) (h : History) → IsRun TreeAllows c.layout h → CanLook e m c h f → e.looks m.edit f m.snaps.items ≡ At n → IsOpened c.layout h n.0 → TryWaits e (standing m (Look f (record { node = n; at = AtMarked }))) c h (load LoadMarked (marked n.0))
  looks_at m f n c h run x named opened = (
    h,
    record {
      run = x.begins.run;
      looked = x.looked;
      rests = x.begins.rests;
      asked = x.asked;
      room = x.room;
      named = named;
      now = x.begins.since;
      quiet = x.quiet;
      since = x.begins.since;
      guarded = x.guarded;
    },
    turn_first TreeAllows (begun_at c h) h run (record { node = n; at = LlxStart }) (record { node = n; at = AtMarked }) (Ask (load LoadMarked (marked n.0))) record {
      opened = opened;
      since = ends_self h;
      quiet = quiet_at_start c.layout c.pass h (idle_rests c h m.share x.begins.run.1.lawful x.begins.rests);
      known = tt;
      told = refl;
    } record { stands = refl; asked = refl },
  )

  pub fills_word : {A : Type 0} (m : UpdateRun E A) (f : Found) (nth : Nth) (part : NodeWord) (p : Piece) (n : NodeNo) (v : ℕ) (c : Call) (h : History) → CanFill e m c h f nth part → p ≡ e.pieces m.edit f m.snaps.items m.nodes m.read nth → n ≡ nth_node m.nodes nth → v ≡ word_of p part → TryWaits e (standing m (Fill f nth part)) c h record { kind = FillKind; word = NodeOf n part; access = Store v }
  fills_word m f nth part p n v c h x is_p is_n is_v = (
    x.fills,
    x.may,
    x.words,
    (λ i. record { kind = FillKind; word = NodeOf (is_n i) part; access = Store ((is_v ∙ ap (λ q. word_of q part) (is_p ∙ sym x.same)) i) }),
  )

  -- its SCX asks for a step
  pub scx_asks : {A : Type 0} (m : UpdateRun E A) (scx after : ScxRun) (f : Found) (begin : History) (c : Call) (h : History) (turn : Turn ScxAnswer) (step : Step) → Scxs e m c h f scx begin → after.scx ≡ scx.scx → after.update ≡ scx.update → after.call ≡ scx.call → turn ≡ Ask step → MatchTurn turn (ScxWaits TreeAllows after (begun_at c begin) h) (ScxAnswers after (begun_at c begin) h) → TryWaits e (standing m (Scx f after)) c h step
  scx_asks m scx after f begin c h turn step x is_scx is_update is_call asked w = (
    begin,
    record {
      run = x.run;
      small = x.small;
      may = x.may;
      now = x.now;
      since = x.since;
      found = x.found;
      need = x.need;
      call = is_call ∙ x.call;
      only = subst (λ (s : ScxNo). HasEnteredOnly c.layout c.pass s.0 h c.start) (sym is_scx) x.only;
      usable = subst (λ (u : Update). AreSnappedInCall c begin u.snaps) (sym is_update) x.usable;
      unnamed = subst (λ (s : ScxNo). ¬ IsNamedScx begin s.0) (sym is_scx) x.unnamed;
      guard = λ is. subst (λ (u : Update). HasGuard c begin (e.way m.edit) (e.goal m.edit) f u) (sym is_update) (x.guard is);
      ends = λ is. subst (λ (s : ScxNo). CoversEnd f c begin s.0 after.update) (sym is_scx) (subst (λ (u : Update). CoversEnd f c begin scx.scx.0 u) (sym is_update) (x.ends is));
      quiet = x.quiet;
      leaf = subst (λ (s : ScxNo). CoversLeaf e m.edit f c begin s.0 after.update) (sym is_scx) (subst (λ (u : Update). CoversLeaf e m.edit f c begin scx.scx.0 u) (sym is_update) x.leaf);
      share = subst (λ (s : ScxNo). IsShare c.layout h c.pass m.share m.share.next_node s.0) (sym is_scx) x.share;
      next_node = x.next_node ∙ ap (λ (u : Update). suc u.fresh.0) (sym is_update);
      next_scx = x.next_scx ∙ ap (λ (s : ScxNo). suc s.0) (sym is_scx);
      own_scx = subst (λ (s : ScxNo). IsOwnScx c.layout c.pass s.0) (sym is_scx) x.own_scx;
      own = subst (λ (u : Update). IsOwnNode c.layout c.pass u.fresh.0) (sym is_update) x.own;
      over = subst (λ (s : ScxNo). AreFinished c.layout c.pass s.0 h) (sym is_scx) x.over;
      untaken = subst (λ (u : Update). ¬ IsTakenNode c.start u.fresh.0) (sym is_update) x.untaken;
      tracks = subst (λ (j : Job). Tracks c.layout c.pass h j (e.edit m.edit f)) (λ i. record { scx = sym is_scx i; call = sym is_call i; update = sym is_update i }) x.tracks;
    },
    rw asked at w,
  )

  -- where its SCX is finished, the pass is at rest
  scx_rests : {A : Type 0} (m : UpdateRun E A) (scx : ScxRun) (f : Found) (c : Call) (b begin h : History) → Scxs e m (begun_at c b) h f scx begin → value h (state scx.scx.0) ≢ 0 → RestsWith c h m.share
  scx_rests m scx f c b begin h x finished = rests_again c h m.share scx x.run.1.lawful x.share x.next_scx x.over (λ z. (let a = x.own_scx.from in omega (arith, z))) finished

  -- its SCX is done
  pub scx_done : IsAtFound e → HasGuardAtEnd e → {A : Type 0} (m : UpdateRun E A) (scx after : ScxRun) (f : Found) (c : Call) (b begin h : History) (turn : Turn ScxAnswer) → IsTry c b h m.limit m.tries → Scxs e m (begun_at c b) h f scx begin → after.scx ≡ scx.scx → after.update ≡ scx.update → after.call ≡ scx.call → turn ≡ Done ScxDone → MatchTurn turn (ScxWaits TreeAllows after (begun_at c begin) h) (ScxAnswers after (begun_at c begin) h) → UpdateAnswers e m c h (done_at f)
  scx_done laws at_end m scx after f c b begin h turn try x is_scx is_update is_call done w = (
    scx_rests m scx f c b begin h x finished,
    record {
      found = f;
      is_key = refl;
      is_value = refl;
      is_done = inr (
        made.0,
        record {
          moment = begin;
          within = ends_trans h (is_done.entry.row ⊳ is_done.entry.before) begin is_done.entry.is.within (inr is_done.entry.is.since);
          has_found = found_by_wider c b try.since begin (e.way m.edit) (e.goal m.edit) f x.found;
          needed = x.need;
        },
        made.1,
      );
    },
    tried_in c b h m.limit m.tries try.newest,
  )
    where
      is_done : IsDone (begun_at c begin) h after
      is_done = rw done at w

      made : (made : HasMade (e.edit m.edit f) c h m.call f.value) × ToldEnd (e.goal m.edit) c.layout made.before f
      made = made_at_leaf e laws at_end m scx after f c b begin h try x is_scx is_update is_call is_done

      finished : value h (state scx.scx.0) ≢ 0
      finished z = let a : value h (state scx.scx.0) ≡ 1 = subst (λ (t : ScxNo). value h (state t.0) ≡ 1) is_scx is_done.committed in omega (arith, a, z)

  -- its SCX is lost: it may try again
  pub scx_lost : {A : Type 0} (m : UpdateRun E A) (scx after : ScxRun) (f : Found) (c : Call) (b begin h : History) (turn : Turn ScxAnswer) (n : NodeNo) (s : ScxNo) → IsTry c b h m.limit m.tries → Scxs e m (begun_at c b) h f scx begin → after.scx ≡ scx.scx → after.update ≡ scx.update → turn ≡ Done (Lost n s) → MatchTurn turn (ScxWaits TreeAllows after (begun_at c begin) h) (ScxAnswers after (begun_at c begin) h) → MayBeginTry e m c h × HasLostTry e m.edit c h m.limit m.tries n.0 s.0
  scx_lost m scx after f c b begin h turn n s try x is_scx is_update done w = (
    record { run = x.run; small = x.small; may = x.may; since = since; rests = scx_rests m scx f c b begin h x finished },
    record {
      begin = b;
      try = try;
      way = lost_contended (begun_at c b) begin h after n.0 s.0 x.run.1.lawful x.quiet (subst (λ (u : Update). AreSnappedInCall (begun_at c b) begin u.snaps) (sym is_update) x.usable) lost;
      none = none_joined c.layout c.pass h b c.start x.now try.none (none_lost c.layout c.pass scx.scx.0 h b x.run.1.lawful aborted x.only);
      needed = λ _. (f, record { moment = begin; within = ends_trans h (lost.changed.found.row ⊳ lost.changed.found.before) begin lost.changed.found.last.within (inr lost.changed.found.since); has_found = x.found; needed = x.need });
    },
  )
    where
      since : Extends h c.start
      since = ends_trans h b c.start x.now try.since

      lost : IsLost (begun_at c begin) h after n.0 s.0
      lost = rw done at w

      aborted : value h (state scx.scx.0) ≡ 2
      aborted = subst (λ (t : ScxNo). value h (state t.0) ≡ 2) is_scx lost.aborted

      finished : value h (state scx.scx.0) ≢ 0
      finished z = let a = aborted in omega (arith, a, z)

  -- while it only looks, it has entered nothing
  pub nothing_entered : {A : Type 0} (m : UpdateRun E A) (c : Call) (b h : History) → IsTry c b h m.limit m.tries → MayBeginTry e m (begun_at c b) h → IsQuietSince c.layout c.pass b h → HasEnteredNone c.layout c.pass h c.start
  nothing_entered m c b h try x quiet = none_joined c.layout c.pass h b c.start x.since try.none (none_quiet c.layout c.pass h b x.run.1.lawful quiet)

  -- and its try is lost, if another was in its way
  pub look_lost : {A : Type 0} (m : UpdateRun E A) (c : Call) (b h : History) (f : Found) (n s : ℕ) → IsTry c b h m.limit m.tries → CanLook e m (begun_at c b) h f → IsContended (begun_at c b) h n s → MayBeginTry e m c h × HasLostTry e m.edit c h m.limit m.tries n s
  look_lost m c b h f n s try x way = (
    record { run = begins.run; small = begins.small; may = begins.may; since = ends_trans h b c.start begins.since try.since; rests = record { share = begins.rests.share; over = begins.rests.over } },
    record {
      begin = b;
      try = try;
      way = way;
      none = nothing_entered m c b h try begins x.quiet;
      needed = λ _. (f, record { moment = h; within = ends_self h; has_found = x.looked.found; needed = is_needed e m (begun_at c b) h f x });
    },
  )
    where
      begins : MayBeginTry e m (begun_at c b) h
      begins = x.begins

  -- a lost try was in the way of the call
  pub lost_way : {A : Type 0} (m : UpdateRun E A) (c : Call) (h : History) (n s : ℕ) → HasLostTry e m.edit c h m.limit m.tries n s → IsContended c h n s
  lost_way m c h n s x = contended_wider c x.begin h n s x.try.since x.way

  -- the next may begin, if one is left
  pub next_may : {A : Type 0} (m : UpdateRun E A) (c : Call) (h : History) (n s : ℕ) → m.tries ≢ 0 → MayBeginTry e m c h → HasLostTry e m.edit c h m.limit m.tries n s → MayTry c h h m.limit (m.tries - 1)
  next_may m c h n s some b x = record { since = b.since; none = x.none; next = next_again c x.begin h m.limit m.tries x.try.newest n s x.way (m.tries - 1) some refl }

  -- and if none is left, all are lost to it
  pub all_lost : {A : Type 0} (m : UpdateRun E A) (c : Call) (h : History) (n s : ℕ) → m.tries ≡ 0 → HasLostTry e m.edit c h m.limit m.tries n s → HasLostEveryTry (says e m.edit) c h m.limit n s
  all_lost m c h n s none x = record {
    way = lost_way m c h n s x;
    none = x.none;
    all = record {
      lost = record {
        begin = x.begin;
        since = x.try.since;
        newest = x.try.newest.newest;
        all = let all = (tried_in c x.begin h m.limit m.tries x.try.newest).all in omega (arith, all, none);
        in_the_way = x.way.in_the_way;
      };
      found = x.way.found;
    };
    needed = x.needed;
  }

  -- what it has tried, then, was needed
  pub lost_tried : {A : Type 0} (m : UpdateRun E A) (c : Call) (h : History) (n s : ℕ) → HasLostTry e m.edit c h m.limit m.tries n s → HasTriedAllBut c h m.limit m.tries
  lost_tried m c h n s x = tried_in c x.begin h m.limit m.tries x.try.newest

  -- at rest in a try it is so in the call
  pub at_rest : {A : Type 0} (m : UpdateRun E A) (c : Call) (b h : History) → MayBeginTry e m (begun_at c b) h → RestsWith c h m.share
  at_rest m c b h x = record { share = x.rests.share; over = x.rests.over }

-- a turn that always asks for a step answers nothing
pub asks_on : (P : Type 0) (turn : Turn Updated) → MatchTurn turn (λ _. Unit {0}) (λ _. ⊥) → MatchTurn turn (λ _. Unit {0}) (λ _. P)
asks_on P (Ask step) x = tt
asks_on P (Done answer) x = absurd x
