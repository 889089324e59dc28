-- What an update knows once a node more is looked at, and as it takes its fresh nodes.
use Rattle.std.proofs.Common.{◌≡◌, ℕ, zero, suc, ◌+◌, ◌-◌, ◌<◌, ◌≤◌, ◌⊎◌, Bool, true, false, List, [], ◌∷◌, ◌++◌, length, inl, inr, refl, sym, ◌∙◌, ap, subst, arith, min, take, Result, Ok, Err, OnOk, OnErr}
use Rattle.std.proofs.lemmas.List.{take-append-le}
use Rattle.histories.specs.Common.{IsOwnNode, History, Extends, Lawful, Call, MatchTurn, begun_at, Remaining, HasNode, Turn, Ask, Done, Step}
use Rattle.arena.proofs.Lemmas.{ends_self}
use Rattle.histories.proofs.Lemmas.{unmentioned_unnamed}
use Rattle.template.specs.Common.{HasFoundThere, IsSnapshot, LlxWaits, LlxAnswers, Llx, Snapshot, LlxRun, TreeAllows, snap_at, Snap, FoundBy, Goal, WasInTree}
use Rattle.prims.specs.Laws.FoundThere.{there_wider}
use Rattle.prims.specs.Laws.Idle.{IsQuietSince}
use Rattle.edits.specs.declared.update.UpdateAt.TheVariants.{Look}
use Rattle.prims.proofs.Lemmas.{left_own_node, left_zero, taken_node_since}
use Rattle.template.specs.declared.walk.Found.{Found}
use Rattle.template.specs.declared.walk.Way.{Way}
use Rattle.edits.specs.declared.edit.Look.TheVariants.{At, Enough}
use Rattle.edits.specs.declared.edit.Nth.{Nth}
use Rattle.edits.specs.declared.edit.Work.{Work}
use Rattle.edits.specs.declared.piece.Piece.{Piece}
use Rattle.edits.specs.declared.update.UpdateRun.{UpdateRun}
use Rattle.edits.specs.Next.{standing}
use Rattle.edits.specs.Edits.{EditBounds, EditMeaning, all_looks}
use Rattle.edits.specs.Known.{IsNeeded, RestsWith, MayBeginTry, HasNodesFor, HasTakenNodes, without, HasSnappedAfterWalk, AreUsable, AreSeen, Guarded, CanLook, CanWork, Looks, TryWaits, piece}
use Rattle.edits.specs.Pieces.{nth_node, top_of}
use Rattle.edits.specs.Steps.{HasAsked}
use Rattle.edits.specs.Laws.Hand.{HasFilledTo}
use Rattle.edits.specs.Laws.SnapLists.{at_end}
use Rattle.edits.specs.Tries.{IsTry}
use Rattle.edits.proofs.NodePlaces.{top_is}

-- A snapshot more

-- the pass may use a snapshot that it has just taken
pub usable_one_more : (c : Call) (h : History) (way : Way) (goal : Goal) (f : Found) (snaps : List Snap) (s : Snap) (n : ℕ) → Extends h c.start → FoundBy way goal c h f → WasInTree h s.node.0 → IsSnapshot c.layout h n s → HasFoundThere c.pass h c.start n s.scx.0 → AreUsable c h way goal f snaps → AreUsable c h way goal f (snaps ++ s ∷ [])
usable_one_more c h way goal f snaps s n since found stood is met x i p = go (at_end snaps s i p)
  where
    now : HasSnappedAfterWalk c h way goal f s
    now = record { moment = h; within = ends_self h; since = since; found = found; stood = stood; is = subst (λ m. IsSnapshot c.layout h m s) (sym is.node) is; met = subst (λ m. HasFoundThere c.pass h c.start m s.scx.0) (sym is.node) met }

    go : ((i < length snaps) × (snap_at (snaps ++ s ∷ []) i ≡ snap_at snaps i)) ⊎ ((i ≡ length snaps) × (snap_at (snaps ++ s ∷ []) i ≡ s)) → HasSnappedAfterWalk c h way goal f (snap_at (snaps ++ s ∷ []) i)
    go (inl q) = subst (HasSnappedAfterWalk c h way goal f) (sym q.1) (x i q.0)
    go (inr q) = subst (HasSnappedAfterWalk c h way goal f) (sym q.1) now

take_all : (snaps : List Snap) → take (length snaps) snaps ≡ snaps
take_all [] = refl
take_all (s ∷ snaps) = ap (λ xs. s ∷ xs) (take_all snaps)

-- and it is of the node that the edit has named
pub seen_one_more : {E : Type 0} (e : EditMeaning E) (ed : E) (f : Found) (snaps : List Snap) (s : Snap) → e.looks ed f snaps ≡ At s.node → AreSeen (e.looks ed) f snaps → AreSeen (e.looks ed) f (snaps ++ s ∷ [])
seen_one_more e ed f snaps s named x i p = go (at_end snaps s i p)
  where
    go : ((i < length snaps) × (snap_at (snaps ++ s ∷ []) i ≡ snap_at snaps i)) ⊎ ((i ≡ length snaps) × (snap_at (snaps ++ s ∷ []) i ≡ s)) → e.looks ed f (take i (snaps ++ s ∷ [])) ≡ At (snap_at (snaps ++ s ∷ []) i).node
    go (inl q) = rw (take-append-le i snaps (s ∷ []) (let y = q.0 in omega (arith, y)), q.1) (x i q.0)
    go (inr q) = rw (q.0, take-append-le (length snaps) snaps (s ∷ []) (omega arith), take_all snaps) (named ∙ ap (λ (t : Snap). At t.node) (sym (rw q.0 at q.1)))

pub looked_one_more : {E : Type 0} (e : EditMeaning E) {A : Type 0} (m now : UpdateRun E A) (c : Call) (h : History) (f : Found) (s : Snap) (n : ℕ) → now.edit ≡ m.edit → now.share ≡ m.share → now.work ≡ m.work → now.guard ≡ m.guard → now.snaps.items ≡ m.snaps.items ++ s ∷ [] → e.looks m.edit f m.snaps.items ≡ At s.node → WasInTree h s.node.0 → IsSnapshot c.layout h n s → HasFoundThere c.pass h c.start n s.scx.0 → CanLook e m c h f → CanLook e now c h f
looked_one_more e m now c h f s n ed share work guard items named stood is met x = record {
  begins = record { run = x.begins.run; small = rw ed x.begins.small; may = rw ed x.begins.may; since = x.begins.since; rests = rw share x.begins.rests };
  quiet = x.quiet;
  looked = rw (ed, items) record {
    small = x.looked.small;
    may = x.looked.may;
    found = x.looked.found;
    usable = usable_one_more c h (e.way m.edit) (e.goal m.edit) f m.snaps.items s n x.begins.since x.looked.found stood is met x.looked.usable;
    seen = seen_one_more e m.edit f m.snaps.items s named x.looked.seen;
  };
  asked = rw (ed, work) x.asked;
  room = rw (work, share) x.room;
  guarded = rw (ed, guard) x.guarded;
}

take_length : (n : ℕ) (snaps : List Snap) → n ≤ length snaps → length (take n snaps) ≡ n
take_length zero snaps few = refl
take_length (suc n) [] few = absurd (omega (arith, few))
take_length (suc n) (s ∷ snaps) few = ap suc (take_length n snaps (omega (arith, few)))

-- there is room for the snapshot of its guard
pub few_with_guard : {E : Type 0} (e : EditMeaning E) → EditBounds e → (ed : E) (f : Found) (snaps : List Snap) → AreSeen (e.looks ed) f snaps → all_looks (e.guard ed) (length snaps) ≤ 4
few_with_guard e bounds ed f snaps seen = with (e.guard ed) (bounds.small ed)
  where
    last : (n : ℕ) → length snaps ≡ suc n → n < e.most_looks ed
    last n is = subst (λ k. k < e.most_looks ed) (take_length n snaps (omega (arith, is))) (bounds.few_looks ed f (take n snaps) (snap_at snaps n).node (seen n (omega (arith, is))))

    few : (k : ℕ) → length snaps ≡ k → k ≤ e.most_looks ed
    few zero is = omega arith
    few (suc n) is = let l = last n is in omega (arith, l)

    with : (b : Bool) → all_looks b (e.most_looks ed) ≤ 4 → all_looks b (length snaps) ≤ 4
    with true small = let l = few (length snaps) refl in omega (arith, small, l)
    with false small = let l = few (length snaps) refl in omega (arith, small, l)

-- The first look

-- the walk has found its leaf, and nothing is looked at
pub may_look : {E : Type 0} (e : EditMeaning E) {A : Type 0} (m now : UpdateRun E A) (c : Call) (h : History) (f : Found) → now.edit ≡ m.edit → now.share ≡ m.share → now.guard ≡ m.guard → HasAsked e now f → now.snaps.items ≡ [] → MayBeginTry e m c h → IsQuietSince c.layout c.pass c.start h → FoundBy (e.way m.edit) (e.goal m.edit) c h f → Guarded e m.edit c h m.guard (λ k. FoundBy (e.way m.edit) (e.goal m.edit) k h f) → HasNodesFor now.work.need m.share → CanLook e now c h f
may_look e m now c h f ed share guard asked items b quiet found guarded room = record {
  begins = record { run = b.run; small = rw ed b.small; may = rw ed b.may; since = b.since; rests = rw share b.rests };
  quiet = quiet;
  looked = rw (ed, items) record {
    small = b.small;
    may = b.may;
    found = found;
    usable = λ i p. absurd (omega (arith, p));
    seen = λ i p. absurd (omega (arith, p));
  };
  asked = asked;
  room = rw share room;
  guarded = rw (ed, guard) guarded;
}

-- The fresh nodes are taken

-- the fresh nodes that the share gives are in hand, and none is filled
pub hand_begins : (c : Call) (h : History) (left : Remaining) (t : ℕ) (piece : ℕ → Piece) → Lawful c.layout h → t < left.nodes → RestsWith c h left → HasFilledTo c.layout h c.pass (without left (suc t)) left.next_node (left.next_node + t) left.next_node piece
hand_begins c h left t piece l some x = record {
  some = omega arith;
  hand = record {
    own = λ n i j. own n i j;
    before = x.share.taken_nodes;
    unnamed = λ n i j. unmentioned_unnamed c.layout h c.pass n (own n i j) (x.share.unmentioned n (own n i j) i);
    unmentioned = x.share.unmentioned (left.next_node + t) (own (left.next_node + t) (omega arith) (omega arith)) (omega arith);
  };
  share = record {
    from_node = let a = x.share.from_node in omega (arith, a);
    to_node = let a = x.share.to_node in omega (arith, a, some);
    from_scx = x.share.from_scx;
    to_scx = x.share.to_scx;
    taken_nodes = x.share.taken_nodes;
    taken_scx = x.share.taken_scx;
    unmentioned = λ n o i. x.share.unmentioned n o (omega (arith, i));
    untaken_nodes = λ n o i. x.share.untaken_nodes n o (omega (arith, i));
    untaken = x.share.untaken;
  };
  next = omega arith;
  over = x.over;
  taken = λ k i j b. absurd (omega (arith, i, j));
  full = λ k i j b. absurd (omega (arith, i, j));
  blank = λ k i j b q fill. left_zero c.layout h c.pass left left.next_node left.next_scx k q l x.share (here k i b) fill;
}
  where
    here : (n : ℕ) → left.next_node ≤ n → n ≤ left.next_node + t → HasNode left n
    here n i j = record { from = i; below = omega (arith, j, some) }

    own : (n : ℕ) → left.next_node ≤ n → n ≤ left.next_node + t → IsOwnNode c.layout c.pass n
    own n i j = left_own_node c.layout h c.pass left left.next_node left.next_scx n x.share (here n i j)

-- and so they are by the numbers that they have
in_hand : (c : Call) (h : History) (left now : Remaining) (first top t : ℕ) (piece : ℕ → Piece) → Lawful c.layout h → t < left.nodes → RestsWith c h left → now ≡ without left (suc t) → first ≡ left.next_node → top ≡ left.next_node + t → HasFilledTo c.layout h c.pass now first top first piece
in_hand c h left now first top t piece l some x share is_first is_top = rw (share, is_first, is_top) (hand_begins c h left t piece l some x)

-- Its fresh nodes are in hand

pub is_needed : {E : Type 0} (e : EditMeaning E) {A : Type 0} (m : UpdateRun E A) (c : Call) (h : History) (f : Found) → CanLook e m c h f → 0 < (e.work m.edit f).need
is_needed e m c h f x = subst (λ (w : Work). 0 < w.need) x.asked x.room.some

module _ {E : Type 0} (e : EditMeaning E) {A : Type 0} (m now : UpdateRun E A) (c : Call) (h : History) (f : Found) (x : CanLook e m c h f) (enough : e.looks m.edit f m.snaps.items ≡ Enough) where
  -- the taken nodes are in hand, and none is filled
  takes : now ≡ record m { share = now.share; nodes = now.nodes } → HasTakenNodes m.work.need m.share now.share now.nodes → CanWork e (record m { share = now.share; nodes = now.nodes }) c h f
  takes same t = record {
    works = record {
      run = x.begins.run;
      since = x.begins.since;
      quiet = x.quiet;
      looked = x.looked;
      enough = enough;
      asked = x.asked;
      need = x.room.some;
      in_order = t.in_order;
      some = subst (λ (s : Remaining). 0 < s.scx) (sym t.share) x.room.scx;
      guarded = x.guarded;
      untaken = λ i n taken. let p = left_here i n in x.begins.rests.share.untaken_nodes (nth_node now.nodes i).0 (left_own_node c.layout h c.pass m.share m.share.next_node m.share.next_scx (nth_node now.nodes i).0 x.begins.rests.share p) p.from (taken_node_since h c.start (nth_node now.nodes i).0 x.begins.since taken);
    };
    full = in_hand c h m.share now.share now.nodes.first.0 (top_of m.work.need now.nodes) (min m.work.need 3 - 1) _ x.begins.run.1.lawful (let n = x.room.some in let k = x.room.nodes in omega (arith, n, k)) x.begins.rests
        (t.share ∙ ap (without m.share) (let n = x.room.some in omega (arith, n))) t.first (let a = t.first in let b = last in omega (arith, a, b));
    hand = record { lowest = omega arith; highest = let b = last in omega (arith, b) };
    blank = λ q fill. rw t.first (left_zero c.layout h c.pass m.share m.share.next_node m.share.next_scx m.share.next_node q x.begins.run.1.lawful x.begins.rests.share record { from = omega arith; below = let n = x.room.some in let k = x.room.nodes in omega (arith, n, k) } fill);
  }
    where
      left_here : (i : Nth) → IsNeeded m.work.need i → HasNode m.share (nth_node now.nodes i).0
      left_here i n =
          let a = t.in_order i n in
          let b = t.first in
          let k = x.room.nodes in
          record { from = omega (arith, a, b); below = omega (arith, a, b, k, n) }

      last : top_of m.work.need now.nodes ≡ now.nodes.first.0 + (min m.work.need 3 - 1)
      last = top_is m.work.need now.nodes t.in_order

  pub takes_nodes : now ≡ record m { share = now.share; nodes = now.nodes } → (HasNodesFor m.work.need m.share → HasTakenNodes m.work.need m.share now.share now.nodes) → CanWork e now c h f
  takes_nodes same taken = subst (λ (n : UpdateRun E A). CanWork e n c h f) (sym same) (takes same (taken x.room))

-- A snapshot is kept

pub pushed : {T E : Type 0} (r : Result T E) (P : Type 0) (n most : ℕ) → n < most → most ≤ 4 → OnOk r P → OnErr r (n ≡ 4) → P
pushed (Ok v) P n most i j p full = p
pushed (Err v) P n most i j p full = absurd (omega (arith, i, j, full))

module _ {E : Type 0} (e : EditMeaning E) {A : Type 0} (m : UpdateRun E A) (llx after : LlxRun) (f : Found) (begin : History) (c : Call) (h : History) (turn : Turn Llx) (x : Looks e m c h f llx begin) (same : after.node ≡ llx.node)
    (w : MatchTurn turn (LlxWaits TreeAllows after (begun_at c begin) h) (LlxAnswers after (begun_at c begin) h)) where
  -- its LLX asks for a step
  pub looks_on : (step : Step) → turn ≡ Ask step → TryWaits e (standing m (Look f after)) c h step
  looks_on step asked = (
    begin,
    record { run = x.run; looked = x.looked; rests = x.rests; asked = x.asked; room = x.room; named = x.named ∙ ap At (sym same); now = x.now; quiet = x.quiet; since = x.since; guarded = x.guarded },
    rw asked at w,
  )

  pub can_look : CanLook e m c h f
  can_look = record { begins = record { run = x.run; small = x.looked.small; may = x.looked.may; since = x.now; rests = x.rests }; quiet = x.quiet; looked = x.looked; asked = x.asked; room = x.room; guarded = x.guarded }

  -- its LLX has taken a snapshot
  pub snapped : (snap : Snap) → turn ≡ Done (Snapshot snap) → (e.looks m.edit f m.snaps.items ≡ At snap.node) × IsSnapshot c.layout h snap.node.0 snap × HasFoundThere c.pass h c.start snap.node.0 snap.scx.0
  snapped snap done = (
    x.named ∙ ap At (sym same) ∙ (λ i. At (record { 0 = sym is.node i })),
    subst (λ n. IsSnapshot c.layout h n snap) (sym is.node) is,
    there_wider c.pass h begin c.start snap.node.0 snap.scx.0 x.since (subst (λ n. HasFoundThere c.pass h begin n snap.scx.0) (sym is.node) (rw done at w).2),
  )
    where
      is : IsSnapshot c.layout h after.node.0 snap
      is = (rw done at w).0

-- a run with as many tries tries as before
pub same_tries : {c : Call} {b h : History} {limit left limit' left' : ℕ} → limit' ≡ limit → left' ≡ left → IsTry c b h limit left → IsTry c b h limit' left'
same_tries e f x = rw (e, f) x
