-- What a run of SCX knows and waits for after each of its turns.
use Rattle.std.proofs.Common.{◌≡◌, ℕ, suc, ◌<◌, ◌≤◌, ◌%◌, Bool, true, false, Option, Some, None, ◌⊎◌, inl, inr, ⊎_elim, refl, sym, ◌∙◌, ap, arith, length, subst}
use Rattle.histories.specs.Common.{Layout, MemberIndex, Turn, ScxWord, Plan, New, Old, Member, Seen, member_index, info, state, child, History, ◌⊳◌, value, Extends}
use Rattle.histories.specs.Common.{count_of, field_index_of, side_of, plan, member, seen, new, old, count, raw_count, IsRun, Call, Begins, descriptor, Lawful}
use Rattle.arena.specs.declared.number.MemberIndex.TheVariants.{First}
use Rattle.arena.specs.declared.word.ScxWord.TheVariants.{Call as CallWord}
use Rattle.arena.proofs.Lemmas.{plan_counted, ends_self, ends_trans}
use Rattle.histories.proofs.Lemmas.{aborted_no_entry, committed_won}
use Rattle.help.specs.Help.Known.{IsBlocked, HasNoted, node_at, blocked_at, reading, HelpAnswers}
use Rattle.prims.proofs.LlxTurns.{committed_state}
use Rattle.help.specs.declared.state.HelpRun.{HelpRun}
use Rattle.help.specs.declared.state.HelpAt.{HelpAt}
use Rattle.help.specs.declared.state.HelpAt.TheVariants.{Start as HelpStart, Abort as AtAbort}
use Rattle.help.specs.Allowed.{IsPrepared}
use Rattle.prims.specs.Laws.Linked.{in_field_named}
use Rattle.prims.specs.Snap.{snap_at}
use Rattle.prims.specs.Laws.Entered.{filled_entry}
use Rattle.prims.specs.Laws.Blamed.{blamed_behind, behind_start}
use Rattle.prims.specs.Scx.Known.{job_of, IsUpdateOver, IsUnderWay, HasFilled, IsDone, IsLost, ScxHelps, ScxIsReady, ScxIsToldAt, InHand, IsFilled, IsFilledThen, HoldsWanted, IsWithin, FillWaits, FillMade, FillsAt, FillsNext, FillsLast, ScxTurn, ScxWaitsAt}
use Rattle.prims.specs.declared.scx.ScxRun.{ScxRun}
use Rattle.prims.specs.declared.scx.Scx.{Scx}
use Rattle.prims.specs.declared.scx.ScxAt.{ScxAt}
use Rattle.prims.specs.declared.scx.ScxAt.TheVariants.{Start, Plan as AtPlan, New as AtNew, Old as AtOld, Member as AtMember, Seen as AtSeen, Call as AtCall}

three : (a : ℕ) → (a < 3) ⊎ (3 ≤ a)
three a = grind arith

not_less : (a b : ℕ) → (a < b → ⊥) → b ≤ a
not_less a b d = grind arith

-- what is filled up to a place is filled before it, or there
up_to : (word : ℕ → ScxWord) (i j : ℕ) → i < suc j → (i < j) ⊎ (word j ≡ word i)
up_to word i j p = ⊎_elim inl (λ e. inr (ap word (sym e))) (less_or_same i j p)
  where
    less_or_same : (i j : ℕ) → i < suc j → (i < j) ⊎ (i ≡ j)
    less_or_same i j p = grind arith

module _ (allows : Layout → History → ℕ → Type 0) (c : Call) (h : History) (m : ScxRun) where
  -- the next word is filled
  turn_fill : (at : ScxAt) (now : ScxRun) (turn : Turn Scx) → InHand allows c.layout c.pass h (job_of m) → IsUnderWay c h m.scx.0 m.update.snaps → IsWithin (length m.update.snaps) at → HoldsWanted h (job_of m) (IsFilled (length m.update.snaps) at)
      → ((s : _) → FillWaits allows c h (job_of m) at s → ScxWaitsAt allows c h (job_of m) at s) → FillsAt m now turn at → ScxTurn allows c h now turn
  turn_fill at now turn x y i f w a = rw (a.asked, a.stands) (w _ record { fills = record { hand = x; way = y; within = i; filled = f }; asked = refl })

  -- the run begins with the fill of the plan
  pub turn_start : (now : ScxRun) (turn : Turn Scx) → InHand allows c.layout c.pass h (job_of m) → IsUnderWay c h m.scx.0 m.update.snaps → FillsAt m now turn AtPlan → ScxTurn allows c h now turn
  turn_start now turn x y a = turn_fill AtPlan now turn x y tt (λ part p. absurd (none part p)) (λ s y. y) a
    where
      none : (part : ScxWord) → IsFilled (length m.update.snaps) AtPlan part → ⊥
      none part p = p

  -- after the plan it fills `new`
  pub turn_plan : (now : ScxRun) (turn : Turn Scx) → FillMade allows c h (job_of m) AtPlan → FillsAt m now turn AtNew → ScxTurn allows c h now turn
  turn_plan now turn x a = turn_fill AtNew now turn x.hand x.way tt (λ part p. x.filled part (filled part p)) (λ s y. y) a
    where
      filled : (part : ScxWord) → IsFilled (length m.update.snaps) AtNew part → IsFilledThen (length m.update.snaps) AtPlan part
      filled Plan p = inr refl
      filled _ p = absurd p

  -- after `new` it fills `old`
  pub turn_new : (now : ScxRun) (turn : Turn Scx) → FillMade allows c h (job_of m) AtNew → FillsAt m now turn AtOld → ScxTurn allows c h now turn
  turn_new now turn x a = turn_fill AtOld now turn x.hand x.way tt (λ part p. x.filled part (filled part p)) (λ s y. y) a
    where
      filled : (part : ScxWord) → IsFilled (length m.update.snaps) AtOld part → IsFilledThen (length m.update.snaps) AtNew part
      filled Plan p = inl tt
      filled New p = inr refl
      filled _ p = absurd p

  -- after `old` it fills the first `v` word
  pub turn_old : (now : ScxRun) (turn : Turn Scx) → FillMade allows c h (job_of m) AtOld → FillsAt m now turn (AtMember First) → ScxTurn allows c h now turn
  turn_old now turn x a = turn_fill (AtMember First) now turn x.hand x.way (rw (sym x.hand.update.count) x.hand.update.planned.some) (λ part p. x.filled part (filled part p)) (λ s y. y) a
    where
      filled : (part : ScxWord) → IsFilled (length m.update.snaps) (AtMember First) part → IsFilledThen (length m.update.snaps) AtOld part
      filled Plan p = inl tt
      filled New p = inl tt
      filled Old p = inr refl
      filled (Member i) p = absurd (omega arith)
      filled _ p = absurd p

  fewer : IsUpdateOver m.update → (j : ℕ) → j < count_of m.update.plan.0 → j < length m.update.snaps
  fewer u j i = rw u.count at i

  -- a place of the plan, or the one after the last
  next_within : IsUpdateOver m.update → (j : MemberIndex) → member_index j < raw_count m.update.plan.0 → member_index j < length m.update.snaps
  next_within u j i = let a = plan_counted m.update.plan.0 u.planned.some in let b = a.count in fewer u (member_index j) (omega arith)

  last_covers : IsUpdateOver m.update → (j : MemberIndex) → ((member_index j < 3) × (suc (member_index j) < raw_count m.update.plan.0) → ⊥) → length m.update.snaps ≤ suc (member_index j)
  last_covers u j d = go (three (member_index j))
    where
      e : length m.update.snaps ≡ m.update.plan.0 % 8
      e = sym u.count ∙ (plan_counted m.update.plan.0 u.planned.some).count

      go : (member_index j < 3) ⊎ (3 ≤ member_index j) → length m.update.snaps ≤ suc (member_index j)
      go (inr p) = let f = (plan_counted m.update.plan.0 u.planned.some).few in omega (arith, e)
      go (inl p) = rw e (not_less (suc (member_index j)) (m.update.plan.0 % 8) (λ q. d (p, q)))

  -- after a `v` word it fills the next, or the first `i` word
  pub turn_member : (j : MemberIndex) (now : ScxRun) (turn : Turn Scx) → FillMade allows c h (job_of m) (AtMember j) → FillsNext m now turn j (λ k. AtMember k) ⊎ FillsLast m now turn j (AtSeen First) → ScxTurn allows c h now turn
  turn_member j now turn x (inl a) = turn_fill (AtMember a.next) now turn x.hand x.way (next_within x.hand.update a.next a.within) (λ part p. x.filled part (filled part p)) (λ s y. y) a.fills
    where
      filled : (part : ScxWord) → IsFilled (length m.update.snaps) (AtMember a.next) part → IsFilledThen (length m.update.snaps) (AtMember j) part
      filled Plan p = inl tt
      filled New p = inl tt
      filled Old p = inl tt
      filled (Member i) p = up_to Member i (member_index j) (let e = a.is in omega arith)
      filled _ p = absurd p
  turn_member j now turn x (inr a) = turn_fill (AtSeen First) now turn x.hand x.way (fewer x.hand.update 0 x.hand.update.planned.some) (λ part p. x.filled part (filled part p)) (λ s y. y) a.fills
    where
      filled : (part : ScxWord) → IsFilled (length m.update.snaps) (AtSeen First) part → IsFilledThen (length m.update.snaps) (AtMember j) part
      filled Plan p = inl tt
      filled New p = inl tt
      filled Old p = inl tt
      filled (Member i) p = up_to Member i (member_index j) (let e = last_covers x.hand.update j a.none in omega arith)
      filled (Seen i) p = absurd (omega arith)
      filled _ p = absurd p

  -- after an `i` word it fills the next, or the number of the call
  pub turn_seen : (j : MemberIndex) (now : ScxRun) (turn : Turn Scx) → FillMade allows c h (job_of m) (AtSeen j) → FillsNext m now turn j (λ k. AtSeen k) ⊎ FillsLast m now turn j AtCall → ScxTurn allows c h now turn
  turn_seen j now turn x (inl a) = turn_fill (AtSeen a.next) now turn x.hand x.way (next_within x.hand.update a.next a.within) (λ part p. x.filled part (filled part p)) (λ s y. y) a.fills
    where
      filled : (part : ScxWord) → IsFilled (length m.update.snaps) (AtSeen a.next) part → IsFilledThen (length m.update.snaps) (AtSeen j) part
      filled Plan p = inl tt
      filled New p = inl tt
      filled Old p = inl tt
      filled (Member i) p = inl p
      filled (Seen i) p = up_to Seen i (member_index j) (let e = a.is in omega arith)
      filled _ p = absurd p
  turn_seen j now turn x (inr a) = turn_fill AtCall now turn x.hand x.way tt (λ part p. x.filled part (filled part p)) (λ s y. y) a.fills
    where
      filled : (part : ScxWord) → IsFilled (length m.update.snaps) AtCall part → IsFilledThen (length m.update.snaps) (AtSeen j) part
      filled Plan p = inl tt
      filled New p = inl tt
      filled Old p = inl tt
      filled (Member i) p = inl p
      filled (Seen i) p = up_to Seen i (member_index j) (let e = last_covers x.hand.update j a.none in omega arith)
      filled _ p = absurd p

  -- all is filled, so HELP may begin
  prepared : FillMade allows c h (job_of m) AtCall → IsPrepared allows c.layout c.pass h m.scx.0
  prepared x = record { begins = begins; allowed = x.hand.allowed (descriptor h m.scx.0) record { plan = ep; new = en; old = eo; member = em; seen = es; call = x.filled CallWord (inr refl) } }
    where
      ep : plan h m.scx.0 ≡ m.update.plan.0
      ep = x.filled Plan (inl tt)

      en : new h m.scx.0 ≡ m.update.fresh.0
      en = x.filled New (inl tt)

      eo : old h m.scx.0 ≡ m.update.old.0
      eo = x.filled Old (inl tt)

      em : (j : ℕ) → j < length m.update.snaps → member h m.scx.0 j ≡ (snap_at m.update.snaps j).node.0
      em j i = x.filled (Member j) (inl i)

      es : (j : ℕ) → j < length m.update.snaps → seen h m.scx.0 j ≡ (snap_at m.update.snaps j).scx.0
      es j i = x.filled (Seen j) (inl i)

      less : (j : ℕ) → j < count h m.scx.0 → j < length m.update.snaps
      less j i = fewer x.hand.update j (rw ep at i)

      at_field : (q : ℕ) → plan h m.scx.0 ≡ q → q ≡ m.update.plan.0 → value h (info (member h m.scx.0 (field_index_of q))) ≡ seen h m.scx.0 (field_index_of q) → value h (child (member h m.scx.0 (field_index_of q)) (side_of q)) ≡ old h m.scx.0
      at_field q e f y =
          let i : field_index_of m.update.plan.0 < length m.update.snaps = fewer x.hand.update (field_index_of m.update.plan.0) x.hand.update.planned.field in
          let z : value h (info (snap_at m.update.snaps (field_index_of m.update.plan.0)).node.0) ≡ (snap_at m.update.snaps (field_index_of m.update.plan.0)).scx.0 = rw (f, em (field_index_of m.update.plan.0) i, es (field_index_of m.update.plan.0) i) at y in
          rw (f, em (field_index_of m.update.plan.0) i, eo, x.hand.update.old) ((x.hand.linked (field_index_of m.update.plan.0) i).fields (side_of m.update.plan.0) z)

      begins : Begins c.layout (descriptor h m.scx.0) h c.pass m.scx.0
      begins = record {
        own = x.hand.is_open.own;
        free = x.hand.is_open.unnamed;
        unfinished = x.hand.unfinished;
        planned = rw ep x.hand.update.planned;
        inside = λ j i. rw (em j (less j i)) (x.hand.linked j (less j i)).inside;
        distinct = λ j k p q d. rw (em j (less j p), em k (less k q)) (x.hand.update.distinct j k (less j p) (less k q) d);
        named = λ j i. rw (em j (less j i)) (in_field_named (snap_at m.update.snaps j).node.0 (x.hand.linked j (less j i)).in_field);
        rest = λ j i. rw (es j (less j i)) (x.hand.linked j (less j i)).rest;
        unmarked = λ j i. rw (em j (less j i), es j (less j i)) (x.hand.linked j (less j i)).unmarked;
        shows = at_field (plan h m.scx.0) refl ep;
        new_own = rw en x.hand.fresh;
        new_unnamed = rw en x.hand.unnamed;
        new_in_no_field = rw en x.hand.in_no_field;
        new_in_no_other = rw en x.hand.in_no_other;
      }

  -- and its words hold what the update wants
  filled : FillMade allows c h (job_of m) AtCall → HasFilled c h m.scx.0 m.call m.update
  filled x = record {
    own = x.hand.is_open.own;
    way = x.way;
    over = x.hand.update;
    planned = x.filled Plan (inl tt);
    fresh = x.filled New (inl tt);
    expected = x.filled Old (inl tt);
    members = λ j i. x.filled (Member j) (inl i);
    found = λ j i. x.filled (Seen j) (inl i);
    called = x.filled CallWord (inr refl);
  }

  -- once all is filled, HELP may begin
  pub begin_help : (help : HelpRun) → IsRun allows c.layout h → FillMade allows c h (job_of m) AtCall → help.scx ≡ m.scx → help.at ≡ HelpStart → ScxHelps allows c h m help None
  begin_help help run x e z = record { run = run; ready = (z, inr (rw e (prepared x))); same = e; filled = filled x }

-- a run past its start has got something, so the word of its place is filled
pub made_then : (allows : Layout → History → ℕ → Type 0) (m : ScxRun) (c : Call) (h : History) (got : Option ℕ) (at : ScxAt) → m.at ≡ at → (at ≡ Start → ⊥) → ((v : ℕ) → ScxIsToldAt allows c h (job_of m) at v → FillMade allows c h (job_of m) at) → ScxIsReady allows m c h got → FillMade allows c h (job_of m) at
made_then allows m c h None at is d f r = absurd (d (sym is ∙ r.0))
made_then allows m c h (Some v) at is d f r = f v (subst (λ a. ScxIsToldAt allows c h (job_of m) a v) is r)

-- HELP has answered

module _ (c : Call) (h : History) (m : ScxRun) (help : HelpRun) (l : Lawful c.layout h) (x : HasFilled c h m.scx.0 m.call m.update) (same : help.scx ≡ m.scx) where
  -- where HELP answers true, the SCX is done
  pub done_at : (b : Bool) (now : HelpRun) → HelpAnswers c.layout c.pass now h b → b ≡ true → now.scx ≡ help.scx → IsDone c h m
  done_at b now a t e =
      let s : value h (state m.scx.0) ≡ 1 = rw same at (committed_state c h b now help a e t) in
      let w = committed_won c.layout h m.scx.0 l s in
      record { committed = s; won = w; entry = filled_entry c h m l x w }

  -- a node could not be frozen
  lost_by : (n v : ℕ) → value h (state m.scx.0) ≡ 2 → IsBlocked c.pass h m.scx.0 n v → IsLost c h m n v
  lost_by n v a b = record {
    aborted = a;
    no_entry = aborted_no_entry c.layout h h m.scx.0 l (ends_self h) a;
    blocked = b;
    changed = record {
      index = b.index;
      within = within;
      is = sym (x.members b.index within) ∙ b.is;
      found = record { row = b.row; before = b.before; since = behind; last = b.last; found = b.found };
      blamed = blamed_behind c h m.scx.0 m.update.snaps l x.way.begun b.index within b.before v (λ _. b.not_own) ends behind (rw (sym b.is ∙ x.members b.index within) at b.found) (λ e. b.other (sym e ∙ sym (x.found b.index within)));
    };
  }
    where
      ends : Extends h b.before
      ends = ends_trans h (b.row ⊳ b.before) b.before b.last.within (inr (ends_self b.before))

      -- its SCX-record covered the node already
      behind : Extends b.before c.start
      behind = behind_start c h m.scx.0 l x.way.begun.since x.way.free b.before ends (let i = b.covered in omega arith)

      within : b.index < length m.update.snaps
      within = rw (ap count_of x.planned ∙ x.over.count) at b.within

  -- HELP is at a place where it has aborted
  lost_with : (now : HelpRun) (at : HelpAt) → now.scx ≡ help.scx → value h (state now.scx.0) ≡ 2 → HasNoted c.pass h (reading now) at → IsLost c h m (blocked_at now.members at).0.0 (blocked_at now.members at).1.0
  lost_with now (AtAbort j found) e a k = lost_by (node_at now.members (member_index j)) found (rw (e, same) at a) (rw (e, same) at k)
  lost_with now _ e a k = absurd k

  -- where HELP answers false, the SCX is lost at the node that could not be frozen
  pub lost_at : (b : Bool) (now : HelpRun) → HelpAnswers c.layout c.pass now h b → b ≡ false → now.scx ≡ help.scx → IsLost c h m (blocked_at now.members now.at).0.0 (blocked_at now.members now.at).1.0
  lost_at true now a t e = cc
  lost_at false now a t e = lost_with now now.at e a.aborted a.blocked
