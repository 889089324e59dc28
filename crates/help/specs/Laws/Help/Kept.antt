-- What a run of HELP knows stays: rows of others keep it, and rows that change nothing.
use Rattle.std.proofs.Common.{◌≡◌, ◌≢◌, ℕ, suc, ◌<◌, ◌⊎◌, inl, inr, ⊎_elim, refl, sym, ◌∙◌, subst}
use Rattle.histories.specs.Common.{Layout, Row, Step, Freeze, member_index, info, History, ◌⊳◌, HasHeld, IsLastStep, member}
use Rattle.histories.specs.Common.{seen, count, IsNamedScx, Lawful, AreFrozen, IsRun, Call, descriptor, IsStarted, IsStuck}
use Rattle.arena.proofs.Lemmas.{last_more, held_more}
use Rattle.histories.proofs.Lemmas.{all_frozen_stays, descriptor_same, descriptor_stays, finished_stays, lawful_row, marked_stays, named_more, over_stays, own_words_stay, passed_stays, started_more, stays_free, stuck_stays, won_more}
use Rattle.help.specs.Laws.Help.Allowing.{IsOutside, same_plan, same_member, same_seen, same_new, same_old, same_field, free_words, prepared_more, quiet_words, quiet_named_scx}
use Rattle.help.specs.Help.Known.{IsServed, HasReadMembers, node_at, Freezes, HasLostFirstFreeze, IsBlocked, Blocked, Aborts, Frozen, Marks, Reading, reading, HelpKnows, help_step, HelpWaits}
use Rattle.help.specs.declared.state.HelpRun.{HelpRun}
use Rattle.help.specs.declared.state.HelpAt.{HelpAt}
use Rattle.help.specs.declared.state.HelpAt.TheVariants.{Start, Plan as AtPlan, Member as AtMember, Seen as AtSeen, Freeze as AtFreeze, AllFrozen as AtAllFrozen, Abort as AtAbort, SetFrozen as AtSetFrozen, Mark as AtMark, New as AtNew, Old as AtOld, Update as AtUpdate, Commit as AtCommit}

-- Where the words of the SCX-record stay

module _ (h k : History) (m : Reading) (e : descriptor k m.scx ≡ descriptor h m.scx) where
  -- what is a place among its nodes in k is one in h
  pub fewer : (j : ℕ) → j < count k m.scx → j < count h m.scx
  fewer j i = rw (same_plan h k m.scx e) at i

  -- the nodes that the run has read are still those of the SCX-record
  pub read_more : (n : ℕ) → HasReadMembers m h n → HasReadMembers m k n
  read_more n x i p = x i p ∙ sym (same_member h k m.scx e i)

  -- what kept the run from freezing a node is as it was, if the pass has made no freeze since
  pub blocked_same : (c n v : ℕ) → ((row : Row) (before : History) → IsLastStep c h Freeze n row before → IsLastStep c k Freeze n row before) → IsBlocked c h m.scx n v → IsBlocked c k m.scx n v
  blocked_same c n v p x = record {
    index = x.index;
    within = rw (same_plan h k m.scx e) x.within;
    is = same_member h k m.scx e x.index ∙ x.is;
    other = λ q. x.other (q ∙ same_seen h k m.scx e x.index);
    not_own = x.not_own;
    row = x.row;
    before = x.before;
    last = p x.row x.before x.last;
    covered = x.covered;
    found = x.found;
  }

-- Whatever lawful row comes, of an SCX-record that an info word names

module _ (lay : Layout) (h : History) (r : Row) (l : Lawful lay (r ⊳ h)) where
  -- the settled words of an SCX-record that has begun are as they were
  pub started_words : (s : ℕ) → IsStarted h s → descriptor (r ⊳ h) s ≡ descriptor h s
  started_words s x = descriptor_stays lay h r s l x.real x.named

  -- nodes that were ever frozen for s are so after the
  -- row too, where the words of s are as they were
  pub are_frozen_more : (s : ℕ) → descriptor (r ⊳ h) s ≡ descriptor h s → (j : ℕ) → AreFrozen h s j → AreFrozen (r ⊳ h) s j
  are_frozen_more s e j x i p =
      let q : HasHeld (r ⊳ h) (info (member h s i)) s = held_more r h (info (member h s i)) s (x i p) in
      rw (same_member h (r ⊳ h) s e i) q

  -- that all its nodes were frozen stays true
  pub frozen_more : (m : Reading) → Frozen h m → Frozen (r ⊳ h) m
  frozen_more m x =
      let e = started_words m.scx x.started in
      record {
        started = started_more r h m.scx x.started;
        plan = same_plan h (r ⊳ h) m.scx e ∙ x.plan;
        frozen = rw (same_plan h (r ⊳ h) m.scx e) (are_frozen_more m.scx e (count h m.scx) x.frozen);
        read = rw (same_plan h (r ⊳ h) m.scx e) (read_more h (r ⊳ h) m e (count h m.scx) x.read);
      }

  -- that those of its first j nodes which it finalizes are marked stays true
  pub marks_more : (m : Reading) (j : ℕ) → Marks h m j → Marks (r ⊳ h) m j
  marks_more m j x =
      let e = started_words m.scx x.started in
      record {
        started = started_more r h m.scx x.started;
        plan = same_plan h (r ⊳ h) m.scx e ∙ x.plan;
        read = rw (same_plan h (r ⊳ h) m.scx e) (read_more h (r ⊳ h) m e (count h m.scx) x.read);
        flag = all_frozen_stays lay h r m.scx l x.flag;
        marked = λ i p q t. rw (same_member h (r ⊳ h) m.scx e i) (marked_stays lay h r (member h m.scx i) l (x.marked i p (fewer h (r ⊳ h) m e i q) (rw (same_plan h (r ⊳ h) m.scx e) at t)));
      }

  -- that all it finalizes is marked stays true
  pub all_marked_more : (m : Reading) → Marks h m (count h m.scx) → Marks (r ⊳ h) m (count (r ⊳ h) m.scx)
  all_marked_more m x = rw (same_plan h (r ⊳ h) m.scx (started_words m.scx x.started)) (marks_more m (count h m.scx) x)

-- A row of another pass, or one that changes nothing

module _ (allows : Layout → History → ℕ → Type 0) (lay : Layout) (c : ℕ) (h : History) (r : Row) (is_pass : c < lay.passes) (l : Lawful lay (r ⊳ h)) (o : IsOutside c r) where
  -- the settled words of the SCX-record that the run serves are as they were
  pub served_words : (s : ℕ) → IsServed allows lay c h s → descriptor (r ⊳ h) s ≡ descriptor h s
  served_words s (inl x) = started_words lay h r l s x
  served_words s (inr x) = free_words lay h r c s l o x.begins

  served_more : (s : ℕ) → IsServed allows lay c h s → IsServed allows lay c (r ⊳ h) s
  served_more s (inl x) = inl (started_more r h s x)
  served_more s (inr x) = inr (prepared_more lay h r c s l allows is_pass o x)

  -- what a run knows on its way to freeze a node stays true
  pub freezes_more : (m : Reading) (j k : ℕ) → Freezes allows lay c h m j k → Freezes allows lay c (r ⊳ h) m j k
  freezes_more m j k x =
      let e = served_words m.scx x.served in
      record {
        served = served_more m.scx x.served;
        plan = same_plan h (r ⊳ h) m.scx e ∙ x.plan;
        within = rw (same_plan h (r ⊳ h) m.scx e) x.within;
        frozen = are_frozen_more lay h r l m.scx e j x.frozen;
        read = read_more h (r ⊳ h) m e k x.read;
      }

  -- the settled words of an SCX-record whose owner has lost its first freeze are as they were
  pub lost_words : (s : ℕ) → HasLostFirstFreeze lay c h s → descriptor (r ⊳ h) s ≡ descriptor h s
  lost_words s x = go o
    where
      go : IsOutside c r → descriptor (r ⊳ h) s ≡ descriptor h s
      go (inl other) = descriptor_same h (r ⊳ h) s (λ a i. own_words_stay lay h r c s l other x.own x.free a)
      go (inr q) = quiet_words lay h r (lawful_row lay h r l).before q s

  lost_more : (s : ℕ) → HasLostFirstFreeze lay c h s → HasLostFirstFreeze lay c (r ⊳ h) s
  lost_more s x =
      let e = lost_words s x in
      record {
        own = x.own;
        free = free o;
        some = rw (same_plan h (r ⊳ h) s e) x.some;
        named = rw (same_member h (r ⊳ h) s e 0) (named_more r x.named);
        rest = rw (same_seen h (r ⊳ h) s e 0) (finished_stays lay h r (seen h s 0) l x.rest);
        passed = rw (same_member h (r ⊳ h) s e 0, same_seen h (r ⊳ h) s e 0) (passed_stays lay h r (member h s 0) (seen h s 0) l x.named x.rest x.passed);
      }
    where
      free : IsOutside c r → ¬ IsNamedScx (r ⊳ h) s
      free (inl other) p = stays_free lay h r c s l other x.own x.free p
      free (inr q) p = x.free (quiet_named_scx lay h r (lawful_row lay h r l).before q s p)

  over_words : (m : Reading) (P : Type 0) → (IsStarted h m.scx × P) ⊎ HasLostFirstFreeze lay c h m.scx → descriptor (r ⊳ h) m.scx ≡ descriptor h m.scx
  over_words m P (inl x) = started_words lay h r l m.scx x.0
  over_words m P (inr x) = lost_words m.scx x

  -- what is known where a freeze has failed stays true, if the row is no freeze of the pass
  blocked_more : (r.pass.0 ≡ c → r.kind ≢ Freeze) → (m : Reading) (j v : ℕ) → Blocked lay c h m j v → Blocked lay c (r ⊳ h) m j v
  blocked_more d m j v x = record {
    over = ⊎_elim (λ y. inl (started_more r h m.scx y.0, over_stays lay h r m.scx l y.0 y.1)) (λ y. inr (lost_more m.scx y)) x.over;
    blocked = blocked_same h (r ⊳ h) m (over_words m _ x.over) c _ v (λ row before y. last_more c h Freeze (node_at m.members j) r row before d y) x.blocked;
  }

  aborts_more : (r.pass.0 ≡ c → r.kind ≢ Freeze) → (m : Reading) (j v : ℕ) → Aborts lay c h m j v → Aborts lay c (r ⊳ h) m j v
  aborts_more d m j v x = record {
    stuck = ⊎_elim (λ y. inl (started_more r h m.scx y.0, subst (λ d. IsStuck d (r ⊳ h) m.scx) (sym (started_words lay h r l m.scx y.0)) (stuck_stays lay h r m.scx l y.0 y.1))) (λ y. inr (lost_more m.scx y)) x.stuck;
    blocked = blocked_same h (r ⊳ h) m (over_words m _ x.stuck) c _ v (λ row before y. last_more c h Freeze (node_at m.members j) r row before d y) x.blocked;
  }

  -- so what is known at each place stays true, if the row is no freeze of the pass
  pub known_more : (m : Reading) (at : HelpAt) → (r.pass.0 ≡ c → r.kind ≢ Freeze) → HelpKnows allows lay c h m at → HelpKnows allows lay c (r ⊳ h) m at
  known_more m Start d k = k
  known_more m AtPlan d k = served_more m.scx k
  known_more m (AtMember j) d k = freezes_more m (member_index j) (member_index j) k
  known_more m (AtSeen j) d k = freezes_more m (member_index j) (suc (member_index j)) k
  known_more m (AtFreeze j v) d k = (freezes_more m (member_index j) (suc (member_index j)) k.0, same_seen h (r ⊳ h) m.scx (served_words m.scx k.0.served) (member_index j) ∙ k.1)
  known_more m (AtAllFrozen j v) d k = blocked_more d m (member_index j) v k
  known_more m (AtAbort j v) d k = aborts_more d m (member_index j) v k
  known_more m AtSetFrozen d k = frozen_more lay h r l m k
  known_more m (AtMark j) d k =
      let e = started_words lay h r l m.scx k.0.started in
      (marks_more lay h r l m (member_index j) k.0, rw (same_plan h (r ⊳ h) m.scx e) k.1, rw (same_plan h (r ⊳ h) m.scx e) k.2)
  known_more m AtNew d k = all_marked_more lay h r l m k
  known_more m (AtOld v) d k = (all_marked_more lay h r l m k.0, same_new h (r ⊳ h) m.scx (started_words lay h r l m.scx k.0.started) ∙ k.1)
  known_more m AtUpdate d k = all_marked_more lay h r l m k
  known_more m AtCommit d k = (started_more r h m.scx k.0, won_more r h m.scx k.1)

  -- and the step that it waits for
  step_more : (m : Reading) (at : HelpAt) → HelpKnows allows lay c h m at → help_step (r ⊳ h) m.scx at ≡ help_step h m.scx at
  step_more m Start k = refl
  step_more m AtPlan k = refl
  step_more m (AtMember j) k = refl
  step_more m (AtSeen j) k = refl
  step_more m (AtFreeze j v) k = let e = served_words m.scx k.0.served in rw (same_member h (r ⊳ h) m.scx e (member_index j), same_seen h (r ⊳ h) m.scx e (member_index j)) refl
  step_more m (AtAllFrozen j v) k = refl
  step_more m (AtAbort j v) k = refl
  step_more m AtSetFrozen k = refl
  step_more m (AtMark j) k = rw (same_member h (r ⊳ h) m.scx (started_words lay h r l m.scx k.0.started) (member_index j)) refl
  step_more m AtNew k = refl
  step_more m (AtOld v) k = refl
  step_more m AtUpdate k = let e = started_words lay h r l m.scx k.started in rw (same_field h (r ⊳ h) m.scx e, same_old h (r ⊳ h) m.scx e, same_new h (r ⊳ h) m.scx e) refl
  step_more m AtCommit k = refl

-- rows of other passes leave a run of HELP waiting for the same step
pub help_keeps : (allows : Layout → History → ℕ → Type 0) (m : HelpRun) (c : Call) (h : History) (s : Step) (r : Row) → IsRun allows c.layout (r ⊳ h) → r.pass.0 ≢ c.pass → HelpWaits allows c.layout c.pass m h s → HelpWaits allows c.layout c.pass m (r ⊳ h) s
help_keeps allows m c h s r run other w = record {
  known = known_more allows c.layout c.pass h r c.is_pass run.lawful (inl other) (reading m) m.at (λ e. absurd (other e)) w.known;
  asked = w.asked ∙ sym (step_more allows c.layout c.pass h r c.is_pass run.lawful (inl other) (reading m) m.at w.known);
}
