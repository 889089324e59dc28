-- Once the step is made, a run of HELP may continue with what that found.
use Rattle.std.proofs.Common.{◌≡◌, ◌≢◌, ℕ, suc, ◌<◌, ◌⊎◌, inl, inr, refl, sym, ◌∙◌, ap, arith, Some}
use native.Mathlib.Decide.{ℕ_discrete}
use Rattle.histories.specs.Common.{Layout, MemberIndex, Row, Step, Freeze, State, AllFrozen, member_index, scx, info, marked, state, History, ◌⊳◌, value}
use Rattle.histories.specs.Common.{HasHeld, member, seen, count, Lawful, IsExchange, AreFrozen, IsRun, Call, row_of, IsTold, descriptor, IsOver, IsStarted}
use Rattle.arena.proofs.Lemmas.{last_now, last_more, value_at, value_apart, held_at, held_more, scx_word_apart}
use Rattle.histories.proofs.Lemmas.{descriptor_same, is_over, lawful_tail, not_state, started_more, won_after}
use Rattle.help.specs.Allowed.{IsPrepared, IsQuiet}
use Rattle.help.specs.Laws.Help.Allowing.{IsOutside, same_plan, same_member, same_seen}
use Rattle.help.specs.Help.Known.{IsServed, node_at, Freezes, HasLostFirstFreeze, Blocked, Marks, HasTried, Reading, reading, HelpKnows, help_step, HelpIsTold, HelpIsReady, HelpWaits}
use Rattle.help.specs.Laws.Help.Kept.{known_more, freezes_more, started_words, marks_more, frozen_more, read_more, blocked_same}
use Rattle.help.specs.Laws.Help.Lawful.{exchange_of, update_at, at_first}
use Rattle.help.specs.declared.state.HelpRun.{HelpRun}
use Rattle.help.specs.declared.state.HelpAt.{HelpAt}
use Rattle.help.specs.declared.state.HelpAt.TheVariants.{Start, Plan as AtPlan, Member as AtMember, Seen as AtSeen, Freeze as AtFreeze, AllFrozen as AtAllFrozen, Abort as AtAbort, SetFrozen as AtSetFrozen, Mark as AtMark, New as AtNew, Old as AtOld, Update as AtUpdate, Commit as AtCommit}

module _ (allows : Layout → History → ℕ → Type 0) (c : Call) (h : History) (m : Reading) where
  -- the SCX-record of a run is not the dummy
  real : IsServed allows c.layout c.pass h m.scx → m.scx ≢ 0
  real (inl x) e = x.real e
  real (inr x) e = let i = x.begins.own.from in omega arith

  -- the history once the step is made
  abbrev after : HelpAt → History
  after at = row_of c (help_step h m.scx at) h ⊳ h

  -- an exchange that finds `expected`, or what it stores, leaves what it stores
  stores : (e s before then : ℕ) → (before ≡ e → then ≡ s) → (before ≢ e → then ≡ before) → (before ≡ e) ⊎ (before ≡ s) → then ≡ s
  stores e s before then won lost (inl p) = won p
  stores e s before then won lost (inr p) = go (ℕ_discrete before e)
    where
      go : Dec (before ≡ e) → then ≡ s
      go (yes q) = won q
      go (no q) = lost q ∙ p

  module _ (j : MemberIndex) (x : Freezes allows c.layout c.pass h m (member_index j) (suc (member_index j))) (l : Lawful c.layout (row_of c (help_step h m.scx (AtFreeze j (seen h m.scx (member_index j)))) h ⊳ h)) where
    abbrev r : Row
    r = row_of c (help_step h m.scx (AtFreeze j (seen h m.scx (member_index j)))) h

    exchange : IsExchange r (seen h m.scx (member_index j)) m.scx
    exchange = exchange_of c h (help_step h m.scx (AtFreeze j (seen h m.scx (member_index j)))) (seen h m.scx (member_index j)) m.scx refl

    words : descriptor (r ⊳ h) m.scx ≡ descriptor h m.scx
    words = descriptor_same h (r ⊳ h) m.scx (λ a i. value_apart r h (info (member h m.scx (member_index j))) (scx m.scx a) refl refl)

    frozen_by : (r.before ≡ seen h m.scx (member_index j)) ⊎ (r.before ≡ m.scx) → HasHeld (r ⊳ h) (info (member h m.scx (member_index j))) m.scx
    frozen_by p = held_at (r ⊳ h) (info (member h m.scx (member_index j))) m.scx (value_at r h (info (member h m.scx (member_index j))) refl ∙ stores (seen h m.scx (member_index j)) m.scx r.before r.after exchange.won exchange.lost p)

    up_to : HasHeld (r ⊳ h) (info (member h m.scx (member_index j))) m.scx → (i : ℕ) → i < suc (member_index j) → Dec (i ≡ member_index j) → HasHeld (r ⊳ h) (info (member h m.scx i)) m.scx
    up_to p i q (yes e) = rw e p
    up_to p i q (no d) = held_more r h (info (member h m.scx i)) m.scx (x.frozen i (omega arith))

    all_up_to : HasHeld (r ⊳ h) (info (member h m.scx (member_index j))) m.scx → AreFrozen (r ⊳ h) m.scx (suc (member_index j))
    all_up_to p i q = rw (same_member h (r ⊳ h) m.scx words i) (up_to p i q (ℕ_discrete i (member_index j)))

    started : HasHeld (r ⊳ h) (info (member h m.scx (member_index j))) m.scx → IsStarted (r ⊳ h) m.scx
    started p = record { real = real x.served; named = (member h m.scx (member_index j), p) }

    lost_at : (i : ℕ) → i ≡ 0 → value (r ⊳ h) (info (member (r ⊳ h) m.scx i)) ≢ seen (r ⊳ h) m.scx i → 0 < count (r ⊳ h) m.scx → IsPrepared allows c.layout c.pass (r ⊳ h) m.scx → HasLostFirstFreeze c.layout c.pass (r ⊳ h) m.scx
    lost_at i e d s p = record {
      own = p.begins.own;
      free = p.begins.free;
      some = s;
      named = p.begins.named 0 s;
      rest = p.begins.rest 0 s;
      passed = rw e at d;
    }

    over_at : Freezes allows c.layout c.pass (r ⊳ h) m (member_index j) (suc (member_index j)) → value (r ⊳ h) (info (member (r ⊳ h) m.scx (member_index j))) ≡ value h (info (member h m.scx (member_index j))) → value (r ⊳ h) (info (member (r ⊳ h) m.scx (member_index j))) ≢ seen (r ⊳ h) m.scx (member_index j) → value (r ⊳ h) (info (member (r ⊳ h) m.scx (member_index j))) ≢ m.scx → Blocked c.layout c.pass (r ⊳ h) m (member_index j) (value (r ⊳ h) (info (member (r ⊳ h) m.scx (member_index j))))
    over_at y e d n = record {
      over = go y.served;
      blocked = record {
        index = member_index j;
        within = y.within;
        is = sym read;
        other = d;
        not_own = n;
        row = r;
        before = h;
        last = last_now c.pass h Freeze (node_at m.members (member_index j)) r refl refl (ap info (sym read_before));
        covered = x.within;
        found = ap (λ i. value h (info i)) read_before ∙ sym e;
      };
    }
      where
        read : node_at m.members (member_index j) ≡ member (r ⊳ h) m.scx (member_index j)
        read = y.read (member_index j) (omega arith)

        read_before : node_at m.members (member_index j) ≡ member h m.scx (member_index j)
        read_before = x.read (member_index j) (omega arith)

        go : IsServed allows c.layout c.pass (r ⊳ h) m.scx → (IsStarted (r ⊳ h) m.scx × IsOver (r ⊳ h) m.scx) ⊎ HasLostFirstFreeze c.layout c.pass (r ⊳ h) m.scx
        go (inl s) = inl (s, is_over c.layout (r ⊳ h) m.scx (member_index j) l s y.within y.frozen d n)
        go (inr p) =
            let e = y.frozen in
            inr (lost_at (member_index j) (at_first allows c (r ⊳ h) m l (member_index j) p e) d (let i = y.within in omega arith) p)

    tried : HasTried c.layout c.pass (r ⊳ h) m (member_index j) (value h (info (member h m.scx (member_index j)))) (seen h m.scx (member_index j))
    tried = record {
      plan = same_plan h (r ⊳ h) m.scx words ∙ x.plan;
      within = rw (same_plan h (r ⊳ h) m.scx words) x.within;
      read = read_more h (r ⊳ h) m words (suc (member_index j)) x.read;
      won = λ p. (started (frozen_by p), all_up_to (frozen_by p));
      lost = λ d n.
          let q : IsOutside c.pass r = inr record { no_fill = refl; same = exchange.lost d } in
          let y : Freezes allows c.layout c.pass (r ⊳ h) m (member_index j) (suc (member_index j)) = freezes_more allows c.layout c.pass h r c.is_pass l q m (member_index j) (suc (member_index j)) x in
          let e : value (r ⊳ h) (info (member (r ⊳ h) m.scx (member_index j))) ≡ value h (info (member h m.scx (member_index j))) = rw (same_member h (r ⊳ h) m.scx words (member_index j)) (value_at r h (info (member h m.scx (member_index j))) refl ∙ exchange.lost d) in
          rw e at (over_at y e (λ z. d (sym e ∙ z ∙ same_seen h (r ⊳ h) m.scx words (member_index j))) (λ z. n (sym e ∙ z)));
    }

  module _ (at : HelpAt) (l : Lawful c.layout (row_of c (help_step h m.scx at) h ⊳ h)) (k : HelpKnows allows c.layout c.pass h m at) where
    -- after a load, which is no freezing exchange, the run knows what it knew
    quiet_known : IsQuiet (row_of c (help_step h m.scx at) h) → (help_step h m.scx at).kind ≢ Freeze → HelpKnows allows c.layout c.pass (row_of c (help_step h m.scx at) h ⊳ h) m at
    quiet_known q d = known_more allows c.layout c.pass h (row_of c (help_step h m.scx at) h) c.is_pass l (inr q) m at (λ e. d) k

    -- and the word holds what the load found
    quiet_value : (v : ℕ) → v ≡ value h (help_step h m.scx at).word → (row_of c (help_step h m.scx at) h).after ≡ value h (help_step h m.scx at).word → value (row_of c (help_step h m.scx at) h ⊳ h) (help_step h m.scx at).word ≡ v
    quiet_value v e q = value_at (row_of c (help_step h m.scx at) h) h (help_step h m.scx at).word refl ∙ q ∙ sym e

  abort_words : (j : MemberIndex) (v : ℕ) → descriptor (after (AtAbort j v)) m.scx ≡ descriptor h m.scx
  abort_words j v = descriptor_same h (after (AtAbort j v)) m.scx (λ a i. value_apart (row_of c (help_step h m.scx (AtAbort j v)) h) h (state m.scx) (scx m.scx a) refl (scx_word_apart m.scx m.scx State a (not_state a i)))

  -- the mark of one more node
  one_more : (j i : ℕ) (P : ℕ → Type 0) → (i < j → P i) → P j → i < suc j → Dec (i ≡ j) → P i
  one_more j i P below here q (yes e) = rw e here
  one_more j i P below here q (no d) = below (omega arith)

  module _ (j : MemberIndex) (x : Marks h m (member_index j)) (l : Lawful c.layout (row_of c (help_step h m.scx (AtMark j)) h ⊳ h)) where
    abbrev q : Row
    q = row_of c (help_step h m.scx (AtMark j)) h

    marked_here : value (q ⊳ h) (marked (member (q ⊳ h) m.scx (member_index j))) ≡ 1
    marked_here = rw (same_member h (q ⊳ h) m.scx (started_words c.layout h q l m.scx x.started) (member_index j)) (value_at q h (marked (member h m.scx (member_index j))) refl)

    mark_made : Marks (q ⊳ h) m (suc (member_index j))
    mark_made =
        let y = marks_more c.layout h q l m (member_index j) x in
        record {
          started = y.started;
          plan = y.plan;
          read = y.read;
          flag = y.flag;
          marked = λ i p w d. one_more (member_index j) i (λ i. value (q ⊳ h) (marked (member (q ⊳ h) m.scx i)) ≡ 1) (λ z. y.marked i z w d) marked_here p (ℕ_discrete i (member_index j));
        }

  made_at : (at : HelpAt) (v : ℕ) → Lawful c.layout (row_of c (help_step h m.scx at) h ⊳ h) → IsTold (help_step h m.scx at).access (value h (help_step h m.scx at).word) v → HelpKnows allows c.layout c.pass h m at
      → HelpIsTold allows c.layout c.pass (row_of c (help_step h m.scx at) h ⊳ h) m at v
  made_at Start v l t k = absurd k
  made_at AtPlan v l t k = (quiet_known AtPlan l k record { no_fill = refl; same = refl } (λ e. cc), quiet_value AtPlan l k v t refl)
  made_at (AtMember j) v l t k = (quiet_known (AtMember j) l k record { no_fill = refl; same = refl } (λ e. cc), quiet_value (AtMember j) l k v t refl)
  made_at (AtSeen j) v l t k = (quiet_known (AtSeen j) l k record { no_fill = refl; same = refl } (λ e. cc), quiet_value (AtSeen j) l k v t refl)
  made_at (AtFreeze j e) v l t k = rw (t, sym k.1) (tried j k.0 l)
  made_at (AtAllFrozen j e) v l t k = (quiet_known (AtAllFrozen j e) l k record { no_fill = refl; same = refl } (λ e. cc), quiet_value (AtAllFrozen j e) l k v t refl)
  made_at (AtAbort j e) v l t k = (
    value_at (row_of c (help_step h m.scx (AtAbort j e)) h) h (state m.scx) refl,
    blocked_same h (row_of c (help_step h m.scx (AtAbort j e)) h ⊳ h) m (abort_words j e) c.pass (node_at m.members (member_index j)) e (λ row before y. last_more c.pass h Freeze (node_at m.members (member_index j)) (row_of c (help_step h m.scx (AtAbort j e)) h) row before (λ p q. cc) y) k.blocked,
  )
  made_at AtSetFrozen v l t k =
      let q = frozen_more c.layout h (row_of c (help_step h m.scx AtSetFrozen) h) l m k in
      record { started = q.started; plan = q.plan; read = q.read; flag = value_at (row_of c (help_step h m.scx AtSetFrozen) h) h (scx m.scx AllFrozen) refl; marked = λ i p. absurd (omega arith) }
  made_at (AtMark j) v l t k = mark_made j k.0 l
  made_at AtNew v l t k = (quiet_known AtNew l k record { no_fill = refl; same = refl } (λ e. cc), quiet_value AtNew l k v t refl)
  made_at (AtOld e) v l t k =
      let x = quiet_known (AtOld e) l k record { no_fill = refl; same = refl } (λ e. cc) in
      (x.0, x.1, quiet_value (AtOld e) l k v t refl)
  made_at AtUpdate v l t k = (started_more (row_of c (help_step h m.scx AtUpdate) h) h m.scx k.started, won_after c.layout h (row_of c (help_step h m.scx AtUpdate) h) m.scx l refl (update_at allows c h m (lawful_tail c.layout h _ l) k))
  made_at AtCommit v l t k = value_at (row_of c (help_step h m.scx AtCommit) h) h (state m.scx) refl

-- once the step is made, the run of HELP may be called with what it found
pub help_made : (allows : Layout → History → ℕ → Type 0) (m : HelpRun) (c : Call) (h : History) (s : Step) (v : ℕ) → IsRun allows c.layout (row_of c s h ⊳ h) → IsTold s.access (value h s.word) v → HelpWaits allows c.layout c.pass m h s → HelpIsReady allows c.layout c.pass m (row_of c s h ⊳ h) (Some v)
help_made allows m c h s v run t w =
    let l : Lawful c.layout (row_of c (help_step h m.scx.0 m.at) h ⊳ h) = rw w.asked at run.lawful in
    let u : IsTold (help_step h m.scx.0 m.at).access (value h (help_step h m.scx.0 m.at).word) v = rw w.asked at t in
    rw w.asked (made_at allows c h (reading m) m.at v l u w.known)
