-- Who was in the way of a try that is lost.
use Rattle.std.proofs.Common.{◌≡◌, ◌≢◌, ℕ, suc, ◌<◌, ◌-◌, List, length, inl, inr, refl, subst, sym, arith, None}
use Rattle.histories.specs.Common.{Turn, Ask, Done, NodeNo, ScxNo, LoadInfo, History, Extends, Lawful, Call, MatchTurn, begun_at}
use Rattle.arena.proofs.Lemmas.{ends_self, ends_trans}
use Rattle.prims.specs.Laws.FoundThere.{there_wider}
use Rattle.prims.specs.Laws.Idle.{IsIdle, IsQuietSince, quiet_at_start}
use Rattle.template.specs.Common.{LlxAnswers, IsUsable, snap_at, VlxIsReady, Finalized, Fail, LlxRun, Snap, MapCall, MapReply, IsContended, HasLostTriesTo, HasTriedAtMost, MayTryNext}
use Rattle.prims.specs.Vlx.Known.{IsFirstChange}
use Rattle.prims.proofs.Lemmas.{usable_now, usable_since}
use Rattle.order.specs.Reads.{HasSnapped, Reads, HasStood}
use Rattle.order.specs.Replies.{IsReplyAt, KeepsTries}
use Rattle.order.specs.Tries.{BeginsTry, IsInTry}
use Rattle.template.specs.Tries.{IsInNewest}
use Rattle.template.proofs.Lemmas.{changed_contended, contended_wider, failed_contended, finalized_contended, lost_to, next_again, next_first, tried_few, tried_in}

module _ (c : Call) (h : History) (snaps : List Snap) (reads : Reads c h snaps) where
  -- an LLX that has begun in the call fails
  pub look_failed : (llx : LlxRun) (begin : History) (n : NodeNo) (s : ScxNo) → Extends begin c.start → LlxAnswers llx (begun_at c begin) h (Fail n s) → IsContended c h n.0 s.0
  look_failed llx begin n s e x = subst (λ k. IsContended c h k s.0) (sym x.0) (failed_contended c begin h llx.node.0 s.0 e x.1)

  -- it finds a node final that was not at a moment of the call
  pub look_finalized : (llx : LlxRun) (begin : History) (n : NodeNo) (s : ScxNo) → Extends begin c.start → HasStood c h llx.node.0 → LlxAnswers llx (begun_at c begin) h (Finalized n s) → IsContended c h n.0 s.0
  look_finalized llx begin n s e stood x = subst (λ k. IsContended c h k s.0) (sym x.0) (finalized_contended c h llx.node.0 s.0 reads.run.1.lawful reads.quiet stood.not_final x.1 (there_wider c.pass h begin c.start llx.node.0 s.0 e x.2))

-- a snapshot that the call has taken may be used
pub snapped_usable : (c : Call) (h : History) (snap : Snap) → Lawful c.layout h → (x : HasSnapped c h snap) → IsUsable c.layout h snap x.moment
snapped_usable c h snap l x = usable_since c.layout h x.moment snap x.moment l x.within (usable_now c.layout x.moment snap.node.0 snap x.is)

-- so a VLX over all of them may begin
pub first_look : (c : Call) (h : History) (snaps : List Snap) → Reads c h snaps → 0 < length snaps → VlxIsReady snaps 0 (begun_at c h) h None
first_look c h snaps reads some = record {
  asked = refl;
  some = some;
  linked = λ i p. (snapped_usable c h (snap_at snaps i) reads.run.1.lawful (reads.snapped i p)).linked;
  begins = refl;
  clear = record { over = reads.over; found = λ i p. ((reads.snapped i p).moment, (snapped_usable c h (snap_at snaps i) reads.run.1.lawful (reads.snapped i p)).found) };
}

-- its VLX, which has begun at a moment of the call, finds a change
pub look_changed : (c : Call) (begin h : History) (snaps : List Snap) (n s : ℕ) → Lawful c.layout h → Reads c begin snaps → IsFirstChange (begun_at c begin) h snaps n s → IsContended c h n s
look_changed c begin h snaps n s l reads x = changed_contended c LoadInfo begin h snaps n s l reads.quiet x.changed snapped.moment snapped.since (snapped_usable c begin (snap_at snaps x.changed.index) reads.run.1.lawful snapped).found
  where
    snapped : HasSnapped c begin (snap_at snaps x.changed.index)
    snapped = reads.snapped x.changed.index x.changed.within

-- the next try begins with a step: one is given up
pub gives_up : {A : Type 0} (c : Call) (h : History) (before now : ℕ) (turn : Turn A) (n s : ℕ) → MatchTurn turn (λ _. Unit {0}) (λ _. ⊥) → before ≢ 0 → now ≡ before - 1 → IsContended c h n s → KeepsTries c h before now turn
gives_up c h before now (Ask step) n s begins some is way = inr record { one = omega (arith, some, is); node = n; scx = s; way = way }
gives_up c h before now (Done answer) n s begins some is way = absurd begins

-- Its tries

-- in a try it is in its newest
in_newest : (c : Call) (h begin : History) (limit left : ℕ) → IsInTry c h begin limit left → IsInNewest c begin h limit left
in_newest c h begin limit left try = record { next = try.begins.next; newest = try.newest }

-- and has tried as needed
pub tried_here : (c : Call) (h begin : History) (limit left : ℕ) → IsInTry c h begin limit left → HasTriedAtMost c.layout c.pass h c.start limit
tried_here c h begin limit left try = tried_few c h limit left (tried_in c begin h limit left (in_newest c h begin limit left try))

-- so has a call that is about to begin one
pub tried_before : (c : Call) (h : History) (limit left : ℕ) → BeginsTry c h limit left → HasTriedAtMost c.layout c.pass h c.start limit
tried_before c h limit left x = record { few = let all = x.next.all in omega (arith, all); as_needed = x.next.as_needed }

-- it is in it whatever the numbers are called
pub try_as : (c : Call) (h begin : History) (limit left most now : ℕ) → most ≡ limit → now ≡ left → IsInTry c h begin limit left → IsInTry c h begin most now
try_as c h begin limit left most now e f x = rw (e, f) x

-- what contends with a try contends with the call
pub try_contended : (c : Call) (begin h : History) (n s limit left : ℕ) → IsInTry c h begin limit left → IsContended (begun_at c begin) h n s → IsContended c h n s
try_contended c begin h n s limit left try way = contended_wider c begin h n s try.begins.since way

-- and where that was the last, all are lost to it
pub all_lost : (c : Call) (begin h : History) (n s limit left : ℕ) → IsInTry c h begin limit left → left ≡ 0 → IsContended (begun_at c begin) h n s → HasLostTriesTo c.pass h c.start limit n s
all_lost c begin h n s limit left try last way = lost_to c begin h limit left (in_newest c h begin limit left try) n s way try.begins.since last

-- else it may begin another
pub begins_again : (c : Call) (begin h : History) (n s limit left now : ℕ) → IsInTry c h begin limit left → IsContended (begun_at c begin) h n s → Extends h begin → left ≢ 0 → now ≡ left - 1 → BeginsTry c h limit now
begins_again c begin h n s limit left now try way since some is = record {
  since = ends_trans h begin c.start since try.begins.since;
  quiet = try.quiet;
  next = next_again c begin h limit left (in_newest c h begin limit left try) n s way now some is;
}

-- the first of a call that has just begun
pub begins_first : (c : Call) (h : History) (limit left : ℕ) → h ≡ c.start → IsIdle c.layout c.pass h → limit ≡ suc left → BeginsTry c h limit left
begins_first c h limit left e idle all = record {
  since = subst (Extends h) e (ends_self h);
  quiet = subst (λ k. IsQuietSince c.layout c.pass k h) e (quiet_at_start c.layout c.pass h idle);
  next = subst (λ k. MayTryNext c k limit left) (sym e) (next_first c limit left all);
}

-- a try that is given up in a part of the call is given up in the call
pub keeps_wider : {A : Type 0} (c : Call) (begin h : History) (before now : ℕ) (turn : Turn A) → Extends begin c.start → KeepsTries (begun_at c begin) h before now turn → KeepsTries c h before now turn
keeps_wider c begin h before now turn e (inl kept) = inl kept
keeps_wider c begin h before now (Ask step) e (inr gave) = inr record { one = gave.one; node = gave.node; scx = gave.scx; way = contended_wider c begin h gave.node gave.scx e gave.way }
keeps_wider c begin h before now (Done answer) e (inr none) = absurd none

-- and what it replies at a moment of that it replies at one of the call
pub reply_wider : (c : Call) (begin h : History) (call : MapCall) (told : MapReply) → Extends begin c.start → IsReplyAt (begun_at c begin) h call told → IsReplyAt c h call told
reply_wider c begin h call told e x = record {
  moment = x.moment;
  within = x.within;
  first = x.first;
  own = let o = x.own in record { row = o.row; before = o.before; is = o.is; since = ends_trans o.before begin c.start o.since e; own = o.own };
  since = x.since;
  map = x.map;
  spelled = x.spelled;
  gives = x.gives;
}
