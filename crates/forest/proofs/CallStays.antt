-- What a pass has taken and was never put in stays out of the tree and the trie while it makes a call
-- of a dictionary; and so is what it has taken in a call that was lost.
use Rattle.std.specs.Prelude.{Bool}
use Rattle.std.proofs.Common.{◌≡◌, ◌<◌, ◌≤◌, ℕ, List, inl, inr, arith, ap, refl, subst, sym}
use Rattle.arena.proofs.Lemmas.{ends_self}
use Rattle.atomic_table.specs.declared.shared.Seat.{Seat}
use Rattle.dict.specs.Calls.{call_in, share_of}
use Rattle.dict.specs.DictKnown.{DictRefuses, DictWaits}
use Rattle.dict.specs.Laws.Begins.{dict_mode}
use Rattle.dict.specs.Laws.TypedMaps.{typed_run}
use Rattle.dict.specs.Typed.{TypedAllows}
use Rattle.dict.specs.Words.{IsWordOf}
use Rattle.dict.specs.declared.dict.DictRun.{DictRun}
use Rattle.edits.specs.Tries.{HasEnteredNone}
use Rattle.histories.specs.Common.{Call, Extends, History, IsInField, IsOwnNode, Layout, Opened, Remaining, Row, row_of, ◌⊳◌}
use Rattle.ordered_map.specs.Paths.{WasInTree}
use Rattle.ordered_map.specs.Runs.{IsMapRun}
use Rattle.ordered_map.proofs.MapLemmas.{run_since, stood_in_field}
use Rattle.ordered_map.specs.declared.reply.Reply.{Reply}
use Rattle.ordered_map.specs.declared.reply.Reply.TheVariants as replies
use Rattle.prims.specs.Moments.{AreFinished}
use Rattle.prims.specs.Shares.{IsShare}
use Rattle.prims.proofs.Lemmas.{all_over}
use Rattle.resting.specs.Dead.{IsUnborn}
use Rattle.resting.specs.Rests.{HasRestedAt}
use Rattle.resting.proofs.Lemmas.{no_row_behind, unborn_since}
use Rattle.template.specs.Balance.{map_mode}
use Rattle.touching.specs.Steps.{IsMapCall, IsMapStep}
use Rattle.tables.specs.CallSteps.{dict_step}
use Rattle.forest.specs.PassInvariant.{IsPass, layout_in, pass_view, seated_in}
use Rattle.tables.specs.Passes.{taken_of}
use Rattle.straight.specs.StraightCalls.{IsSameDictCall}
use Rattle.tables.specs.Traces.{Trace, begins, goes_on, makes, others, run_at}
use Rattle.upkeep.specs.UpkeepKeeper.{StaysOut}
use Rattle.upkeep.specs.UpkeepLost.{IsLostReply}
use Rattle.forest.specs.declared.pass.Pass.TheInside.{Inside}
use Rattle.tables.specs.declared.view.SeatView.{SeatView}
use Rattle.forest.proofs.Called.{course_since}
use Rattle.forest.proofs.DictCalls.{Answered}
use Rattle.forest.proofs.Entered.{HasEnded, left_with}
use Rattle.forest.proofs.Passes.{call_of}
use Rattle.upkeep.proofs.UpkeepStays.{PutsInNone}
use Rattle.forest.proofs.WholeCalls.{IsOver, ended}

-- Steps

-- the newest row is a step of the call, if it is of its pass
abbrev NewestIsStep : Call → History → Type 0
NewestIsStep c (Opened o) = Unit {0}
NewestIsStep c (r ⊳ h) = r.pass.0 ≡ c.pass → IsMapStep c h r

steps_more : (c : Call) (h : History) (r : Row) → NewestIsStep c (r ⊳ h) → IsMapCall c h → IsMapCall c (r ⊳ h)
steps_more c h r now x q g (inl e) since own = subst (NewestIsStep c) (sym e) now own
steps_more c h r now x q g (inr e) since own = x q g e since own

-- each row of its pass since it began is a step of it
course_steps : {K V : Type 0} {allows : Layout → History → ℕ → Type 0} {same : DictRun K V → DictRun K V → Type 0} (keys values : ℕ → Type 0) (c : Call) (first m : DictRun K V) (h : History) → Trace allows (DictWaits keys values) same c first m h → IsMapCall c h
course_steps keys values c first m h (begins e k) = subst (IsMapCall c) (sym k) (λ r g within since own. absurd (no_row_behind c.start g r within since))
course_steps keys values c first m h (others s r g e w other run x) = subst (IsMapCall c) (sym e) (steps_more c g r (λ own. absurd (other own)) (course_steps keys values c first m g x))
course_steps keys values c first m h (makes s g e w run x) = subst (IsMapCall c) (sym e) (steps_more c g (row_of c s g) (λ own. dict_step keys values m c g s w) (course_steps keys values c first m g x))
course_steps keys values c first m h (goes_on old is x) = course_steps keys values c first old h x

-- so the pass has rested as the call began
rested_at_start : {K V : Type 0} {allows : Layout → History → ℕ → Type 0} {same : DictRun K V → DictRun K V → Type 0} (keys values : ℕ → Type 0) (c : Call) (first m : DictRun K V) (h : History) → AreFinished c.layout c.pass 0 c.start → Trace allows (DictWaits keys values) same c first m h → HasRestedAt c.layout h c.pass c.start
rested_at_start keys values c first m h over x = record {
  within = course_since c m h x;
  over = over;
  rows = λ r g within since own. inl record { call = c; layout = refl; pass = refl; since = ends_self c.start; step = course_steps keys values c first m h x r g within since own };
}

-- What is left of a share

-- what a pass has not taken was never there
untaken_never : (lay : Layout) (h : History) (o : ℕ) (left : Remaining) (n : ℕ) → IsMapRun lay h → IsShare lay h o left left.next_node left.next_scx → IsOwnNode lay o n → left.next_node ≤ n → ¬ WasInTree h n
untaken_never lay h o left n run share own from was = go (stood_in_field lay h n run was)
  where
    go : IsInField lay h n → ⊥
    go (inl few) = absurd (let a = own.from in omega (arith, few, a))
    go (inr x) = (share.unmentioned n own from).in_no_field x.0 x.1 x.3

-- what it has taken since, while it has entered nothing, was never there
taken_in_vain : PutsInNone → (lay : Layout) (h start : History) (o : ℕ) (before left : Remaining) → o < lay.passes → IsMapRun lay h → Extends h start → IsShare lay start o before before.next_node before.next_scx → IsShare lay h o left left.next_node left.next_scx → HasEnteredNone lay o h start → (n : ℕ) → before.next_node ≤ n → n < left.next_node → IsUnborn lay o h n
taken_in_vain law lay h start o before left is_pass run since was now none n from to = record {
  own = own;
  taken = now.taken_nodes n own to;
  never = law lay h start o n is_pass run own (untaken_never lay start o before n (run_since lay h start run since) was own from) since none;
}
  where
    own : IsOwnNode lay o n
    own = record { from = let a = was.from_node in omega (arith, a, from); below = let b = now.to_node in omega (arith, b, to) }

-- Calls of a dictionary

module _ {K V : Type 0} (valid_key : K → Type 0) (key : K → ℕ) (valid_value : V → Type 0) (value_word : V → ℕ) where
  abbrev allows : Layout → History → ℕ → Type 0
  allows = TypedAllows (IsWordOf valid_key key) (IsWordOf valid_value value_word)

  module _ (trie : Bool) {T : Type 0} (p : Inside T) (x : IsPass allows (map_mode trie) p) (s : Seat ℕ SeatView) (first m : DictRun K V) (reply : Reply K V) (over : IsOver valid_key key valid_value value_word trie p x s first m reply) where
    abbrev lay : Layout
    lay = layout_in p

    abbrev o : ℕ
    o = p.number.0

    abbrev start : History
    start = run_at p.seat.me.0.passes

    abbrev now : History
    now = run_at s.me.0.passes

    abbrev End : Type 0
    End = HasEnded allows p s (taken_of (pass_view p)) (Answered valid_key key valid_value value_word trie p x s m reply)

    is_ended : End
    is_ended = ended valid_key key valid_value value_word trie p x s first m reply over

    map_now : IsMapRun lay now
    map_now = (dict_mode lay.mode trie x.is_mode, typed_run (IsWordOf valid_key key) (IsWordOf valid_value value_word) lay now is_ended.sound)

    rested : HasRestedAt lay now o start
    rested = subst (λ h. HasRestedAt lay h o start) (sym (ap run_at over.is.alone))
        (rested_at_start (IsWordOf valid_key key) (IsWordOf valid_value value_word) (call_of p x (taken_of (pass_view p))) first m _ (all_over lay start o p.share p.share.next_node p.share.next_scx x.rest.share x.rest.over) over.so.1)

    -- what was out stays out
    pub call_keeps_out : (left : Remaining) (blamed : List ℕ) → StaysOut (seated_in p) (seated_in (left_with p x s (taken_of (pass_view p)) (Answered valid_key key valid_value value_word trie p x s m reply) left blamed))
    call_keeps_out left blamed n unborn = unborn_since lay now o start n x.is_pass map_now rested unborn

    -- and if the call was lost, what it has taken is out
    lost_none : (r : Reply K V) → IsLostReply r → DictRefuses (call_of p x (taken_of (pass_view p))) now (call_in m.run) (share_of m.run) m.tries r → HasEnteredNone lay o now start
    lost_none (replies.Contended node scx) is z = z.none
    lost_none (replies.Full full) is z = z.none
    lost_none (replies.Value v) is z = absurd is
    lost_none (replies.Pair v) is z = absurd is
    lost_none (replies.Pairs v) is z = absurd is
    lost_none replies.NoMemory is z = absurd is

    pub call_lost : PutsInNone → IsLostReply reply → (n : ℕ) → p.share.next_node ≤ n → n < (share_of m.run).next_node → IsUnborn lay o now n
    call_lost law is n from to = taken_in_vain law lay now start o p.share (share_of m.run) x.is_pass map_now is_ended.since x.rest.share is_ended.answers.rests.share (lost_none reply is is_ended.answers.refuses) n from to
