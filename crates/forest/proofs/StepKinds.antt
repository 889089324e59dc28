-- Which kinds of step a call of a dictionary makes; a range that asks for no pairs makes none.
use Rattle.std.specs.Prelude.{Bool}
use Rattle.template.specs.Balance.{map_mode}
use Rattle.std.proofs.Common.{◌≡◌, ◌∙◌, ℕ, List, refl, sym, ap, subst}
use Rattle.atomic_table.specs.Seated.{TableId}
use Rattle.atomic_table.specs.declared.shared.Seat.{Seat}
use Rattle.histories.specs.Common.{Layout, Row, Step, History, ◌⊳◌, Extends, Call, Remaining}
use Rattle.arena.proofs.Lemmas.{ends_trans}
use Rattle.prims.specs.Shares.{share_end}
use Rattle.prims.proofs.Lemmas.{all_over}
use Rattle.template.specs.Common.{call_rules, MapCall, Reply}
use Rattle.ordered_map.specs.declared.reply.Reply.TheVariants as replies
use Rattle.edits.specs.Known.{RestsWith}
use Rattle.dict.specs.Inner.{inner}
use Rattle.dict.specs.Calls.{AsksForPairs, call_in, share_of}
use Rattle.dict.specs.DictKnown.{DictWaits}
use Rattle.dict.specs.Laws.OneShare.{one_share}
use Rattle.dict.specs.Laws.Kinds.{is_of_kind}
use Rattle.dict.proofs.Lemmas.{asks_inside, kind_inside}
use Rattle.dict.specs.Typed.{TypedAllows}
use Rattle.dict.specs.Words.{IsWordOf}
use Rattle.dict.specs.declared.dict.DictRun.{DictRun}
use Rattle.forest.specs.declared.pass.Pass.TheInside.{Inside}
use Rattle.tables.specs.declared.view.SeatView.{SeatView}
use Rattle.forest.specs.Dictionary.{IsRefusalOf, blamed_by_reply}
use Rattle.tables.specs.Passes.{HoldsOfOwn, PassView, run_of, taken_of}
use Rattle.forest.specs.PassInvariant.{IsPass, pass_view, layout_in}
use Rattle.forest.specs.StepKinds.{HasKeptToKinds}
use Rattle.straight.specs.StraightCalls.{IsSameDictCall}
use Rattle.tables.specs.declared.memory.PassMemory.{PassMemory}
use Rattle.tables.specs.TableRule.{history_of}
use Rattle.tables.specs.Traces.{HoldsForCall, Trace, known_of, planting_of, run_at, KnowsAs}
use Rattle.forest.proofs.Called.{course_holds, own_start}
use Rattle.straight.proofs.AfterCalls.{course_keeps}
use Rattle.forest.proofs.DictCalls.{Answered, IsSameCall, behind, dict_refuses}
use Rattle.forest.proofs.Entered.{HasEnded}
use Rattle.forest.proofs.Passes.{call_of}
use Rattle.planting.specs.Plantings.{PlantingView}

-- no row of a history is after it
no_row : (h : History) (r : Row) (before : History) → Extends h (r ⊳ before) → Extends before h → ⊥
no_row h r before within since = own_start (λ _. ⊥) r.pass.0 h r before within since refl

-- a call that has seen no row has met nobody, so it blames nobody
blames_none : {K V : Type 0} (old new : PassView) (tries : ℕ) (call : MapCall) (reply : Reply K V) (blamed : List ℕ) → run_of new ≡ run_of old → IsRefusalOf tries old new call reply → blamed_by_reply reply blamed ≡ blamed
blames_none old new tries call (replies.Value v) blamed same x = refl
blames_none old new tries call (replies.Pair v) blamed same x = refl
blames_none old new tries call (replies.Pairs v) blamed same x = refl
blames_none old new tries call (replies.Full f) blamed same x = refl
blames_none old new tries call replies.NoMemory blamed same x = refl
blames_none old new tries call (replies.Contended n s) blamed same x =
    let way = x.lost.all.lost.in_the_way in
    absurd (no_row (run_of new) way.row way.before way.within (subst (Extends way.before) (sym same) (ends_trans way.before x.lost.all.lost.begin (run_of old) way.since x.lost.all.lost.since)))

-- What a call leaves

module _ {K V : Type 0} (valid_key : K → Type 0) (key : K → ℕ) (valid_value : V → Type 0) (value_word : V → ℕ) where
  abbrev allows : Layout → History → ℕ → Type 0
  allows = TypedAllows (IsWordOf valid_key key) (IsWordOf valid_value value_word)

  abbrev waits : DictRun K V → Call → History → Step → Type 0
  waits = DictWaits (IsWordOf valid_key key) (IsWordOf valid_value value_word)

  abbrev same : DictRun K V → DictRun K V → Type 0
  same = IsSameDictCall valid_key key valid_value value_word

  -- one that waits for a step asks for pairs, if it is a range
  pub waits_asks : (m : DictRun K V) (c : Call) (h : History) (s : Step) → waits m c h s → AsksForPairs (call_in m.run)
  waits_asks m c h s w = asks_inside (inner m.run) (is_of_kind m.run) c h s w.1.1

  module _ (trie : Bool) {T : Type 0} (p : Inside T) (x : IsPass allows (map_mode trie) p) (s : Seat ℕ SeatView) (m : DictRun K V) (reply : Reply K V) where
    abbrev call : Call
    call = call_of p x (taken_of (pass_view p))

    -- how it has ended
    abbrev Ended : History → Type 0
    Ended = Answered valid_key key valid_value value_word trie p x s m reply

    -- the pass as contracts see it then
    abbrev now : PassView
    now = pass_view (behind valid_key key valid_value value_word trie p x s m reply)

    -- it has made steps of its kinds alone
    pub dict_kinds : {left : PassMemory → Type 0} (first : DictRun K V) → HoldsForCall allows left s.me.0.passes call (λ h. Ended h × Trace allows waits same call first m h) → HasKeptToKinds (pass_view p) now (call_in m.run)
    dict_kinds first y =
        let run : history_of y.planting y.known ≡ run_at s.me.0.passes = sym (ap run_at y.is.alone) in
        let is : call_in m.run ≡ call_in first.run = (course_keeps (λ (k : DictRun K V). IsSameCall valid_key key valid_value value_word first k) (refl, refl, refl) (λ old now e q. (e.0 ∙ q.0, e.1 ∙ q.1, e.4 ∙ q.2)) m _ y.so.1).0 in
        subst (λ (h : History). HoldsOfOwn (λ r. (call_rules (call_in m.run)).MayMake r.kind) p.number.0 (run_of (pass_view p)) h) run
        (course_holds waits same call first (λ r. (call_rules (call_in m.run)).MayMake r.kind) (λ (k : DictRun K V). call_in k.run ≡ call_in m.run) (sym is) (λ old now e q. e.0 ∙ q) (λ k h t q w. subst (λ (asked : MapCall). (call_rules asked).MayMake t.kind) q (kind_inside (inner k.run) (is_of_kind k.run) call h t w.1.1)) m _ y.so.1).1

    -- a pass of this layout and number
    abbrev seen : TableId → Remaining → PlantingView → List Row → List ℕ → PassView
    seen table share planting known blamed = record { table = table; layout = layout_in p; planting = planting; number = p.number.0; share = share; known = known; blamed = blamed }

    -- a call after which its pass knows what it knew before has left the pass as it was
    pub dict_nothing : share_end (share_of m.run) ≡ share_end p.share → HasEnded allows p s (taken_of (pass_view p)) Ended → s.table_id ≡ p.seat.table_id → KnowsAs s.me.0.passes (planting_of p.seat.me.0.passes) (known_of p.seat.me.0.passes) → now ≡ pass_view p
    dict_nothing end y table known =
        let run : run_of now ≡ run_of (pass_view p) = ap (λ (b : PlantingView). history_of b (known_of s.me.0.passes)) known.0 ∙ ap (history_of (planting_of p.seat.me.0.passes)) known.1 in
        let rests : RestsWith call (run_of (pass_view p)) p.share = record { share = x.rest.share; over = all_over (layout_in p) _ p.number.0 p.share p.share.next_node p.share.next_scx x.rest.share x.rest.over } in
        let share : share_of m.run ≡ p.share = one_share call (run_of now) (share_of m.run) p.share end y.answers.rests (subst (λ h. RestsWith call h p.share) (sym run) rests) in
        let blamed : blamed_by_reply reply p.blamed ≡ p.blamed = blames_none (pass_view p) now m.tries (call_in m.run) reply p.blamed run (dict_refuses valid_key key valid_value value_word trie p x s m reply end y) in
        ap (λ t. seen t (share_of m.run) (planting_of s.me.0.passes) (known_of s.me.0.passes) (blamed_by_reply reply p.blamed)) table
        ∙ ap (λ r. seen p.seat.table_id r (planting_of s.me.0.passes) (known_of s.me.0.passes) (blamed_by_reply reply p.blamed)) share
        ∙ ap (λ b. seen p.seat.table_id p.share b (known_of s.me.0.passes) (blamed_by_reply reply p.blamed)) known.0
        ∙ ap (λ k. seen p.seat.table_id p.share (planting_of p.seat.me.0.passes) k (blamed_by_reply reply p.blamed)) known.1
        ∙ ap (λ b. seen p.seat.table_id p.share (planting_of p.seat.me.0.passes) (known_of p.seat.me.0.passes) b) blamed
