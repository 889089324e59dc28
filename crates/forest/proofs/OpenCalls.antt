-- What a call that was held open leaves of its pass, once it has answered.
use Rattle.template.specs.Balance.{map_mode}
use Rattle.std.proofs.Common.{◌≡◌, ◌<◌, ◌≤◌, ◌+◌, ◌-◌, ℕ, Bool, List, refl, sym, ap, subst, arith}
use Rattle.histories.specs.Common.{Done, Extends, Layout, PassNo, Remaining}
use Rattle.resting.specs.Dead.{IsUnborn}
use Rattle.dict.specs.Calls.{call_in, share_of}
use Rattle.dict.specs.Typed.{TypedAllows}
use Rattle.dict.specs.Words.{IsWordOf}
use Rattle.dict.specs.DictKnown.{DictWaits, DictAnswers}
use Rattle.ordered_map.specs.declared.reply.Reply.{Reply}
use Rattle.dict.specs.declared.shape.Dict.{Dict}
use Rattle.forest.specs.declared.open.OpenCall.TheInside.{Inside}
use Rattle.forest.specs.declared.pass.Pass.TheInside as pass
use Rattle.forest.specs.Dictionary.{HasCalledIn, blamed_by_reply}
use Rattle.forest.specs.OpenInvariant.{IsOpen, KeepsOwn, next_call, pass_as}
use Rattle.tables.specs.Passes.{Ground, IsOf, run_of, steps_of}
use Rattle.forest.specs.PassInvariant.{IsPass, pass_view, layout_in, seated_in}
use Rattle.tables.specs.CallSteps.{HasDictLeft}
use Rattle.tables.specs.TableRule.{seated_pass}
use Rattle.tables.specs.Traces.{Stands, memory_of, run_at, seat_steps}
use Rattle.upkeep.specs.UpkeepKeeper.{StaysOut}
use Rattle.forest.specs.UpkeepKept.{KeepsRight}
use Rattle.upkeep.specs.UpkeepLost.{AreUnborn, IsLostReply}
use Rattle.tables.specs.declared.view.SeatedPass.{SeatedPass}
use Rattle.straight.specs.StraightCalls.{IsSameDictCall, SeatDictEnds}
use Rattle.forest.proofs.CallStays.{call_keeps_out, call_lost}
use Rattle.forest.proofs.DictCalls.{behind, dict_pass}
use Rattle.forest.proofs.Passes.{steps_are}
use Rattle.forest.proofs.UpkeepKept.{keeps_right}
use Rattle.upkeep.proofs.UpkeepStays.{PutsInNone}
use Rattle.forest.proofs.WholeCalls.{ended, left_end, says, stays_dealt}

module _ {K V B : Type 0} (valid_key : K → Type 0) (key : K → ℕ) (valid_value : V → Type 0) (value_word : V → ℕ) {trie : Bool} (o : Inside K V B) (x : IsOpen valid_key key valid_value value_word trie o) (reply : Reply K V) (is : o.turn ≡ Done reply) where
  -- the pass as the call began
  abbrev was : pass.Inside (Dict K V B)
  was = pass_as o.began.value o.seat o.room

  ends : SeatDictEnds valid_key key valid_value value_word (next_call o.began.value x.pass.is_pass) o.seat.me.0.passes x.first o.run reply
  ends = subst (λ turn. Stands (TypedAllows (IsWordOf valid_key key) (IsWordOf valid_value value_word)) (DictWaits (IsWordOf valid_key key) (IsWordOf valid_value value_word)) (IsSameDictCall valid_key key valid_value value_word) HasDictLeft (next_call o.began.value x.pass.is_pass) o.seat.me.0.passes x.first (DictAnswers valid_key key valid_value value_word) o.run turn) is x.stands

  module _ (left : Remaining) (blamed : List ℕ) (gives : left ≡ share_of o.run.run) (blames : blamed ≡ blamed_by_reply reply o.blamed) where
    -- the pass that is given back
    abbrev pub back : pass.Inside (Dict K V B)
    back = record { number = o.number; first_scx = o.first_scx; share = left; seat = o.seat; blamed = blamed; birth = o.birth; room = o.room; kept = o.kept; shape = record {} }

    -- what it keeps is right, and what the call has taken is out, if it was lost
    abbrev as_began : SeatedPass
    as_began = seated_pass o.number.0 (layout_in back) o.began.value.planting (memory_of o.seat.me.0.passes) o.began.value.known

    began_since : Extends (run_at o.seat.me.0.passes) (run_of o.began.value)
    began_since = (ended valid_key key valid_value value_word trie was x.pass o.seat x.first o.run reply ends).since

    out_since : StaysOut as_began (seated_in back)
    out_since = subst (λ (l : Layout). (n : ℕ) → IsUnborn l o.number.0 (run_of o.began.value) n → IsUnborn l o.number.0 (run_at o.seat.me.0.passes) n) (sym x.kept.layout)
        (subst (λ k. (n : ℕ) → IsUnborn o.began.value.layout k (run_of o.began.value) n → IsUnborn o.began.value.layout k (run_at o.seat.me.0.passes) n) (sym x.kept.number)
        (call_keeps_out valid_key key valid_value value_word trie was x.pass o.seat x.first o.run reply ends left blamed))

    pub open_keeps : KeepsOwn o → KeepsRight o.kept (seated_in back)
    open_keeps keeps = keeps_right o.kept as_began (seated_in back) refl refl keeps.planting refl began_since out_since keeps.kept

    pub open_lost : PutsInNone → KeepsOwn o → (to : ℕ) → to ≡ left.next_node → IsLostReply reply → AreUnborn (seated_in back) o.from.0 to
    open_lost law keeps to next is n from less = subst (λ (l : Layout). IsUnborn l o.number.0 (run_at o.seat.me.0.passes) n) (sym x.kept.layout)
        (subst (λ k. IsUnborn o.began.value.layout k (run_at o.seat.me.0.passes) n) (sym x.kept.number)
        (call_lost valid_key key valid_value value_word trie was x.pass o.seat x.first o.run reply ends law is n
        (let e = keeps.from in omega (arith, e, from)) (let e : left.next_node ≡ (share_of o.run.run).next_node = ap (λ (l : Remaining). l.next_node) gives in omega (arith, e, next, less))))

    -- what contracts see of it
    back_is : pass_view back ≡ pass_view (behind valid_key key valid_value value_word trie was x.pass o.seat o.run reply)
    back_is = rw (x.kept.number, x.kept.layout, gives, blames, x.kept.blamed) refl

    pub open_pass : IsPass (TypedAllows (IsWordOf valid_key key) (IsWordOf valid_value value_word)) (map_mode trie) back
    open_pass = rw (x.kept.number, x.kept.layout, x.kept.first, gives, blames, x.kept.blamed) (dict_pass valid_key key valid_value value_word trie was x.pass o.seat o.run reply (left_end valid_key key valid_value value_word trie was x.pass o.seat x.first o.run reply ends x.had) (ended valid_key key valid_value value_word trie was x.pass o.seat x.first o.run reply ends) (stays_dealt valid_key key valid_value value_word trie was x.pass o.seat x.first o.run reply ends) x.bare)

    -- it has made the steps that were counted
    pub open_made : steps_of (pass_view back) ≡ steps_of o.began.value + (seat_steps o.seat.me.0.passes - steps_of o.began.value)
    open_made = let e = steps_are o.number.0 (layout_in back) o.seat.me.0.passes open_pass.seat in let z = x.since in omega (arith, e, z)

    -- and it says what a whole call says
    pub open_called : (f : Ground) → IsOf f o.began.value → o.run.tries ≡ f.tries → HasCalledIn trie valid_key key valid_value value_word f o.began.value (pass_view back) (call_in o.run.run) reply
    open_called f of tries = subst (λ v. HasCalledIn trie valid_key key valid_value value_word f o.began.value v (call_in o.run.run) reply) (sym back_is)
        (says valid_key key valid_value value_word trie was x.pass o.seat x.first o.run reply ends x.had f of (call_in o.run.run) refl tries x.table (let z = rw (of.1, tries) at x.steps in omega (arith, z)) x.nothing)
