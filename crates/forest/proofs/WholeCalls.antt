-- What a whole call of a dictionary says of the pass that has made it.
use Rattle.std.specs.Prelude.{Bool}
use Rattle.template.specs.Balance.{map_mode, nodes_by}
use Rattle.std.proofs.Common.{◌≡◌, ◌∙◌, ◌+◌, ◌≤◌, ℕ, List, ap, sym, subst, arith}
use Rattle.atomic_table.specs.declared.shared.Seat.{Seat}
use Rattle.histories.specs.Common.{Layout, History, Call, Remaining}
use Rattle.template.specs.Common.{MayReply, form_of, most_steps, MapCall, told_of, Reply}
use Rattle.prims.specs.Shares.{share_end}
use Rattle.dict.specs.declared.dict.DictRun.{DictRun}
use Rattle.dict.specs.Calls.{AsksForPairs, call_in, share_of}
use Rattle.dict.specs.DictKnown.{DictWaits}
use Rattle.dict.specs.Typed.{TypedAllows}
use Rattle.dict.specs.Words.{IsWordOf}
use Rattle.forest.specs.declared.pass.Pass.TheInside.{Inside}
use Rattle.tables.specs.declared.view.SeatView.{SeatView}
use Rattle.tables.specs.CallSteps.{HasDictLeft}
use Rattle.tables.specs.Shares.{EndsAsDealt}
use Rattle.tables.specs.TableRule.{dealt_to}
use Rattle.forest.specs.Dictionary.{HasCalledIn, HasSpentAtMost, IsRefusalOf, IsToldOf, blamed_by_reply}
use Rattle.tables.specs.Passes.{Ground, IsOf, PassView, taken_of}
use Rattle.forest.specs.PassInvariant.{IsPass, pass_view}
use Rattle.forest.specs.StepKinds.{HasKeptToKinds}
use Rattle.straight.specs.StraightCalls.{IsSameDictCall}
use Rattle.tables.specs.Traces.{HoldsForCall, Trace, known_of, memory_of, seat_steps, shared_nodes, planting_of, KnowsAs}
use Rattle.forest.proofs.DictCalls.{Answered, IsSameCall, behind, dict_ended, dict_goes_on, dict_pass, dict_refuses, dict_spends, dict_tells, so_behind}
use Rattle.forest.proofs.Entered.{HasEnded, left_with}
use Rattle.forest.proofs.Passes.{call_of}
use Rattle.forest.proofs.StepKinds.{dict_kinds, dict_nothing}

module _ {K V : Type 0} (valid_key : K → Type 0) (key : K → ℕ) (valid_value : V → Type 0) (value_word : V → ℕ) where
  abbrev allows : Layout → History → ℕ → Type 0
  allows = TypedAllows (IsWordOf valid_key key) (IsWordOf valid_value value_word)

  module _ (trie : Bool) {T : Type 0} (p : Inside T) (x : IsPass allows (map_mode trie) p) (s : Seat ℕ SeatView) (first m : DictRun K V) (reply : Reply K V) where
    abbrev number : ℕ
    number = taken_of (pass_view p)

    abbrev call_made : Call
    call_made = call_of p x number

    -- its answer is right in the run that is known now
    abbrev Ended : History → Type 0
    Ended = Answered valid_key key valid_value value_word trie p x s m reply

    -- the machine has got from the first to the last in this call
    abbrev pub IsOver : Type 0
    IsOver = HoldsForCall allows (HasDictLeft first) s.me.0.passes call_made (λ h. Ended h × Trace allows (DictWaits (IsWordOf valid_key key) (IsWordOf valid_value value_word)) (IsSameDictCall valid_key key valid_value value_word) call_made first m h)

    module _ (over : IsOver) where
      pub ended : HasEnded allows p s number Ended
      ended = (dict_ended valid_key key valid_value value_word trie p x s m reply first over).0

      -- it is of the same call as the first
      pub of_first : IsSameCall valid_key key valid_value value_word first m
      of_first = (dict_ended valid_key key valid_value value_word trie p x s m reply first over).1

      -- and what it has left is dealt, as what the first had was
      pub stays_dealt : EndsAsDealt (share_of m.run) (memory_of s.me.0.passes)
      stays_dealt = of_first.2 ∙ over.is.left ∙ sym (ap (λ ps. dealt_to (memory_of ps)) over.is.alone)

      -- where the first had the share of the pass, what is left ends where that does
      module _ (had : share_of first.run ≡ p.share) where
        pub left_end : share_end (share_of m.run) ≡ share_end p.share
        left_end = of_first.2 ∙ ap share_end had

        abbrev now : PassView
        now = pass_view (behind valid_key key valid_value value_word trie p x s m reply)

        -- what it says where the machine has these tries, and is of this call
        pub says : (f : Ground) → IsOf f (pass_view p) → (call : MapCall) → call_in m.run ≡ call → m.tries ≡ f.tries → s.table_id ≡ p.seat.table_id → seat_steps s.me.0.passes ≤ seat_steps p.seat.me.0.passes + most_steps call f.tries (nodes_by trie (shared_nodes f.layout)) → (¬ AsksForPairs call → KnowsAs s.me.0.passes (planting_of p.seat.me.0.passes) (known_of p.seat.me.0.passes)) → HasCalledIn trie valid_key key valid_value value_word f (pass_view p) now call reply
        says f of call is tries table steps nothing =
            let most : ℕ = most_steps call f.tries (nodes_by trie (shared_nodes f.layout)) in
            record {
              pass = (table ∙ of.0, of.1);
              mode = x.is_mode;
              goes_on = dict_goes_on valid_key key valid_value value_word trie p x s m reply left_end ended most most table steps (omega arith);
              spends = subst (λ n. HasSpentAtMost (pass_view p) now call n) tries (subst (λ k. HasSpentAtMost (pass_view p) now k m.tries) is (dict_spends valid_key key valid_value value_word trie p x s m reply left_end ended));
              kinds = subst (λ k. HasKeptToKinds (pass_view p) now k) is (dict_kinds valid_key key valid_value value_word trie p x s m reply first over);
              told = subst (λ k. IsToldOf (pass_view p) now k (told_of key value_word reply)) is (dict_tells valid_key key valid_value value_word trie p x s m reply left_end ended);
              refused = subst (λ n. IsRefusalOf n (pass_view p) now call reply) tries (subst (λ k. IsRefusalOf m.tries (pass_view p) now k reply) is (dict_refuses valid_key key valid_value value_word trie p x s m reply left_end ended));
              form = subst (λ k. MayReply k (form_of reply)) is ended.answers.form;
              valid = ended.answers.valid;
              nothing = λ none. dict_nothing valid_key key valid_value value_word trie p x s m reply left_end ended table (nothing none);
            }

        module _ (share : Remaining) (blamed : List ℕ) (is_share : share_of m.run ≡ share) (is_blamed : blamed ≡ blamed_by_reply reply p.blamed) where
          -- the pass afterwards
          abbrev pub left : Inside T
          left = left_with p x s number Ended share blamed

          pub whole_pass : s.me.1 ≡ p.seat.me.1 → IsPass allows (map_mode trie) left
          whole_pass bare = so_behind valid_key key valid_value value_word trie p x s m reply (λ q. IsPass allows (map_mode trie) q) share blamed is_share is_blamed (dict_pass valid_key key valid_value value_word trie p x s m reply left_end ended stays_dealt bare)

          pub whole_call : (f : Ground) → IsOf f (pass_view p) → (call : MapCall) → call_in m.run ≡ call → m.tries ≡ f.tries → s.table_id ≡ p.seat.table_id → seat_steps s.me.0.passes ≤ seat_steps p.seat.me.0.passes + most_steps call f.tries (nodes_by trie (shared_nodes f.layout)) → (¬ AsksForPairs call → KnowsAs s.me.0.passes (planting_of p.seat.me.0.passes) (known_of p.seat.me.0.passes)) → HasCalledIn trie valid_key key valid_value value_word f (pass_view p) (pass_view left) call reply
          whole_call f of call is tries table steps nothing = so_behind valid_key key valid_value value_word trie p x s m reply (λ q. HasCalledIn trie valid_key key valid_value value_word f (pass_view p) (pass_view q) call reply) share blamed is_share is_blamed (says f of call is tries table steps nothing)
