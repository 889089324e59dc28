-- A call that is held open begins.
use Rattle.template.specs.Balance.{map_mode, nodes_by}
use Rattle.std.proofs.Common.{◌≡◌, ◌∙◌, ◌≤◌, ℕ, Bool, false, ap, refl, sym, subst, arith}
use Rattle.std.specs.declared.snapshot.Snapshot.{Snapshot}
use Rattle.histories.specs.Common.{NodeNo, Turn, Ask, Done, MatchTurn}
use Rattle.dict.specs.Calls.{call_in, share_of, AsksForPairs}
use Rattle.template.specs.Common.{most_steps, Reply}
use Rattle.dict.specs.Steps.{map_left}
use Rattle.dict.specs.Typed.{TypedAllows}
use Rattle.dict.specs.Words.{IsWordOf}
use Rattle.dict.specs.declared.dict.DictRun.{DictRun}
use Rattle.dict.specs.declared.shape.Dict.{Dict}
use Rattle.forest.specs.declared.open.OpenCall.TheInside.{Inside}
use Rattle.forest.specs.declared.pass.Pass.TheInside as pass
use Rattle.forest.specs.OpenInvariant.{IsOpen, KeepsOwn}
use Rattle.tables.specs.Passes.{PassView, steps_of, taken_of}
use Rattle.forest.specs.PassInvariant.{IsPass, layout_in, pass_view, seated_in}
use Rattle.tables.specs.TableRule.{seated_pass}
use Rattle.forest.specs.UpkeepKept.{KeepsRight}
use Rattle.tables.specs.Traces.{known_of, memory_of, planting_of, seat_steps, shared_nodes, weight}
use Rattle.straight.proofs.Advances.{since_start}
use Rattle.forest.proofs.OpenSteps.{DictStands, differ}
use Rattle.forest.proofs.Passes.{call_of, steps_are}

module _ {K V B : Type 0} (valid_key : K → Type 0) (key : K → ℕ) (valid_value : V → Type 0) (value : V → ℕ) (trie : Bool) (p : pass.Inside (Dict K V B)) (x : IsPass (TypedAllows (IsWordOf valid_key key) (IsWordOf valid_value value)) (map_mode trie) p) where
  -- a call of this pass, of this number, which began as it was seen then
  abbrev pub opened : DictRun K V → Turn (Reply K V) → ℕ → NodeNo → Snapshot PassView → Inside K V B
  opened m turn number from seen = record { number = p.number; first_scx = p.first_scx; seat = p.seat; blamed = p.blamed; birth = p.birth; room = p.room; kept = p.kept; from = from; call = number; run = m; turn = turn; over = false; began = seen }

  -- what it keeps of its own records is right
  pub begins_keeps : (m : DictRun K V) (turn : Turn (Reply K V)) (number : ℕ) (from : NodeNo) (seen : Snapshot PassView) → from.0 ≡ p.share.next_node → seen.value ≡ pass_view p → KeepsRight p.kept (seated_in p) → KeepsOwn (opened m turn number from seen)
  begins_keeps m turn number from seen next is keeps = record {
    from = next ∙ sym (ap (λ (v : PassView). v.share.next_node) is);
    planting = sym (ap (λ (v : PassView). v.planting) is);
    kept = subst (λ (v : PassView). KeepsRight p.kept (seated_pass p.number.0 (layout_in p) v.planting (memory_of p.seat.me.0.passes) v.known)) (sym is) keeps;
  }

  -- no step is made yet
  none_made : seat_steps p.seat.me.0.passes ≡ steps_of (pass_view p)
  none_made = steps_are p.number.0 (layout_in p) p.seat.me.0.passes x.seat

  module _ (first m : DictRun K V) (turn : Turn (Reply K V)) (number : ℕ) (from : NodeNo) (named : number ≡ taken_of (pass_view p)) (had : share_of first.run ≡ p.share) (y : DictStands valid_key key valid_value value (call_of p x (taken_of (pass_view p))) p.seat.me.0.passes first m turn) (few : weight turn (map_left m.run (shared_nodes (layout_in p))) ≤ most_steps (call_in m.run) m.tries (nodes_by trie (shared_nodes (layout_in p)))) (asks : AsksForPairs (call_in m.run) → MatchTurn turn (λ _. Unit {0}) (λ _. ⊥)) where
    as_seen : (seen : Snapshot PassView) → IsOpen valid_key key valid_value value trie (opened m turn number from (record seen { value = pass_view p }))
    as_seen seen = record {
      pass = record { seat = record { alone = refl; since = since_start (planting_of p.seat.me.0.passes) (known_of p.seat.me.0.passes); there = refl }; bare = refl; is_mode = x.is_mode; is_pass = x.is_pass; first_is = refl; few = x.few; sound = x.sound; rest = x.rest; dealt = λ map. refl; blamed = x.blamed };
      table = refl;
      bare = x.bare;
      kept = record { number = refl; layout = refl; first = x.first_is; call = named; blamed = refl };
      first = first;
      had = had;
      stands = y;
      since = let e = none_made in omega (arith, e);
      steps = let e = none_made in omega (arith, e, few);
      over = λ e. absurd (differ (sym e));
      none = λ e. on turn asks;
      nothing = λ none. (refl, refl);
    }
      where
        on : (t : Turn (Reply K V)) → (AsksForPairs (call_in m.run) → MatchTurn t (λ _. Unit {0}) (λ _. ⊥)) → MatchTurn t (λ _. Unit {0}) (λ _. (seat_steps p.seat.me.0.passes ≡ steps_of (pass_view p)) × ¬ AsksForPairs (call_in m.run))
        on (Ask u) z = tt
        on (Done a) z = (none_made, z)

    -- it is held open
    pub begins_open : (seen : Snapshot PassView) → seen.value ≡ pass_view p → IsOpen valid_key key valid_value value trie (opened m turn number from seen)
    begins_open seen e = subst (λ v. IsOpen valid_key key valid_value value trie (opened m turn number from (record seen { value = v }))) (sym e) (as_seen seen)
