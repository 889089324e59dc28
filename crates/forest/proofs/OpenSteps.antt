-- A call that is held open stays one, step by step.
use Rattle.template.specs.Balance.{nodes_by}
use Rattle.std.proofs.Common.{◌≡◌, ◌∙◌, ◌++◌, ◌+◌, ◌<◌, ◌≤◌, ℕ, suc, Bool, true, false, List, [], ◌∷◌, Option, inr, ap, refl, sym, subst, arith}
use Rattle.atomic_table.specs.declared.shared.Seat.{Seat}
use Rattle.histories.specs.Common.{Extends, Kind, Layout, Step, Turn, Ask, Done, Call, IsRun, MatchTurn}
use Rattle.dict.specs.Calls.{call_in, AsksForPairs}
use Rattle.dict.specs.DictKnown.{DictWaits, DictAnswers}
use Rattle.template.specs.Common.{most_steps, Reply}
use Rattle.dict.specs.Steps.{map_left}
use Rattle.dict.specs.Typed.{TypedAllows}
use Rattle.dict.specs.Words.{IsWordOf}
use Rattle.dict.specs.declared.dict.DictRun.{DictRun}
use Rattle.forest.specs.declared.open.OpenCall.TheInside.{Inside}
use Rattle.tables.specs.declared.view.SeatedPass.{SeatedPass}
use Rattle.tables.specs.declared.view.SeatView.{SeatView}
use Rattle.straight.specs.Hosts.{Host, HostedStands, HostedWaits}
use Rattle.forest.specs.OpenInvariant.{IsOpen, KeepsOwn, next_call}
use Rattle.tables.specs.Passes.{steps_of}
use Rattle.straight.specs.StraightCalls.{IsSameDictCall}
use Rattle.tables.specs.CallSteps.{HasDictLeft}
use Rattle.tables.specs.TableRule.{history_of, seated_pass}
use Rattle.tables.specs.Traces.{Stands, kept_of, layout_at, seat_steps, shared_nodes, weight, run_at}
use Rattle.straight.proofs.Advances.{weighs}
use Rattle.straight.proofs.AfterCalls.{course_keeps}
use Rattle.forest.proofs.DictCalls.{IsSameCall}
use Rattle.planting.specs.Plantings.{PlantingView}
use Rattle.forest.specs.UpkeepKept.{KeepsRight}
use Rattle.tables.specs.declared.memory.PassMemory.{PassMemory}
use Rattle.straight.proofs.Hosts.{own, own_call, own_stands}
use Rattle.forest.proofs.StepKinds.{waits_asks}
use Rattle.straight.proofs.StraightCalls.{dict_calls}

-- what it keeps of its own records was right as it began, whatever step it makes
pub step_keeps : {K V B : Type 0} (o : Inside K V B) (s : Seat ℕ SeatView) (m : DictRun K V) (turn : Turn (Reply K V)) (over : Bool) → kept_of s.me.0.passes ≡ kept_of o.seat.me.0.passes → KeepsOwn o → KeepsOwn (record o { seat = s; run = m; turn = turn; over = over })
step_keeps o s m turn over same x = record {
  from = x.from;
  planting = ap (λ (k : PlantingView × PassMemory). k.0) same ∙ x.planting;
  kept = subst (λ (k : PassMemory). KeepsRight o.kept (seated_pass o.number.0 (layout_at o.birth.value.me.0.passes) o.began.value.planting k o.began.value.known)) (sym (ap (λ (k : PlantingView × PassMemory). k.1) same)) x.kept;
}

-- so it is once it is over
pub over_keeps : {K V B : Type 0} (o : Inside K V B) → KeepsOwn o → KeepsOwn (record o { over = true })
over_keeps o x = record { from = x.from; planting = x.planting; kept = x.kept }

pub differ : true ≡ false → ⊥
differ e = cc

module _ {K V : Type 0} (valid_key : K → Type 0) (key : K → ℕ) (valid_value : V → Type 0) (value : V → ℕ) where
  -- where the machine of such a call is
  abbrev pub DictStands : Call → List SeatedPass → DictRun K V → DictRun K V → Turn (Reply K V) → Type 0
  DictStands c ps first m turn = Stands (TypedAllows (IsWordOf valid_key key) (IsWordOf valid_value value)) (DictWaits (IsWordOf valid_key key) (IsWordOf valid_value value)) (IsSameDictCall valid_key key valid_value value) HasDictLeft c ps first (DictAnswers valid_key key valid_value value) m turn

  -- it is of the same call as the first
  pub same_so_far : (c : Call) (ps : List SeatedPass) (first m : DictRun K V) (turn : Turn (Reply K V)) → DictStands c ps first m turn → IsSameCall valid_key key valid_value value first m
  same_so_far c ps first m (Ask s) y = course_keeps (λ (k : DictRun K V). IsSameCall valid_key key valid_value value first k) (refl, refl, refl) (λ old now e q. (e.0 ∙ q.0, e.1 ∙ q.1, e.4 ∙ q.2)) m _ y.so.1
  same_so_far c ps first m (Done a) y = course_keeps (λ (k : DictRun K V). IsSameCall valid_key key valid_value value first k) (refl, refl, refl) (λ old now e q. (e.0 ∙ q.0, e.1 ∙ q.1, e.4 ∙ q.2)) m _ y.so.1

  -- one that has answered is over
  pub is_answered : {B : Type 0} {trie : Bool} (o : Inside K V B) → IsOpen valid_key key valid_value value trie o → (reply : Reply K V) → o.turn ≡ Done reply → IsOpen valid_key key valid_value value trie (record o { over = true })
  is_answered o x reply is = record { pass = x.pass; table = x.table; bare = x.bare; kept = x.kept; first = x.first; had = x.had; stands = x.stands; since = x.since; steps = x.steps; over = λ e. rw is tt; none = λ e. absurd (differ e); nothing = x.nothing }

  module _ {B : Type 0} {trie : Bool} (o : Inside K V B) (x : IsOpen valid_key key valid_value value trie o) (step : Step) (is : o.turn ≡ Ask step) where
    -- the machine waits for this step
    pub open_waits : DictStands (next_call o.began.value x.pass.is_pass) o.seat.me.0.passes x.first o.run (Ask step)
    open_waits = subst (λ turn. DictStands (next_call o.began.value x.pass.is_pass) o.seat.me.0.passes x.first o.run turn) is x.stands

    -- so it asks for pairs, if it is a range
    pub open_asks : AsksForPairs (call_in o.run.run)
    open_asks = waits_asks valid_key key valid_value value o.run (next_call o.began.value x.pass.is_pass) (history_of open_waits.planting open_waits.known) step open_waits.so.0

    -- the call, of its own machine, in a table whose names have this layout
    abbrev pub open_host : (lay : Layout) → o.began.value.layout ≡ lay → Host (dict_calls valid_key key valid_value value lay o.call) (own_call (dict_calls valid_key key valid_value value lay o.call) (DictAnswers valid_key key valid_value value))
    open_host lay of_table = own (dict_calls valid_key key valid_value value lay o.call) (DictAnswers valid_key key valid_value value) (next_call o.began.value x.pass.is_pass) of_table (sym x.kept.call) x.first

    module _ (lay : Layout) (of_table : o.began.value.layout ≡ lay) (s : Seat ℕ SeatView) (m : DictRun K V) (turn : Turn (Reply K V)) (table : s.table_id ≡ o.seat.table_id) (bare : s.me.1 ≡ o.seat.me.1) (one : seat_steps s.me.0.passes ≡ suc (seat_steps o.seat.me.0.passes))
        (stands : (k : Host (dict_calls valid_key key valid_value value lay o.call) (own_call (dict_calls valid_key key valid_value value lay o.call) (DictAnswers valid_key key valid_value value))) → HostedWaits k o.seat.me.0.passes o.run step → HostedStands k s.me.0.passes m turn) where
      stood : DictStands (next_call o.began.value x.pass.is_pass) s.me.0.passes x.first m turn
      stood = own_stands (dict_calls valid_key key valid_value value lay o.call) (DictAnswers valid_key key valid_value value) (next_call o.began.value x.pass.is_pass) of_table (sym x.kept.call) x.first s.me.0.passes m turn (stands (open_host lay of_table) open_waits)

      -- it is of the same call as before
      pub same_call : IsSameCall valid_key key valid_value value o.run m
      same_call = let a = same_so_far _ _ x.first o.run o.turn x.stands in let b = same_so_far _ _ x.first m turn stood in (b.0 ∙ sym a.0, b.1 ∙ sym a.1, b.2 ∙ sym a.2)

      -- what its pass knows by now is a run
      pub stays_lawful : IsRun (TypedAllows (IsWordOf valid_key key) (IsWordOf valid_value value)) o.began.value.layout (run_at s.me.0.passes)
      stays_lawful = on turn stood
        where
          on : (t : Turn (Reply K V)) → DictStands (next_call o.began.value x.pass.is_pass) s.me.0.passes x.first m t → IsRun (TypedAllows (IsWordOf valid_key key) (IsWordOf valid_value value)) o.began.value.layout (run_at s.me.0.passes)
          on (Ask u) z = rw z.is.alone z.sound
          on (Done a) z = rw z.is.alone z.sound

      module _ (nearer : MatchTurn turn (λ _. map_left m.run (shared_nodes lay) < map_left o.run.run (shared_nodes lay)) (λ _. Unit {0})) where
        few : seat_steps s.me.0.passes + weight turn (map_left m.run (shared_nodes o.began.value.layout)) ≤ steps_of o.began.value + most_steps (call_in o.run.run) o.run.tries (nodes_by trie (shared_nodes o.began.value.layout))
        few =
            let w = weighs turn (map_left m.run (shared_nodes o.began.value.layout)) (map_left o.run.run (shared_nodes o.began.value.layout)) (rw of_table nearer) in
            let z = rw is at x.steps in
            omega (arith, one, w, z)

        -- it stays a call that is held open
        pub stays_open : (over : Bool) → (over ≡ true → MatchTurn turn (λ _. ⊥) (λ _. Unit {0})) → (over ≡ false → MatchTurn turn (λ _. Unit {0}) (λ _. ⊥)) → IsOpen valid_key key valid_value value trie (record o { seat = s; run = m; turn = turn; over = over })
        stays_open over ends goes = record {
          pass = record { seat = x.pass.seat; bare = refl; is_mode = x.pass.is_mode; is_pass = x.pass.is_pass; first_is = x.pass.first_is; few = x.pass.few; sound = x.pass.sound; rest = x.pass.rest; dealt = x.pass.dealt; blamed = x.pass.blamed };
          table = table ∙ x.table;
          bare = bare ∙ x.bare;
          kept = x.kept;
          first = x.first;
          had = x.had;
          stands = stood;
          since = let z = x.since in omega (arith, one, z);
          steps = rw (same_call.0, same_call.1) few;
          over = ends;
          none = λ e. on turn (goes e);
          nothing = λ none. absurd (none (subst AsksForPairs (sym same_call.0) open_asks));
        }
          where
            on : (t : Turn (Reply K V)) → MatchTurn t (λ _. Unit {0}) (λ _. ⊥) → MatchTurn t (λ _. Unit {0}) (λ _. (seat_steps s.me.0.passes ≡ steps_of o.began.value) × ¬ AsksForPairs (call_in m.run))
            on (Ask u) z = tt
            on (Done a) z = absurd z
