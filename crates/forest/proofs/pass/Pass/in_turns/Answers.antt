use Rattle.std.proofs.Common.{◌≡◌, ◌∙◌, ℕ, List, [], refl, sym, ap, subst}
use Rattle.arena.proofs.Lemmas.{ends_self}
use Rattle.arena.specs.Layout.{IsMap}
use Rattle.histories.specs.Common.{Layout, Opened, IsRun, Remaining}
use Rattle.planting.specs.Plantings.{opening_for}
use Rattle.prims.specs.Shares.{share_end}
use Rattle.slots.specs.Lasting.{Lasting}
use Rattle.tables.specs.LastingOpening.{first_memory}
use Rattle.tables.specs.LastingTables.{first_share}
use Rattle.forest.specs.PassInvariant.{view_with}
use Rattle.tables.specs.Shares.{IsBetweenCalls}
use Rattle.tables.specs.Slotted.{in_turns}
use Rattle.tables.specs.TableRule.{dealt_to, history_of}
use Rattle.atomic_table.specs.declared.shared.Seat.{Seat}
use Rattle.tables.specs.declared.view.SeatView.{SeatView}
use Rattle.tables.specs.Traces.{known_of, layout_at, memory_of, planting_of, run_at}
use Rattle.straight.proofs.Advances.{seat_back}
use Rattle.forest.proofs.Blames.{blamed_nobody}
use Rattle.tables.proofs.LastingTables.{begins_in_turns, ends_as_dealt}
use Rattle.forest.proofs.pass.Pass.in_turns.Given.{Over}
use Rattle.forest.proofs.pass.Pass.in_turns.Goals as goal

-- the layout of its names is that of the table's
layout_is : (g : Over) (c : goal.After-result-1 g) → layout_at c.of-birth.result.value.me.0.passes ≡ (in_turns c.args.layout.now c.args.turns).lay
layout_is g c = ap (λ (s : Seat ℕ SeatView). layout_at s.me.0.passes) c.of-birth.ensures ∙ ap layout_at c.requires.seat.0

-- and its share that of the first lap
share_is : (g : Over) (c : goal.After-result-1 g) → c.of_run.result ≡ first_share (in_turns c.args.layout.now c.args.turns) c.args.number.0
share_is g c = c.of_run.ensures ∙ rw (c.first_node-node.ensures.is, c.first_scx-scx.ensures.is) refl

-- so is what contracts see of it
view_is : (lay names : Layout) (number : ℕ) (share dealt : Remaining) (seat : Seat ℕ SeatView) (blamed : List ℕ) → lay ≡ names → share ≡ dealt → known_of seat.me.0.passes ≡ [] → blamed ≡ [] → view_with lay number share seat blamed ≡ record { table = seat.table_id; layout = names; planting = planting_of seat.me.0.passes; number = number; share = dealt; known = []; blamed = [] }
view_is lay names number share dealt seat blamed same is none nobody = λ i. record { table = seat.table_id; layout = same i; planting = planting_of seat.me.0.passes; number = number; share = is i; known = none i; blamed = nobody i }

pub returns : goal.returns
returns g c = view_is (layout_at c.of-birth.result.value.me.0.passes) (in_turns c.args.layout.now c.args.turns).lay c.args.number.0 c.of_run.result (first_share (in_turns c.args.layout.now c.args.turns) c.args.number.0) c.args.seat c.new-2.result (layout_is g c) (share_is g c) (ap known_of c.requires.seat.0) c.new-2.ensures

pub invariant_of-result : goal.invariant_of-result
invariant_of-result g c = (
  rw (layout_is g c) record {
    seat = seat_back c.args.seat.me.0.passes c.args.number.0 t.lay (planting_of c.args.seat.me.0.passes) (first_memory t c.args.number.0) [] c.requires.seat.0 (ends_self (history_of (planting_of c.args.seat.me.0.passes) [])) refl;
    bare = c.requires.seat.1;
    is_mode = c.requires.mode;
    is_pass = c.requires.pass;
    first_is = c.first_scx-scx.ensures.is;
    few = λ none. absurd (none (subst IsMap (sym c.requires.mode) c.requires.map));
    sound = subst (IsRun g.S.Shape.allows t.lay) (sym begins) c.requires.run;
    rest = rw (share_is g c) (subst (λ h. IsBetweenCalls t.lay c.args.number.0 h (first_share t c.args.number.0)) (sym begins) (begins_in_turns c.args.layout.now c.args.turns (opening_for (planting_of c.args.seat.me.0.passes)) c.args.number.0 c.requires.few c.requires.may c.requires.run.lawful));
    dealt = λ map. ap share_end (share_is g c) ∙ ends_as_dealt t c.args.number.0 ∙ sym (ap (λ ps. dealt_to (memory_of ps)) c.requires.seat.0);
    blamed = blamed_nobody _ c.new-2.ensures;
  },
  λ lasts. c.in_ok-keeper.ensures _ refl (ap memory_of c.requires.seat.0),
)
  where
    t : Lasting
    t = in_turns c.args.layout.now c.args.turns

    begins : run_at c.args.seat.me.0.passes ≡ Opened (opening_for (planting_of c.args.seat.me.0.passes))
    begins = ap (λ rows. history_of (planting_of c.args.seat.me.0.passes) rows) (ap known_of c.requires.seat.0)
