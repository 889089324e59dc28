use Rattle.std.proofs.Common.{◌≡◌, ◌∙◌, ℕ, [], refl, sym, ap, subst}
use Rattle.arena.specs.Share.{whole_share}
use Rattle.arena.proofs.Lemmas.{ends_self}
use Rattle.histories.specs.Common.{Opened, IsRun}
use Rattle.planting.specs.Plantings.{opening_for}
use Rattle.prims.specs.Shares.{share_end}
use Rattle.tables.specs.Shares.{IsBetweenCalls}
use Rattle.tables.specs.TableRule.{all_dealt, dealt_to, history_of}
use Rattle.atomic_table.specs.declared.shared.Seat.{Seat}
use Rattle.tables.specs.declared.view.SeatView.{SeatView}
use Rattle.tables.specs.Traces.{known_of, layout_at, memory_of, planting_of, run_at}
use Rattle.straight.proofs.Advances.{seat_back}
use Rattle.forest.proofs.Blames.{blamed_nobody}
use Rattle.forest.proofs.Passes.{begins_at_rest}
use Rattle.forest.proofs.UpkeepKept.{never_kept}
use Rattle.forest.proofs.pass.Pass.new.Given.{Over}
use Rattle.forest.proofs.pass.Pass.new.Goals as goal

-- the layout of its names is that of the table
layout_is : (g : Over) (c : goal.After-new-2 g) → layout_at c.of-birth.result.value.me.0.passes ≡ c.args.layout.now
layout_is g c = ap (λ (s : Seat ℕ SeatView). layout_at s.me.0.passes) c.of-birth.ensures ∙ ap layout_at c.requires.seat.0

pub invariant_of-result : goal.invariant_of-result
invariant_of-result g c = (
  rw (layout_is g c) record {
    seat = seat_back c.args.seat.me.0.passes c.args.number.0 c.args.layout.now (planting_of c.args.seat.me.0.passes) (all_dealt c.args.layout.now c.args.number.0) [] c.requires.seat.0 (ends_self (history_of (planting_of c.args.seat.me.0.passes) [])) refl;
    bare = c.requires.seat.1;
    is_mode = c.requires.mode;
    is_pass = c.requires.pass;
    first_is = c.from.ensures ∙ c.first_scx.ensures;
    few = λ none. c.requires.few;
    sound = subst (IsRun g.S.Shape.allows c.args.layout.now) (sym begins) c.requires.run;
    rest = rw c.of.ensures.whole (subst (λ h. IsBetweenCalls c.args.layout.now c.args.number.0 h (whole_share c.args.layout.now c.args.number.0)) (sym begins) (begins_at_rest c.args.layout.now (opening_for (planting_of c.args.seat.me.0.passes)) c.args.number.0 c.requires.run.lawful));
    dealt = λ map. ap share_end c.of.ensures.whole ∙ sym (ap (λ ps. dealt_to (memory_of ps)) c.requires.seat.0);
    blamed = blamed_nobody _ c.new.ensures;
  },
  λ lasts. never_kept _ g.met.S.TableOnce.once lasts,
)
  where
    begins : run_at c.args.seat.me.0.passes ≡ Opened (opening_for (planting_of c.args.seat.me.0.passes))
    begins = ap (λ rows. history_of (planting_of c.args.seat.me.0.passes) rows) (ap known_of c.requires.seat.0)
