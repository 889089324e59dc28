use Rattle.std.proofs.Common.{ℕ, List, ◌++◌, sym, ◌∙◌, ap}
use Rattle.atomic_table.specs.declared.shared.Seat.{Seat}
use Rattle.tables.specs.TableRule.{first_of}
use Rattle.tables.specs.declared.view.SeatView.{SeatView}
use Rattle.tables.specs.declared.view.SeatedPass.{SeatedPass}
use Rattle.forest.proofs.LastingMeets.{learnt_both}
use Rattle.forest.proofs.lasting_meet.learn_both.Goals as goal

pub returns-clause-learnt : goal.returns-clause-learnt
returns-clause-learnt g c = learnt_both c.requires.one.0 c.requires.other.0 c.args.one.now.me.0.passes c.args.other.now.me.0.passes c.take_in.new.seat.me.0.passes c.learn_all.new.seat.me.0.passes _ _ c.requires.one.1 c.requires.other.1
    (c.take_in.ensures.passes ∙ ap (λ (l : List SeatedPass). c.args.other.now.me.0.passes ++ l) (c.deal-mine.ensures.passes.1 ∙ ap first_of c.requires.one.1 ∙ sym c.requires.one.1)) c.learn_all.ensures.learnt
    (ap (λ (s : Seat ℕ SeatView). s.me.0.passes) c.replace.ensures.value ∙ c.deal-theirs.ensures.passes.0)
    (ap (λ (s : Seat ℕ SeatView). s.me.0.passes) c.replace.ensures.after ∙ c.deal-theirs.ensures.passes.1)
