use Rattle.std.proofs.Common.{ℕ, ◌++◌, sym, ◌∙◌, ap}
use Rattle.atomic_table.specs.declared.shared.Seat.{Seat}
use Rattle.tables.specs.declared.view.SeatView.{SeatView}
use Rattle.tables.specs.TableRule.{after_look, rest_of, first_of}
use Rattle.forest.proofs.Meets.{looks_first}
use Rattle.forest.proofs.meet.meet.Goals as goal

pub look-requires-clause-two : goal.look-requires-clause-two
look-requires-clause-two g c = let p = c.requires.first in let q = c.requires.second in
    (q.pass, p.pass, c.take_in.ensures.passes ∙ (λ k. q.is k ++ (c.deal-mine.ensures.passes.1 ∙ ap first_of p.is) k), q.layout, q.is_pass)

pub look-requires-2-clause-two : goal.look-requires-2-clause-two
look-requires-2-clause-two g c = let p = c.requires.first in let q = c.requires.second in
    let t = looks_first g.S.Shape.allows p.pass q.pass _ _ (c.take_in.ensures.passes ∙ (λ k. q.is k ++ (c.deal-mine.ensures.passes.1 ∙ ap first_of p.is) k)) c.look.ensures.looked in
    (p.pass, after_look q.pass t.0, t.5, p.layout, p.is_pass)

pub returns-clause-met : goal.returns-clause-met
returns-clause-met g c = let p = c.requires.first in let q = c.requires.second in
    let t = looks_first g.S.Shape.allows p.pass q.pass _ _ (c.take_in.ensures.passes ∙ (λ k. q.is k ++ (c.deal-mine.ensures.passes.1 ∙ ap first_of p.is) k)) c.look.ensures.looked in
    let u = looks_first g.S.Shape.allows (after_look q.pass t.0) p.pass _ _ t.5 c.look-2.ensures.looked in
    record {
      one = p.pass;
      other = q.pass;
      early = t.0;
      late = u.0;
      was_one = p.is;
      was_other = q.is;
      apart = λ e. t.3 (sym e);
      same = t.4;
      knew_one = t.1;
      other_looked = t.2;
      one_looked = u.2;
      goes_on = u.1;
      is_one = ap (λ (s : Seat ℕ SeatView). s.me.0.passes) c.replace.ensures.value ∙ c.deal-theirs.ensures.passes.0 ∙ ap rest_of u.5;
      is_other = ap (λ (s : Seat ℕ SeatView). s.me.0.passes) c.replace.ensures.after ∙ c.deal-theirs.ensures.passes.1 ∙ ap first_of u.5;
    }
