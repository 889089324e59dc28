use Rattle.std.proofs.Common.{List, Option, inl, inr, arith, ap, subst, ◌∙◌}
use Rattle.capi.specs.declared.presence.Presence.{Presence}
use Rattle.capi.specs.Answers.{counted}
use Rattle.capi.specs.Ends.{AreEnough, HaveEndedWith, held_in}
use Rattle.capi.proofs.Ends.{enough, too_few}
use Rattle.capi.proofs.exports.regnubas_end.Goals as goal
use Rattle.capi.proofs.exports.regnubas_end.Goals.{After-end}

pub returns-then-passes-all : goal.returns-then-passes-all
returns-then-passes-all c =
    let f = c.requires.forest in
    let all = c.in-Some.ensures.some f c.requires.of_forest in
    inl (record {
      same = c.all_of.ensures.same;
      why = inr (
        c.none-then-passes-all.ensures,
        too_few c.args.passes.now c.in-Some.all f all (omega (arith, c.all_of.auto.passes, c.if-passes-all.true)),
      );
    })

are_enough : (c : After-end) → AreEnough (held_in c.args.passes.now)
are_enough c = enough c.args.passes.now c.in-Some.all c.in-Some.ensures.held c.in-Some.ensures.some (omega (arith, c.all_of.auto.passes, c.if-passes-all.false))

pub returns-in-Some-end : goal.returns-in-Some-end
returns-in-Some-end c = inr (record {
  all = are_enough (goal.at.returns-in-Some-end c).After-end;
  empty = c.end.ensures.empty;
  told = inr (record {
    pairs = c.in-Some-end.pairs.items;
    left = subst (λ (held : List (Option Presence)). HaveEndedWith held c.in-Some-end.pairs.items) c.all_of.ensures.same c.in-Some-end.ensures.left;
    count = c.of_pairs.ensures.count ∙ ap counted c.in-Some-end.pairs.ok.0;
    put = c.of_pairs.ensures.put;
  });
})

pub returns-in-None : goal.returns-in-None
returns-in-None c = inr (record {
  all = are_enough (goal.at.returns-in-None c).After-end;
  empty = c.end.ensures.empty;
  told = inl c.none-in-None.ensures;
})
