use Rattle.std.proofs.Common.{◌↔◌, IsTrue, All, List, Option, inl, inr, arith, subst, ◌∙◌}
use Rattle.arena.specs.Limits.{IsAccepted}
use Rattle.arena.specs.declared.limits.Limits.{Limits}
use Rattle.capi.specs.declared.presence.Presence.{Presence}
use Rattle.capi.specs.Begins.{NextSays}
use Rattle.capi.specs.Ends.{AreEnough, HaveEndedWith, IsOfTrie, held_in}
use Rattle.capi.proofs.Ends.{enough, too_few}
use Rattle.capi.proofs.exports.regnubas_renew.Goals as goal
use Rattle.capi.proofs.exports.regnubas_renew.Goals.{After-end}

pub returns-then-passes-all : goal.returns-then-passes-all
returns-then-passes-all c =
    let f = c.requires.forest in
    let all = c.in-Some-all_of.ensures.some f c.requires.of_forest in
    inl (record {
      same = c.all_of.ensures.same;
      why = inr (inr (
        c.none-then-passes-all.ensures,
        too_few c.args.passes.now c.in-Some-all_of.all f all (omega (arith, c.all_of.auto.passes, c.if-passes-all.true)),
      ));
    })

are_enough : (c : After-end) → AreEnough (held_in c.args.passes.now)
are_enough c = enough c.args.passes.now c.in-Some-all_of.all c.in-Some-all_of.ensures.held c.in-Some-all_of.ensures.some (omega (arith, c.all_of.auto.passes, c.if-passes-all.false))

pub returns-in-Some-end : goal.returns-in-Some-end
returns-in-Some-end c =
    let limits = c.in-Some.ensures.some in
    let pairs = c.in-Some-end.pairs.items in
    let trie = c.are_of_trie-trie.result in
    inr (record {
      accepted = subst IsAccepted limits.0 limits.1;
      all = are_enough (goal.at.returns-in-Some-end c).After-end;
      told = inr (record {
        pairs = pairs;
        left = subst (λ (held : List (Option Presence)). HaveEndedWith held pairs) (c.are_of_trie-trie.ensures.same ∙ c.all_of.ensures.same) c.in-Some-end.ensures.left;
        count = c.begin_next.ensures.count ∙ c.in-Some-end.pairs.ok.0;
        put = c.begin_next.ensures.put;
        trie = trie;
        shape = subst (λ (held : List (Option Presence)). IsTrue trie ↔ All IsOfTrie held) c.all_of.ensures.same c.are_of_trie-trie.ensures.told;
        next = subst (λ (l : Limits). NextSays trie l pairs c.begin_next.new.passes c.begin_next.result.status) limits.0 c.begin_next.ensures.next;
      });
    })

pub returns-in-None : goal.returns-in-None
returns-in-None c =
    let limits = c.in-Some.ensures.some in
    inr (record {
      accepted = subst IsAccepted limits.0 limits.1;
      all = are_enough (goal.at.returns-in-None c).After-end;
      told = inl (record { empty = c.end.ensures.empty; told = c.none-in-None.ensures });
    })
