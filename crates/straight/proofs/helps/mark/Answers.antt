use Rattle.std.proofs.Common.{◌∙◌, ◌<◌, refl, sym, arith}
use Rattle.arena.specs.MemberIndex.{member_index}
use Rattle.help.specs.declared.state.HelpAt.TheVariants.{Mark as AtMark}
use Rattle.straight.proofs.StraightHelp.{to_mark, more_marks, next_place, skips}
use Rattle.straight.proofs.helps.mark.Goals as goal

pub act-requires-clause-waits : goal.act-requires-clause-waits
act-requires-clause-waits g c = let r = c.requires.marks in (r.0, record c.args.run.now { at = AtMark c.args.j }, rw c.index.ensures.value (to_mark r.0 _ c.args.run.now (member_index c.args.j) c.args.j (sym c.finalizes.ensures ∙ c.if-finalizes.true) (λ i a b. absurd (let z : member_index c.args.j < member_index c.args.j = omega (arith, a, b) in omega (arith, z))) r.1))

pub returns-then-finalizes : goal.returns-then-finalizes
returns-then-finalizes g c = record {
  table = c.act.ensures.table;
  to = λ k x. next_place k _ c.args.run.now (member_index c.args.j) (more_marks k _ c.args.run.now c.args.j c.act.result (c.act.ensures.told k (record c.args.run.now { at = AtMark c.args.j }) (rw c.index.ensures.value (to_mark k _ c.args.run.now (member_index c.args.j) c.args.j (sym c.finalizes.ensures ∙ c.if-finalizes.true) (λ i a b. absurd (let z : member_index c.args.j < member_index c.args.j = omega (arith, a, b) in omega (arith, z))) x))));
  steps = (let one = c.act.ensures.one in omega (arith, one));
}

pub returns-else-finalizes : goal.returns-else-finalizes
returns-else-finalizes g c = record {
  table = (refl, refl, refl);
  to = λ k x. skips k _ c.args.run.now (member_index c.args.j) (sym c.finalizes.ensures ∙ c.if-finalizes.false) x;
  steps = omega arith;
}
