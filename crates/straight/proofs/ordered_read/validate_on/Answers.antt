use Rattle.std.proofs.Common.{◌≡◌, ◌-◌, ◌∙◌, suc, length, refl, arith, rules}
use Rattle.straight.proofs.StraightReads.{answers_found, begins_vlx, some_snap, told_vlx, validator}
use Rattle.straight.proofs.StraightVlx.{gone_all}
use Rattle.straight.proofs.ordered_read.validate_on.Goals as goal

pub validate-requires-clause-waits : goal.validate-requires-clause-waits
validate-requires-clause-waits g c = let w = c.requires.waits in (validator w.0 c.args.run.now c.as_slice-snaps.result.now c.as_slice-snaps.ensures.value, begins_vlx w.0 c.args.run.now c.as_slice-snaps.result.now c.as_slice-snaps.ensures.value _ w.1)

pub tell-requires-clause-told : goal.tell-requires-clause-told
tell-requires-clause-told g c = let w = c.requires.waits in (w.0, told_vlx w.0 c.args.run.now c.as_slice-snaps.result.now c.as_slice-snaps.ensures.value _ _ _ (c.in-Some.ensures.told (validator w.0 c.args.run.now c.as_slice-snaps.result.now c.as_slice-snaps.ensures.value) (begins_vlx w.0 c.args.run.now c.as_slice-snaps.result.now c.as_slice-snaps.ensures.value _ w.1)))

pub returns-in-Some : goal.returns-in-Some
returns-in-Some g c = record {
  table = (c.tell.ensures.table.0 ∙ c.validate.ensures.table.0, c.tell.ensures.table.1 ∙ c.validate.ensures.table.1, c.tell.ensures.table.2 ∙ c.validate.ensures.table.2);
  to = λ r x. c.tell.ensures.to r (told_vlx r c.args.run.now c.as_slice-snaps.result.now c.as_slice-snaps.ensures.value _ _ _ (c.in-Some.ensures.told (validator r c.args.run.now c.as_slice-snaps.result.now c.as_slice-snaps.ensures.value) (begins_vlx r c.args.run.now c.as_slice-snaps.result.now c.as_slice-snaps.ensures.value _ x)));
  steps = search rules;
}

pub returns-in-None : goal.returns-in-None
returns-in-None g c = record {
  table = c.validate.ensures.table;
  to = λ r x.
      let some = some_snap r c.args.run.now c.as_slice-snaps.result.now c.as_slice-snaps.ensures.value _ x in
      let last : suc (length c.as_slice-snaps.result.now - 1) ≡ length c.as_slice-snaps.result.now = omega (arith, some) in
      answers_found r c.args.run.now c.as_slice-snaps.result.now c.as_slice-snaps.ensures.value _ (record c.args.run.now { read = c.answer.new.self }) (length c.as_slice-snaps.result.now - 1) (length c.as_slice-snaps.result.now) _ c.answer.result c.answer.ensures.same refl refl refl c.answer.ensures.told last refl refl
      (gone_all (validator r c.args.run.now c.as_slice-snaps.result.now c.as_slice-snaps.ensures.value) _ (length c.as_slice-snaps.result.now - 1) last (c.in-None.ensures.same refl (validator r c.args.run.now c.as_slice-snaps.result.now c.as_slice-snaps.ensures.value) (begins_vlx r c.args.run.now c.as_slice-snaps.result.now c.as_slice-snaps.ensures.value _ x)));
  steps = search rules;
}
