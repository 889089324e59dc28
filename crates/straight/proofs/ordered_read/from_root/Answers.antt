use Rattle.std.proofs.Common.{◌∙◌, sym}
use Rattle.straight.specs.StraightReads.{at_root}
use Rattle.straight.proofs.StraightReads.{last_steps, root_goes_on, root_lighter}
use Rattle.straight.proofs.ordered_read.from_root.Goals as goal

pub go_on-requires-clause-waits : goal.go_on-requires-clause-waits
go_on-requires-clause-waits g c = let w = c.requires.waits in (w.0, root_goes_on w.0 c.args.run.now c.head_on-first.new.self c.head_on-first.ensures.same _ c.read-word.result c.head_on-first.result (λ snaps d h y o s e. c.head_on-first.ensures.goes_on snaps d h y o s (e ∙ sym c.of.ensures)) (c.read-word.ensures.told w.0 (at_root c.args.run.now) w.1))

pub returns : goal.returns
returns g c = record {
  table = (c.go_on.ensures.table.0 ∙ c.read-word.ensures.table.0, c.go_on.ensures.table.1 ∙ c.read-word.ensures.table.1, c.go_on.ensures.table.2 ∙ c.read-word.ensures.table.2);
  to = λ r x. c.go_on.ensures.to r (root_goes_on r c.args.run.now c.head_on-first.new.self c.head_on-first.ensures.same _ c.read-word.result c.head_on-first.result (λ snaps d h y o s e. c.head_on-first.ensures.goes_on snaps d h y o s (e ∙ sym c.of.ensures)) (c.read-word.ensures.told r (at_root c.args.run.now) x));
  steps = (let w = c.requires.waits in last_steps _ _ _ _ _ c.read-word.ensures.one (root_lighter w.0 c.args.run.now c.head_on-first.new.self c.head_on-first.ensures.same _ c.read-word.result c.head_on-first.result (λ snaps d h y o s e. c.head_on-first.ensures.goes_on snaps d h y o s (e ∙ sym c.of.ensures)) (λ nodes f. rw c.of.ensures at (c.head_on-first.ensures.nearer nodes (rw c.of.ensures f))) (c.read-word.ensures.told w.0 (at_root c.args.run.now) w.1)) c.go_on.ensures.steps);
}
