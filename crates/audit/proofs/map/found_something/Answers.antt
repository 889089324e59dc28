use Rattle.std.proofs.Common.{subst, sym}
use Rattle.histories.specs.Common.{Layout}
use Rattle.record.specs.Common.{map_request}
use Rattle.record.specs.Rules.Edit.{FindsFirst}
use Rattle.audit.proofs.map.found_something.Goals as goal

pub returns-then-looks_first : goal.returns-then-looks_first
returns-then-looks_first c lay calls lines kept are it finds = absurd (c.looks_first.ensures c.if-looks_first.true (subst (λ (l : Layout). FindsFirst l (map_request c.args.request.now)) (sym kept.steps.layout) finds))

pub returns-else-looks_first : goal.returns-else-looks_first
returns-else-looks_first c lay calls lines kept are it finds = c.needed_something.ensures calls lines are it
