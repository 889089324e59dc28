use Rattle.std.proofs.Common.{subst}
use Rattle.histories.specs.Common.{Layout, IsOthersScx}
use Rattle.record.specs.Turns.{history, start}
use Rattle.audit.proofs.CellEntries.{own_memory}
use Rattle.audit.proofs.CountedTries.{all_lost}
use Rattle.audit.proofs.steps.Steps.has_lost_all_tries.Goals as goal

pub returns-then-are : goal.returns-then-are
returns-then-are c lay calls lines x some it =
    let p = c.args.pass.0 in
    let h = history lay.mode lines in
    let is = own_memory lay calls lines c.args.self.now x p c.memory.result c.requires c.memory.ensures in
    let tries = ((x.memories p c.memory.result is).begins some).tries in
    let others : IsOthersScx lay p c.args.blamed.1.0 = subst (λ (l : Layout). IsOthersScx l p c.args.blamed.1.0) x.steps.layout (c.was_in_the_way.ensures.others it) in
    all_lost lay p h (start lay.mode lines p) c.memory.result.tries c.args.tries c.args.blamed.0.0 c.args.blamed.1.0 tries (c.are.ensures c.if-are.true) others (λ begin at. c.was_in_the_way.ensures.way lay h begin x.steps at it)
