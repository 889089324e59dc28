use Rattle.std.proofs.Common.{Some, sym, ◌∙◌}
use Rattle.record.specs.Common.{map_request, map_at}
use Rattle.audit.proofs.EachCall.{need_at}
use Rattle.audit.proofs.map.needed_one.Goals as goal

pub returns-then-applies_to_all : goal.returns-then-applies_to_all
returns-then-applies_to_all c calls lines are it =
    let had = c.had_some.ensures calls lines are it in
    let within = had.1 in
    (within.0, within.1, within.2, need_at (map_request c.args.request.now) c.in-Some.goal c.in-Some.rule c.in-Key-None.key (map_at calls lines within.0) (Some had.0) (sym c.edit.ensures ∙ c.in-Some.is) c.in-Key-None.is-0 within.3 (c.applies_to_all.ensures c.if-applies_to_all.true had.0))
