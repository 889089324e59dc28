use Rattle.std.proofs.Common.{◌∙◌, Some, ap}
use Rattle.arena.specs.declared.word.NodeWord.TheVariants.{Settled}
use Rattle.straight.proofs.fresh_nodes.fill_more.Goals as goal

pub fill-requires-clause-fills : goal.fill-requires-clause-fills
fill-requires-clause-fills g c =
    let r = c.requires.fills in
    let some = c.in-Some-Settled-More.is in
    let settled = rw some at c.in-Some-Settled-More.field-0-is in
    (r.0, rw (some ∙ ap Some (settled ∙ ap Settled (rw (some, settled) at c.in-Some-Settled-More.field-0-0-is))) at r.1)
