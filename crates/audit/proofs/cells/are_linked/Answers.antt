use Rattle.std.proofs.Common.{ap, not, ◌∙◌}
use Rattle.record.specs.Snapshots.{AreLinked}
use Rattle.audit.proofs.CellCallFacts.{none_kept}
use Rattle.audit.proofs.cells.are_linked.Goals as goal

pub returns : goal.returns
returns c = λ lay h linked x t. none_kept c.first_unlinked.result (AreLinked linked c.args.cells.now) (c.is_none.ensures ∙ ap not t) (c.first_unlinked.ensures.none lay h linked x)
