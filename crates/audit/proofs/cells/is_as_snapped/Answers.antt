use Rattle.judge.specs.Histories.{seen_history}
use Rattle.audit.proofs.CellMoments.{as_snapped}
use Rattle.audit.proofs.cells.is_as_snapped.Goals as goal

pub returns-in-Some : goal.returns-in-Some
returns-in-Some c = λ linked x t. as_snapped c.args.judge.now.layout (seen_history c.args.judge.now) c.args.memory.now linked x c.args.cell.0 c.in-Some.kept c.in-Some.ensures.some (c.is_unchanged.ensures.last t) (c.is_unchanged.ensures.not_final t)
