use Rattle.std.proofs.Common.{◌≡◌, ◌++◌, codes, false, true}
use Rattle.texts.specs.Sheets.{sheet_text}
use Rattle.report.proofs.Outcomes.{met_line, missed_line, opened}
use Rattle.report.proofs.Texts.{on_ok_of}
use Rattle.report.proofs.outcome.put_opening.Goals as goal

pub returns-then-missed : goal.returns-then-missed
returns-then-missed c =
    on_ok_of c.push-then-missed.result
    (λ (last : sheet_text c.push-then-missed.new.self ≡ sheet_text c.push.new.self ++ codes "gate,missed,,\n"). rw c.if-missed.true (opened true (codes "gate,missed,,\n") _ _ _ missed_line c.in_ok-push.ensures last))
    c.push-then-missed.ensures

pub returns-else-missed : goal.returns-else-missed
returns-else-missed c =
    on_ok_of c.push-else-missed.result
    (λ (last : sheet_text c.push-else-missed.new.self ≡ sheet_text c.push.new.self ++ codes "gate,met,,\n"). rw c.if-missed.false (opened false (codes "gate,met,,\n") _ _ _ met_line c.in_ok-push.ensures last))
    c.push-else-missed.ensures
