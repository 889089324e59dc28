use Rattle.std.proofs.Common.{◌≡◌, ◌∙◌, None, refl, rules}
use Rattle.report.proofs.Counted.{counted_reply, counted_other}
use Rattle.report.proofs.read_line.next_line.Goals.{in-Reply+in-Ok-count_below, in_default-line-2}
use Rattle.report.proofs.read_line.next_line.Goals as goal

pub returns-clause-counted : goal.returns-clause-counted
returns-clause-counted g c lines counted fits = elim c.match-line-2.branch [
  | in-Reply+in-Ok-count_below w ↦ rw (w.in-Reply.is, w.replies-is) (counted_reply c.args.replies.now w.count_below.new.self c.args.passes lines w.in-Reply.reply counted fits w.in-Ok-count_below.ensures.counted w.in-Ok-count_below.ensures.others)
  | in_default-line-2 w ↦ rw w.replies-is (counted_other c.args.replies.now c.args.passes lines _ w.in_default-line-2.not-Reply counted)
]

pub returns-in_default-line-clause-none : goal.returns-in_default-line-clause-none
returns-in_default-line-clause-none g c = λ wide.
    let nothing : c.in-Ok.line ≡ None = search rules in
    let none = rw nothing at c.in-Ok.ensures.none in
    rw c.fault.ensures (refl, λ line fits is. none line fits (c.row_fields.ensures wide ∙ is))
