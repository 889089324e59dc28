use Rattle.std.proofs.Common.{◌≡◌, codes, get_or, arith, rules}
use Rattle.report.proofs.Fields.{blank}
use Rattle.report.proofs.LineRows.{only_idle}
use Rattle.report.proofs.Texts.{if_none}
use Rattle.report.proofs.read_line.turn_of.Goals as goal

pub returns-in-idle-clause-none : goal.returns-in-idle-clause-none
returns-in-idle-clause-none c =
    let kind : (get_or c.args.fields 3 blank).now ≡ codes "idle" = search rules in
    if_none c.idle_of.result (λ none. only_idle c.args.fields (omega arith) kind none c.args.version) c.idle_of.ensures.none
