use Rattle.std.proofs.Common.{arith, refl, rules}
use Rattle.audit.proofs.EarlierLines.{err_same, fault_before, fault_behind}
use Rattle.audit.proofs.verdict.audit_watched.Goals as goal

pub loop-at-init : goal.loop-at-init
loop-at-init g c =
    let run = c.in-Ok.ensures in
    record { at = run.at; same = run.«record»; remembers = search rules }

pub finish-requires-clause-all : goal.finish-requires-clause-all
finish-requires-clause-all g c =
    let inv = c.loop-at.invariant in
    let over = c.loop-at-test.false in
    let end = c.len-at-end.ensures in
    rw inv.same (omega (arith, inv.at, over, end))

pub returns-in-Err-clause-fault : goal.returns-in-Err-clause-fault
returns-in-Err-clause-fault g c = λ row e.
    let first = c.first_row-first.ensures in
    let at = c.at.ensures row (err_same _ _ _ refl e) in
    fault_before c.args.«record».now row (rw first at at.0) (rw first at at.1)

pub returns-in-Err-line-clause-fault : goal.returns-in-Err-line-clause-fault
returns-in-Err-line-clause-fault g c = λ row e.
    let inv = c.loop-at.invariant in
    let more = c.loop-at-test.true in
    let many = c.len-at-end.ensures in
    let first = c.first_row-first.ensures in
    let at = c.at-in-Err-line.ensures row (err_same _ _ _ refl e) in
    let from = at.0 in
    let to = at.1 in
    fault_behind c.loop-at.run c.args.«record».now c.loop-at.at row inv.same inv.at inv.remembers.after (omega (arith, first, from)) (omega (arith, more, many, first, to)) (omega (arith, first, to))

pub returns-in-Err-finish-clause-fault : goal.returns-in-Err-finish-clause-fault
returns-in-Err-finish-clause-fault g c = λ row e.
    let inv = c.loop-at.invariant in
    let over = c.loop-at-test.false in
    let end = c.len-at-end.ensures in
    let many = c.len.ensures in
    let first = c.first_row-first.ensures in
    let at = c.at-in-Err-finish.ensures row (err_same _ _ _ refl e) in
    let from = at.0 in
    let to = at.1 in
    fault_behind c.loop-at.run c.args.«record».now c.loop-at.at row inv.same inv.at inv.remembers.after (omega (arith, first, from)) (omega (arith, many, first, to)) (omega (arith, over, end, many, first, to))
