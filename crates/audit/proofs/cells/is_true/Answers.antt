use Rattle.std.proofs.Common.{◌∙◌, sym, subst, ap, Some}
use Rattle.histories.specs.Common.{Layout, History}
use Rattle.record.specs.Common.{Command, IsRight, linked, history, start}
use Rattle.record.specs.Rules.Llx.{LlxIsRight}
use Rattle.record.specs.Rules.Scx.{ScxIsRight}
use Rattle.record.specs.Rules.Set.{SetIsRight}
use Rattle.record.specs.Rules.Vlx.{VlxIsRight}
use Rattle.audit.proofs.CellEntries.{steps_seen, call_seen, same_seen, own_memory, to_lines}
use Rattle.audit.proofs.cells.is_true.Goals as goal

pub returns-in-Llx-clause-right : goal.returns-in-Llx-clause-right
returns-in-Llx-clause-right c = λ lay tries calls lines x begun next t.
    let all = c.args.steps.now in
    let p = c.args.pass.0 in
    let st = start lay.mode lines p in
    let kept = linked calls lay.mode lines p in
    let is = own_memory lay calls lines all x p c.memory-memory.result c.requires.pass c.memory-memory.ensures in
    let call = call_seen lay calls lines all x p c.memory-memory.result is begun in
    let right = to_lines lay calls lines all x (λ (l : Layout) (h : History). LlxIsRight c.in-Llx.cell l p h st kept c.args.answer.now) (c.is_true_of_llx.ensures st kept (steps_seen lay calls lines all x) call t) in
    subst (λ (k : Command). IsRight lay tries p (history lay.mode lines) st kept k c.args.answer.now) (sym c.in-Llx.is) right

pub returns-in-Scx-clause-right : goal.returns-in-Scx-clause-right
returns-in-Scx-clause-right c = λ lay tries calls lines x begun next t.
    let all = c.args.steps.now in
    let p = c.args.pass.0 in
    let st = start lay.mode lines p in
    let kept = linked calls lay.mode lines p in
    let is = own_memory lay calls lines all x p c.memory-memory.result c.requires.pass c.memory-memory.ensures in
    let call = call_seen lay calls lines all x p c.memory-memory.result is begun in
    let right = to_lines lay calls lines all x (λ (l : Layout) (h : History). ScxIsRight c.in-Scx.update l p h st kept c.args.answer.now) (c.is_true_of_scx.ensures st kept (steps_seen lay calls lines all x) call t) in
    subst (λ (k : Command). IsRight lay tries p (history lay.mode lines) st kept k c.args.answer.now) (sym c.in-Scx.is) right

pub returns-in-Vlx-clause-right : goal.returns-in-Vlx-clause-right
returns-in-Vlx-clause-right c = λ lay tries calls lines x begun next t.
    let all = c.args.steps.now in
    let p = c.args.pass.0 in
    let st = start lay.mode lines p in
    let kept = linked calls lay.mode lines p in
    let is = own_memory lay calls lines all x p c.memory-memory.result c.requires.pass c.memory-memory.ensures in
    let call = call_seen lay calls lines all x p c.memory-memory.result is begun in
    let like = same_seen lay calls lines all x p c.memory-memory.result c.in-Vlx.cells is begun (next ∙ ap (λ (k : Command). Some k) c.in-Vlx.is) in
    let right = to_lines lay calls lines all x (λ (l : Layout) (h : History). VlxIsRight c.in-Vlx.cells l p h st kept c.args.answer.now) (c.is_true_of_vlx.ensures st kept (steps_seen lay calls lines all x) call like t) in
    subst (λ (k : Command). IsRight lay tries p (history lay.mode lines) st kept k c.args.answer.now) (sym c.in-Vlx.is) right

pub returns-in-Set-clause-right : goal.returns-in-Set-clause-right
returns-in-Set-clause-right c = λ lay tries calls lines x begun next t.
    let all = c.args.steps.now in
    let p = c.args.pass.0 in
    let st = start lay.mode lines p in
    let kept = linked calls lay.mode lines p in
    let is = own_memory lay calls lines all x p c.memory-memory.result c.requires.pass c.memory-memory.ensures in
    let call = call_seen lay calls lines all x p c.memory-memory.result is begun in
    let right = to_lines lay calls lines all x (λ (l : Layout) (h : History). SetIsRight c.in-Set.field c.in-Set.value l p h st kept c.args.answer.now) (c.is_true_of_set.ensures st kept c.in-Set.field.1 c.in-Set.value (steps_seen lay calls lines all x) call t) in
    subst (λ (k : Command). IsRight lay tries p (history lay.mode lines) st kept k c.args.answer.now) (sym c.in-Set.is) right
