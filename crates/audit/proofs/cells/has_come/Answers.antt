use Rattle.std.proofs.Common.{◌≡◌, true, rules}
use Rattle.arena.specs.Log.{has}
use Rattle.judge.specs.Histories.{seen_history}
use Rattle.audit.specs.CellCalls.{IsLookAt}
use Rattle.audit.proofs.CellCallFacts.{come}
use Rattle.audit.proofs.CellLists.{has_contained}
use Rattle.audit.proofs.cells.has_come.Goals as goal

pub returns-then-has_found : goal.returns-then-has_found
returns-then-has_found c = λ kind start linked steps x looks t.
    let lay = c.args.steps.now.judge.layout in
    let h = seen_history c.args.steps.now.judge in
    let n = c.args.blamed.0.0 in
    let s = c.args.blamed.1.0 in
    let looked : IsLookAt c.args.look n s c.args.memory.now.begun = search rules in
    let among : has c.args.cells.now n ≡ true = search rules in
    come lay c.args.pass.0 h start linked c.args.memory.now x kind c.args.look c.args.cells.now n s c.in-Some.snapshot looks c.in-Some.ensures.some (has_contained c.args.cells.now n among) looked (c.was_in_the_way.ensures.others t) (λ g m. c.was_in_the_way.ensures.way lay h g steps m t)
