use Rattle.std.proofs.Common.{◌≡◌, ℕ, true, List, Some, sym, subst, ◌∙◌, rules}
use Rattle.std.proofs.lemmas.Bool.{false≢true}
use Rattle.histories.specs.Common.{NodeNo, Freeze}
use Rattle.record.specs.declared.record.Answer.{Answer}
use Rattle.record.specs.Common.{IsInTheWay, AreLinked, IsFirstUnlinked}
use Rattle.record.specs.Rules.Scx.{ScxIsRight}
use Rattle.judge.specs.Histories.{seen_history}
use Rattle.audit.proofs.CellCallFacts.{if_some}
use Rattle.audit.proofs.cells.is_true_of_scx.Goals as goal
use Rattle.audit.proofs.cells.is_true_of_scx.Goals.{then-had_room, else-had_room}

pub returns-in-Unlinked : goal.returns-in-Unlinked
returns-in-Unlinked c = λ start linked steps x t.
    let lay = c.args.steps.now.judge.layout in
    let h = seen_history c.args.steps.now.judge in
    let same : c.first_unlinked.result ≡ Some c.in-Unlinked.node = search rules in
    let first = if_some c.first_unlinked.result c.in-Unlinked.node (λ (n : NodeNo). IsFirstUnlinked linked c.cells-cells.result.now n.0) same (c.first_unlinked.ensures.first lay h linked x.snapshots) in
    subst (λ (a : Answer). ScxIsRight c.args.update.now lay c.args.pass.0 h start linked a) (sym c.in-Unlinked.is) (subst (λ (k : List ℕ). IsFirstUnlinked linked k c.in-Unlinked.node.0) c.cells-cells.ensures.cells first)

pub returns-then-are_linked : goal.returns-then-are_linked
returns-then-are_linked c = λ start linked steps x t.
    let lay = c.args.steps.now.judge.layout in
    let h = seen_history c.args.steps.now.judge in
    let all = c.are_linked.ensures lay h linked x.snapshots c.if-are_linked.true in
    subst (λ (a : Answer). ScxIsRight c.args.update.now lay c.args.pass.0 h start linked a) (sym c.in-Full.is) (subst (λ (k : List ℕ). AreLinked linked k) c.cells-cells.ensures.cells all, c.has_too_few.ensures t)

pub returns-then-are_linked-2 : goal.returns-then-are_linked-2
returns-then-are_linked-2 c = λ start linked steps x t.
    let lay = c.args.steps.now.judge.layout in
    let h = seen_history c.args.steps.now.judge in
    let p = c.args.pass.0 in
    let roomy : c.had_room.result ≡ true = search rules in
    let room = c.had_room.ensures lay p h start linked x roomy in
    let all : AreLinked linked c.cells-cells.result.now = elim c.if-had_room.branch [ then-had_room w ↦ w.are_linked-then-had_room.ensures lay h linked x.snapshots (sym w.value-is ∙ c.if-are_linked-2.true) | else-had_room w ↦ absurd (false≢true (sym w.if-had_room.false ∙ sym w.value-is ∙ c.if-are_linked-2.true)) ] in
    let come = c.has_come.ensures Freeze start linked steps x x.freezes t in
    subst (λ (a : Answer). ScxIsRight c.args.update.now lay p h start linked a) (sym c.in-Lost.is) (subst (λ (k : List ℕ). AreLinked linked k) c.cells-cells.ensures.cells all, room, subst (λ (k : List ℕ). IsInTheWay lay p h start Freeze k c.in-Lost.node.0 c.in-Lost.scx.0 (λ moment. linked c.in-Lost.node.0 ≡ Some moment)) c.cells-cells.ensures.cells come)

pub returns-in-Done : goal.returns-in-Done
returns-in-Done c = λ start linked steps x t.
    let lay = c.args.steps.now.judge.layout in
    let h = seen_history c.args.steps.now.judge in
    subst (λ (a : Answer). ScxIsRight c.args.update.now lay c.args.pass.0 h start linked a) (sym c.in-Done.is) (c.had_room-in-Done.ensures lay c.args.pass.0 h start linked x t)
