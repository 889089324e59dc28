use Rattle.std.proofs.Common.{◌≡◌, ℕ, true, List, Some, sym, subst, ◌∙◌, rules}
use Rattle.std.proofs.lemmas.Bool.{false≢true}
use Rattle.histories.specs.Common.{NodeNo, LoadInfo}
use Rattle.record.specs.declared.record.Answer.{Answer}
use Rattle.record.specs.Answers.{IsInTheWay, IsAsSnapped}
use Rattle.record.specs.Rules.Vlx.{VlxIsRight}
use Rattle.record.specs.Snapshots.{AreLinked, IsFirstUnlinked, IsBehindAll}
use Rattle.judge.specs.Histories.{seen_history}
use Rattle.audit.specs.CellCalls.{AreSameAt}
use Rattle.audit.proofs.CellCallFacts.{if_some}
use Rattle.audit.proofs.cells.is_true_of_vlx.Goals as goal
use Rattle.audit.proofs.cells.is_true_of_vlx.Goals.{then-are_linked, else-are_linked}

pub returns-in-Unlinked : goal.returns-in-Unlinked
returns-in-Unlinked c = λ start linked steps x like t.
    let lay = c.args.steps.now.judge.layout in
    let h = seen_history c.args.steps.now.judge in
    let same : c.first_unlinked.result ≡ Some c.in-Unlinked.node = search rules in
    let first = if_some c.first_unlinked.result c.in-Unlinked.node (λ (n : NodeNo). IsFirstUnlinked linked c.as_slice-cells.result.now n.0) same (c.first_unlinked.ensures.first lay h linked x.snapshots) in
    subst (λ (a : Answer). VlxIsRight c.args.cells.now lay c.args.pass.0 h start linked a) (sym c.in-Unlinked.is) (subst (λ (k : List ℕ). IsFirstUnlinked linked k c.in-Unlinked.node.0) c.as_slice-cells.ensures.cells first)

pub returns-then-is_behind_all_like : goal.returns-then-is_behind_all_like
returns-then-is_behind_all_like c = λ start linked steps x like t.
    let lay = c.args.steps.now.judge.layout in
    let h = seen_history c.args.steps.now.judge in
    let p = c.args.pass.0 in
    let cells = c.as_slice-cells.result.now in
    let alike : AreSameAt lay start linked cells c.args.memory.now.same = subst (λ (k : List ℕ). AreSameAt lay start linked k c.args.memory.now.same) (sym c.as_slice-cells.ensures.cells) like in
    let linked_all : c.are_linked.result ≡ true = search rules in
    let all = c.are_linked.ensures lay h linked x.snapshots linked_all in
    let behind : IsBehindAll (IsAsSnapped lay start linked) cells c.in-Changed.node.0 = elim c.if-are_linked.branch [ then-are_linked w ↦ w.is_behind_all_like.ensures lay start linked alike (sym w.value-is ∙ c.if-is_behind_all_like.true) | else-are_linked w ↦ absurd (false≢true (sym w.if-are_linked.false ∙ sym w.value-is ∙ c.if-is_behind_all_like.true)) ] in
    let come = c.has_come.ensures LoadInfo start linked steps x x.looks t in
    let said : AreLinked linked cells × IsInTheWay lay p h start LoadInfo cells c.in-Changed.node.0 c.in-Changed.scx.0 (λ moment. linked c.in-Changed.node.0 ≡ Some moment) × IsBehindAll (IsAsSnapped lay start linked) cells c.in-Changed.node.0 = (all, come, behind) in
    subst (λ (a : Answer). VlxIsRight c.args.cells.now lay p h start linked a) (sym c.in-Changed.is) (subst (λ (k : List ℕ). AreLinked linked k × IsInTheWay lay p h start LoadInfo k c.in-Changed.node.0 c.in-Changed.scx.0 (λ moment. linked c.in-Changed.node.0 ≡ Some moment) × IsBehindAll (IsAsSnapped lay start linked) k c.in-Changed.node.0) c.as_slice-cells.ensures.cells said)
