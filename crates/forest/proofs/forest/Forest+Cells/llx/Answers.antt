use Rattle.std.proofs.Common.{◌≡◌, ◌≤◌, ◌∙◌, arith, ℕ, true, refl, sym, ap, subst}
use Rattle.histories.specs.Common.{is_final, Records, NodeNo}
use Rattle.tables.specs.Passes.{PassView, seen_of, taken_of}
use Rattle.forest.specs.PassInvariant.{pass_view, IsPass}
use Rattle.forest.proofs.UpkeepKept.{never_kept}
use Rattle.forest.proofs.Passes.{HasOnlyLoaded, layout_of, call_of}
use Rattle.forest.proofs.LlxCalls.{Answered, heard, llx_begins, llx_called, llx_goes_on, llx_kinds, llx_nothing, llx_says, llx_finalized, llx_pass}
use Rattle.prims.specs.Cells.{AllowsAll}
use Rattle.prims.specs.declared.llx.LlxAt.TheVariants.{Start as LlxStart}
use Rattle.forest.specs.declared.pass.Pass.TheInside.{Inside}
use Rattle.forest.specs.StepKinds.{HasFilledNothing}
use Rattle.straight.specs.StraightLlx.{llx_at, SeatLlxBegins, SeatLlxEnds}
use Rattle.forest.proofs.forest.Forest+Cells.llx.Goals as goal

-- the number of the call
abbrev called : {T : Type 0} → Inside T → ℕ
called p = taken_of (pass_view p)

-- the call may begin
begins : {T : Type 0} (p : Inside T) (x : IsPass AllowsAll Records p) (node : NodeNo) → node.0 ≤ 8 → SeatLlxBegins AllowsAll (call_of p x (called p)) p.seat.me.0.passes node
begins p x node small = llx_begins p x (called p) (llx_at node LlxStart) refl small

pub call-answer-requires-clause-begins : goal.call-answer-requires-clause-begins
call-answer-requires-clause-begins c = let p = c.pass.inside in let x = c.pass.invariant.0 in
    (call_of p x (called p), (layout_of c.pass.view_is c.self.view_is c.requires.pass, ap taken_of c.pass.view_is ∙ sym c.taken-number.ensures), begins p x c.args.node c.requires.cell)

-- how the call has ended
ends : (c : goal.After-note) → SeatLlxEnds AllowsAll (call_of c.pass.inside c.pass.invariant.0 (called c.pass.inside)) c.call-answer.new.seat.me.0.passes c.args.node c.call-answer.result
ends c = let p = c.pass.inside in let x = c.pass.invariant.0 in
    c.call-answer.ensures.ends (call_of p x (called p)) (layout_of c.pass.view_is c.self.view_is c.requires.pass, ap taken_of c.pass.view_is ∙ sym c.taken-number.ensures) (begins p x c.args.node c.requires.cell)

-- what the call leaves
ended : (c : goal.After-note) → HasOnlyLoaded AllowsAll c.pass.inside c.call-answer.new.seat (called c.pass.inside) (Answered c.pass.inside c.pass.invariant.0 (called c.pass.inside) c.args.node c.call-answer.result)
ended c = let p = c.pass.inside in let x = c.pass.invariant.0 in
    let y = ends c in
    llx_called p x (called p) c.call-answer.new.seat (llx_at c.args.node LlxStart) y.0 c.args.node c.call-answer.result refl y.1

pub invariant_of-pass : goal.invariant_of-pass
invariant_of-pass c = (llx_pass c.pass.inside c.pass.invariant.0 _ c.call-answer.new.seat c.args.node c.call-answer.result _ c.note.ensures c.call-answer.ensures.table.1 (ended c), λ lasts. never_kept _ refl lasts)

pub returns-clause-called : goal.returns-clause-called
returns-clause-called c =
    let of = rw (← c.pass.view_is) at c.requires.pass in
    record {
      pass = (c.call-answer.ensures.table.0 ∙ of.0, of.1);
      cells = c.pass.invariant.0.is_mode;
      goes_on = rw (← c.pass.view_is) (llx_goes_on c.pass.inside c.pass.invariant.0 _ c.call-answer.new.seat c.args.node c.call-answer.result c.note.new.self 64 64 c.note.ensures c.call-answer.ensures.table.0 c.call-answer.ensures.table.1 (ended c) c.call-answer.ensures.steps (omega arith));
    }

pub returns-clause-takes_nothing : goal.returns-clause-takes_nothing
returns-clause-takes_nothing c = rw (← c.pass.view_is) (llx_nothing c.pass.inside c.pass.invariant.0 _ c.call-answer.new.seat c.args.node c.call-answer.result c.note.new.self (ended c))

pub returns-clause-says : goal.returns-clause-says
returns-clause-says c = rw (← c.pass.view_is) (llx_says c.pass.inside c.pass.invariant.0 _ c.call-answer.new.seat c.args.node c.note.new.self c.call-answer.result (ended c))

pub returns-clause-finalized : goal.returns-clause-finalized
returns-clause-finalized c = λ final. llx_finalized c.pass.inside c.pass.invariant.0 _ c.call-answer.new.seat c.args.node c.call-answer.result (ended c) (subst (λ (v : PassView). is_final (seen_of v) c.args.node.0 ≡ true) (sym c.pass.view_is) final)

pub returns-clause-kinds : goal.returns-clause-kinds
returns-clause-kinds c = subst (λ (v : PassView). HasFilledNothing v (pass_view (heard c.pass.inside c.pass.invariant.0 (called c.pass.inside) c.call-answer.new.seat c.args.node c.note.new.self))) c.pass.view_is (llx_kinds c.pass.inside c.pass.invariant.0 _ c.call-answer.new.seat c.args.node c.note.new.self c.call-answer.result (ends c))
