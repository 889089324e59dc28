use Rattle.std.proofs.Common.{◌∙◌, ℕ, sym, ap, subst, arith, refl}
use Rattle.template.specs.Common.{AllowsAll}
use Rattle.tables.specs.Passes.{PassView, VlxSays, CanUse, Each, taken_of}
use Rattle.forest.specs.PassInvariant.{pass_view}
use Rattle.forest.specs.StepKinds.{HasLoadedInfosAlone}
use Rattle.straight.specs.StraightVlx.{SeatVlxBegins, row_of}
use Rattle.forest.specs.declared.pass.Pass.TheInside.{Inside}
use Rattle.forest.proofs.UpkeepKept.{never_kept}
use Rattle.forest.proofs.Passes.{HasOnlyLoaded, layout_of, call_of, seated, called_pass, called_goes_on, called_nothing}
use Rattle.forest.proofs.VlxCalls.{Looked, vlx_begins, vlx_called, vlx_kinds, vlx_says}
use Rattle.forest.proofs.forest.Forest+Cells.vlx.Goals as goal

-- the number of the call
abbrev called : {T : Type 0} → Inside T → ℕ
called p = taken_of (pass_view p)

-- the call may begin
begins : (c : goal.After-call-arg-2-1) → SeatVlxBegins row_of AllowsAll (call_of c.pass.inside c.pass.invariant.0 (called c.pass.inside)) c.pass.inside.seat.me.0.passes c.args.snaps
begins c = vlx_begins row_of c.pass.inside c.pass.invariant.0 (called c.pass.inside) c.args.snaps c.requires.some (subst (λ (v : PassView). Each (CanUse v) c.args.snaps.now) (sym c.pass.view_is) c.requires.usable)

pub call-requires-clause-begins : goal.call-requires-clause-begins
call-requires-clause-begins c = (call_of c.pass.inside c.pass.invariant.0 (called c.pass.inside), (layout_of c.pass.view_is c.self.view_is c.requires.pass, ap taken_of c.pass.view_is ∙ sym c.taken-number.ensures), begins c)

-- what the call leaves
ended : (c : goal.After-call) → HasOnlyLoaded AllowsAll c.pass.inside c.call.new.seat (called c.pass.inside) (Looked row_of c.pass.inside c.pass.invariant.0 (called c.pass.inside) c.args.snaps c.call.result)
ended c = let p = c.pass.inside in let x = c.pass.invariant.0 in
    vlx_called row_of p x (called p) c.call.new.seat c.args.snaps c.call.result (c.call.ensures.ends (call_of p x (called p)) (layout_of c.pass.view_is c.self.view_is c.requires.pass, ap taken_of c.pass.view_is ∙ sym c.taken-number.ensures) (begins c.before))

pub invariant_of-pass : goal.invariant_of-pass
invariant_of-pass c = (called_pass c.pass.inside c.pass.invariant.0 c.call.new.seat _ _ c.call.ensures.table.1 (ended c), λ lasts. never_kept _ refl lasts)

pub returns-clause-called : goal.returns-clause-called
returns-clause-called c =
    let of = rw (← c.pass.view_is) at c.requires.pass in
    record {
      pass = (c.call.ensures.table.0 ∙ of.0, of.1);
      cells = c.pass.invariant.0.is_mode;
      goes_on = rw (← c.pass.view_is) (called_goes_on c.pass.inside c.pass.invariant.0 c.call.new.seat _ _ _ _ c.call.ensures.table.0 c.call.ensures.table.1 (ended c) c.call.ensures.steps (omega arith));
    }

pub returns-clause-takes_nothing : goal.returns-clause-takes_nothing
returns-clause-takes_nothing c = rw (← c.pass.view_is) (called_nothing c.pass.inside c.call.new.seat _ _ (ended c))

pub returns-clause-says : goal.returns-clause-says
returns-clause-says c = subst (λ (v : PassView). VlxSays v (pass_view (seated c.pass.inside c.call.new.seat)) c.args.snaps.now c.call.result) c.pass.view_is (vlx_says row_of c.pass.inside c.pass.invariant.0 (called c.pass.inside) c.call.new.seat c.args.snaps c.call.result (ended c))

pub returns-clause-kinds : goal.returns-clause-kinds
returns-clause-kinds c =
    let p = c.pass.inside in let x = c.pass.invariant.0 in
    subst (λ (v : PassView). HasLoadedInfosAlone v (pass_view (seated p c.call.new.seat))) c.pass.view_is
    (vlx_kinds row_of p x (called p) c.call.new.seat c.args.snaps c.call.result (c.call.ensures.ends (call_of p x (called p)) (layout_of c.pass.view_is c.self.view_is c.requires.pass, ap taken_of c.pass.view_is ∙ sym c.taken-number.ensures) (begins c.before)))
