use Rattle.std.proofs.Common.{◌≡◌, ◌∙◌, arith, ℕ, List, refl, sym, ap, subst}
use Rattle.template.specs.Common.{AllowsAll, IsUpdateOver, Update, Snap}
use Rattle.arena.specs.Layout.{IsMap}
use Rattle.tables.specs.CallSteps.{no_map_of_cells}
use Rattle.tables.specs.Passes.{PassView, CanUse, Each, taken_of}
use Rattle.forest.specs.PassInvariant.{pass_view}
use Rattle.forest.specs.Puts.{IsPutOver}
use Rattle.straight.specs.StraightPut.{fresh_put, SeatPutBegins}
use Rattle.straight.specs.declared.put.PutTask.{PutTask}
use Rattle.forest.specs.declared.pass.Pass.TheInside.{Inside}
use Rattle.forest.proofs.UpkeepKept.{never_kept}
use Rattle.forest.proofs.Passes.{layout_of, call_of, goes_nowhere}
use Rattle.forest.proofs.VlxCalls.{apart_at, among_at}
use Rattle.forest.proofs.ScxCalls.{HasPut, all_taken, put_begins, put_called, put_pass, put_says, put_alone, put_goes_on}
use Rattle.forest.proofs.forest.Forest+Cells.scx.Goals as goal

pub new-update-requires-clause-distinct : goal.new-update-requires-clause-distinct
new-update-requires-clause-distinct c = apart_at c.args.snaps.now c.requires.may.1

pub new-update-requires-clause-among : goal.new-update-requires-clause-among
new-update-requires-clause-among c = among_at c.args.snaps.now c.args.field.0.0 c.requires.may.2

-- what is to be put, in the call of this number
abbrev put_of : goal.After-call-arg-2-1 → ℕ → PutTask
put_of c number = let u = c.new-update.result in record { task = record { scx = c.in-Ok.records.1; call = number; plan = u.plan; old = u.old; fresh = u.fresh }; value = c.args.value }

-- its update, over the caller's snapshots
over_them : (u : Update) (snaps : List Snap) → u.snaps ≡ snaps → IsUpdateOver u → IsUpdateOver record { snaps = snaps; plan = u.plan; old = u.old; fresh = u.fresh }
over_them u snaps is x = rw (← is) x

-- the run that the call makes
is_of : (c : goal.After-call-arg-2-1) (number : ℕ) → IsPutOver (fresh_put c.args.snaps.now (put_of c number)) c.args.snaps.now c.args.finalize.now (c.args.field.0.0, c.args.field.1) c.args.value c.pass.inside.share.next_node c.pass.inside.share.next_scx number
is_of c number = let u = c.new-update.ensures in let records = c.in-Ok.ensures.records in record {
  over = over_them c.new-update.result c.args.snaps.now u.snaps u.over;
  snaps_are = refl;
  fresh = u.fresh ∙ records.0;
  record_is = records.1;
  called = refl;
  removed = u.removed;
  node_is = u.field.node;
  side = u.field.side;
  is_value = refl;
}

-- the number of the call
abbrev called : {T : Type 0} → Inside T → ℕ
called p = taken_of (pass_view p)

-- the call may begin
begins : (c : goal.After-call-arg-2-1) (number : ℕ) → SeatPutBegins AllowsAll (call_of c.pass.inside c.pass.invariant.0 number) c.pass.inside.seat.me.0.passes (fresh_put c.args.snaps.now (put_of c number))
begins c number = let some = c.in-Ok.ensures.some in
    put_begins c.pass.inside c.pass.invariant.0 some.0 some.1 c.args.snaps.now c.args.finalize.now (c.args.field.0.0, c.args.field.1) c.args.value number _ (is_of c number) refl refl (subst (λ (v : PassView). Each (CanUse v) c.args.snaps.now) (sym c.pass.view_is) c.requires.may.3)

-- its number as the code has it
named : (c : goal.After-call-arg-2-1) → called c.pass.inside ≡ c.taken-number.result
named c = ap taken_of c.pass.view_is ∙ sym c.taken-number.ensures

pub call-requires-clause-begins : goal.call-requires-clause-begins
call-requires-clause-begins c = (
  call_of c.pass.inside c.pass.invariant.0 (called c.pass.inside),
  (layout_of c.pass.view_is c.self.view_is c.requires.pass, named c),
  rw (← named c) (begins c (called c.pass.inside)),
)

-- what the call leaves
ended : (c : goal.After-call) → HasPut c.pass.inside c.pass.invariant.0 c.in-Ok.ensures.some.0 c.in-Ok.ensures.some.1 c.args.snaps.now c.args.finalize.now (c.args.field.0.0, c.args.field.1) c.args.value (called c.pass.inside) c.call.new.seat c.call.result
ended c = let p = c.pass.inside in let x = c.pass.invariant.0 in let some = c.in-Ok.ensures.some in
    let ends = c.call.ensures.ends (call_of p x (called p)) (layout_of c.pass.view_is c.self.view_is c.requires.pass, named c.before) (rw (← named c.before) (begins c.before (called p))) in
    put_called p x some.0 some.1 c.args.snaps.now c.args.finalize.now (c.args.field.0.0, c.args.field.1) c.args.value (called p) c.call.new.seat _ ends.0 c.call.result (rw (← named c.before) (is_of c.before (called p))) ends.1

pub invariant_of-pass-2 : goal.invariant_of-pass-2
invariant_of-pass-2 c = let some = c.in-Ok.ensures.some in
    (rw c.in-Ok.ensures.left (put_pass c.pass.inside c.pass.invariant.0 some.0 some.1 c.args.snaps.now c.args.finalize.now (c.args.field.0.0, c.args.field.1) c.args.value _ c.call.new.seat c.call.result c.call.ensures.table.1 (ended c)), λ lasts. never_kept _ refl lasts)

pub returns-clause-called : goal.returns-clause-called
returns-clause-called c =
    let some = c.in-Ok.ensures.some in
    let of = rw (← c.pass.view_is) at c.requires.pass in
    record {
      pass = (c.call.ensures.table.0 ∙ of.0, of.1);
      cells = c.pass.invariant.0.is_mode;
      goes_on = rw (← c.pass.view_is, c.in-Ok.ensures.left) (put_goes_on c.pass.inside c.pass.invariant.0 some.0 some.1 c.args.snaps.now c.args.finalize.now (c.args.field.0.0, c.args.field.1) c.args.value _ c.call.new.seat c.call.result 40 40 c.call.ensures.table.0 c.call.ensures.table.1 (ended c) c.call.ensures.steps (omega arith));
    }

pub returns-in-Err-clause-called : goal.returns-in-Err-clause-called
returns-in-Err-clause-called c = record {
  pass = rw (← c.pass.view_is) at c.requires.pass;
  cells = c.pass.invariant.0.is_mode;
  goes_on = rw (← c.pass.view_is, c.in-Err.ensures.full.1) (goes_nowhere c.pass.inside c.pass.invariant.0 _ 40);
}

pub returns-in-Err-clause-full : goal.returns-in-Err-clause-full
returns-in-Err-clause-full c =
    let p = c.pass.inside in
    let full = c.in-Err.ensures.full in
    rw (← c.pass.view_is) ((full.0, all_taken (pass_view p) c.in-Err.full.what c.in-Err.full.left (c.pass.invariant.0.few (λ map. no_map_of_cells (subst IsMap c.pass.invariant.0.is_mode map))) c.pass.invariant.0.rest full.0), ap (λ s. pass_view (record p { share = s })) full.1)

pub returns-clause-says : goal.returns-clause-says
returns-clause-says c = let some = c.in-Ok.ensures.some in
    rw (← c.pass.view_is, c.in-Ok.ensures.left) (refl, put_says c.pass.inside c.pass.invariant.0 some.0 some.1 c.args.snaps.now c.args.finalize.now (c.args.field.0.0, c.args.field.1) c.args.value (called c.pass.inside) c.call.new.seat c.call.result refl (ended c))

pub returns-clause-alone : goal.returns-clause-alone
returns-clause-alone c = let some = c.in-Ok.ensures.some in
    rw (← c.pass.view_is) (put_alone c.pass.inside c.pass.invariant.0 some.0 some.1 c.args.snaps.now c.args.finalize.now (c.args.field.0.0, c.args.field.1) c.args.value _ c.call.new.seat c.call.result (ended c))
