use Rattle.std.proofs.Common.{◌≡◌, ◌∙◌, ◌+◌, ◌<◌, ℕ, List, suc, length, slice_index_or, sym, ap, subst, arith}
use Rattle.std.proofs.lemmas.List.{get_or_default}
use Rattle.histories.specs.Common.{LoadInfo, info}
use Rattle.template.specs.Common.{load, snap_at, Snap}
use Rattle.straight.specs.StraightVlx.{HasGoneAlong, LoadsFirstInfo, Validator}
use Rattle.straight.specs.CallKinds.{calls}
use Rattle.straight.specs.Inside.{InnerIsTold, InnerWaits}
use Rattle.straight.specs.Hands.{names}
use Rattle.straight.proofs.StraightVlx.{waits_next}
use Rattle.straight.proofs.vlx.validate.Given.{Over}
use Rattle.straight.proofs.vlx.validate.Goals.{After-step-told}
use Rattle.straight.proofs.vlx.validate.Goals as goal

-- the snapshot that the loop is at
here : (snaps : List Snap) (asked index : ℕ) (d : Snap) → asked ≡ index → index < length snaps → snap_at snaps asked ≡ slice_index_or snaps index d
here snaps asked index d at more = ap (snap_at snaps) at ∙ get_or_default snaps index _ d more

one_more : (n : ℕ) → suc n ≡ n + 1
one_more n = omega arith

pub step-told-requires-clause-waits : goal.step-told-requires-clause-waits
step-told-requires-clause-waits g c = let w = c.requires.waits in (w.0.call, w.0.first, w.0.with_run (suc c.loop-snap.asked), (w.0.is_layout, w.0.is_number), subst (λ (s : Snap). InnerWaits w.0 c.loop-snap.seat.me.0.passes (suc c.loop-snap.asked) (load LoadInfo (info s.node.0))) (here c.args.snaps.now c.loop-snap.asked c.loop-snap.snap-index _ c.loop-snap.invariant.at c.loop-snap-test.true) (waits_next w.0 _ c.loop-snap.asked (rw c.loop-snap.invariant.at c.loop-snap-test.true) (c.loop-snap.invariant.gone w.0 w.1)))

-- whichever call it is has got the info of its node
told : (g : Over) (c : After-step-told g) (v : Validator (calls g.S.Shape g.M.Machine g.M.CallMachine.left_dealt (names c.args.hand) c.args.hand.number) c.args.snaps.now) → LoadsFirstInfo v c.args.seat.now.me.0.passes → InnerIsTold v c.step-told.new.seat.me.0.passes (c.loop-snap.asked + 1) c.step-told.result
told g c v x = subst (λ (n : ℕ). InnerIsTold v c.step-told.new.seat.me.0.passes n c.step-told.result) (one_more c.loop-snap.asked) (c.step-told.ensures.told v.call v.first (v.with_run (suc c.loop-snap.asked)) (v.is_layout, v.is_number) (subst (λ (s : Snap). InnerWaits v c.loop-snap.seat.me.0.passes (suc c.loop-snap.asked) (load LoadInfo (info s.node.0))) (here c.args.snaps.now c.loop-snap.asked c.loop-snap.snap-index _ c.loop-snap.invariant.at c.loop-snap-test.true) (waits_next v _ c.loop-snap.asked (rw c.loop-snap.invariant.at c.loop-snap-test.true) (c.loop-snap.invariant.gone v x))))

pub returns-then-told-snap-clause-told : goal.returns-then-told-snap-clause-told
returns-then-told-snap-clause-told g c = λ v x. told g (goal.at.returns-then-told-snap-clause-told g c).After-step-told v x

pub loop-snap-preserved : goal.loop-snap-preserved
loop-snap-preserved g c = record {
  here = (c.step-told.ensures.table.0 ∙ c.loop-snap.invariant.here.0, c.step-told.ensures.table.1 ∙ c.loop-snap.invariant.here.1, c.step-told.ensures.table.2 ∙ c.loop-snap.invariant.here.2);
  at = ap (λ n. n + 1) c.loop-snap.invariant.at;
  steps = (let e = c.loop-snap.invariant.steps in let i = c.step-told.ensures.one in omega (arith, e, i));
  gone = λ v x.
      let found : c.step-told.result ≡ (snap_at c.args.snaps.now c.loop-snap.asked).scx.0 = c.if-told-snap.false ∙ ap (λ (s : Snap). s.scx.0) (sym (here c.args.snaps.now c.loop-snap.asked c.loop-snap.snap-index _ c.loop-snap.invariant.at c.loop-snap-test.true)) in
      subst (λ (n : ℕ). HasGoneAlong v c.step-told.new.seat.me.0.passes n) (one_more c.loop-snap.asked) (subst (λ (n : ℕ). InnerIsTold v c.step-told.new.seat.me.0.passes (suc c.loop-snap.asked) n) found (subst (λ (n : ℕ). InnerIsTold v c.step-told.new.seat.me.0.passes n c.step-told.result) (sym (one_more c.loop-snap.asked)) (told g (goal.at.loop-snap-preserved g c).After-step-told v x)));
}
