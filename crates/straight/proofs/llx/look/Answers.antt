use Rattle.std.proofs.Common.{not, eqb}
use Rattle.prims.proofs.Lemmas.{not_zero, is_zero}
use Rattle.prims.specs.declared.llx.LlxAt.TheVariants.{Marked, Info, State, MarkedAgain, Left, Right, InfoAgain}
use Rattle.straight.specs.StraightLlx.{llx_at, Looker, LoadsMark}
use Rattle.straight.specs.CallKinds.{calls}
use Rattle.straight.specs.Inside.{InnerIsTold}
use Rattle.straight.specs.Hands.{names}
use Rattle.straight.proofs.StraightLlx.{to_info, to_state, to_mark_again, to_left, declines, to_right, to_info_again, differs, snaps}
use Rattle.straight.proofs.llx.look.Given.{Over}
use Rattle.straight.proofs.llx.look.Goals.{After-read-found, After-read-named, After-read-state, After-read-again, After-read-left, After-read-right, After-read-last}
use Rattle.straight.proofs.llx.look.Goals as goal

-- whichever call it is, it has got this
told_found : (g : Over) (c : After-read-found g) (k : Looker g.T.Shape.allows (calls g.S.Shape g.M.Machine g.M.CallMachine.left_dealt (names c.args.hand) c.args.hand.number)) → LoadsMark k c.args.seat.now.me.0.passes c.args.node → InnerIsTold k c.read-found.new.seat.me.0.passes (llx_at c.args.node (Marked)) c.read-found.result
told_found g c k x = c.read-found.ensures.told k (llx_at c.args.node (Marked)) x

told_named : (g : Over) (c : After-read-named g) (k : Looker g.T.Shape.allows (calls g.S.Shape g.M.Machine g.M.CallMachine.left_dealt (names c.args.hand) c.args.hand.number)) → LoadsMark k c.args.seat.now.me.0.passes c.args.node → InnerIsTold k c.read-named.new.seat.me.0.passes (llx_at c.args.node (Info (not (eqb c.read-found.result 0)))) c.read-named.result
told_named g c k x = c.read-named.ensures.told k (llx_at c.args.node (Info (not (eqb c.read-found.result 0)))) (to_info k _ c.args.node c.read-found.result (not (eqb c.read-found.result 0)) (not_zero c.read-found.result) (is_zero c.read-found.result) (told_found g (goal.at.read-named-requires-clause-waits g c.before).After-read-found k x))

told_state : (g : Over) (c : After-read-state g) (k : Looker g.T.Shape.allows (calls g.S.Shape g.M.Machine g.M.CallMachine.left_dealt (names c.args.hand) c.args.hand.number)) → LoadsMark k c.args.seat.now.me.0.passes c.args.node → InnerIsTold k c.read-state.new.seat.me.0.passes (llx_at c.args.node (State (not (eqb c.read-found.result 0)) record { 0 = c.read-named.result })) c.read-state.result
told_state g c k x = c.read-state.ensures.told k (llx_at c.args.node (State (not (eqb c.read-found.result 0)) record { 0 = c.read-named.result })) (to_state k _ c.args.node (not (eqb c.read-found.result 0)) c.read-named.result (told_named g (goal.at.read-state-requires-clause-waits g c.before).After-read-named k x))

told_again : (g : Over) (c : After-read-again g) (k : Looker g.T.Shape.allows (calls g.S.Shape g.M.Machine g.M.CallMachine.left_dealt (names c.args.hand) c.args.hand.number)) → LoadsMark k c.args.seat.now.me.0.passes c.args.node → InnerIsTold k c.read-again.new.seat.me.0.passes (llx_at c.args.node (MarkedAgain (not (eqb c.read-found.result 0)) record { 0 = c.read-named.result } c.read-state.result)) c.read-again.result
told_again g c k x = c.read-again.ensures.told k (llx_at c.args.node (MarkedAgain (not (eqb c.read-found.result 0)) record { 0 = c.read-named.result } c.read-state.result)) (to_mark_again k _ c.args.node (not (eqb c.read-found.result 0)) record { 0 = c.read-named.result } c.read-state.result (told_state g (goal.at.read-again-requires-clause-waits g c.before).After-read-state k x))

told_left : (g : Over) (c : After-read-left g) (k : Looker g.T.Shape.allows (calls g.S.Shape g.M.Machine g.M.CallMachine.left_dealt (names c.args.hand) c.args.hand.number)) → LoadsMark k c.args.seat.now.me.0.passes c.args.node → InnerIsTold k c.read-left.new.seat.me.0.passes (llx_at c.args.node (Left (not (eqb c.read-found.result 0)) record { 0 = c.read-named.result })) c.read-left.result
told_left g c k x = c.read-left.ensures.told k (llx_at c.args.node (Left (not (eqb c.read-found.result 0)) record { 0 = c.read-named.result })) (to_left k _ c.args.node (not (eqb c.read-found.result 0)) record { 0 = c.read-named.result } c.read-state.result c.read-again.result _ (is_zero c.read-again.result) (not_zero c.read-again.result) (c.leaves.ensures.in_place c.if-not-leaves.false) (told_again g (goal.at.read-left-requires-clause-waits g c.before).After-read-again k x))

told_right : (g : Over) (c : After-read-right g) (k : Looker g.T.Shape.allows (calls g.S.Shape g.M.Machine g.M.CallMachine.left_dealt (names c.args.hand) c.args.hand.number)) → LoadsMark k c.args.seat.now.me.0.passes c.args.node → InnerIsTold k c.read-right.new.seat.me.0.passes (llx_at c.args.node (Right (not (eqb c.read-found.result 0)) record { 0 = c.read-named.result } c.read-left.result)) c.read-right.result
told_right g c k x = c.read-right.ensures.told k (llx_at c.args.node (Right (not (eqb c.read-found.result 0)) record { 0 = c.read-named.result } c.read-left.result)) (to_right k _ c.args.node (not (eqb c.read-found.result 0)) record { 0 = c.read-named.result } c.read-left.result (told_left g (goal.at.read-right-requires-clause-waits g c.before).After-read-left k x))

told_last : (g : Over) (c : After-read-last g) (k : Looker g.T.Shape.allows (calls g.S.Shape g.M.Machine g.M.CallMachine.left_dealt (names c.args.hand) c.args.hand.number)) → LoadsMark k c.args.seat.now.me.0.passes c.args.node → InnerIsTold k c.read-last.new.seat.me.0.passes (llx_at c.args.node (InfoAgain (not (eqb c.read-found.result 0)) record { 0 = c.read-named.result } c.read-left.result c.read-right.result)) c.read-last.result
told_last g c k x = c.read-last.ensures.told k (llx_at c.args.node (InfoAgain (not (eqb c.read-found.result 0)) record { 0 = c.read-named.result } c.read-left.result c.read-right.result)) (to_info_again k _ c.args.node (not (eqb c.read-found.result 0)) record { 0 = c.read-named.result } c.read-left.result c.read-right.result (told_right g (goal.at.read-last-requires-clause-waits g c.before).After-read-right k x))

pub read-found-requires-clause-waits : goal.read-found-requires-clause-waits
read-found-requires-clause-waits g c = let r = c.requires.waits in (r.0, llx_at c.args.node (Marked), r.1)

pub read-named-requires-clause-waits : goal.read-named-requires-clause-waits
read-named-requires-clause-waits g c = let r = c.requires.waits in let k = r.0 in (k, llx_at c.args.node (Info (not (eqb c.read-found.result 0))), to_info k _ c.args.node c.read-found.result (not (eqb c.read-found.result 0)) (not_zero c.read-found.result) (is_zero c.read-found.result) (told_found g (goal.at.read-named-requires-clause-waits g c).After-read-found k r.1))

pub read-state-requires-clause-waits : goal.read-state-requires-clause-waits
read-state-requires-clause-waits g c = let r = c.requires.waits in let k = r.0 in (k, llx_at c.args.node (State (not (eqb c.read-found.result 0)) record { 0 = c.read-named.result }), to_state k _ c.args.node (not (eqb c.read-found.result 0)) c.read-named.result (told_named g (goal.at.read-state-requires-clause-waits g c).After-read-named k r.1))

pub read-again-requires-clause-waits : goal.read-again-requires-clause-waits
read-again-requires-clause-waits g c = let r = c.requires.waits in let k = r.0 in (k, llx_at c.args.node (MarkedAgain (not (eqb c.read-found.result 0)) record { 0 = c.read-named.result } c.read-state.result), to_mark_again k _ c.args.node (not (eqb c.read-found.result 0)) record { 0 = c.read-named.result } c.read-state.result (told_state g (goal.at.read-again-requires-clause-waits g c).After-read-state k r.1))

pub read-left-requires-clause-waits : goal.read-left-requires-clause-waits
read-left-requires-clause-waits g c = let r = c.requires.waits in let k = r.0 in (k, llx_at c.args.node (Left (not (eqb c.read-found.result 0)) record { 0 = c.read-named.result }), to_left k _ c.args.node (not (eqb c.read-found.result 0)) record { 0 = c.read-named.result } c.read-state.result c.read-again.result _ (is_zero c.read-again.result) (not_zero c.read-again.result) (c.leaves.ensures.in_place c.if-not-leaves.false) (told_again g (goal.at.read-left-requires-clause-waits g c).After-read-again k r.1))

pub read-right-requires-clause-waits : goal.read-right-requires-clause-waits
read-right-requires-clause-waits g c = let r = c.requires.waits in let k = r.0 in (k, llx_at c.args.node (Right (not (eqb c.read-found.result 0)) record { 0 = c.read-named.result } c.read-left.result), to_right k _ c.args.node (not (eqb c.read-found.result 0)) record { 0 = c.read-named.result } c.read-left.result (told_left g (goal.at.read-right-requires-clause-waits g c).After-read-left k r.1))

pub read-last-requires-clause-waits : goal.read-last-requires-clause-waits
read-last-requires-clause-waits g c = let r = c.requires.waits in let k = r.0 in (k, llx_at c.args.node (InfoAgain (not (eqb c.read-found.result 0)) record { 0 = c.read-named.result } c.read-left.result c.read-right.result), to_info_again k _ c.args.node (not (eqb c.read-found.result 0)) record { 0 = c.read-named.result } c.read-left.result c.read-right.result (told_right g (goal.at.read-last-requires-clause-waits g c).After-read-right k r.1))

pub returns-then-not-leaves-clause-waits : goal.returns-then-not-leaves-clause-waits
returns-then-not-leaves-clause-waits g c = λ k x. let disturbs = c.leaves.ensures.disturbs c.if-not-leaves.true in
    declines k _ c.args.node (not (eqb c.read-found.result 0)) record { 0 = c.read-named.result } c.read-state.result c.read-again.result _ (is_zero c.read-again.result) (not_zero c.read-again.result) disturbs.0 disturbs.1 (told_again g (goal.at.returns-then-not-leaves-clause-waits g c).After-read-again k x)

pub returns-then-last-scx-clause-waits : goal.returns-then-last-scx-clause-waits
returns-then-last-scx-clause-waits g c = λ k x. differs k _ c.args.node (not (eqb c.read-found.result 0)) record { 0 = c.read-named.result } _ _ c.read-last.result c.if-last-scx.true (told_last g (goal.at.returns-then-last-scx-clause-waits g c).After-read-last k x)

pub returns-clause-snaps : goal.returns-clause-snaps
returns-clause-snaps g c = λ k x. snaps k _ c.args.node (not (eqb c.read-found.result 0)) record { 0 = c.read-named.result } _ _ c.read-last.result c.if-last-scx.false (told_last g (goal.at.returns-clause-snaps g c).After-read-last k x)
