use Rattle.std.proofs.Common.{◌≢◌, ◌∙◌, inl, inr, refl, sym, arith}
use Rattle.template.specs.Common.{asked_key}
use Rattle.template.specs.Walk.Places.{way_at}
use Rattle.template.specs.declared.walk.WalkAt.TheVariants.{More, Pair}
use Rattle.order.specs.declared.last_turns.LastTurns.{LastTurns}
use Rattle.straight.specs.CallKinds.{calls}
use Rattle.straight.specs.StraightWalk.{Walker, WalkerIsTold}
use Rattle.straight.specs.Hands.{names}
use Rattle.straight.proofs.StraightWalk.{to_first, to_next, finds_other, next_slot, few_slots}
use Rattle.straight.proofs.walk.end_from.Given.{Over}
use Rattle.straight.proofs.walk.end_from.Goals.{After-read-key, Else-asked-key}
use Rattle.straight.proofs.walk.end_from.Goals as goal

-- whichever call it is, it has got the key in this slot
told : (g : Over) (c : After-read-key g) (w : Walker (calls g.S.Shape g.M.Machine g.M.CallMachine.left_dealt (names c.args.hand) c.args.hand.number)) (turn : LastTurns)
    → WalkerIsTold w c.args.seat.now.me.0.passes (way_at c.args.way c.args.goal c.args.trail (More c.args.head)) turn c.args.more
    → WalkerIsTold w c.read-key.new.seat.me.0.passes (way_at c.args.way c.args.goal c.args.trail (Pair c.args.head c.args.more c.loop-hand.slot)) turn c.read-key.result
told g c w turn x = c.read-key.ensures.told w (way_at c.args.way c.args.goal c.args.trail (Pair c.args.head c.args.more c.loop-hand.slot)) turn (c.loop-hand.invariant.waits w turn x)

-- it is not the one whose value it answers
other : (g : Over) (c : Else-asked-key g) → asked_key c.args.goal c.read-key.result ≢ c.read-key.result
other g c = λ z. c.if-asked-key.false (c.asked_key-asked.ensures ∙ z)

pub loop-hand-init : goal.loop-hand-init
loop-hand-init g c = record { here = (refl, refl, refl); steps = omega arith; waits = λ w turn x. rw c.requires.first (to_first w _ c.args.way c.args.goal c.args.trail turn c.args.head c.args.more x) }

pub read-key-requires-clause-waits : goal.read-key-requires-clause-waits
read-key-requires-clause-waits g c = let r = c.requires.told in (r.0, way_at c.args.way c.args.goal c.args.trail (Pair c.args.head c.args.more c.loop-hand.slot), r.1, c.loop-hand.invariant.waits r.0 r.1 r.2)

pub end_with-requires-clause-asked : goal.end_with-requires-clause-asked
end_with-requires-clause-asked g c = sym c.asked_key-asked.ensures ∙ c.if-asked-key.true

pub end_with-requires-clause-told : goal.end_with-requires-clause-told
end_with-requires-clause-told g c = let r = c.requires.told in (r.0, r.1, told g (goal.at.end_with-requires-clause-told g c).After-read-key r.0 r.1 r.2)

pub returns-then-asked-key-clause-finds : goal.returns-then-asked-key-clause-finds
returns-then-asked-key-clause-finds g c = λ w turn x. c.end_with.ensures.finds w turn (told g (goal.at.returns-then-asked-key-clause-finds g c).After-read-key w turn x)

pub returns-then-asked-key-clause-steps : goal.returns-then-asked-key-clause-steps
returns-then-asked-key-clause-steps g c = let one = c.read-key.ensures.one in let two = c.end_with.ensures.steps in let old = c.loop-hand.invariant.steps in let few = few_slots c.loop-hand.slot in omega (arith, one, two, old, few)

pub loop-hand-preserved : goal.loop-hand-preserved
loop-hand-preserved g c = record {
  here = (c.read-key.ensures.table.0 ∙ c.loop-hand.invariant.here.0, c.read-key.ensures.table.1 ∙ c.loop-hand.invariant.here.1, c.read-key.ensures.table.2 ∙ c.loop-hand.invariant.here.2);
  steps = (let one = c.read-key.ensures.one in let old = c.loop-hand.invariant.steps in let next = next_slot c.args.more c.loop-hand.slot c.in-Some.next (sym c.slot_behind.ensures ∙ c.in-Some.is) in omega (arith, one, old, next));
  waits = λ w turn x. to_next w _ c.args.way c.args.goal c.args.trail turn c.args.head c.args.more c.loop-hand.slot c.read-key.result (other g (goal.at.loop-hand-preserved g c).Else-asked-key) c.in-Some.next (sym c.slot_behind.ensures ∙ c.in-Some.is) (told g (goal.at.loop-hand-preserved g c).After-read-key w turn x);
}

pub loop-hand-smaller : goal.loop-hand-smaller
loop-hand-smaller g c = let next = next_slot c.args.more c.loop-hand.slot c.in-Some.next (sym c.slot_behind.ensures ∙ c.in-Some.is) in let few = few_slots c.in-Some.next in omega (arith, next, few)

pub returns-in_default-clause-finds : goal.returns-in_default-clause-finds
returns-in_default-clause-finds g c = λ w turn x.
    let not = other g (goal.at.returns-in_default-clause-finds g c).Else-asked-key in
    rw c.asked_key-asked.ensures (finds_other w _ c.args.way c.args.goal c.args.trail turn c.args.head c.args.more c.loop-hand.slot c.read-key.result not (inr (omega (arith, not, c.asked_key-asked.ensures, c.if-key-asked.false))) (told g (goal.at.returns-in_default-clause-finds g c).After-read-key w turn x))

pub returns-in_default-clause-steps : goal.returns-in_default-clause-steps
returns-in_default-clause-steps g c = let one = c.read-key.ensures.one in let old = c.loop-hand.invariant.steps in let few = few_slots c.loop-hand.slot in omega (arith, one, old, few)

pub returns-in_default-2-clause-finds : goal.returns-in_default-2-clause-finds
returns-in_default-2-clause-finds g c = λ w turn x. rw c.asked_key-asked.ensures
    (finds_other w _ c.args.way c.args.goal c.args.trail turn c.args.head c.args.more c.loop-hand.slot c.read-key.result (other g (goal.at.returns-in_default-2-clause-finds g c).Else-asked-key) (inl (sym c.slot_behind.ensures ∙ c.in_default.is)) (told g (goal.at.returns-in_default-2-clause-finds g c).After-read-key w turn x))

pub returns-in_default-2-clause-steps : goal.returns-in_default-2-clause-steps
returns-in_default-2-clause-steps g c = let one = c.read-key.ensures.one in let old = c.loop-hand.invariant.steps in let few = few_slots c.loop-hand.slot in omega (arith, one, old, few)
