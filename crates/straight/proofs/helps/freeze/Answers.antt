use Rattle.std.proofs.Common.{◌≡◌, ℕ, ap, arith, rules, subst, get_or-set_same, slice_set}
use Rattle.histories.specs.Common.{NodeNo, member_index, info, Exchange, Freeze}
use Rattle.help.specs.Help.Known.{node_at}
use Rattle.help.specs.declared.state.HelpAt.TheVariants.{Member as AtMember, Seen as AtSeen, Freeze as AtFreeze}
use Rattle.help.specs.declared.state.HelpRun.{HelpRun}
use Rattle.straight.specs.StraightHelp.{Helper, LoadsMember}
use Rattle.straight.specs.CallKinds.{calls}
use Rattle.straight.specs.Inside.{InnerIsTold, InnerWaits}
use Rattle.straight.specs.Hands.{names}
use Rattle.straight.proofs.StraightHelp.{to_seen, to_freeze, to_next, to_set_frozen, to_all_frozen}
use Rattle.straight.proofs.helps.freeze.Given.{Over}
use Rattle.straight.proofs.helps.freeze.Goals.{After-read-seen, After-act-found}
use Rattle.straight.proofs.helps.freeze.Goals as goal

-- the run with one node more
abbrev with_node : HelpRun → ℕ → ℕ → HelpRun
with_node run place node = record run { members = slice_set run.members place record { 0 = node } }

-- whichever call waited for the node, it goes from load to load, and to the exchange
at_freeze : (g : Over) (c : After-read-seen g) (k : Helper g.T.Shape.allows (calls g.S.Shape g.M.Machine g.M.CallMachine.left_dealt (names c.args.hand) c.args.hand.number)) → LoadsMember k c.args.seat.now.me.0.passes c.args.run.now c.args.j → let m = (with_node c.args.run.now (member_index c.args.j) c.read.result) in InnerWaits k c.read-seen.new.seat.me.0.passes (record m { at = AtFreeze c.args.j c.read-seen.result }) record { kind = Freeze; word = info c.read.result; access = Exchange c.read-seen.result m.scx.0 }
at_freeze g c k x = let m = (with_node c.args.run.now (member_index c.args.j) c.read.result) in
    let kept : node_at m.members (member_index c.args.j) ≡ c.read.result = ap (λ (n : NodeNo). n.0) (get_or-set_same c.args.run.now.members (member_index c.args.j) record { 0 = c.read.result } record { 0 = 0 } (let i = c.index.ensures.small in let e = c.index.ensures.value in omega arith)) in
    subst (λ (n : ℕ). InnerWaits k c.read-seen.new.seat.me.0.passes (record m { at = AtFreeze c.args.j c.read-seen.result }) record { kind = Freeze; word = info n; access = Exchange c.read-seen.result m.scx.0 }) kept (to_freeze k _ m c.args.j c.read-seen.result (c.read-seen.ensures.told k (record m { at = AtSeen c.args.j }) (rw c.number-number.ensures.value
    (to_seen k _ c.args.run.now c.args.j c.read.result (let i = c.index.ensures.small in let e = c.index.ensures.value in omega arith) (c.read.ensures.told k (record c.args.run.now { at = AtMember c.args.j }) (rw c.number-number.ensures.value x))))))

-- the exchange is made
found : (g : Over) (c : After-act-found g) (k : Helper g.T.Shape.allows (calls g.S.Shape g.M.Machine g.M.CallMachine.left_dealt (names c.args.hand) c.args.hand.number)) → LoadsMember k c.args.seat.now.me.0.passes c.args.run.now c.args.j → InnerIsTold k c.act-found.new.seat.me.0.passes (record (with_node c.args.run.now (member_index c.args.j) c.read.result) { at = AtFreeze c.args.j c.read-seen.result }) c.act-found.result
found g c k x = let m = (with_node c.args.run.now (member_index c.args.j) c.read.result) in
    c.act-found.ensures.told k (record m { at = AtFreeze c.args.j c.read-seen.result }) (at_freeze g (goal.at.act-found-requires-clause-waits g c.before).After-read-seen k x)

pub read-requires-clause-waits : goal.read-requires-clause-waits
read-requires-clause-waits g c = let r = c.requires.waits in (r.0, record c.args.run.now { at = AtMember c.args.j }, rw c.number-number.ensures.value r.1)

pub read-seen-requires-clause-waits : goal.read-seen-requires-clause-waits
read-seen-requires-clause-waits g c = let r = c.requires.waits in (
  r.0,
  record (with_node c.args.run.now (member_index c.args.j) c.read.result) { at = AtSeen c.args.j },
  rw c.number-number.ensures.value
      (to_seen r.0 _ c.args.run.now c.args.j c.read.result (let i = c.index.ensures.small in let e = c.index.ensures.value in omega arith) (c.read.ensures.told r.0 (record c.args.run.now { at = AtMember c.args.j }) (rw c.number-number.ensures.value r.1))),
)

pub act-found-requires-clause-waits : goal.act-found-requires-clause-waits
act-found-requires-clause-waits g c = let r = c.requires.waits in (r.0, record (with_node c.args.run.now (member_index c.args.j) c.read.result) { at = AtFreeze c.args.j c.read-seen.result }, at_freeze g (goal.at.act-found-requires-clause-waits g c).After-read-seen r.0 r.1)

pub returns-then-not-is_frozen-clause-leads : goal.returns-then-not-is_frozen-clause-leads
returns-then-not-is_frozen-clause-leads g c = record {
  table = search rules;
  to = λ k x. record {
    next = λ yes. cc;
    last = λ yes. cc;
    blocked = λ no.
        let other = c.is_frozen.ensures.other c.if-not-is_frozen.true in
        rw c.index.ensures.value (to_all_frozen k _ (with_node c.args.run.now (member_index c.args.j) c.read.result) c.args.j c.read-seen.result c.act-found.result other.0 other.1 (found g (goal.at.returns-then-not-is_frozen-clause-leads g c).After-act-found k x));
  };
  steps = (let a = c.read.ensures.one in let b = c.read-seen.ensures.one in let d = c.act-found.ensures.one in omega (arith, a, b, d));
}

pub returns-clause-leads : goal.returns-clause-leads
returns-clause-leads g c = let won = c.is_frozen.ensures.frozen c.if-not-is_frozen.false in record {
  table = search rules;
  to = λ k x. record {
    next = λ yes next is within. rw c.index.ensures.value (to_next k _ (with_node c.args.run.now (member_index c.args.j) c.read.result) c.args.j next c.read-seen.result c.act-found.result won (omega (arith, is)) within (found g (goal.at.returns-clause-leads g c).After-act-found k x));
    last = λ yes none. rw c.index.ensures.value (to_set_frozen k _ (with_node c.args.run.now (member_index c.args.j) c.read.result) c.args.j c.read-seen.result c.act-found.result won (λ y. none (y.0, let w = y.1 in omega (arith, w))) (found g (goal.at.returns-clause-leads g c).After-act-found k x));
    blocked = λ no. cc;
  };
  steps = (let a = c.read.ensures.one in let b = c.read-seen.ensures.one in let d = c.act-found.ensures.one in omega (arith, a, b, d));
}
