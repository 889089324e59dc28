use Rattle.std.proofs.Common.{sym, ◌∙◌, ap, arith}
use Rattle.prims.specs.declared.snap.Snap.{Snap}
use Rattle.prims.specs.Vlx.Laws.{VlxTurn, told_some, told_none, turn_first, first_asks, turn_on, turn_changed}
use Rattle.prims.proofs.vlx.VlxRunMachine.next.Goals.{in_default-via-in-Some+in_default, in_default-via-in_default}
use Rattle.prims.proofs.vlx.VlxRunMachine.next.Goals as goal

pub returns-in_default-clause-turn : goal.returns-in_default-clause-turn
returns-in_default-clause-turn g c d h run r =
    let snaps = g.L.SnapList.list c.args.self.now.snaps in
    rw c.ask_next.ensures.same (elim c.in_default.branch as (λ _. VlxTurn snaps c.ask_next.new.self.asked d h c.ask_next.result) [
      | in_default-via-in-Some+in_default w ↦ absurd (w.in_default.ensures (let x = told_some d h snaps c.args.self.now.asked c.args.got w.in_default.field-0-0 w.in_default.is-0 r in let y = x.looks.is in omega arith))
      | in_default-via-in_default w ↦ turn_first d h snaps c.args.self.now.asked c.ask_next.new.self.asked c.ask_next.result run.lawful (told_none d h snaps c.args.self.now.asked c.args.got w.in_default.is-0 r) c.ask_next.ensures.turn
    ])

pub returns-then-snap-found-clause-turn : goal.returns-then-snap-found-clause-turn
returns-then-snap-found-clause-turn g c d h run r =
    let snaps = g.L.SnapList.list c.args.self.now.snaps in
    let x = told_some d h snaps c.args.self.now.asked c.args.got c.in-Some-Some.found c.in-Some-Some.is-0 r in
    let z = c.in-Some-Some.ensures in
    rw c.ask_next-then-snap-found.ensures.same (turn_on d h snaps c.args.self.now.asked c.ask_next-then-snap-found.new.self.asked c.ask_next-then-snap-found.result c.in-Some-Some.last c.in-Some-Some.found run.lawful x (let y = x.looks.is in omega arith)
    (ap (λ (s : Snap). s.scx.0) (sym c.get-snap.ensures) ∙ c.if-snap-found.true) c.ask_next-then-snap-found.ensures.turn)

pub returns-in_default-clause-begins : goal.returns-in_default-clause-begins
returns-in_default-clause-begins g c none first d h r = first_asks d h (g.L.SnapList.list c.args.self.now.snaps) c.args.self.now.asked c.ask_next.new.self.asked c.ask_next.result r c.ask_next.ensures.turn

pub returns-clause-turn : goal.returns-clause-turn
returns-clause-turn g c d h run r =
    let snaps = g.L.SnapList.list c.args.self.now.snaps in
    let x = told_some d h snaps c.args.self.now.asked c.args.got c.in-Some-Some.found c.in-Some-Some.is-0 r in
    let z = c.in-Some-Some.ensures in
    turn_changed d h snaps c.args.self.now.asked c.in-Some-Some.last c.in-Some-Some.found c.get-snap.result run.lawful x (let y = x.looks.is in omega arith) c.get-snap.ensures c.if-snap-found.false
