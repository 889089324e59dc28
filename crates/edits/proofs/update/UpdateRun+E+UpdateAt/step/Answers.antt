use Rattle.std.proofs.Common.{◌≡◌, sym, ◌∙◌, inl}
use Rattle.edits.specs.declared.update.UpdateAt.TheVariants.{Start, Walk, Guard, Look, Read, Fill, Scx}
use Rattle.edits.proofs.Stepping.{at_start, at_walk, at_guard, at_look, at_read, at_fill, at_scx}
use Rattle.edits.proofs.update.UpdateRun+E+UpdateAt.step.Goals as goal

pub returns-in-Start-clause-turn : goal.returns-in-Start-clause-turn
returns-in-Start-clause-turn g c d h run r = let t = at_start g.E.Edit.means c.args.self.now d h c.args.got c.in-Start.is r in
    c.begin_walk.ensures.turn d h run t.0 t.1 (inl t.2)

pub returns-in-Walk-clause-turn : goal.returns-in-Walk-clause-turn
returns-in-Walk-clause-turn g c d h run r =
    let t = at_walk g.E.Edit.means c.args.self.now d h c.args.got c.in-Walk.walk c.in-Walk.is r in
    c.walked.ensures.turn d t.0 h t.4 t.5 run t.1 t.2 t.3 t.6 t.7

pub returns-in-Guard-clause-turn : goal.returns-in-Guard-clause-turn
returns-in-Guard-clause-turn g c d h run r =
    let t = at_guard g.E.Edit.means c.args.self.now d h c.args.got c.in-Guard.walk c.in-Guard.head c.in-Guard.llx c.in-Guard.is r in
    c.guard_on.ensures.turn d t.0 t.3 h run t.1 t.2 t.4 t.5 t.6

pub returns-in-Look-clause-turn : goal.returns-in-Look-clause-turn
returns-in-Look-clause-turn g c d h run r =
    let t = at_look g.E.Edit.means c.args.self.now d h c.args.got c.in-Look.found c.in-Look.llx c.in-Look.is r in
    c.look_on.ensures.turn d t.0 t.2 h run t.1 t.3 t.4

pub returns-in-Read-clause-turn : goal.returns-in-Read-clause-turn
returns-in-Read-clause-turn g c d h run r =
    let t = at_read g.E.Edit.means c.args.self.now d h c.args.got c.in-Read.found c.in-Read.node c.in-Read.part c.in-Read.is r in
    c.go_on.ensures.turn d h run (c.read_on-next.ensures.turn d t.0 h run t.1 t.2 (t.3 ∙ sym c.unwrap_or.ensures))

pub returns-in-Fill-clause-turn : goal.returns-in-Fill-clause-turn
returns-in-Fill-clause-turn g c d h run r =
    let t = at_fill g.E.Edit.means c.args.self.now d h c.args.got c.in-Fill.found c.in-Fill.nth c.in-Fill.part c.in-Fill.is r in
    c.fill_on.ensures.turn d t.0 h run t.1 t.2

pub returns-in-Scx-clause-turn : goal.returns-in-Scx-clause-turn
returns-in-Scx-clause-turn g c d h run r =
    let t = at_scx g.E.Edit.means c.args.self.now d h c.args.got c.in-Scx.found c.in-Scx.scx c.in-Scx.is r in
    c.scx_on.ensures.turn d t.0 t.2 h run t.1 t.3 t.4

pub returns-in-Start-clause-begins : goal.returns-in-Start-clause-begins
returns-in-Start-clause-begins g c none d h r = c.begin_walk.ensures.begins

pub returns-in-Walk-clause-begins : goal.returns-in-Walk-clause-begins
returns-in-Walk-clause-begins g c none d h r = absurd (let z : Walk c.in-Walk.walk ≡ Start = sym c.in-Walk.is ∙ r.3 in cc)

pub returns-in-Guard-clause-begins : goal.returns-in-Guard-clause-begins
returns-in-Guard-clause-begins g c none d h r = absurd (let z : Guard c.in-Guard.walk c.in-Guard.head c.in-Guard.llx ≡ Start = sym c.in-Guard.is ∙ r.3 in cc)

pub returns-in-Look-clause-begins : goal.returns-in-Look-clause-begins
returns-in-Look-clause-begins g c none d h r = absurd (let z : Look c.in-Look.found c.in-Look.llx ≡ Start = sym c.in-Look.is ∙ r.3 in cc)

pub returns-in-Read-clause-begins : goal.returns-in-Read-clause-begins
returns-in-Read-clause-begins g c none d h r = absurd (let z : Read c.in-Read.found c.in-Read.node c.in-Read.part ≡ Start = sym c.in-Read.is ∙ r.3 in cc)

pub returns-in-Fill-clause-begins : goal.returns-in-Fill-clause-begins
returns-in-Fill-clause-begins g c none d h r = absurd (let z : Fill c.in-Fill.found c.in-Fill.nth c.in-Fill.part ≡ Start = sym c.in-Fill.is ∙ r.3 in cc)

pub returns-in-Scx-clause-begins : goal.returns-in-Scx-clause-begins
returns-in-Scx-clause-begins g c none d h r = absurd (let z : Scx c.in-Scx.found c.in-Scx.scx ≡ Start = sym c.in-Scx.is ∙ r.3 in cc)

pub returns-in-Fill-clause-spends : goal.returns-in-Fill-clause-spends
returns-in-Fill-clause-spends g c left = rw c.in-Fill.is (c.fill_on.ensures.spends (rw c.in-Fill.is at left))
