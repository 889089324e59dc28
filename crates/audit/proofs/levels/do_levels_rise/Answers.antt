use Rattle.std.proofs.Common.{◌≡◌, sym}
use Rattle.histories.specs.Common.{Settled, Child, Info, Marked, Head}
use Rattle.judge.specs.Histories.{seen_history}
use Rattle.audit.proofs.RisingLevels.{rising_quiet, rising_field, of_part, of_settled, of_scx}
use Rattle.audit.proofs.levels.do_levels_rise.Goals as goal

pub returns-then-row : goal.returns-then-row
returns-then-row c = λ yes x. rising_quiet c.args.row.now (seen_history c.args.judge.now) c.requires (sym c.if-row.true) x

pub returns-in-Node-default-Child : goal.returns-in-Node-default-Child
returns-in-Node-default-Child c = λ yes x.
    let field : c.in-Node-default-Child.field-1 ≡ Child c.in-Node-default-Child.field-1-0 = rw c.in-Node-default-Child.is at c.in-Node-default-Child.field-1-is in
    rising_field c.args.row.now (seen_history c.args.judge.now) c.in-Node-default-Child.node.0 c.in-Node-default-Child.field-1-0 (rw field at c.in-Node-default-Child.is) (c.may_hold.ensures.apart yes) (c.may_hold.ensures.over yes) (c.may_hold.ensures.below yes) x

pub returns-in-Node-default-Settled : goal.returns-in-Node-default-Settled
returns-in-Node-default-Settled c = λ yes x.
    let part : c.in-Node-default-Settled.field-1 ≡ Settled c.in-Node-default-Settled.part = rw c.in-Node-default-Settled.is at c.in-Node-default-Settled.field-1-is in
    let word = rw part at c.in-Node-default-Settled.is in
    of_settled c.args.row.now (seen_history c.args.judge.now) _ _ word (rw word at c.may_fill.ensures yes) x

pub returns-in-Node-default-Info : goal.returns-in-Node-default-Info
returns-in-Node-default-Info c = λ yes x.
    let part : c.in-Node-default-Info.field-1 ≡ Info = rw c.in-Node-default-Info.is at c.in-Node-default-Info.field-1-is in
    of_part c.args.row.now (seen_history c.args.judge.now) _ Info (rw part at c.in-Node-default-Info.is) (λ e. absurd (let z : Settled Head ≡ Info = sym e in cc)) (λ side e. absurd (let z : Child side ≡ Info = sym e in cc)) x

pub returns-in-Node-default-Marked : goal.returns-in-Node-default-Marked
returns-in-Node-default-Marked c = λ yes x.
    let part : c.in-Node-default-Marked.field-1 ≡ Marked = rw c.in-Node-default-Marked.is at c.in-Node-default-Marked.field-1-is in
    of_part c.args.row.now (seen_history c.args.judge.now) _ Marked (rw part at c.in-Node-default-Marked.is) (λ e. absurd (let z : Settled Head ≡ Marked = sym e in cc)) (λ side e. absurd (let z : Child side ≡ Marked = sym e in cc)) x

pub returns-in-Scx : goal.returns-in-Scx
returns-in-Scx c = λ yes x. of_scx c.args.row.now (seen_history c.args.judge.now) _ _ c.in-Scx.is x
