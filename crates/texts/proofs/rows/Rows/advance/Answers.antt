use Rattle.std.proofs.Common.{◌∙◌, refl, sym}
use Rattle.csv.specs.Records.{fields_of}
use Rattle.texts.specs.declared.rows.Rows.{Rows}
use Rattle.texts.proofs.HaveRead.{begins, no_row, not_stopped, read_all, read_more}
use Rattle.texts.proofs.rows.Rows.advance.Goals as goal
use Rattle.texts.proofs.rows.Rows.advance.Goals.{in-Io, in-OutOfMemory, in_default}

pub returns-in-Ok-true-clause-row : goal.returns-in-Ok-true-clause-row
returns-in-Ok-true-clause-row g c bytes so_far h =
    let k = c.in-Ok-true.ensures in
    let after : Rows g.row.R.Denot = record { reader = c.read_record.new.self; row = c.read_record.new.row; number = c.saturating_add-self.result } in
    ((sym c.len.ensures ∙ c.if-len-width.true, k.text h.plain.trim), read_more _ bytes so_far c.args.self.now after c.in-Ok-true.field-0 _ c.in-Ok-true.field-0-test h (k.reads h.plain.trim h.plain.ready) (k.ready h.plain.trim) k.flexible)

pub returns-in-Ok-true-2-clause-fault : goal.returns-in-Ok-true-2-clause-fault
returns-in-Ok-true-2-clause-fault g c bytes so_far h =
    let k = c.in-Ok-true.ensures in
    let after : Rows g.row.R.Denot = record { reader = c.read_record.new.self; row = c.read_record.new.row; number = c.saturating_add-self.result } in
    let next = read_more _ bytes so_far c.args.self.now after c.in-Ok-true.field-0 _ c.in-Ok-true.field-0-test h (k.reads h.plain.trim h.plain.ready) (k.ready h.plain.trim) k.flexible in
    rw c.fault.ensures (refl, c.FIELDS.ensures, fields_of c.read_record.new.row, begins _ bytes _ after next, λ row. c.if-len-width.false (c.len.ensures ∙ row.0))

pub returns-in-Ok-false-clause-row : goal.returns-in-Ok-false-clause-row
returns-in-Ok-false-clause-row g c bytes so_far h =
    let after : Rows g.row.R.Denot = record { reader = c.read_record.new.self; row = c.read_record.new.row; number = c.saturating_add-self.result } in
    read_all _ bytes so_far c.args.self.now after c.in-Ok-false.field-0 _ c.in-Ok-false.field-0-test h (c.in-Ok-false.ensures.reads h.plain.trim h.plain.ready)

pub returns-after-kind-clause-fault : goal.returns-after-kind-clause-fault
returns-after-kind-clause-fault g c bytes so_far h = elim c.match-kind.branch [
  | in-Io w ↦ rw w.result-is tt
  | in-OutOfMemory w ↦ rw w.result-is tt
  | in_default w ↦
      let after : Rows g.row.R.Denot = record { reader = c.read_record.new.self; row = c.read_record.new.row; number = c.saturating_add-self.result } in
      let on = rw c.kind.ensures at (not_stopped c.kind.result.now w.in_default.not-Io w.in_default.not-OutOfMemory) in
      let why = no_row _ bytes so_far c.args.self.now after c.args.width _ h (c.in-Err.ensures.why h.plain.trim h.plain.ready) on in
      rw (w.result-is, w.fault-in_default.ensures) (refl, w.FIELDS-in_default.ensures, why.0, why.1, why.2)
]
