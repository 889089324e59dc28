use Rattle.texts.specs.Reads.{last_row}
use Rattle.report.proofs.Reading.{seven_fields}
use Rattle.report.proofs.rows.row_fields.Goals as goal

pub returns : goal.returns
returns g c = λ wide.
    rw (c.field.ensures, c.field-2.ensures, c.field-3.ensures, c.field-4.ensures, c.field-5.ensures, c.field-6.ensures, c.field-7.ensures, c.row-row.ensures) (seven_fields (last_row c.args.rows.now) wide)
