use Rattle.resting.proofs.Periods.{note_anew, note_free, note_once, note_out, note_since, period_over}
use Rattle.resting.proofs.laws.notes_hold.Goals as goal

pub returns-clause-period : goal.returns-clause-period
returns-clause-period g = period_over

pub returns-clause-rows : goal.returns-clause-rows
returns-clause-rows g = note_since

pub returns-clause-rests : goal.returns-clause-rests
returns-clause-rests g = note_anew

pub returns-clause-first : goal.returns-clause-first
returns-clause-first g = note_once

pub returns-clause-second : goal.returns-clause-second
returns-clause-second g = note_free

pub returns-clause-out : goal.returns-clause-out
returns-clause-out g = note_out
