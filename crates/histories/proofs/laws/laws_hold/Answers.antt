use Rattle.histories.proofs.Moments.{lawful_since}
use Rattle.histories.proofs.Fields.{fields_are}
use Rattle.histories.proofs.Entries.{once, won_entered}
use Rattle.histories.proofs.Helping.{aborted_no_entry, committed_won}
use Rattle.histories.proofs.Finals.{final_unchanged_since, finalized_since}
use Rattle.histories.proofs.laws.laws_hold.Goals as goal

pub returns-clause-once : goal.returns-clause-once
returns-clause-once c = once

pub returns-clause-fields : goal.returns-clause-fields
returns-clause-fields c lay h l moment n side e = fields_are lay moment n side (lawful_since lay h moment l e)

pub returns-clause-final_from_entry : goal.returns-clause-final_from_entry
returns-clause-final_from_entry c lay h l moment n part e x = final_unchanged_since lay h moment n part l e x

pub returns-clause-final_from_commit : goal.returns-clause-final_from_commit
returns-clause-final_from_commit c lay h l moment n part e x = finalized_since lay h moment n part l e x

pub returns-clause-aborted : goal.returns-clause-aborted
returns-clause-aborted c lay h s l a later lawful e = aborted_no_entry lay later h s lawful e a

pub returns-clause-committed : goal.returns-clause-committed
returns-clause-committed c lay h s l e = won_entered lay h s l (committed_won lay h s l e)
