-- What was written of a report is a beginning of it.
use Rattle.std.proofs.Common.{◌≡◌, ◌⊎◌, inl, inr, ℕ, List, [], ◌∷◌, Option, refl, reverse, sym}
use Rattle.texts.specs.Pages.{BeginsWith}
use Rattle.record.specs.Common.{Call, Script}
use Rattle.script.specs.declared.schedule.Order.{Order}
use Rattle.record.specs.declared.record.Line.{Line}
use Rattle.record.specs.OneClient.{AreMadeWhile}
use Rattle.record.specs.Schedules.{AreOrdered}
use Rattle.player.specs.Followed.{AreFollowedSoFar}
use Rattle.player.specs.Player.{PlayerView, script_view}
use Rattle.report.specs.Report.{report_text}
use Rattle.report.specs.Streams.{text_so_far}
use Rattle.report.proofs.Lemmas.{part_of_first, text_whole}

-- before the first turn
pub none_followed : (calls : List Call) (orders : List Order) → AreFollowedSoFar calls orders [] []
unfolding AreMadeWhile
none_followed calls [] = refl
none_followed calls (order ∷ orders) = inl record { behind = []; lines = refl; each = tt }

-- after the last one
pub all_followed : (calls : List Call) (orders : List Order) (older newer : List Line) → AreOrdered calls orders older newer → AreFollowedSoFar calls orders older newer
all_followed calls [] older newer x = x
all_followed calls (order ∷ orders) older newer x = inr (x.0, x.1, all_followed calls orders x.0 newer x.2)

-- a beginning of the rows so far is one of the report
pub report_begins : (old new : Option (List ℕ)) (script : Script) (p : PlayerView) → p.script ≡ script_view script → BeginsWith old new (text_so_far p) → BeginsWith old new (report_text script (reverse p.lines))
report_begins old new script p same x = part_of_first _ _ _ (text_whole p script (sym same)) old new x

-- as a stream stops: after all its turns, or in one turn more
pub stopped_begins : (P : Type 0) (old new : Option (List ℕ)) (script : Script) (p : PlayerView) → p.script ≡ script_view script → BeginsWith old new (text_so_far p) ⊎ P → BeginsWith old new (report_text script (reverse p.lines)) ⊎ P
stopped_begins P old new script p same (inl x) = inl (report_begins old new script p same x)
stopped_begins P old new script p same (inr x) = inr x
