-- The fields of the row of a line.
use Rattle.std.proofs.Common.{◌≡◌, ◌≢◌, ◌<◌, ◌^◌, ◌∙◌, ℕ, List, [], ◌∷◌, ◌++◌, Bor, arith, ap, codes, decimal, get_or, length, sym}
use Rattle.arena.specs.declared.step.Kind.{Kind}
use Rattle.arena.specs.declared.step.Kind.TheVariants.{Fill, LoadSettled, LoadInfo, LoadState, LoadMarked, LoadAllFrozen, LoadChild, Freeze, SetFrozen, Mark, Update, Commit, Abort}
use Rattle.arena.specs.declared.step.Row.{Row as StepRow}
use Rattle.record.specs.declared.record.Entry.{Entry}
use Rattle.record.specs.declared.record.Finished.{Finished}
use Rattle.record.specs.declared.record.Line.{Line}
use Rattle.record.specs.declared.record.Line.TheVariants.{Step, Log, Reply}
use Rattle.record.specs.declared.record.TurnRow.{TurnRow}
use Rattle.record.specs.declared.record.TurnRow.TheVariants.{Step as Made, Idle}
use Rattle.record.specs.Common.{texts, kind_text}
use Rattle.report.specs.Answers.{answer_text}
use Rattle.report.specs.Report.{line_row, moment_text, seven}
use Rattle.report.specs.Spellings.{IsSpelledFinished, IsSpelledLine, IsSpelledTurn}
use Rattle.report.specs.declared.version.Version.{Version}
use Rattle.report.specs.Words.{word_text}
use Rattle.report.proofs.Fields.{AreFields, blank, fields_are}

-- no kind of step is called idle
kind_is_not_idle : (kind : Kind) → kind_text kind ≢ codes "idle"
kind_is_not_idle Fill is = omega (arith, ap (λ (t : List ℕ). get_or t 0 0) is, ap (λ (t : List ℕ). get_or t 1 0) is)
kind_is_not_idle LoadSettled is = omega (arith, ap (λ (t : List ℕ). get_or t 0 0) is, ap (λ (t : List ℕ). get_or t 1 0) is)
kind_is_not_idle LoadInfo is = omega (arith, ap (λ (t : List ℕ). get_or t 0 0) is, ap (λ (t : List ℕ). get_or t 1 0) is)
kind_is_not_idle LoadState is = omega (arith, ap (λ (t : List ℕ). get_or t 0 0) is, ap (λ (t : List ℕ). get_or t 1 0) is)
kind_is_not_idle LoadMarked is = omega (arith, ap (λ (t : List ℕ). get_or t 0 0) is, ap (λ (t : List ℕ). get_or t 1 0) is)
kind_is_not_idle LoadAllFrozen is = omega (arith, ap (λ (t : List ℕ). get_or t 0 0) is, ap (λ (t : List ℕ). get_or t 1 0) is)
kind_is_not_idle LoadChild is = omega (arith, ap (λ (t : List ℕ). get_or t 0 0) is, ap (λ (t : List ℕ). get_or t 1 0) is)
kind_is_not_idle Freeze is = omega (arith, ap (λ (t : List ℕ). get_or t 0 0) is, ap (λ (t : List ℕ). get_or t 1 0) is)
kind_is_not_idle SetFrozen is = omega (arith, ap (λ (t : List ℕ). get_or t 0 0) is, ap (λ (t : List ℕ). get_or t 1 0) is)
kind_is_not_idle Mark is = omega (arith, ap (λ (t : List ℕ). get_or t 0 0) is, ap (λ (t : List ℕ). get_or t 1 0) is)
kind_is_not_idle Update is = omega (arith, ap (λ (t : List ℕ). get_or t 0 0) is, ap (λ (t : List ℕ). get_or t 1 0) is)
kind_is_not_idle Commit is = omega (arith, ap (λ (t : List ℕ). get_or t 0 0) is, ap (λ (t : List ℕ). get_or t 1 0) is)
kind_is_not_idle Abort is = omega (arith, ap (λ (t : List ℕ). get_or t 0 0) is, ap (λ (t : List ℕ). get_or t 1 0) is)

module _ (fields : List (Bor (List ℕ))) (long : length fields ≡ 7) where
  pub made_are : (number : ℕ) (row : StepRow) → texts fields ≡ seven (line_row (Step (Made number row))) → AreFields fields (codes "step") (decimal number) (decimal row.pass.0) (kind_text row.kind) (word_text row.word) (decimal row.before) (decimal row.after)
  made_are number row is = fields_are fields (codes "step") (decimal number) (decimal row.pass.0) (kind_text row.kind) (word_text row.word) (decimal row.before) (decimal row.after) long is

  pub idle_are : (number client : ℕ) → texts fields ≡ seven (codes "step" ∷ decimal number ∷ decimal client ∷ codes "idle" ∷ []) → AreFields fields (codes "step") (decimal number) (decimal client) (codes "idle") [] [] []
  idle_are number client is = fields_are fields (codes "step") (decimal number) (decimal client) (codes "idle") [] [] [] long is

  pub entry_are : (entry : Entry) → texts fields ≡ seven (line_row (Log entry)) → AreFields fields (codes "log") (decimal entry.place) (decimal entry.step) (codes "s" ++ decimal entry.scx.0) (decimal entry.client.0) (decimal entry.call) []
  entry_are entry is = fields_are fields (codes "log") (decimal entry.place) (decimal entry.step) (codes "s" ++ decimal entry.scx.0) (decimal entry.client.0) (decimal entry.call) [] long is

  pub finished_are : (reply : Finished) → texts fields ≡ seven (line_row (Reply reply)) → AreFields fields (codes "reply") (decimal reply.client.0) (decimal reply.call) (decimal reply.begin) (decimal reply.end) (moment_text reply.moment) (answer_text reply.answer)
  finished_are reply is = fields_are fields (codes "reply") (decimal reply.client.0) (decimal reply.call) (decimal reply.begin) (decimal reply.end) (moment_text reply.moment) (answer_text reply.answer) long is

  -- only an idle turn says so
  pub only_idle : (get_or fields 3 blank).now ≡ codes "idle" → ((number client : ℕ) → number < 2 ^ 64 → client < 2 ^ 32 → texts fields ≢ seven (codes "step" ∷ decimal number ∷ decimal client ∷ codes "idle" ∷ [])) → (version : Version) (row : TurnRow) → IsSpelledTurn version row → texts fields ≢ seven (line_row (Step row))
  only_idle kind none version (Made number row) fits is = kind_is_not_idle row.kind (sym (made_are number row is).three_is ∙ kind)
  only_idle kind none version (Idle number client) fits is = none number client.0 fits.0 fits.1 is

  -- and only a reply is named so
  pub only_reply : (get_or fields 0 blank).now ≡ codes "reply" → (version : Version) → ((version : Version) (reply : Finished) → IsSpelledFinished version reply → texts fields ≢ seven (line_row (Reply reply))) → (line : Line) → IsSpelledLine version line → texts fields ≢ seven (line_row line)
  only_reply name version none (Step (Made number row)) fits is = omega (arith, ap (λ (t : List ℕ). get_or t 0 0) (sym (made_are number row is).name_is ∙ name))
  only_reply name version none (Step (Idle number client)) fits is = omega (arith, ap (λ (t : List ℕ). get_or t 0 0) (sym (idle_are number client.0 is).name_is ∙ name))
  only_reply name version none (Log entry) fits is = omega (arith, ap (λ (t : List ℕ). get_or t 0 0) (sym (entry_are entry is).name_is ∙ name))
  only_reply name version none (Reply reply) fits is = none version reply fits is
