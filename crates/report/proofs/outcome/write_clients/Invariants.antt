use Rattle.std.proofs.Common.{◌≡◌, ◌+◌, ◌-◌, ◌^◌, ℕ, drop, min}
use Rattle.report.specs.Outcome.{client_rows, replies_of_all}
use Rattle.texts.specs.Pages.{rows_text}
use Rattle.report.proofs.Texts.{IsSent}
use Rattle.report.proofs.outcome.write_clients.Given as goal

abbrev pub invariant-loop-own : goal.invariant-loop-own
invariant-loop-own g l = record {
  failures : l.to.failures ≡ l.fn.to.failures;
  client : l.client ≡ l.own-index;
  gone : ℕ;
  all : gone + replies_of_all (drop l.own-index l.replies) ≡ replies_of_all l.replies;
  count : l.count ≡ min gone (2 ^ 64 - 1);
  sent : IsSent (g.W.Write.contents l.fn.to.inner) (g.W.Write.contents l.to.inner) (rows_text 4 (client_rows l.own-index (drop l.own-index l.replies))) (rows_text 4 (client_rows 0 l.replies));
}
