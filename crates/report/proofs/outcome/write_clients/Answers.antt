use Rattle.std.proofs.Common.{◌≡◌, ◌+◌, ◌-◌, ◌<◌, ◌^◌, ◌∙◌, min, suc, ap, arith, drop, get_or, length, refl, subst, sym, vec_len}
use Rattle.report.specs.Outcome.{client_rows, replies_of_all, reply_rows}
use Rattle.texts.specs.Pages.{rows_text}
use Rattle.report.proofs.Outcomes.{client_text_next, counts_all, counts_on, no_clients, none_left, replies_left}
use Rattle.report.proofs.Texts.{IsSent, all_sent, none_sent, on_err, part_sent, piece_sent}
use Rattle.report.proofs.outcome.write_clients.Goals as goal

pub loop-own-init : goal.loop-own-init
loop-own-init g c = record { failures = refl; client = refl; gone = 0; all = omega arith; count = refl; sent = none_sent _ _ }

pub loop-own-preserved : goal.loop-own-preserved
loop-own-preserved g c =
    let x = c.loop-own.invariant in
    let all = c.args.replies.now in
    let k = c.loop-own.own-index in
    let own = c.own-item.result in
    let within = c.loop-own-test.true in
    let next : k + 1 ≡ suc k = omega arith in
    let old = g.W.Write.contents c.args.to.now.inner in
    let mid = g.W.Write.contents c.loop-own.to.inner in
    let here : get_or all k own ≡ own = sym c.own-item.is in
    let counted : vec_len own ≡ length own.items = omega (own.ok.0, arith) in
    let bound : c.loop-own.client + 1 < 2 ^ 64 = let client = x.client in omega (arith, client, within) in
    let client : c.saturating_add-client.result ≡ c.loop-own.client + 1 = counts_all _ _ _ bound c.saturating_add-client.ensures in
    record {
      failures = c.in_ok-write_replies.ensures.failures.ok ∙ x.failures;
      client = client ∙ ap (λ n. n + 1) x.client;
      gone = x.gone + length own.items;
      all = let before = x.all in let left = rw here at (replies_left k all own within) in rw next (omega (arith, before, left));
      count = counts_on x.gone (length own.items) c.loop-own.count c.saturating_add-count.result x.count (c.saturating_add-count.ensures ∙ ap (λ n. min (c.loop-own.count + n) (2 ^ 64 - 1)) (c.len.ensures ∙ counted));
      sent = rw next (piece_sent old mid _ (rows_text 4 (reply_rows k 0 own.items)) (rows_text 4 (client_rows (suc k) (drop (suc k) all))) (rows_text 4 (client_rows 0 all))
          (subst (λ text. IsSent old mid text (rows_text 4 (client_rows 0 all))) (rw here at (client_text_next k k all own within)) x.sent)
          (rw (x.client, c.as_slice.ensures.value) at c.in_ok-write_replies.ensures.all));
    }

pub returns-clause-all : goal.returns-clause-all
returns-clause-all g c =
    let x = c.loop-own.invariant in
    all_sent _ _ _ (rw (no_clients c.loop-own.own-index c.loop-own.own-index c.args.replies.now c.loop-own-test.false) at x.sent)

pub returns-clause-count : goal.returns-clause-count
returns-clause-count g c =
    let x = c.loop-own.invariant in
    let before = x.all in
    let left = none_left c.loop-own.own-index c.args.replies.now c.loop-own-test.false in
    let whole : x.gone ≡ replies_of_all c.args.replies.now = omega (arith, before, left) in
    rw (← whole) x.count

pub returns-in_err-write_replies-clause-beginning : goal.returns-in_err-write_replies-clause-beginning
returns-in_err-write_replies-clause-beginning g c =
    let x = c.loop-own.invariant in
    let all = c.args.replies.now in
    let k = c.loop-own.own-index in
    let own = c.own-item.result in
    let old = g.W.Write.contents c.args.to.now.inner in
    let mid = g.W.Write.contents c.loop-own.to.inner in
    let here : get_or all k own ≡ own = sym c.own-item.is in
    on_err c.from_residual.result
    (part_sent old mid _ (rows_text 4 (reply_rows k 0 own.items)) (rows_text 4 (client_rows (suc k) (drop (suc k) all))) (rows_text 4 (client_rows 0 all))
    (subst (λ text. IsSent old mid text (rows_text 4 (client_rows 0 all))) (rw here at (client_text_next k k all own c.loop-own-test.true)) x.sent)
    (rw (x.client, c.as_slice.ensures.value) at c.in_err-write_replies.ensures.beginning))
