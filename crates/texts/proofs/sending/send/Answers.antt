use Rattle.std.proofs.Common.{◌<◌, arith, ◌∙◌, take-add, length-drop}
use Rattle.std.proofs.KnownBytes.{Appends-trans}
use Rattle.csv.proofs.WriteFacts.{slice-end}
use Rattle.texts.proofs.sending.send.Goals as goal

pub loop-sent-preserved : goal.loop-sent-preserved
loop-sent-preserved g c =
    let inv = c.loop-sent.invariant in
    let all = c.args.text.now in
    let sent = c.loop-sent.sent in
    let more = rw (slice-end all sent) at c.in-Ok.ensures.bytes in
    let bound = rw (slice-end all sent) at c.in-Ok.ensures.bound in
    let some : 0 < c.in-Ok.n = omega arith in
    record {
      within = omega (arith, inv.within, bound, length-drop sent all);
      written = rw (take-add sent c.in-Ok.n all) (Appends-trans _ _ _ _ _ inv.written more);
      failures = c.in-Ok.ensures.some some ∙ inv.failures;
    }
