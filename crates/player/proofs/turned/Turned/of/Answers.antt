use Rattle.player.specs.Lines.{entry_line, reply_line}
use Rattle.player.proofs.Played.{turn_of}
use Rattle.player.proofs.Followed.{replies_more}
use Rattle.player.proofs.turned.Turned.of.Goals as goal

pub returns : goal.returns
returns c = λ p i t played. record {
  turn = turn_of p i _ t;
  kind = c.kind_of.ensures t.row (entry_line t.entry (reply_line t.reply)) t.lines;
  replies = rw (c.ends_a_call.ensures t.row t.entry t.reply t.lines) (replies_more p i _ t played);
}
