use Rattle.player.proofs.Clients.{after_run}
use Rattle.player.proofs.Ends.{ends_other}
use Rattle.player.proofs.client.Client.after.Goals as goal

pub returns-in-Llx : goal.returns-in-Llx
returns-in-Llx c v run sound x = after_run v c.args.self.now c.after_llx.new.self run c.args.then c.args.ended c.in-Llx.llx c.after_llx.result c.in-Llx.is x (λ m y. c.after_llx.ensures v m sound y)

pub returns-in_default : goal.returns-in_default
returns-in_default c v run sound x = rw c.answer.ensures (ends_other v c.args.self.now run c.args.then c.args.ended c.in_default.not-Llx sound x)
