use Rattle.audit.specs.After.{lines_of, layout_of, calls_of}
use Rattle.audit.proofs.Asking.{is_pass, asked}
use Rattle.audit.proofs.run.Replay.check_map_answer.Goals as goal

pub is_right-requires : goal.is_right-requires
is_right-requires c = is_pass c.args.self.now c.args.client.now c.args.command.now c.args.reply.now c.requires.remembers.after c.requires.next.is_client c.requires.next.own

pub returns-clause-right : goal.returns-clause-right
returns-clause-right c =
    let x = asked c.args.self.now c.args.client.now c.args.command.now c.args.reply.now c.requires.remembers.after c.requires.next.is_client c.requires.next.own c.requires.remembers.map c.requires.mode c.args.self.now.record.now.script.of_mode c.requires.next.owed c.requires.next.is_next c.requires.next.number c.requires.next.begun c.requires.next.end c.requires.next.fits c.requires.next.entry in
    c.is_right.ensures.right (layout_of c.args.self.now) (calls_of c.args.self.now) (lines_of c.args.self.now) x c.requires.remembers.remembered c.in_ok-require.ensures

pub returns-clause-placed : goal.returns-clause-placed
returns-clause-placed c =
    let x = asked c.args.self.now c.args.client.now c.args.command.now c.args.reply.now c.requires.remembers.after c.requires.next.is_client c.requires.next.own c.requires.remembers.map c.requires.mode c.args.self.now.record.now.script.of_mode c.requires.next.owed c.requires.next.is_next c.requires.next.number c.requires.next.begun c.requires.next.end c.requires.next.fits c.requires.next.entry in
    c.is_right.ensures.placed (layout_of c.args.self.now) (calls_of c.args.self.now) (lines_of c.args.self.now) x c.in_ok-require.ensures
