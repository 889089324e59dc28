use Rattle.prims.specs.declared.scx.ScxAt.TheVariants.{Plan, New, Old, Member, Seen, Call}
use Rattle.prims.proofs.ScxTurns.{turn_plan, turn_new, turn_old, turn_member, turn_seen, begin_help, made_then}
use Rattle.prims.proofs.scx.ScxRunMachine.next.Goals as goal

pub returns-in-Plan-clause-turn : goal.returns-in-Plan-clause-turn
returns-in-Plan-clause-turn g c d h run r =
    turn_plan g.S.Shape.allows d h c.args.self.now c.fill-in-Plan.new.self c.fill-in-Plan.result
    (made_then g.S.Shape.allows c.args.self.now d h c.args.got Plan c.in-Plan.is (λ e. cc) (λ v x. x) r) record { stands = c.fill-in-Plan.ensures.stands; asked = c.fill-in-Plan.ensures.asked }

pub returns-in-New-clause-turn : goal.returns-in-New-clause-turn
returns-in-New-clause-turn g c d h run r =
    turn_new g.S.Shape.allows d h c.args.self.now c.fill-in-New.new.self c.fill-in-New.result
    (made_then g.S.Shape.allows c.args.self.now d h c.args.got New c.in-New.is (λ e. cc) (λ v x. x) r) record { stands = c.fill-in-New.ensures.stands; asked = c.fill-in-New.ensures.asked }

pub returns-in-Old-clause-turn : goal.returns-in-Old-clause-turn
returns-in-Old-clause-turn g c d h run r =
    turn_old g.S.Shape.allows d h c.args.self.now c.fill_member.new.self c.fill_member.result
    (made_then g.S.Shape.allows c.args.self.now d h c.args.got Old c.in-Old.is (λ e. cc) (λ v x. x) r) c.fill_member.ensures

pub returns-in-Member-clause-turn : goal.returns-in-Member-clause-turn
returns-in-Member-clause-turn g c d h run r =
    turn_member g.S.Shape.allows d h c.args.self.now c.in-Member.j c.after_member.new.self c.after_member.result
    (made_then g.S.Shape.allows c.args.self.now d h c.args.got (Member c.in-Member.j) c.in-Member.is (λ e. cc) (λ v x. x) r) c.after_member.ensures.turn

pub returns-in-Seen-clause-turn : goal.returns-in-Seen-clause-turn
returns-in-Seen-clause-turn g c d h run r =
    turn_seen g.S.Shape.allows d h c.args.self.now c.in-Seen.j c.after_seen.new.self c.after_seen.result
    (made_then g.S.Shape.allows c.args.self.now d h c.args.got (Seen c.in-Seen.j) c.in-Seen.is (λ e. cc) (λ v x. x) r) c.after_seen.ensures.turn

pub returns-in-Call-clause-turn : goal.returns-in-Call-clause-turn
returns-in-Call-clause-turn g c d h run r =
    c.help_on.ensures.turn d h (begin_help g.S.Shape.allows d h c.args.self.now c.new.result run
    (made_then g.S.Shape.allows c.args.self.now d h c.args.got Call c.in-Call.is (λ e. cc) (λ v x. x) r) c.new.ensures.scx c.new.ensures.start)
