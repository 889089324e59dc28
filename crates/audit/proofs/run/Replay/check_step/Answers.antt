use Rattle.std.proofs.Common.{◌≡◌, suc, ◌<◌, eqb-true, rules, arith}
use Rattle.std.proofs.lemmas.Grind.{common_steps}
use Rattle.audit.proofs.Fitting.{step_fits}
use Rattle.audit.proofs.run.Replay.check_step.Goals as goal

pub returns : goal.returns
returns c =
    let turn : suc c.args.self.now.turn ≡ c.args.number = grind (arith, common_steps) in
    let few : c.in_ok-client.client.steps < c.most_steps-most.result = grind (arith, common_steps) in
    step_fits c.args.self.now c.args.number c.args.row.now c.in_ok-client.client c.in-Some.command c.most_steps-most.result c.taken.result c.requires c.in_ok-client.ensures.pass c.in_ok-client.ensures.after (search rules) turn (eqb-true _ _ c.in_ok-require-2.ensures) few c.taken.ensures (search rules) (c.may_make.ensures c.in_ok-require-4.ensures) (c.says_its_call.ensures c.in_ok-require-5.ensures) (c.is_lawful.ensures.0 c.in_ok-require-6.ensures)
