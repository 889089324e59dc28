use Rattle.runner.proofs.Gathered.{worked_more}
use Rattle.runner.proofs.thread.with_work.Goals as goal

pub returns : goal.returns
returns g c = λ f calls olds old works worked.
    let a = rw c.in_ok-passes.was at works in
    let b = rw c.in_ok-pass.was at worked in
    rw (c.in_ok-push.ensures.items, c.in_ok-push-2.ensures.items) (worked_more f calls olds c.in_ok-passes.passes.items c.in_ok-passes.replies.items old c.in_ok-pass.pass c.in_ok-pass.own a b)
