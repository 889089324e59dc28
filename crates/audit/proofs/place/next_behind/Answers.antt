use Rattle.std.proofs.Common.{◌≡◌, suc, ◌+◌, drop, sym, ap, subst, arith}
use Rattle.record.specs.Commands.{commands}
use Rattle.record.specs.Commands.{IsNextCallAt}
use Rattle.audit.proofs.place.next_behind.Goals as goal

pub returns-then-at-calls : goal.returns-then-at-calls
returns-then-at-calls c left is_at =
    let calls = c.args.calls.now in
    let pass = c.args.pass.0 in
    let here = subst (IsNextCallAt calls pass left) c.in-Some.is is_at in
    let next : c.in-Some.at + 1 ≡ suc c.in-Some.at = omega arith in
    let found = subst (λ n. IsNextCallAt calls pass (commands (drop n calls) pass) c.next_call.result) next c.next_call.ensures in
    subst (λ l. IsNextCallAt calls pass l c.next_call.result) (sym (ap (drop 1) here.3)) found
