use Rattle.std.proofs.Common.{arith, rules}
use Rattle.straight.proofs.helps.call.Goals as goal

pub begin-requires-clause-waits : goal.begin-requires-clause-waits
begin-requires-clause-waits g c = c.requires.waits

pub commit-requires-clause-waits : goal.commit-requires-clause-waits
commit-requires-clause-waits g c = let r = c.requires.waits in (r.0, (c.begin.ensures.leads.to r.0 r.1).frozen c.if-not-begin.false)

pub returns-then-not-begin-clause-leads : goal.returns-then-not-begin-clause-leads
returns-then-not-begin-clause-leads g c = record {
  table = c.begin.ensures.leads.table;
  to = λ k x. record { commits = λ yes. cc; blocked = λ no. (c.begin.ensures.leads.to k x).blocked c.if-not-begin.true };
  steps = (let begins = c.begin.ensures.leads.steps in omega (arith, begins));
}

pub returns-clause-leads : goal.returns-clause-leads
returns-clause-leads g c = record {
  table = search rules;
  to = λ k x. record { commits = λ yes. c.commit.ensures.to k ((c.begin.ensures.leads.to k x).frozen c.if-not-begin.false); blocked = λ no. cc };
  steps = (let begins = c.begin.ensures.leads.steps in let commits = c.commit.ensures.steps in omega (arith, begins, commits));
}
