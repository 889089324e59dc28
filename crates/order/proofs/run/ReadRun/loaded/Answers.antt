use Rattle.order.proofs.run.ReadRun.loaded.Goals as goal

pub returns-in-Head-clause-goes_on : goal.returns-in-Head-clause-goes_on
returns-in-Head-clause-goes_on g c = rw c.in-Head.is c.found.ensures.goes_on

pub returns-in-Head-clause-nearer : goal.returns-in-Head-clause-nearer
returns-in-Head-clause-nearer g c = rw c.in-Head.is c.found.ensures.nearer

pub returns-in-Key-clause-goes_on : goal.returns-in-Key-clause-goes_on
returns-in-Key-clause-goes_on g c = rw c.in-Key.is c.found-in-Key.ensures.goes_on

pub returns-in-Key-clause-nearer : goal.returns-in-Key-clause-nearer
returns-in-Key-clause-nearer g c = rw c.in-Key.is c.found-in-Key.ensures.nearer

pub returns-in-More-clause-goes_on : goal.returns-in-More-clause-goes_on
returns-in-More-clause-goes_on g c = rw c.in-More.is c.found-in-More.ensures.goes_on

pub returns-in-More-clause-nearer : goal.returns-in-More-clause-nearer
returns-in-More-clause-nearer g c = rw c.in-More.is c.found-in-More.ensures.nearer

pub returns-in-Pair-clause-goes_on : goal.returns-in-Pair-clause-goes_on
returns-in-Pair-clause-goes_on g c = rw c.in-Pair.is c.found-in-Pair.ensures.goes_on

pub returns-in-Pair-clause-nearer : goal.returns-in-Pair-clause-nearer
returns-in-Pair-clause-nearer g c = rw c.in-Pair.is c.found-in-Pair.ensures.nearer

pub returns-in-Value-clause-goes_on : goal.returns-in-Value-clause-goes_on
returns-in-Value-clause-goes_on g c = rw c.in-Value.is c.found-in-Value.ensures.goes_on

pub returns-in-Value-clause-nearer : goal.returns-in-Value-clause-nearer
returns-in-Value-clause-nearer g c = rw c.in-Value.is c.found-in-Value.ensures.nearer

pub returns-in-High-clause-goes_on : goal.returns-in-High-clause-goes_on
returns-in-High-clause-goes_on g c = rw c.in-High.is c.found-in-High.ensures.goes_on

pub returns-in-High-clause-nearer : goal.returns-in-High-clause-nearer
returns-in-High-clause-nearer g c = rw c.in-High.is c.found-in-High.ensures.nearer
