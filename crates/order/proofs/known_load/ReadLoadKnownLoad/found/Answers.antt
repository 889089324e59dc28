use Rattle.order.proofs.known_load.ReadLoadKnownLoad.found.Goals as goal

pub returns-clause-goes_on : goal.returns-clause-goes_on
returns-clause-goes_on g c = c.loaded.ensures.goes_on

pub returns-clause-same : goal.returns-clause-same
returns-clause-same g c = c.loaded.ensures.same

pub returns-clause-nearer : goal.returns-clause-nearer
returns-clause-nearer g c = c.loaded.ensures.nearer

pub returns-clause-tries : goal.returns-clause-tries
returns-clause-tries g c = c.loaded.ensures.tries
