use Rattle.tables.proofs.LastingDeals.{lasting_joins, lasting_splits}
use Rattle.tables.proofs.lasting_laws.seats_last.Goals as goal

pub returns-clause-deals : goal.returns-clause-deals
returns-clause-deals g c = lasting_splits g.S.Shape.allows

pub returns-clause-joins : goal.returns-clause-joins
returns-clause-joins g c = lasting_joins g.S.Shape.allows
