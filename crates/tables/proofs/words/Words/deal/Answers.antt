use Rattle.tables.proofs.Ruled.{ruled_splits}
use Rattle.tables.proofs.words.Words.deal.Goals as goal

pub split_seat-requires : goal.split_seat-requires
split_seat-requires g c = (c.requires.table, c.args.self.now.some, ruled_splits g.S.Shape.allows _ _ _)
