use Rattle.tables.proofs.Ruled.{ruled_joins}
use Rattle.tables.proofs.words.Words.take_in.Goals as goal

pub join_seat-requires : goal.join_seat-requires
join_seat-requires g c = (c.requires.table.0, c.requires.table.1, c.requires.bare, c.args.self.now.some, ruled_joins g.S.Shape.allows _ _ _ _ _)
