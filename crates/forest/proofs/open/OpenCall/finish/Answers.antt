use Rattle.forest.specs.PassInvariant.{seated_in}
use Rattle.forest.proofs.OpenCalls.{back, open_called, open_keeps, open_lost, open_made, open_pass}
use Rattle.forest.proofs.open.OpenCall.finish.Goals as goal

pub invariant_of-pass : goal.invariant_of-pass
invariant_of-pass g c = (
  open_pass g.K.WordKey.is_valid g.K.WordKey.word_of g.V.WordValue.is_valid g.V.WordValue.word_of c.self.inside c.self.invariant.0 c.in-Done.reply c.in-Done.is c.into_share-share.result c.note_reply.new.self c.into_share-share.ensures c.note_reply.ensures,
  λ lasts. let keeps = c.self.invariant.1 lasts in c.note_lost.ensures (seated_in (back g.K.WordKey.is_valid g.K.WordKey.word_of g.V.WordValue.is_valid g.V.WordValue.word_of c.self.inside c.self.invariant.0 c.in-Done.reply c.in-Done.is c.into_share-share.result c.note_reply.new.self c.into_share-share.ensures c.note_reply.ensures)) (open_lost g.K.WordKey.is_valid g.K.WordKey.word_of g.V.WordValue.is_valid g.V.WordValue.word_of c.self.inside c.self.invariant.0 c.in-Done.reply c.in-Done.is c.into_share-share.result c.note_reply.new.self c.into_share-share.ensures c.note_reply.ensures c.unborn_stays_out.ensures.none keeps c.next.result.0.0 c.next.ensures.0) (open_keeps g.K.WordKey.is_valid g.K.WordKey.word_of g.V.WordValue.is_valid g.V.WordValue.word_of c.self.inside c.self.invariant.0 c.in-Done.reply c.in-Done.is c.into_share-share.result c.note_reply.new.self c.into_share-share.ensures c.note_reply.ensures keeps),
)

pub returns-clause-called : goal.returns-clause-called
returns-clause-called g c = rw (← c.self.view_is) (open_called g.K.WordKey.is_valid g.K.WordKey.word_of g.V.WordValue.is_valid g.V.WordValue.word_of c.self.inside c.self.invariant.0 c.in-Done.reply c.in-Done.is c.into_share-share.result c.note_reply.new.self c.into_share-share.ensures c.note_reply.ensures)

pub returns-clause-made : goal.returns-clause-made
returns-clause-made g c = rw (← c.self.view_is) (open_made g.K.WordKey.is_valid g.K.WordKey.word_of g.V.WordValue.is_valid g.V.WordValue.word_of c.self.inside c.self.invariant.0 c.in-Done.reply c.in-Done.is c.into_share-share.result c.note_reply.new.self c.into_share-share.ensures c.note_reply.ensures)
