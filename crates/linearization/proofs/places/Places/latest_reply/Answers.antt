use Rattle.std.proofs.Common.{List, subst}
use Rattle.record.specs.Common.{number_reply, Pair, map_at, IsGreatestTurn}
use Rattle.linearization.specs.Ordered.{AreReadPairs}
use Rattle.linearization.specs.Places.{changes}
use Rattle.linearization.proofs.OrderedReads.{found_reply, map_rises}
use Rattle.linearization.proofs.places.Places.latest_reply.Goals as goal

pub returns-clause-greatest : goal.returns-clause-greatest
returns-clause-greatest c calls lines call n are falls ordered is from to says =
    let found : (ps : List Pair) → Type 0 = λ (ps : List Pair). AreReadPairs c.args.command.now ps (map_at calls lines n) → IsGreatestTurn (λ m. AreReadPairs c.args.command.now ps (map_at calls lines m)) c.args.first c.args.last c.latest_with_pairs.result in
    found_reply c.args.command.now call (number_reply c.args.reply.now) calls lines n c.args.first c.args.last c.latest_with_pairs.result (λ j. map_rises calls lines (changes c.args.self.now) j are) ordered is says (subst found c.pairs_told.ensures (λ told. c.latest_with_pairs.ensures.greatest calls lines n are falls from to told))
