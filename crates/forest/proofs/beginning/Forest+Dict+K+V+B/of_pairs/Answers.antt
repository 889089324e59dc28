use Rattle.std.proofs.Common.{◌∙◌, ap, map}
use Rattle.template.specs.Balance.{map_mode}
use Rattle.ordered_map.specs.Replies.{word_pair}
use Rattle.dict.specs.Laws.Begins.{dict_mode}
use Rattle.dict.specs.Words.{IsWordOf}
use Rattle.forest.proofs.Begun.{begins_with}
use Rattle.forest.proofs.beginning.Forest+Dict+K+V+B.of_pairs.Goals as goal

pub returns-in-Ok-with_plot-clause-begins : goal.returns-in-Ok-with_plot-clause-begins
returns-in-Ok-with_plot-clause-begins g c =
    let plot = c.in_ok-plot.plot in
    let is = c.in_ok-plot.ensures.plot in
    let made = c.in-Ok-with_plot.ensures in
    begins_with (IsWordOf g.K.WordKey.is_valid g.K.WordKey.word_of) (IsWordOf g.V.WordValue.is_valid g.V.WordValue.word_of) c.in-Ok.layout (map (word_pair g.K.WordKey.word_of g.V.WordValue.word_of) c.args.pairs.now) plot is
    (dict_mode plot.layout.mode (g.B.Balance.trie g.B.FixedBalance.the) (is.mode_is ∙ c.in-Ok.ensures.layout.mode_is ∙ c.map_mode.ensures ∙ ap map_mode c.in_trie.ensures)) c.in_ok-plot.ensures.run c.in-Ok-with_plot.begun.0 made.layout.0 made.planting
