use Rattle.std.proofs.Common.{◌≡◌, ◌<◌, ◌≤◌, ◌+◌}
use Rattle.arena.specs.declared.number.NodeNo.{NodeNo}
use Rattle.arena.specs.declared.number.ScxNo.{ScxNo}
use Rattle.arena.specs.declared.word.NodeWord.{NodeWord}
use Rattle.arena.specs.declared.word.ScxWord.{ScxWord}
use Rattle.arena.specs.declared.word.Word.TheVariants.{Node, Scx}
use Rattle.arena.specs.Layout.{all_nodes, IsWord}
use Rattle.arena.specs.Openings.{records_opening}
use Rattle.arena.specs.PlainWords.{word_at}
use Rattle.planting.specs.Plantings.{all_pieces, planted_words}
use Rattle.planting.specs.Seedlings.{pieces_of}
use Rattle.planting.proofs.table.plant.Given as goal

abbrev pub invariant-loop-at : goal.invariant-loop-at
invariant-loop-at l = record {
  layout : l.words.layout ≡ l.fn.words.layout;
  done : (n : NodeNo) (part : NodeWord) → n.0 < 3 + l.at → word_at l.words (Node n part) ≡ planted_words (all_pieces (pieces_of l.pairs l.nodes)) (Node n part);
  blank : (n : NodeNo) (part : NodeWord) → 3 + l.at ≤ n.0 → n.0 < all_nodes l.words.layout → word_at l.words (Node n part) ≡ 0;
  records : (s : ScxNo) (part : ScxWord) → IsWord l.words.layout (Scx s part) → word_at l.words (Scx s part) ≡ records_opening (Scx s part);
}
