use Rattle.std.proofs.Common.{◌∙◌, refl}
use Rattle.arena.specs.declared.word.NodeWord.{NodeWord}
use Rattle.arena.specs.declared.word.NodeWord.TheVariants.{Settled}
use Rattle.arena.specs.declared.word.SettledPart.TheVariants.{Head, More}
use Rattle.arena.specs.declared.word.Slot.TheVariants.{First, Second, Third, Fourth}
use Rattle.arena.specs.declared.word.Word.TheVariants.{Node}
use Rattle.arena.specs.PlainWords.{word_at}
use Rattle.planting.specs.Laid.{stored, with_pair}
use Rattle.planting.proofs.Laid.{leaf_laid}
use Rattle.planting.proofs.table.lay_leaf.Goals as goal

pub returns-clause-laid : goal.returns-clause-laid
returns-clause-laid c = λ q.
    let p = c.args.piece.now in
    let f = λ (k : NodeWord). word_at c.args.words.now (Node c.args.node k) in
    c.lay_pair-4.ensures.laid _ (c.lay_pair-3.ensures.laid _ (c.lay_pair-2.ensures.laid _ (c.lay_pair.ensures.laid _ (c.store-2.ensures.laid _ (c.store.ensures.laid f (λ k. refl)))))) q
    ∙ (λ i. with_pair (with_pair (with_pair (with_pair (stored (stored f (Settled Head) (c.word.ensures i)) (Settled More) (c.word-2.ensures i)) p First) p Second) p Third) p Fourth q)
    ∙ leaf_laid p f c.requires.leaf c.requires.blank q
