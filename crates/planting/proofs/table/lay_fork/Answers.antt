use Rattle.std.proofs.Common.{◌≡◌, ◌∙◌, ap, refl}
use Rattle.arena.specs.declared.word.NodeWord.{NodeWord}
use Rattle.arena.specs.declared.word.NodeWord.TheVariants.{Settled, Child}
use Rattle.arena.specs.declared.word.SettledPart.TheVariants.{Head, Key}
use Rattle.arena.specs.declared.word.Side.TheVariants.{Left, Right}
use Rattle.arena.specs.declared.word.Slot.TheVariants.{First}
use Rattle.arena.specs.declared.word.Word.TheVariants.{Node}
use Rattle.arena.specs.PlainWords.{word_at}
use Rattle.edits.specs.Pieces.{word_of}
use Rattle.planting.specs.Laid.{stored}
use Rattle.planting.specs.Plantings.{capped}
use Rattle.planting.proofs.Laid.{fork_laid}
use Rattle.planting.proofs.table.lay_fork.Goals as goal

pub returns-clause-laid : goal.returns-clause-laid
returns-clause-laid c = λ q.
    let p = c.args.piece.now in
    let most = c.args.most in
    let f = λ (k : NodeWord). word_at c.args.words.now (Node c.args.node k) in
    let left : c.capped.result ≡ capped most (word_of p (Child Left)) = c.capped.ensures ∙ ap (capped most) c.word-3.ensures in
    let right : c.capped-2.result ≡ capped most (word_of p (Child Right)) = c.capped-2.ensures ∙ ap (capped most) c.word-4.ensures in
    c.store-4.ensures.laid _ (c.store-3.ensures.laid _ (c.store-2.ensures.laid _ (c.store.ensures.laid f (λ k. refl)))) q
    ∙ (λ i. stored (stored (stored (stored f (Settled Head) (c.word.ensures i)) (Settled (Key First)) (c.word-2.ensures i)) (Child Left) (left i)) (Child Right) (right i) q)
    ∙ fork_laid most p f c.requires.fork c.requires.blank q
