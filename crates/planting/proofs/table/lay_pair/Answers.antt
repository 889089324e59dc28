use Rattle.std.proofs.Common.{◌∙◌}
use Rattle.arena.specs.declared.word.NodeWord.TheVariants.{Settled}
use Rattle.arena.specs.declared.word.SettledPart.TheVariants.{Key, Value, High}
use Rattle.planting.specs.Laid.{stored}
use Rattle.planting.proofs.table.lay_pair.Goals as goal

pub returns-clause-laid : goal.returns-clause-laid
returns-clause-laid c = λ f holds q.
    let slot = c.args.slot in
    let pair = c.pair_words-key.ensures in
    c.store-3.ensures.laid _ (c.store-2.ensures.laid _ (c.store.ensures.laid f holds)) q
    ∙ (λ i. stored (stored (stored f (Settled (Key slot)) (pair.key i)) (Settled (Value slot)) (pair.low i)) (Settled (High slot)) (pair.high i) q)
