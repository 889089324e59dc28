use Rattle.std.proofs.Common.{[], ◌∷◌, ◌++◌, ◌∙◌, sym}
use Rattle.std.proofs.lemmas.Result.{IfOk-weaker}
use Rattle.arena.specs.PlainWords.{word_at}
use Rattle.ordered_map.proofs.LeafLists.{pushed_more, pushed_last}
use Rattle.ordered_map.proofs.held.+push_held.Goals as goal

pub returns-in-Some : goal.returns-in-Some
returns-in-Some t c = IfOk-weaker c.push_held.result _ _
    (λ _ e. pushed_more (word_at c.args.words.now) c.args.leaf.0 c.args.slot c.in-Some.next _ _ _ (sym c.behind.ensures ∙ c.in-Some.is) (c.in_ok-push.ensures.items ∙ (λ i. c.args.pairs.now.items ++ c.pair_in.ensures i ∷ [])) e)
    c.push_held.ensures

pub returns-in-None : goal.returns-in-None
returns-in-None t c = pushed_last (word_at c.args.words.now) c.args.leaf.0 c.args.slot _ _ (sym c.behind.ensures ∙ c.in-None.is) (c.in_ok-push.ensures.items ∙ (λ i. c.args.pairs.now.items ++ c.pair_in.ensures i ∷ []))
