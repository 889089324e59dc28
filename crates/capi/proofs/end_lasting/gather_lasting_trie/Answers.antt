use Rattle.std.proofs.Common.{All, sym, ◌∙◌, subst}
use Rattle.tables.specs.Passes.{Ground, IsOf}
use Rattle.capi.specs.Ends.{held_in}
use Rattle.capi.proofs.Ends.{all_are_of, in_some}
use Rattle.capi.proofs.end_lasting.gather_lasting_trie.Goals as goal

pub returns-in-Ok-clause-of : goal.returns-in-Ok-clause-of
returns-in-Ok-clause-of c =
    let f = c.requires.forest in
    let owner = in_some _ c.in_ok-owner.owner c.in_ok-owner-2.field-0 c.in_ok-owner-2.was (c.in_ok-owner.ensures.owner f c.requires.of_forest) in
    subst (λ (g : Ground). All (IsOf g) c.in_ok-owner.passes.items) (sym (c.in-Ok.ensures.ok ∙ owner)) (all_are_of f (held_in c.args.places.items) c.in_ok-owner.passes.items c.in_ok-owner.ensures.are c.requires.of_forest)
