use Rattle.std.proofs.Common.{◌∙◌, Some, [], ◌∷◌, ◌++◌, subst}
use Rattle.std.proofs.lemmas.List.Elements.{All-pop, All-push, All-same}
use Rattle.tables.specs.Passes.{Ground, IsOf}
use Rattle.forest.proofs.Crowds.{new_are_of}
use Rattle.dict_tests.proofs.sharing.renewals.next.Goals as goal

pub new-worker-requires : goal.new-worker-requires
new-worker-requires g c = (All-pop (IsOf c.in-Ok.forest) c.in-Ok.passes.items c.pop.new.self.items (Some c.in-Some.pass) c.in-Some.ensures.items (new_are_of _ _ c.in-Ok.ensures.passes)).1

pub returns : goal.returns
returns g c =
    let left = All-pop (IsOf c.in-Ok.forest) c.in-Ok.passes.items c.pop.new.self.items (Some c.in-Some.pass) c.in-Some.ensures.items (new_are_of _ _ c.in-Ok.ensures.passes) in
    let back : IsOf c.in-Ok.forest c.finds.new.self.pass = subst (λ (f : Ground). IsOf f c.finds.new.self.pass) (c.finds.ensures ∙ c.new-worker.ensures) c.finds.new.self.of in
    All-same (IsOf c.in-Ok.forest) c.push.new.self.items (c.pop.new.self.items ++ c.finds.new.self.pass ∷ []) c.in_ok-push.ensures.items (All-push (IsOf c.in-Ok.forest) c.pop.new.self.items c.finds.new.self.pass left.0 back)
