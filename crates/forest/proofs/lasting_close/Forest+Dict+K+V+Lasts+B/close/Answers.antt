use Rattle.std.proofs.Common.{◌<◌, ℕ, sym, ◌∙◌, ap, subst, arith}
use Rattle.std.specs.List.{All}
use Rattle.histories.specs.Common.{Layout}
use Rattle.tables.specs.Passes.{Ground, IsOf}
use Rattle.forest.proofs.AllBack.{some_back}
use Rattle.tables.proofs.Slotted.{passes_are}
use Rattle.forest.proofs.lasting_close.Forest+Dict+K+V+Lasts+B.close.Goals as goal

pub join_all-requires : goal.join_all-requires
join_all-requires g c = record { passes = subst (λ (f : Ground). All (IsOf f) c.args.passes.items) (sym c.self.view_is) c.requires.passes }

pub unreachable-requires : goal.unreachable-requires
unreachable-requires g c =
    let key = c.self.inside.words.table.shared.key in
    let there : 0 < c.args.self.layout.passes = subst (λ (f : Ground). 0 < f.layout.passes) c.self.view_is (subst (λ (n : ℕ). 0 < n) (sym (passes_are key ∙ ap (λ (l : Layout). l.passes) c.self.invariant.0.layout)) c.self.invariant.1) in
    let some = some_back c.args.passes.items 0 (c.requires.all 0 there) in
    let ok = c.args.passes.ok in
    let none = c.in-None.ensures.some (omega (arith, some, ok)) in
    cc

pub returns-clause-closed : goal.returns-clause-closed
returns-clause-closed g c = c.close_with.ensures.remains c.args.passes.items c.requires.passes c.in-Some.ensures.all
