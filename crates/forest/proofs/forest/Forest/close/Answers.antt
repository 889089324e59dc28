use Rattle.std.proofs.Common.{sym, subst}
use Rattle.std.specs.List.{All}
use Rattle.histories.specs.Common.{Contents}
use Rattle.tables.specs.Passes.{Ground, IsOf, IsClosed}
use Rattle.forest.proofs.Closes.{closes_site}
use Rattle.tables.proofs.Slotted.{once_by}
use Rattle.forest.proofs.forest.Forest.close.Goals as goal

pub returns-clause-closed : goal.returns-clause-closed
returns-clause-closed g c =
    let words : Contents = record { layout = c.self.inside.plan.layout; words = c.close.result.words.items } in
    let table = c.self.invariant.0 in
    subst (λ (f : Ground). IsClosed g.S.Shape.allows f.layout c.args.passes.items words) c.self.view_is
    (closes_site c.self.inside.words.table.shared.table_id c.self.inside.words.table.shared.key c.self.inside.plan.layout table.layout (once_by table g.met.S.TableOnce.once) c.args.passes.items c.in-Some.seat.id c.in-Some.seat.me.0 c.close.result.words.items c.close.result.slots.items
    (subst (λ (f : Ground). All (IsOf f) c.args.passes.items) (sym c.self.view_is) c.requires.passes) c.in-Some.ensures.all c.close.ensures.values.2)
