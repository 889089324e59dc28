use Rattle.std.proofs.Common.{List, [], ◌∷◌, inl, refl, sym, subst}
use Rattle.std.specs.List.{All}
use Rattle.std.proofs.lemmas.List.Elements.{All-nil, All-cons}
use Rattle.histories.specs.Common.{Contents}
use Rattle.tables.specs.Passes.{PassView, Ground, IsOf, IsClosed}
use Rattle.forest.specs.JoinedSeats.{AreIn}
use Rattle.forest.proofs.Closes.{closes_site}
use Rattle.tables.proofs.Slotted.{once_by}
use Rattle.forest.proofs.forest.Forest.end.Goals as goal

pub returns-clause-closed : goal.returns-clause-closed
returns-clause-closed g c =
    let words : Contents = record { layout = c.self.inside.plan.layout; words = c.close.result.words.items } in
    let one : List PassView = c.args.pass ∷ [] in
    let seat = c.seat_of-seat.result in
    let k = c.seat_of-seat.ensures.pass in
    let of_it = subst (λ (f : Ground). All (IsOf f) one) (sym c.self.view_is) (All-cons (IsOf c.args.self) c.args.pass [] c.requires.pass (All-nil (IsOf c.args.self))) in
    let in_it : AreIn g.S.Shape.allows one seat.me.0.passes = subst (λ l. AreIn g.S.Shape.allows one l) (sym k.1) ((k.0, inl refl, k.2), tt) in
    let table = c.self.invariant.0 in
    subst (λ (f : Ground). IsClosed g.S.Shape.allows f.layout one words) c.self.view_is
    (closes_site c.self.inside.words.table.shared.table_id c.self.inside.words.table.shared.key c.self.inside.plan.layout table.layout (once_by table g.met.S.TableOnce.once) one seat.id seat.me.0 c.close.result.words.items c.close.result.slots.items of_it in_it c.close.ensures.values.2)
