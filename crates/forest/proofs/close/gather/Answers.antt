use Rattle.std.proofs.Common.{List, Some, [], ◌∷◌, ◌++◌, inl, refl, sym, ◌∙◌, ap, subst, append_assoc}
use Rattle.std.proofs.lemmas.List.Elements.{All-pop}
use Rattle.tables.specs.Passes.{PassView, IsOn}
use Rattle.tables.specs.Slotted.{names_of_table}
use Rattle.forest.specs.JoinedSeats.{AreIn}
use Rattle.forest.proofs.Closes.{in_more}
use Rattle.forest.proofs.close.gather.Goals as goal

pub seat_of-all-requires-clause-pass : goal.seat_of-all-requires-clause-pass
seat_of-all-requires-clause-pass g c = (All-pop (IsOn c.args.words.now.table.shared.table_id (names_of_table c.args.words.now.table.shared.key)) c.args.passes.items c.pop.new.self.items (Some c.in_ok-pop.field-0) c.in_ok-pop.ensures.items c.requires.passes).1

pub loop-pass-init : goal.loop-pass-init
loop-pass-init g c = let k = c.seat_of-all.ensures.pass in record {
  gone = c.in_ok-pop.field-0 ∷ [];
  were = c.in_ok-pop.ensures.items;
  are_in = subst (λ l. AreIn g.S.Shape.allows (c.in_ok-pop.field-0 ∷ []) l) (sym k.1) ((k.0, inl refl, k.2), tt);
  left = (All-pop (IsOn c.args.words.now.table.shared.table_id (names_of_table c.args.words.now.table.shared.key)) c.args.passes.items c.pop.new.self.items (Some c.in_ok-pop.field-0) c.in_ok-pop.ensures.items c.requires.passes).0;
  table = c.seat_of-all.ensures.table;
}

pub seat_of-own-requires-clause-pass : goal.seat_of-own-requires-clause-pass
seat_of-own-requires-clause-pass g c = (All-pop (IsOn c.args.words.now.table.shared.table_id (names_of_table c.args.words.now.table.shared.key)) c.loop-pass.passes.items c.pop-in-loop-pass.new.self.items (Some c.in-Some.pass) c.in-Some.ensures.items c.loop-pass.invariant.left).1

pub loop-pass-preserved : goal.loop-pass-preserved
loop-pass-preserved g c = let k = c.seat_of-own.ensures.pass in let inv = c.loop-pass.invariant in record {
  gone = c.in-Some.pass ∷ inv.gone;
  were = inv.were ∙ ap (λ (l : List PassView). l ++ inv.gone) c.in-Some.ensures.items ∙ append_assoc c.pop-in-loop-pass.new.self.items (c.in-Some.pass ∷ []) inv.gone;
  are_in = in_more c.in-Some.pass inv.gone c.loop-pass.all.me.0.passes c.seat_of-own.result.me.0.passes c.take_in.new.seat.me.0.passes k.0 k.1 c.take_in.ensures.passes k.2 inv.are_in;
  left = (All-pop (IsOn c.args.words.now.table.shared.table_id (names_of_table c.args.words.now.table.shared.key)) c.loop-pass.passes.items c.pop-in-loop-pass.new.self.items (Some c.in-Some.pass) c.in-Some.ensures.items inv.left).0;
  table = c.take_in.ensures.table.0 ∙ inv.table;
}
