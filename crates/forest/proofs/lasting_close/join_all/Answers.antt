use Rattle.std.proofs.Common.{List, Some, [], ◌∷◌, ◌++◌, inl, refl, sym, ◌∙◌, ap, subst, append_assoc}
use Rattle.std.proofs.lemmas.List.Elements.{All-pop}
use Rattle.tables.specs.Passes.{PassView, IsOn}
use Rattle.tables.specs.Slotted.{names_of_table}
use Rattle.forest.specs.Remains.{AreSeated}
use Rattle.forest.proofs.LastingEnds.{seated_more}
use Rattle.forest.proofs.lasting_close.join_all.Goals as goal

pub loop-pass-init : goal.loop-pass-init
loop-pass-init g c = let k = c.into_seat-all.ensures.pass in
    let popped = All-pop (IsOn c.args.words.now.table.shared.table_id (names_of_table c.args.words.now.table.shared.key)) c.args.passes.items c.pop.new.self.items (Some c.in_ok-pop.field-0) c.in_ok-pop.ensures.items c.requires.passes in record {
      gone = c.in_ok-pop.field-0 ∷ [];
      were = c.in_ok-pop.ensures.items;
      are_in = subst (λ l. AreSeated g.S.Shape.allows (c.in_ok-pop.field-0 ∷ []) l) (sym k.1) ((k.0, inl refl, k.2), tt);
      left = popped.0;
      table = c.into_seat-all.ensures.table ∙ popped.1.0;
    }

pub loop-pass-preserved : goal.loop-pass-preserved
loop-pass-preserved g c = let k = c.into_seat.ensures.pass in let inv = c.loop-pass.invariant in record {
  gone = c.in-Some.pass ∷ inv.gone;
  were = inv.were ∙ ap (λ (l : List PassView). l ++ inv.gone) c.in-Some.ensures.items ∙ append_assoc c.pop-in-loop-pass.new.self.items (c.in-Some.pass ∷ []) inv.gone;
  are_in = seated_more c.in-Some.pass inv.gone c.loop-pass.all.me.0.passes c.into_seat.result.me.0.passes c.take_in.new.seat.me.0.passes k.0 k.1 c.take_in.ensures.passes k.2 inv.are_in;
  left = (All-pop (IsOn c.args.words.now.table.shared.table_id (names_of_table c.args.words.now.table.shared.key)) c.loop-pass.passes.items c.pop-in-loop-pass.new.self.items (Some c.in-Some.pass) c.in-Some.ensures.items inv.left).0;
  table = c.take_in.ensures.table.0 ∙ inv.table;
}

pub take_in-requires-clause-table : goal.take_in-requires-clause-table
take_in-requires-clause-table g c = let inv = c.loop-pass.invariant in
    (inv.table, c.into_seat.ensures.table ∙ (All-pop (IsOn c.args.words.now.table.shared.table_id (names_of_table c.args.words.now.table.shared.key)) c.loop-pass.passes.items c.pop-in-loop-pass.new.self.items (Some c.in-Some.pass) c.in-Some.ensures.items inv.left).1.0)
