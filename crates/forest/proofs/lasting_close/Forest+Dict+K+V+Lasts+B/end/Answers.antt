use Rattle.std.proofs.Common.{[], ◌∷◌, inl, refl, sym, subst}
use Rattle.std.proofs.lemmas.List.Elements.{All-nil, All-cons}
use Rattle.dict.specs.Typed.{TypedAllows}
use Rattle.dict.specs.Words.{IsWordOf}
use Rattle.tables.specs.Passes.{IsOf}
use Rattle.forest.specs.Remains.{AreSeated}
use Rattle.forest.proofs.lasting_close.Forest+Dict+K+V+Lasts+B.end.Goals as goal

pub returns-clause-closed : goal.returns-clause-closed
returns-clause-closed g c =
    let allows = TypedAllows (IsWordOf g.K.WordKey.is_valid g.K.WordKey.word_of) (IsWordOf g.V.WordValue.is_valid g.V.WordValue.word_of) in
    let k = c.into_seat.ensures.pass in
    c.close_with.ensures.remains (c.args.pass ∷ []) (All-cons (IsOf c.args.self) c.args.pass [] c.requires.pass (All-nil (IsOf c.args.self)))
    (subst (λ l. AreSeated allows (c.args.pass ∷ []) l) (sym k.1) ((k.0, inl refl, k.2), tt))
