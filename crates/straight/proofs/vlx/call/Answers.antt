use Rattle.std.proofs.Common.{◌≡◌, ◌-◌, length, suc, refl, arith}
use Rattle.straight.specs.Hands.{names}
use Rattle.straight.specs.StraightVlx.{row_of}
use Rattle.straight.proofs.StraightVlx.{answers_changed, answers_same, begins_looking, gone_all, validator}
use Rattle.straight.proofs.vlx.call.Goals as goal

pub validate-requires-clause-waits : goal.validate-requires-clause-waits
validate-requires-clause-waits g c = let r = c.requires.begins in (
  validator row_of g.S.Shape.allows (names c.args.hand) c.args.hand.number r.0 r.1.0 r.1.1 c.args.snaps,
  begins_looking row_of g.S.Shape.allows (names c.args.hand) c.args.hand.number r.0 r.1.0 r.1.1 c.args.snaps _ r.2,
)

pub returns-in-Some-clause-ends : goal.returns-in-Some-clause-ends
returns-in-Some-clause-ends g c = λ k fits x.
    let some = c.in-Some.ensures.other.0 in
    answers_changed row_of g.S.Shape.allows (names c.args.hand) c.args.hand.number k fits.0 fits.1 c.args.snaps _ (c.in-Some.asked - 1) c.in-Some.asked c.in-Some.told (omega (arith, some)) c.in-Some.ensures.other.2
    (c.in-Some.ensures.told (validator row_of g.S.Shape.allows (names c.args.hand) c.args.hand.number k fits.0 fits.1 c.args.snaps) (begins_looking row_of g.S.Shape.allows (names c.args.hand) c.args.hand.number k fits.0 fits.1 c.args.snaps _ x))

pub returns-in-None-clause-ends : goal.returns-in-None-clause-ends
returns-in-None-clause-ends g c = λ k fits x.
    let some = c.requires.begins.2.so.1.some in
    let last : suc (length c.args.snaps.now - 1) ≡ length c.args.snaps.now = omega (arith, some) in
    answers_same row_of g.S.Shape.allows (names c.args.hand) c.args.hand.number k fits.0 fits.1 c.args.snaps _ (length c.args.snaps.now - 1) (length c.args.snaps.now) _ last refl refl
    (gone_all (validator row_of g.S.Shape.allows (names c.args.hand) c.args.hand.number k fits.0 fits.1 c.args.snaps) _ (length c.args.snaps.now - 1) last (c.in-None.ensures.same refl (validator row_of g.S.Shape.allows (names c.args.hand) c.args.hand.number k fits.0 fits.1 c.args.snaps) (begins_looking row_of g.S.Shape.allows (names c.args.hand) c.args.hand.number k fits.0 fits.1 c.args.snaps _ x)))
