use Rattle.std.proofs.Common.{ap, refl, sym, subst, ◌∙◌}
use Rattle.std.specs.Option.{option_map}
use Rattle.regnubas.specs.Dictionary.{IsReading}
use Rattle.regnubas.specs.OrderedMap.{Get, OneValue}
use Rattle.regnubas.specs.Types.{Layout}
use Rattle.conclusions.proofs.Together.{is_pass, later_view, same_value, two_passes}
use Rattle.conclusions.proofs.set_for_another.Goals as goal

pub returns-clause-found : goal.returns-clause-found
returns-clause-found g c =
    let lay = c.args.map.now.layout in
    let first = c.meet.ensures in
    let made = c.in_ok-insert.ensures in
    let second = c.meet-2.ensures in
    let got = c.get-found.ensures in
    let third = c.meet-3.ensures in
    let one = made.goes_on.later.number ∙ first.look.0.goes_on.later.number in
    let other = first.look.1.goes_on.later.number in
    same_value _ (λ v. refl) _ _
    (two_passes lay c.version_laws_hold.ensures c.map_laws_hold.ensures.edits.inserted c.requires.two
    (g.B.Balance.trie g.B.FixedBalance.the) (ap (λ (x : Layout). x.mode) (sym made.pass.1) ∙ made.mode)
    c.meet.new.one c.insert.new.pass c.meet-3.new.one c.meet.new.other c.meet-2.new.other c.get-found.new.pass c.meet-3.new.other
    made.pass.1 third.passes.0.1 first.passes.1.1 got.pass.1 third.passes.1.1
    (is_pass lay c.args.one.now c.insert.new.pass _ one c.requires.one.1 c.number.ensures.is c.number.ensures.inside)
    (is_pass lay c.args.other.now c.meet.new.other _ other c.requires.other.1 c.number-2.ensures.is c.number-2.ensures.inside)
    (λ same. first.apart (sym one ∙ same ∙ other))
    (third.look.0.goes_on.later.number ∙ second.look.0.goes_on.later.number)
    (third.look.1.goes_on.later.number ∙ got.goes_on.later.number ∙ second.look.1.goes_on.later.number)
    made.goes_on.later made.goes_on.lawful third.look.0.goes_on.lawful third.look.1.goes_on.lawful
    first.know.0 second.know.1 third.look.1.goes_on.later.run third.know.0
    (third.look.0.takes_nothing.done ∙ second.look.0.takes_nothing.done)
    (third.look.1.takes_nothing.done ∙ got.told.done ∙ second.look.1.takes_nothing.done)
    c.args.key c.args.value _ _ made.told got.told)

pub returns-clause-set : goal.returns-clause-set
returns-clause-set g c = record {
  began = c.meet.new.one;
  ended = c.insert.new.pass;
  from = c.meet.ensures.look.0.goes_on.later;
  told = _;
  set = c.in_ok-insert.ensures.told;
  to = later_view c.insert.new.pass c.meet-2.new.one c.meet-3.new.one c.meet-2.ensures.look.0.goes_on.later c.meet-3.ensures.look.0.goes_on.later;
}

pub returns-clause-read : goal.returns-clause-read
returns-clause-read g c = record {
  began = c.meet-2.new.other;
  ended = c.get-found.new.pass;
  from = later_view c.args.other.now c.meet.new.other c.meet-2.new.other c.meet.ensures.look.1.goes_on.later c.meet-2.ensures.look.1.goes_on.later;
  read = subst (λ found. IsReading c.meet-2.new.other c.get-found.new.pass (Get c.args.key) (OneValue found)) (ap (option_map (λ v. v)) (returns-clause-found g c)) c.get-found.ensures.told;
  to = c.meet-3.ensures.look.1.goes_on.later;
}
