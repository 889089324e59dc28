use Rattle.std.proofs.Common.{ap, refl, sym, subst, ◌∙◌}
use Rattle.std.specs.Option.{option_map}
use Rattle.regnubas.specs.Dictionary.{IsReading}
use Rattle.regnubas.specs.OrderedMap.{Get, OneValue}
use Rattle.regnubas.specs.Types.{Layout}
use Rattle.conclusions.proofs.Together.{is_pass, one_pass, same_value, same_view}
use Rattle.conclusions.proofs.set_then_get.Goals as goal

pub returns-clause-found : goal.returns-clause-found
returns-clause-found g c =
    let lay = c.args.map.now.layout in
    let made = c.in_ok-insert.ensures in
    let got = c.get.ensures in
    same_value _ (λ v. refl) _ _
    (one_pass lay c.version_laws_hold.ensures c.map_laws_hold.ensures.edits.inserted c.requires.one
    (g.B.Balance.trie g.B.FixedBalance.the) (ap (λ (x : Layout). x.mode) (sym made.pass.1) ∙ made.mode)
    c.args.pass.now c.insert.new.pass c.get.new.pass made.pass.1 got.pass.1
    (is_pass lay c.args.pass.now c.insert.new.pass _ made.goes_on.later.number c.requires.of.1 c.number.ensures.is c.number.ensures.inside)
    made.goes_on.later got.goes_on.later made.goes_on.lawful got.goes_on.lawful c.args.key c.args.value _ _ made.told got.told)

pub returns-clause-set : goal.returns-clause-set
returns-clause-set g c = record {
  began = c.args.pass.now;
  ended = c.insert.new.pass;
  from = same_view c.args.pass.now;
  told = _;
  set = c.in_ok-insert.ensures.told;
  to = c.get.ensures.goes_on.later;
}

pub returns-clause-read : goal.returns-clause-read
returns-clause-read g c = record {
  began = c.insert.new.pass;
  ended = c.get.new.pass;
  from = c.in_ok-insert.ensures.goes_on.later;
  read = subst (λ found. IsReading c.insert.new.pass c.get.new.pass (Get c.args.key) (OneValue found)) (ap (option_map (λ v. v)) (returns-clause-found g c)) c.get.ensures.told;
  to = same_view c.get.new.pass;
}
