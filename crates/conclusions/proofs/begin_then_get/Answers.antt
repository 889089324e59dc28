use Rattle.std.proofs.Common.{◌≡◌, ℕ, ◌<◌, List, [], ◌∷◌, ◌++◌, length, map, slice_get, sym, ◌∙◌, ap, subst, arith}
use Rattle.std.proofs.lemmas.List.{length-append}
use Rattle.regnubas.specs.History.{value}
use Rattle.regnubas.specs.Passes.{AreNew, Ground, PassView, new_pass, run_of}
use Rattle.regnubas.specs.Replies.{word_pair}
use Rattle.regnubas.specs.Spelled.{Spells}
use Rattle.conclusions.proofs.Together.{first_found, same_option}
use Rattle.conclusions.proofs.begin_then_get.Goals as goal

-- the only pass of a new dictionary
only : (f : Ground) (passes rest : List PassView) (p : PassView) → AreNew f passes → f.layout.passes ≡ 1 → passes ≡ rest ++ p ∷ [] → p ≡ new_pass f 0
only f passes [] p new one is = new.each 0 p (ap (λ ps. slice_get ps 0) is)
only f passes (q ∷ rest) p new one is = absurd (let n = ap length is in let m = new.count in let k = length-append rest (p ∷ []) in omega (arith, n, m, k, one))

pub get-requires : goal.get-requires
get-requires g c =
    let f = c.in_ok-forest.forest in
    let begun = c.in_ok-forest.ensures in
    let e = only f c.in_ok-forest.passes.items c.pop.new.self.items c.in-Some.pass begun.passes (begun.layout.passes ∙ c.requires) c.in-Some.ensures.items in
    record { pass = (ap (λ (p : PassView). p.table) e, ap (λ (p : PassView). p.layout) e) }

pub returns : goal.returns
returns g c =
    let f = c.in_ok-forest.forest in
    let begun = c.in_ok-forest.ensures in
    let p = c.in-Some.pass in
    let one = begun.layout.passes ∙ c.requires in
    let e = only f c.in_ok-forest.passes.items c.pop.new.self.items p begun.passes one c.in-Some.ensures.items in
    let first = map (word_pair {K = ℕ} {V = ℕ} (λ k. k) (λ v. v)) c.args.pairs.now in
    let got = c.get.ensures in
    let few : p.number < f.layout.passes = let n = ap (λ (q : PassView). q.number) e in omega (arith, n, one) in
    sym (same_option c.get.result)
    ∙ first_found f.layout c.version_laws_hold.ensures one (g.B.Balance.trie g.B.FixedBalance.the) begun.layout.mode_is p c.get.new.pass
    (ap (λ (q : PassView). q.layout) e) got.pass.1 few got.goes_on.later got.goes_on.lawful first
    (subst (λ q. Spells f.layout (value (run_of q)) first) (sym e) begun.begins.spelled) c.args.key _ got.told
