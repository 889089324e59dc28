use Rattle.std.proofs.Common.{◌≡◌, ℕ, [], ◌∷◌, ◌++◌, List, cond, None, inl, inr, refl, ◌∙◌, ap}
use Rattle.judge.specs.Graph.{along, has_flag, links_of, IsSpreading}
use Rattle.judge.proofs.Spreading.{adds_one, reached_more, spread_visit, spread_as, flag_inside}
use Rattle.judge.proofs.graph.Graph.start.Goals as goal

pub spread-requires-clause-spreads : goal.spread-requires-clause-spreads
spread-requires-clause-spreads c =
    let old = c.args.self.now in
    let g = c.requires.graph in
    let e = c.reach.ensures in
    let f = c.remember.ensures in
    let links = links_of old in
    let more = (c.args.from, c.args.to) ∷ links in
    let reached : c.remember.new.self.reached.items ≡ c.reach.new.self.reached.items = rw f.reached refl in
    let newest : c.remember.new.self.newest.items ≡ old.newest.items = rw (f.newest, e.keeps.newest) refl in
    let list : c.remember.new.self.links.items ≡ old.links.items = rw (f.links, e.keeps.links) refl in
    let all : links_of c.remember.new.self ≡ more = f.all ∙ rw e.keeps.all refl in
    let fresh : c.remember.new.self.fresh.items ≡ cond (has_flag old.reached.items c.args.to) [] ([] ++ c.args.to ∷ []) = rw f.fresh (e.fresh ∙ ap (λ (xs : List ℕ). cond (has_flag old.reached.items c.args.to) xs (xs ++ c.args.to ∷ [])) g.none_fresh) in
    let inside = flag_inside old.reached.items c.args.from c.requires.from in
    let led = along c.args.from (reached_more links more (λ a b p. inr p) c.args.from (g.spread.sound c.args.from c.requires.from)) (inl (refl, refl)) in
    let visited : IsSpreading c.remember.new.self.reached.items old.newest.items old.links.items c.remember.new.self.fresh.items more 0 None = spread_visit old.reached.items old.newest.items old.links.items [] links more 0 c.args.to None c.remember.new.self.reached.items c.remember.new.self.fresh.items g.spread (adds_one links _ c.args.from c.args.to inside) c.requires.to led (reached ∙ e.reached) fresh in
    spread_as newest list all visited
