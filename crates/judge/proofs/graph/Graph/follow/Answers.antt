use Rattle.std.proofs.Common.{◌≡◌, ℕ, ◌<◌, Option, Some, length, true, refl, ◌∙◌, ap, subst}
use Rattle.std.proofs.Math.ListN.{length-set}
use Rattle.judge.specs.Graph.{Spreads, IsSpreading, IsLink, along, has_flag, IsLinkAt, here, links_of}
use Rattle.judge.proofs.Counts.{set_here}
use Rattle.judge.proofs.Chains.{fewer_left}
use Rattle.judge.proofs.Spreading.{adds_none, spread_visit, spread_next, spread_done, spread_as}
use Rattle.judge.proofs.graph.Graph.follow.Goals.{After-index}
use Rattle.judge.proofs.graph.Graph.follow.Goals as goal

-- the links from one on are left
stands : (c : After-index) → Spreads c.loop-at.self c.args.from (Some c.in-Some.place)
stands c = subst (λ (o : Option ℕ). Spreads c.loop-at.self c.args.from o) c.in-Some.is c.loop-at.invariant.spreads

one : (c : After-index) → IsLinkAt c.loop-at.self.links.items c.in-Some.place c.index.result.now
one c = record { within = (stands c).starts; is = c.index.ensures }

leads : (c : After-index) → IsLink (links_of c.loop-at.self) c.args.from c.index.result.now.to
leads c = (stands c).left c.index.result.now.to (here c.in-Some.place c.index.result.now (one c) refl)

inside : (c : After-index) → c.index.result.now.to < length c.loop-at.self.reached.items
inside c = ((stands c).inside c.args.from c.index.result.now.to (leads c)).1

pub reach-requires-clause-inside : goal.reach-requires-clause-inside
reach-requires-clause-inside c = inside (goal.at.reach-requires-clause-inside c).After-index

pub loop-at-preserved : goal.loop-at-preserved
loop-at-preserved c =
    let old = c.loop-at.self in
    let inv = c.loop-at.invariant in
    let at = (goal.at.loop-at-preserved c).After-index in
    let e = c.reach.ensures in
    let newest : c.reach.new.self.newest.items ≡ old.newest.items = rw e.keeps.newest refl in
    let list : c.reach.new.self.links.items ≡ old.links.items = rw e.keeps.links refl in
    let all : links_of c.reach.new.self ≡ links_of old = rw e.keeps.all refl in
    let visited : IsSpreading c.reach.new.self.reached.items old.newest.items old.links.items c.reach.new.self.fresh.items (links_of old) c.args.from (Some c.in-Some.place) = spread_visit old.reached.items old.newest.items old.links.items old.fresh.items (links_of old) (links_of old) c.args.from c.index.result.now.to (Some c.in-Some.place) c.reach.new.self.reached.items c.reach.new.self.fresh.items (stands at) (adds_none _ _ _) (inside at) (along c.args.from (stands at).origin (leads at)) e.reached e.fresh in
    let set : has_flag c.reach.new.self.reached.items c.index.result.now.to ≡ true = rw e.reached (set_here old.reached.items c.index.result.now.to (inside at)) in
    record {
      spreads = spread_as newest list all (spread_next c.reach.new.self.reached.items old.newest.items old.links.items c.reach.new.self.fresh.items (links_of old) c.args.from c.in-Some.place c.index.result.now visited (one at) set);
      room = e.room;
      count = e.count ∙ inv.count;
      size = ap length e.reached ∙ length-set old.reached.items c.index.result.now.to true ∙ inv.size;
      keeps = record { newest = e.keeps.newest ∙ inv.keeps.newest; links = e.keeps.links ∙ inv.keeps.links; all = e.keeps.all ∙ inv.keeps.all };
    }

pub loop-at-smaller : goal.loop-at-smaller
loop-at-smaller c =
    let at = (goal.at.loop-at-smaller c).After-index in
    rw c.in-Some.is (fewer_left c.in-Some.place c.index.result.now.before ((stands at).rising c.in-Some.place c.index.result.now (one at)))

pub returns-clause-spreads : goal.returns-clause-spreads
returns-clause-spreads c =
    let s = subst (λ (o : Option ℕ). Spreads c.loop-at.self c.args.from o) c.in_default.is c.loop-at.invariant.spreads in
    spread_done _ _ _ _ _ c.args.from s
