use Rattle.std.proofs.Common.{◌≡◌, ◌-◌, ℕ, ap, refl, sym, ◌∙◌, subst, arith}
use Rattle.upkeep.specs.UpkeepBook.{slots_in}
use Rattle.upkeep.specs.UpkeepDeals.{DealsOn, HasDealt, next_of, with_left}
use Rattle.upkeep.specs.UpkeepKeeper.{IsStillSet}
use Rattle.upkeep.specs.declared.kind.RecordKind.{RecordKind}
use Rattle.upkeep.specs.declared.kind.RecordKind.TheVariants.{Node, Scx}
use Rattle.upkeep.proofs.UpkeepDeals.{deals_as}
use Rattle.upkeep.proofs.UpkeepLooks.{table_in}
use Rattle.upkeep.proofs.UpkeepSet.{Sets, at_dealing, from_dealing, left_is, own_count, set_nodes, set_scxs, sets_on}
use Rattle.upkeep.proofs.keeper.Keeper.deal.Goals as goal

pub next_name-node-requires-clause-pass : goal.next_name-node-requires-clause-pass
next_name-node-requires-clause-pass g c =
    let r = c.requires in
    let left = c.args.left.now in
    (r.0, left, r.2.kept.since, r.1, r.2.has, ap (λ (k : RecordKind). next_of k left) r.2.kept.slots.node_kind ∙ sym c.next.ensures.0, r.2.kept.slots.nodes)

pub next_name-node-requires-clause-left : goal.next_name-node-requires-clause-left
next_name-node-requires-clause-left g c =
    let t = slots_in c.args.words.now in
    let r = c.requires in
    let own = c.args.self.now.nodes in
    let kept = r.2.kept in
    let all = left_is t r.0 kept.since own Node c.args.left.now kept.slots.node_kind kept.slots.nodes r.2.ends in
    let next = c.next.ensures.0 in
    let left : c.left-nodes.result.0 ≡ c.args.left.now.nodes = ap (λ (x : ℕ × ℕ). x.0) c.left-nodes.ensures in
    omega (arith, all, next, left)

pub next_name-node-requires-clause-slots : goal.next_name-node-requires-clause-slots
next_name-node-requires-clause-slots g c =
    let t = slots_in c.args.words.now in
    let r = c.requires in
    let kept = r.2.kept in
    let count = own_count t c.args.layout.now r.0 kept.since c.args.self.now.nodes Node kept.slots.node_kind kept.slots.nodes (table_in c.args.words.now c.args.layout.now c.args.seat.now r.0 r.1) in
    let few = c.min-few.ensures in
    omega (arith, count, few)

pub next_name-scx-requires-clause-pass : goal.next_name-scx-requires-clause-pass
next_name-scx-requires-clause-pass g c =
    let allows = g.S.Shape.allows in
    let words = c.args.words.now in
    let t = slots_in words in
    let r = c.requires in
    let old = c.args.self.now in
    let left = c.args.left.now in
    let own = c.next_name-node.new.own in
    let to = c.next_name-node.result in
    let e = c.next_name-node.ensures in
    let so = HasDealt allows t old.nodes own c.next.result.0.0 to in
    let on = from_dealing so c.args.seat.now.me.0 c.next_name-node.new.seat.me.0 r.0 r.1.alone e.given in
    let then = with_left Node left to (own.dealt - to) in
    let set = set_nodes allows t r.0 e.given.later on.0 left old record old { nodes = own } refl refl r.2 c.next.result.0.0 to c.next.ensures.0 refl e.still e.few.0 on.1 in (
      e.given.later,
      then,
      set.kept.since,
      at_dealing words c.args.layout.now so c.args.seat.now c.next_name-node.new.seat r.0 r.1 e.table e.given,
      set.has,
      ap (λ (k : RecordKind). next_of k then) set.kept.slots.scx_kind ∙ sym c.next.ensures.1,
      set.kept.slots.scxs,
    )

pub next_name-scx-requires-clause-left : goal.next_name-scx-requires-clause-left
next_name-scx-requires-clause-left g c =
    let t = slots_in c.args.words.now in
    let r = c.requires in
    let own = c.args.self.now.scxs in
    let kept = r.2.kept in
    let all = left_is t r.0 kept.since own Scx c.args.left.now kept.slots.scx_kind kept.slots.scxs r.2.ends in
    let next = c.next.ensures.1 in
    let left : c.left-nodes.result.1 ≡ c.args.left.now.scx = ap (λ (x : ℕ × ℕ). x.1) c.left-nodes.ensures in
    omega (arith, all, next, left)

pub next_name-scx-requires-clause-slots : goal.next_name-scx-requires-clause-slots
next_name-scx-requires-clause-slots g c =
    let t = slots_in c.args.words.now in
    let r = c.requires in
    let kept = r.2.kept in
    let count = own_count t c.args.layout.now r.0 kept.since c.args.self.now.scxs Scx kept.slots.scx_kind kept.slots.scxs (table_in c.args.words.now c.args.layout.now c.args.seat.now r.0 r.1) in
    let few = c.min-one.ensures in
    omega (arith, count, few)

pub returns-clause-set : goal.returns-clause-set
returns-clause-set g c =
    let allows = g.S.Shape.allows in
    let t = slots_in c.args.words.now in
    let r = c.requires in
    let old = c.args.self.now in
    let nodes = c.next_name-node.new.own in
    let scxs = c.next_name-scx.new.own in
    let mid = record old { nodes = nodes } in
    let new = record mid { scxs = scxs } in
    let e = c.next_name-node.ensures in
    let f = c.next_name-scx.ensures in
    let node = c.next_name-node.result in
    let scx = c.next_name-scx.result in
    let left = c.args.left.now in
    let then = with_left Node left node (nodes.dealt - node) in
    let last = with_left Scx then scx (scxs.dealt - scx) in
    let u = c.args.seat.now.me.0 in
    let v = c.next_name-node.new.seat.me.0 in
    let w = c.next_name-scx.new.seat.me.0 in
    let one = HasDealt allows t old.nodes nodes c.next.result.0.0 node in
    let two = HasDealt allows t old.scxs scxs c.next.result.1.0 scx in
    subst (λ l. DealsOn (IsStillSet allows t l new) u w) (sym c.of_run.ensures)
    (sets_on allows t left then last old mid new u v w r.0 r.1.alone r.2
    (deals_as one (Sets allows t left then old mid) u v r.0 r.1.alone (λ q goes x set. set_nodes allows t r.0 q goes left old mid refl refl set c.next.result.0.0 node c.next.ensures.0 refl e.still e.few.0 x) e.given)
    (deals_as two (Sets allows t then last mid new) v w e.given.later e.given.is (λ q goes x set. set_scxs allows t e.given.later q goes then mid new refl refl set c.next.result.1.0 scx c.next.ensures.1 refl f.still f.few.0 x) f.given))

pub returns-clause-lost : goal.returns-clause-lost
returns-clause-lost g c = let nodes = c.next_name-node.ensures.still in let scxs = c.next_name-scx.ensures.still in
    record { node_kind = nodes.kind; scx_kind = scxs.kind; nodes = nodes.lost; scxs = scxs.lost }
