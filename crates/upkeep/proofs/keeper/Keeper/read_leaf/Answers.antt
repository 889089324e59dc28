use Rattle.std.proofs.Common.{◌+◌, ◌<◌, [], Option, Some, IfSome, arith, refl, subst}
use Rattle.resting.specs.Lookups.{WasLeafOf}
use Rattle.tables.specs.TableRule.{past_of}
use Rattle.upkeep.specs.UpkeepBook.{slots_in}
use Rattle.upkeep.specs.UpkeepLeaves.{HasReadLeaf, HasReadLeafAt}
use Rattle.upkeep.specs.declared.book.SlotUse.TheVariants.{Used}
use Rattle.upkeep.specs.declared.book.OwnSlot.{OwnSlot}
use Rattle.upkeep.specs.declared.leaf.OwnLeaf.{OwnLeaf}
use Rattle.upkeep.proofs.UpkeepLeaves.{read_inside, slot_own, used_name}
use Rattle.upkeep.proofs.UpkeepLooks.{table_in}
use Rattle.upkeep.proofs.UpkeepSteps.{seat_as}
use Rattle.upkeep.proofs.keeper.Keeper.read_leaf.Goals as goal

pub overflow_add-slot : goal.overflow_add-slot
overflow_add-slot g c =
    let nodes = c.args.self.now.nodes in
    let used : OwnSlot = record { name = c.args.name; known = Used } in
    let less = read_inside nodes.slots.items c.args.index used c.requires.3 in
    let len = nodes.slots.ok.0 in
    let fits = nodes.fits in
    omega (arith, less, len, fits)

pub leaf_key-requires : goal.leaf_key-requires
leaf_key-requires g c =
    let r = c.requires in
    let t = slots_in c.args.words.now in
    let nodes = c.args.self.now.nodes in
    let books = r.2.books in
    let used : OwnSlot = record { name = c.args.name; known = Used } in (
      r.0,
      r.1,
      slot_own t r.0 books.since nodes books.slots.node_kind books.slots.nodes c.args.index used r.3 c.args.layout.now (table_in c.args.words.now c.args.layout.now c.args.seat.now r.0 r.1),
      used_name t r.0 books.since nodes books.slots.node_kind books.slots.nodes c.args.index used r.3 refl,
    )

pub returns-in_default-clause-read : goal.returns-in_default-clause-read
returns-in_default-clause-read g c = seat_as g.S.Shape.allows _ _ c.args.seat.now.me.0 c.leaf_key.new.seat.me.0 (λ p q goes was x. record { same = x.same; leaf = tt }) c.leaf_key.ensures.read

pub returns-clause-read : goal.returns-clause-read
returns-clause-read g c =
    let leaf : OwnLeaf = record { index = c.args.index; slot = c.args.self.now.nodes.first + c.args.index; name = c.args.name; key = c.in-Some.key } in
    seat_as g.S.Shape.allows (HasReadLeaf c.args.name c.leaf_key.result) (HasReadLeafAt (Some leaf)) c.args.seat.now.me.0 c.leaf_key.new.seat.me.0
    (λ p q goes was x. record { same = x.same; leaf = subst (λ k. IfSome k (WasLeafOf (past_of q []) (past_of p []) c.args.name)) c.in-Some.is x.leaf })
    c.leaf_key.ensures.read

pub returns-clause-slot : goal.returns-clause-slot
returns-clause-slot g c = record { index = refl; place = refl; slot = c.requires.3; taken = c.requires.4 }
