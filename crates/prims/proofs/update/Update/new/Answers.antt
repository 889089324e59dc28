use Rattle.std.proofs.Common.{rules, refl, ◌∙◌, ap}
use Rattle.arena.specs.MemberIndex.{member_index}
use Rattle.prims.specs.Snap.{snap_at}
use Rattle.prims.proofs.Planned.{field_is, side_is, removes_is, update_over}
use Rattle.prims.proofs.update.Update.new.Goals as goal

pub returns-clause-over : goal.returns-clause-over
returns-clause-over c =
    update_over c.args.snaps.now c.args.finalize.now (member_index c.place_of-at.result) c.args.field.1 c.removed.result c.new-2.result.0 c.new-2.ensures c.removed.ensures.four c.requires.fits c.place_of-at.ensures.within c.removed.ensures.bits
    _ refl (search rules) c.requires.distinct (search rules)

pub returns-clause-field : goal.returns-clause-field
returns-clause-field c = record {
  node = ap (λ i. (snap_at c.args.snaps.now i).node.0) (field_is c.args.snaps.now c.args.finalize.now (member_index c.place_of-at.result) c.args.field.1 c.removed.result c.new-2.result.0 c.new-2.ensures c.removed.ensures.four c.requires.fits c.place_of-at.ensures.within c.removed.ensures.bits)
      ∙ c.place_of-at.ensures.is;
  side = side_is c.args.snaps.now c.args.finalize.now (member_index c.place_of-at.result) c.args.field.1 c.removed.result c.new-2.result.0 c.new-2.ensures c.removed.ensures.four c.requires.fits c.place_of-at.ensures.within c.removed.ensures.bits;
}

pub returns-clause-removed : goal.returns-clause-removed
returns-clause-removed c = removes_is c.args.snaps.now c.args.finalize.now (member_index c.place_of-at.result) c.args.field.1 c.removed.result c.new-2.result.0 c.new-2.ensures c.removed.ensures.four c.requires.fits c.place_of-at.ensures.within c.removed.ensures.bits
