use Rattle.std.proofs.Common.{◌+◌, refl, sym, ◌∙◌, subst, arith}
use Rattle.std.proofs.Math.Nat.{le_of_eq}
use Rattle.upkeep.specs.UpkeepBook.{slots_in}
use Rattle.upkeep.specs.UpkeepDeals.{HasDealt, HasShareLeft, HasPassedTo, with_left}
use Rattle.upkeep.proofs.UpkeepDealt.{book_then, keeps, knows, may_get, others, within}
use Rattle.upkeep.proofs.UpkeepDeals.{deals_as}
use Rattle.upkeep.proofs.UpkeepLooks.{is_word_of, table_in}
use Rattle.upkeep.proofs.UpkeepTurns.{own_slot}
use Rattle.upkeep.proofs.deal.put_first.Goals as goal

pub place-at-requires : goal.place-at-requires
place-at-requires g c = let r = c.requires.pass in let own = c.args.own.now in let free = c.requires.slot.0 in
    is_word_of c.args.layout.now r.0.number.0 c.word_at.result _ r.3.is_pass (own_slot (slots_in c.args.words.now) c.args.layout.now r.0 r.0 own own.kind own.first c.args.i (table_in c.args.words.now c.args.layout.now c.args.seat.now r.0 r.3) r.6.all refl refl refl (within own.slots.items c.args.i free.0 free.1)) c.word_at.ensures.record c.word_at.ensures.part

pub pass_to-requires : goal.pass_to-requires
pass_to-requires g c = let r = c.requires.pass in let own = c.args.own.now in let all = r.5 ∙ r.6.all.dealt in (
  r.0,
  r.1,
  r.3,
  c.place-at.ensures.inside,
  r.4,
  all,
  may_get g.S.Shape.allows (slots_in c.args.words.now) r.0 r.1 r.2 own c.args.i c.args.count r.3.names r.4 (le_of_eq all) r.6 c.requires.slot.0 c.requires.slot.1,
)

pub put-requires-clause-inside : goal.put-requires-clause-inside
put-requires-clause-inside g c = let free = c.requires.slot.0 in within c.args.own.now.slots.items c.args.i free.0 free.1

pub returns-clause-given : goal.returns-clause-given
returns-clause-given g c =
    let r = c.requires.pass in
    let allows = g.S.Shape.allows in
    let t = slots_in c.args.words.now in
    let own = c.args.own.now in
    let all = r.5 ∙ r.6.all.dealt in
    let may = may_get allows t r.0 r.1 r.2 own c.args.i c.args.count r.3.names r.4 (le_of_eq all) r.6 c.requires.slot.0 c.requires.slot.1 in
    deals_as (HasPassedTo allows t own.kind (own.first + c.args.i) c.args.count) (HasDealt allows t own c.put.new.self own.dealt (own.dealt + c.args.count)) c.args.seat.now.me.0 c.pass_to.new.seat.me.0 r.0 r.3.alone
    (λ q goes x. record {
      keeps = keeps t own c.put.new.self c.args.i c.args.count r.0 q goes.number goes.planting x.memory c.put.ensures.still c.put.ensures.dealt c.put.ensures.slots may;
      rested = λ was. knows t own c.put.new.self c.args.i c.args.count r.0 q goes.number goes.planting x.memory c.put.ensures.still c.put.ensures.dealt c.put.ensures.slots may;
      book = λ since book. book_then t own c.put.new.self c.args.i c.args.count r.0 q goes.number goes.planting x.memory c.put.ensures.still c.put.ensures.dealt c.put.ensures.slots may since book;
      others = others t own c.put.new.self c.args.i c.args.count r.0 q goes.number goes.planting x.memory c.put.ensures.still c.put.ensures.dealt c.put.ensures.slots may;
      left = λ left has same. subst (λ n. HasShareLeft allows q (with_left own.kind left (own.dealt + c.args.count) n)) (let e = c.put.ensures.dealt in omega (arith, e))
          (subst (λ n. HasShareLeft allows q (with_left own.kind left (n + c.args.count) 1)) (sym r.6.all.dealt) (x.left left has (same ∙ r.6.all.dealt) may.own r.3.names));
    })
    c.pass_to.ensures.given
