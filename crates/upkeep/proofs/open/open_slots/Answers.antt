use Rattle.std.proofs.Common.{◌≡◌, ◌<◌, ◌+◌, sym, ◌∙◌, ap, subst, arith}
use Rattle.arena.specs.declared.number.PassNo.{PassNo}
use Rattle.tables.specs.LastingOpening.{first_memory}
use Rattle.tables.specs.Slotted.{in_turns}
use Rattle.upkeep.specs.UpkeepBook.{count_own, first_own}
use Rattle.upkeep.specs.declared.book.SlotUse.TheVariants.{Used}
use Rattle.upkeep.specs.declared.book.OwnSlot.{OwnSlot}
use Rattle.upkeep.proofs.UpkeepOpening.{opens_book, used_apart}
use Rattle.upkeep.proofs.open.open_slots.Goals as goal

pub returns-clause-book : goal.returns-clause-book
returns-clause-book c = λ p since number memory.
    let t = in_turns c.args.layout.now c.args.turns.now in
    let kind = c.args.kind in
    let at = c.own_places-at.ensures in
    let o : c.args.pass.0 ≡ p.number.0 = ap (λ (n : PassNo). n.0) (sym number) in
    let end : c.loop-i.i ≡ count_own kind t.table = (let a = c.loop-i-test.false in let b = c.loop-i.auto.i-end in let e = at.count in omega (arith, a, b, e)) in
    opens_book t c.requires.lasting p since _ (subst (λ n. n < c.args.layout.now.passes) o c.requires.pass) (memory ∙ ap (first_memory t) o) (at.first ∙ ap (λ n. first_own kind t.table n) o) at.turn (at.end ∙ ap (λ n. first_own kind t.lay n + count_own kind t.lay) o) (ap (λ n. c.own_places-at.result.name + n) (c.from-2.ensures ∙ at.count) ∙ ap (λ n. n + count_own kind t.table) (at.name ∙ ap (λ n. first_own kind t.lay n) o)) (c.loop-i.invariant.count ∙ end)
    (λ j x there. c.loop-i.invariant.named j x there ∙ ap (λ n. let z : OwnSlot = record { name = n + j; known = Used } in z) (at.name ∙ ap (λ n. first_own kind t.lay n) o))

pub returns-clause-lost : goal.returns-clause-lost
returns-clause-lost c = λ j x there e. used_apart x.known (ap (λ (y : OwnSlot). y.known) (c.loop-i.invariant.named j x there)) e
