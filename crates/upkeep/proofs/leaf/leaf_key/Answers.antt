use Rattle.std.proofs.Common.{◌≡◌, [], Bool, true, false, not, ap, refl, sym, ◌∙◌}
use Rattle.arena.specs.declared.head.Head.{Head as HeadOf}
use Rattle.tables.specs.TableRule.{past_of}
use Rattle.arena.proofs.Lemmas.{ends_self}
use Rattle.arena.specs.declared.word.NodeWord.TheVariants.{Settled}
use Rattle.arena.specs.declared.word.SettledPart.TheVariants.{Head, Key, More}
use Rattle.arena.specs.declared.word.Slot.TheVariants.{First}
use Rattle.histories.specs.Common.{node}
use Rattle.tables.specs.declared.memory.PassMemory.{PassMemory}
use Rattle.upkeep.specs.UpkeepBook.{record_numbered, slots_in}
use Rattle.upkeep.specs.UpkeepSteps.{HasLoadedWord}
use Rattle.upkeep.specs.declared.kind.RecordKind.TheVariants.{Node}
use Rattle.upkeep.proofs.UpkeepLeaves.{was_leaf}
use Rattle.upkeep.proofs.UpkeepLooks.{at_now, own_now}
use Rattle.upkeep.proofs.UpkeepSteps.{rests_on}
use Rattle.upkeep.proofs.UpkeepTurn.{from_pass, known_on, name_stays}
use Rattle.upkeep.proofs.leaf.leaf_key.Goals as goal

pub load_part-requires-2 : goal.load_part-requires-2
load_part-requires-2 g c =
    let r = c.requires in
    let allows = g.S.Shape.allows in
    let words = c.args.words.now in
    let lay = c.args.layout.now in
    let so = HasLoadedWord (node c.args.name (Settled Head)) c.load_part.result in
    let x = c.load_part.ensures.loaded in
    let on = from_pass allows so c.args.seat.now.me.0 c.load_part.new.seat.me.0 r.0 r.1.alone x in (
      x.later,
      at_now words lay allows so c.args.seat.now c.load_part.new.seat r.0 r.1 c.load_part.ensures.table x,
      own_now words lay allows so c.args.seat.now c.load_part.new.seat r.0 r.1 x (record_numbered Node c.args.slot) r.2,
      name_stays allows r.0 x.later on.0 (slots_in words) Node c.args.slot c.args.name (ap (λ (m : PassMemory). m.holds) on.1.same) r.3,
    )

pub load_part-requires-3 : goal.load_part-requires-3
load_part-requires-3 g c =
    let r = c.requires in
    let allows = g.S.Shape.allows in
    let words = c.args.words.now in
    let lay = c.args.layout.now in
    let so = HasLoadedWord (node c.args.name (Settled Head)) c.load_part.result in
    let then = HasLoadedWord (node c.args.name (Settled More)) c.load_part-2.result in
    let x = c.load_part.ensures.loaded in
    let y = c.load_part-2.ensures.loaded in
    let on = from_pass allows so c.args.seat.now.me.0 c.load_part.new.seat.me.0 r.0 r.1.alone x in
    let next = from_pass allows then c.load_part.new.seat.me.0 c.load_part-2.new.seat.me.0 x.later x.is y in
    let at = at_now words lay allows so c.args.seat.now c.load_part.new.seat r.0 r.1 c.load_part.ensures.table x in
    let own = own_now words lay allows so c.args.seat.now c.load_part.new.seat r.0 r.1 x (record_numbered Node c.args.slot) r.2 in (
      y.later,
      at_now words lay allows then c.load_part.new.seat c.load_part-2.new.seat x.later at c.load_part-2.ensures.table y,
      own_now words lay allows then c.load_part.new.seat c.load_part-2.new.seat x.later at y (record_numbered Node c.args.slot) own,
      name_stays allows x.later y.later next.0 (slots_in words) Node c.args.slot c.args.name (ap (λ (m : PassMemory). m.holds) next.1.same) (name_stays allows r.0 x.later on.0 (slots_in words) Node c.args.slot c.args.name (ap (λ (m : PassMemory). m.holds) on.1.same) r.3),
    )

pub returns-then-load_part-ne0-clause-read : goal.returns-then-load_part-ne0-clause-read
returns-then-load_part-ne0-clause-read g c =
    let r = c.requires in
    let allows = g.S.Shape.allows in
    let so = HasLoadedWord (node c.args.name (Settled Head)) c.load_part.result in
    let then = HasLoadedWord (node c.args.name (Settled More)) c.load_part-2.result in
    let x = c.load_part.ensures.loaded in
    let y = c.load_part-2.ensures.loaded in
    let on = from_pass allows so c.args.seat.now.me.0 c.load_part.new.seat.me.0 r.0 r.1.alone x in
    let next = from_pass allows then c.load_part.new.seat.me.0 c.load_part-2.new.seat.me.0 x.later x.is y in
    record {
      pass = r.0;
      later = y.later;
      was = r.1.alone;
      is = y.is;
      goes_on = rests_on allows r.0 x.later y.later on.0 next.0;
      holds = record { same = next.1.same ∙ on.1.same; leaf = tt };
    }

not_false : (b : Bool) → not b ≡ false → b ≡ true
not_false true e = refl
not_false false e = absurd (let z : true ≡ false = e in cc)

pub returns-clause-read : goal.returns-clause-read
returns-clause-read g c =
    let r = c.requires in
    let allows = g.S.Shape.allows in
    let so = HasLoadedWord (node c.args.name (Settled Head)) c.load_part.result in
    let then = HasLoadedWord (node c.args.name (Settled More)) c.load_part-2.result in
    let last = HasLoadedWord (node c.args.name (Settled (Key First))) c.load_part-3.result in
    let x = c.load_part.ensures.loaded in
    let y = c.load_part-2.ensures.loaded in
    let z = c.load_part-3.ensures.loaded in
    let one = from_pass allows so c.args.seat.now.me.0 c.load_part.new.seat.me.0 r.0 r.1.alone x in
    let two = from_pass allows then c.load_part.new.seat.me.0 c.load_part-2.new.seat.me.0 x.later x.is y in
    let three = from_pass allows last c.load_part-2.new.seat.me.0 c.load_part-3.new.seat.me.0 y.later y.is z in
    let behind = rests_on allows x.later y.later z.later two.0 three.0 in
    record {
      pass = r.0;
      later = z.later;
      was = r.1.alone;
      is = z.is;
      goes_on = rests_on allows r.0 x.later z.later one.0 behind;
      holds = record {
        same = three.1.same ∙ two.1.same ∙ one.1.same;
        leaf = was_leaf (past_of z.later []) (past_of x.later []) (past_of z.later []) (past_of r.0 []) c.args.name c.load_part.result c.load_part-3.result (ends_self (past_of z.later [])) (known_on allows x.later z.later behind) (known_on allows r.0 x.later one.0) one.1.value
            (ap (λ (h : HeadOf). h.leaf) (sym c.of-head.ensures) ∙ not_false c.of-head.result.leaf c.if-not-head.false)
            (ap (λ (h : HeadOf). h.class) (sym c.of-head.ensures) ∙ c.if-head-ne0.false) three.1.value;
      };
    }
