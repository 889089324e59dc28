use Rattle.std.proofs.Common.{◌≡◌, ◌<◌, Bool, if◌then◌else◌, sym, ◌∙◌, ap, subst, arith}
use Rattle.arena.specs.declared.word.ScxWord.TheVariants.{Plan}
use Rattle.histories.specs.Common.{IsOwnScx, Layout, State}
use Rattle.histories.proofs.Lemmas.{own_scx_inside}
use Rattle.arena.specs.declared.number.PassNo.{PassNo}
use Rattle.tables.specs.declared.memory.PassMemory.{PassMemory}
use Rattle.upkeep.specs.UpkeepBook.{NowRemembers, memory_with_note, name_numbered, record_numbered, slots_in}
use Rattle.upkeep.specs.UpkeepScx.{HasLoaded, IsDoneTo}
use Rattle.upkeep.specs.UpkeepSteps.{RestsOn}
use Rattle.tables.specs.declared.memory.NoteView.TheVariants.{DoneWith, MarkedOrDead}
use Rattle.upkeep.specs.declared.kind.RecordKind.TheVariants.{Scx}
use Rattle.upkeep.proofs.UpkeepDeals.{left_on}
use Rattle.upkeep.proofs.UpkeepLooks.{at_now, own_now}
use Rattle.upkeep.proofs.UpkeepScx.{name_loaded, none_done, not_done, one_done, over_now, plan_stays}
use Rattle.upkeep.proofs.UpkeepSteps.{rests_on}
use Rattle.upkeep.proofs.UpkeepTurn.{from_pass, name_stays, still_taken}
use Rattle.upkeep.proofs.scx.is_over.Goals as goal

pub place-at-requires : goal.place-at-requires
place-at-requires g c = let r = c.requires.pass in (own_scx_inside c.args.layout.now r.0.number.0 c.args.slot r.2.is_pass r.4, tt)

pub load_part-requires-clause-pass : goal.load_part-requires-clause-pass
load_part-requires-clause-pass g c = let r = c.requires.pass in (r.0, r.2, r.4, r.5)

pub load_part-state-requires-clause-pass : goal.load_part-state-requires-clause-pass
load_part-state-requires-clause-pass g c =
    let r = c.requires.pass in
    let allows = g.S.Shape.allows in
    let so = HasLoaded c.args.name Plan c.load_part.result in
    let x = c.load_part.ensures.loaded in
    let goes = from_pass allows so c.args.seat.now.me.0 c.load_part.new.seat.me.0 r.0 r.2.alone x in (
      x.later,
      at_now c.args.words.now c.args.layout.now allows so c.args.seat.now c.load_part.new.seat r.0 r.2 c.load_part.ensures.table x,
      own_now c.args.words.now c.args.layout.now allows so c.args.seat.now c.load_part.new.seat r.0 r.2 x (record_numbered Scx c.args.slot) r.4,
      name_loaded allows (slots_in c.args.words.now) r.0 x.later c.args.slot c.args.name c.load_part.result Plan goes.0 goes.1 r.5,
    )

pub loop-place-init : goal.loop-place-init
loop-place-init g c =
    let r = c.requires.pass in
    let allows = g.S.Shape.allows in
    let x = c.load_part.ensures.loaded in
    let y = c.load_part-state.ensures.loaded in
    let first = from_pass allows (HasLoaded c.args.name Plan c.load_part.result) c.args.seat.now.me.0 c.load_part.new.seat.me.0 r.0 r.2.alone x in
    let second = from_pass allows (HasLoaded c.args.name State c.load_part-state.result) c.load_part.new.seat.me.0 c.load_part-state.new.seat.me.0 x.later x.is y in
    let all = rests_on allows r.0 x.later y.later first.0 second.0 in
    let own = subst (λ (k : PassNo). IsOwnScx x.later.layout k.0 c.args.name) (sym first.0.number) (subst (λ (l : Layout). IsOwnScx l r.0.number.0 c.args.name) (sym (first.0.layout ∙ r.2.names)) r.5.own) in
    record {
      stays = (c.load_part-state.ensures.table.0 ∙ c.load_part.ensures.table.0, c.load_part-state.ensures.table.1 ∙ c.load_part.ensures.table.1);
      so = record {
        pass = r.0;
        later = y.later;
        was = r.2.alone;
        is = y.is;
        goes_on = all;
        holds = none_done allows (slots_in c.args.words.now) c.args.slot c.args.name c.count-place-end.result c.load_part-state.result c.load_part.result r.0 x.later y.later r.1 c.count-place-end.ensures.count second.0 (left_on allows r.0 y.later r.1 all (ap (λ (m : PassMemory). m.away) (second.1.same ∙ first.1.same)) r.3) own first.1 second.1;
      };
    }

pub is_done-requires-clause-pass : goal.is_done-requires-clause-pass
is_done-requires-clause-pass g c =
    let r = c.requires.pass in
    let allows = g.S.Shape.allows in
    let t = slots_in c.args.words.now in
    let inv = c.loop-place.invariant in
    let x = inv.so in
    let so = IsDoneTo t c.args.slot c.args.name c.count-place-end.result c.load_part-state.result c.load_part.result c.loop-place.place in
    let on = from_pass allows so c.args.seat.now.me.0 c.loop-place.seat.me.0 r.0 r.2.alone x in (
      x.later,
      r.1,
      at_now c.args.words.now c.args.layout.now allows so c.args.seat.now c.loop-place.seat r.0 r.2 inv.stays x,
      left_on allows r.0 x.later r.1 on.0 on.1.keeps.rests.away r.3,
      own_now c.args.words.now c.args.layout.now allows so c.args.seat.now c.loop-place.seat r.0 r.2 x (record_numbered Scx c.args.slot) r.4,
      name_stays allows r.0 x.later on.0 t Scx c.args.slot c.args.name on.1.holds r.5,
      still_taken allows r.0 x.later on.0 (record_numbered Scx c.args.name) r.6,
      λ yes. let z = c.has_removed-removed.ensures yes in on.1.removed c.loop-place.place (z.0, subst (λ n. c.loop-place.place < n) c.count-place-end.ensures.count c.loop-place-test.true, z.1),
    )

pub loop-place-preserved : goal.loop-place-preserved
loop-place-preserved g c =
    let r = c.requires.pass in
    let allows = g.S.Shape.allows in
    let t = slots_in c.args.words.now in
    let inv = c.loop-place.invariant in
    let x = inv.so in
    let j = c.loop-place.place in
    let so = IsDoneTo t c.args.slot c.args.name c.count-place-end.result c.load_part-state.result c.load_part.result j in
    let on = from_pass allows so c.args.seat.now.me.0 c.loop-place.seat.me.0 r.0 r.2.alone x in
    let n = name_numbered Scx c.args.name in
    let looked = subst (λ (b : Bool). RestsOn allows (NowRemembers (λ m rows. if b then memory_with_note m n (DoneWith j) else m)) c.loop-place.seat.me.0 c.is_done.new.seat.me.0) c.if-not-is_done.false c.is_done.ensures.looked in
    let next = from_pass allows (NowRemembers (λ m rows. memory_with_note m n (DoneWith j))) c.loop-place.seat.me.0 c.is_done.new.seat.me.0 x.later x.is looked in
    let all = rests_on allows r.0 x.later looked.later on.0 next.0 in
    let away = ap (λ (m : PassMemory). m.away) next.1 ∙ on.1.keeps.rests.away in
    let own = subst (λ (k : PassNo). IsOwnScx x.later.layout k.0 c.args.name) (sym on.0.number) (subst (λ (l : Layout). IsOwnScx l r.0.number.0 c.args.name) (sym (on.0.layout ∙ r.2.names)) r.5.own) in
    let same = plan_stays allows x.later looked.later r.1 c.args.name next.0 (left_on allows r.0 looked.later r.1 all away r.3) own in record {
      stays = (c.is_done.ensures.table.0 ∙ inv.stays.0, c.is_done.ensures.table.1 ∙ inv.stays.1);
      so = record {
        pass = r.0;
        later = looked.later;
        was = r.2.alone;
        is = looked.is;
        goes_on = all;
        holds = one_done allows t c.args.slot c.args.name c.count-place-end.result c.load_part-state.result c.load_part.result j r.0 x.later looked.later on.1 next.0 same next.1;
      };
    }

pub note_over-requires : goal.note_over-requires
note_over-requires g c =
    let r = c.requires.pass in
    let allows = g.S.Shape.allows in
    let t = slots_in c.args.words.now in
    let inv = c.loop-place.invariant in
    let x = inv.so in
    let so = IsDoneTo t c.args.slot c.args.name c.count-place-end.result c.load_part-state.result c.load_part.result c.loop-place.place in
    let on = from_pass allows so c.args.seat.now.me.0 c.loop-place.seat.me.0 r.0 r.2.alone x in
    let end : c.count-place-end.result ≡ c.loop-place.place = omega (arith, c.loop-place-test.false, c.loop-place.auto.place-end) in (
      x.later,
      r.1,
      at_now c.args.words.now c.args.layout.now allows so c.args.seat.now c.loop-place.seat r.0 r.2 inv.stays x,
      c.place-at.ensures.inside,
      left_on allows r.0 x.later r.1 on.0 on.1.keeps.rests.away r.3,
      (name_stays allows r.0 x.later on.0 t Scx c.args.slot c.args.name on.1.holds r.5).held,
      still_taken allows r.0 x.later on.0 (record_numbered Scx c.args.name) r.6,
      λ j less. on.1.done j (subst (λ n. j < n) (on.1.nodes ∙ end) less),
    )

pub returns-then-not-is_done-clause-table : goal.returns-then-not-is_done-clause-table
returns-then-not-is_done-clause-table g c = let inv = c.loop-place.invariant in let e = c.is_done.ensures in (e.table.0 ∙ inv.stays.0, e.table.1 ∙ inv.stays.1)

pub returns-then-not-is_done-clause-looked : goal.returns-then-not-is_done-clause-looked
returns-then-not-is_done-clause-looked g c =
    let r = c.requires.pass in
    let allows = g.S.Shape.allows in
    let t = slots_in c.args.words.now in
    let x = c.loop-place.invariant.so in
    let j = c.loop-place.place in
    let n = name_numbered Scx c.args.name in
    let so = IsDoneTo t c.args.slot c.args.name c.count-place-end.result c.load_part-state.result c.load_part.result j in
    let on = from_pass allows so c.args.seat.now.me.0 c.loop-place.seat.me.0 r.0 r.2.alone x in
    let looked = subst (λ (b : Bool). RestsOn allows (NowRemembers (λ m rows. if b then memory_with_note m n (DoneWith j) else m)) c.loop-place.seat.me.0 c.is_done.new.seat.me.0) c.if-not-is_done.true c.is_done.ensures.looked in
    let next = from_pass allows (NowRemembers (λ m rows. m)) c.loop-place.seat.me.0 c.is_done.new.seat.me.0 x.later x.is looked in
    let all = rests_on allows r.0 x.later looked.later on.0 next.0 in
    record {
      pass = r.0;
      later = looked.later;
      was = r.2.alone;
      is = looked.is;
      goes_on = all;
      holds = not_done allows t c.args.slot c.args.name c.count-place-end.result c.load_part-state.result c.load_part.result j c.args.name r.0 x.later looked.later on.1 all next.1 r.5;
    }

pub returns-clause-table : goal.returns-clause-table
returns-clause-table g c = let inv = c.loop-place.invariant in let e = c.note_over.ensures in (e.table.0 ∙ inv.stays.0, e.table.1 ∙ inv.stays.1)

pub returns-clause-looked : goal.returns-clause-looked
returns-clause-looked g c =
    let r = c.requires.pass in
    let allows = g.S.Shape.allows in
    let t = slots_in c.args.words.now in
    let x = c.loop-place.invariant.so in
    let j = c.loop-place.place in
    let n = name_numbered Scx c.args.name in
    let so = IsDoneTo t c.args.slot c.args.name c.count-place-end.result c.load_part-state.result c.load_part.result j in
    let on = from_pass allows so c.args.seat.now.me.0 c.loop-place.seat.me.0 r.0 r.2.alone x in
    let looked = c.note_over.ensures.looked in
    let next = from_pass allows (NowRemembers (λ m rows. memory_with_note m n (MarkedOrDead rows))) c.loop-place.seat.me.0 c.note_over.new.seat.me.0 x.later x.is looked in
    let all = rests_on allows r.0 x.later looked.later on.0 next.0 in
    record {
      pass = r.0;
      later = looked.later;
      was = r.2.alone;
      is = looked.is;
      goes_on = all;
      holds = over_now allows t c.args.slot c.args.name c.count-place-end.result c.load_part-state.result c.load_part.result j r.0 x.later looked.later on.1 all next.1 r.5;
    }
