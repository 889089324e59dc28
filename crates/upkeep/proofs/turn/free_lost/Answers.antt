use Rattle.upkeep.specs.UpkeepBook.{slots_in}
use Rattle.upkeep.proofs.UpkeepLooks.{at_now, is_word_of, own_now}
use Rattle.upkeep.proofs.UpkeepSteps.{rests_on}
use Rattle.upkeep.proofs.UpkeepTurn.{freed_on, from_pass, gone_now, lost_unneeded, still_taken}
use Rattle.upkeep.proofs.turn.free_lost.Goals as goal

pub place-at-requires : goal.place-at-requires
place-at-requires g c = let r = c.requires in is_word_of c.args.layout.now r.0.number.0 c.word_at.result _ r.1.is_pass r.2 c.word_at.ensures.record c.word_at.ensures.part

pub note_unneeded-requires : goal.note_unneeded-requires
note_unneeded-requires g c = let r = c.requires in (r.0, r.1, c.place-at.ensures.inside, r.5, lost_unneeded r.0.layout r.0.number.0 _ c.args.kind c.args.name r.4)

pub empty-requires : goal.empty-requires
empty-requires g c =
    let r = c.requires in
    let allows = g.S.Shape.allows in
    let words = c.args.words.now in
    let lay = c.args.layout.now in
    let x = c.note_unneeded.ensures.looked in
    let on = from_pass allows _ c.args.seat.now.me.0 c.note_unneeded.new.seat.me.0 r.0 r.1.alone x in
    let gone = gone_now (slots_in words) c.args.kind c.args.slot allows r.0 x.later on.0 c.args.name r.3 on.1 in (
      x.later,
      at_now words lay allows _ c.args.seat.now c.note_unneeded.new.seat r.0 r.1 c.note_unneeded.ensures.table x,
      c.place-at.ensures.inside,
      own_now words lay allows _ c.args.seat.now c.note_unneeded.new.seat r.0 r.1 x _ r.2,
      gone.0,
      gone.1,
      still_taken allows r.0 x.later on.0 _ r.6,
    )

pub returns-clause-freed : goal.returns-clause-freed
returns-clause-freed g c =
    let r = c.requires in
    let allows = g.S.Shape.allows in
    let t = slots_in c.args.words.now in
    let x = c.note_unneeded.ensures.looked in
    let on = from_pass allows _ c.args.seat.now.me.0 c.note_unneeded.new.seat.me.0 r.0 r.1.alone x in
    let gone = gone_now t c.args.kind c.args.slot allows r.0 x.later on.0 c.args.name r.3 on.1 in
    let y = c.empty.ensures.freed in
    let last = from_pass allows _ c.note_unneeded.new.seat.me.0 c.empty.new.seat.me.0 x.later x.is y in
    record {
      pass = r.0;
      later = y.later;
      was = r.1.alone;
      is = y.is;
      goes_on = rests_on allows r.0 x.later y.later on.0 last.0;
      holds = freed_on t c.args.kind c.args.slot r.0 x.later y.later gone.2 last.1;
    }
