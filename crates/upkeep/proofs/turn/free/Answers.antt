use Rattle.upkeep.specs.UpkeepBook.{slots_in}
use Rattle.upkeep.proofs.UpkeepLooks.{at_now, is_word_of, own_now}
use Rattle.upkeep.proofs.UpkeepSteps.{rests_on}
use Rattle.upkeep.proofs.UpkeepTurn.{freed_on, from_pass, gone_now, still_taken}
use Rattle.upkeep.proofs.turn.free.Goals as goal

pub place-at-requires : goal.place-at-requires
place-at-requires g c = let r = c.requires in is_word_of c.args.layout.now r.0.number.0 c.word_at.result _ r.2.is_pass r.3 c.word_at.ensures.record c.word_at.ensures.part

pub note_gone-requires : goal.note_gone-requires
note_gone-requires g c = let r = c.requires in (r.0, r.1, r.2, c.place-at.ensures.inside, r.4, r.6)

pub empty-requires : goal.empty-requires
empty-requires g c =
    let r = c.requires in
    let allows = g.S.Shape.allows in
    let words = c.args.words.now in
    let lay = c.args.layout.now in
    let x = c.note_gone.ensures.looked in
    let on = from_pass allows _ c.args.seat.now.me.0 c.note_gone.new.seat.me.0 r.0 r.2.alone x in
    let gone = gone_now (slots_in words) c.args.kind c.args.slot allows r.0 x.later on.0 c.args.name r.5 on.1 in (
      x.later,
      at_now words lay allows _ c.args.seat.now c.note_gone.new.seat r.0 r.2 c.note_gone.ensures.table x,
      c.place-at.ensures.inside,
      own_now words lay allows _ c.args.seat.now c.note_gone.new.seat r.0 r.2 x _ r.3,
      gone.0,
      gone.1,
      still_taken allows r.0 x.later on.0 _ r.7,
    )

pub returns-clause-freed : goal.returns-clause-freed
returns-clause-freed g c =
    let r = c.requires in
    let allows = g.S.Shape.allows in
    let t = slots_in c.args.words.now in
    let x = c.note_gone.ensures.looked in
    let on = from_pass allows _ c.args.seat.now.me.0 c.note_gone.new.seat.me.0 r.0 r.2.alone x in
    let gone = gone_now t c.args.kind c.args.slot allows r.0 x.later on.0 c.args.name r.5 on.1 in
    let y = c.empty.ensures.freed in
    let last = from_pass allows _ c.note_gone.new.seat.me.0 c.empty.new.seat.me.0 x.later x.is y in
    record {
      pass = r.0;
      later = y.later;
      was = r.2.alone;
      is = y.is;
      goes_on = rests_on allows r.0 x.later y.later on.0 last.0;
      holds = freed_on t c.args.kind c.args.slot r.0 x.later y.later gone.2 last.1;
    }
