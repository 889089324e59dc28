use Rattle.std.proofs.Common.{◌%◌, if◌then◌else◌, sym, ◌∙◌, ap}
use Rattle.histories.specs.Common.{Info, Layout, Member, node, place}
use Rattle.upkeep.specs.UpkeepBook.{NowRemembers, memory_with_note, name_numbered, record_numbered, slots_in}
use Rattle.upkeep.specs.UpkeepScx.{HasLoaded}
use Rattle.tables.specs.declared.memory.NoteView.TheVariants.{DoneWith}
use Rattle.tables.specs.declared.memory.PassMemory.{PassMemory}
use Rattle.upkeep.specs.declared.kind.RecordKind.TheVariants.{Scx}
use Rattle.upkeep.proofs.UpkeepDeals.{left_on}
use Rattle.upkeep.proofs.UpkeepLooks.{at_now, table_in}
use Rattle.upkeep.proofs.UpkeepScx.{name_loaded}
use Rattle.upkeep.proofs.UpkeepSteps.{seat_as, seat_on}
use Rattle.upkeep.proofs.UpkeepTurn.{from_pass, still_taken}
use Rattle.upkeep.proofs.scx.is_done_with.Goals as goal

pub load_part-requires-clause-pass : goal.load_part-requires-clause-pass
load_part-requires-clause-pass g c = let r = c.requires.pass in (r.0, r.2, r.4, r.5)

pub is_let_go-requires : goal.is_let_go-requires
is_let_go-requires g c =
    let r = c.requires.pass in
    let allows = g.S.Shape.allows in
    let t = slots_in c.args.words.now in
    let of = c.args.of in
    let n = c.load_part.result in
    let so = HasLoaded of.name (Member of.place) n in
    let x = c.load_part.ensures.loaded in
    let goes = from_pass allows so c.args.seat.now.me.0 c.load_part.new.seat.me.0 r.0 r.2.alone x in (
      x.later,
      r.1,
      n,
      at_now c.args.words.now c.args.layout.now allows so c.args.seat.now c.load_part.new.seat r.0 r.2 c.load_part.ensures.table x,
      c.place-at.ensures.inside,
      left_on allows r.0 x.later r.1 goes.0 (ap (λ (m : PassMemory). m.away) goes.1.same) r.3,
      c.place-at.ensures.place ∙ ap (λ (l : Layout). place l (node (n % c.args.node_turn) Info)) (sym (table_in c.args.words.now c.args.layout.now c.args.seat.now r.0 r.2)) ∙ ap (λ k. place t.table (node (n % k) Info)) c.requires.turn.1,
      goes.1.value,
      (name_loaded allows t r.0 x.later c.args.slot of.name n (Member of.place) goes.0 goes.1 r.5).held,
      still_taken allows r.0 x.later goes.0 (record_numbered Scx of.name) r.6,
    )

pub returns-then-node-from-clause-looked : goal.returns-then-node-from-clause-looked
returns-then-node-from-clause-looked g c = let of = c.args.of in seat_as g.S.Shape.allows (HasLoaded of.name (Member of.place) c.load_part.result) (NowRemembers (λ m rows. m)) c.args.seat.now.me.0 c.load_part.new.seat.me.0 (λ p q goes one x. x.same) c.load_part.ensures.loaded

pub returns-clause-looked : goal.returns-clause-looked
returns-clause-looked g c = let of = c.args.of in let n = name_numbered Scx of.name in let found = c.is_let_go.result in
    seat_on g.S.Shape.allows (HasLoaded of.name (Member of.place) c.load_part.result) (NowRemembers (λ m rows. if found then memory_with_note m n (DoneWith of.place) else m)) (NowRemembers (λ m rows. if found then memory_with_note m n (DoneWith of.place) else m)) c.args.seat.now.me.0 c.load_part.new.seat.me.0 c.is_let_go.new.seat.me.0
    (λ p q r x e. e ∙ ap (λ (m : PassMemory). let k : PassMemory = if found then memory_with_note m n (DoneWith of.place) else m in k) x.same)
    c.load_part.ensures.loaded c.is_let_go.ensures.looked
