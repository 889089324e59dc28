use Rattle.std.proofs.Common.{Bool, if◌then◌else◌, [], sym, subst}
use Rattle.slots.specs.Lasting.{IsOwnRecord, IsTaken}
use Rattle.tables.specs.TableRule.{past_of}
use Rattle.upkeep.specs.UpkeepBook.{IsNameIn, KnowsNow, NowRemembers, memory_with_note, name_numbered, record_numbered, slots_in}
use Rattle.upkeep.specs.UpkeepSteps.{RestsOn}
use Rattle.tables.specs.declared.memory.NoteView.TheVariants.{MarkedOrDead}
use Rattle.upkeep.specs.declared.book.SlotUse.TheVariants.{Found, Used}
use Rattle.upkeep.specs.declared.kind.RecordKind.{RecordKind}
use Rattle.upkeep.specs.declared.kind.RecordKind.TheVariants.{Node, Scx}
use Rattle.upkeep.proofs.UpkeepTurn.{as_known, marked_now, unmarked_now}
use Rattle.upkeep.proofs.turn.look_at.Goals as goal

pub is_marked-requires : goal.is_marked-requires
is_marked-requires g c = let r = c.requires.pass in let p = r.0 in (
  p,
  r.1,
  subst (λ (k : RecordKind). IsOwnRecord c.args.layout.now p.number.0 (record_numbered k c.args.slot)) c.in-Node.is r.2,
  subst (λ (k : RecordKind). IsNameIn (slots_in c.args.words.now) p.number.0 p.memory k c.args.slot c.args.name) c.in-Node.is r.3,
  subst (λ (k : RecordKind). IsTaken (past_of p []) (record_numbered k c.args.name)) c.in-Node.is r.4,
)

pub returns-then-is_marked-clause-looked : goal.returns-then-is_marked-clause-looked
returns-then-is_marked-clause-looked g c = let r = c.requires.pass in let allows = g.S.Shape.allows in let t = slots_in c.args.words.now in
    as_known allows t c.args.kind c.args.slot record { name = c.args.name; known = Found } c.args.seat.now.me.0 c.is_marked.new.seat.me.0 _ r.0 r.1.alone
    (λ q goes e. marked_now t c.args.kind c.args.slot allows r.0 q goes c.args.name r.3 e)
    (subst (λ (b : Bool). RestsOn allows (NowRemembers (λ m rows. if b then memory_with_note m (name_numbered c.args.kind c.args.name) (MarkedOrDead rows) else m)) c.args.seat.now.me.0 c.is_marked.new.seat.me.0) c.if-is_marked.true
    (subst (λ (k : RecordKind). RestsOn allows (NowRemembers (λ m rows. if c.is_marked.result then memory_with_note m (name_numbered k c.args.name) (MarkedOrDead rows) else m)) c.args.seat.now.me.0 c.is_marked.new.seat.me.0) (sym c.in-Node.is) c.is_marked.ensures.looked))

pub returns-else-is_marked-clause-looked : goal.returns-else-is_marked-clause-looked
returns-else-is_marked-clause-looked g c = let r = c.requires.pass in let allows = g.S.Shape.allows in let t = slots_in c.args.words.now in
    as_known allows t c.args.kind c.args.slot record { name = c.args.name; known = Used } c.args.seat.now.me.0 c.is_marked.new.seat.me.0 _ r.0 r.1.alone
    (λ q goes e. unmarked_now t c.args.kind c.args.slot allows r.0 q goes c.args.name r.3 e)
    (subst (λ (b : Bool). RestsOn allows (NowRemembers (λ m rows. if b then memory_with_note m (name_numbered Node c.args.name) (MarkedOrDead rows) else m)) c.args.seat.now.me.0 c.is_marked.new.seat.me.0) c.if-is_marked.false c.is_marked.ensures.looked)

pub is_over-requires-clause-pass : goal.is_over-requires-clause-pass
is_over-requires-clause-pass g c = let r = c.requires.pass in let p = r.0 in (
  p,
  r.5,
  r.1,
  r.6,
  subst (λ (k : RecordKind). IsOwnRecord c.args.layout.now p.number.0 (record_numbered k c.args.slot)) c.in-Scx.is r.2,
  subst (λ (k : RecordKind). IsNameIn (slots_in c.args.words.now) p.number.0 p.memory k c.args.slot c.args.name) c.in-Scx.is r.3,
  subst (λ (k : RecordKind). IsTaken (past_of p []) (record_numbered k c.args.name)) c.in-Scx.is r.4,
)

pub returns-then-is_over-clause-looked : goal.returns-then-is_over-clause-looked
returns-then-is_over-clause-looked g c = let allows = g.S.Shape.allows in let t = slots_in c.args.words.now in
    subst (λ (k : RecordKind). RestsOn allows (KnowsNow t k c.args.slot record { name = c.args.name; known = Found }) c.args.seat.now.me.0 c.is_over.new.seat.me.0) (sym c.in-Scx.is)
    (subst (λ (b : Bool). RestsOn allows (KnowsNow t Scx c.args.slot record { name = c.args.name; known = if b then Found else Used }) c.args.seat.now.me.0 c.is_over.new.seat.me.0) c.if-is_over.true c.is_over.ensures.looked)

pub returns-else-is_over-clause-looked : goal.returns-else-is_over-clause-looked
returns-else-is_over-clause-looked g c = let allows = g.S.Shape.allows in let t = slots_in c.args.words.now in
    subst (λ (k : RecordKind). RestsOn allows (KnowsNow t k c.args.slot record { name = c.args.name; known = Used }) c.args.seat.now.me.0 c.is_over.new.seat.me.0) (sym c.in-Scx.is)
    (subst (λ (b : Bool). RestsOn allows (KnowsNow t Scx c.args.slot record { name = c.args.name; known = if b then Found else Used }) c.args.seat.now.me.0 c.is_over.new.seat.me.0) c.if-is_over.false c.is_over.ensures.looked)
