use Rattle.std.proofs.Common.{◌≡◌, [], IfSome, None, Option, Some, true, false, is_some, ap, arith, refl, rules, slice_get, subst, sym, ◌∙◌}
use Rattle.histories.specs.Common.{IsOwnNode, Layout}
use Rattle.histories.proofs.Lemmas.{own_node_inside}
use Rattle.ordered_map.specs.Paths.{IsAnswerAt}
use Rattle.resting.specs.Lookups.{WasLeafOf}
use Rattle.tables.specs.TableRule.{past_of}
use Rattle.upkeep.specs.declared.book.SlotUse.TheVariants.{Used}
use Rattle.upkeep.specs.UpkeepBook.{NowRemembers, memory_with_note, name_numbered, slots_in}
use Rattle.upkeep.specs.UpkeepKeeper.{IsSetNow}
use Rattle.upkeep.specs.UpkeepLeaves.{HasReadLeafAt, IsLeafAt}
use Rattle.tables.specs.declared.memory.NoteView.TheVariants.{MarkedOrDead}
use Rattle.tables.specs.declared.memory.PassMemory.{PassMemory}
use Rattle.upkeep.specs.declared.kind.RecordKind.TheVariants.{Node}
use Rattle.upkeep.specs.declared.leaf.OwnLeaf.{OwnLeaf}
use Rattle.upkeep.proofs.UpkeepDeals.{deals_not, resting_deals, rests_deal}
use Rattle.upkeep.proofs.UpkeepKeeper.{loses_nothing}
use Rattle.upkeep.proofs.UpkeepLeaves.{leaf_found, leaf_out, leaf_read, loses_no_leaf, read_inside, set_again, slot_own, used_name}
use Rattle.upkeep.proofs.UpkeepLooks.{at_now, table_in}
use Rattle.upkeep.proofs.UpkeepSet.{own_pass}
use Rattle.upkeep.proofs.UpkeepStays.{map_then}
use Rattle.upkeep.proofs.UpkeepSteps.{rests_on}
use Rattle.upkeep.proofs.UpkeepTurn.{from_pass, known_as}
use Rattle.upkeep.proofs.keeper.Keeper.note_leaf.Goals as goal

pub returns-then-is_some-clause-rests : goal.returns-then-is_some-clause-rests
returns-then-is_some-clause-rests g c =
    let r = c.requires in
    deals_not (IsSetNow g.S.Shape.allows (slots_in c.args.words.now) c.args.left.now c.args.self.now) r.0 c.args.seat.now.me.0 r.2.alone r.3

pub returns-in_default-clause-rests : goal.returns-in_default-clause-rests
returns-in_default-clause-rests g c =
    let allows = g.S.Shape.allows in
    let t = slots_in c.args.words.now in
    let r = c.requires in
    let left = c.args.left.now in
    let old = c.args.self.now in
    let u = c.args.seat.now.me.0 in
    let v = c.leaf_at.new.seat.me.0 in
    let two = IsSetNow allows t left old in
    rests_deal allows two u v (known_as allows (HasReadLeafAt c.leaf_at.result) two u v r.0 r.2.alone
    (λ q goes x. set_again c.unborn_stays_out.ensures.none allows t old old left r.0 q goes (own_pass c.args.words.now c.args.layout.now c.args.seat.now r.0 r.2) r.3 r.4
    (leaf_read allows t r.0 q goes x.same old old refl refl refl refl refl r.3.has.there r.3.kept)
    (loses_nothing old old refl refl))
    c.leaf_at.ensures.read)

pub returns-then-found-leaf-clause-rests : goal.returns-then-found-leaf-clause-rests
returns-then-found-leaf-clause-rests g c =
    let allows = g.S.Shape.allows in
    let t = slots_in c.args.words.now in
    let r = c.requires in
    let left = c.args.left.now in
    let old = c.args.self.now in
    let u = c.args.seat.now.me.0 in
    let v = c.leaf_at.new.seat.me.0 in
    let two = IsSetNow allows t left old in
    rests_deal allows two u v (known_as allows (HasReadLeafAt c.leaf_at.result) two u v r.0 r.2.alone
    (λ q goes x. set_again c.unborn_stays_out.ensures.none allows t old old left r.0 q goes (own_pass c.args.words.now c.args.layout.now c.args.seat.now r.0 r.2) r.3 r.4
    (leaf_read allows t r.0 q goes x.same old old refl refl refl refl refl r.3.has.there r.3.kept)
    (loses_nothing old old refl refl))
    c.leaf_at.ensures.read)

pub place-at-requires : goal.place-at-requires
place-at-requires g c =
    let r = c.requires in
    let t = slots_in c.args.words.now in
    let lay = c.args.layout.now in
    let nodes = c.args.self.now.nodes in
    let books = r.3.kept.books in
    let there = subst (λ (o : Option OwnLeaf). IfSome o (IsLeafAt c.args.self.now c.args.leaf.index)) c.in-Some.is c.leaf_at.ensures.slot in
    own_node_inside lay r.0.number.0 c.in-Some.found.slot r.2.is_pass
    (subst (λ n. IsOwnNode lay r.0.number.0 n) (sym there.place) (slot_own t r.0 books.since nodes books.slots.node_kind books.slots.nodes c.args.leaf.index (record { name = c.in-Some.found.name; known = Used }) there.slot lay (table_in c.args.words.now lay c.args.seat.now r.0 r.2)))

pub note_out-requires : goal.note_out-requires
note_out-requires g c =
    let allows = g.S.Shape.allows in
    let words = c.args.words.now in
    let lay = c.args.layout.now in
    let t = slots_in words in
    let r = c.requires in
    let p = r.0 in
    let books = r.3.kept.books in
    let found = c.in-Some.found in
    let so = HasReadLeafAt c.leaf_at.result in
    let x = c.leaf_at.ensures.read in
    let q = x.later in
    let on = from_pass allows so c.args.seat.now.me.0 c.leaf_at.new.seat.me.0 p r.2.alone x in
    let there = subst (λ (o : Option OwnLeaf). IfSome o (IsLeafAt c.args.self.now c.args.leaf.index)) c.in-Some.is c.leaf_at.ensures.slot in
    let leaf = subst (λ (o : Option OwnLeaf). IfSome o (λ l. WasLeafOf (past_of q []) (past_of p []) l.name l.key)) c.in-Some.is on.1.leaf in
    let name = used_name t p books.since c.args.self.now.nodes books.slots.node_kind books.slots.nodes c.args.leaf.index (record { name = found.name; known = Used }) there.slot refl in
    let own = subst (λ (l : Layout). IsOwnNode l p.number.0 found.name) (sym r.2.names) name.own in
    let out = leaf_out c.lookups_tell.ensures.out allows p q on.0 on.1.same (map_then allows p.layout q on.0.layout r.4 (on.0.sound r.3.has.run)) r.1 found.name found.key r.5
    (subst (λ k. IsAnswerAt p.layout (past_of p []) r.1 k None) (sym c.if-found-leaf.false) r.6) leaf own (r.3.kept.taken found.name own there.taken) in (
      q,
      out.0,
      at_now words lay allows so c.args.seat.now c.leaf_at.new.seat p r.2 c.leaf_at.ensures.table x,
      c.place-at.ensures.inside,
      ap (λ (m : PassMemory). m.away) on.1.same ∙ r.3.has.there,
      out.1,
      out.2,
    )

pub index_mut-requires : goal.index_mut-requires
index_mut-requires g c =
    let there = subst (λ (o : Option OwnLeaf). IfSome o (IsLeafAt c.args.self.now c.args.leaf.index)) c.in-Some.is c.leaf_at.ensures.slot in
    let slots = c.args.self.now.nodes.slots in
    let less = read_inside slots.items c.args.leaf.index (record { name = c.in-Some.found.name; known = Used }) there.slot in
    let len = slots.ok.0 in
    let at = there.index in
    omega (arith, less, len, at)

none_if : {A : Type 0} (x : Option A) → is_some x ≡ false → x ≡ None
none_if None e = refl
none_if (Some x) e = absurd (let z : true ≡ false = e in cc)

pub returns-clause-rests : goal.returns-clause-rests
returns-clause-rests g c =
    let allows = g.S.Shape.allows in
    let words = c.args.words.now in
    let lay = c.args.layout.now in
    let t = slots_in words in
    let r = c.requires in
    let p = r.0 in
    let old = c.args.self.now in
    let found = c.in-Some.found in
    let so = HasReadLeafAt c.leaf_at.result in
    let noted = NowRemembers (λ m rows. memory_with_note m (name_numbered Node found.name) (MarkedOrDead rows)) in
    let x = c.leaf_at.ensures.read in
    let y = c.note_out.ensures.looked in
    let q = x.later in
    let on = from_pass allows so c.args.seat.now.me.0 c.leaf_at.new.seat.me.0 p r.2.alone x in
    let next = from_pass allows noted c.leaf_at.new.seat.me.0 c.note_out.new.seat.me.0 q x.is y in
    let all = rests_on allows p q y.later on.0 next.0 in
    let e = next.1 ∙ ap (λ (m : PassMemory). memory_with_note m (name_numbered Node found.name) (MarkedOrDead y.later.known)) on.1.same in
    let there = subst (λ (o : Option OwnLeaf). IfSome o (IsLeafAt old c.args.leaf.index)) c.in-Some.is c.leaf_at.ensures.slot in
    let was = subst (λ i. slice_get old.nodes.slots.items i ≡ Some (record { name = found.name; known = Used })) (sym there.index) there.slot in
    record {
      pass = p;
      later = y.later;
      was = r.2.alone;
      is = y.is;
      goes_on = resting_deals p y.later all;
      holds = set_again c.unborn_stays_out.ensures.none allows t old _ c.args.left.now p y.later all (own_pass words lay c.args.seat.now p r.2) r.3 r.4
          (leaf_found allows t p y.later all found.index found.name e old _ refl (none_if old.period (search (rules, c.is_some.ensures, c.if-is_some.false))) refl refl refl refl refl refl refl refl was r.3.kept.books r.3.has.there r.3.kept.taken)
          (loses_no_leaf allows t p y.later all found.index found.name e old _ refl (none_if old.period (search (rules, c.is_some.ensures, c.if-is_some.false))) refl refl refl refl refl refl refl refl was);
    }
