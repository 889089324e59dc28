use Rattle.std.proofs.Common.{refl, sym, ◌∙◌}
use Rattle.arena.specs.declared.word.NodeWord.TheVariants.{Settled}
use Rattle.histories.specs.Common.{node}
use Rattle.histories.proofs.Lemmas.{own_node_inside}
use Rattle.upkeep.specs.UpkeepBook.{name_numbered, slots_in}
use Rattle.upkeep.specs.UpkeepSteps.{LearnsWord}
use Rattle.tables.specs.LastingRule.{LoadsWord}
use Rattle.upkeep.specs.declared.kind.RecordKind.TheVariants.{Node}
use Rattle.upkeep.proofs.UpkeepLooks.{node_in_slot, passes_in, table_in}
use Rattle.upkeep.proofs.UpkeepSteps.{upkeep_allows, word_learnt}
use Rattle.upkeep.proofs.leaf.load_part.Goals as goal

pub place-at-requires : goal.place-at-requires
place-at-requires g c = let r = c.requires in own_node_inside c.args.layout.now r.0.number.0 c.args.slot r.1.is_pass r.2

pub load_with-requires-clause-may : goal.load_with-requires-clause-may
load_with-requires-clause-may g c =
    let r = c.requires in
    let allows = g.S.Shape.allows in
    let t = slots_in c.args.words.now in
    let site = c.args.words.now.table.shared.key in
    let turns = r.1.table.0 in
    let of = c.args.of in
    let word = node of.name (Settled of.part) in
    let is_pass = passes_in c.args.words.now c.args.layout.now c.args.seat.now r.0 r.1 in
    upkeep_allows allows site turns.turns turns.comes_back c.args.words.now.table.shared.table_id.slots c.args.seat.now.id c.args.seat.now.me _ c.place-at.result (λ n. n) (λ n w. LoadsWord allows r.0 word n c.args.seat.now.me.0 w) (λ n w. LearnsWord allows word c.args.seat.now.me.0 n w)
    (node_in_slot t c.args.layout.now c.args.slot of.name (Settled of.part) (table_in c.args.words.now c.args.layout.now c.args.seat.now r.0 r.1) r.3.slot_is ∙ sym c.place-at.ensures.place)
    (λ n w x. (r.0, r.1.alone, x))
    (c.sights_last.ensures.loads t site.planting c.args.words.now.table.shared.table_id.slots c.args.seat.now.id c.args.seat.now.me r.0 (name_numbered Node of.name) word r.1.alone is_pass r.3.held refl (own_node_inside t.lay r.0.number.0 of.name is_pass r.3.own))

pub returns-clause-loaded : goal.returns-clause-loaded
returns-clause-loaded g c = word_learnt g.S.Shape.allows (node c.args.of.name (Settled c.args.of.part)) c.args.seat.now.me.0 c.load_with.new.seat.me.0 c.load_with.result c.load_with.ensures.learnt
