use Rattle.std.proofs.Common.{sym, ◌∙◌, subst}
use Rattle.slots.specs.Counts.{rests_place}
use Rattle.tables.specs.LastingNotes.{memory_looked, waits_of}
use Rattle.tables.specs.LastingRule.{LearnsWith}
use Rattle.tables.specs.Slotted.{slots_of_table}
use Rattle.upkeep.specs.UpkeepSteps.{LearnsFrom, RestsOn}
use Rattle.upkeep.specs.UpkeepPeriod.{HasLookedFirst}
use Rattle.upkeep.proofs.UpkeepPeriod.{looked_first}
use Rattle.upkeep.proofs.UpkeepSteps.{counts_at, is_pass_of, seat_from, upkeep_allows}
use Rattle.upkeep.proofs.period.look.Goals as goal

pub load_with-requires-clause-may : goal.load_with-requires-clause-may
load_with-requires-clause-may g c =
    let allows = g.S.Shape.allows in
    let shared = c.args.words.now.table.shared in
    let site = shared.key in
    let last = c.requires.table.0 in
    let p = c.requires.one.0 in
    let me = c.args.seat.now.me in
    let k = c.args.other.0 in
    upkeep_allows allows site last.turns last.comes_back shared.table_id.slots c.args.seat.now.id me (rests_place (slots_of_table site).table k) c.rests_place-at.result (λ n. n)
    (λ n w. LearnsWith allows (memory_looked p.memory k n) me.0 w)
    (λ n w. LearnsFrom allows (λ m. memory_looked m k n) me.0 w)
    (counts_at site c.args.layout.now k last.layout ∙ sym c.rests_place-at.ensures)
    (λ n w x. (p, c.requires.one.1, x))
    (c.looks_last.ensures.first (slots_of_table site) site.planting shared.table_id.slots c.args.seat.now.id me p k c.requires.one.1 (is_pass_of shared.table_id site c.args.layout.now last k c.requires.inside))

pub returns-clause-looked : goal.returns-clause-looked
returns-clause-looked g c =
    let k = c.args.other.0 in
    let n = c.load_with.result in
    subst (λ waits. RestsOn g.S.Shape.allows (HasLookedFirst k waits) c.args.seat.now.me.0 c.load_with.new.seat.me.0) (sym c.rests_of.ensures)
    (seat_from g.S.Shape.allows (λ m. memory_looked m k n) (HasLookedFirst k (waits_of n)) c.args.seat.now.me.0 c.load_with.new.seat.me.0 c.load_with.ensures.learnt (λ p q goes e. looked_first k n p q e))
