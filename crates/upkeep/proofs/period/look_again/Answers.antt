use Rattle.std.proofs.Common.{◌≡◌, ◌*◌, ◌==◌, if◌then◌else◌, List, [], ◌∷◌, Some, None, refl, sym, ◌∙◌, subst}
use Rattle.slots.specs.Counts.{rests_place}
use Rattle.histories.specs.Common.{Row}
use Rattle.tables.specs.LastingNotes.{memory_polled}
use Rattle.tables.specs.LastingRule.{LearnsWith}
use Rattle.tables.specs.Slotted.{slots_of_table}
use Rattle.upkeep.specs.UpkeepSteps.{RestsOn}
use Rattle.upkeep.specs.UpkeepPeriod.{HasLookedAgain, last_poll, poll_of}
use Rattle.tables.specs.declared.view.SeatedPass.{SeatedPass}
use Rattle.upkeep.proofs.UpkeepPeriod.{last_among, looked_so_again}
use Rattle.upkeep.proofs.UpkeepSteps.{counts_at, seat_learns, upkeep_allows}
use Rattle.upkeep.proofs.period.look_again.Goals as goal

pub load_with-requires-clause-may : goal.load_with-requires-clause-may
load_with-requires-clause-may g c =
    let allows = g.S.Shape.allows in
    let shared = c.args.words.now.table.shared in
    let site = shared.key in
    let last = c.requires.table.0 in
    let one = c.requires.one in
    let p = one.0 in
    let me = c.args.seat.now.me in
    let k = c.args.other.0 in
    let seen = c.args.seen in
    upkeep_allows allows site last.turns last.comes_back shared.table_id.slots c.args.seat.now.id me (rests_place (slots_of_table site).table k) c.rests_place-at.result (λ n. n)
    (λ n w. LearnsWith allows (λ rows. memory_polled p.memory (poll_of k one.2 (Some seen)) seen n) me.0 w)
    (λ n w. (q : SeatedPass) × (me.0.passes ≡ q ∷ []) × (moment : List Row) × (last_poll k q.memory.polls ≡ Some (poll_of k moment (Some seen))) × LearnsWith allows (λ rows. memory_polled q.memory (poll_of k moment (Some seen)) seen n) me.0 w)
    (counts_at site c.args.layout.now k last.layout ∙ sym c.rests_place-at.ensures)
    (λ n w x. (p, one.1, one.2, one.3, x))
    (c.looks_last.ensures.again (slots_of_table site) site.planting shared.table_id.slots c.args.seat.now.id me p (poll_of k one.2 (Some seen)) seen one.1 (last_among k p.memory.polls (poll_of k one.2 (Some seen)) one.3) refl)

pub returns-clause-looked : goal.returns-clause-looked
returns-clause-looked g c =
    let x = c.load_with.ensures.learnt in
    let k = c.args.other.0 in
    let seen = c.args.seen in
    let n = c.load_with.result in
    subst (λ waits. RestsOn g.S.Shape.allows (HasLookedAgain k seen waits) c.args.seat.now.me.0 c.load_with.new.seat.me.0) (sym c.still_waits.ensures)
    (seat_learns g.S.Shape.allows (λ rows. memory_polled x.0.memory (poll_of k x.2 (Some seen)) seen n) (HasLookedAgain k seen (if n == 2 * seen then Some seen else None)) x.0 c.args.seat.now.me.0 c.load_with.new.seat.me.0 x.1 x.4 (λ q goes e. looked_so_again k n seen x.2 x.0 q x.3 e))
