use Rattle.std.proofs.Common.{◌≡◌, ◌<◌, ◌≤◌, ◌+◌, ◌*◌, ◌∙◌, ℕ, List, [], Option, sym, ap, subst, arith, length, slice_index}
use Rattle.atomic_table.specs.Table.{opening}
use Rattle.arena.proofs.Lemmas.{place_inside}
use Rattle.arena.specs.Lawful.{Lawful}
use Rattle.histories.specs.Common.{Layout, Word, History, Opened, IsRun, IsWord, place, table_size, value}
use Rattle.ordered_map.specs.Runs.{IsMapRun}
use Rattle.planting.specs.Plantings.{PlantingView, opening_for}
use Rattle.tables.specs.LastingOpening.{OpensLasting}
use Rattle.tables.specs.LastingTables.{HasWordsFor, MayTakeTurns}
use Rattle.tables.specs.Ruled.{IsRuled, first_by, first_of_table, ruled_by}
use Rattle.tables.specs.Shares.{HasFewNames}
use Rattle.tables.specs.Slotted.{in_turns, slots_by}
use Rattle.tables.specs.declared.rule.Turns.{Turns}
use Rattle.tables.proofs.LastingTables.{lasts_in_turns}
use Rattle.tables.proofs.Openings.{placed}
use Rattle.tables.proofs.words.Words.open_in_turns.Goals as goal

pub words-requires-clause-room : goal.words-requires-clause-room
unfolding Lawful
words-requires-clause-room g c = subst (λ (o : Option Turns). (opening_for c.args.site.now.planting).planted ≤ (slots_by c.args.site.now.layout o).lay.planted) c.requires.turns c.requires.run.0.lawful.1

-- the words of the planting, and zeros behind them, are those with which a table that lasts opens
opens : (allows : Layout → History → ℕ → Type 0) (lay : Layout) (t : Turns) (planting : PlantingView) (first words : List ℕ) → HasFewNames lay → MayTakeTurns lay t → HasWordsFor lay t (length words) → IsMapRun (in_turns lay t).lay (Opened (opening_for planting)) → IsRun allows (in_turns lay t).lay (Opened (opening_for planting))
    → length first ≡ table_size lay → ((w : Word) → IsWord lay w → slice_index first (place lay w) ≡ (opening_for planting).words w) → ((k : ℕ) → k < length first → slice_index words k ≡ slice_index first k) → ((k : ℕ) → length first ≤ k → k < length words → slice_index words k ≡ 0)
    → OpensLasting allows (in_turns lay t) planting words
unfolding value
opens allows lay t planting first words few may room map run size holds same zeros = record {
  lasting = lasts_in_turns lay t few may;
  map = map;
  run = run;
  room = room.rests;
  holds = λ w i. same (place lay w) (rw size (place_inside lay w i)) ∙ holds w i;
  zeros = λ o less. (let enough = room.rests in zeros (table_size lay + 8 * o) (omega (arith, size)) (omega (arith, enough, less)));
}

pub of_words-requires : goal.of_words-requires
of_words-requires g c =
    let allows = g.S.Shape.allows in
    let site = c.args.site.now in
    let t = c.args.turns in
    let turns = c.requires.turns in
    let laid = c.in_ok-opening.ensures in
    let first = c.words-2 in
    let wide = c.in_ok-words.ensures in
    let all = c.in_ok-words.words.items in
    let opened : OpensLasting allows (in_turns site.layout t) site.planting all = opens allows site.layout t site.planting first.result.now all c.requires.may.0 c.requires.may.1 (subst (HasWordsFor site.layout t) (sym wide.size) c.size_in_turns.ensures)
    (subst (λ (o : Option Turns). IsMapRun (slots_by site.layout o).lay (Opened (opening_for site.planting))) turns c.requires.run.1)
    (subst (λ (o : Option Turns). IsRun allows (slots_by site.layout o).lay (Opened (opening_for site.planting))) turns c.requires.run.0)
    (first.ensures.size ∙ ap table_size laid.layout)
    (placed c.in_ok-opening.opening first.result.now site.layout (opening_for site.planting).words laid.layout first.ensures.words laid.words)
    wide.words (λ k from less. wide.zeros k from (subst (λ n. k < n) wide.size less)) in
    subst (λ (l : List ℕ). IsRuled allows site (opening l [] (first_of_table site))) (sym c.deref.ensures.value)
    (subst (λ (o : Option Turns). ruled_by o allows site (opening all [] (first_by o site))) (sym turns) (c.names_last.ensures.opens (in_turns site.layout t) site.planting all opened))
