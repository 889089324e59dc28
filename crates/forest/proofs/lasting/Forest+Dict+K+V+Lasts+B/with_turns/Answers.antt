use Rattle.std.proofs.Common.{◌≡◌, ◌∙◌, true, false, Some, refl, sym, ap, subst}
use Rattle.histories.specs.Common.{Layout, Mode, Opened, IsRun}
use Rattle.planting.specs.Plantings.{opening_for}
use Rattle.slots.specs.Lasting.{Lasting}
use Rattle.template.specs.Balance.{map_mode}
use Rattle.dict.specs.Laws.Begins.{dict_mode}
use Rattle.dict.specs.Laws.TypedMaps.{typed_run}
use Rattle.dict.specs.Typed.{TypedAllows}
use Rattle.dict.specs.Words.{IsWordOf}
use Rattle.tables.specs.LastingOpening.{first_view}
use Rattle.tables.specs.LastingTables.{AreNewIn}
use Rattle.tables.specs.Passes.{ground}
use Rattle.tables.specs.Slotted.{in_turns, names_of_table}
use Rattle.tables.specs.Shares.{HasFewNames}
use Rattle.tables.specs.TablePlans.{IsTableOf}
use Rattle.upkeep.specs.UpkeepSteps.{IsLastingTable}
use Rattle.tables.specs.declared.rule.Site.{Site}
use Rattle.tables.specs.declared.table_plan.TablePlan.{TablePlan}
use Rattle.tables.proofs.LastingTables.{many_names, opening_in_turns, turned_table}
use Rattle.forest.proofs.lasting.Forest+Dict+K+V+Lasts+B.with_turns.Goals as goal

pub open_in_turns-requires-clause-may : goal.open_in_turns-requires-clause-may
open_in_turns-requires-clause-may g c = (c.requires.few, c.of-turns.ensures.may)

pub open_in_turns-requires-clause-run : goal.open_in_turns-requires-clause-run
open_in_turns-requires-clause-run g c =
    let run = opening_in_turns (IsWordOf g.K.WordKey.is_valid g.K.WordKey.word_of) (IsWordOf g.V.WordValue.is_valid g.V.WordValue.word_of) c.args.plot.layout c.of-turns.result (opening_for c.args.plot.planting) c.requires.run in (
      run,
      (
        dict_mode c.args.plot.layout.mode (g.B.Balance.trie g.B.FixedBalance.the) c.requires.mode,
        typed_run (IsWordOf g.K.WordKey.is_valid g.K.WordKey.word_of) (IsWordOf g.V.WordValue.is_valid g.V.WordValue.word_of) (in_turns c.args.plot.layout c.of-turns.result).lay (Opened (opening_for c.args.plot.planting)) run,
      ),
    )

pub passes_in_turns-requires-clause-seat : goal.passes_in_turns-requires-clause-seat
passes_in_turns-requires-clause-seat g c = (c.in_ok-words.ensures.seat.0 ∙ ap (λ (s : Site). first_view (in_turns c.args.plot.layout c.of-turns.result) s.planting) (sym c.in_ok-words.ensures.key), c.in_ok-words.ensures.seat.1)

pub passes_in_turns-requires-clause-run : goal.passes_in_turns-requires-clause-run
passes_in_turns-requires-clause-run g c = subst (λ (s : Site). IsRun (TypedAllows (IsWordOf g.K.WordKey.is_valid g.K.WordKey.word_of) (IsWordOf g.V.WordValue.is_valid g.V.WordValue.word_of)) (in_turns c.args.plot.layout c.of-turns.result).lay (Opened (opening_for s.planting))) (sym c.in_ok-words.ensures.key) (opening_in_turns (IsWordOf g.K.WordKey.is_valid g.K.WordKey.word_of) (IsWordOf g.V.WordValue.is_valid g.V.WordValue.word_of) c.args.plot.layout c.of-turns.result (opening_for c.args.plot.planting) c.requires.run)

pub invariant_of-forest : goal.invariant_of-forest
invariant_of-forest g c =
    let site : Site = record { layout = c.args.plot.layout; planting = c.args.plot.planting; turns = Some c.of-turns.result } in
    let mode : Mode = map_mode (g.B.Balance.trie g.B.FixedBalance.the) in
    let id = c.in_ok-words.words.table.shared.table_id in
    let planned = subst (λ (p : TablePlan). IsTableOf site.layout.mode true id site p) (sym c.in_turns.ensures) (turned_table id site c.of-turns.result refl c.of-turns.ensures.may c.in_ok-words.ensures.room) in
    let table = subst (λ (s : Site). IsTableOf mode true id s c.in_turns.result) (sym c.in_ok-words.ensures.key) (subst (λ (m : Mode). IsTableOf m true id site c.in_turns.result) c.requires.mode planned) in
    let key = c.in_ok-words.words.table.shared.key in
    let lasting : IsLastingTable id key c.in_turns.result.layout = record {
      turns = c.of-turns.result;
      comes_back = ap (λ (s : Site). s.turns) c.in_ok-words.ensures.key;
      layout = ap (λ (s : Site). s.layout) c.in_ok-words.ensures.key ∙ sym (ap (λ (p : TablePlan). p.layout) c.in_turns.ensures);
      room = rw c.in_turns.ensures c.in_ok-words.ensures.room.rests;
    } in
    (table, rw c.in_turns.ensures c.requires.some.0, c.in_ok-words.ensures.table.0, c.requires.some.1, λ once. absurd (let never : true ≡ false = once in cc), sym (ap (λ (s : Site). s.turns) c.in_ok-words.ensures.key), λ lasts. (lasting, subst (λ (s : Site). ¬ HasFewNames (names_of_table s)) (sym c.in_ok-words.ensures.key) (many_names c.args.plot.layout c.of-turns.result c.requires.few c.of-turns.ensures.may)))

pub returns-clause-opens : goal.returns-clause-opens
returns-clause-opens g c =
    let t : Lasting = in_turns c.args.plot.layout c.of-turns.result in
    let shared = c.in_ok-words.words.table.shared in
    let names = ap names_of_table c.in_ok-words.ensures.key in
    record {
      turns = c.of-turns.result;
      may = c.of-turns.ensures.may;
      layout = names;
      new = subst (λ (l : Layout). AreNewIn t (ground shared.table_id l shared.key.planting c.args.tries) c.in_ok-passes.passes.items) (sym names) (c.in_ok-passes.ensures c.args.tries);
    }
