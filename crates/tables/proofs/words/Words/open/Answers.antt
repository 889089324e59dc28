use Rattle.std.proofs.Common.{[], sym, ◌∙◌, ap, subst}
use Rattle.atomic_table.specs.Table.{opening}
use Rattle.histories.specs.Common.{table_size}
use Rattle.arena.specs.Lawful.{Lawful}
use Rattle.planting.specs.Plantings.{opening_for}
use Rattle.tables.specs.Ruled.{first_of_table}
use Rattle.tables.specs.TableRule.{TableIsLawful}
use Rattle.tables.specs.declared.view.SeatView.{SeatView}
use Rattle.tables.proofs.Deals.{opens}
use Rattle.tables.proofs.Openings.{placed}
use Rattle.tables.proofs.Ruled.{first_once, plain_plot, ruled_to}
use Rattle.tables.proofs.words.Words.open.Goals as goal

pub words-requires-clause-room : goal.words-requires-clause-room
unfolding Lawful
words-requires-clause-room g c = c.requires.run.lawful.1

pub of_words-requires : goal.of_words-requires
of_words-requires g c =
    let site = c.args.site.now in
    let laid = c.in_ok-words.ensures in
    let words = c.words-3 in
    let opened = opens g.S.Shape.allows (plain_plot g.S.Shape.allows site) words.result.now site.layout.passes (words.ensures.size ∙ ap table_size laid.layout)
    (placed c.in_ok-words.words words.result.now site.layout (opening_for site.planting).words laid.layout words.ensures.words laid.words)
    c.requires.run in
    ruled_to g.S.Shape.allows site (λ holds. holds (opening words.result.now [] (first_of_table site))) c.requires.once (subst (λ (v : SeatView). TableIsLawful g.S.Shape.allows (plain_plot g.S.Shape.allows site) (opening words.result.now [] v)) (sym (first_once g.S.Shape.allows site c.requires.once)) opened)
