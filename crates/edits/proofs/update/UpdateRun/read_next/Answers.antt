use Rattle.std.proofs.Common.{sym, ◌∙◌, refl}
use Rattle.arena.specs.Machines.{begun_at}
use Rattle.edits.proofs.Nearer.{few_then, some_left, to_first_fill, to_read}
use Rattle.edits.proofs.ReadWords.{all_read, fills_head, reads_fewer, reads_word}
use Rattle.edits.proofs.Turns.{fills_word}
use Rattle.edits.proofs.update.UpdateRun.read_next.Goals as goal

pub returns-in-Some-clause-nearer : goal.returns-in-Some-clause-nearer
returns-in-Some-clause-nearer g c asked nodes = to_read _ _ _ (some_left _ _ (reads_fewer c.args.self.now.read 0 c.in-Some.part (sym c.next.ensures ∙ c.in-Some.is)))

pub returns-in-None-clause-nearer : goal.returns-in-None-clause-nearer
returns-in-None-clause-nearer g c asked nodes = to_first_fill _ _ _ _ _ (few_then g.E.Edit.means g.met.E.Edit.laws.bounds c.args.self.now c.args.found.now asked)

pub returns-in-Some-clause-turn : goal.returns-in-Some-clause-turn
returns-in-Some-clause-turn g c d b h run try x = (b, try, tt, reads_word g.E.Edit.means c.args.self.now (begun_at d b) h c.args.found.now c.args.node c.in-Some.part x (sym c.next.ensures ∙ c.in-Some.is))

pub returns-in-None-clause-turn : goal.returns-in-None-clause-turn
returns-in-None-clause-turn g c d b h run try x =
    let can = fills_head g.E.Edit.means c.args.self.now (begun_at d b) h c.args.found.now _ (all_read g.E.Edit.means c.args.self.now (begun_at d b) h c.args.found.now c.args.node x (sym c.next.ensures ∙ c.in-None.is)) in
    (b, try, tt, fills_word g.E.Edit.means c.args.self.now c.args.found.now _ _ _ _ _ (begun_at d b) h can refl refl refl)
