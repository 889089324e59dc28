use Rattle.std.proofs.Common.{ap, sym, ◌∙◌, refl}
use Rattle.arena.specs.Machines.{begun_at}
use Rattle.edits.specs.Readings.{known_reads}
use Rattle.edits.proofs.Nearer.{few_then, from_reads, less_than, to_first_fill}
use Rattle.edits.proofs.ReadWords.{begins_reading, fills_head, none_read}
use Rattle.edits.proofs.Turns.{fills_word}
use Rattle.edits.proofs.update.UpdateRun.begin_reading.Goals as goal

pub returns-in-Some-clause-nearer : goal.returns-in-Some-clause-nearer
returns-in-Some-clause-nearer g c asked nodes = less_than _ _ _ (c.read_next.ensures.nearer asked nodes) (from_reads _ _ _ _ (g.met.E.Edit.laws.bounds.few_reads c.args.self.now.edit c.args.found.now c.args.self.now.snaps.items (c.in-Some.node, c.begin.new.self) (rw (sym c.as_slice.ensures.value) (rw (c.begin.ensures) (sym c.reads.ensures ∙ ap known_reads c.in-Some.is)))))

pub returns-in-None-clause-nearer : goal.returns-in-None-clause-nearer
returns-in-None-clause-nearer g c asked nodes = to_first_fill _ _ _ _ _ (few_then g.E.Edit.means g.met.E.Edit.laws.bounds c.args.self.now c.args.found.now asked)

pub returns-in-Some-clause-turn : goal.returns-in-Some-clause-turn
returns-in-Some-clause-turn g c d b h run try x = c.read_next.ensures.turn d b h run try (begins_reading g.E.Edit.means c.args.self.now (begun_at d b) h c.args.found.now _ _ g.met.E.Edit.laws.looks x (rw (sym c.as_slice.ensures.value) (rw (c.begin.ensures) (sym c.reads.ensures ∙ ap known_reads c.in-Some.is))))

pub returns-in-None-clause-turn : goal.returns-in-None-clause-turn
returns-in-None-clause-turn g c d b h run try x =
    let can = fills_head g.E.Edit.means c.args.self.now (begun_at d b) h c.args.found.now _ (none_read g.E.Edit.means c.args.self.now (begun_at d b) h c.args.found.now x (rw (sym c.as_slice.ensures.value) (sym c.reads.ensures ∙ ap known_reads c.in-None.is))) in
    (b, try, tt, fills_word g.E.Edit.means c.args.self.now c.args.found.now _ _ _ _ _ (begun_at d b) h can refl refl refl)
