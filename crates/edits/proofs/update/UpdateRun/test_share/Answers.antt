use Rattle.std.proofs.Common.{◌≡◌, ◌<◌, refl, rules, inl}
use Rattle.template.proofs.Lemmas.{tried_in}
use Rattle.edits.proofs.Looking.{may_look}
use Rattle.arena.specs.Machines.{begun_at}
use Rattle.edits.specs.Laws.Trying.{untouched_later}
use Rattle.edits.proofs.Turns.{at_rest, nothing_entered}
use Rattle.edits.proofs.Widened.{found_by_wider}
use Rattle.edits.proofs.GoingOn.{still_nearer}
use Rattle.edits.proofs.Nearer.{from_share}
use Rattle.edits.proofs.update.UpdateRun.test_share.Goals as goal

pub returns-clause-nearer : goal.returns-clause-nearer
returns-clause-nearer g c nodes = still_nearer g.E.Edit.means c.look.new.self c.args.found.now c.look.result nodes _ _ (c.look.ensures.nearer c.work-self.ensures nodes) (from_share _ _ _ _)

pub returns-clause-turn : goal.returns-clause-turn
returns-clause-turn g c d b h run try first x quiet filled found guarded =
    let some : 0 < c.work-self.result.need = search rules in
    c.look.ensures.turn d b h run try (may_look g.E.Edit.means c.args.self.now _ (begun_at d b) h c.args.found.now refl refl refl c.work-self.ensures c.clear.ensures x quiet found guarded (rw c.in_default.is at c.lacks.ensures.enough some))

pub returns-then-self-eq0-clause-turn : goal.returns-then-self-eq0-clause-turn
returns-then-self-eq0-clause-turn g c d b h run try first x quiet filled found guarded =
    let none : c.work-self.result.need ≡ 0 = search rules in (
      at_rest g.E.Edit.means c.args.self.now d b h x,
      record {
        found = c.args.found.now;
        is_key = refl;
        is_value = refl;
        is_done = inl record {
          has_found = found_by_wider d b try.since h _ _ c.args.found.now found;
          needless = rw c.work-self.ensures at none;
          none = nothing_entered g.E.Edit.means c.args.self.now d b h try x quiet;
          only_looked = record { begin = b; since = try.since; newest = try.newest.newest; none = filled };
        };
      },
      tried_in d b h c.args.self.now.limit c.args.self.now.tries try.newest,
    )

pub returns-in-Some-clause-turn : goal.returns-in-Some-clause-turn
returns-in-Some-clause-turn g c d b h run try first x quiet filled found guarded =
    let some : 0 < c.work-self.result.need = search rules in (
      at_rest g.E.Edit.means c.args.self.now d b h x,
      record {
        only_looked = record { begin = b; since = try.since; newest = try.newest.newest; none = filled };
        found = c.args.found.now;
        has_found = found;
        needed = rw c.work-self.ensures at some;
        short = rw c.work-self.ensures at (rw c.in-Some.is at c.lacks.ensures.short);
        first = untouched_later d b h c.args.self.now.share run.lawful x.since first;
        none = nothing_entered g.E.Edit.means c.args.self.now d b h try x quiet;
      },
      tried_in d b h c.args.self.now.limit c.args.self.now.tries try.newest,
    )
