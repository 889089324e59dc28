use Rattle.std.proofs.Common.{◌≡◌, ◌∙◌, ap}
use Rattle.arena.specs.declared.word.SettledPart.TheVariants.{Key}
use Rattle.edits.specs.declared.update.Next.TheVariants.{Read}
use Rattle.straight.proofs.reads.read_next_pair.Given.{Over}
use Rattle.straight.proofs.reads.read_next_pair.Goals.{In-Read-default-Key}
use Rattle.straight.proofs.reads.read_next_pair.Goals as goal

-- a key comes next
is_key : (g : Over) (c : In-Read-default-Key g) → c.args.next ≡ Read c.in-Read-default-Key.node (Key c.in-Read-default-Key.at)
is_key g c =
    let read = c.in-Read-default-Key.is in
    let part = rw read at c.in-Read-default-Key.part-is in
    read ∙ ap (λ p. Read c.in-Read-default-Key.node p) (part ∙ ap Key (rw (read, part) at c.in-Read-default-Key.at-is))

pub read_pair-requires-clause-tries : goal.read_pair-requires-clause-tries
read_pair-requires-clause-tries g c = let r = c.requires.tries in let key = is_key g (goal.at.read_pair-requires-clause-tries g c).In-Read-default-Key in (r.0, rw key (rw key at r.1))

pub returns-in-Read-default-Key-clause-goes_on : goal.returns-in-Read-default-Key-clause-goes_on
returns-in-Read-default-Key-clause-goes_on g c = let key = is_key g (goal.at.returns-in-Read-default-Key-clause-goes_on g c).In-Read-default-Key in rw key (rw key at c.read_pair.ensures.goes_on)
