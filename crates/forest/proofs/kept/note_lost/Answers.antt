use Rattle.std.proofs.Common.{subst}
use Rattle.tables.specs.Slotted.{in_turns}
use Rattle.forest.specs.UpkeepKept.{KeepsRight}
use Rattle.forest.proofs.kept.note_lost.Goals as goal

pub returns-in-Some : goal.returns-in-Some
returns-in-Some g c = λ p out x.
    let k = c.in-Some.kept in
    c.lose.ensures (in_turns k.layout k.turns) p (out (c.is_lost.ensures c.if-is_lost.true)) (subst (λ kept. KeepsRight kept p) c.in-Some.is x)
