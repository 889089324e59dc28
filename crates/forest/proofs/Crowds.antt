-- Passes of one forest.
use Rattle.std.proofs.Common.{List, ap, get_or}
use Rattle.std.specs.List.{All}
use Rattle.std.proofs.lemmas.Option.{slice_get-get_or}
use Rattle.slots.specs.Lasting.{Lasting}
use Rattle.tables.specs.LastingTables.{AreNewIn}
use Rattle.tables.specs.Passes.{PassView, Ground, IsOf, AreNew}

-- new passes are of their forest
pub new_are_of : (f : Ground) (passes : List PassView) → AreNew f passes → All (IsOf f) passes
new_are_of f passes new k d less = let e = new.each k (get_or passes k d) (slice_get-get_or passes k d less) in
    (ap (λ (p : PassView). p.table) e, ap (λ (p : PassView). p.layout) e)

-- so are those of one whose records come back
pub new_in_turns_are_of : (t : Lasting) (f : Ground) (passes : List PassView) → AreNewIn t f passes → All (IsOf f) passes
new_in_turns_are_of t f passes new k d less = let e = new.each k (get_or passes k d) (slice_get-get_or passes k d less) in
    (ap (λ (p : PassView). p.table) e, ap (λ (p : PassView). p.layout) e)
