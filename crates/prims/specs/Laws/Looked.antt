-- A node whose info names what a usable snapshot found is as its snapshot found it.
use Rattle.std.proofs.Common.{◌≡◌, ⊎_elim, sym}
use Rattle.histories.specs.Common.{info, History, value, Extends, Lawful, log, last, Call}
use Rattle.histories.proofs.Lemmas.{last_since, lawful_since, not_final}
use Rattle.prims.specs.Moments.{IsMoment, IsAsFound}
use Rattle.prims.specs.Laws.Linked.{IsLinked, in_field_named}
use Rattle.prims.specs.declared.snap.Snap.{Snap}
use Rattle.prims.specs.Laws.Wins.{ends_either}

-- a node whose info names, as the call begins, what a
-- usable snapshot found is then as that found it
pub found_at : (c : Call) (h : History) (snap : Snap) → Lawful c.layout h → Extends h c.start → IsLinked c.layout c.start snap → value c.start (info snap.node.0) ≡ snap.scx.0 → IsAsFound c.layout h c.start snap
found_at c h snap l e x same = record { last = same_last; not_final = not_final c.layout c.start snap.node.0 ls (x.unmarked same) }
  where
    ls : Lawful c.layout c.start
    ls = lawful_since c.layout h c.start l e

    same_last : (m : History) → IsMoment c.layout h snap m → last (log c.layout c.start) snap.node.0 ≡ last (log c.layout m) snap.node.0
    same_last m y = ⊎_elim
        (λ p. (last_since c.layout c.start m snap.node.0 snap.scx.0 ls p y.named y.rest same).last)
        (λ p. sym (last_since c.layout m c.start snap.node.0 snap.scx.0 (lawful_since c.layout h m l y.within) p (in_field_named snap.node.0 x.in_field) x.rest y.info).last)
        (ends_either h c.start m e y.within)
