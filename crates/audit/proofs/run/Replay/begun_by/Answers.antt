use Rattle.std.proofs.Common.{sym, subst, rules}
use Rattle.arena.specs.Opening.{IsMap}
use Rattle.histories.specs.Common.{Layout}
use Rattle.audit.specs.After.{layout_of}
use Rattle.audit.proofs.Asking.{shows_tree}
use Rattle.audit.proofs.run.Replay.begun_by.Goals as goal

pub begun_for-requires : goal.begun_for-requires
begun_for-requires c =
    let run = c.args.self.now in
    let map : IsMap (layout_of run).mode = search rules in
    record { mode = subst (λ (l : Layout). IsMap l.mode) (sym c.requires.after.layout) map; tree = shows_tree run c.requires map }
