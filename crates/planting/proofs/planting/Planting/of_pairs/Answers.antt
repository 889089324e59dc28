use Rattle.std.proofs.Common.{List, sym, subst}
use Rattle.arena.specs.declared.limits.Mode.{Mode}
use Rattle.template.specs.Balance.{map_mode}
use Rattle.ordered_map.specs.declared.pair.Pair.{Pair}
use Rattle.planting.specs.Plantings.{IsGrownOver, IsPlantingOf}
use Rattle.planting.specs.Seedlings.{pieces_of}
use Rattle.planting.proofs.Planted.{planting_of}
use Rattle.planting.proofs.planting.Planting.of_pairs.Goals as goal

pub returns : goal.returns
returns c =
    let ps = c.args.pairs.items in
    let nodes = pieces_of ps c.in_ok-nodes.nodes.items in
    let grown : IsGrownOver c.args.trie ps nodes = subst (λ (qs : List Pair). IsGrownOver c.args.trie qs (pieces_of qs c.in_ok-nodes.nodes.items)) c.deref.ensures.value c.in_ok-nodes.ensures in
    subst (λ (m : Mode). IsPlantingOf (map_mode c.args.trie) ps record { mode = m; pairs = ps; nodes = nodes }) (sym c.map_mode-mode.ensures) (planting_of c.args.trie ps nodes grown c.requires.keys)
