use Rattle.std.proofs.Common.{List, length, ◌∙◌, ap, subst, arith}
use Rattle.std.proofs.lemmas.List.{take_all}
use Rattle.planting.specs.declared.seedling.Seedling.{Seedling}
use Rattle.planting.specs.Groves.{HasGrown}
use Rattle.planting.specs.Seedlings.{pieces_of}
use Rattle.planting.proofs.Seedlings.{one_more_piece}
use Rattle.planting.proofs.planting.nodes_over.Goals as goal

pub returns : goal.returns
returns c =
    let ps = c.args.pairs.now in
    record {
      row = pieces_of ps c.grow.new.row.items;
      top = c.in_ok-top.top;
      grown = subst (λ (old : List Seedling). HasGrown c.args.trie ps 2 (pieces_of ps old) (pieces_of ps c.grow.new.row.items) c.in_ok-top.top) c.in_ok-nodes.ensures.items (c.in_ok-top.ensures.grown ps (take_all (length ps) ps (omega arith)));
      is = ap (pieces_of ps) c.in_ok-push.ensures.items ∙ one_more_piece ps c.grow.new.row.items _;
    }
