use Rattle.std.proofs.Common.{◌∙◌, arith}
use Rattle.judge.proofs.Counts.{flag_read, unset_less}
use Rattle.judge.proofs.graph.Graph.reach.Goals as goal

pub push_reserved-requires : goal.push_reserved-requires
push_reserved-requires c =
    let flags = c.args.self.now.reached.items in
    let less = unset_less flags c.args.at c.requires.inside (flag_read flags c.args.at _ c.requires.inside c.index.ensures ∙ c.if-not-index.true) in
    omega (c.requires.room, less, arith)

pub returns-then-not-index-clause-count : goal.returns-then-not-index-clause-count
returns-then-not-index-clause-count c =
    let flags = c.args.self.now.reached.items in
    let less = unset_less flags c.args.at c.requires.inside (flag_read flags c.args.at _ c.requires.inside c.index.ensures ∙ c.if-not-index.true) in
    omega (c.push_reserved.ensures.len, less, arith)

pub returns-then-not-index-clause-room : goal.returns-then-not-index-clause-room
returns-then-not-index-clause-room c =
    let flags = c.args.self.now.reached.items in
    let less = unset_less flags c.args.at c.requires.inside (flag_read flags c.args.at _ c.requires.inside c.index.ensures ∙ c.if-not-index.true) in
    omega (c.push_reserved.ensures.len, c.push_reserved.ensures.capacity, c.requires.room, less, arith)
