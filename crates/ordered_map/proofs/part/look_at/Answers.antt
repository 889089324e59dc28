use Rattle.std.proofs.Common.{rules, arith}
use Rattle.ordered_map.proofs.Reading.{no_tree, leaf_root_at}
use Rattle.ordered_map.proofs.part.look_at.Goals as goal

pub returns-then-not-may_be_root : goal.returns-then-not-may_be_root
returns-then-not-may_be_root c t i =
    no_tree c.args.words.now c.args.part c.args.head c.args.key c.rank_of-rank.result c.requires.head c.requires.key c.rank_of-rank.ensures
    (λ f. let x = c.if-not-may_be_root.ensures.1 f in cc) t i

pub look_leaf-requires : goal.look_leaf-requires
look_leaf-requires c =
    leaf_root_at c.args.words.now c.args.part c.args.head c.args.key c.rank_of-rank.result c.requires.inside c.requires.head c.requires.key (let fits = c.ranges.key in omega (arith, fits)) c.rank_of-rank.ensures
    (c.may_be_root.ensures.0 (rw c.if-not-may_be_root.false (search rules))) (let is = c.if-head-eq1.true in omega (arith, is))
