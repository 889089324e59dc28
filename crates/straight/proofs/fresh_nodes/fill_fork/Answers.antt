use Rattle.std.proofs.Common.{◌≡◌, true, false, refl}
use Rattle.histories.specs.Common.{NodeWord, Settled, Head, Child, Left, Right, first_key}
use Rattle.edits.specs.Pieces.{fork_behind, is_leaf_piece, part_behind}
use Rattle.edits.specs.declared.piece.Piece.{Piece}
use Rattle.edits.specs.declared.piece.Piece.TheVariants.{Leaf, Fork}
use Rattle.straight.proofs.StraightTries.{fills_further}
use Rattle.straight.proofs.fresh_nodes.fill_fork.Goals as goal

-- what is filled after a word of a fork
fork_is : (p : Piece) → is_leaf_piece p ≡ false → (part : NodeWord) → part_behind p part ≡ fork_behind part
fork_is (Leaf level class ps) fork part = absurd (let z : true ≡ false = fork in cc)
fork_is (Fork level class key l r) fork part = refl

pub fill_word-requires-clause-fills : goal.fill_word-requires-clause-fills
fill_word-requires-clause-fills g c = c.requires.fills

pub fill_word-requires-2-clause-fills : goal.fill_word-requires-2-clause-fills
fill_word-requires-2-clause-fills g c = let r = c.requires.fills in (r.0, rw (fork_is c.args.node.piece.now c.requires.fork (Settled Head)) at (c.fill_word.ensures.goes_on.to r.0 r.1))

pub fill_word-requires-3-clause-fills : goal.fill_word-requires-3-clause-fills
fill_word-requires-3-clause-fills g c =
    let r = c.requires.fills in
    (r.0, rw (fork_is c.args.node.piece.now c.requires.fork first_key) at (c.fill_word-2.ensures.goes_on.to r.0 (rw (fork_is c.args.node.piece.now c.requires.fork (Settled Head)) at (c.fill_word.ensures.goes_on.to r.0 r.1))))

pub fill_word-requires-4-clause-fills : goal.fill_word-requires-4-clause-fills
fill_word-requires-4-clause-fills g c =
    let r = c.requires.fills in
    (r.0, rw (fork_is c.args.node.piece.now c.requires.fork (Child Left)) at (c.fill_word-3.ensures.goes_on.to r.0 (rw (fork_is c.args.node.piece.now c.requires.fork first_key) at (c.fill_word-2.ensures.goes_on.to r.0 (rw (fork_is c.args.node.piece.now c.requires.fork (Settled Head)) at (c.fill_word.ensures.goes_on.to r.0 r.1))))))

pub returns-clause-goes_on : goal.returns-clause-goes_on
returns-clause-goes_on g c =
    fills_further (rw (fork_is c.args.node.piece.now c.requires.fork (Settled Head)) at c.fill_word.ensures.goes_on)
    (fills_further (rw (fork_is c.args.node.piece.now c.requires.fork first_key) at c.fill_word-2.ensures.goes_on)
    (fills_further (rw (fork_is c.args.node.piece.now c.requires.fork (Child Left)) at c.fill_word-3.ensures.goes_on)
    (rw (fork_is c.args.node.piece.now c.requires.fork (Child Right)) at c.fill_word-4.ensures.goes_on)))
