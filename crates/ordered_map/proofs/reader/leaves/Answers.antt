use Rattle.std.proofs.Common.{◌≡◌, ◌-◌, [], ◌++◌, ◌∙◌, ap, subst, take}
use Rattle.ordered_map.proofs.Reading.{IsReading, reading_starts, reading_leaf, reading_fork, reading_fails, reading_ends, leaf_smaller, fork_smaller}
use Rattle.ordered_map.proofs.reader.leaves.Goals as goal

pub loop-part-init : goal.loop-part-init
loop-part-init c = rw (c.in_ok-parts.ensures.items, c.new-leaves.ensures.items) (reading_starts c.args.words.now c.whole.result c.whole.ensures)

pub loop-part-smaller-in-Continue-branch-2 : goal.loop-part-smaller-in-Continue-branch-2
loop-part-smaller-in-Continue-branch-2 c = leaf_smaller c.pop.new.self.items c.loop-part.parts.items c.in-Some.part c.in-Some.ensures.items

pub loop-part-preserved-in-Continue-branch-2 : goal.loop-part-preserved-in-Continue-branch-2
loop-part-preserved-in-Continue-branch-2 c = rw c.in_ok-push-in-Leaf.ensures.items (reading_leaf c.args.words.now c.pop.new.self.items c.in-Some.part c.loop-part.leaves.items (subst (λ ps. IsReading c.args.words.now ps c.loop-part.leaves.items) c.in-Some.ensures.items c.loop-part.invariant) c.in-Leaf.ensures)

pub loop-part-smaller : goal.loop-part-smaller
loop-part-smaller c = fork_smaller c.args.words.now c.pop.new.self.items c.loop-part.parts.items c.extend_from_slice.new.self.items c.in-Some.part c.in-Fork.left c.in-Fork.right c.in-Some.ensures.items c.in_ok-extend_from_slice-in-Fork.ensures.items c.in-Fork.ensures

pub loop-part-preserved : goal.loop-part-preserved
loop-part-preserved c = rw c.in_ok-extend_from_slice-in-Fork.ensures.items (reading_fork c.args.words.now c.pop.new.self.items c.in-Some.part c.in-Fork.left c.in-Fork.right c.loop-part.leaves.items (subst (λ ps. IsReading c.args.words.now ps c.loop-part.leaves.items) c.in-Some.ensures.items c.loop-part.invariant) c.in-Fork.ensures)

pub returns-in-Nothing-clause-none : goal.returns-in-Nothing-clause-none
returns-in-Nothing-clause-none c ns x = reading_fails c.args.words.now c.pop.new.self.items c.in-Some.part c.loop-part.leaves.items (subst (λ ps. IsReading c.args.words.now ps c.loop-part.leaves.items) c.in-Some.ensures.items c.loop-part.invariant) c.in-Nothing.ensures ns x

pub returns-clause-shown : goal.returns-clause-shown
returns-clause-shown c =
    let popped : c.pop.new.self.items ≡ [] = c.in_default.ensures.rest ∙ ap (λ n. take (n - 1) c.loop-part.parts.items) c.in_default.ensures.cases.0 in
    let none : c.loop-part.parts.items ≡ [] = c.in_default.ensures.items ∙ ap (λ z. z ++ []) popped in
    reading_ends c.args.words.now c.loop-part.leaves.items (subst (λ ps. IsReading c.args.words.now ps c.loop-part.leaves.items) none c.loop-part.invariant)
