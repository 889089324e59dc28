use Rattle.std.proofs.Common.{◌≡◌, true, false, sym, ◌∙◌}
use Rattle.histories.specs.Common.{Side, Left, Right, child}
use Rattle.ordered_map.specs.Bits.{Keeps}
use Rattle.audit.specs.Edits.{word_now}
use Rattle.audit.proofs.trie_shape.is_trie_fork.Goals.{then-is_parted, else-is_parted}
use Rattle.audit.proofs.trie_shape.is_trie_fork.Goals as goal

-- both sides keep to theirs
pub returns-then-keeps_child : goal.returns-then-keeps_child
returns-then-keeps_child c = λ right fork. elim c.if-is_parted.branch [
  | then-is_parted w ↦ (c.is_parted.ensures w.if-is_parted.true, sides (w.keeps_child.ensures (sym w.value-is ∙ c.if-keeps_child.true)) (c.keeps_child-then-keeps_child.ensures right))
  | else-is_parted w ↦ absurd (let never : true ≡ false = sym c.if-keeps_child.true ∙ w.value-is ∙ w.if-is_parted.false in cc)
]
  where
    sides : Keeps (word_now c.args.judge.now) c.args.node Left (word_now c.args.judge.now (child c.args.node Left)) → Keeps (word_now c.args.judge.now) c.args.node Right (word_now c.args.judge.now (child c.args.node Right)) → (side : Side) → Keeps (word_now c.args.judge.now) c.args.node side (word_now c.args.judge.now (child c.args.node side))
    sides l r Left = l
    sides l r Right = r
