-- What is taken stays taken.
use Rattle.std.proofs.Common.{◌≡◌, ℕ, inl, inr}
use Rattle.arena.specs.declared.word.NodeWord.{NodeWord}
use Rattle.arena.specs.declared.word.ScxWord.{ScxWord}
use Rattle.arena.specs.declared.step.Row.{Row}
use Rattle.arena.specs.declared.step.Kind.TheVariants.{Fill}
use Rattle.arena.specs.Words.{node, scx}
use Rattle.arena.specs.History.{History, ◌⊳◌}
use Rattle.arena.specs.Fills.{IsTakenNode, IsTakenScx}

pub taken_node_more : (r : Row) (h : History) (n : ℕ) → IsTakenNode h n → IsTakenNode (r ⊳ h) n
unfolding IsTakenNode
taken_node_more r h n t = inr t

pub taken_scx_more : (r : Row) (h : History) (s : ℕ) → IsTakenScx h s → IsTakenScx (r ⊳ h) s
unfolding IsTakenScx
taken_scx_more r h s t = inr t

-- a fill takes its record
pub fill_takes_node : (r : Row) (h : History) (n : ℕ) (part : NodeWord) → r.kind ≡ Fill → r.word ≡ node n part → IsTakenNode (r ⊳ h) n
unfolding IsTakenNode
fill_takes_node r h n part k w = inl (part, k, w)

pub fill_takes_scx : (r : Row) (h : History) (s : ℕ) (part : ScxWord) → r.kind ≡ Fill → r.word ≡ scx s part → IsTakenScx (r ⊳ h) s
unfolding IsTakenScx
fill_takes_scx r h s part k w = inl (part, k, w)
