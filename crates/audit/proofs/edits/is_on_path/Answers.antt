use Rattle.std.proofs.Common.{◌≡◌, ℕ, false, inl, sym, ◌∙◌, ap, subst, rules}
use Rattle.histories.specs.Common.{Side, Word, value, child}
use Rattle.record.specs.Common.{is_leaf, toward}
use Rattle.ordered_map.specs.Paths.{IsOnPath}
use Rattle.ordered_map.specs.TreeWords.{Tree, Leaf, Fork, Passes, root}
use Rattle.judge.specs.Histories.{seen_history}
use Rattle.ordered_map.proofs.Lemmas.{path_next}
use Rattle.audit.proofs.edits.is_on_path.Goals as goal

-- each search passes the root
root_passed : (f : Word → ℕ) (k : ℕ) (t : Tree) (n : ℕ) → root t ≡ n → Passes f k t n
root_passed f k (Leaf m) n e = e
root_passed f k (Fork m a b) n e = inl e

pub loop-node-init : goal.loop-node-init
loop-node-init c =
    let t = c.requires.0 in
    record { tree = t; is_tree = c.requires.1; passes = root_passed (value (seen_history c.args.judge.now)) c.args.key t 0 c.requires.1.is }

pub loop-node-preserved : goal.loop-node-preserved
loop-node-preserved c =
    let h = seen_history c.args.judge.now in
    let fork : is_leaf (value h) c.loop-node.node ≡ false = search rules in
    let next : c.child-node.result ≡ value h (child c.loop-node.node (toward (value h) c.loop-node.node c.args.key)) = c.child-node.ensures ∙ ap (λ (s : Side). value h (child c.loop-node.node s)) c.toward.ensures in
    subst (λ (n : ℕ). IsOnPath h c.args.key n) (sym next) (path_next h c.args.key c.loop-node.node c.loop-node.invariant fork)
