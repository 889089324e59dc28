-- How many steps an ordered read may still ask for: three a node of its walk and five more at its
-- leaf, six for a search in that, and 67 a node of each path that it goes down with LLXs. What stands for the taken nodes in
-- a trie is `nodes_by` of template.
use Rattle.std.specs.Prelude.{◌≡◌, ℕ, ◌+◌, ◌*◌, ◌-◌, ◌<◌, length, Option, unwrap_or}
use Rattle.histories.specs.Common.{head_of, MatchTurn, Turn}
use Rattle.template.specs.Balance.{leaf_way}
use Rattle.template.specs.Common.{llx_left, vlx_left, walk_left}
use Rattle.template.specs.Walk.Steps.{WalkFitsAt}
use Rattle.order.specs.Meaning.{ReadMeaning}
use Rattle.order.specs.Near.{near_left, near_most}
use Rattle.order.specs.Paths.{HeadFits, LoadFits, load_left, path_left}
use Rattle.order.specs.declared.run.ReadAt.{ReadAt}
use Rattle.order.specs.declared.run.ReadAt.TheVariants.{Start, Walk, Near, Root, Load, Look, Validate}
use Rattle.order.specs.declared.run.ReadRun.{ReadRun}

module _ {R A : Type 0} (means : ReadMeaning R A) (m : ReadRun R) where
  -- how many steps a try may ask for, where no more nodes than these are taken
  abbrev pub run_try_left : ℕ → ℕ
  run_try_left nodes = means.try_left (means.call m.read) nodes

  -- how many tries there are after this one
  abbrev pub tries_left : ℕ → ℕ
  tries_left nodes = m.tries * run_try_left nodes

  -- and how many steps are left in this one at this place
  abbrev pub phase_left : ℕ → ReadAt → ℕ
  phase_left nodes Start = run_try_left nodes
  phase_left nodes (Walk walk side turns) = walk_left walk.at nodes + near_most + length m.snaps.items + path_left nodes + means.behind m.read nodes
  phase_left nodes (Near near children fork) = near_left near.at + length m.snaps.items + path_left nodes + means.behind m.read nodes
  phase_left nodes Root = length m.snaps.items + path_left nodes - 1 + means.behind m.read nodes
  phase_left nodes (Load load) = length m.snaps.items + load_left means m.read nodes load - 1
  phase_left nodes (Look children level llx) = llx_left llx.at + length m.snaps.items + 1 + 67 * (1 + nodes - level) + means.behind m.read nodes
  phase_left nodes (Validate asked) = vlx_left m.snaps.items asked

  -- how many steps are left
  abbrev pub read_left : ℕ → ℕ
  read_left nodes = tries_left nodes + phase_left nodes m.at

  -- where the run asks for a step, fewer than n are left then
  abbrev pub ReadIsNearer : {T : Type 0} → ℕ → Turn T → ℕ → Type 0
  ReadIsNearer nodes turn n = MatchTurn turn (λ _. read_left nodes < n) (λ _. Unit {0})

  -- what the run gets at this place fits this many taken nodes
  abbrev pub ReadFitsAt : Option ℕ → ℕ → ReadAt → Type 0
  ReadFitsAt got nodes (Walk walk side turns) = (walk.way ≡ leaf_way m.trie) × WalkFitsAt walk.at (unwrap_or got 0) nodes
  ReadFitsAt got nodes Root = HeadFits (head_of (unwrap_or got 0)) nodes
  ReadFitsAt got nodes (Load load) = LoadFits (unwrap_or got 0) nodes load
  ReadFitsAt got nodes (Look children level llx) = level + 1 < 2 + nodes
  ReadFitsAt got nodes _ = Unit {0}

  -- what it gets at its place does
  abbrev pub ReadFits : Option ℕ → ℕ → Type 0
  ReadFits got nodes = ReadFitsAt got nodes m.at
