-- How many steps the machine of a call of the map may still ask for: as the machine inside.
use Rattle.std.specs.Prelude.{ℕ, ◌<◌, Option}
use Rattle.histories.specs.Common.{MatchTurn, Turn}
use Rattle.order.specs.Steps.{ReadFits, read_left}
use Rattle.template.specs.Balance.{nodes_by}
use Rattle.template.specs.Walk.Steps.{steps_left, WalkFits}
use Rattle.edits.specs.Steps.{update_left, UpdateFits}
use Rattle.dict.specs.declared.run.MapRun.{MapRun}
use Rattle.dict.specs.Inner.{InnerRun, Update, Get, Read, edit_means, inner}

-- how many steps the inner machine may still ask for, where no more nodes than these are taken
abbrev pub inner_left : InnerRun → ℕ → ℕ
inner_left (Update m) nodes = update_left edit_means m nodes
inner_left (Get key walk share) nodes = steps_left walk nodes
inner_left (Read k m share) nodes = read_left k.means m (nodes_by m.trie nodes)

-- how many the machine
abbrev pub map_left : MapRun → ℕ → ℕ
map_left m nodes = inner_left (inner m) nodes

-- what the inner machine gets fits this many taken nodes
abbrev pub InnerFits : InnerRun → Option ℕ → ℕ → Type 0
InnerFits (Update m) got nodes = UpdateFits edit_means m got nodes
InnerFits (Get key walk share) got nodes = WalkFits walk got nodes
InnerFits (Read k m share) got nodes = ReadFits k.means m got (nodes_by m.trie nodes)

-- so what the machine gets
abbrev pub MapFits : MapRun → Option ℕ → ℕ → Type 0
MapFits m got nodes = InnerFits (inner m) got nodes

-- where it asks for a step, fewer are left than before
abbrev pub HasComeNearer : {A : Type 0} → MapRun → MapRun → ℕ → Turn A → Type 0
HasComeNearer old now nodes turn = MatchTurn turn (λ _. map_left now nodes < map_left old nodes) (λ _. Unit {0})
