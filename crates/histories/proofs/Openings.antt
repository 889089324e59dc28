-- What words hold at the start.
use Rattle.std.proofs.Common.{◌≡◌, ℕ, ◌<◌, ◌≤◌, ◌+◌, true, false, cond, refl, sym, arith, subst}
use Rattle.histories.specs.Common.{Mode, Layout, Word, Opening, opening_nodes, nodes_at_start, History, Opened, value, Lawful}
use Rattle.arena.specs.Layout.{is_map, IsMap}

pub value_start : (o : Opening) (w : Word) → value (Opened o) w ≡ o.words w
unfolding value
value_start o w = refl

pub some_at_start : (mode : Mode) (planted : ℕ) → 0 < nodes_at_start mode planted
some_at_start mode planted = elim (is_map mode) as (λ is. 0 < cond is (3 + planted) 9) [ true ↦ omega arith | false ↦ omega arith ]

pub some_open : (lay : Layout) → 0 < opening_nodes lay
some_open lay = some_at_start lay.mode lay.planted

-- a map opens with three nodes and those that are planted
pub map_nodes : (lay : Layout) → IsMap lay.mode → opening_nodes lay ≡ 3 + lay.planted
map_nodes lay map = rw map refl

-- an opening is one of the layout's mode, for which there is room
pub start_mode : (lay : Layout) (o : Opening) → Lawful lay (Opened o) → o.mode ≡ lay.mode
unfolding Lawful
start_mode lay o l = l.0

pub start_planted : (lay : Layout) (o : Opening) → Lawful lay (Opened o) → o.planted ≤ lay.planted
unfolding Lawful
start_planted lay o l = l.1

more_planted : (mode : Mode) (few many : ℕ) → few ≤ many → nodes_at_start mode few ≤ nodes_at_start mode many
more_planted mode few many i = elim (is_map mode) as (λ is. cond is (3 + few) 9 ≤ cond is (3 + many) 9) [ true ↦ omega (arith, i) | false ↦ omega arith ]

pub start_nodes : (lay : Layout) (o : Opening) → Lawful lay (Opened o) → nodes_at_start o.mode o.planted ≤ opening_nodes lay
start_nodes lay o l = subst (λ mode. nodes_at_start mode o.planted ≤ opening_nodes lay) (sym (start_mode lay o l)) (more_planted lay.mode o.planted lay.planted (start_planted lay o l))
