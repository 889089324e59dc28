use Rattle.slots.proofs.Slots.{empty_apart}
use Rattle.slots.proofs.Windows.{cleans, lets_go, renames, stores_behind, takes}
use Rattle.slots.proofs.laws.slots_hold.Goals as goal

pub returns-clause-lets_go : goal.returns-clause-lets_go
returns-clause-lets_go g t words h last held x w = lets_go t words h last held w x

pub returns-clause-cleans : goal.returns-clause-cleans
returns-clause-cleans g t words h last held w v x = cleans t words h last held x w v

pub returns-clause-apart : goal.returns-clause-apart
returns-clause-apart g t words h last held u w x = empty_apart t x.lasting held x.names u w

pub returns-clause-behind : goal.returns-clause-behind
returns-clause-behind g t words h last held at v x = stores_behind t words h last held x at v

pub returns-clause-takes : goal.returns-clause-takes
returns-clause-takes g t words h last held slot x w = takes t words h last held w slot x

pub returns-clause-renames : goal.returns-clause-renames
returns-clause-renames g t words h last held slot x y w = renames t words h last held w slot x y
