-- What a judge remembers, and what that says of the history which it represents.
use Rattle.std.specs.Prelude.{◌≡◌, vec_len}
use Rattle.histories.specs.Common.{Layout, Word, IsWord, History, value, Lawful, word_at}
use Rattle.judge.specs.Naming.{NamingStands}
use Rattle.judge.specs.Uses.{UsesStand}
use Rattle.judge.specs.Freezing.{FreezingStands}
use Rattle.judge.specs.Entering.{EnteringStands}
use Rattle.judge.specs.Taking.{TakingStands}
use Rattle.judge.specs.declared.judge.Judge.TheInside.{Inside}

-- all that is remembered is what the history says
pub record StandsFor (lay : Layout) (h : History) (j : Inside) : Type 0 where
  -- it is a lawful one
  pub lawful : Lawful lay h
  -- the words hold what it has left in them
  pub words : (w : Word) → IsWord lay w → word_at j.words w ≡ value h w
  -- the nodes and SCX-records that are named, and the nodes in fields of named ones
  pub naming : NamingStands lay h j.naming
  -- what fields and `new` words have held
  pub uses : UsesStand lay h j.uses
  -- the nodes that were ever frozen
  pub freezing : FreezingStands lay h j.freezing.frozen.items
  -- the log
  pub entering : EnteringStands lay h j.entering
  -- what is taken of the shares
  pub taking : TakingStands lay h j.taking
  -- of what was loaded last nothing is said
  pub loaded : vec_len j.loaded ≡ lay.passes
