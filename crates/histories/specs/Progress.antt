-- How far an SCX-record is: it has started, has frozen a node, can get no further, or is over.
use Rattle.std.specs.Prelude.{◌≡◌, ◌≢◌, ℕ, ◌<◌, ◌⊎◌}
use Rattle.arena.specs.Words.{info, state}
use Rattle.arena.specs.History.{History, value, HasHeld}
use Rattle.arena.specs.Fills.{IsNamedScx}
use Rattle.histories.specs.Descriptor.{Descriptor, descriptor, count_in}

-- s has begun: it is not the dummy, and an info word names it or has named it
pub record IsStarted (h : History) (s : ℕ) : Type 0 where
  pub real : s ≢ 0
  pub named : IsNamedScx h s

-- the j-th node of an SCX-record s with these words was ever frozen for s
abbrev pub Froze : Descriptor → History → ℕ → ℕ → Type 0
Froze d h s j = HasHeld h (info (d.member j)) s

-- s can never freeze all its nodes: the first that was never frozen for it no
-- longer has the info that the snapshot found there
pub record IsStuck (d : Descriptor) (h : History) (s : ℕ) : Type 0 where
  pub index : ℕ
  pub within : index < count_in d
  pub earlier : (i : ℕ) → i < index → Froze d h s i
  pub unfrozen : ¬ Froze d h s index
  pub passed : value h (info (d.member index)) ≢ d.seen index

-- s has no freeze left to win: it can never freeze all its nodes, or it is committed
abbrev pub IsOver : History → ℕ → Type 0
IsOver h s = IsStuck (descriptor h s) h s ⊎ (value h (state s) ≡ 1)
