-- What the layer above requires of a history apart from its being lawful: each
-- SCX-record that begins is one that it allows.
use Rattle.std.specs.Prelude.{◌≡◌, ◌≢◌, ℕ, ◌⊎◌}
use Rattle.arena.specs.declared.layout.Layout.{Layout}
use Rattle.arena.specs.declared.step.Row.{Row}
use Rattle.arena.specs.declared.step.Kind.TheVariants.{Freeze}
use Rattle.arena.specs.Openings.{empty}
use Rattle.arena.specs.Words.{info}
use Rattle.arena.specs.History.{History, Opened, ◌⊳◌}
use Rattle.arena.specs.ScxRecords.{member, seen}

-- the row begins s: it is the freeze of the first node of s, and it wins
pub record IsBegin (h : History) (r : Row) (s : ℕ) : Type 0 where
  pub kind : r.kind ≡ Freeze
  pub word : r.word ≡ info (member h s 0)
  pub found : r.before ≡ seen h s 0
  pub stored : r.after ≡ s
  -- an exchange that loses may find what it would store
  pub changed : r.before ≢ r.after

-- every SCX-record that begins is allowed just before its start; the table begins empty, or the
-- dummy is allowed, which is there as it begins: so the layer above says which openings there are
unfoldable pub Shaped : (Layout → History → ℕ → Type 0) → Layout → History → Type 0
Shaped allows lay (Opened o) = (o ≡ empty o.mode) ⊎ allows lay (Opened o) 0
Shaped allows lay (r ⊳ h) = Shaped allows lay h × ((s : ℕ) → IsBegin h r s → allows lay h s)
