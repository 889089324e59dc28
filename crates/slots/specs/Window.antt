-- What the words of a table that lasts have to do with a run over its names.
use Rattle.std.specs.Prelude.{◌≡◌, ◌<◌, ◌≤◌, ◌⊎◌, ℕ, List, length, slice_index, slice_set}
use Rattle.histories.specs.Common.{Word, Row, History, ◌⊳◌, Extends, value, table_size, IsWord}
use Rattle.ordered_map.specs.Runs.{IsMapRun}
use Rattle.resting.specs.Reach.{IsOutOfReach}
use Rattle.resting.specs.Records.{Record, record_of}
use Rattle.resting.specs.Rests.{HaveRestedAt, PassesOver}
use Rattle.slots.specs.Held.{Held, IsHeld, AreNames}
use Rattle.slots.specs.Lasting.{Lasting, IsLasting, IsRecord, IsUntaken, table_place}

-- each word of a held record is at its place what the run says
abbrev pub AreShown : Lasting → List ℕ → History → Held → Type 0
AreShown t words h held = (w : Word) → IsWord t.lay w → IsHeld t held (record_of w) → slice_index words (table_place t w) ≡ value h w

-- The words are a window on the run: of each record that is held they are what the run says, and
-- each other record is untaken, or out of every pass's reach. `last` says for each pass a moment at
-- which it has rested. Behind the table's words there may be others.
pub record IsWindow (t : Lasting) (words : List ℕ) (h : History) (last : ℕ → History) (held : Held) : Type 0 where
  pub lasting : IsLasting t
  pub run : IsMapRun t.lay h
  pub rested : HaveRestedAt t.lay h last
  pub size : table_size t.table ≤ length words
  pub names : AreNames t held
  pub shows : AreShown t words h held
  pub every : (x : Record) → IsRecord t.lay x → IsHeld t held x ⊎ (IsUntaken t.lay h x ⊎ IsOutOfReach t.lay h last x)

-- What a step finds and leaves: the row's record is held, its word is at its place what the run
-- says, and what the step leaves there is a window on the run with the row.
pub record IsHeldStep (t : Lasting) (words : List ℕ) (h : History) (last : ℕ → History) (holds : Held) (r : Row) : Type 0 where
  pub held : IsHeld t holds (record_of r.word)
  pub inside : table_place t r.word < table_size t.table
  pub found : slice_index words (table_place t r.word) ≡ value h r.word
  pub after : IsWindow t (slice_set words (table_place t r.word) r.after) (r ⊳ h) last holds

-- no row that was made from h on up to k is of a held record
abbrev pub AreBeside : Lasting → Held → History → History → Type 0
AreBeside t held h k = (r : Row) (g : History) → Extends k (r ⊳ g) → Extends g h → ¬ IsHeld t held (record_of r.word)

-- by each of them the pass o passes over a name that is not held
abbrev pub HasPassedOver : Lasting → Held → (ℕ → History) → ℕ → History → History → Type 0
HasPassedOver t held last o h k = (r : Row) (g : History) → Extends k (r ⊳ g) → Extends g h → (r.pass.0 ≡ o) × PassesOver t.lay (last o) r × ¬ IsHeld t held (record_of r.word)
