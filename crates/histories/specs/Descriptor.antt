-- What an SCX-record says, apart from the history that its words are read from.
use Rattle.std.specs.Prelude.{ℕ}
use Rattle.arena.specs.declared.word.ScxWord.TheVariants.{Call}
use Rattle.arena.specs.declared.word.Word.{Word}
use Rattle.arena.specs.Words.{scx, child}
use Rattle.arena.specs.History.{History, value}
use Rattle.arena.specs.ScxRecords.{count_of, field_index_of, side_of, plan, member, seen, new, old}

-- the settled words of an SCX-record, which stay as they are once an info word has named it
pub record Descriptor : Type 0 where
  pub plan : ℕ
  -- its `v` words by their index, and its `i` words
  pub member : ℕ → ℕ
  pub seen : ℕ → ℕ
  pub new : ℕ
  pub old : ℕ
  pub call : ℕ

-- the settled words of s after a history
abbrev pub descriptor : History → ℕ → Descriptor
descriptor h s = record { plan = plan h s; member = λ j. member h s j; seen = λ j. seen h s j; new = new h s; old = old h s; call = value h (scx s Call) }

-- how many nodes it covers
abbrev pub count_in : Descriptor → ℕ
count_in d = count_of d.plan

-- which of its nodes has the field: its place among them
abbrev pub field_index_in : Descriptor → ℕ
field_index_in d = field_index_of d.plan

-- the field that it changes
abbrev pub field_in : Descriptor → Word
field_in d = child (d.member (field_index_in d)) (side_of d.plan)
