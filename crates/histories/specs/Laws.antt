-- What the laws say of a history: its fields, its final nodes, and SCX-records without an entry.
use Rattle.std.specs.Prelude.{◌≡◌, ℕ, true}
use Rattle.arena.specs.declared.layout.Layout.{Layout}
use Rattle.arena.specs.declared.word.NodeWord.{NodeWord}
use Rattle.arena.specs.declared.word.Side.{Side}
use Rattle.arena.specs.Words.{node, child}
use Rattle.arena.specs.History.{History, value, Extends}
use Rattle.arena.specs.Lawful.{Lawful}
use Rattle.arena.specs.Log.{log, fields, is_final, IsEntered}
use Rattle.arena.specs.Finalized.{IsFinalized}

-- after each row, every field of a node holds what the log so far says: what it was filled with,
-- changed by the entries in order
abbrev pub SpellFields : Layout → History → Type 0
SpellFields lay h = (moment : History) (n : ℕ) (side : Side) → Extends h moment → value moment (child n side) ≡ fields lay moment n side

-- each word of a node still holds what it held at any moment at which the node was final in the log
abbrev pub StaysFinal : Layout → History → Type 0
StaysFinal lay h = (moment : History) (n : ℕ) (part : NodeWord) → Extends h moment → is_final (log lay moment) n ≡ true → value h (node n part) ≡ value moment (node n part)

-- each word of a node still holds what it held at any moment at
-- which a committed SCX-record finalized the node
abbrev pub StaysFinalized : History → Type 0
StaysFinalized h = (moment : History) (n : ℕ) (part : NodeWord) → Extends h moment → IsFinalized moment n → value h (node n part) ≡ value moment (node n part)

-- the SCX-record has no entry, in this history or in any lawful one that extends it
abbrev pub IsNeverEntered : Layout → History → ℕ → Type 0
IsNeverEntered lay h s = (later : History) → Lawful lay later → Extends later h → ¬ IsEntered (log lay later) s
