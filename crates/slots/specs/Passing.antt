-- By which rows a pass passes over a name.
use Rattle.std.specs.Prelude.{ℕ}
use Rattle.histories.specs.Common.{Kind, Fill, Abort, Settled, Head, Seen, Word, Row, History, ◌⊳◌, value, node, scx, state}
use Rattle.arena.specs.declared.word.ScxWord.TheVariants.{Plan}

-- a row of the pass that leaves this in the word, of no call
abbrev pub row_over : ℕ → Kind → Word → ℕ → History → Row
row_over o kind word after h = record { pass = record { 0 = o }; call = 0; kind = kind; word = word; before = value h word; after = after }

-- a node: by a fill of its head with 0
abbrev pub past_node_of : ℕ → ℕ → History → History
past_node_of o n h = row_over o Fill (node n (Settled Head)) 0 h ⊳ h

-- the SCX-record has a plan of one node, of which it expects to have frozen it already
abbrev pub filled_past : ℕ → ℕ → History → History
filled_past o s h =
    let planned : History = row_over o Fill (scx s Plan) 1 h ⊳ h in
    row_over o Fill (scx s (Seen 0)) s planned ⊳ planned

-- an SCX-record: by such fills, and an abort
abbrev pub past_scx_of : ℕ → ℕ → History → History
past_scx_of o s h = row_over o Abort (state s) 2 (filled_past o s h) ⊳ filled_past o s h
