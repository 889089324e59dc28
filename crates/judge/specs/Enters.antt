-- Which rows make an entry of the log.
use Rattle.std.specs.Prelude.{Bool, true, false, ◌&&◌, not, ◌==◌}
use Rattle.histories.specs.Common.{Child, Word, Node, Kind, Update, Row}

-- whether a step of this kind on the word is an update of a field
abbrev pub is_field_update : Kind → Word → Bool
is_field_update Update (Node n (Child side)) = true
is_field_update _ _ = false

-- whether the row makes an entry: it is an update that changes its field
abbrev pub makes_entry : Row → Bool
makes_entry r = is_field_update r.kind r.word && not (r.before == r.after)
