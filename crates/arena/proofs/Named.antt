-- A row that leaves the words that name records names none.
use Rattle.std.proofs.Common.{◌≡◌, ℕ}
use Rattle.arena.specs.declared.layout.Layout.{Layout}
use Rattle.arena.specs.declared.word.Side.{Side}
use Rattle.arena.specs.declared.word.ScxWord.{ScxWord}
use Rattle.arena.specs.declared.step.Row.{Row}
use Rattle.arena.specs.Words.{scx, info, child}
use Rattle.arena.specs.History.{History, ◌⊳◌, value}
use Rattle.arena.specs.Fills.{IsNamed, opening_node, by_field, by_scx, IsNamedScx}
use Rattle.arena.proofs.Values.{held_back}

-- an SCX-record that is named after a row that leaves all infos was named before it
pub named_scx_before : (r : Row) (h : History) (s : ℕ) → ((n : ℕ) → value (r ⊳ h) (info n) ≡ value h (info n)) → IsNamedScx (r ⊳ h) s → IsNamedScx h s
named_scx_before r h s same p = (p.0, held_back r h (info p.0) s (same p.0) p.1)

-- so was a node, where the row leaves all fields too, and the words of named SCX-records
pub named_before : (lay : Layout) (r : Row) (h : History) → ((n : ℕ) → value (r ⊳ h) (info n) ≡ value h (info n)) → ((m : ℕ) (side : Side) → value (r ⊳ h) (child m side) ≡ value h (child m side)) → ((s : ℕ) (part : ScxWord) → IsNamedScx h s → value (r ⊳ h) (scx s part) ≡ value h (scx s part)) → {n : ℕ} → IsNamed lay (r ⊳ h) n → IsNamed lay h n
named_before lay r h infos fields words (opening_node i) = opening_node i
named_before lay r h infos fields words (by_field m side p x) = by_field m side (named_before lay r h infos fields words p) (held_back r h (child m side) _ (fields m side) x)
named_before lay r h infos fields words (by_scx s part p i x) = let q : IsNamedScx h s = named_scx_before r h s infos p in by_scx s part q i (held_back r h (scx s part) _ (words s part q) x)
