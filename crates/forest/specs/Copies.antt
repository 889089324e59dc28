-- Copies of the words that a map is read from.
use Rattle.std.specs.Prelude.{◌≡◌, ℕ, ◌<◌, if◌then◌else◌, ◌==◌}
use Rattle.histories.specs.Common.{NodeWord, Settled, Child, Info, Marked, Head, More, Key, Value, High, Left, Right, First, Second, Third, Fourth, Contents, word_at, node}

-- a word of a node that a map is read from: all but its info and its mark
abbrev pub IsMapWord : NodeWord → Type 0
IsMapWord Info = ⊥
IsMapWord Marked = ⊥
IsMapWord _ = Unit {0}

-- each of them by its number: sixteen
abbrev pub map_word : ℕ → NodeWord
map_word number =
    if number == 0 then Settled Head else (
    if number == 1 then Settled More else (
    if number == 2 then Settled (Key First) else (
    if number == 3 then Settled (Key Second) else (
    if number == 4 then Settled (Key Third) else (
    if number == 5 then Settled (Key Fourth) else (
    if number == 6 then Settled (Value First) else (
    if number == 7 then Settled (Value Second) else (
    if number == 8 then Settled (Value Third) else (
    if number == 9 then Settled (Value Fourth) else (
    if number == 10 then Settled (High First) else (
    if number == 11 then Settled (High Second) else (
    if number == 12 then Settled (High Third) else (
    if number == 13 then Settled (High Fourth) else (
    if number == 14 then Child Left else (
    Child Right)))))))))))))))

-- these words of the first k nodes are copied
abbrev pub AreCopied : Contents → Contents → ℕ → Type 0
AreCopied from to k = (n : ℕ) (part : NodeWord) → n < k → IsMapWord part → word_at to (node n part) ≡ word_at from (node n part)
