-- Texts of numbers, parted by spaces.
use Rattle.std.proofs.Common.{◌≡◌, ℕ, ◌<◌, ◌+◌, List, [], ◌∷◌, ◌++◌, length, length-take, take, get_or, refl, sym, ◌∙◌, ap, append_assoc, append-nil, arith, codes, decimal}
use Rattle.std.proofs.lemmas.List.{take_more}
use Rattle.script.specs.Commands.{numbers_text, spaced}

spaced_append : (ns ms : List ℕ) → spaced (ns ++ ms) ≡ spaced ns ++ spaced ms
unfolding spaced
spaced_append [] ms = refl
spaced_append (n ∷ ns) ms = ap (λ text. codes " " ++ text) (ap (λ text. decimal n ++ text) (spaced_append ns ms) ∙ sym (append_assoc (decimal n) (spaced ns) (spaced ms)))

-- one more number after others
numbers_append : (ns : List ℕ) (n : ℕ) → 0 < length ns → numbers_text (ns ++ n ∷ []) ≡ (numbers_text ns ++ codes " ") ++ decimal n
unfolding spaced
numbers_append [] n some = absurd (omega arith)
numbers_append (m ∷ ns) n some =
    ap (λ text. decimal m ++ text) (spaced_append ns (n ∷ []) ∙ ap (λ text. spaced ns ++ (codes " " ++ text)) (append-nil (decimal n)))
    ∙ sym (append_assoc (decimal m ++ spaced ns) (codes " ") (decimal n) ∙ append_assoc (decimal m) (spaced ns) (codes " " ++ decimal n))

pub first_number : (ns : List ℕ) → 0 < length ns → numbers_text (take 1 ns) ≡ decimal (get_or ns 0 0)
unfolding spaced
first_number [] some = absurd (omega arith)
first_number (n ∷ ns) some = append-nil (decimal n)

pub next_number : (ns : List ℕ) (i : ℕ) → 0 < i → i < length ns → numbers_text (take (i + 1) ns) ≡ (numbers_text (take i ns) ++ codes " ") ++ decimal (get_or ns i 0)
next_number ns i later within = rw (take_more ns i 0 within) (numbers_append (take i ns) (get_or ns i 0) (omega (arith, length-take i ns)))
