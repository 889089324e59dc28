-- Names by their words.
use Rattle.std.proofs.Common.{◌≡◌, ℕ, true, ap, subst}
use Rattle.std.proofs.Props.{props}
use Rattle.dict.specs.Names.{is_name_word}
use Rattle.dict.specs.declared.name.Name8.{Name8}

-- a word is a name's in one way
one_way : (w : ℕ) (a b : is_name_word w ≡ true) → a ≡ b
one_way w a b = let h : IsProp (is_name_word w ≡ true) = hlevel props in h a b

-- the name of this word, which is a name's
made : (w : ℕ) → is_name_word w ≡ true → Name8
made w p = record { word = w; spelled = p }

-- two names of one word are one name
pub name_exact : (j k : Name8) → j.word ≡ k.word → j ≡ k
unfolding made
name_exact j k e =
    let P : ℕ → Type 0 = λ w. (p : is_name_word w ≡ true) → j ≡ made w p in
    subst P e (λ p. ap (made j.word) (one_way j.word j.spelled p)) k.spelled
