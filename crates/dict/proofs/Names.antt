-- The words of texts are names'.
use Rattle.std.proofs.Common.{◌≡◌, ℕ, zero, suc, ◌+◌, ◌-◌, ◌<◌, ◌≤◌, ◌==◌, Bool, true, false, cond, ◌&&◌, List, [], ◌∷◌, ◌++◌, length, get_or, drop, refl, sym, ap, ◌∙◌, arith, w64, ◌^◌}
use Rattle.std.specs.List.{list_all, repeat}
use Rattle.std.specs.Char.{is_ascii_graphic}
use Rattle.std.specs.Int.{from_be_bytes, to_be_bytes}
use Rattle.std.proofs.lemmas.Bool.Decides.{nat_tests}
use Rattle.std.proofs.lemmas.Nat.{be_bytes_8, from_be_bytes-to_be_bytes_8}
use Rattle.dict.specs.Names.{IsName, zero_padded, is_padded, is_name_word, name_word}

zeros_are_zeros : (n : ℕ) → list_all (λ c. c == 0) (repeat n (0 ∷ [])) ≡ true
zeros_are_zeros zero = refl
zeros_are_zeros (suc n) = zeros_are_zeros n

zeros_are_padded : (n : ℕ) → is_padded (repeat n (0 ∷ [])) ≡ true
zeros_are_padded zero = refl
zeros_are_padded (suc n) = zeros_are_zeros n

-- no character of a name is a zero byte
letter_is_some : (b : ℕ) → is_ascii_graphic b ≡ true → (b == 0) ≡ false
letter_is_some b h = grind (arith, nat_tests)

-- one more character in front
one_more : (z a p l q : Bool) → (a && l) ≡ true → (a ≡ true → z ≡ false) → (l ≡ true → p ≡ true) → cond z q (a && p) ≡ true
one_more z true p true q h some more = rw (some refl) (more refl)
one_more z true p false q h some more = absurd (grind arith)
one_more z false p l q h some more = absurd (grind arith)

-- characters and as many zeros as you like are padded
letters_are_padded : (bs : List ℕ) (n : ℕ) → list_all is_ascii_graphic bs ≡ true → is_padded (bs ++ repeat n (0 ∷ [])) ≡ true
letters_are_padded [] n h = zeros_are_padded n
letters_are_padded (b ∷ bs) n h =
    one_more (b == 0) (is_ascii_graphic b) _ (list_all is_ascii_graphic bs) _ h (letter_is_some b) (letters_are_padded bs n)

length_of_zeros : (n : ℕ) → length {A = ℕ} (repeat n (0 ∷ [])) ≡ n
length_of_zeros zero = refl
length_of_zeros (suc n) = ap suc (length_of_zeros n)

length_behind : (bs : List ℕ) (n : ℕ) → length (bs ++ repeat n (0 ∷ [])) ≡ length bs + n
length_behind [] n = let e = length_of_zeros n in omega arith
length_behind (b ∷ bs) n = let e = length_behind bs n in omega arith

zero_there : (n i : ℕ) → get_or {A = ℕ} (repeat n (0 ∷ [])) i 0 ≡ 0
zero_there zero i = refl
zero_there (suc n) zero = refl
zero_there (suc n) (suc i) = zero_there n i

bytes_there : (bs : List ℕ) (n : ℕ) → ((i : ℕ) → get_or bs i 0 < 256) → (i : ℕ) → get_or (bs ++ repeat n (0 ∷ [])) i 0 < 256
bytes_there [] n h i = let e = zero_there n i in omega arith
bytes_there (b ∷ bs) n h zero = h zero
bytes_there (b ∷ bs) n h (suc i) = bytes_there bs n (λ j. h (suc j)) i

zeros_left : (n k : ℕ) → drop {A = ℕ} k (repeat n (0 ∷ [])) ≡ repeat (n - k) (0 ∷ [])
zeros_left zero zero = refl
zeros_left zero (suc k) = let e : 0 - suc k ≡ 0 = omega arith in rw e refl
zeros_left (suc n) zero = let e : suc n - 0 ≡ suc n = omega arith in rw e refl
zeros_left (suc n) (suc k) = let e : suc n - suc k ≡ n - k = omega arith in rw e (zeros_left n k)

-- what is copied over zeros, and the zeros that are left
pub copied_over : (text letters front : List ℕ) → front ≡ letters → letters ≡ text → front ++ drop (length letters) (0 ∷ 0 ∷ 0 ∷ 0 ∷ 0 ∷ 0 ∷ 0 ∷ 0 ∷ []) ≡ zero_padded text
copied_over text letters front e f = rw e (rw f (ap (λ zs. text ++ zs) (zeros_left 8 (length text))))

-- these bytes are those of their number
own_bytes : (bs : List ℕ) (w : ℕ) → length bs ≤ 8 → ((i : ℕ) → get_or bs i 0 < 256) → w ≡ from_be_bytes w64 (zero_padded bs) → to_be_bytes w64 w ≡ zero_padded bs
own_bytes bs w few below e =
    be_bytes_8 (zero_padded bs) w (let l = length_behind bs (8 - length bs) in omega arith) (bytes_there bs (8 - length bs) below) e

-- the word of a name
pub word_is : (bs : List ℕ) (w : ℕ) → w ≡ from_be_bytes w64 (zero_padded bs) → w ≡ name_word bs
unfolding name_word
word_is bs w e = e

-- it is a name's
pub word_spells : (bs : List ℕ) (w : ℕ) → length bs ≤ 8 → list_all is_ascii_graphic bs ≡ true → ((i : ℕ) → get_or bs i 0 < 256) → w ≡ from_be_bytes w64 (zero_padded bs) → is_name_word w ≡ true
unfolding is_name_word
word_spells bs w few letters below e =
    ap is_padded (own_bytes bs w few below e) ∙ letters_are_padded bs (8 - length bs) letters

-- whether a word is a name's, by its bytes
pub tells_names : (w : ℕ) (bytes : List ℕ) (b : Bool) → bytes ≡ to_be_bytes w64 w → b ≡ is_padded bytes → b ≡ is_name_word w
unfolding is_name_word
tells_names w bytes b e told = told ∙ ap is_padded e

-- Back from the bytes of a word to a text.

-- these bytes are visible characters, and zeros after them
record IsPadded (cs : List ℕ) : Type 0 where
  letters : List ℕ
  visible : list_all is_ascii_graphic letters ≡ true
  zeros : ℕ
  bytes : cs ≡ letters ++ repeat zeros (0 ∷ [])

all_zeros : (cs : List ℕ) → list_all (λ c. c == 0) cs ≡ true → cs ≡ repeat (length cs) (0 ∷ [])
all_zeros [] h = refl
all_zeros (zero ∷ cs) h = ap (λ zs. 0 ∷ zs) (all_zeros cs h)
all_zeros (suc c ∷ cs) h = absurd (grind arith)

-- one more byte in front
in_front : (b : ℕ) (cs : List ℕ) (z a p : Bool) → (b == 0) ≡ z → is_ascii_graphic b ≡ a → is_padded cs ≡ p →
    cond z (list_all (λ c. c == 0) cs) (a && p) ≡ true → (is_padded cs ≡ true → IsPadded cs) → IsPadded (b ∷ cs)
in_front zero cs true a p z e f h more = record { letters = []; visible = refl; zeros = suc (length cs); bytes = ap (λ zs. 0 ∷ zs) (all_zeros cs h) }
in_front (suc b) cs true a p z e f h more = absurd (grind arith)
in_front b cs false true true z e f h more =
    let rest = more f in
    record { letters = b ∷ rest.letters; visible = rw e rest.visible; zeros = rest.zeros; bytes = ap (λ bs. b ∷ bs) rest.bytes }
in_front b cs false true false z e f h more = absurd (grind arith)
in_front b cs false false p z e f h more = absurd (grind arith)

padded : (cs : List ℕ) → is_padded cs ≡ true → IsPadded cs
padded [] h = record { letters = []; visible = refl; zeros = 0; bytes = refl }
padded (b ∷ cs) h = in_front b cs (b == 0) (is_ascii_graphic b) (is_padded cs) refl refl refl h (padded cs)

-- a word of a name has a text whose word it is
pub spelled_text : (w : ℕ) → w < 2 ^ 64 → is_padded (to_be_bytes w64 w) ≡ true → (bs : List ℕ) × IsName bs × (w ≡ name_word bs)
unfolding name_word
spelled_text w few h =
    let it = padded (to_be_bytes w64 w) h in
    let long = length_behind it.letters it.zeros in
    let eight = ap length it.bytes in
    let zeros : it.zeros ≡ 8 - length it.letters = omega arith in
    let bytes : to_be_bytes w64 w ≡ zero_padded it.letters = it.bytes ∙ ap (λ n. it.letters ++ repeat n (0 ∷ [])) zeros in
    (it.letters, (omega arith, it.visible), sym (from_be_bytes-to_be_bytes_8 w few) ∙ ap (from_be_bytes w64) bytes)
