-- Numbers as texts have them.
use Rattle.std.proofs.Common.{◌≡◌, ◌≢◌, ℕ, zero, suc, ◌+◌, ◌*◌, ◌/◌, ◌%◌, ◌<◌, ◌≤◌, ◌^◌, ⊎_elim, List, [], ◌∷◌, ◌++◌, add-one, ap, arith, drop, get_or, length, length-append, length-drop, length-take, refl, subst, sym, ◌∙◌, take}
use Rattle.std.proofs.Math.Seq.{take-length, take-suc, take_all}
use Rattle.std.proofs.lemmas.List.{take-append-le}
use Rattle.std.proofs.lemmas.Bool.{cases_lt}
use Rattle.std.proofs.lemmas.Fmt.{decimal_by_steps_wide, decimal_digit, decimal_injective, decimal_is_IsNumeral_wide, decimal_step_wide}
use Rattle.std.specs.Prelude.{decimal}
use Rattle.std.specs.Str.Parse.{digits_value}

-- a text spells one number
pub same_number : (text : List ℕ) (m n : ℕ) → text ≡ decimal m → text ≡ decimal n → m < 2 ^ 64 → n < 2 ^ 64 → m ≡ n
same_number text m n first second m_fits n_fits = decimal_injective m n m_fits n_fits (sym first ∙ second)

-- Numbers of so few digits that all that texts spell are among them

-- two of them have different digits
same_digits : (m n : ℕ) → m < 10 ^ 64 → n < 10 ^ 64 → decimal m ≡ decimal n → m ≡ n
same_digits m n m_short n_short same = sym (decimal_is_IsNumeral_wide m m_short).1 ∙ ap (digits_value 10) same ∙ (decimal_is_IsNumeral_wide n n_short).1

-- each has some
pub some_digits : (n : ℕ) → n < 10 ^ 64 → 0 < length (decimal n)
some_digits n short = (decimal_is_IsNumeral_wide n short).0.0

-- and none of them, but 0 itself, begins with 0
no_zero_first : (n : ℕ) → 0 < n → n < 10 ^ 64 → 48 < get_or (decimal n) 0 0
no_zero_first n some short =
    let P : ℕ → List ℕ → Type 0 = λ n ds. (0 < length ds) × (0 < n → 48 < get_or ds 0 0) in
    (decimal_by_steps_wide P one more n short).1 some
  where
    one : (n : ℕ) → n < 10 → (0 < length ((48 + n) ∷ [])) × (0 < n → 48 < get_or ((48 + n) ∷ []) 0 0)
    one n less = (omega arith, λ some. omega (arith, some))

    first_stays : (ds last : List ℕ) → 0 < length ds → get_or (ds ++ last) 0 0 ≡ get_or ds 0 0
    first_stays [] last some = absurd (omega (arith, some))
    first_stays (d ∷ ds) last some = refl

    more : (n : ℕ) (ds : List ℕ) → 10 ≤ n → (0 < length ds) × (0 < n / 10 → 48 < get_or ds 0 0) → (0 < length (ds ++ (48 + n % 10) ∷ [])) × (0 < n → 48 < get_or (ds ++ (48 + n % 10) ∷ []) 0 0)
    more n ds ten before = (
      omega (arith, length-append ds ((48 + n % 10) ∷ []), before.0),
      λ some. rw (first_stays ds ((48 + n % 10) ∷ []) before.0) (before.1 (omega (arith, ten))),
    )

-- a number whose digits are those of another and one more
pub more_digits : (m d : ℕ) → 0 < m → d < 10 → m * 10 + d < 10 ^ 64 → decimal (m * 10 + d) ≡ decimal m ++ (48 + d) ∷ []
more_digits m d some small short =
    let front : (m * 10 + d) / 10 ≡ m = omega arith in
    let last : (m * 10 + d) % 10 ≡ d = omega arith in
    decimal_step_wide (m * 10 + d) (omega arith) short ∙ (λ i. decimal (front i) ++ (48 + last i) ∷ [])

-- texts that end alike
front_alike : (xs ys : List ℕ) (a b : ℕ) → xs ++ a ∷ [] ≡ ys ++ b ∷ [] → (xs ≡ ys) × (a ≡ b)
front_alike [] [] a b same = (refl, cc)
front_alike [] (y ∷ []) a b same = absurd (cc)
front_alike [] (y ∷ z ∷ ys) a b same = absurd (cc)
front_alike (x ∷ []) [] a b same = absurd (cc)
front_alike (x ∷ z ∷ xs) [] a b same = absurd (cc)
front_alike (x ∷ xs) (y ∷ ys) a b same = let rest = front_alike xs ys a b (cc) in let e = rest.0 in let f = rest.1 in (cc, f)

-- no other number has such digits
less_digits : (n m byte : ℕ) → n < 10 ^ 64 → m < 10 ^ 64 → decimal n ≡ decimal m ++ byte ∷ [] → (0 < m) × (byte ≡ 48 + n % 10) × (n ≡ m * 10 + n % 10)
less_digits n m byte n_short m_short same = ⊎_elim small large (cases_lt n 10)
  where
    small : n < 10 → (0 < m) × (byte ≡ 48 + n % 10) × (n ≡ m * 10 + n % 10)
    small less =
        let one = ap (λ (ds : List ℕ). length ds) (sym (decimal_digit n less) ∙ same) in
        absurd (omega (arith, one, length-append (decimal m) (byte ∷ []), some_digits m m_short))

    large : 10 ≤ n → (0 < m) × (byte ≡ 48 + n % 10) × (n ≡ m * 10 + n % 10)
    large ten =
        let alike = front_alike (decimal (n / 10)) (decimal m) (48 + n % 10) byte (sym (decimal_step_wide n ten n_short) ∙ same) in
        let front = same_digits (n / 10) m (omega (arith, n_short)) m_short alike.0 in
        (omega (arith, front, ten), sym alike.1, omega (arith, front))

-- A text as a number is read from it, byte by byte

-- the first byte of a text and `i` of the others spell a number
pub record SpellsFront (text more : List ℕ) (i number : ℕ) : Type 0 where
  pub behind : drop 1 text ≡ more
  pub no_zero : 0 < length more → get_or text 0 0 ≢ 48
  pub short : number < 10 ^ 64
  pub spelled : take (suc i) text ≡ decimal number

-- the front that is longer by a byte
longer : (text more : List ℕ) (i number : ℕ) → SpellsFront text more i number → i < length more → take (suc (i + 1)) text ≡ decimal number ++ get_or more i 0 ∷ []
longer [] more i number front inside = absurd (omega (arith, ap (λ (bytes : List ℕ). length bytes) front.behind))
longer (first ∷ rest) more i number front inside =
    let grown : take (suc (i + 1)) (first ∷ rest) ≡ take (suc i) (first ∷ rest) ++ get_or more i 0 ∷ [] = rw (front.behind, add-one) (ap (λ (bytes : List ℕ). first ∷ bytes) (take-suc more i 0 inside)) in
    grown ∙ ap (λ (bytes : List ℕ). bytes ++ get_or more i 0 ∷ []) front.spelled

-- what is spelled before another byte is not 0
is_some : (text more : List ℕ) (i m : ℕ) → SpellsFront text more i m → i < length more → 0 < m
is_some text more i (suc m) front inside = omega arith
is_some [] more i zero front inside = absurd (omega (arith, ap (λ (bytes : List ℕ). length bytes) front.behind))
is_some (first ∷ rest) more i zero front inside =
    let zero_alone : first ∷ take i rest ≡ 48 ∷ [] = front.spelled ∙ decimal_digit 0 (omega arith) in
    absurd (front.no_zero (omega (arith, inside)) (cc))

-- the front with a digit more
pub next_digit : (text more : List ℕ) (i m n digit : ℕ) → SpellsFront text more i m → i < length more → get_or more i 0 ≡ 48 + digit → digit < 10 → n ≡ m * 10 + digit → n < 10 ^ 64 → SpellsFront text more (i + 1) n
next_digit text more i m n digit front inside byte small is short = record {
  behind = front.behind;
  no_zero = front.no_zero;
  short = short;
  spelled =
      longer text more i m front inside ∙
      ap (λ b. decimal m ++ b ∷ []) byte ∙
      sym (more_digits m digit (is_some text more i m front inside) small (subst (λ k. k < 10 ^ 64) is short)) ∙
      ap decimal (sym is);
}

-- the front is the whole text
pub whole : (text more : List ℕ) (i number : ℕ) → SpellsFront text more i number → length more ≤ i → text ≡ decimal number
whole text more i number front past = sym (take_all (suc i) text (omega (arith, length-drop 1 text, ap (λ (bytes : List ℕ). length bytes) front.behind))) ∙ front.spelled

-- Texts that spell no number below a limit
module _ (limit : ℕ) (few : limit ≤ 10 ^ 64) where
  -- a text of one byte spells a digit alone
  one_byte : (n byte : ℕ) → n < limit → byte ∷ [] ≡ decimal n → (n < 10) × (byte ≡ 48 + n)
  one_byte n byte fits same = ⊎_elim
      (λ (less : n < 10). let digit = decimal_digit n less in (less, let e : byte ∷ [] ≡ (48 + n) ∷ [] = same ∙ digit in cc))
      (λ (ten : 10 ≤ n).
      let long = ap (λ (ds : List ℕ). length ds) (same ∙ decimal_step_wide n ten (omega (arith, fits, few))) in
      absurd (omega (arith, long, length-append (decimal (n / 10)) ((48 + n % 10) ∷ []), some_digits (n / 10) (omega (arith, fits, few)))))
      (cases_lt n 10)

  -- a front of a number's digits is a number's too
  front_number : (n k : ℕ) → n < limit → 0 < k → k ≤ length (decimal n) → (m : ℕ) × (m < limit) × (take k (decimal n) ≡ decimal m)
  front_number n k fits some within =
      let P : ℕ → List ℕ → Type 0 = λ n ds. n < limit → (ds ≡ decimal n) × ((k : ℕ) → 0 < k → k ≤ length ds → (m : ℕ) × (m < limit) × (take k ds ≡ decimal m)) in
      (decimal_by_steps_wide P one more n (omega (arith, fits, few)) fits).1 k some within
    where
      one : (n : ℕ) → n < 10 → n < limit → ((48 + n) ∷ [] ≡ decimal n) × ((k : ℕ) → 0 < k → k ≤ length ((48 + n) ∷ []) → (m : ℕ) × (m < limit) × (take k ((48 + n) ∷ []) ≡ decimal m))
      one n less fits = (
        sym (decimal_digit n less),
        λ k some within.
            let whole : k ≡ 1 = omega arith in
            (n, fits, rw whole (sym (decimal_digit n less))),
      )

      more : (n : ℕ) (ds : List ℕ) → 10 ≤ n → (n / 10 < limit → (ds ≡ decimal (n / 10)) × ((k : ℕ) → 0 < k → k ≤ length ds → (m : ℕ) × (m < limit) × (take k ds ≡ decimal m))) → n < limit → (ds ++ (48 + n % 10) ∷ [] ≡ decimal n) × ((k : ℕ) → 0 < k → k ≤ length (ds ++ (48 + n % 10) ∷ []) → (m : ℕ) × (m < limit) × (take k (ds ++ (48 + n % 10) ∷ []) ≡ decimal m))
      more n ds ten earlier fits =
          let before = earlier (omega (arith, fits)) in
          let last : List ℕ = (48 + n % 10) ∷ [] in
          let here : ds ++ last ≡ decimal n = ap (λ (front : List ℕ). front ++ last) before.0 ∙ sym (decimal_step_wide n ten (omega (arith, fits, few))) in (
            here,
            λ k some within. ⊎_elim
                (λ (short : k < suc (length ds)).
                let is = before.1 k some (omega arith) in
                (is.0, is.1, take-append-le k ds last (omega arith) ∙ is.2))
                (λ (long : suc (length ds) ≤ k).
                let whole : k ≡ length (ds ++ last) = omega (arith, length-append ds last) in
                (n, fits, rw (whole, take-length (ds ++ last)) here))
                (cases_lt k (suc (length ds))),
          )

  -- a text with no front that is a number spells none
  no_front : (text : List ℕ) (k : ℕ) → 0 < k → k ≤ length text → ((m : ℕ) → m < limit → take k text ≢ decimal m) → (n : ℕ) → n < limit → text ≢ decimal n
  no_front text k some within none n fits same =
      let is = front_number n k fits some (omega (arith, ap (λ (ds : List ℕ). length ds) same)) in
      none is.0 is.1 (ap (take k) same ∙ is.2)

  -- nor does one whose first byte is no digit
  pub no_digit_first : (text : List ℕ) (byte : ℕ) → take 1 text ≡ byte ∷ [] → ((digit : ℕ) → digit < 10 → byte ≢ 48 + digit) → (n : ℕ) → n < limit → text ≢ decimal n
  no_digit_first text byte first none =
      let long : 1 ≤ length text = omega (arith, length-take 1 text, ap (λ (bytes : List ℕ). length bytes) first) in
      no_front text 1 (omega arith) long (λ m fits same. let digit = one_byte m byte fits (sym first ∙ same) in none m digit.0 digit.1)

  -- nor does one that continues as no number does
  stops : (text more : List ℕ) (i m : ℕ) → SpellsFront text more i m → i < length more → ((n : ℕ) → n < limit → decimal n ≢ decimal m ++ get_or more i 0 ∷ []) → (n : ℕ) → n < limit → text ≢ decimal n
  stops text more i m front inside none = no_front text (suc (i + 1)) (omega arith) (omega (arith, inside, length-drop 1 text, ap (λ (bytes : List ℕ). length bytes) front.behind))
      (λ n fits same. none n fits (sym same ∙ longer text more i m front inside))

  -- with a byte that is no digit
  pub no_digit : (text more : List ℕ) (i m : ℕ) → SpellsFront text more i m → i < length more → ((digit : ℕ) → digit < 10 → get_or more i 0 ≢ 48 + digit) → (n : ℕ) → n < limit → text ≢ decimal n
  no_digit text more i m front inside none = stops text more i m front inside
      (λ n fits same. none (n % 10) (omega arith) (less_digits n m (get_or more i 0) (omega (arith, fits, few)) front.short same).1)

  -- or with a digit for which there is no room
  pub no_room : (text more : List ℕ) (i m digit : ℕ) → SpellsFront text more i m → i < length more → get_or more i 0 ≡ 48 + digit → ¬ (m * 10 + digit < limit) → (n : ℕ) → n < limit → text ≢ decimal n
  no_room text more i m digit front inside byte large = stops text more i m front inside (λ n fits same.
      let is = less_digits n m (get_or more i 0) (omega (arith, fits, few)) front.short same in
      large (omega (arith, is.1, is.2, byte, fits)))

  -- no number of two digits and more begins with 0
  pub no_leading_zero : (text : List ℕ) → get_or text 0 0 ≡ 48 → 1 < length text → (n : ℕ) → n < limit → text ≢ decimal n
  no_leading_zero text first long zero fits same = omega (arith, long, ap (λ (bytes : List ℕ). length bytes) (same ∙ decimal_digit 0 (omega arith)))
  no_leading_zero text first long (suc n) fits same = omega (arith, first, no_zero_first (suc n) (omega arith) (omega (arith, fits, few)), ap (λ (bytes : List ℕ). get_or bytes 0 0) same)

  -- and each has some digit
  pub not_empty : (text : List ℕ) → length text ≡ 0 → (n : ℕ) → n < limit → text ≢ decimal n
  not_empty text empty n fits same = omega (arith, empty, ap (λ (bytes : List ℕ). length bytes) same, some_digits n (omega (arith, fits, few)))
