-- The text of a sheet stays UTF-8.
use Rattle.std.proofs.Common.{◌≡◌, ◌<◌, ◌≤◌, ◌^◌, ◌∙◌, ap, arith, if◌then◌else◌, is_ok, length, length-take, List, ◌++◌, Result, Ok, Err, ℕ, decimal, replicate, sym, take}
use Rattle.std.proofs.lemmas.List.{take-append-le, take-take}
use Rattle.std.specs.Str.{IsUtf8}
use Rattle.std.proofs.lemmas.Fmt.{IsAscii-decimal_wide}
use Rattle.std.proofs.lemmas.Str.{IsUtf8-append, IsUtf8-from_ascii, IsUtf8-had}

-- with a text after it
pub utf8_behind : (old text new : List ℕ) → new ≡ old ++ text → ∥ IsUtf8 old ∥₁ → IsUtf8 text → ∥ IsUtf8 new ∥₁
utf8_behind old text new is before more = ∣ rw is (IsUtf8-append old text (IsUtf8-had old before) more) ∣₁

-- digits are
pub digits_utf8 : (n : ℕ) → n < 10 ^ 64 → IsUtf8 (decimal n)
digits_utf8 n short = IsUtf8-from_ascii (decimal n) (IsAscii-decimal_wide n short)

-- room that is made after a text leaves it
pub resized_text : {T E : Type 0} (made : Result T E) (bytes new : List ℕ) (end long n : ℕ) → end ≤ long → end ≤ length bytes → new ≡ (if is_ok made then take long bytes ++ replicate n 0 else bytes) → take end bytes ≡ take end new
resized_text (Ok t) bytes new end long n within all is =
    sym (ap (take end) is ∙ take-append-le end (take long bytes) (replicate n 0) (rw (length-take long bytes) (omega arith)) ∙ take-take end long bytes within)
resized_text (Err e) bytes new end long n within all is = sym (ap (take end) is)
