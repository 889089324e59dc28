use Rattle.std.proofs.Common.{ℕ, List, ◌∙◌, ap, arith, decimal, drop, get_or, length, refl, sym, take, ◌∷◌, []}
use Rattle.std.proofs.lemmas.Bool.{false≢true}
use Rattle.std.proofs.lemmas.Fmt.{decimal_digit}
use Rattle.std.proofs.lemmas.Grind.{common_steps}
use Rattle.texts.proofs.Numbers.{next_digit, no_digit, no_digit_first, no_leading_zero, no_room, not_empty, whole}
use Rattle.texts.proofs.number.number_of.Goals as goal

pub returns-in_err-first : goal.returns-in_err-first
returns-in_err-first g c = rw c.from_residual.ensures (not_empty _ g.met.N.Number.few_digits c.args.text.now (omega (arith, c.in_err-first.ensures.cases, ap length c.as_bytes.ensures.value)))

pub returns-in_err-digit : goal.returns-in_err-digit
returns-in_err-digit g c =
    let is = sym c.as_bytes.ensures.value ∙ c.in_ok-first.ensures.cases.0 in
    rw c.from_residual-in_err-digit.ensures (no_digit_first _ g.met.N.Number.few_digits c.args.text.now _ (ap (take 1) is) c.in_err-digit.ensures)

pub returns-then-not-is_empty : goal.returns-then-not-is_empty
returns-then-not-is_empty g c =
    let is = sym c.as_bytes.ensures.value ∙ c.in_ok-first.ensures.cases.0 in
    no_leading_zero _ g.met.N.Number.few_digits c.args.text.now
    (omega (arith, ap (λ (bytes : List ℕ). get_or bytes 0 0) is))
    (grind (arith, common_steps, ap (λ (bytes : List ℕ). length bytes) is))

pub loop-byte-init : goal.loop-byte-init
loop-byte-init g c =
    let is = sym c.as_bytes.ensures.value ∙ c.in_ok-first.ensures.cases.0 in
    let digit = decimal_digit c.in_ok-digit.digit c.in_ok-digit.ensures.0 in
    record {
      behind = ap (drop 1) is;
      no_zero = λ there zero. grind (arith, ap (λ (bytes : List ℕ). get_or bytes 0 0) is);
      short = rw c.of_digit-number.ensures (omega (arith, c.in_ok-digit.ensures.0));
      spelled = ap (take 1) is ∙ ap (λ n. n ∷ []) c.in_ok-digit.ensures.1 ∙ sym (ap (λ n. decimal n) c.of_digit-number.ensures ∙ digit);
    }

pub returns-in_err-digit_of : goal.returns-in_err-digit_of
returns-in_err-digit_of g c = rw c.from_residual-in_err-digit_of.ensures (no_digit _ g.met.N.Number.few_digits c.args.text.now _ c.loop-byte.byte-index _ c.loop-byte.invariant c.loop-byte-test.true c.in_err-digit_of.ensures)

pub returns-in_err-number : goal.returns-in_err-number
returns-in_err-number g c = rw c.from_residual-in_err-number.ensures (no_room _ g.met.N.Number.few_digits c.args.text.now _ c.loop-byte.byte-index _ c.in_ok-digit_of.field-0 c.loop-byte.invariant c.loop-byte-test.true c.in_ok-digit_of.ensures.1
    (λ fits. false≢true (c.in_err-number.ensures.fits.1 fits)))

pub loop-byte-preserved : goal.loop-byte-preserved
loop-byte-preserved g c = next_digit c.args.text.now _ c.loop-byte.byte-index _ _ c.in_ok-digit_of.field-0 c.loop-byte.invariant c.loop-byte-test.true c.in_ok-digit_of.ensures.1 c.in_ok-digit_of.ensures.0 c.in_ok-number.ensures.value
    (omega (arith, c.in_ok-number.ensures.value, c.in_ok-number.ensures.fits.0 refl, g.met.N.Number.few_digits))

pub returns : goal.returns
returns g c = whole c.args.text.now _ c.loop-byte.byte-index _ c.loop-byte.invariant c.loop-byte-test.false
