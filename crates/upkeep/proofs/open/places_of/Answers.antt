use Rattle.std.proofs.Common.{◌≡◌, ◌<◌, ◌≤◌, ◌+◌, ◌*◌, ◌^◌, ◌%◌, ℕ, refl, sym, ◌∙◌, ap, subst, arith}
use Rattle.std.proofs.Math.Nat.{mod-eq_of_lt, mul-le-mul_right, pow-le-pow_right}
use Rattle.std.proofs.lemmas.Nat.{pow_pos}
use Rattle.upkeep.specs.UpkeepOpening.{AreNamesOf}
use Rattle.upkeep.specs.declared.open.OwnPlaces.{OwnPlaces}
use Rattle.upkeep.proofs.open.places_of.Goals as goal

-- a power that is small enough is what a shift makes
shifted : (bits : ℕ) → bits ≤ 60 → 1 * 2 ^ bits % 18446744073709551616 ≡ 2 ^ bits
shifted bits few = let less : 2 ^ bits ≤ 2 ^ 60 = pow-le-pow_right {n = 2} (omega arith) few in ap (λ k. k % 18446744073709551616) (omega arith) ∙ mod-eq_of_lt (omega (arith, less))

names_of : (start slots bits laps o first turn : ℕ) → bits ≤ 60 → o < 32 → slots + laps * 2 ^ bits ≤ 2 ^ 50 → start < 2 ^ 32 → first < 2 ^ 32 → first ≡ start + o * slots → turn ≡ 2 ^ bits → (let name : ℕ = start + o * (slots + laps * turn) in (let places : OwnPlaces = record { first = first; count = slots; turn = turn; name = name; end = name + (slots + laps * turn) } in AreNamesOf start slots bits laps o places))
names_of start slots bits laps o first turn few is_pass names small_start small_first first_is turn_is = subst (λ n. (let name : ℕ = start + o * (slots + laps * n) in (let places : OwnPlaces = record { first = first; count = slots; turn = n; name = name; end = name + (slots + laps * n) } in AreNamesOf start slots bits laps o places))) (sym turn_is) record {
  first = first_is;
  count = refl;
  turn = refl;
  name = refl;
  end = refl;
  some = pow_pos bits;
  few = pow-le-pow_right {n = 2} (omega arith) few;
  small = small_first;
  inside = inside (o * (slots + laps * 2 ^ bits)) (slots + laps * 2 ^ bits) product names;
  within = omega arith;
}
  where
    product : o * (slots + laps * 2 ^ bits) ≤ 31 * 2 ^ 50
    product = all (o * (slots + laps * 2 ^ bits)) (31 * (slots + laps * 2 ^ bits)) (slots + laps * 2 ^ bits) (mul-le-mul_right (slots + laps * 2 ^ bits) (omega (arith, is_pass))) refl names
      where
        all : (a b k : ℕ) → a ≤ b → b ≡ 31 * k → k ≤ 2 ^ 50 → a ≤ 31 * 2 ^ 50
        all a b k x e y = omega (arith, x, e, y)

    inside : (a k : ℕ) → a ≤ 31 * 2 ^ 50 → k ≤ 2 ^ 50 → start + a + k ≤ 2 ^ 60
    inside a k x y = omega (arith, x, y, small_start)

pub returns : goal.returns
returns c = rw (c.from.ensures, c.from-2.ensures, c.from-3.ensures, c.from-4.ensures) (names_of c.args.start c.args.count c.args.bits c.args.laps c.args.pass.0 c.args.first _ c.requires.bits c.requires.pass c.requires.names (omega (arith, c.ranges.start.fits)) (omega (arith, c.ranges.first.fits)) c.requires.first (shifted c.args.bits c.requires.bits))
