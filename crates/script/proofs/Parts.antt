-- Parts of lists of numbers.
use Rattle.std.proofs.Common.{◌≡◌, ℕ, ◌≤◌, List, [], ◌∷◌, length, length-drop, drop, arith, refl, nat_eq, ◌∙◌}
use Rattle.std.proofs.lemmas.Bool.Decides.{nat_tests}
use Rattle.script.specs.Part.{is_subsequence}

-- only a part of no elements is a part of nothing
part_of_nothing : (part : List ℕ) → is_subsequence part [] ≡ nat_eq (length part) 0
part_of_nothing [] = refl
part_of_nothing (x ∷ part) = grind (arith, nat_tests)

pub rest_of_nothing : (part : List ℕ) (found : ℕ) → found ≤ length part → is_subsequence (drop found part) [] ≡ nat_eq found (length part)
rest_of_nothing part found within = part_of_nothing (drop found part) ∙ grind (arith, nat_tests, length-drop found part)
