-- How a table opens: what its words hold, and how passes are made of a seat that has all of them.
use Rattle.std.proofs.Common.{◌≡◌, ℕ, suc, ◌+◌, ◌-◌, ◌<◌, List, [], ◌∷◌, refl, sym, ◌∙◌, ap, arith, slice_index}
use Rattle.histories.specs.Common.{Contents, IsWord, Layout, Word, place, word_at}
use Rattle.tables.specs.declared.memory.PassMemory.{PassMemory}
use Rattle.tables.specs.declared.rule.Plot.{Plot}
use Rattle.tables.specs.TableRule.{all_dealt, seated_pass, new_passes, passes_with, rest_of, first_of}

-- what words hold, by their places
pub placed : (c : Contents) (words : List ℕ) (lay : Layout) (f : Word → ℕ) → c.layout ≡ lay → words ≡ c.words → ((w : Word) → IsWord lay w → word_at c w ≡ f w) → (w : Word) → IsWord lay w → slice_index words (place lay w) ≡ f w
placed c words lay f same is holds w i = (λ k. slice_index (is k) (place (sym same k) w)) ∙ holds w i

left_is : (from n : ℕ) → from < n → n - from ≡ suc (n - (from + 1))
left_is from n i = omega arith

-- the first of those that are left, and the others
module _ (memory : ℕ → PassMemory) (plot : Plot) (from n : ℕ) (i : from < n) where
  pub first_with : first_of (passes_with memory plot from (n - from)) ≡ seated_pass from plot.layout plot.planting (memory from) [] ∷ []
  first_with = rw (left_is from n i) refl

  pub rest_with : rest_of (passes_with memory plot from (n - from)) ≡ passes_with memory plot (from + 1) (n - (from + 1))
  rest_with = let next : from + 1 ≡ suc from = omega arith in rw (left_is from n i) (sym (ap (λ k. passes_with memory plot k (n - (from + 1))) next))

-- so it is where they have all of their names dealt
pub first_left : (plot : Plot) (from n : ℕ) → from < n → first_of (new_passes plot from (n - from)) ≡ seated_pass from plot.layout plot.planting (all_dealt plot.layout from) [] ∷ []
first_left plot = first_with (all_dealt plot.layout) plot

pub rest_left : (plot : Plot) (from n : ℕ) → from < n → rest_of (new_passes plot from (n - from)) ≡ new_passes plot (from + 1) (n - (from + 1))
rest_left plot = rest_with (all_dealt plot.layout) plot
