-- How many flags are not set.
use Rattle.std.proofs.Common.{◌≡◌, ◌≢◌, ℕ, zero, suc, ◌+◌, ◌<◌, Bool, true, false, List, [], ◌∷◌, length, replicate, refl, sym, arith, get_or-set_other, get_or-set_same, slice_set, slice_index_or}
use Rattle.std.proofs.lemmas.List.{get_or_read}
use Rattle.judge.specs.Graph.{has_flag, count_unset}

-- the flag that was read
pub flag_read : (flags : List Bool) (v : ℕ) (b : Bool) → v < length flags → b ≡ slice_index_or flags v b → has_flag flags v ≡ b
flag_read flags v b l e = sym (get_or_read flags v b l e false)

-- one more is set
pub unset_less : (flags : List Bool) (v : ℕ) → v < length flags → has_flag flags v ≡ false → count_unset (slice_set flags v true) + 1 ≡ count_unset flags
unset_less [] v l e = absurd (omega arith)
unset_less (false ∷ flags) zero l e = omega arith
unset_less (true ∷ flags) zero l e = absurd (cc)
unset_less (false ∷ flags) (suc v) l e = let more = unset_less flags v (omega arith) e in omega arith
unset_less (true ∷ flags) (suc v) l e = unset_less flags v (omega arith) e

pub set_here : (flags : List Bool) (v : ℕ) → v < length flags → has_flag (slice_set flags v true) v ≡ true
set_here flags v l = get_or-set_same flags v true false l

pub set_there : (flags : List Bool) (v w : ℕ) → w ≢ v → has_flag (slice_set flags v true) w ≡ has_flag flags w
set_there flags v w d = get_or-set_other flags v w true false d

-- lists of one value

abbrev pub zero_list : ℕ → List ℕ
zero_list n = replicate n 0

pub zeros : (n i : ℕ) → slice_index_or (zero_list n) i 0 ≡ 0
zeros zero i = refl
zeros (suc n) zero = refl
zeros (suc n) (suc i) = zeros n i

pub no_flags : (n i : ℕ) → has_flag (replicate n false) i ≡ false
no_flags zero i = refl
no_flags (suc n) zero = refl
no_flags (suc n) (suc i) = no_flags n i

pub all_unset : (n : ℕ) → count_unset (replicate n false) ≡ n
all_unset zero = refl
all_unset (suc n) = let more = all_unset n in omega (more, arith)
