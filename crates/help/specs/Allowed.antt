-- What the layer above allows of an SCX-record that its owner
-- has not begun, whatever rows come until then.
use Rattle.std.specs.Prelude.{◌≡◌, ◌≢◌, ℕ, false, ◌⊎◌}
use Rattle.histories.specs.Common.{Layout, Row, info, History, Opened, ◌⊳◌, value, member, seen, is_fill, IsRun, Begins, Descriptor, descriptor}
use Rattle.arena.specs.Fills.{IsFillOfScx}

-- the row changes nothing
pub record IsQuiet (r : Row) : Type 0 where
  pub no_fill : is_fill r.kind ≡ false
  pub same : r.after ≡ r.before

-- a row that may come before the pass c begins s: one of another pass, a
-- fill of a word of s, or one that changes nothing
abbrev pub MayComeBetween : ℕ → ℕ → Row → Type 0
MayComeBetween c s r = (r.pass.0 ≢ c) ⊎ (IsFillOfScx s r ⊎ IsQuiet r)

-- the history k extends h, with no rows between but such as may precede c's beginning of s
abbrev pub IsLater : ℕ → ℕ → History → History → Type 0
IsLater c s h (Opened o) = h ≡ Opened o
IsLater c s h (r ⊳ k) = (h ≡ r ⊳ k) ⊎ (MayComeBetween c s r × IsLater c s h k)

-- the layer above allows s with these words whenever its owner's first freeze
-- may win: after any run that extends h by such rows, in which s still is
-- ready and the first info still is what was found
abbrev pub IsAllowed : (Layout → History → ℕ → Type 0) → Layout → ℕ → History → ℕ → Descriptor → Type 0
IsAllowed allows lay c h s d =
    (k : History) → IsLater c s h k → IsRun allows lay k → descriptor k s ≡ d → Begins lay d k c s → value k (info (member k s 0)) ≡ seen k s 0 → allows lay k s

-- s is its owner c's, is ready for its first freeze, and the layer above will allow it
pub record IsPrepared (allows : Layout → History → ℕ → Type 0) (lay : Layout) (c : ℕ) (h : History) (s : ℕ) : Type 0 where
  pub begins : Begins lay (descriptor h s) h c s
  pub allowed : IsAllowed allows lay c h s (descriptor h s)
