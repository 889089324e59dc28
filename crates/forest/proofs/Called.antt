-- What holds of each own row of a call, as that it carries the number of the call.
use Rattle.std.proofs.Common.{◌≡◌, ℕ, zero, suc, ◌≤◌, inl, inr, List, [], ◌∷◌, ◌++◌, refl, sym, subst, arith}
use Rattle.histories.specs.Common.{Layout, Row, Step, History, Opened, ◌⊳◌, Extends, Call, row_of}
use Rattle.arena.proofs.Lemmas.{ends_self, ends_trans}
use Rattle.tables.specs.TableRule.{history_of, ByOthers}
use Rattle.tables.specs.Traces.{Trace, begins, others, makes, goes_on}
use Rattle.tables.specs.Passes.{AreOfCall, HoldsOfOwn}
use Rattle.planting.specs.Plantings.{PlantingView}

-- no history ends with a longer one
rows_in : History → ℕ
rows_in (Opened o) = zero
rows_in (r ⊳ h) = suc (rows_in h)

shorter : (h m : History) → Extends h m → rows_in m ≤ rows_in h
unfolding rows_in
shorter (Opened o) m e = rw e (omega arith)
shorter (r ⊳ h) m (inl e) = rw e (omega arith)
shorter (r ⊳ h) m (inr e) = let z = shorter h m e in omega arith

no_longer : (h : History) (r : Row) → ¬ Extends h (r ⊳ h)
unfolding rows_in
no_longer h r e = let z = shorter h (r ⊳ h) e in omega arith

module _ (P : Row → Type 0) (c : ℕ) (start : History) where
  pub own_start : HoldsOfOwn P c start start
  own_start r before e since own = absurd (no_longer before r (ends_trans before start (r ⊳ before) since e))

  -- a row of the pass, for which it holds, or of another pass
  pub own_more : (h : History) (r : Row) → (r.pass.0 ≡ c → P r) → HoldsOfOwn P c start h → HoldsOfOwn P c start (r ⊳ h)
  own_more h r is x q before (inl e) since own = let same : q ≡ r = cc in rw same (is (rw same at own))
  own_more h r is x q before (inr e) since own = x q before e since own

  pub own_others : (planting : PlantingView) (rows known : List Row) → ByOthers c rows → HoldsOfOwn P c start (history_of planting known) → HoldsOfOwn P c start (history_of planting (rows ++ known))
  own_others planting [] known by x = x
  own_others planting (r ∷ rs) known by x = own_more (history_of planting (rs ++ known)) r (λ e. absurd (by.0 e)) (own_others planting rs known by.1 x)

-- the rows that were added in a call extend its start
pub course_since : {M : Type 0} {allows : Layout → History → ℕ → Type 0} {waits : M → Call → History → Step → Type 0} {same : M → M → Type 0} (c : Call) {first : M} (m : M) (h : History) → Trace allows waits same c first m h → Extends h c.start
course_since c m h (begins e k) = subst (λ g. Extends g c.start) (sym k) (ends_self c.start)
course_since c m h (others s r g e w other run x) = subst (λ k. Extends k c.start) (sym e) (inr (course_since c m g x))
course_since c m h (makes s g e w run x) = subst (λ k. Extends k c.start) (sym e) (inr (course_since c m g x))
course_since c m h (goes_on old is x) = course_since c old h x

-- and carry its number
pub course_calls : {M : Type 0} {allows : Layout → History → ℕ → Type 0} {waits : M → Call → History → Step → Type 0} {same : M → M → Type 0} (c : Call) {first : M} (m : M) (h : History) → Trace allows waits same c first m h → AreOfCall c.pass c.number c.start h
course_calls c m h (begins e k) = subst (AreOfCall c.pass c.number c.start) (sym k) (own_start (λ r. r.call ≡ c.number) c.pass c.start)
course_calls c m h (others s r g e w other run x) = subst (AreOfCall c.pass c.number c.start) (sym e) (own_more (λ r. r.call ≡ c.number) c.pass c.start g r (λ own. absurd (other own)) (course_calls c m g x))
course_calls c m h (makes s g e w run x) = subst (AreOfCall c.pass c.number c.start) (sym e) (own_more (λ r. r.call ≡ c.number) c.pass c.start g _ (λ own. refl) (course_calls c m g x))
course_calls c m h (goes_on old is x) = course_calls c old h x

-- What holds of the row of each step for which the machine waits, as long as Q holds of it, holds
-- of each own row of the call.
module _ {M : Type 0} {allows : Layout → History → ℕ → Type 0} (waits : M → Call → History → Step → Type 0) (same : M → M → Type 0) (c : Call) (first : M) (P : Row → Type 0) (Q : M → Type 0) (opens : Q first) (stays : (old now : M) → same old now → Q old → Q now) (steps : (m : M) (h : History) (s : Step) → Q m → waits m c h s → P (row_of c s h)) where
  pub course_holds : (m : M) (h : History) → Trace allows waits same c first m h → Q m × HoldsOfOwn P c.pass c.start h
  course_holds m h (begins e k) = (subst Q (sym e) opens, subst (HoldsOfOwn P c.pass c.start) (sym k) (own_start P c.pass c.start))
  course_holds m h (others s r g e w other run x) = let y = course_holds m g x in (y.0, subst (HoldsOfOwn P c.pass c.start) (sym e) (own_more P c.pass c.start g r (λ own. absurd (other own)) y.1))
  course_holds m h (makes s g e w run x) = let y = course_holds m g x in (y.0, subst (HoldsOfOwn P c.pass c.start) (sym e) (own_more P c.pass c.start g (row_of c s g) (λ own. steps m g s y.0 w) y.1))
  course_holds m h (goes_on old is x) = let y = course_holds old h x in (stays old m is y.0, y.1)
