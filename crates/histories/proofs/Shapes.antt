-- Only the owner's first freezing exchange begins an SCX-record; so what a helper does asks nothing
-- of the shape.
use Rattle.std.proofs.Common.{◌≡◌, ℕ, inl, inr, sym, ◌∙◌, ap, arith, subst}
use native.Mathlib.Decide.{ℕ_discrete}
use Rattle.histories.specs.Common.{Layout, Row, Kind, Fill, Freeze, SetFrozen, Mark, Update, Commit, Abort, info, History, Opened, ◌⊳◌, Extends, member, IsOwnScx, IsNamedScx, Lawful, IsBegin, Shaped}
use Rattle.histories.proofs.Changes.{Change, nothing, fills_node, fills_scx, freezes, sets_frozen, marks, updates, commits, aborts, change}
use Rattle.histories.proofs.Facts.{Facts, info_node}
use Rattle.histories.proofs.Freezes.{first_frozen, freeze_real, freeze_distinct, freeze_is_new}
use Rattle.histories.proofs.Always.{facts_before}

-- the row is of the owner of s, and no info word has named s before it
pub record IsFirst (lay : Layout) (h : History) (r : Row) (s : ℕ) : Type 0 where
  pub own : IsOwnScx lay r.pass.0 s
  pub never : ¬ IsNamedScx h s

not_begin : (h : History) (r : Row) (s : ℕ) (k : Kind) → IsBegin h r s → r.kind ≡ k → (k ≡ Freeze → ⊥) → ⊥
not_begin h r s k g e d = d (sym e ∙ g.kind)

pub begins_once : (lay : Layout) (h : History) (r : Row) (s : ℕ) → Lawful lay (r ⊳ h) → IsBegin h r s → IsFirst lay h r s
begins_once lay h r s l g = go (change lay h r l)
  where
    f : Facts lay h
    f = facts_before lay h r l

    go : Change lay h r → IsFirst lay h r s
    go (nothing i e) = absurd (g.changed (sym e))
    go (fills_node n part x) = absurd (not_begin h r s Fill g x.kind (λ e. cc))
    go (fills_scx u part x) = absurd (not_begin h r s Fill g x.kind (λ e. cc))
    go (sets_frozen u k x) = absurd (not_begin h r s SetFrozen g k (λ e. cc))
    go (marks u j k x) = absurd (not_begin h r s Mark g k (λ e. cc))
    go (commits u k x) = absurd (not_begin h r s Commit g k (λ e. cc))
    go (aborts u j k x) = absurd (not_begin h r s Abort g k (λ e. cc))
    go (updates u w) = absurd (not_begin h r s Update g w.kind (λ e. cc))
    go (freezes u j w) = rw same (at_place (ℕ_discrete j 0))
      where
        same : s ≡ u
        same = sym g.stored ∙ w.stored

        place : member h u j ≡ member h u 0
        place = info_node _ _ (sym w.freeze.word ∙ g.word ∙ ap (λ v. info (member h v 0)) same)

        none : j ≡ 0 → ¬ IsNamedScx h u
        none q p = freeze_is_new f w (rw q (first_frozen h u p.0 p.1 (f.cell u p.0 (freeze_real f w) p.1)))

        at_place : Dec (j ≡ 0) → IsFirst lay h r u
        at_place (yes q) = record { own = ((w.freeze.may_win w.found).1 q).own; never = none q }
        at_place (no q) = absurd (freeze_distinct f w j 0 w.freeze.within (let x = w.freeze.within in omega arith) q place)

-- A row keeps to the shape if what it begins is allowed; and it begins only what is its own pass's
-- and not named yet.
pub shaped_more : (allows : Layout → History → ℕ → Type 0) (lay : Layout) (h : History) (r : Row) → Lawful lay (r ⊳ h) → Shaped allows lay h → ((s : ℕ) → IsFirst lay h r s → IsBegin h r s → allows lay h s) → Shaped allows lay (r ⊳ h)
unfolding Shaped
shaped_more allows lay h r l p own = (p, λ s g. own s (begins_once lay h r s l g) g)

pub shaped_tail : (allows : Layout → History → ℕ → Type 0) (lay : Layout) (h : History) (r : Row) → Shaped allows lay (r ⊳ h) → Shaped allows lay h
unfolding Shaped
shaped_tail allows lay h r p = p.0

pub shaped_begin : (allows : Layout → History → ℕ → Type 0) (lay : Layout) (h : History) (r : Row) (s : ℕ) → Shaped allows lay (r ⊳ h) → IsBegin h r s → allows lay h s
unfolding Shaped
shaped_begin allows lay h r s p g = p.1 s g

pub shaped_since : (allows : Layout → History → ℕ → Type 0) (lay : Layout) (h m : History) → Shaped allows lay h → Extends h m → Shaped allows lay m
shaped_since allows lay (Opened o) m p e = subst (Shaped allows lay) (sym e) p
shaped_since allows lay (r ⊳ h) m p (inl e) = subst (Shaped allows lay) (sym e) p
shaped_since allows lay (r ⊳ h) m p (inr e) = shaped_since allows lay h m (shaped_tail allows lay h r p) e
