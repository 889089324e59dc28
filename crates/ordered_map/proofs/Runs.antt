-- Runs under the shape of the tree: each SCX-record that begins does so once, so that an edit can
-- be named for each; where more than one would do, any.
use Rattle.std.proofs.Common.{◌≡◌, ℕ, true, false, cond, eqb, eq-eqb, ne_eqb, ⊎_elim, inl, inr, refl, sym, ◌∙◌, ap, arith, subst}
use native.Mathlib.Decide.{ℕ_discrete}
use Rattle.histories.specs.Common.{Layout, Row, Freeze, Update, info, History, Opening, Opened, opening_of, ◌⊳◌, HasHeld, Extends, member, IsNamedScx, Lawful, IsBegin, Shaped}
use Rattle.arena.proofs.Lemmas.{value_at, held_at, held_since}
use Rattle.histories.proofs.Lemmas.{Effect, begins_once, effect, facts_before, freeze, lawful_row, lawful_tail, quiet, shaped_begin, shaped_tail, update}
use Rattle.ordered_map.specs.OrderedMap.{MapEdit, Delete}
use Rattle.ordered_map.proofs.Pending.{AllowsGiven, GivenAllows, begun_edit}
use Rattle.ordered_map.specs.Runs.{Makes}
use Rattle.ordered_map.specs.Planted.{IsPlanted}
use Rattle.ordered_map.specs.TreeShape.{MakesEdit, MayEdit, TreeAllows}
use Rattle.ordered_map.proofs.Grown.{first_begins, none_edited}

-- One begin

pub begin_names : (h : History) (r : Row) (s : ℕ) → IsBegin h r s → HasHeld (r ⊳ h) (info (member h s 0)) s
begin_names h r s b = held_at (r ⊳ h) (info (member h s 0)) s (value_at r h (info (member h s 0)) b.word ∙ b.stored)

-- what has begun is named
pub begun_named : (h m : History) (r : Row) (s : ℕ) → Extends h (r ⊳ m) → IsBegin m r s → IsNamedScx h s
begun_named h m r s e b = (member m s 0, held_since h (r ⊳ m) (info (member m s 0)) s e (begin_names m r s b))

tail_of : History → History
tail_of (Opened o) = Opened o
tail_of (r ⊳ h) = h

newer : (lay : Layout) (h : History) (z : Row) (m : History) (r : Row) (s : ℕ) → Lawful lay (z ⊳ h) → r ⊳ m ≡ z ⊳ h → IsBegin m r s → ¬ IsNamedScx h s
unfolding tail_of
newer lay h z m r s l e b p =
    let d : m ≡ h = ap tail_of e in
    let l2 : Lawful lay (r ⊳ m) = subst (Lawful lay) (sym e) l in
    (begins_once lay m r s l2 b).never (rw d p)

-- it begins once
pub begins_at_one : (lay : Layout) (h m k : History) (r t : Row) (s : ℕ) → Lawful lay h → Extends h (r ⊳ m) → Extends h (t ⊳ k) → IsBegin m r s → IsBegin k t s → r ⊳ m ≡ t ⊳ k
begins_at_one lay (Opened o) m k r t s l p q b d = absurd (let x : r ⊳ m ≡ Opened o = p in cc)
begins_at_one lay (z ⊳ h) m k r t s l (inl p) (inl q) b d = p ∙ sym q
begins_at_one lay (z ⊳ h) m k r t s l (inl p) (inr q) b d = absurd (newer lay h z m r s l p b (begun_named h k t s q d))
begins_at_one lay (z ⊳ h) m k r t s l (inr p) (inl q) b d = absurd (newer lay h z k t s l q d (begun_named h m r s p b))
begins_at_one lay (z ⊳ h) m k r t s l (inr p) (inr q) b d = begins_at_one lay h m k r t s (lawful_tail lay h z l) p q b d

-- so what it is said to make it could make as it began
pub makes_at : (lay : Layout) (h m : History) (r : Row) (s : ℕ) (e : MapEdit) → Lawful lay h → Extends h (r ⊳ m) → IsBegin m r s → Makes lay h s e → MayEdit lay m s e
unfolding tail_of
makes_at lay h m r s e l w b x =
    let same : x.row ⊳ x.before ≡ r ⊳ m = begins_at_one lay h x.before m x.row r s l x.within w x.begins b in
    subst (λ k. MayEdit lay k s e) (ap tail_of same) x.edit

-- The edits of a run

-- a history that keeps to one shape keeps to another that allows what began in it, and its opening
pub shaped_change : (A B : Layout → History → ℕ → Type 0) (lay : Layout) (h : History) → Shaped A lay h → (A lay (Opened (opening_of h)) 0 → B lay (Opened (opening_of h)) 0) → ((m : History) (r : Row) (s : ℕ) → Extends h (r ⊳ m) → IsBegin m r s → A lay m s → B lay m s) → Shaped B lay h
unfolding Shaped
shaped_change A B lay (Opened o) p first f = ⊎_elim inl (λ a. inr (first a)) p
shaped_change A B lay (r ⊳ h) p first f = (shaped_change A B lay h p.0 first (λ m t s e b x. f m t s (inr e) b x), λ s b. f h r s (inl refl) b (p.1 s b))

shaped_both : (A : Layout → History → ℕ → Type 0) (lay : Layout) (h : History) (r : Row) → Shaped A lay h → ((s : ℕ) → IsBegin h r s → A lay h s) → Shaped A lay (r ⊳ h)
unfolding Shaped
shaped_both A lay h r p b = (p, b)

-- no edit is made of the dummy as a table begins
only_planted : (edits : ℕ → MapEdit) (lay : Layout) (o : Opening) → GivenAllows edits lay (Opened o) 0 → IsPlanted lay (Opened o) 0
only_planted edits lay o x = ⊎_elim (λ e. absurd (none_edited lay o (edits 0) e)) (λ p. p) x

edits_start : (edits : ℕ → MapEdit) (lay : Layout) (o : Opening) → Shaped TreeAllows lay (Opened o) → Shaped (GivenAllows edits) lay (Opened o)
unfolding Shaped
edits_start edits lay o p = ⊎_elim inl (λ x. ⊎_elim (λ e. absurd (none_edited lay o e.0 e.1)) (λ y. inr (inr y)) x) p

-- the edits, where that of u is e
abbrev pub with_edit : ℕ → MapEdit → (ℕ → MapEdit) → ℕ → MapEdit
with_edit u e edits s = cond (eqb s u) e (edits s)

-- the edits that the SCX-records of a run make, by their numbers
pub record HasEdits (lay : Layout) (h : History) : Type 0 where
  pub edits : ℕ → MapEdit
  pub shaped : Shaped (GivenAllows edits) lay h

-- one row more
edits_more : (lay : Layout) (h : History) (r : Row) → Lawful lay (r ⊳ h) → Shaped TreeAllows lay (r ⊳ h) → HasEdits lay h → HasEdits lay (r ⊳ h)
edits_more lay h r l p x = go (effect lay h r l)
  where
    not_begun : ((s : ℕ) → ¬ IsBegin h r s) → HasEdits lay (r ⊳ h)
    not_begun none = record { edits = x.edits; shaped = shaped_both (GivenAllows x.edits) lay h r x.shaped (λ s b. absurd (none s b)) }

    now : (u : ℕ) → IsBegin h r u → HasEdits lay (r ⊳ h)
    now u b = record { edits = with_edit u made.0 x.edits; shaped = shaped_both (GivenAllows (with_edit u made.0 x.edits)) lay h r old (λ s c. inl (at s c)) }
      where
        made : MakesEdit lay h u
        made = begun_edit (MakesEdit lay h u) lay h r u l b (shaped_begin TreeAllows lay h r u p b)

        free : ¬ IsNamedScx h u
        free = (begins_once lay h r u l b).never

        keep : (m : History) (t : Row) (s : ℕ) → Extends h (t ⊳ m) → IsBegin m t s → AllowsGiven x.edits lay m s → AllowsGiven (with_edit u made.0 x.edits) lay m s
        keep m t s w c y =
            let d : eqb s u ≡ false = ne_eqb s u (λ q. free (rw q at (begun_named h m t s w c))) in
            subst (MayEdit lay m s) (sym (rw d refl)) y

        old : Shaped (GivenAllows (with_edit u made.0 x.edits)) lay h
        old = shaped_change (GivenAllows x.edits) (GivenAllows (with_edit u made.0 x.edits)) lay h x.shaped (λ y. inr (only_planted x.edits lay (opening_of h) y)) (λ m t s w c y. ⊎_elim (λ e. inl (keep m t s w c e)) inr y)

        at : (s : ℕ) → IsBegin h r s → AllowsGiven (with_edit u made.0 x.edits) lay h s
        at s c =
            let q : s ≡ u = sym c.stored ∙ b.stored in
            let d : eqb s u ≡ true = eq-eqb s u q in
            subst (MayEdit lay h s) (sym (rw d refl)) (subst (λ v. MayEdit lay h v made.0) (sym q) made.1)

    go : Effect lay h r → HasEdits lay (r ⊳ h)
    go (quiet k) = not_begun (λ s b. b.changed (rw b.word at (lawful_row lay h r l).before ∙ sym (k.info (member h s 0)) ∙ value_at r h (info (member h s 0)) b.word))
    go (update s w) = not_begun (λ s b. let e : Freeze ≡ Update = sym b.kind ∙ w.kind in cc)
    go (freeze s j w) = at_place (ℕ_discrete j 0)
      where
        at_place : Dec (j ≡ 0) → HasEdits lay (r ⊳ h)
        at_place (yes q) = now s (first_begins lay h r s j (facts_before lay h r l) w q)
        at_place (no q) = not_begun (λ u b. let e : u ≡ s = sym b.stored ∙ w.stored in (begins_once lay h r u l b).never (rw e (member h s 0, w.freeze.earlier 0 (omega arith))))

pub has_edits : (lay : Layout) (h : History) → Lawful lay h → Shaped TreeAllows lay h → HasEdits lay h
has_edits lay (Opened o) l p = record { edits = λ s. Delete 0; shaped = edits_start (λ s. Delete 0) lay o p }
has_edits lay (r ⊳ h) l p = edits_more lay h r l p (has_edits lay h (lawful_tail lay h r l) (shaped_tail TreeAllows lay h r p))

-- any edit that an SCX-record makes may be the one that it is said to make
pub edit_told : (lay : Layout) (h : History) (u : ℕ) (e : MapEdit) (edits : ℕ → MapEdit) → Lawful lay h → Makes lay h u e → Shaped (GivenAllows edits) lay h → Shaped (GivenAllows (with_edit u e edits)) lay h
edit_told lay h u e edits l x p = shaped_change (GivenAllows edits) (GivenAllows (with_edit u e edits)) lay h p (λ y. inr (only_planted edits lay (opening_of h) y)) (λ m r s w b y. ⊎_elim (λ z. inl (told m r s w b z)) inr y)
  where
    told : (m : History) (r : Row) (s : ℕ) → Extends h (r ⊳ m) → IsBegin m r s → AllowsGiven edits lay m s → AllowsGiven (with_edit u e edits) lay m s
    told m r s w b y = at_number (ℕ_discrete s u)
      where
        at_number : Dec (s ≡ u) → AllowsGiven (with_edit u e edits) lay m s
        at_number (yes q) = subst (MayEdit lay m s) (sym (ap (λ c. cond c e (edits s)) (eq-eqb s u q))) (makes_at lay h m r s e l w b (subst (λ n. Makes lay h n e) (sym q) x))
        at_number (no q) = subst (MayEdit lay m s) (sym (ap (λ c. cond c e (edits s)) (ne_eqb s u q))) y
