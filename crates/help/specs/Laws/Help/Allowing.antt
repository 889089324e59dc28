-- What a pass has prepared for its SCX-record stays: rows of others keep it, and rows that change
-- nothing.
use Rattle.std.proofs.Common.{◌≡◌, ◌≢◌, ℕ, ◌<◌, ◌⊎◌, inl, inr, refl, sym, ◌∙◌, ap, subst}
use Rattle.histories.specs.Common.{Layout, Row, Word, scx, info, child, History, Opened, ◌⊳◌, value, plan, member, seen, new, old, field, IsNamedScx, Lawful, Begins, Descriptor, descriptor, field_in}
use Rattle.arena.proofs.Lemmas.{named_before, named_scx_before, value_quiet, held_back}
use Rattle.histories.proofs.Lemmas.{begins_kept, descriptor_same, lawful_row, named_more, own_words_stay}
use Rattle.help.specs.Allowed.{IsQuiet, MayComeBetween, IsLater, IsAllowed, IsPrepared}

-- Later histories

-- a history extends itself, with no row between
pub later_self : (c s : ℕ) (h : History) → IsLater c s h h
later_self c s (Opened o) = refl
later_self c s (r ⊳ h) = inl refl

-- what extends an extension of h extends h
pub later_trans : (c s : ℕ) (h m k : History) → IsLater c s m k → IsLater c s h m → IsLater c s h k
later_trans c s h m (Opened o) e p = rw e at p
later_trans c s h m (r ⊳ k) (inl e) p = rw e at p
later_trans c s h m (r ⊳ k) (inr x) p = inr (x.0, later_trans c s h m k x.1 p)

-- what is allowed of s stays allowed after a row that may come before it begins
pub allowed_more : (allows : Layout → History → ℕ → Type 0) (lay : Layout) (c : ℕ) (h : History) (r : Row) (s : ℕ) (d : Descriptor) → MayComeBetween c s r → IsAllowed allows lay c h s d → IsAllowed allows lay c (r ⊳ h) s d
allowed_more allows lay c h r s d b a k later = a k (later_trans c s h (r ⊳ h) k later (inr (b, later_self c s h)))

-- The words of an SCX-record whose descriptor is the same

module _ (h k : History) (s : ℕ) (e : descriptor k s ≡ descriptor h s) where
  -- the plan word is the same
  pub same_plan : plan k s ≡ plan h s
  same_plan = ap (λ (d : Descriptor). d.plan) e

  -- the nodes covered are the same
  pub same_member : (j : ℕ) → member k s j ≡ member h s j
  same_member j = ap (λ (d : Descriptor). d.member j) e

  -- the `i` words are the same
  pub same_seen : (j : ℕ) → seen k s j ≡ seen h s j
  same_seen j = ap (λ (d : Descriptor). d.seen j) e

  -- `new` is the same
  pub same_new : new k s ≡ new h s
  same_new = ap (λ (d : Descriptor). d.new) e

  -- `old` is the same
  pub same_old : old k s ≡ old h s
  same_old = ap (λ (d : Descriptor). d.old) e

  -- the field that it changes is the same
  pub same_field : field k s ≡ field h s
  same_field = ap field_in e

-- Rows that change nothing

module _ (lay : Layout) (h : History) (r : Row) (before : r.before ≡ value h r.word) (q : IsQuiet r) where
  -- each word holds what it held before the row
  pub same_word_quiet : (w : Word) → value (r ⊳ h) w ≡ value h w
  same_word_quiet w = value_quiet r h before q.same w

  -- an SCX-record that is named after the row was named before it
  pub quiet_named_scx : (s : ℕ) → IsNamedScx (r ⊳ h) s → IsNamedScx h s
  quiet_named_scx s = named_scx_before r h s (λ n. same_word_quiet (info n))

  -- the settled words of each SCX-record are as they were
  pub quiet_words : (s : ℕ) → descriptor (r ⊳ h) s ≡ descriptor h s
  quiet_words s = descriptor_same h (r ⊳ h) s (λ a i. same_word_quiet (scx s a))

  begins_quiet : (c s : ℕ) → Begins lay (descriptor h s) h c s → Begins lay (descriptor (r ⊳ h) s) (r ⊳ h) c s
  begins_quiet c s b = subst (λ d. Begins lay d (r ⊳ h) c s) (sym (quiet_words s)) record {
    own = b.own;
    free = λ p. b.free (quiet_named_scx s p);
    unfinished = same_word_quiet _ ∙ b.unfinished;
    planned = b.planned;
    inside = b.inside;
    distinct = b.distinct;
    named = λ j i. named_more r (b.named j i);
    rest = λ j i e. b.rest j i (sym (same_word_quiet _) ∙ e);
    unmarked = λ j i e. same_word_quiet _ ∙ b.unmarked j i (sym (same_word_quiet _) ∙ e);
    shows = λ e. same_word_quiet _ ∙ b.shows (sym (same_word_quiet _) ∙ e);
    new_own = b.new_own;
    new_unnamed = λ p. b.new_unnamed (named_before lay r h (λ n. same_word_quiet (info n)) (λ n side. same_word_quiet (child n side)) (λ u part i. same_word_quiet (scx u part)) p);
    new_in_no_field = λ n side p. b.new_in_no_field n side (held_back r h _ _ (same_word_quiet _) p);
    new_in_no_other = λ u d p. b.new_in_no_other u d (held_back r h _ _ (same_word_quiet _) p);
  }

-- the row is of another pass, or changes nothing
abbrev pub IsOutside : ℕ → Row → Type 0
IsOutside c r = (r.pass.0 ≢ c) ⊎ IsQuiet r

module _ (lay : Layout) (h : History) (r : Row) (c s : ℕ) (l : Lawful lay (r ⊳ h)) where
  -- such a row leaves the settled words of an SCX-record of the pass that is ready to begin
  pub free_words : IsOutside c r → (o : Begins lay (descriptor h s) h c s) → descriptor (r ⊳ h) s ≡ descriptor h s
  free_words (inl other) b = descriptor_same h (r ⊳ h) s (λ a i. own_words_stay lay h r c s l other b.own b.free a)
  free_words (inr q) b = quiet_words lay h r (lawful_row lay h r l).before q s

  between : IsOutside c r → MayComeBetween c s r
  between (inl other) = inl other
  between (inr q) = inr (inr q)

  begins_more : c < lay.passes → IsOutside c r → Begins lay (descriptor h s) h c s → Begins lay (descriptor (r ⊳ h) s) (r ⊳ h) c s
  begins_more i (inl other) b = begins_kept lay h r c s l i other b
  begins_more i (inr q) b = begins_quiet lay h r (lawful_row lay h r l).before q c s b

  -- such a row leaves an SCX-record of the pass ready to begin, and allowed
  pub prepared_more : (allows : Layout → History → ℕ → Type 0) → c < lay.passes → IsOutside c r → IsPrepared allows lay c h s → IsPrepared allows lay c (r ⊳ h) s
  prepared_more allows i o p = record {
    begins = begins_more i o p.begins;
    allowed = subst (IsAllowed allows lay c (r ⊳ h) s) (sym (free_words o p.begins)) (allowed_more allows lay c h r s (descriptor h s) (between o) p.allowed);
  }
