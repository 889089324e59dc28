-- Which rows leave a node blank until the update that is to put it into a field has won.
use Rattle.std.proofs.Common.{◌≡◌, ◌≢◌, ℕ, ◌<◌, Bool, true, false, ◌⊎◌, inl, inr, refl, sym, ◌∙◌, ap, subst, arith}
use native.Mathlib.Decide.{ℕ_discrete}
use Rattle.histories.specs.Common.{Layout, Row, Fill, Side, Word, Node, Scx, Child, Info, Marked, ScxWord, State, AllFrozen, New, Member, member, plan, side_of, field, field_index}
use Rattle.histories.specs.Common.{same_word, node, scx, info, marked, state, child, first_value, History, ◌⊳◌, value, HasHeld, Extends, IsOwnNode, IsInField, MayFill, Obeys, Lawful, HasWon}
use Rattle.arena.specs.Fills.{IsOthersNode}
use Rattle.arena.proofs.Lemmas.{word_same, value_at, value_quiet, value_apart, value_other, held_at, held_split, node_apart, node_word_apart, ends_self, same_moment}
use Rattle.histories.proofs.Lemmas.{Change, nothing, fills_node, fills_scx, freezes, sets_frozen, marks, updates, commits, aborts, change, lawful_row, facts_before, UpdateWins, update_won, won_more, one_node_owner}
use Rattle.prims.specs.BlankNodes.{IsBlank, WasBlank}

-- the row spares n: it fills none of its fields, and puts its number into no
-- field, no `v` word and no `new` but that of s
pub record Spares (r : Row) (s n : ℕ) : Type 0 where
  pub fields : (m : ℕ) (side : Side) → r.kind ≡ Fill → r.word ≡ child m side → (m ≢ n) × (r.after ≢ n)
  pub members : (u j : ℕ) → r.kind ≡ Fill → r.word ≡ scx u (Member j) → r.after ≢ n
  pub news : (u : ℕ) → r.kind ≡ Fill → r.word ≡ scx u New → u ≢ s → r.after ≢ n

-- Rows that do

-- a row of another pass spares a blank node of the pass
pub spared_by_others : (lay : Layout) (h : History) (r : Row) (c s n : ℕ) → Lawful lay (r ⊳ h) → c < lay.passes → r.pass.0 ≢ c → IsOwnNode lay c n → IsBlank h s n → Spares r s n
spared_by_others lay h r c s n l is_pass other own x = record {
  fields = λ m side k e. let y = may k (child m side) e in (λ q. other (one_node_owner lay r.pass.0 c n (rw q at y.0.own) own), λ q. shown (rw q at (y.1 (rw q others))));
  members = λ u j k e q. shown (rw q at ((may k (scx u (Member j)) e).1 (rw q others)));
  news = λ u k e d q. (may k (scx u New) e).1 (rw q others);
}
  where
    others : IsOthersNode lay r.pass.0 n
    others = record { pass = c; is_pass = is_pass; is_other = λ e. other (sym e); owns = own }

    may : r.kind ≡ Fill → (w : Word) → r.word ≡ w → MayFill lay h r.pass.0 w r.after
    may k w e = subst (λ v. MayFill lay h r.pass.0 v r.after) e (subst (λ a. Obeys lay h r a) k (lawful_row lay h r l).obeys)

    shown : ¬ IsInField lay h n
    shown (inl i) = let a = own.from in omega arith
    shown (inr y) = x.in_no_field y.0 y.1 y.3

-- a row that is no fill spares every node
pub spared_by_step : (r : Row) (s n : ℕ) → r.kind ≢ Fill → Spares r s n
spared_by_step r s n no_fill = record { fields = λ m side k e. absurd (no_fill k); members = λ u j k e q. no_fill k; news = λ u k e d q. no_fill k }

-- the fill of a value spares every node
pub spared_by_value : (r : Row) (k s n : ℕ) → r.word ≡ node k first_value → Spares r s n
spared_by_value r k s n w = record {
  fields = λ m side f e. absurd (let y : node k first_value ≡ child m side = sym w ∙ e in cc);
  members = λ u j f e q. (let y : node k first_value ≡ scx u (Member j) = sym w ∙ e in cc);
  news = λ u f e d q. (let y : node k first_value ≡ scx u New = sym w ∙ e in cc);
}

abbrev scx_number : Word → ℕ
scx_number (Node n part) = 0
scx_number (Scx s part) = s.0

abbrev scx_part : Word → ScxWord
scx_part (Node n part) = State
scx_part (Scx s part) = part

-- a fill of s spares n, unless it is a `v` word and names n
pub spared_by_fill : (r : Row) (s n : ℕ) (part : ScxWord) → r.word ≡ scx s part → ((j : ℕ) → part ≡ Member j → r.after ≢ n) → Spares r s n
spared_by_fill r s n part w d = record {
  fields = λ m side f e. absurd (let y : scx s part ≡ child m side = sym w ∙ e in cc);
  members = λ u j f e. d j (ap scx_part (sym w ∙ e));
  news = λ u f e other q. other (ap scx_number (sym e ∙ w));
}

-- What they leave

module _ (lay : Layout) (h : History) (r : Row) (s n : ℕ) (l : Lawful lay (r ⊳ h)) (unwon : ¬ HasWon (r ⊳ h) s) (f : Spares r s n) (x : IsBlank h s n) where
  -- a word has held the node only if the row has put it there
  back : (w : Word) → (r.word ≡ w → r.after ≢ n) → HasHeld (r ⊳ h) w n → HasHeld h w n
  back w d p = go (held_split r h w n p)
    where
      test : (t : Bool) → same_word r.word w ≡ t → value (r ⊳ h) w ≡ n → HasHeld h w n
      test true e q = let y : r.word ≡ w = word_same r.word w e in absurd (d y (sym (value_at r h w y) ∙ q))
      test false e q = held_at h w n (sym (value_other r h w e) ∙ q)

      go : (value (r ⊳ h) w ≡ n) ⊎ HasHeld h w n → HasHeld h w n
      go (inr q) = q
      go (inl q) = test (same_word r.word w) refl q

  -- one that changes nothing puts what was there
  by_quiet : (w : Word) → r.after ≡ r.before → ¬ HasHeld h w n → r.word ≡ w → r.after ≢ n
  by_quiet w a none e q = none (held_at h w n (ap (value h) (sym e) ∙ sym (lawful_row lay h r l).before ∙ sym a ∙ q))

  -- an update that wins is not of s
  by_update : (u : ℕ) → UpdateWins h r u → r.after ≢ n
  by_update u w q = go (ℕ_discrete u s)
    where
      go : Dec (u ≡ s) → ⊥
      go (yes e) = unwon (subst (λ t. HasWon (r ⊳ h) t) e (update_won (facts_before lay h r l) w))
      go (no d) = x.new_of_no_other u d (held_at h (scx u New) n (sym w.stored ∙ q))

  at_field : (m : ℕ) (side : Side) → Change lay h r → r.word ≡ child m side → r.after ≢ n
  at_field m side (nothing k a) e = by_quiet (child m side) a (x.in_no_field m side) e
  at_field m side (fills_node k part y) e = (f.fields m side y.kind e).1
  at_field m side (updates u w) e = by_update u w
  at_field m side (fills_scx u part y) e = absurd (let z : scx u part ≡ child m side = sym y.word ∙ e in cc)
  at_field m side (freezes u j w) e = absurd (let z : info (member h u j) ≡ child m side = sym w.freeze.word ∙ e in cc)
  at_field m side (sets_frozen u k y) e = absurd (let z : scx u AllFrozen ≡ child m side = sym y.word ∙ e in cc)
  at_field m side (marks u j k y) e = absurd (let z : marked (member h u j) ≡ child m side = sym y.word ∙ e in cc)
  at_field m side (commits u k y) e = absurd (let z : state u ≡ child m side = sym y.word ∙ e in cc)
  at_field m side (aborts u j k y) e = absurd (let z : state u ≡ child m side = sym y.word ∙ e in cc)

  -- a word of an SCX-record that fills alone change
  at_word : (t : ℕ) (part : ScxWord) → (State ≡ part → ⊥) → (AllFrozen ≡ part → ⊥) → ¬ HasHeld h (scx t part) n → (r.kind ≡ Fill → r.word ≡ scx t part → r.after ≢ n) → Change lay h r → r.word ≡ scx t part → r.after ≢ n
  at_word t part a b none g (nothing k q) e = by_quiet (scx t part) q none e
  at_word t part a b none g (fills_node k o y) e = absurd (let z : node k o ≡ scx t part = sym y.word ∙ e in cc)
  at_word t part a b none g (fills_scx u o y) e = g y.kind e
  at_word t part a b none g (freezes u j w) e = absurd (let z : info (member h u j) ≡ scx t part = sym w.freeze.word ∙ e in cc)
  at_word t part a b none g (sets_frozen u k y) e = absurd (b (ap scx_part (sym y.word ∙ e)))
  at_word t part a b none g (marks u j k y) e = absurd (let z : marked (member h u j) ≡ scx t part = sym y.word ∙ e in cc)
  at_word t part a b none g (updates u w) e = absurd (let z : field h u ≡ scx t part = sym w.update.word ∙ e in cc)
  at_word t part a b none g (commits u k y) e = absurd (a (ap scx_part (sym y.word ∙ e)))
  at_word t part a b none g (aborts u j k y) e = absurd (a (ap scx_part (sym y.word ∙ e)))

  still_empty : (side : Side) → Change lay h r → value (r ⊳ h) (child n side) ≡ value h (child n side)
  still_empty side (nothing k a) = value_quiet r h (lawful_row lay h r l).before a (child n side)
  still_empty side (fills_node k part y) = test (same_word (node k part) (child n side)) refl
    where
      test : (t : Bool) → same_word (node k part) (child n side) ≡ t → value (r ⊳ h) (child n side) ≡ value h (child n side)
      test true e = absurd ((f.fields n side y.kind (y.word ∙ word_same (node k part) (child n side) e)).0 refl)
      test false e = value_apart r h (node k part) (child n side) y.word e
  still_empty side (fills_scx u part y) = value_apart r h (scx u part) (child n side) y.word refl
  still_empty side (freezes u j w) = value_apart r h (info (member h u j)) (child n side) w.freeze.word (node_word_apart (member h u j) n Info (Child side) refl)
  still_empty side (sets_frozen u k y) = value_apart r h (scx u AllFrozen) (child n side) y.word refl
  still_empty side (marks u j k y) = value_apart r h (marked (member h u j)) (child n side) y.word (node_word_apart (member h u j) n Marked (Child side) refl)
  still_empty side (updates u w) = value_apart r h (field h u) (child n side) w.update.word
      (node_apart (member h u (field_index h u)) n (Child (side_of (plan h u))) (Child side) (λ e. x.covered_by_none u (field_index h u) (held_at h (scx u (Member (field_index h u))) n e)))
  still_empty side (commits u k y) = value_apart r h (state u) (child n side) y.word refl
  still_empty side (aborts u j k y) = value_apart r h (state u) (child n side) y.word refl

  still_blank : IsBlank (r ⊳ h) s n
  still_blank = record {
    empty = λ side. still_empty side (change lay h r l) ∙ x.empty side;
    in_no_field = λ m side p. x.in_no_field m side (back (child m side) (at_field m side (change lay h r l)) p);
    covered_by_none = λ u j p. x.covered_by_none u j (back (scx u (Member j)) (at_word u (Member j) (λ q. cc) (λ q. cc) (x.covered_by_none u j) (f.members u j) (change lay h r l)) p);
    new_of_no_other = λ u d p. x.new_of_no_other u d (back (scx u New) (at_word u New (λ q. cc) (λ q. cc) (x.new_of_no_other u d) (λ k e. f.news u k e d) (change lay h r l)) p);
  }

-- Since a moment

-- a node that is blank now has been so since now
pub was_blank_at : (start : History) (s n : ℕ) → IsBlank start s n → WasBlank start start s n
was_blank_at start s n x = record { since = ends_self start; blank = λ k e after unwon. rw (same_moment start k e after) x }

-- a node that has been blank since `start` is so a row later, if the row spares it
pub was_blank_more : (lay : Layout) (start h : History) (r : Row) (s n : ℕ) → Lawful lay (r ⊳ h) → (IsBlank h s n → Spares r s n) → WasBlank start h s n → WasBlank start (r ⊳ h) s n
was_blank_more lay start h r s n l f x = record { since = inr x.since; blank = go }
  where
    now : ¬ HasWon (r ⊳ h) s → IsBlank (r ⊳ h) s n
    now unwon = let y : IsBlank h s n = x.blank h (ends_self h) x.since (λ w. unwon (won_more r h s w)) in still_blank lay h r s n l unwon (f y) y

    go : (k : History) → Extends (r ⊳ h) k → Extends k start → ¬ HasWon k s → IsBlank k s n
    go k (inr e) after unwon = x.blank k e after unwon
    go k (inl e) after unwon = rw e (now (rw e at unwon))
