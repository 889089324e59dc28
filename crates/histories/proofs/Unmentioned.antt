-- A node that no field and no SCX-record has ever named: rows of others leave it so, and so do rows
-- that do not store its number and all rows but fills.
use Rattle.std.proofs.Common.{◌≡◌, ◌≢◌, ℕ, ◌<◌, ◌≤◌, Bool, true, false, ◌⊎◌, inl, inr, ⊎_elim, refl, sym, ◌∙◌, arith, subst}
use Rattle.histories.specs.Common.{Layout, Side, Child, Info, Marked, Word, Node, Scx, ScxWord, State, AllFrozen, New, Row, Fill, nodes_at_start, same_word, scx, info, marked}
use Rattle.histories.specs.Common.{child, state, History, Opening, Opened, ◌⊳◌, value, HasHeld, member, new, IsOwnNode, IsNamed, opening_node, by_field, by_scx, Lawful, IsUnmentioned}
use Rattle.arena.specs.Fills.{NamesNode}
use Rattle.arena.proofs.Lemmas.{word_same, value_at, value_quiet, value_apart, value_other, held_at, held_now, held_split, held_back, held_start, opening_scx, node_word_apart, scx_word_apart}
use Rattle.histories.proofs.Changes.{Change, nothing, fills_node, fills_scx, freezes, sets_frozen, marks, updates, commits, aborts, change, lawful_row}
use Rattle.histories.proofs.Openings.{some_at_start, value_start}
use Rattle.histories.proofs.Quiet.{not_flag, not_state}
use Rattle.histories.proofs.Unnamed.{field_back, names_fill, word_back}

-- such a node of a share is not named
pub unmentioned_unnamed : (lay : Layout) (h : History) (c n : ℕ) → IsOwnNode lay c n → IsUnmentioned h n → ¬ IsNamed lay h n
unmentioned_unnamed lay h c n own u (opening_node i) = let a = own.from in omega arith
unmentioned_unnamed lay h c n own u (by_field m side p q) = u.in_no_field m side q
unmentioned_unnamed lay h c n own u (by_scx s part p i q) = u.in_no_scx s part i q

-- a row that does not store its number
not_stored : (r : Row) (h : History) (w : Word) (n : ℕ) → r.after ≢ n → HasHeld (r ⊳ h) w n → HasHeld h w n
not_stored r h w n d p = go (held_split r h w n p)
  where
    go : (value (r ⊳ h) w ≡ n) ⊎ HasHeld h w n → HasHeld h w n
    go (inr q) = q
    go (inl q) = test (same_word r.word w) refl
      where
        test : (t : Bool) → same_word r.word w ≡ t → HasHeld h w n
        test true e = absurd (d (sym (value_at r h w (word_same r.word w e)) ∙ q))
        test false e = held_at h w n (sym (value_other r h w e) ∙ q)

pub unmentioned_kept : (h : History) (r : Row) (n : ℕ) → r.after ≢ n → IsUnmentioned h n → IsUnmentioned (r ⊳ h) n
unmentioned_kept h r n d u = record {
  in_no_field = λ m side p. u.in_no_field m side (not_stored r h _ n d p);
  in_no_scx = λ s part i p. u.in_no_scx s part i (not_stored r h _ n d p);
}

-- a row of another pass
pub unmentioned_by_others : (lay : Layout) (h : History) (r : Row) (c n : ℕ) → Lawful lay (r ⊳ h) → c < lay.passes → r.pass.0 ≢ c → IsOwnNode lay c n → IsUnmentioned h n → IsUnmentioned (r ⊳ h) n
unmentioned_by_others lay h r c n l is_pass other own u = record {
  in_no_field = λ m side p. ⊎_elim (unmentioned_unnamed lay h c n own u) (u.in_no_field m side) (field_back lay h r c l is_pass other m side n own p);
  in_no_scx = λ s part i p. ⊎_elim (unmentioned_unnamed lay h c n own u) (u.in_no_scx s part i) (word_back lay h r c l is_pass other s part n i own p);
}

-- At the start

-- at the start no word names a node that is not there yet
pub unmentioned_start : (o : Opening) (n : ℕ) → nodes_at_start o.mode o.planted ≤ n → IsUnmentioned (Opened o) n
unmentioned_start o n late = record {
  in_no_field = λ m side p. let e = sym (value_start o (child m side)) ∙ held_start o (child m side) n p in let i = o.fields m side in omega (arith, e, i, late);
  in_no_scx = λ s part i p. let e = sym (opening_scx o s part (not_state part (names_fill part i))) ∙ held_start o (scx s part) n p in let some = some_at_start o.mode o.planted in omega (arith, e, some, late);
}

-- Any row

-- the words that name nodes
abbrev pub IsMention : Word → Type 0
IsMention (Node n (Child side)) = Unit {0}
IsMention (Node n _) = ⊥
IsMention (Scx s part) = NamesNode part

-- a fill, or any other row, that leaves no word that names nodes with the node's number
pub unmentioned_by_fill : (h : History) (r : Row) (n : ℕ) → (IsMention r.word → r.after ≢ n) → IsUnmentioned h n → IsUnmentioned (r ⊳ h) n
unmentioned_by_fill h r n d u = record {
  in_no_field = λ m side p. u.in_no_field m side (back (child m side) tt p);
  in_no_scx = λ s part i p. u.in_no_scx s part i (back (scx s part) i p);
}
  where
    back : (w : Word) → IsMention w → HasHeld (r ⊳ h) w n → HasHeld h w n
    back w i p = go (held_split r h w n p)
      where
        test : (t : Bool) → same_word r.word w ≡ t → value (r ⊳ h) w ≡ n → HasHeld h w n
        test true e q = let x : r.word ≡ w = word_same r.word w e in absurd (d (subst IsMention (sym x) i) (sym (value_at r h w x) ∙ q))
        test false e q = held_at h w n (sym (value_other r h w e) ∙ q)

        go : (value (r ⊳ h) w ≡ n) ⊎ HasHeld h w n → HasHeld h w n
        go (inr q) = q
        go (inl q) = test (same_word r.word w) refl q

-- a lawful row that is no fill: an update stores what its SCX-record's `new` holds, and the others
-- change no word that names nodes
pub unmentioned_by_step : (lay : Layout) (h : History) (r : Row) (n : ℕ) → Lawful lay (r ⊳ h) → r.kind ≢ Fill → IsUnmentioned h n → IsUnmentioned (r ⊳ h) n
unmentioned_by_step lay h r n l no_fill u = go (change lay h r l)
  where
    untouched : ((m : ℕ) (side : Side) → value (r ⊳ h) (child m side) ≡ value h (child m side)) → ((s : ℕ) (part : ScxWord) → NamesNode part → value (r ⊳ h) (scx s part) ≡ value h (scx s part)) → IsUnmentioned (r ⊳ h) n
    untouched f g = record {
      in_no_field = λ m side p. u.in_no_field m side (held_back r h (child m side) n (f m side) p);
      in_no_scx = λ s part i p. u.in_no_scx s part i (held_back r h (scx s part) n (g s part i) p);
    }

    of_state : (t : ℕ) → r.word ≡ state t → IsUnmentioned (r ⊳ h) n
    of_state t e = untouched (λ m side. value_apart r h (state t) (child m side) e refl) (λ s part i. value_apart r h (state t) (scx s part) e (scx_word_apart t s State part (not_state part (names_fill part i))))

    go : Change lay h r → IsUnmentioned (r ⊳ h) n
    go (nothing i a) = let b = (lawful_row lay h r l).before in untouched (λ m side. value_quiet r h b a (child m side)) (λ s part i. value_quiet r h b a (scx s part))
    go (fills_node m part x) = absurd (no_fill x.kind)
    go (fills_scx t part x) = absurd (no_fill x.kind)
    go (freezes t j w) = untouched
        (λ m side. value_apart r h (info (member h t j)) (child m side) w.freeze.word (node_word_apart (member h t j) m Info (Child side) refl))
        (λ s part i. value_apart r h (info (member h t j)) (scx s part) w.freeze.word refl)
    go (sets_frozen t k x) = untouched
        (λ m side. value_apart r h (scx t AllFrozen) (child m side) x.word refl)
        (λ s part i. value_apart r h (scx t AllFrozen) (scx s part) x.word (scx_word_apart t s AllFrozen part (not_flag part (names_fill part i))))
    go (marks t j k x) = untouched
        (λ m side. value_apart r h (marked (member h t j)) (child m side) x.word (node_word_apart (member h t j) m Marked (Child side) refl))
        (λ s part i. value_apart r h (marked (member h t j)) (scx s part) x.word refl)
    go (updates t w) =
        let held : HasHeld h (scx t New) (new h t) = held_now h (scx t New) in
        unmentioned_kept h r n (λ e. u.in_no_scx t New tt (subst (λ v. HasHeld h (scx t New) v) (sym w.stored ∙ e) held)) u
    go (commits t k x) = of_state t x.word
    go (aborts t j k x) = of_state t x.word
