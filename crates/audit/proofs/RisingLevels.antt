-- Levels still rise after a row that is stored where they do.
use Rattle.std.proofs.Common.{◌≡◌, ◌≢◌, ℕ, ◌<◌, ◌⊎◌, inl, inr, ⊎_elim, Bool, true, false, cond, refl, sym, ◌∙◌, ap, subst}
use Rattle.histories.specs.Common.{Side, Settled, Child, SettledPart, Head, NodeWord, ScxWord, NodeNo, ScxNo, Word, Node, Scx, Row, node, child, same_word, History, ◌⊳◌, value, HasHeld}
use Rattle.arena.proofs.Lemmas.{held_now, node_word_apart, value_apart, value_other, value_quiet, word_same}
use Rattle.ordered_map.specs.TreeWords.{is_leaf, level}
use Rattle.ordered_map.specs.FillOrder.{HasStoodInField, HasRisingLevels}

-- a row leaves a word as it was, if it is of another or leaves what it found
abbrev pub IsLeft : Row → History → Word → Type 0
IsLeft r h w = value (r ⊳ h) w ≡ value h w

-- the number of the record that a word is of
abbrev holder : Word → ℕ
holder (Node n part) = n.0
holder (Scx s part) = s.0

same_node : (m k : ℕ) → node m (Settled Head) ≡ node k (Settled Head) → m ≡ k
same_node m k e = ap holder e

same_holder : (m n : ℕ) (at side : Side) → child m at ≡ child n side → m ≡ n
same_holder m n at side e = ap holder e

-- what a word that was left has held it had held before
held_before : (r : Row) (h : History) (w : Word) (v : ℕ) → IsLeft r h w → HasHeld (r ⊳ h) w v → HasHeld h w v
unfolding HasHeld
held_before r h w v left (inl e) = subst (λ (x : ℕ). HasHeld h w x) (sym left ∙ e) (held_now h w)
held_before r h w v left (inr x) = x

-- so a node that a field has held after the row has been held before
stood_before : (r : Row) (h : History) → ((n : ℕ) (side : Side) → IsLeft r h (child n side)) → (n : ℕ) → HasStoodInField (r ⊳ h) n → HasStoodInField h n
stood_before r h fields n (inl few) = inl few
stood_before r h fields n (inr (m, from, held)) = inr (m, from, held_before r h (child m from) n (fields m from) held)

-- where heads and fields are left as they were, levels rise as before
pub rising_left : (r : Row) (h : History) → ((n : ℕ) → IsLeft r h (node n (Settled Head))) → ((n : ℕ) (side : Side) → IsLeft r h (child n side)) → HasRisingLevels h → HasRisingLevels (r ⊳ h)
rising_left r h heads fields x n side stood fork =
    rw (fields n side, heads n, heads (value h (child n side))) (x n side (stood_before r h fields n stood) (rw (heads n) at fork))

-- where the head of a node changes that no field has held, too
pub rising_head : (r : Row) (h : History) → (m : ℕ) → r.word ≡ node m (Settled Head) → (HasStoodInField h m → ⊥) → HasRisingLevels h → HasRisingLevels (r ⊳ h)
rising_head r h m word free x n side stood fork = rw (fields n side, heads n there, heads (value h (child n side)) below) (x n side there (rw (heads n there) at fork))
  where
    fields : (n : ℕ) (side : Side) → IsLeft r h (child n side)
    fields n side = value_apart r h (node m (Settled Head)) (child n side) word (node_word_apart m n (Settled Head) (Child side) refl)

    there : HasStoodInField h n
    there = stood_before r h fields n stood

    below : HasStoodInField h (value h (child n side))
    below = inr (n, side, held_now h (child n side))

    heads : (k : ℕ) → HasStoodInField h k → IsLeft r h (node k (Settled Head))
    heads k y = go (same_word (node m (Settled Head)) (node k (Settled Head))) refl
      where
        go : (b : Bool) → same_word (node m (Settled Head)) (node k (Settled Head)) ≡ b → IsLeft r h (node k (Settled Head))
        go false e = value_apart r h (node m (Settled Head)) (node k (Settled Head)) word e
        go true e = absurd (free (subst (λ (j : ℕ). HasStoodInField h j) (sym (same_node m k (word_same (node m (Settled Head)) (node k (Settled Head)) e))) y))

-- and where a node is put into a field over which levels rise, as they do below it
pub rising_field : (r : Row) (h : History) → (m : ℕ) (at : Side) → r.word ≡ child m at → m ≢ r.after → (HasStoodInField h m → is_leaf (value h) m ≡ false → level (value h) m < level (value h) r.after) → ((side : Side) → is_leaf (value h) r.after ≡ false → level (value h) r.after < level (value h) (value h (child r.after side))) → HasRisingLevels h → HasRisingLevels (r ⊳ h)
unfolding HasHeld value
rising_field r h m at word apart over below x n side stood fork = go (same_word r.word (child n side)) refl
  where
    heads : (k : ℕ) → IsLeft r h (node k (Settled Head))
    heads k = value_apart r h (child m at) (node k (Settled Head)) word (node_word_apart m k (Child at) (Settled Head) refl)

    fork_before : is_leaf (value h) n ≡ false
    fork_before = rw (heads n) at fork

    -- it has been in a field before, or is put into one
    came : HasStoodInField h n ⊎ (r.after ≡ n)
    came = from stood
      where
        held : (k : ℕ) (of : Side) (b : Bool) → cond b r.after (value h (child k of)) ≡ n → HasStoodInField h n ⊎ (r.after ≡ n)
        held k of true e = inr e
        held k of false e = inl (inr (k, of, subst (λ (v : ℕ). HasHeld h (child k of) v) e (held_now h (child k of))))

        from : HasStoodInField (r ⊳ h) n → HasStoodInField h n ⊎ (r.after ≡ n)
        from (inl few) = inl (inl few)
        from (inr (k, of, inl e)) = held k of (same_word r.word (child k of)) e
        from (inr (k, of, inr y)) = inl (inr (k, of, y))

    go : (b : Bool) → same_word r.word (child n side) ≡ b → level (value (r ⊳ h)) n < level (value (r ⊳ h)) (cond (same_word r.word (child n side)) r.after (value h (child n side)))
    go true e =
        let here : m ≡ n = same_holder m n at side (sym word ∙ word_same r.word (child n side) e) in
        rw (e, heads n, heads r.after) (⊎_elim (λ y. subst (λ (k : ℕ). level (value h) k < level (value h) r.after) here (over (subst (λ (k : ℕ). HasStoodInField h k) (sym here) y) (subst (λ (k : ℕ). is_leaf (value h) k ≡ false) (sym here) fork_before))) (λ q. absurd (apart (here ∙ sym q))) came)
    go false e = rw (e, heads n, heads (value h (child n side))) (⊎_elim (λ y. x n side y fork_before) (λ q. subst (λ (k : ℕ). level (value h) k < level (value h) (value h (child k side))) q (below side (subst (λ (k : ℕ). is_leaf (value h) k ≡ false) (sym q) fork_before))) came)

-- a row that leaves what it found leaves all words
pub rising_quiet : (r : Row) (h : History) → r.before ≡ value h r.word → r.after ≡ r.before → HasRisingLevels h → HasRisingLevels (r ⊳ h)
rising_quiet r h found same x = rising_left r h (λ n. value_quiet r h found same (node n (Settled Head))) (λ n side. value_quiet r h found same (child n side)) x

-- so does one of a word that is no head and no field
pub rising_other : (r : Row) (h : History) → ((n : ℕ) → r.word ≡ node n (Settled Head) → ⊥) → ((n : ℕ) (side : Side) → r.word ≡ child n side → ⊥) → HasRisingLevels h → HasRisingLevels (r ⊳ h)
rising_other r h head field x = rising_left r h (λ n. value_other r h (node n (Settled Head)) (other (node n (Settled Head)) (head n))) (λ n side. value_other r h (child n side) (other (child n side) (field n side))) x
  where
    other : (w : Word) → (r.word ≡ w → ⊥) → same_word r.word w ≡ false
    other w d = go (same_word r.word w) refl
      where
        go : (b : Bool) → same_word r.word w ≡ b → b ≡ false
        go false e = refl
        go true e = absurd (d (word_same r.word w e))

abbrev part_of : Word → NodeWord
part_of (Node n part) = part
part_of (Scx s part) = Settled Head

-- so does one of another word of a node
pub of_part : (r : Row) (h : History) (n : NodeNo) (part : NodeWord) → r.word ≡ Node n part → (part ≡ Settled Head → ⊥) → ((side : Side) → part ≡ Child side → ⊥) → HasRisingLevels h → HasRisingLevels (r ⊳ h)
of_part r h n part word head field x = rising_other r h (λ m e. head (ap part_of (sym word ∙ e))) (λ m side e. field side (ap part_of (sym word ∙ e))) x

-- a settled word, but the head of a node that a field has held
pub of_settled : (r : Row) (h : History) (n : NodeNo) (part : SettledPart) → r.word ≡ Node n (Settled part) → (part ≡ Head → HasStoodInField h n.0 → ⊥) → HasRisingLevels h → HasRisingLevels (r ⊳ h)
of_settled r h n Head word free x = rising_head r h n.0 word (free refl) x
of_settled r h n part word free x = of_part r h n (Settled part) word (λ e. absurd (let z : Settled part ≡ Settled Head = e in cc)) (λ side e. absurd (let z : Child side ≡ Settled part = sym e in cc)) x

-- and of an SCX-record
pub of_scx : (r : Row) (h : History) (s : ScxNo) (part : ScxWord) → r.word ≡ Scx s part → HasRisingLevels h → HasRisingLevels (r ⊳ h)
of_scx r h s part word x = rising_other r h (λ m e. absurd (let z : Scx s part ≡ node m (Settled Head) = sym word ∙ e in cc)) (λ m side e. absurd (let z : Scx s part ≡ child m side = sym word ∙ e in cc)) x
