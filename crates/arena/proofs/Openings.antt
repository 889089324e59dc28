-- What the words of a table hold after it was opened.
use Rattle.std.proofs.Common.{◌≡◌, ℕ, Bool, true, false, cond, if◌then◌else◌, ◌&&◌, eqb, ⊎_elim, refl, sym, ◌∙◌, eq-eqb, ne_eqb, ap, arith, zero, suc}
use Rattle.std.proofs.lemmas.Bool.Decides.{eqb_tells}
use Rattle.arena.specs.declared.word.Side.TheVariants.{Left, Right}
use Rattle.arena.specs.declared.word.NodeWord.TheVariants.{Settled, Child, Info, Marked}
use Rattle.arena.specs.declared.word.SettledPart.TheVariants.{Head}
use Rattle.arena.specs.declared.word.ScxWord.TheVariants.{State, AllFrozen, Plan, New, Old, Member, Seen, Call}
use Rattle.arena.specs.declared.word.ScxWord.{ScxWord}
use Rattle.arena.specs.declared.number.ScxNo.{ScxNo}
use Rattle.arena.specs.declared.word.Word.{Word}
use Rattle.arena.specs.declared.word.Word.TheVariants.{Node, Scx}
use Rattle.arena.specs.Words.{node, child, state, same_word}
use Rattle.arena.specs.Layout.{is_map, tree_opening, records_opening, IsWord}
use Rattle.arena.specs.PlainWords.{Contents, IsChanged, IsOpening, word_at}
use Rattle.arena.proofs.SameWords.{word_same, word_apart}

-- after a change each word holds the value that was put there, or what it held
pub changed_to : (old new : Contents) (word : Word) (value : ℕ) (w : Word) → IsChanged old new word value → IsWord old.layout w → word_at new w ≡ cond (same_word word w) value (word_at old w)
changed_to old new word value w c inside = go (same_word word w) refl
  where
    go : (t : Bool) → same_word word w ≡ t → word_at new w ≡ cond (same_word word w) value (word_at old w)
    go true e = rw e (rw (← word_same word w e) c.changed)
    go false e = rw e (c.others w inside (word_apart word w e))

skip : (t : Bool) (v w : ℕ) → cond (t && false) v w ≡ w
skip true v w = refl
skip false v w = refl

same : (t : Bool) (v w : ℕ) → cond (t && true) v w ≡ cond t v w
same true v w = refl
same false v w = refl

turned : (m n : ℕ) → eqb m n ≡ eqb n m
turned m n = ⊎_elim
    (λ x. x.0 ∙ sym (eq-eqb n m (sym x.1)))
    (λ x. x.0 ∙ sym (ne_eqb n m (λ e. x.1 (sym e))))
    (eqb_tells m n)

put : (k n v w : ℕ) → cond (eqb k n && true) v w ≡ cond (eqb n k) v w
put k n v w = same (eqb k n) v w ∙ ap (λ t. cond t v w) (turned k n)

-- the dummy's state alone is not zero
pub records_are : (w : Word) → cond (same_word (state 0) w) 2 0 ≡ records_opening w
records_are (Node n part) = refl
records_are (Scx s State) = put 0 s.0 2 0
records_are (Scx s AllFrozen) = skip (eqb 0 s.0) 2 0
records_are (Scx s Plan) = skip (eqb 0 s.0) 2 0
records_are (Scx s New) = skip (eqb 0 s.0) 2 0
records_are (Scx s Old) = skip (eqb 0 s.0) 2 0
records_are (Scx s (Member j)) = skip (eqb 0 s.0) 2 0
records_are (Scx s (Seen j)) = skip (eqb 0 s.0) 2 0
records_are (Scx s Call) = skip (eqb 0 s.0) 2 0

-- three heads that differ, in whatever order they are put
heads : (n : ℕ) → ◌≡◌ {A = ℕ} (cond (eqb n 2) 14 (cond (eqb n 1) 13 (cond (eqb n 0) 2 0))) (cond (eqb n 0) 2 (cond (eqb n 1) 13 (cond (eqb n 2) 14 0)))
heads zero = refl
heads (suc zero) = refl
heads (suc (suc zero)) = refl
heads (suc (suc (suc n))) =
    let a : eqb (suc (suc (suc n))) 0 ≡ false = ne_eqb _ _ (λ e. omega arith) in
    let b : eqb (suc (suc (suc n))) 1 ≡ false = ne_eqb _ _ (λ e. omega arith) in
    let c : eqb (suc (suc (suc n))) 2 ≡ false = ne_eqb _ _ (λ e. omega arith) in
    rw (a, b, c) refl

-- the words of the tree, put over these one after another
pub tree_is : (w : Word) → cond (same_word (node 2 (Settled Head)) w) 14 (cond (same_word (node 1 (Settled Head)) w) 13 (cond (same_word (child 0 Right) w) 2 (cond (same_word (child 0 Left) w) 1 (cond (same_word (node 0 (Settled Head)) w) 2 (records_opening w)))))
    ≡ tree_opening w
tree_is (Scx s part) = shown s part
  where
    shown : (s : ScxNo) (part : ScxWord) → records_opening (Scx s part) ≡ tree_opening (Scx s part)
    shown s State = refl
    shown s AllFrozen = refl
    shown s Plan = refl
    shown s New = refl
    shown s Old = refl
    shown s (Member j) = refl
    shown s (Seen j) = refl
    shown s Call = refl
tree_is (Node n (Settled Head)) = simp (skip, put) (heads n.0)
tree_is (Node n (Child Left)) = simp (skip, put)
tree_is (Node n (Child Right)) = simp (skip, put)
tree_is (Node n (Settled _)) = simp skip
tree_is (Node n Info) = simp skip
tree_is (Node n Marked) = simp skip

-- five changes of a table that holds the opening words of records make it that of the tree
pub planted : (a b c d e f : Contents) → IsChanged a b (node 0 (Settled Head)) 2 → IsChanged b c (child 0 Left) 1 → IsChanged c d (child 0 Right) 2 → IsChanged d e (node 1 (Settled Head)) 13 → IsChanged e f (node 2 (Settled Head)) 14
    → ((w : Word) → IsWord a.layout w → word_at a w ≡ records_opening w) → (w : Word) → IsWord a.layout w → word_at f w ≡ tree_opening w
planted a b c d e f p q r s t start w i =
    let j : IsWord b.layout w = rw p.layout i in
    let k : IsWord c.layout w = rw q.layout j in
    let l : IsWord d.layout w = rw r.layout k in
    let m : IsWord e.layout w = rw s.layout l in
    changed_to e f _ _ w t m ∙ rw (changed_to d e _ _ w s l, changed_to c d _ _ w r k, changed_to b c _ _ w q j, changed_to a b _ _ w p i, start w i) (tree_is w)

-- a table of zeros in which the dummy is aborted holds the opening words of records
pub opened : (zeros words : Contents) → IsChanged zeros words (state 0) 2 → ((w : Word) → IsWord zeros.layout w → word_at zeros w ≡ 0) → (w : Word) → IsWord zeros.layout w → word_at words w ≡ records_opening w
opened zeros words c z w i = changed_to zeros words _ _ w c i ∙ rw (z w i) (records_are w)

-- a table that holds a map's opening words, or those of records, is as its mode opens
pub as_opening : (old words : Contents) (map : Bool) → words.layout ≡ old.layout → is_map old.layout.mode ≡ map → ((w : Word) → IsWord old.layout w → word_at words w ≡ (if map then tree_opening w else records_opening w)) → IsOpening words
as_opening old words map l m h w i = h w (rw l at i) ∙ rw (l, m) refl
