-- What words hold that are not of the table, and after one more row.
use Rattle.std.proofs.Common.{◌≡◌, ℕ, Bool, true, false, ne_eqb, refl, sym, ◌∙◌, ap, subst, arith}
use Rattle.histories.specs.Common.{Layout, ScxWord, State, AllFrozen, Plan, New, Old, Member, Seen, Word, Node, Scx, Row, scx}
use Rattle.histories.specs.Common.{IsWord, same_word, History, Opening, Opened, ◌⊳◌, value, Lawful, Contents, word_at, IsChanged}
use Rattle.arena.specs.declared.word.ScxWord.TheVariants.{Call}
use Rattle.arena.specs.Layout.{records_opening}
use Rattle.arena.proofs.Lemmas.{word_same, word_refl, value_at, value_other}
use Rattle.histories.proofs.Lemmas.{lawful_row, lawful_tail, start_nodes, value_start}

-- a word that is not of the table is 0 at the start
record_outside : (lay : Layout) (s : ℕ) (part : ScxWord) → ¬ IsWord lay (scx s part) → records_opening (scx s part) ≡ 0
record_outside lay s State d = rw (ne_eqb s 0 (λ e. d (omega (e, arith), tt))) refl
record_outside lay s AllFrozen d = refl
record_outside lay s Plan d = refl
record_outside lay s New d = refl
record_outside lay s Old d = refl
record_outside lay s (Member j) d = refl
record_outside lay s (Seen j) d = refl
record_outside lay s Call d = refl

opening_outside : (lay : Layout) (o : Opening) (w : Word) → Lawful lay (Opened o) → ¬ IsWord lay w → o.words w ≡ 0
opening_outside lay o (Node n part) l d = o.beyond n.0 part (let few = start_nodes lay o l in omega (d, few, arith))
opening_outside lay o (Scx s part) l d = o.records s.0 part ∙ record_outside lay s.0 part d

-- and after every lawful history
pub value_outside : (lay : Layout) (h : History) (w : Word) → Lawful lay h → ¬ IsWord lay w → value h w ≡ 0
value_outside lay (Opened o) w l d = value_start o w ∙ opening_outside lay o w l d
value_outside lay (r ⊳ h) w l d = value_other r h w (apart (same_word r.word w) refl) ∙ value_outside lay h w (lawful_tail lay h r l) d
  where
    apart : (b : Bool) → same_word r.word w ≡ b → same_word r.word w ≡ false
    apart false e = e
    apart true e = absurd (d (subst (λ (x : Word). IsWord lay x) (word_same r.word w e) (lawful_row lay h r l).word))

-- the words after a row
pub words_more : (lay : Layout) (h : History) (r : Row) (old new : Contents) → old.layout ≡ lay → IsWord lay r.word → ((w : Word) → IsWord lay w → word_at old w ≡ value h w) → IsChanged old new r.word r.after → (w : Word) → IsWord lay w → word_at new w ≡ value (r ⊳ h) w
words_more lay h r old new table inside holds changed w i = go (same_word r.word w) refl
  where
    go : (b : Bool) → same_word r.word w ≡ b → word_at new w ≡ value (r ⊳ h) w
    go true e = let at = word_same r.word w e in ap (word_at new) (sym at) ∙ changed.changed ∙ sym (value_at r h w at)
    go false e = changed.others w (rw table i) (λ q. let both : same_word r.word w ≡ true = ap (same_word r.word) q ∙ word_refl r.word in cc) ∙ holds w i ∙ sym (value_other r h w e)
