-- Where the SCX-record of a row is found.
use Rattle.std.proofs.Common.{◌≡◌, ◌≢◌, ℕ, ◌<◌, ◌≤◌, ⊎_elim, Bool, true, false, sym, ◌∙◌, ap, arith}
use Rattle.std.proofs.lemmas.Bool.{cases_lt}
use Rattle.histories.specs.Common.{Layout, NodeWord, AllFrozen, Plan, Word, Node, Scx, Update, Row, all_scx, node, scx, info}
use Rattle.histories.specs.Common.{History, value, Lawful, IsMark, IsUpdate, count, count_of, member, old, field_index}
use Rattle.histories.proofs.Lemmas.{UpdateWins, facts, update_holds}
use Rattle.judge.proofs.Spreading.{same_or}
use Rattle.judge.proofs.Words.{value_outside}

abbrev node_number : Word → ℕ
node_number (Node n part) = n.0
node_number (Scx s part) = 0

pub never_both : (b : Bool) → b ≡ true → b ≡ false → ⊥
never_both b t f = let e : true ≡ false = sym t ∙ f in cc

-- one that covers a node is of the table
pub covers_inside : (lay : Layout) (h : History) (s j : ℕ) → Lawful lay h → j < count h s → s < all_scx lay
covers_inside lay h s j l c = ⊎_elim (λ i. i) (λ o. absurd (none o)) (cases_lt s (all_scx lay))
  where
    none : all_scx lay ≤ s → ⊥
    none o =
        let empty : value h (scx s Plan) ≡ 0 = value_outside lay h (scx s Plan) l (λ i. let x = i.0 in omega (x, o, arith)) in
        let few : count h s ≡ 0 = ap count_of empty in
        omega (few, c, arith)

-- and one whose flag is set
pub flagged_inside : (lay : Layout) (h : History) (s : ℕ) → Lawful lay h → value h (scx s AllFrozen) ≡ 1 → s < all_scx lay
flagged_inside lay h s l f = ⊎_elim (λ i. i) (λ o. absurd (none o)) (cases_lt s (all_scx lay))
  where
    none : all_scx lay ≤ s → ⊥
    none o =
        let unset : value h (scx s AllFrozen) ≡ 0 = value_outside lay h (scx s AllFrozen) l (λ i. let x = i.0 in omega (x, o, arith)) in
        omega (unset, f, arith)

-- a node that is marked names in its info the one that finalizes it
pub mark_found : (lay : Layout) (h : History) (r : Row) (s j n : ℕ) (part : NodeWord) → Lawful lay h → r.word ≡ node n part → IsMark h r s j → value h (info n) ≡ s
mark_found lay h r s j n part l e m =
    let at : n ≡ member h s j = ap node_number (sym e ∙ m.word) in
    let flag = m.all_frozen in
    ap (λ k. value h (info k)) at ∙ (facts lay h l).finalizes s (λ z. omega (z, flag, arith)) j m.within m.removed

-- an update that changes its field wins, for the one that the info of the field's node names
pub update_found : (lay : Layout) (h : History) (r : Row) (s n : ℕ) (part : NodeWord) → Lawful lay h → r.kind ≡ Update → r.before ≡ value h r.word → r.word ≡ node n part → r.before ≢ r.after → IsUpdate h r s → value h (info n) ≡ s
update_found lay h r s n part l k b e changed u = ⊎_elim
    (λ found.
    let w : UpdateWins h r s = record { kind = k; update = u; before = b; found = found; stored = u.exchange.won found } in
    let at : n ≡ member h s (field_index h s) = ap node_number (sym e ∙ u.word) in
    ap (λ m. value h (info m)) at ∙ update_holds (facts lay h l) w)
    (λ lost. absurd (changed (sym (u.exchange.lost lost))))
    (same_or r.before (old h s))
