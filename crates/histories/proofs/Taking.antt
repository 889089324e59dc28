-- Which SCX-records are taken: each that an info word names or that is finished, and no pass takes
-- one of another's.
use Rattle.std.proofs.Common.{◌≡◌, ◌≢◌, ℕ, ◌<◌, Bool, true, false, ◌⊎◌, inl, inr, refl, sym, ◌∙◌, arith, subst}
use native.Mathlib.Decide.{ℕ_discrete}
use Rattle.histories.specs.Common.{Layout, Word, Node, Scx, NodeWord, ScxWord, State, AllFrozen, Plan, New, Old, Member, Seen, Row, Fill, same_word, node, scx, info, marked}
use Rattle.histories.specs.Common.{state, History, Opened, ◌⊳◌, value, count_of, plan, member, count, field, IsOwnScx, IsNamedScx, IsTakenScx, MayFill, Obeys, Lawful}
use Rattle.arena.specs.declared.word.ScxWord.TheVariants.{Call}
use Rattle.arena.specs.Fills.{IsFillOfScx}
use Rattle.arena.proofs.Lemmas.{word_same, taken_scx_more, fill_takes_scx, value_quiet, value_apart, opening_scx, opening_state, scx_apart, scx_word_apart}
use Rattle.histories.proofs.Changes.{Change, nothing, fills_node, fills_scx, freezes, sets_frozen, marks, updates, commits, aborts, change, lawful_tail, lawful_row}
use Rattle.histories.proofs.Facts.{Facts}
use Rattle.histories.proofs.Always.{facts, facts_before}
use Rattle.histories.proofs.Entries.{won_named}
use Rattle.histories.proofs.Owners.{one_scx_owner}
use Rattle.histories.proofs.Quiet.{never_state}

-- Taken

taken_split : (r : Row) (h : History) (s : ℕ) → IsTakenScx (r ⊳ h) s → IsFillOfScx s r ⊎ IsTakenScx h s
unfolding IsTakenScx
taken_split r h s t = t

-- an SCX-record that covers a node is taken, since only a fill changes its plan
pub planned_taken : (lay : Layout) (h : History) (s : ℕ) → Lawful lay h → 0 < count h s → IsTakenScx h s
planned_taken lay (Opened o) s l some = let e : value (Opened o) (scx s Plan) ≡ 0 = opening_scx o s Plan refl in absurd (let x : 0 < count_of 0 = rw e at some in omega arith)
planned_taken lay (r ⊳ h) s l some = go (change lay h r l) (λ e. taken_scx_more r h s (planned_taken lay h s (lawful_tail lay h r l) (let P : ℕ → Type 0 = λ p. 0 < count_of p in subst P e some)))
  where
    by_fill : (t : ℕ) (part : ScxWord) → r.kind ≡ Fill → r.word ≡ scx t part → (b : Bool) → same_word (scx t part) (scx s Plan) ≡ b → (plan (r ⊳ h) s ≡ plan h s → IsTakenScx (r ⊳ h) s) → IsTakenScx (r ⊳ h) s
    by_fill t part k w true e before = fill_takes_scx r h s Plan k (w ∙ word_same (scx t part) (scx s Plan) e)
    by_fill t part k w false e before = before (value_apart r h (scx t part) (scx s Plan) w e)

    go : Change lay h r → (plan (r ⊳ h) s ≡ plan h s → IsTakenScx (r ⊳ h) s) → IsTakenScx (r ⊳ h) s
    go (nothing i a) before = before (value_quiet r h (lawful_row lay h r l).before a (scx s Plan))
    go (fills_node n part x) before = before (value_apart r h (node n part) (scx s Plan) x.word refl)
    go (fills_scx t part x) before = by_fill t part x.kind x.word (same_word (scx t part) (scx s Plan)) refl before
    go (freezes t j w) before = before (value_apart r h (info (member h t j)) (scx s Plan) w.freeze.word refl)
    go (sets_frozen t k x) before = before (value_apart r h (scx t AllFrozen) (scx s Plan) x.word (scx_word_apart t s AllFrozen Plan refl))
    go (marks t j k x) before = before (value_apart r h (marked (member h t j)) (scx s Plan) x.word refl)
    go (updates t w) before = before (value_apart r h (field h t) (scx s Plan) w.update.word refl)
    go (commits t k x) before = before (value_apart r h (state t) (scx s Plan) x.word (scx_word_apart t s State Plan refl))
    go (aborts t j k x) before = before (value_apart r h (state t) (scx s Plan) x.word (scx_word_apart t s State Plan refl))

-- one that an info word names
pub named_scx_taken : (lay : Layout) (h : History) (s : ℕ) → Lawful lay h → s ≢ 0 → IsNamedScx h s → IsTakenScx h s
named_scx_taken lay h s l real p = planned_taken lay h s l ((facts lay h l).about s p.0 real p.1).planned.some

-- one that is finished
pub finished_taken : (lay : Layout) (h : History) (s : ℕ) → Lawful lay h → s ≢ 0 → value h (state s) ≢ 0 → IsTakenScx h s
finished_taken lay (Opened o) s l real d = absurd (d (opening_state o s real))
finished_taken lay (r ⊳ h) s l real d = go (change lay h r l) (λ e. taken_scx_more r h s (finished_taken lay h s (lawful_tail lay h r l) real (λ z. d (e ∙ z))))
  where
    f : Facts lay h
    f = facts_before lay h r l

    other : (t : ℕ) → r.word ≡ state t → (t ≡ s → IsTakenScx h t) → Dec (t ≡ s) → (value (r ⊳ h) (state s) ≡ value h (state s) → IsTakenScx (r ⊳ h) s) → IsTakenScx (r ⊳ h) s
    other t w x (yes e) before = taken_scx_more r h s (subst (IsTakenScx h) e (x e))
    other t w x (no e) before = before (value_apart r h (state t) (state s) w (scx_apart t s State State e))

    go : Change lay h r → (value (r ⊳ h) (state s) ≡ value h (state s) → IsTakenScx (r ⊳ h) s) → IsTakenScx (r ⊳ h) s
    go (nothing i a) before = before (value_quiet r h (lawful_row lay h r l).before a (state s))
    go (fills_node n part x) before = before (value_apart r h (node n part) (state s) x.word refl)
    go (fills_scx t part x) before = before (value_apart r h (scx t part) (state s) x.word (scx_word_apart t s part State (never_state part x.fill)))
    go (freezes t j w) before = before (value_apart r h (info (member h t j)) (state s) w.freeze.word refl)
    go (sets_frozen t k x) before = before (value_apart r h (scx t AllFrozen) (state s) x.word (scx_word_apart t s AllFrozen State refl))
    go (marks t j k x) before = before (value_apart r h (marked (member h t j)) (state s) x.word refl)
    go (updates t w) before = before (value_apart r h (field h t) (state s) w.update.word refl)
    go (commits t k x) before = other t x.word (λ e. named_scx_taken lay h t (lawful_tail lay h r l) (λ z. real (sym e ∙ z)) (won_named t f x.won)) (ℕ_discrete t s) before
    go (aborts t j k x) before = other t x.word (λ e. planned_taken lay h t (lawful_tail lay h r l) (let i = x.within in omega arith)) (ℕ_discrete t s) before

-- Not taken

abbrev scx_number : Word → ℕ
scx_number (Scx s part) = s.0
scx_number (Node n part) = 0

-- what a pass may fill is its own
fills_own : (lay : Layout) (h : History) (c s : ℕ) (part : ScxWord) (v : ℕ) → MayFill lay h c (scx s part) v → IsOwnScx lay c s
fills_own lay h c s State v m = absurd m
fills_own lay h c s AllFrozen v m = absurd m
fills_own lay h c s Plan v m = m.own
fills_own lay h c s New v m = m.0.own
fills_own lay h c s Old v m = m.0.own
fills_own lay h c s (Member j) v m = m.0.own
fills_own lay h c s (Seen j) v m = m.0.own
fills_own lay h c s Call v m = m.own

-- a row of another pass takes no SCX-record of the pass c
pub untaken_by_others : (lay : Layout) (h : History) (r : Row) (c s : ℕ) → Lawful lay (r ⊳ h) → r.pass.0 ≢ c → IsOwnScx lay c s → ¬ IsTakenScx h s → ¬ IsTakenScx (r ⊳ h) s
untaken_by_others lay h r c s l other own free t = go (taken_split r h s t)
  where
    obeys : (part : ScxWord) → r.kind ≡ Fill → r.word ≡ scx s part → MayFill lay h r.pass.0 (scx s part) r.after
    obeys part k w =
        let x : MayFill lay h r.pass.0 r.word r.after = subst (λ a. Obeys lay h r a) k (lawful_row lay h r l).obeys in
        subst (λ a. MayFill lay h r.pass.0 a r.after) w x

    go : IsFillOfScx s r ⊎ IsTakenScx h s → ⊥
    go (inl x) = other (one_scx_owner lay r.pass.0 c s (fills_own lay h r.pass.0 s x.0 r.after (obeys x.0 x.1 x.2)) own)
    go (inr x) = free x

-- a row that is no fill takes nothing
pub untaken_by_step : (h : History) (r : Row) (s : ℕ) → r.kind ≢ Fill → ¬ IsTakenScx h s → ¬ IsTakenScx (r ⊳ h) s
untaken_by_step h r s no_fill free t = go (taken_split r h s t)
  where
    go : IsFillOfScx s r ⊎ IsTakenScx h s → ⊥
    go (inl x) = no_fill x.1
    go (inr x) = free x

-- nor does a row on a word of a node, or of another SCX-record
pub untaken_by_node : (h : History) (r : Row) (n s : ℕ) (part : NodeWord) → r.word ≡ node n part → ¬ IsTakenScx h s → ¬ IsTakenScx (r ⊳ h) s
untaken_by_node h r n s part w free t = go (taken_split r h s t)
  where
    go : IsFillOfScx s r ⊎ IsTakenScx h s → ⊥
    go (inl x) = let e : node n part ≡ scx s x.0 = sym w ∙ x.2 in cc
    go (inr x) = free x

pub untaken_by_other_fill : (h : History) (r : Row) (u s : ℕ) (part : ScxWord) → r.word ≡ scx u part → s ≢ u → ¬ IsTakenScx h s → ¬ IsTakenScx (r ⊳ h) s
untaken_by_other_fill h r u s part w apart free t = go (taken_split r h s t)
  where
    go : IsFillOfScx s r ⊎ IsTakenScx h s → ⊥
    go (inl x) = let e : scx u part ≡ scx s x.0 = sym w ∙ x.2 in apart (λ i. scx_number (sym e i))
    go (inr x) = free x
