-- The last entry of a node, and whether it is final, stay while its info names one finished
-- SCX-record, and while one that holds it has not won.
use Rattle.std.proofs.Common.{◌≡◌, ◌≢◌, ℕ, Bool, true, false, cond, ◌||◌, inl, inr, List, ◌∷◌, length, suc, refl, sym, ◌∙◌, subst}
use Rattle.histories.specs.Common.{Layout, Row, info, state, History, Opened, ◌⊳◌, value, Extends, IsNamed, HasWon, Lawful, IsMember, Entry, log, last, is_final, has, IsRemoved}
use Rattle.histories.proofs.Changes.{UpdateWins, lawful_tail}
use Rattle.histories.proofs.Facts.{Facts}
use Rattle.histories.proofs.Updates.{update_about, update_flagged, update_in_progress, update_keeps_info, update_won}
use Rattle.histories.proofs.Always.{facts_before}
use Rattle.histories.proofs.Moments.{Still, still, named_since, state_since}
use Rattle.histories.proofs.Members.{is_member, is_removed_of}
use Rattle.histories.proofs.Fields.{entry_of, Logs, same, wins, logs}

-- before its update wins, an SCX-record holds each of its nodes
pub holds_member : {lay : Layout} {h : History} {r : Row} {u n : ℕ} → Facts lay h → UpdateWins h r u → IsMember h u n → value h (info n) ≡ u
holds_member f w x = rw x.is at ((update_about f w).holds x.index x.within ((update_flagged f w).frozen x.index x.within) (update_in_progress f w))

-- an entry says nothing of a node that its SCX-record does not cover
last_other : (lay : Layout) (h : History) (u n : ℕ) (es : List Entry) → ¬ IsMember h u n → last (entry_of lay h u ∷ es) n ≡ last es n
last_other lay h u n es d = go (has (entry_of lay h u).members n) refl
  where
    go : (t : Bool) → has (entry_of lay h u).members n ≡ t → cond t (suc (length es)) (last es n) ≡ last es n
    go false e = refl
    go true e = absurd (d (is_member h u n e))

final_other : (lay : Layout) (h : History) (u n : ℕ) (es : List Entry) → ¬ IsMember h u n → is_final (entry_of lay h u ∷ es) n ≡ is_final es n
final_other lay h u n es d = go (has (entry_of lay h u).removed n) refl
  where
    go : (t : Bool) → has (entry_of lay h u).removed n ≡ t → t || is_final es n ≡ is_final es n
    go false e = refl
    go true e = let x : IsRemoved h u n = is_removed_of h u n e in absurd (d record { index = x.index; within = x.within; is = x.is })

-- what the log says of a node
pub record Same (a b : List Entry) (n : ℕ) : Type 0 where
  pub last : last a n ≡ last b n
  pub final : is_final a n ≡ is_final b n

unless : (lay : Layout) (h : History) (r : Row) (n : ℕ) → Lawful lay (r ⊳ h) → ((u : ℕ) → UpdateWins h r u → ¬ IsMember h u n) → Same (log lay (r ⊳ h)) (log lay h) n
unless lay h r n l never = go (logs lay h r l)
  where
    go : Logs lay h r → Same (log lay (r ⊳ h)) (log lay h) n
    go (same e _) = record { last = rw e refl; final = rw e refl }
    go (wins u w e) = record { last = rw e (last_other lay h u n (log lay h) (never u w)); final = rw e (final_other lay h u n (log lay h) (never u w)) }

-- while the info of the node names a finished SCX-record
pub last_still : (lay : Layout) (h : History) (r : Row) (n s : ℕ) → Lawful lay (r ⊳ h) → value h (state s) ≢ 0 → value (r ⊳ h) (info n) ≡ s → Same (log lay (r ⊳ h)) (log lay h) n
last_still lay h r n s l d here = unless lay h r n l never
  where
    f : Facts lay h
    f = facts_before lay h r l

    never : (u : ℕ) → UpdateWins h r u → ¬ IsMember h u n
    never u w x =
        let q : u ≡ s = sym (holds_member f w x) ∙ sym (update_keeps_info f w n) ∙ here in
        d (rw q at (update_in_progress f w))

-- while an SCX-record in progress has frozen the node and has not won
pub last_waits : (lay : Layout) (h : History) (r : Row) (n s : ℕ) → Lawful lay (r ⊳ h) → value h (info n) ≡ s → ¬ HasWon (r ⊳ h) s → Same (log lay (r ⊳ h)) (log lay h) n
last_waits lay h r n s l here waits = unless lay h r n l never
  where
    f : Facts lay h
    f = facts_before lay h r l

    never : (u : ℕ) → UpdateWins h r u → ¬ IsMember h u n
    never u w x = let q : u ≡ s = sym (holds_member f w x) ∙ here in waits (rw q at (update_won f w))

-- since a moment at which the info of the node named what it still names and what was finished then
pub last_since : (lay : Layout) (h m : History) (n s : ℕ) → Lawful lay h → Extends h m → IsNamed lay m n → value m (state s) ≢ 0 → value h (info n) ≡ s → Same (log lay h) (log lay m) n
last_since lay (Opened o) m n s l e p d here = subst (λ k. Same (log lay (Opened o)) (log lay k) n) (sym e) record { last = refl; final = refl }
last_since lay (r ⊳ h) m n s l (inl e) p d here = subst (λ k. Same (log lay (r ⊳ h)) (log lay k) n) (sym e) record { last = refl; final = refl }
last_since lay (r ⊳ h) m n s l (inr e) p d here =
    let b : Lawful lay h = lawful_tail lay h r l in
    let c : value h (state s) ≢ 0 = λ q. d (sym (state_since lay h m s b e d) ∙ q) in
    let x : Still h (r ⊳ h) n s = still lay h r n s l (named_since lay h m n b e p) c here in
    let y : Same (log lay h) (log lay m) n = last_since lay h m n s b e p d x.info in
    let z : Same (log lay (r ⊳ h)) (log lay h) n = last_still lay h r n s l c here in
    record { last = z.last ∙ y.last; final = z.final ∙ y.final }
