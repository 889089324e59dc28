-- The log has one entry for each SCX-record whose update has won, and none for any other.
use Rattle.std.proofs.Common.{◌≡◌, ◌≢◌, ℕ, true, cond, ◌⊎◌, inl, inr, ⊎_elim, List, [], ◌∷◌, zero, suc, refl, sym, ◌∙◌, ap, arith}
use Rattle.histories.specs.Common.{Layout, Row, History, Opening, Opened, ◌⊳◌, plan, plan_finalizes, side_of, count, member, IsNamedScx, HasWon, Lawful, Entry, owner}
use Rattle.histories.specs.Common.{log, members_from, finalized_from, has, is_final, IsEntered, Descriptor, descriptor, count_in, field_index_in, IsRemoved}
use Rattle.arena.proofs.Lemmas.{or_right, or_split}
use Rattle.arena.specs.Log.{AreOnce}
use Rattle.histories.proofs.Changes.{lawful_tail}
use Rattle.histories.proofs.Facts.{IsFlagged, Facts, won_more, some_is_real}
use Rattle.histories.proofs.Updates.{update_is_first, update_split, update_won, update_flagged}
use Rattle.histories.proofs.Always.{facts_before}
use Rattle.histories.proofs.Moments.{descriptor_stays}
use Rattle.histories.proofs.Members.{has_removed, is_removed_of}
use Rattle.histories.proofs.Fields.{entry_of, Logs, same, wins, logs}

-- an SCX-record whose update has won is named
pub won_named : {lay : Layout} {h : History} (s : ℕ) → Facts lay h → HasWon h s → IsNamedScx h s
won_named {lay} {h} s f w =
    let x : IsFlagged (descriptor h s) h s = f.flagged s (λ e. let y = f.winner s w in omega arith) in
    (member h s 0, x.frozen 0 x.some)

pub won_real : {lay : Layout} {h : History} (s : ℕ) → Facts lay h → HasWon h s → s ≢ 0
won_real {lay} {h} s f w = some_is_real f (f.flagged s (λ e. let y = f.winner s w in omega arith)).some

-- The entry of an SCX-record says what its settled words say

members_of : Descriptor → ℕ → ℕ → List ℕ
members_of d j zero = []
members_of d j (suc c) = d.member j ∷ members_of d (suc j) c

removed_of : Descriptor → ℕ → ℕ → List ℕ
removed_of d j zero = []
removed_of d j (suc c) = cond (plan_finalizes d.plan j) (d.member j ∷ removed_of d (suc j) c) (removed_of d (suc j) c)

members_are : (h : History) (s j c : ℕ) → members_from h s j c ≡ members_of (descriptor h s) j c
unfolding members_of
members_are h s j zero = refl
members_are h s j (suc c) = rw (members_are h s (suc j) c) refl

removed_are : (h : History) (s j c : ℕ) → finalized_from h s j c ≡ removed_of (descriptor h s) j c
unfolding removed_of
removed_are h s j zero = refl
removed_are h s j (suc c) = rw (removed_are h s (suc j) c) refl

abbrev entry_from : Layout → ℕ → Descriptor → Entry
entry_from lay s d =
    record {
      scx = s;
      owner = owner lay s;
      call = d.call;
      members = members_of d 0 (count_in d);
      removed = removed_of d 0 (count_in d);
      node = d.member (field_index_in d);
      side = side_of d.plan;
      new = d.new;
    }

entry_is : (lay : Layout) (h : History) (s : ℕ) → entry_of lay h s ≡ entry_from lay s (descriptor h s)
entry_is lay h s = rw (members_are h s 0 (count h s), removed_are h s 0 (count h s)) refl

pub entry_stays : (lay : Layout) (h : History) (r : Row) (s : ℕ) → Lawful lay (r ⊳ h) → s ≢ 0 → IsNamedScx h s → entry_of lay (r ⊳ h) s ≡ entry_of lay h s
entry_stays lay h r s l d p = entry_is lay (r ⊳ h) s ∙ ap (entry_from lay s) (descriptor_stays lay h r s l d p) ∙ sym (entry_is lay h s)

-- Entries and wins

-- the log has this entry
pub data IsIn (e : Entry) : List Entry → Type 0 where
  newest : (es : List Entry) → IsIn e (e ∷ es)
  older : (x : Entry) (es : List Entry) → IsIn e es → IsIn e (x ∷ es)

empty_log : (lay : Layout) (o : Opening) → log lay (Opened o) ≡ []
unfolding log
empty_log lay o = refl

none_won : (o : Opening) (s : ℕ) → HasWon (Opened o) s → ⊥
unfolding HasWon
none_won o s w = w

-- an SCX-record whose update has won has its entry in the log
pub won_is_in : (lay : Layout) (h : History) (s : ℕ) → Lawful lay h → HasWon h s → IsIn (entry_of lay h s) (log lay h)
won_is_in lay (Opened o) s l w = absurd (none_won o s w)
won_is_in lay (r ⊳ h) s l w = go (logs lay h r l) (won_is_in lay h s (lawful_tail lay h r l))
  where
    f : Facts lay h
    f = facts_before lay h r l

    before : HasWon h s → entry_of lay (r ⊳ h) s ≡ entry_of lay h s
    before v = entry_stays lay h r s l (won_real s f v) (won_named s f v)

    go : Logs lay h r → (HasWon h s → IsIn (entry_of lay h s) (log lay h)) → IsIn (entry_of lay (r ⊳ h) s) (log lay (r ⊳ h))
    go (same e back) more = let v : HasWon h s = back s w in rw (e, before v) (more v)
    go (wins u x e) more = ⊎_elim first (λ v. rw (e, before v) (older _ _ (more v))) (update_split f x s w)
      where
        first : s ≡ u → IsIn (entry_of lay (r ⊳ h) s) (log lay (r ⊳ h))
        first q =
            let y : entry_of lay (r ⊳ h) u ≡ entry_of lay h u = entry_stays lay h r u l (some_is_real f (update_flagged f x).some) (member h u 0, (update_flagged f x).frozen 0 (update_flagged f x).some) in
            rw (q, e, y) (newest (log lay h))

-- and the log has no other entries
pub entered_won : (lay : Layout) (h : History) (s : ℕ) → Lawful lay h → IsEntered (log lay h) s → HasWon h s
entered_won lay (Opened o) s l i = absurd (rw (empty_log lay o) at i)
entered_won lay (r ⊳ h) s l i = go (logs lay h r l) (entered_won lay h s (lawful_tail lay h r l))
  where
    go : Logs lay h r → (IsEntered (log lay h) s → HasWon h s) → HasWon (r ⊳ h) s
    go (same e back) more = won_more r h s (more (rw e at i))
    go (wins u x e) more = split (rw e at i)
      where
        split : (u ≡ s) ⊎ IsEntered (log lay h) s → HasWon (r ⊳ h) s
        split (inl q) = rw q at (update_won (facts_before lay h r l) x)
        split (inr j) = won_more r h s (more j)

-- an SCX-record whose update has won has an entry
pub won_entered : (lay : Layout) (h : History) (s : ℕ) → Lawful lay h → HasWon h s → IsEntered (log lay h) s
won_entered lay h s l w = entered (entry_of lay h s) (log lay h) (won_is_in lay h s l w)
  where
    entered : (e : Entry) (es : List Entry) → IsIn e es → IsEntered es e.scx
    entered e _ (newest es) = inl refl
    entered e _ (older x es i) = inr (entered e es i)

-- no SCX-record has two entries
pub once : (lay : Layout) (h : History) → Lawful lay h → AreOnce (log lay h)
once lay (Opened o) l = rw (empty_log lay o) tt
once lay (r ⊳ h) l = go (logs lay h r l) (once lay h (lawful_tail lay h r l))
  where
    go : Logs lay h r → AreOnce (log lay h) → AreOnce (log lay (r ⊳ h))
    go (same e back) p = rw e p
    go (wins u x e) p = rw e (λ i. update_is_first (facts_before lay h r l) x (entered_won lay h u (lawful_tail lay h r l) i), p)

-- Finality

-- a final node is one that an SCX-record that has won finalizes
pub record IsFinalizedBy (h : History) (n s : ℕ) : Type 0 where
  pub won : HasWon h s
  pub removed : IsRemoved h s n

pub removed_stays : (h k : History) (n s : ℕ) → descriptor k s ≡ descriptor h s → IsRemoved h s n → IsRemoved k s n
removed_stays h k n s e x =
    let p : plan k s ≡ plan h s = ap (λ (d : Descriptor). d.plan) e in
    let m : member k s x.index ≡ member h s x.index = ap (λ (d : Descriptor). d.member x.index) e in
    record { index = x.index; within = rw p x.within; is = m ∙ x.is; removed = rw p x.removed }

pub finalized_by_stays : (lay : Layout) (h : History) (r : Row) (n s : ℕ) → Lawful lay (r ⊳ h) → IsFinalizedBy h n s → IsFinalizedBy (r ⊳ h) n s
finalized_by_stays lay h r n s l x =
    let f : Facts lay h = facts_before lay h r l in
    record { won = won_more r h s x.won; removed = removed_stays h (r ⊳ h) n s (descriptor_stays lay h r s l (won_real s f x.won) (won_named s f x.won)) x.removed }

pub final_by : (lay : Layout) (h : History) (n : ℕ) → Lawful lay h → is_final (log lay h) n ≡ true → (s : ℕ) × IsFinalizedBy h n s
final_by lay (Opened o) n l e = let x : is_final [] n ≡ true = rw (empty_log lay o) at e in cc
final_by lay (r ⊳ h) n l e = go (logs lay h r l) (final_by lay h n (lawful_tail lay h r l))
  where
    f : Facts lay h
    f = facts_before lay h r l

    more : (s : ℕ) × IsFinalizedBy h n s → (s : ℕ) × IsFinalizedBy (r ⊳ h) n s
    more x = (x.0, finalized_by_stays lay h r n x.0 l x.1)

    go : Logs lay h r → (is_final (log lay h) n ≡ true → (s : ℕ) × IsFinalizedBy h n s) → (s : ℕ) × IsFinalizedBy (r ⊳ h) n s
    go (same q back) before = more (before (rw q at e))
    go (wins u x q) before = split (or_split _ _ (rw q at e))
      where
        split : (has (entry_of lay h u).removed n ≡ true) ⊎ (is_final (log lay h) n ≡ true) → (s : ℕ) × IsFinalizedBy (r ⊳ h) n s
        split (inr y) = more (before y)
        split (inl y) =
            let named : IsNamedScx h u = (member h u 0, (update_flagged f x).frozen 0 (update_flagged f x).some) in
            (u, record { won = update_won f x; removed = removed_stays h (r ⊳ h) n u (descriptor_stays lay h r u l (some_is_real f (update_flagged f x).some) named) (is_removed_of h u n y) })

removed_is_final : (e : Entry) (es : List Entry) (n : ℕ) → IsIn e es → has e.removed n ≡ true → is_final es n ≡ true
removed_is_final e es n (newest _) p = rw p refl
removed_is_final e es n (older x xs i) p = or_right _ _ (removed_is_final e xs n i p)

pub by_final : (lay : Layout) (h : History) (n s : ℕ) → Lawful lay h → IsFinalizedBy h n s → is_final (log lay h) n ≡ true
by_final lay h n s l x = removed_is_final (entry_of lay h s) (log lay h) n (won_is_in lay h s l x.won) (has_removed h s n x.removed.index x.removed.within x.removed.is x.removed.removed)
