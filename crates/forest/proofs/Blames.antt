-- What the passes have blamed.
use Rattle.arena.specs.Layout.{IsMap}
use Rattle.std.proofs.Common.{◌≡◌, ◌≢◌, ℕ, inl, inr, List, [], ◌∷◌, sym, ◌∙◌, ap, subst, arith}
use Rattle.std.specs.List.{All}
use Rattle.std.proofs.lemmas.List.Elements.{All-nil, All-cons, All-weaker}
use Rattle.std.proofs.lemmas.List.Kept.{AllPairs-cons}
use Rattle.histories.specs.Common.{Layout, state, Remaining, HasScx, History, ◌⊳◌, value, Extends, WasInTheWay, HasFailed, Records, IsNamedScx, IsOthersScx, Lawful}
use Rattle.histories.proofs.Lemmas.{lawful_since, named_scx_more, named_scx_taken, since, state_since}
use Rattle.prims.specs.Laws.Begun.{taken_since}
use Rattle.prims.specs.Shares.{IsShare}
use Rattle.prims.proofs.Lemmas.{left_own_scx}
use Rattle.template.specs.Blame.{IsOverOrNew}
use Rattle.tables.specs.Passes.{PassView, HasBlamed, run_of}
use Rattle.forest.proofs.BlameCounts.{for_nobody, for_later, few_more, each_more}

-- What stays

-- what is finished stays finished
over_since : (lay : Layout) (h m : History) (s : ℕ) → Lawful lay h → Extends h m → value m (state s) ≢ 0 → value h (state s) ≢ 0
over_since lay h m s l e d z = d (sym (state_since lay h m s l e d) ∙ z)

all_over_since : (lay : Layout) (h m : History) → Lawful lay h → Extends h m → (ss : List ℕ) → All (λ s. value m (state s) ≢ 0) ss → All (λ s. value h (state s) ≢ 0) ss
all_over_since lay h m l e = All-weaker (λ s. value m (state s) ≢ 0) (λ s. value h (state s) ≢ 0) (λ s d. over_since lay h m s l e d)

-- what has begun has begun
named_scx_since : (lay : Layout) (h m : History) (s : ℕ) → Lawful lay h → Extends h m → IsNamedScx m s → IsNamedScx h s
named_scx_since lay h m s = since (λ k. IsNamedScx k s) lay (λ h r l. named_scx_more r h s) h m

all_begun_since : (lay : Layout) (h m : History) → Lawful lay h → Extends h m → (ss : List ℕ) → All (IsNamedScx m) ss → All (IsNamedScx h) ss
all_begun_since lay h m l e = All-weaker (IsNamedScx m) (IsNamedScx h) (λ s d. named_scx_since lay h m s l e d)

-- what is finished at the start was not in the way since
never_in_the_way : (lay : Layout) (h start : History) (n s : ℕ) → Lawful lay h → value start (state s) ≢ 0 → ¬ WasInTheWay h start n s
never_in_the_way lay h start n s l d w = over_since lay (w.row ⊳ w.before) start s now (inr w.since) d w.running.unfinished
  where
    now : Lawful lay (w.row ⊳ w.before)
    now = lawful_since lay h (w.row ⊳ w.before) l w.within

-- Blame lists

-- one with nobody
pub blamed_nobody : (p : PassView) → p.blamed ≡ [] → HasBlamed p
blamed_nobody p e = record { others = rw e (All-nil _); begun = rw e (All-nil _); few = λ s. rw e (omega arith); each = λ s. rw e (for_nobody (run_of p) s); over = λ cells. rw e (All-nil _); different = λ cells. rw e (λ i j d less within. absurd (omega arith)) }

-- a blame list of a pass that knows a longer run
pub blamed_later : (old new : PassView) → new.layout ≡ old.layout → new.number ≡ old.number → new.blamed ≡ old.blamed → Lawful new.layout (run_of new) → Extends (run_of new) (run_of old) → HasBlamed old → HasBlamed new
blamed_later old new lay number same l e x = record {
  others = rw (lay, number, same) x.others;
  begun = rw same (all_begun_since new.layout (run_of new) (run_of old) l e old.blamed x.begun);
  few = rw same x.few;
  each = λ s. rw same (for_later new.layout (run_of new) (run_of old) old.blamed s l e (x.each s));
  over = λ cells. rw same (all_over_since new.layout (run_of new) (run_of old) l e old.blamed (x.over (was cells)));
  different = λ cells. rw same (x.different (was cells));
}
  where
    was : new.layout.mode ≡ Records → old.layout.mode ≡ Records
    was cells = sym (ap (λ (k : Layout). k.mode) lay) ∙ cells

-- those that it had, later on, and one more that was in the way of a call
begun_more : (old new : PassView) (start : History) (n s : ℕ) → new.blamed ≡ s ∷ old.blamed → Lawful new.layout (run_of new) → Extends (run_of new) (run_of old) → WasInTheWay (run_of new) start n s → HasBlamed old → All (λ t. IsNamedScx (run_of new) t) new.blamed
begun_more old new start n s more l e w x = rw more (All-cons (IsNamedScx (run_of new)) s old.blamed (named_scx_since new.layout (run_of new) (w.row ⊳ w.before) s l w.within w.running.named) (all_begun_since new.layout (run_of new) (run_of old) l e old.blamed x.begun))

others_more : (old new : PassView) (s : ℕ) → new.layout ≡ old.layout → new.number ≡ old.number → new.blamed ≡ s ∷ old.blamed → IsOthersScx new.layout new.number s → HasBlamed old → All (IsOthersScx new.layout new.number) new.blamed
others_more old new s lay number more other x = let before : All (IsOthersScx new.layout new.number) old.blamed = rw (lay, number) x.others in rw more (All-cons (IsOthersScx new.layout new.number) s old.blamed other before)

-- one more that a call on the map has named, which was in its way, and is finished now or has
-- reached the node in the call
pub blamed_on_map : (old new : PassView) (n s : ℕ) → IsMap new.layout.mode → new.layout ≡ old.layout → new.number ≡ old.number → new.blamed ≡ s ∷ old.blamed → Lawful new.layout (run_of new) → Extends (run_of new) (run_of old) → IsOthersScx new.layout new.number s → WasInTheWay (run_of new) (run_of old) n s → IsOverOrNew (run_of new) (run_of old) n s → HasBlamed old → HasBlamed new
blamed_on_map old new n s map lay number more l e other w y x = record {
  others = others_more old new s lay number more other x;
  begun = begun_more old new (run_of old) n s more l e w x;
  few = rw more (few_more new.layout (run_of new) (run_of old) old.blamed n s l e w y x.each x.few);
  each = rw more (each_more new.layout (run_of new) (run_of old) old.blamed n s l e w y x.each);
  over = λ cells. absurd (not_both cells);
  different = λ cells. absurd (not_both cells);
}
  where
    not_both : new.layout.mode ≡ Records → ⊥
    not_both cells = let both : IsMap Records = subst IsMap cells map in cc

-- one more that `Fail` names
pub blamed_more : (old new : PassView) (n s : ℕ) → new.layout ≡ old.layout → new.number ≡ old.number → new.blamed ≡ s ∷ old.blamed → Lawful new.layout (run_of new) → Extends (run_of new) (run_of old) → HasFailed new.layout new.number (run_of new) (run_of old) n s → HasBlamed old → HasBlamed new
blamed_more old new n s lay number more l e f x = record {
  others = others_more old new s lay number more f.others x;
  begun = begun_more old new (run_of old) n s more l e f.in_the_way x;
  few = rw more (few_more new.layout (run_of new) (run_of old) old.blamed n s l e f.in_the_way (inl f.over) x.each x.few);
  each = rw more (each_more new.layout (run_of new) (run_of old) old.blamed n s l e f.in_the_way (inl f.over) x.each);
  over = λ cells. rw more (All-cons (λ t. value (run_of new) (state t) ≢ 0) s old.blamed f.over (all_over_since new.layout (run_of new) (run_of old) l e old.blamed (x.over (was cells))));
  different = λ cells. rw more (AllPairs-cons (λ t u. t ≢ u) s old.blamed (All-weaker (λ t. value (run_of old) (state t) ≢ 0) (λ t. s ≢ t) (λ t d same. never_in_the_way new.layout (run_of new) (run_of old) n s l (rw same d) f.in_the_way) old.blamed (x.over (was cells))) (x.different (was cells)));
}
  where
    was : new.layout.mode ≡ Records → old.layout.mode ≡ Records
    was cells = sym (ap (λ (k : Layout). k.mode) lay) ∙ cells

-- What has left a share

-- what has begun by a moment is no more in a share, what is left of which is untaken
begun_left : (lay : Layout) (h m : History) (c : ℕ) (left : Remaining) (node scx s : ℕ) → Lawful lay m → Extends h m → IsShare lay h c left node scx → IsNamedScx m s → ¬ HasScx left s
begun_left lay h m c left node scx s l e share d p = share.untaken s (left_own_scx lay h c left node scx s share p) p.from (taken_since h m s e (named_scx_taken lay m s l (λ z. let a = p.from in let b = share.from_scx in omega arith) d))

-- the blame list of p, and the share of q, which is untaken in a run that extends what p knows
pub blames_left : (lay : Layout) (h : History) (p q : PassView) (c node scx : ℕ) → Lawful lay (run_of p) → Extends h (run_of p) → IsShare lay h c q.share node scx → HasBlamed p → All (λ s. ¬ HasScx q.share s) p.blamed
blames_left lay h p q c node scx l e share x = All-weaker (IsNamedScx (run_of p)) (λ s. ¬ HasScx q.share s) (λ s d. begun_left lay h (run_of p) c q.share node scx s l e share d) p.blamed x.begun
