-- An SCX-record of a pass that no info word names yet: rows of others keep what its first freezing
-- exchange needs.
use Rattle.std.proofs.Common.{◌≡◌, ◌≢◌, ℕ, ◌<◌, inl, ⊎_elim, sym, ◌∙◌, arith, subst}
use native.Mathlib.Decide.{ℕ_discrete}
use Rattle.histories.specs.Common.{Layout, ScxWord, State, AllFrozen, New, Row, scx, info, state, History, ◌⊳◌, value, count, member, seen, new}
use Rattle.histories.specs.Common.{IsOwnScx, IsNamed, IsNamedScx, IsExchange, MayBegin, IsFreeze, IsAbort, Lawful, Begins, descriptor, field_index_in}
use Rattle.histories.proofs.Facts.{IsFlagged, descriptor_same}
use Rattle.histories.proofs.Always.{facts}
use Rattle.histories.proofs.Moments.{Still, still, finished_stays, named_more}
use Rattle.histories.proofs.Owners.{stays_free, own_words_stay}
use Rattle.histories.proofs.Unnamed.{stays_unnamed, field_back, word_back}

pub begins_kept : (lay : Layout) (h : History) (r : Row) (c s : ℕ) → Lawful lay (r ⊳ h) → c < lay.passes → r.pass.0 ≢ c → Begins lay (descriptor h s) h c s → Begins lay (descriptor (r ⊳ h) s) (r ⊳ h) c s
begins_kept lay h r c s l is_pass other b = subst (λ d. Begins lay d (r ⊳ h) c s) (sym same) record {
  own = b.own;
  free = stays_free lay h r c s l other b.own b.free;
  unfinished = words State ∙ b.unfinished;
  planned = b.planned;
  inside = b.inside;
  distinct = b.distinct;
  named = λ j i. named_more r (b.named j i);
  rest = λ j i. finished_stays lay h r _ l (b.rest j i);
  unmarked = λ j i e. (rest j i e).mark ∙ b.unmarked j i (rest j i e).info;
  shows = λ e. (rest (field_index_in (descriptor h s)) b.planned.field e).fields _ ∙ b.shows (rest (field_index_in (descriptor h s)) b.planned.field e).info;
  new_own = b.new_own;
  new_unnamed = stays_unnamed lay h r c l is_pass other (new h s) b.new_own b.new_unnamed;
  new_in_no_field = λ n side p. ⊎_elim b.new_unnamed (b.new_in_no_field n side) (field_back lay h r c l is_pass other n side (new h s) b.new_own p);
  new_in_no_other = λ u d p. ⊎_elim b.new_unnamed (b.new_in_no_other u d) (word_back lay h r c l is_pass other u New (new h s) tt b.new_own p);
}
  where
    words : (a : ScxWord) → value (r ⊳ h) (scx s a) ≡ value h (scx s a)
    words = own_words_stay lay h r c s l other b.own b.free

    same : descriptor (r ⊳ h) s ≡ descriptor h s
    same = descriptor_same h (r ⊳ h) s (λ a i. words a)

    rest : (j : ℕ) → j < count h s → value (r ⊳ h) (info (member h s j)) ≡ seen h s j → Still h (r ⊳ h) (member h s j) (seen h s j)
    rest j i e = still lay h r _ _ l (b.named j i) (b.rest j i) e

may_begin : (lay : Layout) (h : History) (c s : ℕ) → Begins lay (descriptor h s) h c s → MayBegin lay h c s
may_begin lay h c s b = record {
  own = b.own;
  planned = b.planned;
  inside = b.inside;
  distinct = b.distinct;
  at_rest = b.rest;
  unmarked = b.unmarked;
  shows = b.shows;
  new_own = b.new_own;
  new_in_no_field = b.new_in_no_field;
  new_in_no_other = b.new_in_no_other;
}

-- the first freezing exchange of the owner is lawful, whether it wins or loses
pub owner_freezes : (lay : Layout) (h : History) (r : Row) (s : ℕ) → Begins lay (descriptor h s) h r.pass.0 s → r.word ≡ info (member h s 0) → IsExchange r (seen h s 0) s → IsFreeze lay h r s 0
owner_freezes lay h r s b w x = record {
  within = b.planned.some;
  word = w;
  earlier = λ i p. absurd (omega arith);
  exchange = x;
  may_win = λ y. (b.unfinished, λ z. may_begin lay h r.pass.0 s b);
}

-- what an info word no longer names never returns there once it is finished
pub passed_stays : (lay : Layout) (h : History) (r : Row) (n i : ℕ) → Lawful lay (r ⊳ h) → IsNamed lay h n → value h (state i) ≢ 0 → value h (info n) ≢ i → value (r ⊳ h) (info n) ≢ i
passed_stays lay h r n i l named d p e = p (still lay h r n i l named d e).info

-- a flag that is set is that of an SCX-record that an info word names
pub free_unset : (lay : Layout) (h : History) (s : ℕ) → Lawful lay h → ¬ IsNamedScx h s → value h (scx s AllFrozen) ≡ 0
free_unset lay h s l free = go (ℕ_discrete (value h (scx s AllFrozen)) 0)
  where
    go : Dec (value h (scx s AllFrozen) ≡ 0) → value h (scx s AllFrozen) ≡ 0
    go (yes e) = e
    go (no d) = let x : IsFlagged (descriptor h s) h s = (facts lay h l).flagged s d in absurd (free (member h s 0, x.frozen 0 x.some))

-- where the owner's first freezing exchange has lost, its abort is lawful
pub owner_aborts : (lay : Layout) (h : History) (r : Row) (s : ℕ) → Lawful lay h → IsOwnScx lay r.pass.0 s → ¬ IsNamedScx h s → 0 < count h s → value h (info (member h s 0)) ≢ seen h s 0 → r.word ≡ state s → r.after ≡ 2 → IsAbort lay h r s 0
owner_aborts lay h r s l own free some passed w a = record {
  word = w;
  stored = a;
  unset = free_unset lay h s l free;
  by = inl own;
  within = some;
  earlier = λ i p. absurd (omega arith);
  never = λ p. free (member h s 0, p);
  passed = passed;
}
