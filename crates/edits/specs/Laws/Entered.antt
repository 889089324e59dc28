-- What the pass of a call has entered since a moment: nothing while it is quiet, and nothing but
-- its SCX-record in hand.
use Rattle.std.proofs.Common.{◌≡◌, ◌≢◌, ℕ, suc, ◌⊎◌, inl, inr, sym, ap, subst, arith}
use Rattle.histories.specs.Common.{Layout, Fill, Row, IsInProgress, History, Opened, ◌⊳◌, value, Extends, Lawful, HasWon, IsWin, state}
use Rattle.arena.proofs.Lemmas.{ends_self, ends_trans, same_moment}
use Rattle.histories.proofs.Lemmas.{aborted_never_won, lawful_since, won_since}
use Rattle.prims.specs.Laws.Idle.{IsQuietSince}
use Rattle.prims.specs.Laws.Wins.{ends_either}
use Rattle.prims.specs.Moments.{AreFinished}
use Rattle.prims.proofs.Lemmas.{own_in_hand, wins_in_progress}
use Rattle.ordered_map.proofs.Lemmas.{wins_of}
use Rattle.edits.specs.Tries.{HasEnteredOnly, HasEnteredNone, HasFilledNone}

-- how many rows a history has
rows : History → ℕ
rows (Opened o) = 0
rows (r ⊳ h) = suc (rows h)

-- no row is between a moment and itself
pub no_row : (h : History) (row : Row) (before : History) → Extends h (row ⊳ before) → Extends before h → ⊥
unfolding rows
no_row h row before within since =
    let e : before ≡ row ⊳ before = sym (same_moment before (row ⊳ before) (ends_trans before h (row ⊳ before) since within) (inr (ends_self before))) in
    let longer : rows before ≡ suc (rows before) = ap rows e in
    omega (arith, longer)

-- so none is a fill
pub none_filled_yet : (c : ℕ) (h : History) → HasFilledNone c h h
none_filled_yet c h row before within since own = absurd (no_row h row before within since)

-- nor is one more row that is another pass's, or no fill
pub none_filled_more : (c : ℕ) (h : History) (r : Row) (begin : History) → (r.pass.0 ≡ c → r.kind ≢ Fill) → HasFilledNone c h begin → HasFilledNone c (r ⊳ h) begin
none_filled_more c h r begin no_fill x row before (inr within) since own = x row before within since own
none_filled_more c h r begin no_fill x row before (inl e) since own = let same : row ≡ r = cc in rw same (no_fill (rw same at own))

module _ (lay : Layout) (c : ℕ) where
  -- an SCX-record that wins is in progress
  running : (before : History) (row : Row) (s : ℕ) → Lawful lay (row ⊳ before) → IsWin before row s → IsInProgress before s
  running before row s l w = wins_in_progress lay before row s l (wins_of lay before row s l w)

  -- after a moment itself nothing is entered
  pub none_yet : (h : History) → HasEnteredNone lay c h h
  none_yet h row before t within since w own = no_row h row before within since

  -- a quiet pass has entered nothing
  pub none_quiet : (h start : History) → Lawful lay h → IsQuietSince lay c start h → HasEnteredNone lay c h start
  none_quiet h start l quiet row before t within since w own =
      quiet before (ends_trans h (row ⊳ before) before within (inr (ends_self before))) since t own
      (running before row t (lawful_since lay h (row ⊳ before) l within) w)

  -- one more row enters nothing but the SCX-record in hand
  pub only_more : (s : ℕ) (h : History) (r : Row) (start : History) → Lawful lay (r ⊳ h) → AreFinished lay c s h → HasEnteredOnly lay c s h start → HasEnteredOnly lay c s (r ⊳ h) start
  only_more s h r start l over x row before t (inr within) since w own = x row before t within since w own
  only_more s h r start l over x row before t (inl e) since w own =
      let same : before ≡ h = ap (older before) e in
      let now : Lawful lay (row ⊳ before) = subst (Lawful lay) (sym e) l in
      own_in_hand lay h c t s (lawful_since lay (r ⊳ h) h l (inr (ends_self h))) over own (subst (λ k. IsInProgress k t) same (running before row t now w))
    where
      older : History → History → History
      older k (Opened o) = k
      older k (q ⊳ j) = j

  -- what is entered after two moments, one later than the other
  pub only_joined : (s : ℕ) (h begin start : History) → Extends h begin → HasEnteredNone lay c begin start → HasEnteredOnly lay c s h begin → HasEnteredOnly lay c s h start
  only_joined s h begin start since none only row before t within behind w own = go (ends_either h before begin (ends_trans h (row ⊳ before) before within (inr (ends_self before))) since)
    where
      earlier : Extends begin (row ⊳ before) ⊎ Extends (row ⊳ before) begin → Extends begin before → t ≡ s
      earlier (inl e) p = absurd (none row before t e behind w own)
      earlier (inr (inl e)) p = absurd (none row before t (subst (λ k. Extends k (row ⊳ before)) (sym e) (ends_self (row ⊳ before))) behind w own)
      earlier (inr (inr e)) p = only row before t within e w own

      go : Extends before begin ⊎ Extends begin before → t ≡ s
      go (inl e) = only row before t within e w own
      go (inr e) = earlier (ends_either h begin (row ⊳ before) since within) e

  pub none_joined : (h begin start : History) → Extends h begin → HasEnteredNone lay c begin start → HasEnteredNone lay c h begin → HasEnteredNone lay c h start
  none_joined h begin start since none later row before t within behind w own =
      let z : t ≡ 0 = only_joined 0 h begin start since none (λ r k u a b x o. absurd (later r k u a b x o)) row before t within behind w own in
      let i = own.from in
      omega (arith, i, z)

  -- nothing is entered if the only SCX-record that could is aborted
  pub none_lost : (s : ℕ) (h start : History) → Lawful lay h → value h (state s) ≡ 2 → HasEnteredOnly lay c s h start → HasEnteredNone lay c h start
  unfolding HasWon
  none_lost s h start l aborted only row before t within since w own =
      let e : t ≡ s = only row before t within since w own in
      aborted_never_won lay h s l aborted (won_since lay h (row ⊳ before) s l within (subst (λ u. IsWin before row u ⊎ HasWon before u) e (inl w)))
