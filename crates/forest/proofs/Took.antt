-- Which SCX-record has made an edit: one of the share that was left as the call began, which its
-- pass has taken since, by a row of its own.
use Rattle.std.proofs.Common.{◌≡◌, ◌≢◌, ◌<◌, ◌≤◌, ℕ, ◌⊎◌, inl, inr, ⊎_elim, Option, sym, ◌∙◌, subst, arith}
use native.Mathlib.Decide.{ℕ_discrete}
use Rattle.histories.specs.Common.{Layout, IsInProgress, IsOwnScx, IsTakenScx, History, Opened, ◌⊳◌, Extends, Lawful, Call, Remaining}
use Rattle.arena.proofs.Lemmas.{ends_self, ends_trans}
use Rattle.histories.proofs.Lemmas.{lawful_row, lawful_since, lawful_tail, named_scx_taken, state_since, untaken_by_others}
use Rattle.prims.specs.Laws.Begun.{taken_since}
use Rattle.prims.specs.Shares.{share_end}
use Rattle.prims.proofs.Lemmas.{one_end, wins_in_progress}
use Rattle.ordered_map.specs.OrderedMap.{MapEdit}
use Rattle.edits.specs.Known.{HasMade, RestsWith}
use Rattle.dict.specs.Says.{HasMadeRow}

-- until the pass makes a row, an SCX-record of its share that was fresh stays so
row_or_fresh : (lay : Layout) (c s : ℕ) (start h : History) → IsOwnScx lay c s → ¬ IsTakenScx start s → Lawful lay h → Extends h start → HasMadeRow c start h ⊎ (¬ IsTakenScx h s)
row_or_fresh lay c s start (Opened o) own fresh l e = inr (subst (λ k. ¬ IsTakenScx k s) e fresh)
row_or_fresh lay c s start (r ⊳ h) own fresh l (inl e) = inr (subst (λ k. ¬ IsTakenScx k s) e fresh)
row_or_fresh lay c s start (r ⊳ h) own fresh l (inr e) = go (ℕ_discrete r.pass.0 c) (row_or_fresh lay c s start h own fresh (lawful_tail lay h r l) e)
  where
    go : Dec (r.pass.0 ≡ c) → HasMadeRow c start h ⊎ (¬ IsTakenScx h s) → HasMadeRow c start (r ⊳ h) ⊎ (¬ IsTakenScx (r ⊳ h) s)
    go d (inl x) = inl record { row = x.row; before = x.before; within = inr x.within; since = x.since; of_pass = x.of_pass }
    go (yes p) (inr free) = inl record { row = r; before = h; within = ends_self (r ⊳ h); since = e; of_pass = p }
    go (no d) (inr free) = inr (untaken_by_others lay h r c s l d own free)

module _ {edit : MapEdit} {number : ℕ} {old : Option ℕ} (c : Call) (h : History) (l : Lawful c.layout h) (m : HasMade edit c h number old) where
  here : Lawful c.layout (m.row ⊳ m.before)
  here = lawful_since c.layout h (m.row ⊳ m.before) l m.within

  then : Lawful c.layout m.before
  then = lawful_tail c.layout m.before m.row here

  real : m.scx ≢ 0
  real e = let p = m.own.from in omega (arith, e, p)

  -- just before its update it was in progress, and so it was taken by then
  running : IsInProgress m.before m.scx
  running = wins_in_progress c.layout m.before m.row m.scx here
      record { kind = m.wins.kind; update = m.wins.update; before = (lawful_row c.layout m.before m.row here).before; found = m.wins.found; stored = m.wins.update.exchange.won m.wins.found }

  taken : IsTakenScx m.before m.scx
  taken = named_scx_taken c.layout m.before m.scx then real running.named

  module _ (first : Remaining) (x : RestsWith c c.start first) where
    -- it was not taken as the call began, since all that was taken was finished
    fresh : ¬ IsTakenScx c.start m.scx
    fresh t = let over = x.over m.scx m.own real t in over (sym (state_since c.layout m.before c.start m.scx then m.since over) ∙ running.unfinished)

    -- by then the pass has made a row
    pub made_row : HasMadeRow c.pass c.start m.before
    made_row = ⊎_elim (λ y. y) (λ free. absurd (free taken)) (row_or_fresh c.layout c.pass m.scx c.start m.before m.own fresh then m.since)

    -- it was left in the share
    pub took_from : first.next_scx ≤ m.scx
    took_from = let not : ¬ (m.scx < first.next_scx) = λ i. fresh (x.share.taken_scx m.scx m.own i) in omega (arith, not)

    -- and is no more
    pub took_below : (left : Remaining) → RestsWith c h left → m.scx < left.next_scx
    took_below left y =
        let inside : Extends h m.before = ends_trans h (m.row ⊳ m.before) m.before m.within (inr (ends_self m.before)) in
        let not : ¬ (left.next_scx ≤ m.scx) = λ i. y.share.untaken m.scx m.own i (taken_since h m.before m.scx inside taken) in
        omega (arith, not)

    -- so there are fewer
    pub took_some : (left : Remaining) → share_end left ≡ share_end first → RestsWith c h left → left.scx < first.scx
    took_some left end y = let a = took_from in let b = took_below left y in let e = (one_end left first end).1 in omega (arith, a, b, e)
