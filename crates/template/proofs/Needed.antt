-- A call that begins a try only once all before it are lost has tried only as needed, row by row.
use Rattle.std.proofs.Common.{◌≡◌, ◌≢◌, ℕ, suc, ◌+◌, ◌-◌, ◌<◌, ◌≤◌, Bool, true, false, inl, inr, ⊎_elim, refl, sym, ◌∙◌, ap, subst, arith}
use Rattle.std.proofs.Math.Nat.{lt_of_not-le}
use Rattle.histories.specs.Common.{Layout, Row, WasInTheWay, IsOthersScx, History, Opened, ◌⊳◌, Extends, Call, begun_at}
use Rattle.arena.proofs.Lemmas.{ends_self, ends_trans}
use Rattle.prims.specs.Laws.Blamed.{way_since}
use Rattle.prims.specs.Laws.FoundThere.{there_later}
use Rattle.prims.specs.Laws.Wins.{ends_either}
use Rattle.template.specs.Common.{begins_try, tries_begun, IsNewestTry, IsContended, HasLostTriesTo, tries_since, HasTriedAtMost, MayTryNext, HasTriedAllBut}
use Rattle.template.specs.Tries.{WasLost, HasBegunTry, HasLostAll, HasTriedAsNeeded, IsInNewest}
use Rattle.template.proofs.Tries.{tries_more, tries_begin, newest_more, newest_now}

-- Moments

module _ (c : ℕ) where
  begun_by : (r : Row) (h : History) (b : Bool) → begins_try c r ≡ b → tries_begun c h ≤ tries_begun c (r ⊳ h)
  begun_by r h true e = let n = tries_begin c r h e in omega (arith, n)
  begun_by r h false e = let n = tries_more c r h e in omega (arith, n)

  -- by a later moment no fewer are begun
  pub tries_grow : (h m : History) → Extends h m → tries_begun c m ≤ tries_begun c h
  tries_grow (Opened o) m e = rw e (omega arith)
  tries_grow (r ⊳ h) m (inl e) = rw e (omega arith)
  tries_grow (r ⊳ h) m (inr e) = let more = tries_grow h m e in let one = begun_by r h (begins_try c r) refl in omega (arith, more, one)

  -- after a row that begins a try there is one more than at each moment before
  more_behind : (now begin : History) (first : Row) → begins_try c first ≡ true → Extends now (first ⊳ begin) → tries_begun c begin < tries_begun c now
  more_behind now begin first b e = let one = tries_begin c first begin b in let grow = tries_grow now (first ⊳ begin) e in omega (arith, one, grow)

  -- and after one more row at most one more
  pub one_row : (r : Row) (h : History) → tries_begun c (r ⊳ h) ≤ suc (tries_begun c h)
  one_row r h = at_most (begins_try c r) refl
    where
      at_most : (b : Bool) → begins_try c r ≡ b → tries_begun c (r ⊳ h) ≤ suc (tries_begun c h)
      at_most true e = let n = tries_begin c r h e in omega (arith, n)
      at_most false e = let n = tries_more c r h e in omega (arith, n)

  -- a row that begins a try is not one that begins none
  other_row : (r first : Row) (h begin : History) → begins_try c r ≡ false → begins_try c first ≡ true → first ⊳ begin ≡ r ⊳ h → ⊥
  other_row r first h begin none b e = cc

  -- a row that begins a try is the one that began the newest, or is before it
  not_behind : (now begin start then : History) (x : IsNewestTry c now begin) (y : HasBegunTry c now start then) → Extends (x.first ⊳ begin) (y.first ⊳ then)
  not_behind now begin start then x y = ⊎_elim (λ d. d) later (ends_either now (x.first ⊳ begin) (y.first ⊳ then) x.within y.within)
    where
      later : Extends (y.first ⊳ then) (x.first ⊳ begin) → Extends (x.first ⊳ begin) (y.first ⊳ then)
      later (inl d) = inl (sym d)
      later (inr d) = absurd (let grow = tries_grow then (x.first ⊳ begin) d in let more = more_behind now then y.first y.begins y.within in let all = x.none_since in omega (arith, grow, more, all))

  -- where a try was begun since a moment, more are begun than by that
  begun_before : (now start begin : History) → HasBegunTry c now start begin → tries_begun c start < tries_begun c now
  begun_before now start begin x = let more = more_behind now begin x.first x.begins x.within in let grow = tries_grow begin start x.since in omega (arith, more, grow)

-- What is lost

module _ (lay : Layout) (c : ℕ) where
  -- what is lost stays lost
  pub lost_later : (now m begin : History) → Extends now m → WasLost lay c m begin → WasLost lay c now begin
  lost_later now m begin e x = record { node = x.node; scx = x.scx; others = x.others; in_the_way = way_since now m begin x.node x.scx e x.in_the_way; found = there_later c now m begin x.node x.scx e x.found }

  -- nothing is begun between a moment and itself
  lost_none : (start : History) → HasLostAll lay c start start
  lost_none start begin x = absurd (let more = begun_before c start start begin x in omega (arith, more))

  needed_none : (start : History) → HasTriedAsNeeded lay c start start
  needed_none start begin x = absurd (let more = begun_before c start start begin x in omega (arith, more))

  -- who has begun one try at most has needed it
  needed_one : (now start : History) → tries_begun c now ≤ suc (tries_begun c start) → HasTriedAsNeeded lay c now start
  needed_one now start few then x begin y = absurd (let last = more_behind c now then x.first x.begins x.within in let before = begun_before c then start begin y in omega (arith, few, last, before))

  pub tried_one : (now start : History) → tries_begun c now ≤ suc (tries_begun c start) → HasTriedAtMost lay c now start 1
  tried_one now start few = record { few = omega (arith, few); as_needed = needed_one now start few }

-- Rows

module _ (c : Call) (r : Row) (h : History) (limit left : ℕ) where
  -- a row that begins no try leaves what may be tried
  pub next_more : begins_try c.pass r ≡ false → MayTryNext c h limit left → MayTryNext c (r ⊳ h) limit left
  next_more none x = record {
    all = rw (tries_more c.pass r h none) x.all;
    as_needed = λ begin y. x.as_needed begin (before begin y);
    lost = λ begin y. lost_later c.layout c.pass (r ⊳ h) h begin (inr (ends_self h)) (x.lost begin (before begin y));
  }
    where
      before : (begin : History) → HasBegunTry c.pass (r ⊳ h) c.start begin → HasBegunTry c.pass h c.start begin
      before begin y = record { first = y.first; begins = y.begins; within = inside y.within; since = y.since }
        where
          inside : Extends (r ⊳ h) (y.first ⊳ begin) → Extends h (y.first ⊳ begin)
          inside (inl e) = absurd (other_row c.pass r y.first h begin none y.begins e)
          inside (inr e) = e

  pub in_newest_more : (begin : History) → begins_try c.pass r ≡ false → IsInNewest c begin h limit left → IsInNewest c begin (r ⊳ h) limit left
  in_newest_more begin none x = record { next = x.next; newest = newest_more c.pass r h begin none x.newest }

  -- one that begins it is in it
  pub in_newest_now : begins_try c.pass r ≡ true → MayTryNext c h limit left → IsInNewest c h (r ⊳ h) limit left
  in_newest_now begins x = record { next = x; newest = newest_now c.pass r h begins }

-- Tries

-- the first of a call may be begun
pub next_first : (c : Call) (limit left : ℕ) → limit ≡ suc left → MayTryNext c c.start limit left
next_first c limit left e = record { all = omega (arith, e); as_needed = needed_none c.layout c.pass c.start; lost = lost_none c.layout c.pass c.start }

module _ (c : Call) (begin h : History) (limit left : ℕ) (x : IsInNewest c begin h limit left) where
  -- in a try one more is begun than before
  one_more : tries_begun c.pass h ≡ suc (tries_begun c.pass begin)
  one_more = x.newest.none_since ∙ tries_begin c.pass x.newest.first begin x.newest.begins

  -- all but those that are left are begun
  all_but : tries_begun c.pass h + left ≡ tries_begun c.pass c.start + limit
  all_but = let one = one_more in let all = x.next.all in omega (arith, one, all)

  inside : Extends h begin
  inside = ends_trans h (x.newest.first ⊳ begin) begin x.newest.within (inr (ends_self begin))

  same_moment : (r s : Row) (a b : History) → r ⊳ a ≡ s ⊳ b → a ≡ b
  same_moment r s a b e = cc

  -- another try was begun before this one
  earlier : (then : History) (y : HasBegunTry c.pass h c.start then) → Extends begin (y.first ⊳ then) → HasBegunTry c.pass begin c.start then
  earlier then y d = record { first = y.first; begins = y.begins; within = d; since = y.since }

  needed : HasTriedAsNeeded c.layout c.pass h c.start
  needed then y = go (not_behind c.pass h begin c.start then x.newest y)
    where
      go : Extends (x.newest.first ⊳ begin) (y.first ⊳ then) → HasLostAll c.layout c.pass then c.start
      go (inl d) = subst (λ k. HasLostAll c.layout c.pass k c.start) (sym (same_moment y.first x.newest.first then begin d)) x.next.lost
      go (inr d) = x.next.as_needed then (earlier then y d)

  -- a call that ends in its newest try has tried as needed
  pub tried_in : HasTriedAllBut c h limit left
  tried_in = record { all = all_but; as_needed = needed }

  module _ (n s : ℕ) (way : IsContended (begun_at c begin) h n s) where
    -- where another was in its way, it is lost, and so are all before it
    all_lost : HasLostAll c.layout c.pass h c.start
    all_lost then y = go (not_behind c.pass h begin c.start then x.newest y)
      where
        go : Extends (x.newest.first ⊳ begin) (y.first ⊳ then) → WasLost c.layout c.pass h then
        go (inl d) = subst (λ k. WasLost c.layout c.pass h k) (sym (same_moment y.first x.newest.first then begin d)) record { node = n; scx = s; others = way.others; in_the_way = way.in_the_way; found = way.found }
        go (inr d) = lost_later c.layout c.pass h begin then inside (x.next.lost then (earlier then y d))

    -- so the next may begin, if one is left
    pub next_again : (fewer : ℕ) → left ≢ 0 → fewer ≡ left - 1 → MayTryNext c h limit fewer
    next_again fewer some is = record { all = let all = all_but in omega (arith, all, some, is); as_needed = needed; lost = all_lost }

    -- and if none is, all are lost to it
    pub lost_to : Extends begin c.start → left ≡ 0 → HasLostTriesTo c.pass h c.start limit n s
    lost_to since none = record {
      lost = record { begin = begin; since = since; newest = x.newest; all = let all = all_but in omega (arith, all, none); in_the_way = way.in_the_way };
      found = way.found;
    }

-- it has begun no more than it may
pub tried_few : (c : Call) (h : History) (limit left : ℕ) → HasTriedAllBut c h limit left → HasTriedAtMost c.layout c.pass h c.start limit
tried_few c h limit left x = record { few = let all = x.all in omega (arith, all); as_needed = x.as_needed }

-- With nobody about

module _ (c : ℕ) where
  -- the newest of the tries since a moment
  record NewestSince (now start : History) : Type 0 where
    begin : History
    is : HasBegunTry c now start begin
    last : suc (tries_begun c begin) ≡ tries_begun c now

  -- where one is begun there is such a try
  newest_since : (now start : History) → Extends now start → tries_begun c start < tries_begun c now → NewestSince now start
  newest_since (Opened o) start e some = absurd (let same : tries_begun c start ≡ tries_begun c (Opened o) = ap (tries_begun c) e in omega (arith, same, some))
  newest_since (r ⊳ h) start (inl e) some = absurd (let same : tries_begun c start ≡ tries_begun c (r ⊳ h) = ap (tries_begun c) e in omega (arith, same, some))
  newest_since (r ⊳ h) start (inr e) some = go (begins_try c r) refl (newest_since h start e)
    where
      go : (b : Bool) → begins_try c r ≡ b → (tries_begun c start < tries_begun c h → NewestSince h start) → NewestSince (r ⊳ h) start
      go true begins before = record { begin = h; is = record { first = r; begins = begins; within = inl refl; since = e }; last = sym (tries_begin c r h begins) }
      go false none before =
          let same = tries_more c r h none in
          let x = before (omega (arith, same, some)) in
          record { begin = x.begin; is = record { first = x.is.first; begins = x.is.begins; within = inr x.is.within; since = x.is.since }; last = x.last ∙ sym same }

-- if no SCX-record of another pass was in the way, one try is begun at most
pub alone_once : (lay : Layout) (c : ℕ) (now start : History) → Extends now start → ((n s : ℕ) → IsOthersScx lay c s → ¬ WasInTheWay now start n s) → HasTriedAsNeeded lay c now start → tries_since c now start ≤ 1
alone_once lay c now start since alone needed = let few : tries_begun c now < suc (suc (tries_begun c start)) = lt_of_not-le twice in omega (arith, few)
  where
    twice : ¬ suc (suc (tries_begun c start)) ≤ tries_begun c now
    twice two =
        let last = newest_since c now start since (omega (arith, two)) in
        let before = newest_since c last.begin start last.is.since (let one = last.last in omega (arith, one, two)) in
        let lost = needed last.begin last.is before.begin before.is in
        let way = lost.in_the_way in
        alone lost.node lost.scx lost.others record {
          row = way.row;
          before = way.before;
          within = ends_trans now (last.is.first ⊳ last.begin) (way.row ⊳ way.before) last.is.within (inr way.within);
          since = ends_trans way.before before.begin start way.since before.is.since;
          running = way.running;
          covers = way.covers;
        }
