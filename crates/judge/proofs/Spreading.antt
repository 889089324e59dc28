-- A graph, while links are followed.
use Rattle.std.proofs.Common.{◌≡◌, ◌≢◌, ℕ, zero, suc, ◌<◌, ◌≤◌, ◌⊎◌, inl, inr, ⊎_elim, Bool, true, false, Option, Some, None, List, [], ◌∷◌, ◌++◌, length, get_or, refl, sym, ◌∙◌, ap, subst, arith, length-append, get_or-set_other, get_or-set_same, cond, replicate}
use Rattle.std.proofs.Math.ListN.{length-set}
use Rattle.std.proofs.lemmas.List.{get_or_append_left, get_or_at, set-get_or, length-replicate}
use Rattle.std.specs.Prelude.{IfSome, slice_set}
use Rattle.judge.specs.declared.graph.Link.{Link}
use Rattle.judge.specs.Graph.{count_unset, IsLink, IsReached, first, along, has_flag, newest_from, IsLinkAt, HasLink, here, older, IsUnfollowed, IsSpreading}
use Rattle.judge.proofs.Counts.{set_here, set_there}
use Rattle.judge.proofs.Chains.{stands_last, stands_split, no_link, link_split, link_more, link_back, below_more}

-- two numbers are the same, or not
pub same_or : (m n : ℕ) → (m ≡ n) ⊎ (m ≢ n)
same_or zero zero = inl refl
same_or zero (suc n) = inr (λ e. omega (e, arith))
same_or (suc m) zero = inr (λ e. omega (e, arith))
same_or (suc m) (suc n) = ⊎_elim (λ e. inl (ap suc e)) (λ d. inr (λ e. d (omega (e, arith)))) (same_or m n)

-- what is reached by fewer links is reached by more
pub reached_more : (links more : List (ℕ × ℕ)) → ((u v : ℕ) → IsLink links u v → IsLink more u v) → (v : ℕ) → IsReached links v → IsReached more v
reached_more links more wider v first = first
reached_more links more wider v (along u p l) = along u (reached_more links more wider u p) (wider u v l)

-- a flag that is set stays set
flag_more : (reached : List Bool) (v w : ℕ) → v < length reached → has_flag reached w ≡ true → has_flag (slice_set reached v true) w ≡ true
flag_more reached v w l e = ⊎_elim (λ s. rw s (set_here reached v l)) (λ d. set_there reached v w d ∙ e) (same_or w v)

-- a fresh one more
fresh_more : (fresh : List ℕ) (v u : ℕ) → IsUnfollowed fresh u → IsUnfollowed (fresh ++ v ∷ []) u
fresh_more fresh v u p = record { index = p.index; within = omega (p.within, length-append fresh (v ∷ []), arith); is = get_or_append_left fresh (v ∷ []) 0 p.index p.within ∙ p.is }

pub fresh_last : (fresh : List ℕ) (v : ℕ) → IsUnfollowed (fresh ++ v ∷ []) v
fresh_last fresh v = record { index = length fresh; within = omega (length-append fresh (v ∷ []), arith); is = get_or_at fresh v [] 0 (length fresh) refl }

fresh_split : (fresh : List ℕ) (v u : ℕ) → IsUnfollowed (fresh ++ v ∷ []) u → IsUnfollowed fresh u ⊎ (u ≡ v)
fresh_split fresh v u p = go (same_or p.index (length fresh))
  where
    go : (p.index ≡ length fresh) ⊎ (p.index ≢ length fresh) → IsUnfollowed fresh u ⊎ (u ≡ v)
    go (inl e) = inr (sym p.is ∙ ap (λ i. get_or (fresh ++ v ∷ []) i 0) e ∙ get_or_at fresh v [] 0 (length fresh) refl)
    go (inr d) =
        let less : p.index < length fresh = omega (p.within, length-append fresh (v ∷ []), d, arith) in
        inl (record { index = p.index; within = less; is = sym (get_or_append_left fresh (v ∷ []) 0 p.index less) ∙ p.is })

no_fresh : (u : ℕ) → ¬ IsUnfollowed [] u
no_fresh u p = absurd (omega (p.within, arith))

-- A place is reached

-- more links, which lead to nothing else new than this place
pub record Adds (links more : List (ℕ × ℕ)) (size v : ℕ) : Type 0 where
  pub wider : (u w : ℕ) → IsLink links u w → IsLink more u w
  pub other : (u w : ℕ) → IsLink more u w → IsLink links u w ⊎ ((w ≡ v) × (u < size))

pub adds_none : (links : List (ℕ × ℕ)) (size v : ℕ) → Adds links links size v
adds_none links size v = record { wider = λ u w l. l; other = λ u w l. inl l }

pub adds_one : (links : List (ℕ × ℕ)) (size u v : ℕ) → u < size → Adds links ((u, v) ∷ links) size v
adds_one links size u v l = record { wider = λ a b p. inr p; other = λ a b p. ⊎_elim (λ e. inr (sym e.1, rw (← e.0) l)) (λ q. inl q) p }

module _ (reached : List Bool) (newest : List (Option ℕ)) (list : List Link) (fresh : List ℕ) (links more : List (ℕ × ℕ)) (from v : ℕ) (at : Option ℕ) where
  pub spread_reach : IsSpreading reached newest list fresh links from at → Adds links more (length reached) v → has_flag reached v ≡ false → v < length reached → IsReached more v → IsSpreading (slice_set reached v true) newest list (fresh ++ v ∷ []) more from at
  spread_reach s a unset l r = record {
    flagged = flag_more reached v 0 l s.flagged;
    sound = λ w e. ⊎_elim (λ same. rw same r) (λ d. reached_more links more a.wider w (s.sound w (sym (set_there reached v w d) ∙ e))) (same_or w v);
    inside = λ u w p. let size = length-set reached v true in ⊎_elim
        (λ q. let i = s.inside u w q in (omega (i.0, size, arith), omega (i.1, size, arith)))
        (λ q. (omega (q.1, size, arith), omega (q.0, l, size, arith)))
        (a.other u w p);
    kept = λ u w p. ⊎_elim
        (λ q. ⊎_elim (λ e. inl (flag_more reached v w l e)) (λ k. inr k) (s.kept u w q))
        (λ q. inl (rw (q.0) (set_here reached v l)))
        (a.other u w p);
    chained = λ u w p. a.wider u w (s.chained u w p);
    closed = λ u w e p. ⊎_elim
        (λ same. inr (inl (rw same (fresh_last fresh v))))
        (λ d. ⊎_elim (λ k. inl (flag_more reached v w l k)) (λ k. inr (⊎_elim (λ f. inl (fresh_more fresh v u f)) (λ f. inr f) k)) (s.closed u w (sym (set_there reached v u d) ∙ e) p))
        (same_or u v);
    rising = s.rising;
    ends = s.ends;
    starts = s.starts;
    left = λ w p. a.wider from w (s.left w p);
    origin = reached_more links more a.wider from s.origin;
    waiting = λ u p. let size = length-set reached v true in ⊎_elim
        (λ q. let w = s.waiting u q in (omega (w.0, size, arith), reached_more links more a.wider u w.1))
        (λ e. (omega (e, l, size, arith), rw e r))
        (fresh_split fresh v u p);
  }

  -- a place that is reached already
  pub spread_known : IsSpreading reached newest list fresh links from at → Adds links more (length reached) v → has_flag reached v ≡ true → v < length reached → IsSpreading reached newest list fresh more from at
  spread_known s a set l = record {
    flagged = s.flagged;
    sound = λ w e. reached_more links more a.wider w (s.sound w e);
    inside = λ u w p. ⊎_elim (λ q. s.inside u w q) (λ q. (q.1, omega (q.0, l, arith))) (a.other u w p);
    kept = λ u w p. ⊎_elim (λ q. s.kept u w q) (λ q. inl (rw (q.0) set)) (a.other u w p);
    chained = λ u w p. a.wider u w (s.chained u w p);
    closed = s.closed;
    rising = s.rising;
    ends = s.ends;
    starts = s.starts;
    left = λ w p. a.wider from w (s.left w p);
    origin = reached_more links more a.wider from s.origin;
    waiting = λ u p. let w = s.waiting u p in (w.0, reached_more links more a.wider u w.1);
  }

module _ (reached : List Bool) (newest : List (Option ℕ)) (list : List Link) (fresh : List ℕ) (links : List (ℕ × ℕ)) where
  -- a link is followed
  pub spread_next : (from i : ℕ) (l : Link) → IsSpreading reached newest list fresh links from (Some i) → IsLinkAt list i l → has_flag reached l.to ≡ true → IsSpreading reached newest list fresh links from l.before
  spread_next from i l s a set = record {
    flagged = s.flagged;
    sound = s.sound;
    inside = s.inside;
    kept = s.kept;
    chained = s.chained;
    rising = s.rising;
    ends = s.ends;
    origin = s.origin;
    waiting = s.waiting;
    closed = λ u w e p. ⊎_elim (λ k. inl k) (λ k. ⊎_elim (λ f. inr (inl f)) (λ f. ⊎_elim (λ same. inl (rw (← same) set)) (λ q. inr (inr (f.0, q))) (link_split list w i l a f.1)) k) (s.closed u w e p);
    starts = below_more l.before i (length list) (omega (a.within, arith)) (s.rising i l a);
    left = λ w p. s.left w (older i l a p);
  }

  -- the links of a fresh place come next
  pub spread_pop : (u : ℕ) → IsSpreading reached newest list (fresh ++ u ∷ []) links 0 None → IsSpreading reached newest list fresh links u (newest_from newest u)
  spread_pop u s = record {
    flagged = s.flagged;
    sound = s.sound;
    inside = s.inside;
    kept = s.kept;
    chained = s.chained;
    rising = s.rising;
    ends = s.ends;
    closed = λ w v e p. ⊎_elim (λ k. inl k) (λ k. inr (⊎_elim (λ f. ⊎_elim (λ g. inl g) (λ same. inr (same, rw (← same) p)) (fresh_split fresh u w f)) (λ f. absurd (no_link list v f.1)) k)) (s.closed w v e p);
    starts = s.ends u;
    left = λ v p. s.chained u v p;
    origin = (s.waiting u (fresh_last fresh u)).1;
    waiting = λ w p. s.waiting w (fresh_more fresh u w p);
  }

  -- all links of a place are followed
  pub spread_done : (from : ℕ) → IsSpreading reached newest list fresh links from None → IsSpreading reached newest list fresh links 0 None
  spread_done from s = record {
    flagged = s.flagged;
    sound = s.sound;
    inside = s.inside;
    kept = s.kept;
    chained = s.chained;
    rising = s.rising;
    ends = s.ends;
    starts = tt;
    waiting = s.waiting;
    closed = λ u v e p. ⊎_elim (λ k. inl k) (λ k. inr (⊎_elim (λ f. inl f) (λ f. absurd (no_link list v f.1)) k)) (s.closed u v e p);
    left = λ v p. absurd (no_link list v p);
    origin = first;
  }

  -- at rest, what is reached has its flag
  pub all_flagged : IsSpreading reached newest list [] links 0 None → (v : ℕ) → IsReached links v → has_flag reached v ≡ true
  all_flagged s v first = s.flagged
  all_flagged s v (along u p l) = ends_flagged s u v l (all_flagged s u p)
    where
      ends_flagged : IsSpreading reached newest list [] links 0 None → (x y : ℕ) → IsLink links x y → has_flag reached x ≡ true → has_flag reached y ≡ true
      ends_flagged t x y k set = ⊎_elim (λ e. e) (λ c. ⊎_elim (λ e. e) (λ q. ⊎_elim (λ f. absurd (no_fresh x f)) (λ f. absurd (no_link list y f.1)) q) (t.closed x y set c)) (t.kept x y k)

-- A link is kept

newest_here : (newest : List (Option ℕ)) (u : ℕ) (o : Option ℕ) → u < length newest → newest_from (slice_set newest u o) u ≡ o
newest_here newest u o l = get_or-set_same newest u o None l

newest_there : (newest : List (Option ℕ)) (u w : ℕ) (o : Option ℕ) → w ≢ u → newest_from (slice_set newest u o) w ≡ newest_from newest w
newest_there newest u w o d = get_or-set_other newest u w o None d

module _ (reached : List Bool) (newest : List (Option ℕ)) (list : List Link) (links : List (ℕ × ℕ)) (u v : ℕ) (s : IsSpreading reached newest list [] links 0 None) (l : Link) (to : l.to ≡ v) (before : l.before ≡ newest_from newest u) (inside : u < length newest) where
  abbrev kept_list : List Link
  kept_list = list ++ l ∷ []

  abbrev kept_newest : List (Option ℕ)
  kept_newest = slice_set newest u (Some (length list))

  -- the chain of another place is as it was
  chain_back : (w x : ℕ) → HasLink kept_list x (newest_from newest w) → HasLink list x (newest_from newest w)
  chain_back w x p = link_back list (l ∷ []) x (newest_from newest w) s.rising (s.ends w) p

  chain_there : (w x : ℕ) → w ≢ u → HasLink kept_list x (newest_from kept_newest w) → HasLink list x (newest_from newest w)
  chain_there w x d p = chain_back w x (subst (λ (o : Option ℕ). HasLink kept_list x o) (newest_there newest u w (Some (length list)) d) p)

  -- that of the place has the new link in front
  chain_here : (x : ℕ) → HasLink kept_list x (newest_from kept_newest u) → (v ≡ x) ⊎ HasLink list x (newest_from newest u)
  chain_here x p =
      let q = subst (λ (o : Option ℕ). HasLink kept_list x o) (newest_here newest u (Some (length list)) inside) p in
      ⊎_elim (λ e. inl (sym to ∙ e)) (λ k. inr (chain_back u x (subst (λ (o : Option ℕ). HasLink kept_list x o) before k))) (link_split kept_list x (length list) l (stands_last list l) q)

  chain_new : HasLink kept_list v (newest_from kept_newest u)
  chain_new = subst (λ (o : Option ℕ). HasLink kept_list v o) (sym (newest_here newest u (Some (length list)) inside)) (here (length list) l (stands_last list l) to)

  chain_kept : (w x : ℕ) → HasLink list x (newest_from newest w) → HasLink kept_list x (newest_from kept_newest w)
  chain_kept w x p = go (same_or w u)
    where
      more : HasLink kept_list x (newest_from newest w)
      more = link_more list (l ∷ []) x (newest_from newest w) p

      go : (w ≡ u) ⊎ (w ≢ u) → HasLink kept_list x (newest_from kept_newest w)
      go (inr d) = subst (λ (o : Option ℕ). HasLink kept_list x o) (sym (newest_there newest u w (Some (length list)) d)) more
      go (inl e) =
          let behind : HasLink kept_list x l.before = subst (λ (o : Option ℕ). HasLink kept_list x o) (ap (newest_from newest) e ∙ sym before) more in
          subst (λ (o : Option ℕ). HasLink kept_list x o) (sym (ap (newest_from kept_newest) e ∙ newest_here newest u (Some (length list)) inside)) (older (length list) l (stands_last list l) behind)

  pub spread_keep : has_flag reached u ≡ false → u < length reached → v < length reached → IsSpreading reached kept_newest kept_list [] ((u, v) ∷ links) 0 None
  spread_keep unset inside_u inside_v = record {
    flagged = s.flagged;
    sound = λ w e. reached_more links ((u, v) ∷ links) (λ a b p. inr p) w (s.sound w e);
    inside = λ a b p. ⊎_elim (λ e. (omega (e.0, inside_u, arith), omega (e.1, inside_v, arith))) (λ q. s.inside a b q) p;
    kept = λ a b p. ⊎_elim
        (λ e. inr (rw (← e.0, ← e.1) chain_new))
        (λ q. ⊎_elim (λ e. inl e) (λ k. inr (chain_kept a b k)) (s.kept a b q))
        p;
    chained = λ a b p. ⊎_elim
        (λ e. ⊎_elim (λ k. inl (sym e, k)) (λ k. inr (s.chained a b (subst (λ (c : ℕ). HasLink list b (newest_from newest c)) (sym e) k))) (chain_here b (subst (λ (c : ℕ). HasLink kept_list b (newest_from kept_newest c)) e p)))
        (λ d. inr (s.chained a b (chain_there a b d p)))
        (same_or a u);
    closed = λ a b e p. ⊎_elim
        (λ same. absurd (let k : has_flag reached u ≡ true = rw (← same) e in cc))
        (λ d. ⊎_elim (λ k. inl k) (λ q. ⊎_elim (λ f. absurd (no_fresh a f)) (λ f. absurd (no_link list b f.1)) q) (s.closed a b e (chain_there a b d p)))
        (same_or a u);
    rising = λ i k a. ⊎_elim (λ b. s.rising i k b) (λ e. rw (e.0, e.1, before) (s.ends u)) (stands_split list i k l a);
    ends = λ a. let longer = length-append list (l ∷ []) in ⊎_elim
        (λ e. subst (λ (o : Option ℕ). IfSome o (λ i. i < length kept_list)) (sym (ap (newest_from kept_newest) e ∙ newest_here newest u (Some (length list)) inside)) (omega (longer, arith)))
        (λ d. subst (λ (o : Option ℕ). IfSome o (λ i. i < length kept_list)) (sym (newest_there newest u a (Some (length list)) d)) (below_more (newest_from newest a) (length list) (length kept_list) (omega (longer, arith)) (s.ends a)))
        (same_or a u);
    starts = tt;
    left = λ w p. absurd (no_link kept_list w p);
    origin = first;
    waiting = λ w p. absurd (no_fresh w p);
  }

-- Steps of the code

-- a place is reached, be it for the first time or not
pub spread_visit : (reached : List Bool) (newest : List (Option ℕ)) (list : List Link) (fresh : List ℕ) (links more : List (ℕ × ℕ)) (from v : ℕ) (at : Option ℕ) (after : List Bool) (then : List ℕ)
    → IsSpreading reached newest list fresh links from at → Adds links more (length reached) v → v < length reached → IsReached more v → after ≡ slice_set reached v true → then ≡ cond (has_flag reached v) fresh (fresh ++ v ∷ []) → IsSpreading after newest list then more from at
spread_visit reached newest list fresh links more from v at after then s a l r e f = go (has_flag reached v) refl
  where
    go : (b : Bool) → has_flag reached v ≡ b → IsSpreading after newest list then more from at
    go true set =
        let same : after ≡ reached = e ∙ ap (slice_set reached v) (sym set) ∙ set-get_or reached v false in
        let none : then ≡ fresh = f ∙ ap (λ b. cond b fresh (fresh ++ v ∷ [])) set in
        rw (same, none) (spread_known reached newest list fresh links more from v at s a set l)
    go false unset =
        let one : then ≡ fresh ++ v ∷ [] = f ∙ ap (λ b. cond b fresh (fresh ++ v ∷ [])) unset in
        rw (e, one) (spread_reach reached newest list fresh links more from v at s a unset l r)

pub spread_as : {reached : List Bool} {newest newest' : List (Option ℕ)} {list list' : List Link} {fresh : List ℕ} {links links' : List (ℕ × ℕ)} {from : ℕ} {at : Option ℕ} → newest' ≡ newest → list' ≡ list → links' ≡ links → IsSpreading reached newest list fresh links from at → IsSpreading reached newest' list' fresh links' from at
spread_as e f g s = rw (e, f, g) s

pub flag_inside : (flags : List Bool) (v : ℕ) → has_flag flags v ≡ true → v < length flags
flag_inside [] v e = cc
flag_inside (b ∷ flags) zero e = omega arith
flag_inside (b ∷ flags) (suc v) e = let l = flag_inside flags v e in omega (l, arith)

pub counted : (flags : List Bool) → count_unset flags ≤ length flags
counted [] = omega arith
counted (true ∷ flags) = let l = counted flags in omega (l, arith)
counted (false ∷ flags) = let l = counted flags in omega (l, arith)

-- this many places, the first of which alone is reached

module _ (size : ℕ) (some : 0 < size) where
  start_flag : (v : ℕ) → has_flag (slice_set (replicate size false) 0 true) v ≡ true → v ≡ 0
  start_flag v e = ⊎_elim (λ z. z) (λ d. absurd (let f : has_flag (replicate size false) v ≡ true = sym (set_there (replicate size false) 0 v d) ∙ e in no_flag size v f)) (same_or v 0)
    where
      no_flag : (n w : ℕ) → has_flag (replicate n false) w ≡ true → ⊥
      no_flag zero w e = cc
      no_flag (suc n) zero e = cc
      no_flag (suc n) (suc w) e = no_flag n w e

  none_newest : (n u : ℕ) → newest_from (replicate n None) u ≡ None
  none_newest zero u = refl
  none_newest (suc n) zero = refl
  none_newest (suc n) (suc u) = none_newest n u

  pub spread_start : IsSpreading (slice_set (replicate size false) 0 true) (replicate size None) [] [] [] 0 None
  spread_start = record {
    flagged = set_here (replicate size false) 0 (rw (length-replicate size false) some);
    sound = λ v e. rw (start_flag v e) first;
    inside = λ u v p. absurd p;
    kept = λ u v p. absurd p;
    chained = λ u v p. absurd (no_link [] v (subst (λ (o : Option ℕ). HasLink [] v o) (none_newest size u) p));
    closed = λ u v e p. absurd (no_link [] v (subst (λ (o : Option ℕ). HasLink [] v o) (none_newest size u) p));
    rising = λ i l a. absurd (omega (a.within, arith));
    ends = λ u. rw (none_newest size u) tt;
    starts = tt;
    left = λ v p. absurd (no_link [] v p);
    origin = first;
    waiting = λ u p. absurd (no_fresh u p);
  }
