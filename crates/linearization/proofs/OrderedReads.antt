-- The best turn is the greatest after which an ordered read answers what it has answered.
use Rattle.std.proofs.Common.{◌≡◌, ℕ, suc, ◌<◌, ◌≤◌, inl, inr, ⊎_elim, Bool, true, false, cond, ltb, leb, ◌&&◌, List, [], ◌∷◌, take, Option, Some, None, ◌↔◌, refl, sym, ◌∙◌, ap, subst, arith}
use Rattle.std.specs.List.{filter}
use Rattle.std.specs.Prelude.{unwrap_or}
use Rattle.std.proofs.lemmas.Bool.{cases_lt, le-leb, lt-leb}
use Rattle.std.proofs.lemmas.Bool.Decides.{leb_tells}
use Rattle.record.specs.Common.{Pair, MapCall, MapReply, ManyPairs, pair_or_none, first_pair, AllAbove, reply, get, IsRising, Call, Command, Map, PopFirst as PopOf}
use Rattle.record.specs.Common.{Successor as SuccessorOf, Predecessor as PredecessorOf, Range as RangeOf, map_call, map_at, written_log, IsGreatestTurn}
use Rattle.ordered_map.specs.OrderedMap.{call_pop_first, call_pop_last, call_successor, call_predecessor, Range, OnePair, last_pair, successor, predecessor, between}
use Rattle.ordered_map.specs.declared.request.Request.TheVariants.{PopLast as PopLastOf}
use Rattle.record.specs.declared.record.Line.{Line}
use Rattle.linearization.specs.declared.places.Change.{Change}
use Rattle.linearization.specs.declared.places.Place.{Place}
use Rattle.linearization.specs.Entries.{AreEntries}
use Rattle.linearization.specs.Ordered.{FallFrom, IsOrderedRead, AreReadPairs, is_from, is_unlike, pairs_in, pairs_read}
use Rattle.linearization.proofs.Values.{value_at, value_is, values}
use Rattle.linearization.proofs.Counts.{count_nothing, nothing_counted}
use Rattle.linearization.proofs.Chains.{changes_of}
use Rattle.linearization.proofs.Told.{filter_rises, told_like, like_told}
use Rattle.linearization.proofs.Weights.{key_bound, value_beyond, weight_at, IsWeighed, weighed_all}

-- What a reply says and which pairs it has

pub successor_first : (k : ℕ) (m : List Pair) → successor k m ≡ first_pair (filter (λ (p : Pair). ltb k p.key) m)
successor_first k [] = refl
successor_first k (p ∷ ps) = go (ltb k p.key) (successor_first k ps)
  where
    go : (b : Bool) → successor k ps ≡ first_pair (filter (λ (q : Pair). ltb k q.key) ps) → cond b (Some p) (successor k ps) ≡ first_pair (cond b (p ∷ filter (λ (q : Pair). ltb k q.key) ps) (filter (λ (q : Pair). ltb k q.key) ps))
    go true more = refl
    go false more = more

predecessor_last : (k : ℕ) (m : List Pair) → predecessor k m ≡ last_pair (filter (λ (p : Pair). ltb p.key k) m)
predecessor_last k [] = refl
predecessor_last k (p ∷ ps) = go (ltb p.key k) (predecessor_last k ps)
  where
    go : (b : Bool) → predecessor k ps ≡ last_pair (filter (λ (q : Pair). ltb q.key k) ps) → cond b (Some (unwrap_or (predecessor k ps) p)) (predecessor k ps) ≡ last_pair (cond b (p ∷ filter (λ (q : Pair). ltb q.key k) ps) (filter (λ (q : Pair). ltb q.key k) ps))
    go true more = ap (λ (o : Option Pair). Some (unwrap_or o p)) more
    go false more = more

filter_both : (f g : ℕ → Bool) (m : List Pair) → filter (λ (p : Pair). f p.key && g p.key) m ≡ filter (λ (p : Pair). g p.key) (filter (λ (p : Pair). f p.key) m)
filter_both f g [] = refl
filter_both f g (p ∷ ps) = go (f p.key) (filter_both f g ps)
  where
    go : (b : Bool) → filter (λ (q : Pair). f q.key && g q.key) ps ≡ filter (λ (q : Pair). g q.key) (filter (λ (q : Pair). f q.key) ps) → cond (b && g p.key) (p ∷ filter (λ (q : Pair). f q.key && g q.key) ps) (filter (λ (q : Pair). f q.key && g q.key) ps) ≡ filter (λ (q : Pair). g q.key) (cond b (p ∷ filter (λ (q : Pair). f q.key) ps) (filter (λ (q : Pair). f q.key) ps))
    go true more = ap (λ qs. cond (g p.key) (p ∷ qs) qs) more
    go false more = more

pub between_all : (low high : ℕ) (m : List Pair) → between low high m ≡ filter (λ (p : Pair). leb low p.key && leb p.key high) m
between_all low high [] = refl
between_all low high (p ∷ ps) = go (leb low p.key && leb p.key high) (between_all low high ps)
  where
    go : (b : Bool) → between low high ps ≡ filter (λ (q : Pair). leb low q.key && leb q.key high) ps → cond b (p ∷ between low high ps) (between low high ps) ≡ cond b (p ∷ filter (λ (q : Pair). leb low q.key && leb q.key high) ps) (filter (λ (q : Pair). leb low q.key && leb q.key high) ps)
    go true more = ap (λ qs. p ∷ qs) more
    go false more = more

filter_all : (m : List Pair) → m ≡ filter (λ (p : Pair). true) m
filter_all [] = refl
filter_all (p ∷ ps) = ap (λ qs. p ∷ qs) (filter_all ps)

one_pair : (ps : List Pair) → pairs_in (Some (pair_or_none (first_pair ps))) ≡ take 1 ps
one_pair [] = refl
one_pair (p ∷ ps) = refl

-- the last pair has the greatest key
last_above : (k : ℕ) (p : Pair) (m : List Pair) → AllAbove k m → last_pair m ≡ Some p → k < p.key
last_above k p [] a e = absurd (let z : None ≡ Some p = e in cc)
last_above k p (q ∷ qs) a e = go (last_pair qs) refl (last_above k p qs a.1) e
  where
    go : (last : Option Pair) → last_pair qs ≡ last → (last_pair qs ≡ Some p → k < p.key) → Some (unwrap_or last q) ≡ Some p → k < p.key
    go None none later is = let same : q ≡ p = cc in subst (λ (r : Pair). k < r.key) same a.0
    go (Some r) some later is = let same : r ≡ p = cc in later (some ∙ ap (λ (x : Pair). Some x) same)

-- from a key on there are all the pairs of a map with keys above it
from_above : (k : ℕ) (m : List Pair) → AllAbove k m → filter (λ (q : Pair). leb k q.key) m ≡ m
from_above k [] a = refl
from_above k (q ∷ qs) a = rw (le-leb k q.key (let x = a.0 in omega (x, arith))) (ap (λ ps. q ∷ ps) (from_above k qs a.1))

above_less : (j k : ℕ) (m : List Pair) → j ≤ k → AllAbove k m → AllAbove j m
above_less j k [] l a = tt
above_less j k (p ∷ ps) l a = ((let x = a.0 in omega (x, l, arith)), above_less j k ps l a.1)

-- a pair is the last one where it is found alone from its key on
alone_last : (p : Pair) (m : List Pair) → IsRising m → take 2 (filter (λ (q : Pair). leb p.key q.key) m) ≡ p ∷ [] → last_pair m ≡ Some p
alone_last p [] r e = absurd (let z : [] ≡ p ∷ [] = e in cc)
alone_last p (q ∷ qs) r e = ⊎_elim here (later (alone_last p qs r.1)) (leb_tells p.key q.key)
  where
    here : (leb p.key q.key ≡ true) × (p.key ≤ q.key) → last_pair (q ∷ qs) ≡ Some p
    here t =
        let all : filter (λ (x : Pair). leb p.key x.key) qs ≡ qs = from_above p.key qs (above_less p.key q.key qs t.1 r.0) in
        let both : q ∷ take 1 qs ≡ p ∷ [] = ap (λ ps. q ∷ take 1 ps) (sym all) ∙ (rw t.0 at e) in
        alone qs both
      where
        alone : (ps : List Pair) → q ∷ take 1 ps ≡ p ∷ [] → last_pair (q ∷ ps) ≡ Some p
        alone [] is = let same : q ≡ p = cc in ap (λ (x : Pair). Some x) same
        alone (x ∷ ps) is = absurd (let z : q ∷ x ∷ [] ≡ p ∷ [] = is in cc)

    later : (take 2 (filter (λ (x : Pair). leb p.key x.key) qs) ≡ p ∷ [] → last_pair qs ≡ Some p) → (leb p.key q.key ≡ false) × (q.key < p.key) → last_pair (q ∷ qs) ≡ Some p
    later rest f = ap (λ (o : Option Pair). Some (unwrap_or o q)) (rest (rw f.0 at e))

last_alone : (p : Pair) (m : List Pair) → IsRising m → last_pair m ≡ Some p → take 2 (filter (λ (q : Pair). leb p.key q.key) m) ≡ p ∷ []
last_alone p [] r e = absurd (let z : None ≡ Some p = e in cc)
last_alone p (q ∷ []) r e = let same : q ≡ p = cc in rw (le-leb p.key q.key (let k = ap (λ (x : Pair). x.key) same in omega (k, arith))) (ap (λ (x : Pair). x ∷ []) same)
last_alone p (q ∷ s ∷ ps) r e =
    let last : last_pair (s ∷ ps) ≡ Some p = e in
    let low = last_above q.key p (s ∷ ps) r.0 last in
    rw (lt-leb p.key q.key low) (last_alone p (s ∷ ps) r.1 last)

-- so what answers the last pair answers just that
last_tells : (told m : List Pair) → IsRising m → AreReadPairs (Map PopLastOf) told m ↔ (pairs_in (Some (pair_or_none (last_pair m))) ≡ told)
last_tells [] [] r = (λ e. refl, λ e. refl)
last_tells [] (p ∷ ps) r = (λ e. absurd (some e), λ e. absurd (let z : unwrap_or (last_pair ps) p ∷ [] ≡ [] = e in cc))
  where
    some : take 2 (filter (λ (q : Pair). true) (p ∷ ps)) ≡ [] → ⊥
    some e = let z : p ∷ take 1 (filter (λ (q : Pair). true) ps) ≡ [] = e in cc
last_tells (p ∷ []) m r = (λ e. ap (λ (o : Option Pair). pairs_in (Some (pair_or_none o))) (alone_last p m r e), λ e. last_alone p m r (one (last_pair m) e))
  where
    one : (o : Option Pair) → pairs_in (Some (pair_or_none o)) ≡ p ∷ [] → o ≡ Some p
    one None e = absurd (let z : [] ≡ p ∷ [] = e in cc)
    one (Some x) e = let same : x ≡ p = cc in ap (λ (y : Pair). Some y) same
last_tells (p ∷ q ∷ ps) m r = (λ e. absurd (none m e), λ e. absurd (two (last_pair m) e))
  where
    nothing : (n : List Pair) → filter (λ (x : Pair). false) n ≡ []
    nothing [] = refl
    nothing (x ∷ xs) = nothing xs

    none : (n : List Pair) → take 2 (filter (λ (x : Pair). false) n) ≡ p ∷ q ∷ ps → ⊥
    none n e = let z : [] ≡ p ∷ q ∷ ps = sym (ap (take 2) (nothing n)) ∙ e in cc

    two : (o : Option Pair) → pairs_in (Some (pair_or_none o)) ≡ p ∷ q ∷ ps → ⊥
    two None e = let z : [] ≡ p ∷ q ∷ ps = e in cc
    two (Some x) e = let z : x ∷ [] ≡ p ∷ q ∷ ps = e in cc

by_same : (told m : List Pair) (command : Command) (call : MapCall) → pairs_in (Some (reply call m)) ≡ pairs_read command told m → AreReadPairs command told m ↔ (pairs_in (Some (reply call m)) ≡ told)
by_same told m command call e = (λ x. e ∙ x, λ x. sym e ∙ x)

-- the reply to an ordered read has just the pairs that it answers
pub reply_tells : (command : Command) (call : MapCall) (told m : List Pair) → IsOrderedRead command → map_call (Some command) ≡ Some call → IsRising m → AreReadPairs command told m ↔ (pairs_in (Some (reply call m)) ≡ told)
reply_tells (Map PopOf) call told m ordered is rises =
    let same : call_pop_first ≡ call = cc in
    by_same told m (Map PopOf) call (ap (λ (c : MapCall). pairs_in (Some (reply c m))) (sym same) ∙ one_pair m ∙ ap (take 1) (filter_all m))
reply_tells (Map PopLastOf) call told m ordered is rises =
    let same : call_pop_last ≡ call = cc in
    subst (λ (c : MapCall). AreReadPairs (Map PopLastOf) told m ↔ (pairs_in (Some (reply c m)) ≡ told)) same (last_tells told m rises)
reply_tells (Map (SuccessorOf k)) call told m ordered is rises =
    let same : call_successor k ≡ call = cc in
    by_same told m (Map (SuccessorOf k)) call (ap (λ (c : MapCall). pairs_in (Some (reply c m))) (sym same) ∙ ap (λ (f : Option Pair). pairs_in (Some (pair_or_none f))) (successor_first k m) ∙ one_pair (filter (λ (p : Pair). ltb k p.key) m))
reply_tells (Map (PredecessorOf k)) call told m ordered is rises =
    let same : call_predecessor k ≡ call = cc in
    let below : List Pair = filter (λ (p : Pair). ltb p.key k) m in
    let tells : AreReadPairs (Map PopLastOf) told below ↔ (pairs_in (Some (pair_or_none (last_pair below))) ≡ told) = last_tells told below (filter_rises (λ j. ltb j k) m rises) in
    let both : pairs_read (Map (PredecessorOf k)) told m ≡ pairs_read (Map PopLastOf) told below = ap (take 2) (filter_both (λ j. ltb j k) (is_from told) m) in
    let gives : pairs_in (Some (reply call m)) ≡ pairs_in (Some (pair_or_none (last_pair below))) = ap (λ (c : MapCall). pairs_in (Some (reply c m))) (sym same) ∙ ap (λ (f : Option Pair). pairs_in (Some (pair_or_none f))) (predecessor_last k m) in
    (λ e. gives ∙ tells.0 (sym both ∙ e), λ e. both ∙ tells.1 (sym gives ∙ e))
reply_tells (Map (RangeOf low high most)) call told m ordered is rises =
    let same : Range low high most ≡ call = cc in
    by_same told m (Map (RangeOf low high most)) call (ap (λ (c : MapCall). pairs_in (Some (reply c m))) (sym same) ∙ ap (take most) (between_all low high m))
reply_tells command call told m ordered is rises = absurd ordered

-- replies of a pair, or none, that have the same pairs are the same
same_pairs : (o p : Option Pair) → pairs_in (Some (pair_or_none o)) ≡ pairs_in (Some (pair_or_none p)) → pair_or_none o ≡ pair_or_none p
same_pairs None None e = refl
same_pairs (Some x) (Some y) e = let same : x ≡ y = cc in ap OnePair same
same_pairs None (Some y) e = absurd (let z : [] ≡ y ∷ [] = e in cc)
same_pairs (Some x) None e = absurd (let z : x ∷ [] ≡ [] = e in cc)

-- so are those of an ordered read
same_reply : (command : Command) (call : MapCall) (m n : List Pair) → IsOrderedRead command → map_call (Some command) ≡ Some call → pairs_in (Some (reply call m)) ≡ pairs_in (Some (reply call n)) → reply call m ≡ reply call n
same_reply (Map PopOf) call m n ordered is = let same : call_pop_first ≡ call = cc in subst (λ (c : MapCall). pairs_in (Some (reply c m)) ≡ pairs_in (Some (reply c n)) → reply c m ≡ reply c n) same (same_pairs (first_pair m) (first_pair n))
same_reply (Map PopLastOf) call m n ordered is = let same : call_pop_last ≡ call = cc in subst (λ (c : MapCall). pairs_in (Some (reply c m)) ≡ pairs_in (Some (reply c n)) → reply c m ≡ reply c n) same (same_pairs (last_pair m) (last_pair n))
same_reply (Map (SuccessorOf k)) call m n ordered is = let same : call_successor k ≡ call = cc in subst (λ (c : MapCall). pairs_in (Some (reply c m)) ≡ pairs_in (Some (reply c n)) → reply c m ≡ reply c n) same (same_pairs (successor k m) (successor k n))
same_reply (Map (PredecessorOf k)) call m n ordered is = let same : call_predecessor k ≡ call = cc in subst (λ (c : MapCall). pairs_in (Some (reply c m)) ≡ pairs_in (Some (reply c n)) → reply c m ≡ reply c n) same (same_pairs (predecessor k m) (predecessor k n))
same_reply (Map (RangeOf low high most)) call m n ordered is = let same : Range low high most ≡ call = cc in subst (λ (c : MapCall). pairs_in (Some (reply c m)) ≡ pairs_in (Some (reply c n)) → reply c m ≡ reply c n) same (ap ManyPairs)
same_reply command call m n ordered is = absurd ordered

-- The best turn

-- the keys of a run's map rise
pub map_rises : (calls : List Call) (lines : List Line) (changes : List Change) (m : ℕ) → AreEntries calls lines changes → IsRising (map_at calls lines m)
map_rises calls lines changes m are = (values calls (written_log lines) changes m are).0

module _ (command : Command) (pairs : List Pair) (all : List Place) (calls : List Call) (lines : List Line) (are : AreEntries calls lines (changes_of all)) where
  rises : (m : ℕ) → IsRising (map_at calls lines m)
  rises m = map_rises calls lines (changes_of all) m are

  unlike_now : (j m : ℕ) → is_unlike command pairs j (get j (map_at calls lines m)) ≡ is_unlike command pairs j (value_at j m (changes_of all))
  unlike_now j m = ap (is_unlike command pairs j) (value_is calls (written_log lines) (changes_of all) j m are)

  -- if the pairs are answered no key is unlike them
  weightless : (m : ℕ) → AreReadPairs command pairs (map_at calls lines m) → weight_at (is_unlike command pairs) (key_bound (changes_of all)) (changes_of all) m ≡ 0
  weightless m told = count_nothing (key_bound (changes_of all)) (λ j. is_unlike command pairs j (value_at j m (changes_of all))) (λ j. sym (unlike_now j m) ∙ told_like command pairs (map_at calls lines m) (rises m) told j)

  -- and if no key is they are answered, if they are answered at all
  told_there : (n m : ℕ) → AreReadPairs command pairs (map_at calls lines n) → weight_at (is_unlike command pairs) (key_bound (changes_of all)) (changes_of all) m ≡ 0 → AreReadPairs command pairs (map_at calls lines m)
  told_there n m told none = like_told command pairs (map_at calls lines m) (map_at calls lines n) (rises m) (rises n) told like
    where
      like : (j : ℕ) → is_unlike command pairs j (get j (map_at calls lines m)) ≡ false
      like j = elim (cases_lt j (key_bound (changes_of all))) [
        | inl q ↦ unlike_now j m ∙ nothing_counted (key_bound (changes_of all)) (λ i. is_unlike command pairs i (value_at i m (changes_of all))) none j q
        | inr q ↦ unlike_now j m ∙ ap (is_unlike command pairs j) (value_beyond j m (changes_of all) q ∙ sym (value_beyond j n (changes_of all) q)) ∙ sym (unlike_now j n) ∙ told_like command pairs (map_at calls lines n) (rises n) told j
      ]

  pub best_told : (first last best more n : ℕ) (rest : List Place) → IsWeighed (is_unlike command pairs) (key_bound (changes_of all)) first last best more all rest → FallFrom (suc first) (changes_of rest) → first ≤ n → n ≤ last → AreReadPairs command pairs (map_at calls lines n) → IsGreatestTurn (λ m. AreReadPairs command pairs (map_at calls lines m)) first last best
  best_told first last best more n rest x falls from to told = record {
    from = let f = x.from in let t = x.to in omega (f, t, arith);
    to = x.within;
    holds = told_there n best told lightest;
    none_later = λ m i l e. let d = x.later m i l in let w = weightless m e in omega (d, w, arith);
  }
    where
      lightest : weight_at (is_unlike command pairs) (key_bound (changes_of all)) (changes_of all) best ≡ 0
      lightest = let l = weighed_all (is_unlike command pairs) (key_bound (changes_of all)) first last all best more rest x falls n from to in let w = weightless n told in omega (l, w, arith)

-- In the words of a reply

-- what is found of the pairs that a reply has is found of the reply
pub found_reply : (command : Command) (call : MapCall) (told : Option MapReply) (calls : List Call) (lines : List Line) (n first last m : ℕ) → ((j : ℕ) → IsRising (map_at calls lines j)) → IsOrderedRead command → map_call (Some command) ≡ Some call → told ≡ Some (reply call (map_at calls lines n)) → (AreReadPairs command (pairs_in told) (map_at calls lines n) → IsGreatestTurn (λ j. AreReadPairs command (pairs_in told) (map_at calls lines j)) first last m) → IsGreatestTurn (λ j. told ≡ Some (reply call (map_at calls lines j))) first last m
found_reply command call told calls lines n first last m rises ordered is says found =
    let x = found (has n says) in
    record {
      from = x.from;
      to = x.to;
      holds = says ∙ ap (λ (r : MapReply). Some r) (same_reply command call (map_at calls lines n) (map_at calls lines m) ordered is (ap pairs_in (sym says) ∙ sym ((tells m).0 x.holds)));
      none_later = λ j i l e. x.none_later j i l (has j e);
    }
  where
    tells : (j : ℕ) → AreReadPairs command (pairs_in told) (map_at calls lines j) ↔ (pairs_in (Some (reply call (map_at calls lines j))) ≡ pairs_in told)
    tells j = reply_tells command call (pairs_in told) (map_at calls lines j) ordered is (rises j)

    has : (j : ℕ) → told ≡ Some (reply call (map_at calls lines j)) → AreReadPairs command (pairs_in told) (map_at calls lines j)
    has j e = (tells j).1 (ap pairs_in (sym e))
