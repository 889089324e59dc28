-- A call by itself: nobody is in its way, and what it reads is the map that was there as it began.
use Rattle.std.proofs.Common.{◌≡◌, ◌≢◌, ℕ, ◌+◌, ◌*◌, ◌<◌, List, [], Option, Some, None, Result, Ok, Err, Vec, inl, inr, refl, sym, ◌∙◌, ap, subst, arith, Global}
use native.Mathlib.Decide.{ℕ_discrete}
use Rattle.histories.specs.Common.{IsInProgress, IsOthersScx, History, Opened, ◌⊳◌, value, Extends, Lawful, log, Call, MatchTurn, state, Turn, Ask, Done, Row, descriptor, Side}
use Rattle.arena.specs.Undisturbed.{IsUndisturbed}
use Rattle.arena.proofs.Lemmas.{ends_self, ends_trans}
use Rattle.histories.proofs.Lemmas.{Facts, IsOwned, Logs, facts, lawful_since, logs, same, wins}
use Rattle.prims.specs.Laws.Idle.{IsQuietSince, out_by_others}
use Rattle.prims.proofs.Lemmas.{wins_in_progress}
use Rattle.template.specs.Common.{Pair, MapCall, MapReply, OnePair, ManyPairs, pair_or_none, neighbour, range, reply, IsMapRun, Spells, IsContended}
use Rattle.ordered_map.proofs.Lemmas.{one_spelling}
use Rattle.ordered_map.proofs.MapLemmas.{quiet_spells, run_since}
use Rattle.template.proofs.Lemmas.{own_since}
use Rattle.order.specs.Known.{HasReplied, IsSameRead, ReadAnswers, ReadIsReady, ReadTurn}
use Rattle.order.specs.Meaning.{ReadMeaning}
use Rattle.order.specs.Range.{range_means}
use Rattle.order.specs.Replies.{IsReplyAt, KeepsTries}
use Rattle.order.specs.Steps.{ReadIsNearer, phase_left, read_left, run_try_left}
use Rattle.order.specs.Neighbour.{neighbour_means}
use Rattle.order.specs.Undisturbed.{HasLeftAll, HasLessOfTry, TellsNext, TellsRange}
use Rattle.order.specs.declared.range.Range.{Range as RangeRead}
use Rattle.order.specs.declared.refused.Refused.{Refused}
use Rattle.order.specs.declared.refused.Refused.TheVariants.{Contended, NoMemory}
use Rattle.order.specs.declared.run.ReadRun.{ReadRun}
use Rattle.order.specs.declared.neighbour.Neighbour.{Neighbour as NeighbourRead}

-- What a reply says

pair_told : MapReply → Option Pair
pair_told (OnePair p) = Some p
pair_told _ = None

pairs_told : MapReply → List Pair
pairs_told (ManyPairs ps) = ps
pairs_told _ = []

told_back : (found : Option Pair) → pair_told (pair_or_none found) ≡ found
unfolding pair_told
told_back (Some p) = refl
told_back None = refl

same_next : (a b : Option Pair) → pair_or_none a ≡ pair_or_none b → a ≡ b
same_next a b e = sym (told_back a) ∙ ap pair_told e ∙ told_back b

same_pairs : (a b : List Pair) → ManyPairs a ≡ ManyPairs b → a ≡ b
unfolding pairs_told
same_pairs a b e = ap pairs_told e

-- What is left of a try

less : (a b t x y : ℕ) → b ≡ a → b * t + x < a * t + y → x < y
less a b t x y e i = drop (a * t) (rw e at i)
  where
    drop : (p : ℕ) → p + x < p + y → x < y
    drop p j = omega (arith, j)

module _ (c : Call) (h : History) (run : IsMapRun c.layout h) (alone : IsUndisturbed c h) where
  -- no other's SCX-record is in progress at any moment of the call
  others_rest : (k : History) → Extends h k → Extends k c.start → (t : ℕ) → IsOthersScx c.layout c.pass t → ¬ IsInProgress k t
  others_rest (Opened opening) e f t o x = alone.rest t (subst (λ m. IsInProgress m t) (sym f) x)
  others_rest (r ⊳ k) e (inl f) t o x = alone.rest t (subst (λ m. IsInProgress m t) (sym f) x)
  others_rest (r ⊳ k) e (inr f) t o x = out_by_others c.layout o.pass k r t (lawful_since c.layout h (r ⊳ k) run.1.lawful e) (λ q. o.is_other (sym q ∙ alone.own r k e f)) o.owns
      (others_rest k (ends_trans h (r ⊳ k) k e (inr (ends_self k))) f t o) x

  pub never_contended : (n s : ℕ) → ¬ IsContended c h n s
  never_contended n s x = others_rest (x.in_the_way.row ⊳ x.in_the_way.before) x.in_the_way.within (inr x.in_the_way.since) s x.others x.in_the_way.running

  -- so no try is given up
  tries_kept : {A : Type 0} (before now : ℕ) (turn : Turn A) → KeepsTries c h before now turn → now ≡ before
  tries_kept before now turn (inl kept) = kept
  tries_kept before now (Ask step) (inr gave) = absurd (never_contended gave.node gave.scx gave.way)
  tries_kept before now (Done answer) (inr none) = absurd none

  -- and a turn leaves fewer steps of this try
  module _ (nodes : ℕ) where
    in_try : {R A T : Type 0} (means : ReadMeaning R A) (old now : ReadRun R) (turn : Turn T) → now.tries ≡ old.tries → means.call now.read ≡ means.call old.read → ReadIsNearer means now nodes turn (read_left means old nodes) → HasLessOfTry turn (phase_left means now nodes now.at) (phase_left means old nodes old.at)
    in_try means old now (Ask step) is call_is near = less old.tries now.tries (run_try_left means old nodes) _ _ is (subst (λ call. now.tries * means.try_left call nodes + phase_left means now nodes now.at < read_left means old nodes) call_is near)
    in_try means old now (Done answer) is call_is near = tt

    pub alone_try : {R A T : Type 0} (means : ReadMeaning R A) (old now : ReadRun R) (turn : Turn T) → IsSameRead means old now → KeepsTries c h old.tries now.tries turn → ReadIsNearer means now nodes turn (read_left means old nodes) → (now.tries ≡ old.tries) × HasLessOfTry turn (phase_left means now nodes now.at) (phase_left means old nodes old.at)
    alone_try means old now turn is keeps near = (tries_kept old.tries now.tries turn keeps, in_try means old now turn (tries_kept old.tries now.tries turn keeps) is.0 near)

  -- a pass that was idle all the time finds all at rest
  module _ (quiet : IsQuietSince c.layout c.pass c.start h) where
    all_rest : (k : History) → Extends h k → Extends k c.start → (t : ℕ) → ¬ IsInProgress k t
    all_rest k e since t x = go (ℕ_discrete o.pass c.pass)
      where
        f : Facts c.layout k
        f = facts c.layout k (lawful_since c.layout h k run.1.lawful e)

        real : t ≢ 0
        real z = let d = f.dummy in let u : value k (state 0) ≡ 0 = rw z at x.unfinished in omega arith

        o : IsOwned c.layout (descriptor k t) t
        o = (f.about t x.named.0 real x.named.1).owned

        go : Dec (o.pass ≡ c.pass) → ⊥
        go (yes q) = quiet k e since t (rw q at o.scx) x
        go (no d) = others_rest k e since t record { pass = o.pass; is_pass = o.is_pass; is_other = d; owns = o.scx } x

    -- so no row of the call enters anything
    row_enters_nothing : (r : Row) (k : History) → Extends h (r ⊳ k) → Extends k c.start → log c.layout (r ⊳ k) ≡ log c.layout k
    row_enters_nothing r k e since = go (logs c.layout k r l)
      where
        l : Lawful c.layout (r ⊳ k)
        l = lawful_since c.layout h (r ⊳ k) run.1.lawful e

        go : Logs c.layout k r → log c.layout (r ⊳ k) ≡ log c.layout k
        go (same is won) = is
        go (wins u w is) = absurd (all_rest k (ends_trans h (r ⊳ k) k e (inr (ends_self k))) since u (wins_in_progress c.layout k r u l w))

    -- at each moment of the call the log and the map are what they were
    pub still : (map : List Pair) → Spells c.layout (value c.start) map → (k : History) → Extends h k → Extends k c.start → HasLeftAll c k map
    still map x (Opened o) e f = subst (λ m. HasLeftAll c m map) f record { entries = refl; spelled = x }
    still map x (r ⊳ k) e (inl f) = subst (λ m. HasLeftAll c m map) f record { entries = refl; spelled = x }
    still map x (r ⊳ k) e (inr f) =
        let before : HasLeftAll c k map = still map x k (ends_trans h (r ⊳ k) k e (inr (ends_self k))) f in
        let none : log c.layout (r ⊳ k) ≡ log c.layout k = row_enters_nothing r k e f in
        record { entries = none ∙ before.entries; spelled = quiet_spells c.layout k r map (run_since c.layout h (r ⊳ k) run e) none before.spelled }

    -- and what a map at a moment of the call replies, it replies
    alone_replies : (call : MapCall) (told : MapReply) (map : List Pair) → IsReplyAt c h call told → Spells c.layout (value c.start) map → told ≡ reply call map
    alone_replies call told map x spells = sym x.gives ∙ ap (reply call) (one_spelling c.layout (value x.moment) x.map map x.spelled (still map spells x.moment x.within (ends_trans x.moment x.first c.start x.since (own_since c x.first x.own))).spelled)

-- what a read answers is what the map gives; it is not contended
abbrev Tells : {A : Type 0} → (A → MapReply) → MapReply → Result A Refused → Type 0
Tells told gives (Ok answer) = told answer ≡ gives
Tells told gives (Err (Contended n s)) = ⊥
Tells told gives (Err NoMemory) = Unit {0}

module _ {R A : Type 0} (means : ReadMeaning R A) (c : Call) (h : History) (alone : IsUndisturbed c h) (map : List Pair) (spells : Spells c.layout (value c.start) map) where
  module _ (old now : ReadRun R) (is : IsSameRead means old now) (run : IsMapRun c.layout h) (quiet : IsQuietSince c.layout c.pass c.start h) where
    replied : (answer : A) → HasReplied means now c h answer → means.told answer ≡ reply (means.call now.read) map
    replied answer (inl x) = alone_replies c h run alone quiet (means.call now.read) (means.told answer) map x spells
    replied answer (inr x) = sym (x.1 map)

    tells : (answer : Result A Refused) → ReadAnswers means now c h answer → Tells means.told (reply (means.call old.read) map) answer
    tells (Ok answer) x = rw is.0 at (replied answer x.1)
    tells (Err (Contended n s)) x = never_contended c h run alone n.0 s.0 x.1.0
    tells (Err NoMemory) x = tt

    turn_tells : (turn : Turn (Result A Refused)) → ReadTurn means c h now turn → HasLeftAll c h map × MatchTurn turn (λ _. Unit {0}) (Tells means.told (reply (means.call old.read) map))
    turn_tells (Ask step) x = (still c h run alone quiet map spells h (ends_self h) alone.since, tt)
    turn_tells (Done answer) x = (still c h run alone quiet map spells h (ends_self h) alone.since, tells answer x)

  -- what it may be called with shows that its pass was idle since the call began
  alone_read : (old now : ReadRun R) (got : Option ℕ) → ReadIsReady means old c h got → IsSameRead means old now → (turn : Turn (Result A Refused)) → ReadTurn means c h now turn → HasLeftAll c h map × MatchTurn turn (λ _. Unit {0}) (Tells means.told (reply (means.call old.read) map))
  alone_read old now None ready is turn x = turn_tells old now is ready.0.reads.run ready.0.reads.quiet turn x
  alone_read old now (Some v) ready is turn x = turn_tells old now is ready.2.reads.run ready.1.quiet turn x

module _ (c : Call) (h : History) (alone : IsUndisturbed c h) (map : List Pair) (spells : Spells c.layout (value c.start) map) where
  next_told : (side : Side) (k : ℕ) (answer : Result (Option Pair) Refused) → Tells pair_or_none (pair_or_none (neighbour side k map)) answer → TellsNext side map k answer
  next_told side k (Ok found) x = same_next found (neighbour side k map) x
  next_told side k (Err (Contended n s)) x = x
  next_told side k (Err NoMemory) x = x

  range_told : (low high most : ℕ) (answer : Result (Vec Pair Global) Refused) → Tells (λ (told : Vec Pair Global). ManyPairs told.items) (ManyPairs (range low high most map)) answer → TellsRange map low high most answer
  range_told low high most (Ok told) x = same_pairs told.items (range low high most map) x
  range_told low high most (Err (Contended n s)) x = x
  range_told low high most (Err NoMemory) x = x

  turn_as : {A : Type 0} (turn : Turn A) (P Q : A → Type 0) → ((a : A) → P a → Q a) → MatchTurn turn (λ _. Unit {0}) P → MatchTurn turn (λ _. Unit {0}) Q
  turn_as (Ask step) P Q f x = tt
  turn_as (Done answer) P Q f x = f answer x

  -- a search for the pair beside a key by itself, and a range
  pub alone_next : (old now : ReadRun NeighbourRead) (turn : Turn (Result (Option Pair) Refused)) (got : Option ℕ) → ReadIsReady neighbour_means old c h got → IsSameRead neighbour_means old now → ReadTurn neighbour_means c h now turn → HasLeftAll c h map × MatchTurn turn (λ _. Unit {0}) (TellsNext old.read.side map old.read.key)
  alone_next old now turn got ready is x = let y = alone_read neighbour_means c h alone map spells old now got ready is turn x in (y.0, turn_as turn _ _ (next_told old.read.side old.read.key) y.1)

  pub alone_range : (old now : ReadRun RangeRead) (turn : Turn (Result (Vec Pair Global) Refused)) (got : Option ℕ) → ReadIsReady range_means old c h got → IsSameRead range_means old now → ReadTurn range_means c h now turn → HasLeftAll c h map × MatchTurn turn (λ _. Unit {0}) (TellsRange map old.read.low old.read.high old.read.most)
  alone_range old now turn got ready is x = let y = alone_read range_means c h alone map spells old now got ready is turn x in (y.0, turn_as turn _ _ (range_told old.read.low old.read.high old.read.most) y.1)

-- with one pass there is no other
pub one_never_contended : (c : Call) (h : History) (n s : ℕ) → c.layout.passes ≡ 1 → ¬ IsContended c h n s
one_never_contended c h n s one x = let below = c.is_pass in let other = x.others.is_pass in x.others.is_other (omega (arith, one, below, other))
