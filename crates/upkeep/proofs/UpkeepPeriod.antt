-- What a pass knows of others' rests by its polls.
use Rattle.std.proofs.Common.{◌≡◌, ◌≢◌, ◌+◌, ◌<◌, ◌⊎◌, ◌*◌, ◌==◌, if◌then◌else◌, ℕ, Bool, true, false, List, [], ◌∷◌, Option, Some, None, inl, inr, refl, sym, ◌∙◌, ap, subst, eq-eqb, ne_eqb, get_or, set, length, replicate, is_some, MatchOption, arith}
use Rattle.std.proofs.lemmas.List.{length-replicate, get_or-replicate, get_or_past, get_or-set_same, get_or-set_other}
use native.Mathlib.Decide.{dec_lt, ℕ_discrete}
use Rattle.arena.proofs.Lemmas.{ends_self, ends_trans}
use Rattle.arena.specs.declared.number.PassNo.{PassNo}
use Rattle.histories.specs.Common.{Layout, Row, History, Extends}
use Rattle.planting.specs.Plantings.{PlantingView}
use Rattle.tables.specs.LastingNotes.{HasSeenAllRest, IsAmongThese, memory_looked, memory_polled, waits_of}
use Rattle.tables.specs.TableRule.{history_of}
use Rattle.upkeep.specs.UpkeepSteps.{HasGoneOnResting, KeepsSlots, RemembersRest}
use Rattle.upkeep.specs.UpkeepPeriod.{BeginsPeriod, HasLookedAgain, HasLookedFirst, HasPolledOnce, WaitsForNobody, HasPeriod, IsPolledSince, PollsOn, last_poll, poll_of, waited_for}
use Rattle.tables.specs.declared.memory.PassMemory.{PassMemory}
use Rattle.tables.specs.declared.memory.Polled.{Polled}
use Rattle.upkeep.specs.declared.period.Period.{Period}
use Rattle.tables.specs.declared.view.SeatedPass.{SeatedPass}
use Rattle.upkeep.proofs.UpkeepSteps.{knows_more}

-- the last poll of a pass is one of the polls
pub last_among : (k : ℕ) (polls : List Polled) (poll : Polled) → last_poll k polls ≡ Some poll → IsAmongThese poll polls
last_among k [] poll e = cc
last_among k (x ∷ xs) poll e = go (x.pass.0 == k) e (last_among k xs poll)
  where
    go : (b : Bool) → (if b then Some x else last_poll k xs) ≡ Some poll → (last_poll k xs ≡ Some poll → IsAmongThese poll xs) → (poll ≡ x) ⊎ IsAmongThese poll xs
    go true e rest = inl (cc)
    go false e rest = inr (rest e)

last_same : (k : ℕ) (moment : List Row) (waits : Option ℕ) (polls : List Polled) → last_poll k (poll_of k moment waits ∷ polls) ≡ Some (poll_of k moment waits)
last_same k moment waits polls = rw (eq-eqb k k refl) refl

last_other : (j k : ℕ) (moment : List Row) (waits : Option ℕ) (polls : List Polled) → j ≢ k → last_poll j (poll_of k moment waits ∷ polls) ≡ last_poll j polls
last_other j k moment waits polls d = rw (ne_eqb k j (λ e. d (sym e))) refl

keeps_all : (m : PassMemory) → KeepsSlots m m
keeps_all m = record { rested = refl; away = refl; often = refl; nodes_to = refl; scx_to = refl; notes = refl; holds = refl; empty = refl; zeros = refl }

pub keeps_on : (l m n : PassMemory) → KeepsSlots l m → KeepsSlots m n → KeepsSlots l n
keeps_on l m n x y = record { rested = y.rested ∙ x.rested; away = y.away ∙ x.away; often = y.often ∙ x.often; nodes_to = y.nodes_to ∙ x.nodes_to; scx_to = y.scx_to ∙ x.scx_to; notes = y.notes ∙ x.notes; holds = y.holds ∙ x.holds; empty = y.empty ∙ x.empty; zeros = y.zeros ∙ x.zeros }

-- one poll more
poll_more : (k : ℕ) (moment : List Row) (waits : Option ℕ) (p q : SeatedPass) → q.memory ≡ record p.memory { polls = poll_of k moment waits ∷ p.memory.polls } → HasPolledOnce k (poll_of k moment waits) p q
poll_more k moment waits p q e = record {
  keeps = subst (KeepsSlots p.memory) (sym e) record { rested = refl; away = refl; often = refl; nodes_to = refl; scx_to = refl; notes = refl; holds = refl; empty = refl; zeros = refl };
  last = ap (λ (m : PassMemory). last_poll k m.polls) e ∙ last_same k moment waits p.memory.polls;
  others = λ j d. ap (λ (m : PassMemory). last_poll j m.polls) e ∙ last_other j k moment waits p.memory.polls d;
}

pub looked_first : (k n : ℕ) (p q : SeatedPass) → q.memory ≡ memory_looked p.memory k n q.known → HasLookedFirst k (waits_of n) p q
looked_first k n p q e = poll_more k q.known (waits_of n) p q e

-- how often it is waited for after another look, which has found n
pub looked_again : (k n seen : ℕ) (moment : List Row) (p q : SeatedPass) → last_poll k p.memory.polls ≡ Some (poll_of k moment (Some seen)) → q.memory ≡ memory_polled p.memory (poll_of k moment (Some seen)) seen n → HasPolledOnce k (poll_of k moment (if n == 2 * seen then Some seen else None)) p q
looked_again k n seen moment p q last = go (n == 2 * seen)
  where
    go : (b : Bool) → q.memory ≡ (if b then p.memory else record p.memory { polls = poll_of k moment None ∷ p.memory.polls }) → HasPolledOnce k (poll_of k moment (if b then Some seen else None)) p q
    go true e = record { keeps = subst (KeepsSlots p.memory) (sym e) (keeps_all p.memory); last = ap (λ (m : PassMemory). last_poll k m.polls) e ∙ last; others = λ j d. ap (λ (m : PassMemory). last_poll j m.polls) e }
    go false e = poll_more k moment None p q e

-- a poll tells its moment
moment_of : Option Polled → List Row
moment_of None = []
moment_of (Some poll) = poll.since

same_moment_of : (k seen : ℕ) (one other : List Row) (polls : List Polled) → last_poll k polls ≡ Some (poll_of k one (Some seen)) → last_poll k polls ≡ Some (poll_of k other (Some seen)) → one ≡ other
unfolding moment_of
same_moment_of k seen one other polls x y = ap moment_of (sym x ∙ y)

pub looked_so_again : (k n seen : ℕ) (moment : List Row) (p q : SeatedPass) → last_poll k p.memory.polls ≡ Some (poll_of k moment (Some seen)) → q.memory ≡ memory_polled p.memory (poll_of k moment (Some seen)) seen n → HasLookedAgain k seen (if n == 2 * seen then Some seen else None) p q
looked_so_again k n seen moment p q last e other is = subst (λ l. HasPolledOnce k (poll_of k l (if n == 2 * seen then Some seen else None)) p q) (same_moment_of k seen moment other p.memory.polls last is) (looked_again k n seen moment p q last e)

-- Periods

module _ (p q : SeatedPass) (number : q.number ≡ p.number) (planting : q.planting ≡ p.planting) where
  as_now : (l m : List Row) → Extends (history_of p.planting l) (history_of p.planting m) → Extends (history_of q.planting l) (history_of q.planting m)
  as_now l m = subst (λ (k : PlantingView). Extends (history_of k l) (history_of k m)) (sym planting)

  as_then : (k : ℕ) → k ≢ q.number.0 → k ≢ p.number.0
  as_then k = subst (λ (n : PassNo). k ≢ n.0) number

  as_later : (k : ℕ) → k ≢ p.number.0 → k ≢ q.number.0
  as_later k = subst (λ (n : PassNo). k ≢ n.0) (sym number)

  -- A period goes on as the pass knows more, and remembers its polls.
  pub period_stays : (count : ℕ) (rows : List Row) (period : Period) → Extends (history_of q.planting q.known) (history_of q.planting p.known) → q.memory.polls ≡ p.memory.polls → HasPeriod count p rows period → HasPeriod count q rows period
  period_stays count rows period more same x = record {
    began = ends_trans (history_of q.planting q.known) (history_of q.planting p.known) (history_of q.planting rows) more (as_now p.known rows x.began);
    polled = λ k i d. let y = x.polled k i (as_then k d) in record { moment = y.moment; last = ap (last_poll k) same ∙ y.last; since = as_now y.moment rows y.since };
    others = λ k often e. let y = x.others k often e in (y.0, as_later k y.1);
  }

  -- and as it polls one more pass, or again
  module _ (from to k : ℕ) (waits : Option ℕ) (old new : Period) (inside : k < to) (other : k ≢ p.number.0) (few : (j : ℕ) → j < to → j ≢ k → j < from) (more : (j : ℕ) → j < from → j < to) (at : waited_for new k ≡ waits) (rest : (j : ℕ) → j ≢ k → waited_for new j ≡ waited_for old j) (same : (j : ℕ) → j ≢ k → last_poll j q.memory.polls ≡ last_poll j p.memory.polls) where
    pub period_polled : (rows : List Row) → Extends (history_of q.planting q.known) (history_of q.planting p.known) → IsPolledSince q rows k waits → HasPeriod from p rows old → HasPeriod to q rows new
    period_polled rows knows here x = record {
      began = ends_trans (history_of q.planting q.known) (history_of q.planting p.known) (history_of q.planting rows) knows (as_now p.known rows x.began);
      polled = λ j i d. polled j i d (ℕ_discrete j k);
      others = λ j often e. others j often e (ℕ_discrete j k);
    }
      where
        polled : (j : ℕ) → j < to → j ≢ q.number.0 → Dec (j ≡ k) → IsPolledSince q rows j (waited_for new j)
        polled j i d (yes e) = subst (λ l. IsPolledSince q rows l (waited_for new l)) (sym e) (subst (IsPolledSince q rows k) (sym at) here)
        polled j i d (no n) = let y = x.polled j (few j i n) (as_then j d) in subst (IsPolledSince q rows j) (sym (rest j n)) record { moment = y.moment; last = same j n ∙ y.last; since = as_now y.moment rows y.since }

        others : (j often : ℕ) → waited_for new j ≡ Some often → Dec (j ≡ k) → (j < to) × (j ≢ q.number.0)
        others j often e (yes is) = subst (λ l. (l < to) × (l ≢ q.number.0)) (sym is) (inside, as_later k other)
        others j often e (no n) = let y = x.others j often (sym (rest j n) ∙ e) in (more j y.0, as_later j y.1)

-- what is written in a period
pub waits_same : (period new : Period) (k : ℕ) (waits : Option ℕ) → new.waits ≡ set period.waits k waits → k < length period.waits → waited_for new k ≡ waits
waits_same period new k waits e inside = ap (λ l. get_or l k None) e ∙ get_or-set_same period.waits k waits None inside

pub waits_other : (period new : Period) (k : ℕ) (waits : Option ℕ) → new.waits ≡ set period.waits k waits → (j : ℕ) → j ≢ k → waited_for new j ≡ waited_for period j
waits_other period new k waits e j d = ap (λ l. get_or l j None) e ∙ get_or-set_other period.waits k j waits None d

module _ (allows : Layout → History → ℕ → Type 0) (p q : SeatedPass) (goes : HasGoneOnResting allows p q) where
  -- a first look
  pub takes_in : (k : ℕ) (waits : Option ℕ) (old new : Period) → k ≢ p.number.0 → new.waits ≡ set old.waits k waits → k < length old.waits → HasLookedFirst k waits p q → PollsOn k (k + 1) old new p q
  takes_in k waits old new other e inside x = record {
    keeps = x.keeps;
    period = λ rows y. period_polled p q goes.number goes.planting k (k + 1) k waits old new (omega arith) other (λ j i d. omega (arith, i, d)) (λ j i. omega (arith, i)) (waits_same old new k waits e inside) (waits_other old new k waits e) x.others rows (knows_more allows p q goes)
        record { moment = q.known; last = x.last; since = ends_trans (history_of q.planting q.known) (history_of q.planting p.known) (history_of q.planting rows) (knows_more allows p q goes) (as_now p q goes.number goes.planting p.known rows y.began) }
        y;
  }

  -- and another, at a pass that was waited for
  pub asked_again : (count k seen : ℕ) (waits : Option ℕ) (old new : Period) → waited_for old k ≡ Some seen → new.waits ≡ set old.waits k waits → k < length old.waits → (rows : List Row) → HasPeriod count p rows old → HasLookedAgain k seen waits p q → PollsOn count count old new p q
  asked_again count k seen waits old new is e inside some period x = record {
    keeps = (look some period).1.keeps;
    period = λ rows y. let z = look rows y in
        period_polled p q goes.number goes.planting count count k waits old new (y.others k seen is).0 (y.others k seen is).1 (λ j i d. i) (λ j i. i) (waits_same old new k waits e inside) (waits_other old new k waits e) z.1.others rows (knows_more allows p q goes)
        record { moment = z.0.moment; last = z.1.last; since = as_now p q goes.number goes.planting z.0.moment rows z.0.since }
        y;
  }
    where
      look : (rows : List Row) → HasPeriod count p rows old → (y : IsPolledSince p rows k (Some seen)) × HasPolledOnce k (poll_of k y.moment waits) p q
      look rows y =
          let polled : IsPolledSince p rows k (Some seen) = subst (IsPolledSince p rows k) is (y.polled k (y.others k seen is).0 (y.others k seen is).1) in
          (polled, x polled.moment polled.last)

-- a step of upkeep leaves a period that leaves the polls
pub period_goes_on : (allows : Layout → History → ℕ → Type 0) (p q : SeatedPass) → HasGoneOnResting allows p q → q.memory.polls ≡ p.memory.polls → (count : ℕ) (rows : List Row) (period : Period) → HasPeriod count p rows period → HasPeriod count q rows period
period_goes_on allows p q goes same count rows period = period_stays p q goes.number goes.planting count rows period (knows_more allows p q goes) same

-- a rest in a period is one since it began
pub rests_since : (allows : Layout → History → ℕ → Type 0) (p q : SeatedPass) → HasGoneOnResting allows p q → RemembersRest p q → (count : ℕ) (rows : List Row) (period : Period) → HasPeriod count p rows period → HasPeriod count q rows period × (q.memory.away ≡ false) × Extends (history_of q.planting q.memory.rested) (history_of q.planting rows)
rests_since allows p q goes is count rows period x =
    let now : HasPeriod count q rows period = period_goes_on allows p q goes (ap (λ (m : PassMemory). m.polls) is) count rows period x in (
      now,
      ap (λ (m : PassMemory). m.away) is,
      subst (λ l. Extends (history_of q.planting l) (history_of q.planting rows)) (sym (ap (λ (m : PassMemory). m.rested) is)) now.began,
    )

-- where no step is made
pub passes_itself : (p : SeatedPass) (old : Period) → PollsOn p.number.0 (p.number.0 + 1) old old p p
passes_itself p old = record {
  keeps = keeps_all p.memory;
  period = λ rows y. record {
    began = y.began;
    polled = λ j i d. y.polled j (omega (arith, i, d)) d;
    others = λ j often e. let z = y.others j often e in (omega (arith, z.0), z.1);
  };
}

pub asks_none : (count : ℕ) (p : SeatedPass) (old : Period) → PollsOn count count old old p p
asks_none count p old = record { keeps = keeps_all p.memory; period = λ rows y. y }

pub polls_on : (a b c : ℕ) (x y z : Period) (p q r : SeatedPass) → PollsOn a b x y p q → PollsOn b c y z q r → PollsOn a c x z p r
polls_on a b c x y z p q r one two = record { keeps = keeps_on p.memory q.memory r.memory one.keeps two.keeps; period = λ rows k. two.period rows (one.period rows k) }

-- a period that has polled nobody yet
pub begins_period : (count : ℕ) (old new : Period) (p q : SeatedPass) → WaitsForNobody old → PollsOn 0 count old new p q → BeginsPeriod count new p q
begins_period count old new p q none x = record {
  keeps = x.keeps;
  begins = x.period p.known record { began = ends_self (history_of p.planting p.known); polled = λ k i d. absurd (let y : k < 0 = i in omega (arith, y)); others = λ k often e. absurd (let y : None ≡ Some often = sym (none k) ∙ e in cc) };
}

-- once nobody is waited for, and the pass itself has rested since, all have
pub all_rested : (lay : Layout) (q : SeatedPass) (rows : List Row) (period : Period) → WaitsForNobody period → HasPeriod lay.passes q rows period → q.memory.away ≡ false → Extends (history_of q.planting q.memory.rested) (history_of q.planting rows) → HasSeenAllRest lay q rows
all_rested lay q rows period over x there own = record {
  there = there;
  own = own;
  others = λ k i d. let y : IsPolledSince q rows k None = subst (IsPolledSince q rows k) (over k) (x.polled k i d) in (y.moment, last_among k q.memory.polls (poll_of k y.moment None) y.last, y.since);
}

-- a list that has nothing has nothing anywhere
pub nobody : (n k : ℕ) → (let none : Option ℕ = None in get_or (replicate n none) k none ≡ none)
nobody n k = go (dec_lt k n)
  where
    none : Option ℕ
    none = None

    go : Dec (k < n) → get_or (replicate n none) k none ≡ none
    go (yes i) = get_or-replicate n k none none i
    go (no d) = let size = length-replicate n none in get_or_past (replicate n none) k none (omega (arith, d, size))

-- an answer that is none tells what its clause says of that
pub over_if : (waits : Option PassNo) (over : Type 0) (first : PassNo → Type 0) → is_some waits ≡ false → MatchOption waits over first → over
over_if None over first e x = x
over_if (Some k) over first e x = absurd (let y : true ≡ false = e in cc)
