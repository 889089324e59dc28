-- What a pass keeps of its rests and slots stays right while it makes calls, and as it rests.
use Rattle.std.proofs.Common.{◌≡◌, ◌≢◌, ◌<◌, ◌≤◌, ◌+◌, ◌⊎◌, ℕ, suc, false, List, [], ◌∷◌, Option, Some, None, IfSome, MatchOption, slice_get, inl, inr, refl, sym, ◌∙◌, ap, subst, arith}
use Rattle.arena.specs.declared.number.PassNo.{PassNo}
use Rattle.arena.proofs.Lemmas.{ends_self, ends_trans}
use Rattle.histories.specs.Common.{Layout, Row, History, Extends, IsOwnNode, IsTakenNode}
use Rattle.planting.specs.Plantings.{PlantingView}
use Rattle.resting.proofs.Lemmas.{taken_node_since}
use Rattle.slots.specs.Lasting.{Lasting}
use Rattle.tables.specs.LastingNotes.{HasSeenAllRest, IsAmongThese, memory_away, memory_rested}
use Rattle.tables.specs.TableRule.{history_of, past_of}
use Rattle.upkeep.specs.UpkeepBook.{AreLostBy, HasPeriodEnded, HasTurnedBook, IsBook, IsLostBy, KeepsRests, SparesOthers, dealt_of, turn_of}
use Rattle.upkeep.specs.UpkeepKeeper.{AwaitsNobody, DealsNoMore, HasLostBy, HasTakenByRest, HasTakenRest, HasTurnedSlots, IsAwaited, IsBack, IsBackDuring, IsKeeper, KeepsBooks, KeepsSlotsSince, LosesNone, RunsSince, StaysOut}
use Rattle.upkeep.specs.UpkeepPeriod.{BeginsPeriod, HasPeriod}
use Rattle.upkeep.specs.UpkeepSteps.{HasGoneOnResting, KeepsSlots, RemembersLeaving, RemembersRest, RestsOn}
use Rattle.tables.specs.declared.memory.PassMemory.{PassMemory}
use Rattle.upkeep.specs.declared.book.OwnSlots.{OwnSlots}
use Rattle.upkeep.specs.declared.keeper.Keeper.{Keeper}
use Rattle.upkeep.specs.declared.kind.RecordKind.{RecordKind}
use Rattle.upkeep.specs.declared.kind.RecordKind.TheVariants.{Node, Scx}
use Rattle.upkeep.specs.declared.period.Period.{Period}
use Rattle.tables.specs.declared.view.SeatedPass.{SeatedPass}
use Rattle.tables.specs.declared.view.SeatView.{SeatView}
use Rattle.upkeep.proofs.UpkeepPeriod.{period_stays, rests_since}
use Rattle.upkeep.proofs.UpkeepSteps.{knows_more}
use Rattle.upkeep.proofs.UpkeepTurn.{from_pass}
use Rattle.upkeep.proofs.UpkeepTurns.{all_lost_as, lost_as, own_on, rest_as, slot_kept}

-- Slots

-- what is remembered of names and words is the same
pub spares_equal : (t : Lasting) (m n : PassMemory) → n.notes ≡ m.notes → n.holds ≡ m.holds → n.empty ≡ m.empty → n.zeros ≡ m.zeros → SparesOthers t (λ r. ⊥) m n
spares_equal t m n notes holds empty zeros = record {
  notes = λ x i. subst (IsAmongThese x) (sym notes) i;
  holds = λ x i d. subst (IsAmongThese x) (sym holds) i;
  empty = λ x i d. subst (IsAmongThese x) (sym empty) i;
  zeros = λ w i d. subst (IsAmongThese w) (sym zeros) i;
}

same_dealt : (kind : RecordKind) (m n : PassMemory) → DealsNoMore m n → dealt_of kind n ≡ dealt_of kind m
same_dealt Node m n same = same.nodes_to
same_dealt Scx m n same = same.scx_to

-- nodes are no SCX-records
pub kinds_apart : (one other : RecordKind) → one ≡ Node → other ≡ Scx → one ≢ other
kinds_apart Node Scx x y e = absurd cc
kinds_apart Node Node x y e = absurd cc
kinds_apart Scx Node x y e = absurd cc
kinds_apart Scx Scx x y e = absurd cc

module _ (t : Lasting) (p q : SeatedPass) (number : q.number ≡ p.number) (planting : q.planting ≡ p.planting) (spares : SparesOthers t (λ r. ⊥) p.memory q.memory) (deals : DealsNoMore p.memory q.memory) where
  -- what a pass knows of its slots is so later, if it remembers the same of names and words
  pub book_on : (rows later : List Row) → Extends (history_of p.planting later) (history_of p.planting rows) → (own : OwnSlots) → IsBook t p rows own → IsBook t q later own
  book_on rows later on own book = record {
    all = own_on t p q own own record { kind = refl; first = refl; turn = refl; end = refl; dealt = refl; count = refl; lost = λ i x there is. there } number (same_dealt own.kind p.memory q.memory deals) book.all;
    slots = λ i x from to is. slot_kept t p q number planting (λ r. ⊥) spares own.kind (own.first + i) (λ e. e) rows later on x (book.slots i x from to is);
  }

  -- and so is what it keeps
  pub slots_on : (rows later : List Row) (old new : Keeper) → Extends (history_of p.planting later) (history_of p.planting rows) → Extends (past_of q []) (history_of q.planting later) → Extends (past_of q []) (history_of q.planting q.memory.rested) → new.often ≡ q.memory.often → new.nodes ≡ old.nodes → new.scxs ≡ old.scxs → KeepsSlotsSince t p rows old → KeepsSlotsSince t q later new
  slots_on rows later old new on known rested often nodes scxs x = record {
    known = known;
    rested = rested;
    often = often;
    node_kind = ap (λ (o : OwnSlots). o.kind) nodes ∙ x.node_kind;
    scx_kind = ap (λ (o : OwnSlots). o.kind) scxs ∙ x.scx_kind;
    nodes = subst (IsBook t q later) (sym nodes) (book_on rows later on old.nodes x.nodes);
    scxs = subst (IsBook t q later) (sym scxs) (book_on rows later on old.scxs x.scxs);
  }

-- Calls

-- a period goes on as the pass knows more
pub runs_on : (p q : SeatedPass) → q.number ≡ p.number → q.planting ≡ p.planting → Extends (past_of q []) (history_of q.planting p.known) → q.memory.polls ≡ p.memory.polls → (count : ℕ) (rows : List Row) (period : Option Period) → RunsSince count p rows period → RunsSince count q rows period
runs_on p q number planting more same count rows None x = tt
runs_on p q number planting more same count rows (Some period) x = period_stays p q number planting count rows period more same x

-- what a pass keeps is right after its calls, which leave what it remembers, but for what is lost
books_stay : (t : Lasting) (p q : SeatedPass) → q.number ≡ p.number → q.layout ≡ p.layout → q.planting ≡ p.planting → q.memory ≡ p.memory → Extends (past_of q []) (past_of p []) → (keeper : Keeper) → KeepsBooks t p keeper → KeepsBooks t q keeper
books_stay t p q number layout planting memory more keeper x =
    let same : (A : PassMemory → Type 0) → A p.memory → A q.memory = λ A y. subst A (sym memory) y in
    let now : Extends (past_of q []) (history_of q.planting p.known) = subst (λ (l : PlantingView). Extends (past_of q []) (history_of l p.known)) (sym planting) more in
    let since : Extends (history_of q.planting p.known) (history_of q.planting x.since) = subst (λ (l : PlantingView). Extends (history_of l p.known) (history_of l x.since)) (sym planting) x.slots.known in record {
      there = same (λ m. (keeper.often < 4611686018427387904) ⊎ (m.away ≡ false)) x.there;
      since = x.since;
      slots = slots_on t p q number planting
          (same (λ m. SparesOthers t (λ r. ⊥) p.memory m) (spares_equal t p.memory p.memory refl refl refl refl))
          (same (λ m. DealsNoMore p.memory m) record { nodes_to = refl; scx_to = refl })
          x.since x.since keeper keeper (ends_self (history_of p.planting x.since)) (ends_trans _ _ _ now since)
          (same (λ m. Extends (past_of q []) (history_of q.planting m.rested)) (ends_trans _ _ _ now (subst (λ (l : PlantingView). Extends (history_of l p.known) (history_of l p.memory.rested)) (sym planting) x.slots.rested)))
          (x.slots.often ∙ ap (λ (m : PassMemory). m.often) (sym memory)) refl refl x.slots;
      period = runs_on p q number planting now (ap (λ (m : PassMemory). m.polls) memory) t.table.passes x.since keeper.period x.period;
    }

-- What is lost

-- what is lost of a book, stays so if all of it stays out
book_lost_on : (p q : SeatedPass) → q.layout ≡ p.layout → q.number ≡ p.number → StaysOut p q → (own : OwnSlots) → AreLostBy p.layout p.number.0 (past_of p []) own → AreLostBy q.layout q.number.0 (past_of q []) own
book_lost_on p q layout number out own x i y there lost = lost_as p q layout number (past_of q []) (past_of q []) refl own.kind own.kind y.name refl (still own.kind (x i y there lost))
  where
    still : (kind : RecordKind) → IsLostBy p.layout p.number.0 (past_of p []) kind y.name → IsLostBy p.layout p.number.0 (past_of q []) kind y.name
    still Node z = out y.name z
    still Scx z = z

pub lost_on : (p q : SeatedPass) → q.layout ≡ p.layout → q.number ≡ p.number → StaysOut p q → (keeper : Keeper) → HasLostBy p p.known keeper → HasLostBy q q.known keeper
lost_on p q layout number out keeper x = record { nodes = book_lost_on p q layout number out keeper.nodes x.nodes; scxs = book_lost_on p q layout number out keeper.scxs x.scxs }

-- as long as the pass does not rest again
pub lost_again : (p q : SeatedPass) → q.layout ≡ p.layout → q.number ≡ p.number → q.planting ≡ p.planting → q.memory.rested ≡ p.memory.rested → (keeper : Keeper) → HasLostBy p p.memory.rested keeper → HasLostBy q q.memory.rested keeper
lost_again p q layout number planting rested keeper x = record {
  nodes = all_lost_as p q layout number _ _ (rest_as p q planting rested) keeper.nodes x.nodes;
  scxs = all_lost_as p q layout number _ _ (rest_as p q planting rested) keeper.scxs x.scxs;
}

-- as it rests
pub lost_at_rest : (q : SeatedPass) (keeper : Keeper) → q.memory.rested ≡ q.known → HasLostBy q q.known keeper → HasLostBy q q.memory.rested keeper
lost_at_rest q keeper e = subst (λ rows. HasLostBy q rows keeper) (sym e)

-- What was taken as it rested

-- a node of the pass's own was that before
own_before : (p q : SeatedPass) → q.layout ≡ p.layout → q.number ≡ p.number → (n : ℕ) → IsOwnNode q.layout q.number.0 n → IsOwnNode p.layout p.number.0 n
own_before p q layout number n own = subst (λ (l : Layout). IsOwnNode l p.number.0 n) layout (subst (λ (k : PassNo). IsOwnNode q.layout k.0 n) number own)

-- so it was still, as long as the pass does not rest again
pub taken_again : (p q : SeatedPass) → q.layout ≡ p.layout → q.number ≡ p.number → q.planting ≡ p.planting → q.memory.rested ≡ p.memory.rested → (next : ℕ) → HasTakenByRest p next → HasTakenByRest q next
taken_again p q layout number planting rested next x n own less =
    subst (λ h. IsTakenNode h n) (sym (rest_as p q planting rested)) (x n (own_before p q layout number n own) less)

-- as it has just rested
pub taken_now : (q : SeatedPass) (next : ℕ) → q.memory.rested ≡ q.known → ((n : ℕ) → IsOwnNode q.layout q.number.0 n → n < next → IsTakenNode (past_of q []) n) → HasTakenByRest q next
taken_now q next is taken n own less = subst (λ rows. IsTakenNode (history_of q.planting rows) n) (sym is) (taken n own less)

-- if no other slot is lost
pub lost_of : (p : SeatedPass) (rows : List Row) (old new : Keeper) → LosesNone old new → HasLostBy p rows old → HasLostBy p rows new
lost_of p rows old new none x = record {
  nodes = λ i y there lost. subst (λ (k : RecordKind). IsLostBy p.layout p.number.0 (history_of p.planting rows) k y.name) (sym none.node_kind) (x.nodes i y (none.nodes i y there lost) lost);
  scxs = λ i y there lost. subst (λ (k : RecordKind). IsLostBy p.layout p.number.0 (history_of p.planting rows) k y.name) (sym none.scx_kind) (x.scxs i y (none.scxs i y there lost) lost);
}

pub loses_on : (a b c : Keeper) → LosesNone a b → LosesNone b c → LosesNone a c
loses_on a b c x y = record {
  node_kind = y.node_kind ∙ x.node_kind;
  scx_kind = y.scx_kind ∙ x.scx_kind;
  nodes = λ i z there lost. x.nodes i z (y.nodes i z there lost) lost;
  scxs = λ i z there lost. x.scxs i z (y.scxs i z there lost) lost;
}

-- where the slots are the same
pub loses_nothing : (old new : Keeper) → new.nodes ≡ old.nodes → new.scxs ≡ old.scxs → LosesNone old new
loses_nothing old new nodes scxs = record {
  node_kind = ap (λ (o : OwnSlots). o.kind) nodes;
  scx_kind = ap (λ (o : OwnSlots). o.kind) scxs;
  nodes = λ i x there lost. subst (λ (o : OwnSlots). slice_get o.slots.items i ≡ Some x) nodes there;
  scxs = λ i x there lost. subst (λ (o : OwnSlots). slice_get o.slots.items i ≡ Some x) scxs there;
}

-- What a pass keeps is right after its calls, which leave what it remembers, if what it has lost
-- stays out.
pub keeper_stays : (t : Lasting) (p q : SeatedPass) → q.number ≡ p.number → q.layout ≡ p.layout → q.planting ≡ p.planting → q.memory ≡ p.memory → Extends (past_of q []) (past_of p []) → StaysOut p q → (keeper : Keeper) → IsKeeper t p keeper → IsKeeper t q keeper
keeper_stays t p q number layout planting memory more out keeper x = record {
  books = books_stay t p q number layout planting memory more keeper x.books;
  lost = lost_on p q layout number out keeper x.lost;
  taken = taken_again p q layout number planting (ap (λ (m : PassMemory). m.rested) memory) keeper.taken x.taken;
}

-- Rests

deals_on : (l m n : PassMemory) → DealsNoMore l m → DealsNoMore m n → DealsNoMore l n
deals_on l m n x y = record { nodes_to = y.nodes_to ∙ x.nodes_to; scx_to = y.scx_to ∙ x.scx_to }

pub polls_deal : (m n : PassMemory) → KeepsSlots m n → DealsNoMore m n
polls_deal m n x = record { nodes_to = x.nodes_to; scx_to = x.scx_to }

pub turns_deal : (m n : PassMemory) → KeepsRests m n → DealsNoMore m n
turns_deal m n x = record { nodes_to = x.nodes_to; scx_to = x.scx_to }

pub rest_deals : (p q : SeatedPass) → RemembersRest p q → DealsNoMore p.memory q.memory
rest_deals p q e = record { nodes_to = ap (λ (m : PassMemory). m.nodes_to) e; scx_to = ap (λ (m : PassMemory). m.scx_to) e }

pub away_deals : (p q : SeatedPass) → RemembersLeaving p q → DealsNoMore p.memory q.memory
away_deals p q e = record { nodes_to = ap (λ (m : PassMemory). m.nodes_to) e; scx_to = ap (λ (m : PassMemory). m.scx_to) e }

-- a rest that began with something else by which no more names are dealt
pub rested_after : (t : Lasting) (keeper : Keeper) (p q r : SeatedPass) → DealsNoMore p.memory q.memory → HasTakenRest t keeper q r → HasTakenRest t keeper p r
rested_after t keeper p q r deals x = record { kept = x.kept; there = x.there; taken = x.taken; deals = deals_on p.memory q.memory r.memory deals x.deals }

-- one that could not come back is there
pub stays_there : (t : Lasting) (p : SeatedPass) (keeper : Keeper) → 4611686018427387904 ≤ keeper.often → KeepsBooks t p keeper → p.memory.away ≡ false
stays_there t p keeper many x = go x.there
  where
    go : (keeper.often < 4611686018427387904) ⊎ (p.memory.away ≡ false) → p.memory.away ≡ false
    go (inl few) = absurd (omega (arith, few, many))
    go (inr e) = e

pub deals_same : (m : PassMemory) → DealsNoMore m m
deals_same m = record { nodes_to = refl; scx_to = refl }

-- where no period begins
pub not_begun : (t : Lasting) (p : SeatedPass) (keeper : Keeper) → KeepsBooks t p keeper → p.memory.away ≡ false → HasTakenByRest p keeper.taken → HasTakenRest t keeper p p
not_begun t p keeper x there taken = record { kept = x; there = there; taken = taken; deals = deals_same p.memory }

-- where nothing is done
pub rests_no_more : (t : Lasting) (p : SeatedPass) (keeper : Keeper) → 4611686018427387904 ≤ keeper.often → IsKeeper t p keeper → HasTakenRest t keeper p p
rests_no_more t p keeper many x = not_begun t p keeper x.books (stays_there t p keeper many x.books) x.taken

module _ (allows : Layout → History → ℕ → Type 0) (t : Lasting) (p q : SeatedPass) (goes : HasGoneOnResting allows p q) where
  -- a moment that the pass knew, it knows
  still_known : (rows : List Row) → Extends (past_of p []) (history_of p.planting rows) → Extends (past_of q []) (history_of q.planting rows)
  still_known rows known = ends_trans (past_of q []) (history_of q.planting p.known) (history_of q.planting rows) (knows_more allows p q goes) (subst (λ (l : PlantingView). Extends (history_of l p.known) (history_of l rows)) (sym goes.planting) known)

  -- once the pass has rested
  module _ (is : RemembersRest p q) (old new : Keeper) (often : new.often ≡ old.often + 1) (nodes : new.nodes ≡ old.nodes) (scxs : new.scxs ≡ old.scxs) where
    pub back_now : (rows : List Row) → KeepsSlotsSince t p rows old → IsBack t q rows new
    back_now rows x = record {
      slots = slots_on t p q goes.number goes.planting (subst (λ (m : PassMemory). SparesOthers t (λ r. ⊥) p.memory m) (sym is) (spares_equal t p.memory (memory_rested p.memory q.known) refl refl refl refl)) (rest_deals p q is) rows rows old new (ends_self (history_of p.planting rows)) (still_known rows x.known)
          (subst (λ (m : PassMemory). Extends (past_of q []) (history_of q.planting m.rested)) (sym is) (ends_self (past_of q [])))
          (let was = x.often in let now : q.memory.often ≡ suc p.memory.often = ap (λ (m : PassMemory). m.often) is in omega (arith, often, was, now)) nodes scxs x;
      there = ap (λ (m : PassMemory). m.away) is;
    }

    pub back_during : (rows : List Row) (period : Period) → HasPeriod t.table.passes p rows period → KeepsSlotsSince t p rows old → IsBackDuring t q rows period new
    back_during rows period runs x = let since = rests_since allows p q goes is t.table.passes rows period runs in record { back = back_now rows x; rested = since.2; runs = since.0 }

    period_rested : (rows : List Row) (period : Option Period) → RunsSince t.table.passes p rows period → RunsSince t.table.passes q rows period
    period_rested rows None x = tt
    period_rested rows (Some period) x = (rests_since allows p q goes is t.table.passes rows period x).0

    books_back : new.period ≡ old.period → KeepsBooks t p old → KeepsBooks t q new
    books_back period x = let back = back_now x.since x.slots in record {
      there = inr back.there;
      since = x.since;
      slots = back.slots;
      period = subst (RunsSince t.table.passes q x.since) (sym period) (period_rested x.since old.period x.period);
    }

    -- and keeps what is right
    pub rested_now : new.period ≡ old.period → HasTakenByRest q new.taken → KeepsBooks t p old → HasTakenRest t new p q
    rested_now period taken x = record { kept = books_back period x; there = ap (λ (m : PassMemory). m.away) is; taken = taken; deals = rest_deals p q is }

    taken_back : Extends (past_of p []) (history_of p.planting p.memory.rested) → HasTakenByRest p old.taken → HasTakenByRest q old.taken
    taken_back rested x n own less = taken_node_since (history_of q.planting q.memory.rested) (history_of q.planting p.memory.rested) n
        (subst (λ (m : PassMemory). Extends (history_of q.planting m.rested) (history_of q.planting p.memory.rested)) (sym is) (still_known p.memory.rested rested))
        (subst (λ (l : PlantingView). IsTakenNode (history_of l p.memory.rested) n) (sym goes.planting) (x n (own_before p q goes.layout goes.number n own) less))

    pub keeper_back : new.period ≡ old.period → new.taken ≡ old.taken → StaysOut p q → IsKeeper t p old → IsKeeper t q new
    keeper_back period taken out x = record {
      books = books_back period x.books;
      lost = lost_of q q.known old new (loses_nothing old new nodes scxs) (lost_on p q goes.layout goes.number out old x.lost);
      taken = subst (HasTakenByRest q) (sym taken) (taken_back x.books.slots.rested x.taken);
    }

  -- once the pass is away
  module _ (is : RemembersLeaving p q) (keeper : Keeper) (few : keeper.often < 4611686018427387904) where
    books_away : KeepsBooks t p keeper → KeepsBooks t q keeper
    books_away x = record {
      there = inl few;
      since = x.since;
      slots = slots_on t p q goes.number goes.planting (subst (λ (m : PassMemory). SparesOthers t (λ r. ⊥) p.memory m) (sym is) (spares_equal t p.memory (memory_away p.memory) refl refl refl refl)) (away_deals p q is) x.since x.since keeper keeper (ends_self (history_of p.planting x.since)) (still_known x.since x.slots.known)
          (subst (λ (m : PassMemory). Extends (past_of q []) (history_of q.planting m.rested)) (sym is) (still_known p.memory.rested x.slots.rested))
          (x.slots.often ∙ sym (ap (λ (m : PassMemory). m.often) is)) refl refl x.slots;
      period = runs_on p q goes.number goes.planting (knows_more allows p q goes) (ap (λ (m : PassMemory). m.polls) is) t.table.passes x.since keeper.period x.period;
    }

    pub keeper_away : StaysOut p q → IsKeeper t p keeper → IsKeeper t q keeper
    keeper_away out x = record {
      books = books_away x.books;
      lost = lost_on p q goes.layout goes.number out keeper x.lost;
      taken = taken_again p q goes.layout goes.number goes.planting (ap (λ (m : PassMemory). m.rested) is) keeper.taken x.taken;
    }

  module _ (polls : KeepsSlots p.memory q.memory) (old new : Keeper) (often : new.often ≡ old.often) (nodes : new.nodes ≡ old.nodes) (scxs : new.scxs ≡ old.scxs) where
    -- as others are polled
    slots_polled : (rows later : List Row) → Extends (history_of p.planting later) (history_of p.planting rows) → Extends (past_of q []) (history_of q.planting later) → KeepsSlotsSince t p rows old → KeepsSlotsSince t q later new
    slots_polled rows later on known x = slots_on t p q goes.number goes.planting (spares_equal t p.memory q.memory polls.notes polls.holds polls.empty polls.zeros) (polls_deal p.memory q.memory polls) rows later old new on known
        (subst (λ l. Extends (past_of q []) (history_of q.planting l)) (sym polls.rested) (still_known p.memory.rested x.rested))
        (often ∙ x.often ∙ sym polls.often) nodes scxs x

    pub back_polled : (rows : List Row) → IsBack t p rows old → IsBack t q rows new
    back_polled rows x = record { slots = slots_polled rows rows (ends_self (history_of p.planting rows)) (still_known rows x.slots.known) x.slots; there = polls.away ∙ x.there }

    -- if the period is over
    pub period_ended : (rows : List Row) → IsBack t p rows old → Extends (history_of p.planting p.memory.rested) (history_of p.planting rows) → (Extends (history_of q.planting q.memory.rested) (history_of q.planting rows) → HasSeenAllRest t.lay q rows) → HasPeriodEnded t q rows
    period_ended rows x rested over = record {
      seen = over (subst (λ (l : PlantingView). Extends (history_of l q.memory.rested) (history_of l rows)) (sym goes.planting) (subst (λ l. Extends (history_of p.planting l) (history_of p.planting rows)) (sym polls.rested) rested));
      known = still_known rows x.slots.known;
    }

    -- what was taken as it rested, was so
    module _ (same : new.taken ≡ old.taken) (taken : HasTakenByRest p old.taken) where
      still_taken : HasTakenByRest q new.taken
      still_taken = subst (HasTakenByRest q) (sym same) (taken_again p q goes.layout goes.number goes.planting polls.rested old.taken taken)

      -- where the pass has only looked
      pub looked_on : new.period ≡ old.period → q.memory.polls ≡ p.memory.polls → p.memory.away ≡ false → KeepsBooks t p old → HasTakenRest t new p q
      looked_on period same_polls there x = record {
        kept = record {
          there = inr (polls.away ∙ there);
          since = x.since;
          slots = slots_polled x.since x.since (ends_self (history_of p.planting x.since)) (still_known x.since x.slots.known) x.slots;
          period = subst (RunsSince t.table.passes q x.since) (sym period) (runs_on p q goes.number goes.planting (knows_more allows p q goes) same_polls t.table.passes x.since old.period x.period);
        };
        there = polls.away ∙ there;
        taken = still_taken;
        deals = polls_deal p.memory q.memory polls;
      }

    -- if the period goes on
    pub period_waits : (rows : List Row) (period : Period) → new.period ≡ Some period → HasPeriod t.table.passes q rows period → new.taken ≡ old.taken → HasTakenByRest p old.taken → IsBack t p rows old → HasTakenRest t new p q
    period_waits rows period is runs same taken x = record {
      kept = record { there = inr (polls.away ∙ x.there); since = rows; slots = (back_polled rows x).slots; period = subst (RunsSince t.table.passes q rows) (sym is) runs };
      there = polls.away ∙ x.there;
      taken = still_taken same taken;
      deals = polls_deal p.memory q.memory polls;
    }

  -- as a period begins
  pub begun : (rows : List Row) (old new : Keeper) (period : Period) → new.often ≡ old.often → new.nodes ≡ old.nodes → new.scxs ≡ old.scxs → new.period ≡ Some period → new.taken ≡ old.taken → HasTakenByRest p old.taken → IsBack t p rows old → BeginsPeriod t.table.passes period p q → HasTakenRest t new p q
  begun rows old new period often nodes scxs is same taken x begins = record {
    kept = record {
      there = inr (begins.keeps.away ∙ x.there);
      since = p.known;
      slots = slots_polled begins.keeps old new often nodes scxs rows p.known x.slots.known (knows_more allows p q goes) x.slots;
      period = subst (RunsSince t.table.passes q p.known) (sym is) begins.begins;
    };
    there = begins.keeps.away ∙ x.there;
    taken = still_taken begins.keeps old new often nodes scxs same taken;
    deals = polls_deal p.memory q.memory begins.keeps;
  }

-- as a period is over, and all slots have been gone through
pub over_now : (t : Lasting) (p q : SeatedPass) (old : Keeper) → HasTurnedSlots t old p q → HasTakenByRest q old.taken → HasTakenRest t (record old { period = None }) p q
over_now t p q old x taken = record {
  kept = record {
    there = inr x.there;
    since = q.known;
    slots = record { known = x.slots.known; rested = x.slots.rested; often = x.slots.often; node_kind = x.slots.node_kind; scx_kind = x.slots.scx_kind; nodes = x.slots.nodes; scxs = x.slots.scxs };
    period = tt;
  };
  there = x.there;
  taken = taken;
  deals = x.deals;
}

-- A pass all of whose slots have been gone through: the nodes as it became q, and then the
-- SCX-records.
module _ (allows : Layout → History → ℕ → Type 0) (t : Lasting) (p q r : SeatedPass) (goes : HasGoneOnResting allows p q) (on : HasGoneOnResting allows q r) (old new : Keeper) (often : new.often ≡ old.often) (node_kind : new.nodes.kind ≡ old.nodes.kind) (scx_kind : new.scxs.kind ≡ old.scxs.kind) where
  pub all_turned_on : (rows : List Row) → IsBack t p rows old → HasTurnedBook t new.nodes p q → HasTurnedBook t new.scxs q r → HasTurnedSlots t new p r
  all_turned_on rows x one two = record {
    slots = record {
      known = ends_self (past_of r []);
      rested = subst (λ l. Extends (past_of r []) (history_of r.planting l)) (sym (two.rests.rested ∙ one.rests.rested)) (still_known allows t q r on p.memory.rested (still_known allows t p q goes p.memory.rested x.slots.rested));
      often = often ∙ x.slots.often ∙ sym (two.rests.often ∙ one.rests.often);
      node_kind = is_node;
      scx_kind = is_scx;
      nodes = book_on t r r refl refl (spares_equal t r.memory r.memory refl refl refl refl) record { nodes_to = refl; scx_to = refl } q.known r.known (knows_more allows q r on) new.nodes
          (two.others new.nodes q.known (kinds_apart new.nodes.kind new.scxs.kind is_node is_scx) one.book);
      scxs = two.book;
    };
    there = two.rests.away ∙ one.rests.away ∙ x.there;
    rested = two.rests.rested ∙ one.rests.rested;
    deals = deals_on p.memory q.memory r.memory (turns_deal p.memory q.memory one.rests) (turns_deal q.memory r.memory two.rests);
  }
    where
      is_node : new.nodes.kind ≡ Node
      is_node = node_kind ∙ x.slots.node_kind

      is_scx : new.scxs.kind ≡ Scx
      is_scx = scx_kind ∙ x.slots.scx_kind

-- Whom it waits for

awaited : (count : ℕ) (p : SeatedPass) (rows : List Row) (period : Option Period) → RunsSince count p rows period → (k : ℕ) → IsAwaited period k → (k < count) × (k ≢ p.number.0)
awaited count p rows None x k y = absurd y
awaited count p rows (Some period) x k y = x.others k y.often y.waits

-- another pass of the table
pub waits_for_other : (t : Lasting) (p : SeatedPass) (keeper : Keeper) → IsKeeper t p keeper → (first : Option PassNo) → MatchOption first (AwaitsNobody keeper.period) (λ other. IsAwaited keeper.period other.0) → IfSome first (λ other. (other.0 < t.table.passes) × (other.0 ≢ p.number.0))
waits_for_other t p keeper x None y = tt
waits_for_other t p keeper x (Some other) y = awaited t.table.passes p x.books.since keeper.period x.books.period other.0 y

-- Seats

-- what a step tells of the one pass of a seat, which is p, tells this
pub seat_of : (allows : Layout → History → ℕ → Type 0) (one two : SeatedPass → SeatedPass → Type 0) (v w : SeatView) (p : SeatedPass) → v.passes ≡ p ∷ [] → (x : RestsOn allows one v w) → (HasGoneOnResting allows p x.later → one p x.later → two p x.later) → RestsOn allows two v w
seat_of allows one two v w p alone x to = let y = from_pass allows one v w p alone x in record { pass = p; later = x.later; was = alone; is = x.is; goes_on = y.0; holds = to y.0 y.1 }

-- by how many names on a node has the same slot
pub node_turn_of : (t : Lasting) (p : SeatedPass) (since : List Row) (own : OwnSlots) → own.kind ≡ Node → IsBook t p since own → (0 < own.turn) × (own.turn ≡ t.node_turn)
node_turn_of t p since own kind book = (own.turns.0, book.all.turn ∙ ap (λ (k : RecordKind). turn_of k t) kind)
