-- How a pass that has rested is set to call again, and stays so while its slots get names.
use Rattle.std.proofs.Common.{◌≡◌, ◌<◌, ◌≤◌, ◌+◌, ◌-◌, ◌⊎◌, ℕ, false, List, [], ◌∷◌, length, inr, refl, sym, ◌∙◌, ap, subst, arith}
use Rattle.atomic_table.specs.declared.shared.Seat.{Seat}
use Rattle.arena.proofs.Lemmas.{ends_trans}
use Rattle.arena.specs.declared.number.PassNo.{PassNo}
use Rattle.histories.specs.Common.{Layout, Remaining, Row, History, Extends, IsRun}
use Rattle.planting.specs.Plantings.{PlantingView}
use Rattle.prims.specs.Moments.{AreFinished}
use Rattle.prims.specs.Shares.{IsShare, share_end}
use Rattle.prims.proofs.Lemmas.{all_over}
use Rattle.slots.specs.Lasting.{Lasting}
use Rattle.tables.specs.Shares.{EndsAsDealt}
use Rattle.tables.specs.TableRule.{history_of, past_of}
use Rattle.tables.specs.Seats.{IsSameSeat}
use Rattle.upkeep.specs.UpkeepBook.{IsAtLasting, IsBook, count_own, dealt_of}
use Rattle.upkeep.specs.UpkeepDeals.{AreSlotsStill, DealsOn, HasDealt, HasGoneOnDealing, HasShareLeft, KeepsPolls, many_left, next_of, with_left}
use Rattle.upkeep.specs.UpkeepKeeper.{DealsNoMore, HasTakenRest, IsBetween, IsSetToDeal, IsStillSet, RunsSince}
use Rattle.upkeep.specs.UpkeepSteps.{HasGoneOnResting}
use Rattle.tables.specs.declared.memory.PassMemory.{PassMemory}
use Rattle.upkeep.specs.declared.book.OwnSlots.{OwnSlots}
use Rattle.upkeep.specs.declared.keeper.Keeper.{Keeper}
use Rattle.upkeep.specs.declared.kind.RecordKind.{RecordKind}
use Rattle.upkeep.specs.declared.kind.RecordKind.TheVariants.{Node, Scx}
use Rattle.tables.specs.declared.view.SeatedPass.{SeatedPass}
use Rattle.tables.specs.declared.view.SeatView.{SeatView}
use Rattle.tables.specs.declared.words.Words.{Words}
use Rattle.tables.proofs.Ruled.{same_pass}
use Rattle.upkeep.proofs.UpkeepDeals.{deals_as, deals_on, left_on}
use Rattle.upkeep.proofs.UpkeepKeeper.{kinds_apart, runs_on}
use Rattle.upkeep.proofs.UpkeepLooks.{passes_in}
use Rattle.upkeep.proofs.UpkeepSteps.{extends_known}

-- the pass is one of those of its layout
pub own_pass : {S : Type 0} (words : Words S) (lay : Layout) (seat : Seat ℕ SeatView) (p : SeatedPass) → IsAtLasting words lay seat p → p.number.0 < p.layout.passes
own_pass words lay seat p at = subst (λ (l : Layout). p.number.0 < l.passes) (sym at.names) (passes_in words lay seat p at)

-- After a rest

-- the pass is there by then, whether or not it was
pub left_rested : (allows : Layout → History → ℕ → Type 0) (p q : SeatedPass) (left : Remaining) → HasGoneOnResting allows p q → q.memory.away ≡ false → p.number.0 < p.layout.passes → IsRun allows p.layout (past_of p []) → IsBetween p left → HasShareLeft allows q left
left_rested allows p q left goes there is_pass run between =
    let was : SeatedPass = record p { memory = record p.memory { away = false } } in
    left_on allows was q left record { number = goes.number; layout = goes.layout; planting = goes.planting; others = goes.others; by_others = goes.by_others; known = goes.known; sound = goes.sound } there
    record { is_pass = is_pass; run = run; there = refl; share = between.share; over = between.over }

pub ends_still : (m n : PassMemory) (left : Remaining) → DealsNoMore m n → EndsAsDealt left m → EndsAsDealt left n
ends_still m n left same x = x ∙ ap (λ k. (k, m.scx_to)) (sym same.nodes_to) ∙ ap (λ k. (n.nodes_to, k)) (sym same.scx_to)

pub set_rested : (allows : Layout → History → ℕ → Type 0) (t : Lasting) (keeper : Keeper) (p q : SeatedPass) (left : Remaining) → HasGoneOnResting allows p q → p.number.0 < p.layout.passes → IsRun allows p.layout (past_of p []) → IsBetween p left → EndsAsDealt left p.memory → HasTakenRest t keeper p q → IsSetToDeal allows t q left keeper
set_rested allows t keeper p q left goes is_pass run between ends x = record {
  kept = x.kept;
  has = left_rested allows p q left goes x.there is_pass run between;
  ends = ends_still p.memory q.memory left x.deals ends;
}

-- As slots get names

ends_dealt : (kind : RecordKind) (m n : PassMemory) (left : Remaining) (to d : ℕ) → EndsAsDealt left m → dealt_of kind n ≡ d → to ≤ d → KeepsPolls kind m n → EndsAsDealt (with_left kind left to (d - to)) n
unfolding share_end
ends_dealt Node m n left to d e is less keeps =
    let first : to + (d - to) ≡ n.nodes_to = omega (arith, is, less) in
    let second : left.next_scx + left.scx ≡ n.scx_to = ap (λ (x : ℕ × ℕ). x.1) e ∙ sym (keeps.others Scx (λ z. cc)) in
    ap (λ k. (k, left.next_scx + left.scx)) first ∙ ap (λ k. (n.nodes_to, k)) second
ends_dealt Scx m n left to d e is less keeps =
    let first : left.next_node + left.nodes ≡ n.nodes_to = ap (λ (x : ℕ × ℕ). x.0) e ∙ sym (keeps.others Node (λ z. cc)) in
    let second : to + (d - to) ≡ n.scx_to = omega (arith, is, less) in
    ap (λ k. (k, to + (d - to))) first ∙ ap (λ k. (n.nodes_to, k)) second

-- the pass knows more by then
pub known_dealing : (p q : SeatedPass) → HasGoneOnDealing p q → Extends (past_of q []) (history_of q.planting p.known)
known_dealing p q x = subst (λ l. Extends (history_of q.planting l) (history_of q.planting p.known)) (sym x.known) (extends_known q.planting x.more p.known)

module _ (allows : Layout → History → ℕ → Type 0) (t : Lasting) (p q : SeatedPass) (goes : HasGoneOnDealing p q) (left : Remaining) (old new : Keeper) (often : new.often ≡ old.often) (period : new.period ≡ old.period) (x : IsSetToDeal allows t p left old) where
  known_since : Extends (past_of q []) (history_of q.planting x.kept.since)
  known_since = ends_trans (past_of q []) (history_of q.planting p.known) (history_of q.planting x.kept.since) (known_dealing p q goes)
      (subst (λ (l : PlantingView). Extends (history_of l p.known) (history_of l x.kept.since)) (sym goes.planting) x.kept.slots.known)

  still_there : (kind : RecordKind) → KeepsPolls kind p.memory q.memory → (new.often < 4611686018427387904) ⊎ (q.memory.away ≡ false)
  still_there kind keeps = inr (keeps.away ∙ x.has.there)

  runs_still : (kind : RecordKind) → KeepsPolls kind p.memory q.memory → RunsSince t.table.passes q x.kept.since new.period
  runs_still kind keeps = subst (RunsSince t.table.passes q x.kept.since) (sym period) (runs_on p q goes.number goes.planting (known_dealing p q goes) keeps.polls t.table.passes x.kept.since old.period x.kept.period)

  -- nodes
  pub set_nodes : (from to : ℕ) → from ≡ left.next_node → new.scxs ≡ old.scxs → AreSlotsStill old.nodes new.nodes → to ≤ new.nodes.dealt → HasDealt allows t old.nodes new.nodes from to p q → IsSetToDeal allows t q (with_left Node left to (new.nodes.dealt - to)) new
  set_nodes from to is_from scxs still less dealt =
      let keeps : KeepsPolls Node p.memory q.memory = subst (λ (k : RecordKind). KeepsPolls k p.memory q.memory) x.kept.slots.node_kind dealt.keeps in
      let kind : new.nodes.kind ≡ Node = still.kind ∙ x.kept.slots.node_kind in
      let book : IsBook t q x.kept.since new.nodes = dealt.book x.kept.since x.kept.slots.nodes in record {
        kept = record {
          there = still_there Node keeps;
          since = x.kept.since;
          slots = record {
            known = known_since;
            rested = dealt.rested x.kept.slots.rested;
            often = often ∙ x.kept.slots.often ∙ sym keeps.often;
            node_kind = kind;
            scx_kind = ap (λ (o : OwnSlots). o.kind) scxs ∙ x.kept.slots.scx_kind;
            nodes = book;
            scxs = subst (IsBook t q x.kept.since) (sym scxs) (dealt.others old.scxs x.kept.since (λ e. kinds_apart old.nodes.kind old.scxs.kind x.kept.slots.node_kind x.kept.slots.scx_kind (sym e)) x.kept.slots.scxs);
          };
          period = runs_still Node keeps;
        };
        has = subst (λ (k : RecordKind). HasShareLeft allows q (with_left k left to (new.nodes.dealt - to))) x.kept.slots.node_kind
            (dealt.left left x.has (ap (λ (k : RecordKind). next_of k left) x.kept.slots.node_kind ∙ sym is_from));
        ends = ends_dealt Node p.memory q.memory left to new.nodes.dealt x.ends (sym (book.all.dealt ∙ ap (λ (k : RecordKind). dealt_of k q.memory) kind)) less keeps;
      }

  -- and SCX-records
  pub set_scxs : (from to : ℕ) → from ≡ left.next_scx → new.nodes ≡ old.nodes → AreSlotsStill old.scxs new.scxs → to ≤ new.scxs.dealt → HasDealt allows t old.scxs new.scxs from to p q → IsSetToDeal allows t q (with_left Scx left to (new.scxs.dealt - to)) new
  set_scxs from to is_from nodes still less dealt =
      let keeps : KeepsPolls Scx p.memory q.memory = subst (λ (k : RecordKind). KeepsPolls k p.memory q.memory) x.kept.slots.scx_kind dealt.keeps in
      let kind : new.scxs.kind ≡ Scx = still.kind ∙ x.kept.slots.scx_kind in
      let book : IsBook t q x.kept.since new.scxs = dealt.book x.kept.since x.kept.slots.scxs in record {
        kept = record {
          there = still_there Scx keeps;
          since = x.kept.since;
          slots = record {
            known = known_since;
            rested = dealt.rested x.kept.slots.rested;
            often = often ∙ x.kept.slots.often ∙ sym keeps.often;
            node_kind = ap (λ (o : OwnSlots). o.kind) nodes ∙ x.kept.slots.node_kind;
            scx_kind = kind;
            nodes = subst (IsBook t q x.kept.since) (sym nodes) (dealt.others old.nodes x.kept.since (kinds_apart old.nodes.kind old.scxs.kind x.kept.slots.node_kind x.kept.slots.scx_kind) x.kept.slots.nodes);
            scxs = book;
          };
          period = runs_still Scx keeps;
        };
        has = subst (λ (k : RecordKind). HasShareLeft allows q (with_left k left to (new.scxs.dealt - to))) x.kept.slots.scx_kind
            (dealt.left left x.has (ap (λ (k : RecordKind). next_of k left) x.kept.slots.scx_kind ∙ sym is_from));
        ends = ends_dealt Scx p.memory q.memory left to new.scxs.dealt x.ends (sym (book.all.dealt ∙ ap (λ (k : RecordKind). dealt_of k q.memory) kind)) less keeps;
      }

-- By seats

-- what was dealt to the one pass of a seat, was dealt to p
pub from_dealing : (so : SeatedPass → SeatedPass → Type 0) (v w : SeatView) (p : SeatedPass) → v.passes ≡ p ∷ [] → (x : DealsOn so v w) → HasGoneOnDealing p x.later × so p x.later
from_dealing so v w p one x = subst (λ (k : SeatedPass). HasGoneOnDealing k x.later × so k x.later) (same_pass v.passes p x.pass one x.was) (x.goes_on, x.holds)

pub at_dealing : {S : Type 0} (words : Words S) (lay : Layout) (so : SeatedPass → SeatedPass → Type 0) (old new : Seat ℕ SeatView) (p : SeatedPass) → IsAtLasting words lay old p → IsSameSeat old new → (x : DealsOn so old.me.0 new.me.0) → IsAtLasting words lay new x.later
at_dealing words lay so old new p at stays x = let on = (from_dealing so old.me.0 new.me.0 p at.alone x).0 in record {
  table = (at.table.0, stays.0 ∙ at.table.1);
  alone = x.is;
  names = on.layout ∙ at.names;
  is_pass = subst (λ (k : PassNo). k.0 < lay.passes) (sym on.number) at.is_pass;
}

-- what makes a pass set to call that was
abbrev pub Sets : (Layout → History → ℕ → Type 0) → Lasting → (left then : Remaining) → (old new : Keeper) → SeatedPass → SeatedPass → Type 0
Sets allows t left then old new p q = IsSetToDeal allows t p left old → IsSetToDeal allows t q then new

pub sets_on : (allows : Layout → History → ℕ → Type 0) (t : Lasting) (a b c : Remaining) (x y z : Keeper) (u v w : SeatView) (p : SeatedPass) → u.passes ≡ p ∷ [] → IsSetToDeal allows t p a x → DealsOn (Sets allows t a b x y) u v → DealsOn (Sets allows t b c y z) v w → DealsOn (IsStillSet allows t c z) u w
sets_on allows t a b c x y z u v w p one set first second =
    deals_as (Sets allows t a c x z) (IsStillSet allows t c z) u w p one (λ q goes f. f set)
    (deals_on (Sets allows t a b x y) (Sets allows t b c y z) (Sets allows t a c x z) u v w (λ p q r f g k. g (f k)) first second)

kind_ends : (kind : RecordKind) (m : PassMemory) (left : Remaining) → EndsAsDealt left m → next_of kind left + many_left kind left ≡ dealt_of kind m
unfolding share_end
kind_ends Node m left ends = ap (λ (x : ℕ × ℕ). x.0) ends
kind_ends Scx m left ends = ap (λ (x : ℕ × ℕ). x.1) ends

-- What is dealt ends where what is left does.
pub left_is : (t : Lasting) (p : SeatedPass) (since : List Row) (own : OwnSlots) (kind : RecordKind) (left : Remaining) → own.kind ≡ kind → IsBook t p since own → EndsAsDealt left p.memory → own.dealt ≡ next_of kind left + many_left kind left
left_is t p since own kind left is book ends = book.all.dealt ∙ ap (λ (k : RecordKind). dealt_of k p.memory) is ∙ sym (kind_ends kind p.memory left ends)

-- how many slots there are of a kind
pub own_count : (t : Lasting) (lay : Layout) (p : SeatedPass) (since : List Row) (own : OwnSlots) (kind : RecordKind) → own.kind ≡ kind → IsBook t p since own → t.table ≡ lay → length own.slots.items ≡ count_own kind lay
own_count t lay p since own kind is book same = book.all.count ∙ ap (λ (k : RecordKind). count_own k t.table) is ∙ ap (count_own kind) same

-- Between two calls

-- so it is where only the next of its SCX-records could be unfinished, which it has not taken
pub is_between : (p : SeatedPass) (left : Remaining) → IsShare p.layout (past_of p []) p.number.0 left left.next_node left.next_scx → AreFinished p.layout p.number.0 left.next_scx (past_of p []) → IsBetween p left
is_between p left share over = record { share = share; over = all_over p.layout (past_of p []) p.number.0 left left.next_node left.next_scx share over }
