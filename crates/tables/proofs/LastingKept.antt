-- What passes remember stays so, and what is gone stays gone, however a table goes on.
use Rattle.std.proofs.Common.{◌≡◌, ◌≢◌, ◌<◌, ℕ, true, false, List, [], ◌∷◌, Option, Some, None, slice_index, slice_set, inl, inr, ⊎_elim, sym, ◌∙◌, ap, subst}
use mathlib.Core.Option.{some}
use lib.ListN.{get_elem?}
use Rattle.atomic_table.proofs.Lists.{at_set}
use Rattle.histories.specs.Common.{Layout, Row, Word, History, ◌⊳◌, Extends, IsWord, Lawful, place, log, is_final}
use Rattle.arena.proofs.Lemmas.{ends_trans}
use Rattle.histories.proofs.Lemmas.{by_final, final_by, finalized_by_stays, lawful_tail, since}
use Rattle.planting.specs.Plantings.{PlantingView}
use Rattle.ordered_map.specs.Runs.{IsMapRun}
use Rattle.ordered_map.proofs.MapLemmas.{run_since}
use Rattle.touching.proofs.Lemmas.{left_since, taken_scx_since}
use Rattle.resting.specs.Reach.{IsOutOfReach}
use Rattle.resting.specs.Records.{Record, record_of, the_node, the_scx}
use Rattle.resting.specs.Rests.{HasRestedAt, HaveMovedOn}
use Rattle.resting.proofs.Lemmas.{out_anew, out_since, taken_node_since}
use Rattle.slots.specs.Counts.{HasSeenRests}
use Rattle.slots.specs.Held.{Held, IsHeld}
use Rattle.slots.specs.Lasting.{IsOwnRecord, IsUntaken, Lasting}
use Rattle.tables.specs.Passes.{Each}
use Rattle.tables.specs.TableRule.{Owns, history_of}
use Rattle.tables.specs.LastingMemory.{HasPolledSo, IsEmptySlot, IsGoneRecord, IsNoteSo, IsOutForGood, IsPollSo, IsZeroWord, Present, RememberWell, RemembersNames, RemembersWell, StaysUnborn, record_at}
use Rattle.tables.specs.LastingRule.{plot_in}
use Rattle.tables.specs.declared.view.SeatView.{SeatView}
use Rattle.tables.specs.declared.memory.PassMemory.{PassMemory}
use Rattle.tables.specs.declared.memory.NoteView.{NoteView}
use Rattle.tables.specs.declared.memory.NoteView.TheVariants.{MarkedOrDead, DeadBy, OutOfReach, DoneWith}
use Rattle.tables.specs.declared.memory.Polled.{Polled}
use Rattle.tables.specs.declared.memory.RecordNo.{RecordNo}
use Rattle.tables.specs.declared.view.SeatedPass.{SeatedPass}

final_since : (lay : Layout) (h m : History) (n : ℕ) → Lawful lay h → Extends h m → is_final (log lay m) n ≡ true → is_final (log lay h) n ≡ true
final_since lay h m n l e x = since (λ k. is_final (log lay k) n ≡ true) lay (λ k r more y. let z = final_by lay k n (lawful_tail lay k r more) y in by_final lay (r ⊳ k) n z.0 more (finalized_by_stays lay k r n z.0 more z.1)) h m l e x

-- a table is here, and later there
pub record Later (t : Lasting) (a b : Present) : Type 0 where
  pub run : IsMapRun t.lay b.run
  pub within : Extends b.run a.run
  pub moved : HaveMovedOn t.lay b.run a.last b.last
  pub seen : (p : ℕ) (m : History) (seen : ℕ) → p < t.lay.passes → HasSeenRests a.run a.last a.tally p m seen → HasSeenRests b.run b.last b.tally p m seen

pub each_kept : {A : Type 0} (P Q : A → Type 0) → ((x : A) → P x → Q x) → (xs : List A) → Each P xs → Each Q xs
each_kept P Q f [] y = tt
each_kept P Q f (x ∷ xs) y = (f x y.0, each_kept P Q f xs y.1)

module _ (t : Lasting) (planting : PlantingView) (a b : Present) (x : Later t a b) (stays : StaysUnborn t.lay) where
  pub gone_kept : (n : ℕ) → IsOutForGood t.lay a.run a.last n → IsOutForGood t.lay b.run b.last n
  gone_kept n (inl y) = inl (final_since t.lay b.run a.run n x.run.1.lawful x.within y)
  gone_kept n (inr (inl y)) = inr (inl (left_since t.lay b.run a.run n x.run x.within y))
  gone_kept n (inr (inr y)) =
      let rested = x.moved.rested y.0 y.1 in
      let within = x.moved.within y.0 y.1 in
      let then : HasRestedAt t.lay (b.last y.0) y.0 (a.last y.0) = record { within = x.moved.later y.0 y.1; over = rested.over; rows = λ q g e. rested.rows q g (ends_trans b.run (b.last y.0) (q ⊳ g) within e) } in
      inr (inr (y.0, y.1, stays (b.last y.0) y.0 (a.last y.0) n y.1 (run_since t.lay b.run (b.last y.0) x.run within) then y.2))

  gone_record_kept : (r : Record) → IsGoneRecord t.lay a.run a.last r → IsGoneRecord t.lay b.run b.last r
  gone_record_kept (the_node n) y = gone_kept n y
  gone_record_kept (the_scx s) y = tt

  out_kept : (r : Record) → IsOutOfReach t.lay a.run a.last r → IsOutOfReach t.lay b.run b.last r
  out_kept r y = out_anew t.lay b.run a.last b.last r x.moved (out_since t.lay a.run b.run a.last r x.within y)

  pub note_kept : (o : ℕ) (r : Record) (n : NoteView) → IsNoteSo t.lay planting o a r n → IsNoteSo t.lay planting o b r n
  note_kept o r (MarkedOrDead rows) y = (ends_trans b.run a.run (history_of planting rows) x.within y.0, ⊎_elim inl (λ z. inr (⊎_elim inl (λ out. inr (out_kept r out)) z.0, gone_record_kept r z.1)) y.1)
  note_kept o r (DeadBy rows) y = ((ends_trans b.run a.run (history_of planting rows) x.within y.0.0, ⊎_elim inl (λ out. inr (out_kept r out)) y.0.1), gone_record_kept r y.1)
  note_kept o r OutOfReach y = (out_kept r y.0, gone_record_kept r y.1)
  note_kept o (the_node n) (DoneWith j) y = y
  note_kept o (the_scx s) (DoneWith j) y = (y.0, ends_trans b.run a.run y.0 x.within y.1, y.2, y.3)

  polled_kept : (p : ℕ) (m : History) (w : Option ℕ) → p < t.lay.passes → HasPolledSo a p m w → HasPolledSo b p m w
  polled_kept p m (Some n) i z = x.seen p m n i z
  polled_kept p m None i z = ends_trans (b.last p) (a.last p) m (x.moved.later p i) z

  pub poll_kept : (p : Polled) → IsPollSo t.lay planting a p → IsPollSo t.lay planting b p
  poll_kept p y = (y.0, polled_kept p.pass.0 (history_of planting p.since) p.waits y.0 y.1)

  pub untaken_before : (r : Record) → IsUntaken t.lay b.run r → IsUntaken t.lay a.run r
  untaken_before (the_node n) free = (free.0, λ z. free.1 (taken_node_since b.run a.run n x.within z))
  untaken_before (the_scx s) free = (free.0, λ z. free.1 (taken_scx_since b.run a.run s x.within z))

  -- What the pass has of slots and names is left to it.
  pub record Spares (q : ℕ) : Type 0 where
    pub held : (r : Record) → IsOwnRecord t.lay q r → IsHeld t a.held r → IsHeld t b.held r
    pub free : (r : Record) → IsOwnRecord t.lay q r → ¬ IsHeld t a.held r → ¬ IsHeld t b.held r
    pub empty : (s : RecordNo) → IsEmptySlot t q a s → IsEmptySlot t q b s
    pub zeros : (w : Word) → IsZeroWord t q a w → IsZeroWord t q b w

  -- so it remembers well
  pub names_kept : (q : ℕ) (m : PassMemory) → Spares q → RemembersNames t planting a q m → RemembersNames t planting b q m
  names_kept q m z y = record {
    dealt = λ r own d free. z.held r own (y.dealt r own d (untaken_before r free));
    later = λ r own d. z.free r own (y.later r own d);
    notes = each_kept _ _ (λ n. note_kept q (record_at n.name) n.note) m.notes y.notes;
    polls = each_kept _ _ poll_kept m.polls y.polls;
    holds = each_kept _ _ (λ n e. (e.0, z.held (record_at n) e.0.0 e.1)) m.holds y.holds;
    empty = each_kept _ _ z.empty m.empty y.empty;
    zeros = each_kept _ _ z.zeros m.zeros y.zeros;
  }

  pub remembers_kept : (q : ℕ) (m : PassMemory) → Spares q → b.tally.away q ≡ a.tally.away q → b.tally.count q ≡ a.tally.count q → (a.tally.away q ≡ false → b.last q ≡ a.last q) → RemembersWell t planting a q m → RemembersWell t planting b q m
  remembers_kept q m z away often rests y = record {
    away = y.away ∙ sym away;
    often = y.often ∙ sym often;
    rested = λ there. rests (sym y.away ∙ there) ∙ y.rested there;
    names = names_kept q m z y.names;
  }

-- if nothing but the run, the rests and the counts goes on, all is left to each pass
pub spared : (t : Lasting) (planting : PlantingView) (a b : Present) (x : Later t a b) (stays : StaysUnborn t.lay) → b.held ≡ a.held → ((w : Word) → IsWord t.table w → a.held (record_of w) ≡ None → slice_index b.words (place t.table w) ≡ slice_index a.words (place t.table w)) → (q : ℕ) → Spares t planting a b x stays q
spared t planting a b x stays same words q = record {
  held = λ r own is. subst (λ (k : Held). IsHeld t k r) (sym same) is;
  free = λ r own not. subst (λ (k : Held). ¬ IsHeld t k r) (sym same) not;
  empty = λ s e. (e.0, ap (λ (k : Held). k (record_at s)) same ∙ e.1);
  zeros = λ w e. record { is_word = e.is_word; own = e.own; none = ap (λ (k : Held). k (record_of w)) same ∙ e.none; zero = words w e.is_word e.none ∙ e.zero };
}

-- The seats

module _ (t : Lasting) (planting : PlantingView) (a b : Present) where
  pub remember_kept : (ok : ℕ → Type 0) → ((q : ℕ) (m : PassMemory) → ok q → RemembersWell t planting a q m → RemembersWell t planting b q m) → (rows : List Row) (owner : ℕ → ℕ) (id : ℕ) → ((q : ℕ) → owner q ≡ id → ok q) → (ps : List SeatedPass) → Owns (plot_in t planting) rows owner id ps → RememberWell t planting a ps → RememberWell t planting b ps
  remember_kept ok f rows owner id is [] own y = tt
  remember_kept ok f rows owner id is (p ∷ ps) own y = (f p.number.0 p.memory (is p.number.0 own.0) y.0, remember_kept ok f rows owner id is ps own.4 y.1)

-- Views after the seat `id` has got the view w: what it holds of is shown, and what others have is
-- kept
module _ (P Q : ℕ → SeatView → Type 0) (views : List SeatView) (id : ℕ) (w : SeatView) (mine : Q id w) (others : (j : ℕ) (v : SeatView) → j ≢ id → get_elem? views j ≡ some v → P j v → Q j v) (all : (j : ℕ) (v : SeatView) → get_elem? views j ≡ some v → P j v) where
  pub views_kept : (j : ℕ) (v : SeatView) → get_elem? (slice_set views id w) j ≡ some v → Q j v
  views_kept j v e = ⊎_elim
      (λ (z : (j ≡ id) × (w ≡ v)). subst (Q j) z.1 (subst (λ i. Q i w) (sym z.0) mine))
      (λ (z : (j ≢ id) × (get_elem? views j ≡ some v)). others j v z.0 z.1 (all j v z.1))
      (at_set views id j w v e)
