-- How free slots get names.
use Rattle.std.proofs.Common.{◌≡◌, ◌≢◌, ◌⊎◌, ◌<◌, ◌≤◌, ◌+◌, ◌++◌, ℕ, zero, suc, List, [], ◌∷◌, inl, inr, refl, sym, ◌∙◌, ap, subst, append_assoc, arith}
use Rattle.arena.specs.declared.number.PassNo.{PassNo}
use Rattle.arena.specs.declared.word.ScxWord.TheVariants.{Plan}
use Rattle.histories.specs.Common.{Abort, Fill, Head, History, IsOwnScx, IsRun, Lawful, Layout, Remaining, Row, Seen, Settled, Update, descriptor, log, node, owner, scx, state, ◌⊳◌}
use Rattle.arena.proofs.Lemmas.{owner_is}
use Rattle.histories.proofs.Lemmas.{IsOwned, Logs, UpdateWins, entry_of, facts_before, lawful_tail, logs, same as log_same, update_about, wins as log_wins}
use Rattle.prims.proofs.Lemmas.{own_in_hand, wins_in_progress}
use Rattle.planting.specs.Plantings.{PlantingView}
use Rattle.prims.specs.Moments.{AreFinished}
use Rattle.prims.specs.Shares.{IsShare}
use Rattle.slots.specs.Lasting.{IsOwnName, Lasting}
use Rattle.slots.specs.Passing.{row_over}
use Rattle.slots.proofs.Lemmas.{node_rests, scx_rests}
use Rattle.tables.specs.LastingMemory.{record_at}
use Rattle.tables.specs.LastingNames.{MayGiveName, past_nodes, past_scxs, scx_rows}
use Rattle.tables.specs.LastingRule.{GoesOnWith}
use Rattle.tables.specs.Passes.{Each}
use Rattle.tables.specs.Shares.{entries_of}
use Rattle.tables.specs.TableRule.{ByOthers, history_of, past_of, seated_pass}
use Rattle.upkeep.specs.UpkeepBook.{count_own, dealt_of, first_own, name_numbered}
use Rattle.upkeep.specs.UpkeepSteps.{HasGoneOnResting, RestsOn}
use Rattle.upkeep.specs.UpkeepDeals.{DealsOn, EntersNone, HasGoneOnDealing, HasShareLeft, HasPassedTo, IsOfNoCall, MayGet, ahead, memory_given, next_of, past_names, with_left}
use Rattle.tables.specs.declared.memory.PassMemory.{PassMemory}
use Rattle.tables.specs.declared.memory.RecordNo.{RecordNo}
use Rattle.upkeep.specs.declared.kind.RecordKind.{RecordKind}
use Rattle.upkeep.specs.declared.kind.RecordKind.TheVariants.{Node, Scx}
use Rattle.tables.specs.declared.view.SeatedPass.{SeatedPass}
use Rattle.tables.specs.declared.view.SeatView.{SeatView}
use Rattle.tables.proofs.Frames.{entry_others}
use Rattle.tables.proofs.LastingSeats.{finished_behind, share_behind}
use Rattle.tables.proofs.LastingSlots.{slot_number_is}
use Rattle.tables.proofs.Ruled.{same_pass}
use Rattle.upkeep.proofs.UpkeepShares.{IsPast, past_names_left, share_as}

-- a slot that may get a name, may be given it
pub may_give : (allows : Layout → History → ℕ → Type 0) (t : Lasting) (p : SeatedPass) (left : Remaining) (kind : RecordKind) (slot count : ℕ) → p.number.0 < t.lay.passes → HasShareLeft allows p left → MayGet t p kind slot count → MayGiveName t p left (ahead kind p.memory count) (name_numbered kind slot)
may_give allows t p left kind slot count is_pass has may = record {
  is_pass = is_pass;
  there = has.there;
  share = has.share;
  over = has.over;
  own = may.own;
  slot_is = sym (slot_number_is t (ahead kind p.memory count)) ∙ ap record_at may.slot_is;
  empty = may.clean.empty;
  zeros = may.clean.zeros;
}

-- Rows by which a pass passes over names

each_of_both : {A : Type 0} (P : A → Type 0) (xs ys : List A) → Each P xs → Each P ys → Each P (xs ++ ys)
each_of_both P [] ys x y = y
each_of_both P (a ∷ xs) ys x y = (x.0, each_of_both P xs ys x.1 y)

pub each_by_others : (o : ℕ) (rows : List Row) → ByOthers o rows → Each (IsOfNoCall o) rows
each_by_others o [] by = tt
each_by_others o (r ∷ rs) by = (inl by.0, each_by_others o rs by.1)

-- by this row a pass passes over a name
abbrev PassesOver : Row → Type 0
PassesOver r = (r.call ≡ 0) × ((r.kind ≡ Fill) ⊎ (r.kind ≡ Abort))

each_over : (o : ℕ) (rows : List Row) → Each PassesOver rows → Each (IsOfNoCall o) rows
each_over o [] x = tt
each_over o (r ∷ rs) x = (inr x.0, each_over o rs x.1)

-- these are such rows, behind those
abbrev MoreOf : (rows all : List Row) → Type 0
MoreOf rows all = (more : List Row) × Each PassesOver more × (all ≡ more ++ rows)

more_nodes : (o count from : ℕ) (planting : PlantingView) (rows : List Row) → MoreOf rows (past_nodes o from count planting rows)
more_nodes o zero from planting rows = ([], tt, refl)
more_nodes o (suc count) from planting rows =
    let r : Row = row_over o Fill (node from (Settled Head)) 0 (history_of planting rows) in
    let x = more_nodes o count (suc from) planting (r ∷ rows) in
    (x.0 ++ r ∷ [], each_of_both PassesOver x.0 (r ∷ []) x.1 ((refl, inl refl), tt), x.2 ∙ sym (append_assoc x.0 (r ∷ []) rows))

more_scxs : (o count from : ℕ) (planting : PlantingView) (rows : List Row) → MoreOf rows (past_scxs o from count planting rows)
more_scxs o zero from planting rows = ([], tt, refl)
more_scxs o (suc count) from planting rows =
    let one : Row = row_over o Fill (scx from Plan) 1 (history_of planting rows) in
    let two : Row = row_over o Fill (scx from (Seen 0)) from (history_of planting (one ∷ rows)) in
    let three : Row = row_over o Abort (state from) 2 (history_of planting (two ∷ one ∷ rows)) in
    let x = more_scxs o count (suc from) planting (three ∷ two ∷ one ∷ rows) in
    (x.0 ++ three ∷ two ∷ one ∷ [], each_of_both PassesOver x.0 (three ∷ two ∷ one ∷ []) x.1 ((refl, inr refl), ((refl, inl refl), ((refl, inl refl), tt))), x.2 ∙ sym (append_assoc x.0 (three ∷ two ∷ one ∷ []) rows))

more_names : (kind : RecordKind) (o count from : ℕ) (planting : PlantingView) (rows : List Row) → MoreOf rows (past_names kind o from count planting rows)
more_names Node o count from planting rows = more_nodes o count from planting rows
more_names Scx o count from planting rows = more_scxs o count from planting rows

-- a run was lawful before its last rows
lawful_before : (lay : Layout) (planting : PlantingView) (more rows : List Row) → Lawful lay (history_of planting (more ++ rows)) → Lawful lay (history_of planting rows)
lawful_before lay planting [] rows l = l
lawful_before lay planting (r ∷ rs) rows l = lawful_before lay planting rs rows (lawful_tail lay (history_of planting (rs ++ rows)) r l)

-- They make no entry

module _ (lay : Layout) (o : ℕ) where
  -- a row by which no update of the pass wins
  enters_same : (h : History) (r : Row) → Lawful lay (r ⊳ h) → ((u : ℕ) → UpdateWins h r u → owner lay u ≢ o) → entries_of o (log lay (r ⊳ h)) ≡ entries_of o (log lay h)
  enters_same h r l none = go (logs lay h r l)
    where
      go : Logs lay h r → entries_of o (log lay (r ⊳ h)) ≡ entries_of o (log lay h)
      go (log_same e back) = ap (entries_of o) e
      go (log_wins u w e) = ap (entries_of o) e ∙ entry_others o (entry_of lay h u) (log lay h) (none u w)

  -- where all that it has taken is finished, none does
  none_wins : (h : History) (r : Row) → Lawful lay (r ⊳ h) → AreFinished lay o 0 h → (u : ℕ) → UpdateWins h r u → owner lay u ≢ o
  none_wins h r l over u w same =
      let owned : IsOwned lay (descriptor h u) u = (update_about (facts_before lay h r l) w).owned in
      let own : IsOwnScx lay o u = subst (λ k. IsOwnScx lay k u) (sym (owner_is lay owned.pass u owned.scx) ∙ same) owned.scx in
      let hand : u ≡ 0 = own_in_hand lay h o u 0 (lawful_tail lay h r l) over own (wins_in_progress lay h r u l w) in
      let from = own.from in omega (arith, from, hand)

  others_enter : (planting : PlantingView) (rows known : List Row) → ByOthers o rows → EntersNone lay o planting known (rows ++ known)
  others_enter planting [] known by l over = (over, refl)
  others_enter planting (r ∷ rs) known by l over =
      let x = others_enter planting rs known by.1 (lawful_tail lay (history_of planting (rs ++ known)) r l) over in (
        finished_behind lay planting o (r ∷ rs) known l by over,
        enters_same (history_of planting (rs ++ known)) r l (none_wins (history_of planting (rs ++ known)) r l x.0) ∙ x.1,
      )

  -- nor does one by which a name is passed over
  over_wins : (h : History) (r : Row) → Lawful lay (r ⊳ h) → PassesOver r → (u : ℕ) → UpdateWins h r u → owner lay u ≢ o
  over_wins h r l (z, inl fills) u w same = absurd (let y : Update ≡ Fill = sym w.kind ∙ fills in cc)
  over_wins h r l (z, inr aborts) u w same = absurd (let y : Update ≡ Abort = sym w.kind ∙ aborts in cc)

  over_enter : (planting : PlantingView) (rows known : List Row) → Each PassesOver rows → Lawful lay (history_of planting (rows ++ known)) → entries_of o (log lay (history_of planting (rows ++ known))) ≡ entries_of o (log lay (history_of planting known))
  over_enter planting [] known x l = refl
  over_enter planting (r ∷ rs) known x l =
      enters_same (history_of planting (rs ++ known)) r l (over_wins (history_of planting (rs ++ known)) r l x.0)
      ∙ over_enter planting rs known x.1 (lawful_tail lay (history_of planting (rs ++ known)) r l)

  nodes_over : (count from : ℕ) (planting : PlantingView) (rows : List Row) → AreFinished lay o 0 (history_of planting rows) → AreFinished lay o 0 (history_of planting (past_nodes o from count planting rows))
  nodes_over zero from planting rows over = over
  nodes_over (suc count) from planting rows over = nodes_over count (suc from) planting (row_over o Fill (node from (Settled Head)) 0 (history_of planting rows) ∷ rows) (node_rests lay (history_of planting rows) o from over)

  scxs_over : (count from : ℕ) (planting : PlantingView) (rows : List Row) → AreFinished lay o 0 (history_of planting rows) → AreFinished lay o 0 (history_of planting (past_scxs o from count planting rows))
  scxs_over zero from planting rows over = over
  scxs_over (suc count) from planting rows over = scxs_over count (suc from) planting (scx_rows o from planting rows) (scx_rests lay (history_of planting rows) o from over)

  names_over : (kind : RecordKind) (count from : ℕ) (planting : PlantingView) (rows : List Row) → AreFinished lay o 0 (history_of planting rows) → AreFinished lay o 0 (history_of planting (past_names kind o from count planting rows))
  names_over Node count from planting rows over = nodes_over count from planting rows over
  names_over Scx count from planting rows over = scxs_over count from planting rows over

  names_enter : (kind : RecordKind) (count from : ℕ) (planting : PlantingView) (rows : List Row) → EntersNone lay o planting rows (past_names kind o from count planting rows)
  names_enter kind count from planting rows l over =
      let x = more_names kind o count from planting rows in
      let is : history_of planting (past_names kind o from count planting rows) ≡ history_of planting (x.0 ++ rows) = ap (history_of planting) x.2 in (
        names_over kind count from planting rows over,
        ap (λ h. entries_of o (log lay h)) is ∙ over_enter planting x.0 rows x.1 (subst (Lawful lay) is l),
      )

  -- rows behind such rows
  enters_on : (planting : PlantingView) (more known mid later : List Row) → later ≡ more ++ mid → EntersNone lay o planting known mid → EntersNone lay o planting mid later → EntersNone lay o planting known later
  enters_on planting more known mid later is x y l over =
      let first = x (lawful_before lay planting more mid (subst (λ k. Lawful lay (history_of planting k)) is l)) over in
      let then = y l first.0 in
      (then.0, then.1 ∙ first.1)

-- What a pass is once it has passed over names

given_there : (kind : RecordKind) (m : PassMemory) (count : ℕ) (slot : RecordNo) (rows : List Row) → (memory_given kind m count slot rows).away ≡ m.away
given_there Node m count slot rows = refl
given_there Scx m count slot rows = refl

name_below : (kind : RecordKind) (t : Lasting) (o : ℕ) (m : PassMemory) (count : ℕ) → IsOwnName t o (record_at (ahead kind m count)) → dealt_of kind m + count < first_own kind t.lay o + count_own kind t.lay
name_below Node t o m count own = own.0.below
name_below Scx t o m count own = own.0.below

pub next_is : (kind : RecordKind) (left : Remaining) (next count : ℕ) → next_of kind (with_left kind left next count) ≡ next
next_is Node left next count = refl
next_is Scx left next count = refl

pub left_again : (kind : RecordKind) (left : Remaining) (n c k d : ℕ) → with_left kind (with_left kind left n c) k d ≡ with_left kind left k d
left_again Node left n c k d = refl
left_again Scx left n c k d = refl

module _ (allows : Layout → History → ℕ → Type 0) (t : Lasting) (kind : RecordKind) (slot count : ℕ) (v w : SeatView) (p : SeatedPass) (one : v.passes ≡ p ∷ []) where
  abbrev o : ℕ
  o = p.number.0

  abbrev dealt : ℕ
  dealt = dealt_of kind p.memory

  abbrev rows_of : SeatedPass → List Row → List Row
  rows_of k others = past_names kind o dealt count k.planting (others ++ k.known)

  abbrev later_of : SeatedPass → List Row → SeatedPass
  later_of k others = seated_pass k.number.0 k.layout k.planting (memory_given kind p.memory count (name_numbered kind slot) (rows_of k others)) (rows_of k others)

  past_left : (others : List Row) → ByOthers o others → IsRun allows p.layout (history_of p.planting (rows_of p others)) → (left : Remaining) → HasShareLeft allows p left → next_of kind left ≡ dealt → IsOwnName t o (record_at (ahead kind p.memory count)) → p.layout ≡ t.lay → HasShareLeft allows (later_of p others) (with_left kind left (dealt + count) 1)
  past_left others by run left has same own layout = record {
    is_pass = has.is_pass;
    run = run;
    there = given_there kind p.memory count (name_numbered kind slot) (rows_of p others) ∙ has.there;
    share = share_one;
    over = past.over;
  }
    where
      few : dealt + count + 1 ≤ first_own kind p.layout o + count_own kind p.layout
      few = let less : dealt + count < first_own kind p.layout o + count_own kind p.layout = subst (λ (l : Layout). dealt + count < first_own kind l o + count_own kind l) (sym layout) (name_below kind t o p.memory count own) in omega (arith, less)

      lawful_others : Lawful p.layout (history_of p.planting (others ++ p.known))
      lawful_others = let x = more_names kind o count dealt p.planting (others ++ p.known) in lawful_before p.layout p.planting x.0 (others ++ p.known) (subst (λ l. Lawful p.layout (history_of p.planting l)) x.2 run.lawful)

      before : IsPast p.layout p.planting o left (others ++ p.known)
      before = record {
        share = share_behind p.layout p.planting o left left.next_node left.next_scx others p.known has.is_pass lawful_others by has.share;
        over = finished_behind p.layout p.planting o others p.known lawful_others by has.over;
      }

      past : IsPast p.layout p.planting o (with_left kind left (dealt + count) 0) (rows_of p others)
      past = subst (λ n. IsPast p.layout p.planting o (with_left kind left (n + count) 0) (past_names kind o n count p.planting (others ++ p.known))) same
          (past_names_left p.layout p.planting o kind count left (others ++ p.known) (subst (λ n. n + count ≤ first_own kind p.layout o + count_own kind p.layout) (sym same) (omega (arith, few)))
          (subst (λ n. Lawful p.layout (history_of p.planting (past_names kind o n count p.planting (others ++ p.known)))) (sym same) run.lawful) before)

      share_one : IsShare p.layout (history_of p.planting (rows_of p others)) o (with_left kind left (dealt + count) 1) (with_left kind left (dealt + count) 1).next_node (with_left kind left (dealt + count) 1).next_scx
      share_one = subst (λ (l : Remaining). IsShare p.layout (history_of p.planting (rows_of p others)) o l l.next_node l.next_scx) (left_again kind left (dealt + count) 0 (dealt + count) 1)
          (share_as p.layout (history_of p.planting (rows_of p others)) o (with_left kind left (dealt + count) 0) kind (dealt + count) 1 (next_is kind left (dealt + count) 0) few past.share)

  goes_past : (others : List Row) → ByOthers o others → HasGoneOnDealing p (later_of p others)
  goes_past others by =
      let x = more_names kind o count dealt p.planting (others ++ p.known) in record {
        number = refl;
        layout = refl;
        planting = refl;
        more = x.0 ++ others;
        of_no_call = each_of_both (IsOfNoCall o) x.0 others (each_over o x.0 x.1) (each_by_others o others by);
        known = x.2 ∙ sym (append_assoc x.0 others p.known);
        none = enters_on p.layout o p.planting x.0 p.known (others ++ p.known) (rows_of p others) x.2 (others_enter p.layout o p.planting others p.known by) (names_enter p.layout o kind count dealt p.planting (others ++ p.known));
      }

  pub past_learnt : GoesOnWith allows (past_names kind o dealt count) (memory_given kind p.memory count (name_numbered kind slot)) v w → DealsOn (HasPassedTo allows t kind slot count) v w
  past_learnt z = by_pass z.pass (same_pass v.passes p z.pass one z.was) z.others z.by_others z.run z.passes
    where
      direct : (others : List Row) → ByOthers o others → IsRun allows p.layout (history_of p.planting (rows_of p others)) → w.passes ≡ later_of p others ∷ [] → DealsOn (HasPassedTo allows t kind slot count) v w
      direct others by run passes = record {
        pass = p;
        later = later_of p others;
        was = one;
        is = passes;
        goes_on = goes_past others by;
        holds = record { memory = refl; left = past_left others by run };
      }

      by_pass : (k : SeatedPass) → k ≡ p → (others : List Row) → ByOthers k.number.0 others → IsRun allows k.layout (history_of k.planting (rows_of k others)) → w.passes ≡ later_of k others ∷ [] → DealsOn (HasPassedTo allows t kind slot count) v w
      by_pass k e = subst (λ (k : SeatedPass). (others : List Row) → ByOthers k.number.0 others → IsRun allows k.layout (history_of k.planting (rows_of k others)) → w.passes ≡ later_of k others ∷ [] → DealsOn (HasPassedTo allows t kind slot count) v w) (sym e) direct

-- what is so of the one pass of a seat, is so of p if it is that
pub deals_as : (one two : SeatedPass → SeatedPass → Type 0) (v w : SeatView) (p : SeatedPass) → v.passes ≡ p ∷ [] → ((q : SeatedPass) → HasGoneOnDealing p q → one p q → two p q) → DealsOn one v w → DealsOn two v w
deals_as one two v w p alone to x =
    let y : HasGoneOnDealing p x.later × one p x.later = subst (λ (k : SeatedPass). HasGoneOnDealing k x.later × one k x.later) (same_pass v.passes p x.pass alone x.was) (x.goes_on, x.holds) in
    record { pass = p; later = x.later; was = alone; is = x.is; goes_on = y.0; holds = to x.later y.0 y.1 }

-- what is left of its share is so while others go on
pub left_on : (allows : Layout → History → ℕ → Type 0) (p q : SeatedPass) (left : Remaining) → HasGoneOnResting allows p q → q.memory.away ≡ p.memory.away → HasShareLeft allows p left → HasShareLeft allows q left
left_on allows p q left goes away has = record {
  is_pass = subst (λ (l : Layout). q.number.0 < l.passes) (sym goes.layout) (subst (λ (k : PassNo). k.0 < p.layout.passes) (sym goes.number) has.is_pass);
  run = goes.sound has.run;
  there = away ∙ has.there;
  share = subst (λ (l : Layout). IsShare l (past_of q []) q.number.0 left left.next_node left.next_scx) (sym goes.layout)
      (subst (λ (k : PassNo). IsShare p.layout (past_of q []) k.0 left left.next_node left.next_scx) (sym goes.number) (subst (λ h. IsShare p.layout h p.number.0 left left.next_node left.next_scx) (sym run_is)
      (share_behind p.layout p.planting p.number.0 left left.next_node left.next_scx goes.others p.known has.is_pass lawful goes.by_others has.share)));
  over = subst (λ (l : Layout). AreFinished l q.number.0 0 (past_of q [])) (sym goes.layout)
      (subst (λ (k : PassNo). AreFinished p.layout k.0 0 (past_of q [])) (sym goes.number) (subst (λ h. AreFinished p.layout p.number.0 0 h) (sym run_is)
      (finished_behind p.layout p.planting p.number.0 goes.others p.known lawful goes.by_others has.over)));
}
  where
    run_is : past_of q [] ≡ history_of p.planting (goes.others ++ p.known)
    run_is = ap (λ (l : PlantingView). history_of l q.known) goes.planting ∙ ap (history_of p.planting) goes.known

    lawful : Lawful p.layout (history_of p.planting (goes.others ++ p.known))
    lawful = subst (Lawful p.layout) run_is (subst (λ (l : Layout). Lawful l (past_of q [])) goes.layout (goes.sound has.run).lawful)

-- so many are left from the same name on
pub left_as : (allows : Layout → History → ℕ → Type 0) (p : SeatedPass) (left : Remaining) (kind : RecordKind) (next count : ℕ) → next_of kind left ≡ next → next + count ≤ first_own kind p.layout p.number.0 + count_own kind p.layout → HasShareLeft allows p left → HasShareLeft allows p (with_left kind left next count)
left_as allows p left kind next count same few has = record {
  is_pass = has.is_pass;
  run = has.run;
  there = has.there;
  share = share_as p.layout (past_of p []) p.number.0 left kind next count same few has.share;
  over = has.over;
}

-- One after the other

no_calls_of : (o : ℕ) (rows : List Row) (k : ℕ) → k ≡ o → Each (IsOfNoCall k) rows → Each (IsOfNoCall o) rows
no_calls_of o rows k e = subst (λ n. Each (IsOfNoCall n) rows) e

deals_further : (p q r : SeatedPass) → HasGoneOnDealing p q → HasGoneOnDealing q r → HasGoneOnDealing p r
deals_further p q r x y = record {
  number = y.number ∙ x.number;
  layout = y.layout ∙ x.layout;
  planting = y.planting ∙ x.planting;
  more = y.more ++ x.more;
  of_no_call = each_of_both (IsOfNoCall p.number.0) y.more x.more (no_calls_of p.number.0 y.more q.number.0 (ap (λ (n : PassNo). n.0) x.number) y.of_no_call) x.of_no_call;
  known = y.known ∙ ap (λ l. y.more ++ l) x.known ∙ sym (append_assoc y.more x.more p.known);
  none = enters_on p.layout p.number.0 p.planting y.more p.known q.known r.known y.known x.none
      (subst (λ (l : Layout). EntersNone l p.number.0 p.planting q.known r.known) x.layout (subst (λ (n : PassNo). EntersNone q.layout n.0 p.planting q.known r.known) x.number (subst (λ (l : PlantingView). EntersNone q.layout q.number.0 l q.known r.known) x.planting y.none)));
}

pub deals_on : (one two both : SeatedPass → SeatedPass → Type 0) (u v w : SeatView) → ((p q r : SeatedPass) → one p q → two q r → both p r) → DealsOn one u v → DealsOn two v w → DealsOn both u w
deals_on one two both u v w join x y =
    let z : HasGoneOnDealing x.later y.later × two x.later y.later = subst (λ (k : SeatedPass). HasGoneOnDealing k y.later × two k y.later) (same_pass v.passes x.later y.pass x.is y.was) (y.goes_on, y.holds) in
    record { pass = x.pass; later = y.later; was = x.was; is = y.is; goes_on = deals_further x.pass x.later y.later x.goes_on z.0; holds = join x.pass x.later y.later x.holds z.1 }

rests_enter : {allows : Layout → History → ℕ → Type 0} (p q : SeatedPass) → HasGoneOnResting allows p q → EntersNone p.layout p.number.0 p.planting p.known q.known
rests_enter p q goes = subst (EntersNone p.layout p.number.0 p.planting p.known) (sym goes.known) (others_enter p.layout p.number.0 p.planting goes.others p.known goes.by_others)

-- a pass that has only looked has passed over no names
pub resting_deals : {allows : Layout → History → ℕ → Type 0} (p q : SeatedPass) → HasGoneOnResting allows p q → HasGoneOnDealing p q
resting_deals p q goes = record { number = goes.number; layout = goes.layout; planting = goes.planting; more = goes.others; of_no_call = each_by_others p.number.0 goes.others goes.by_others; known = goes.known; none = rests_enter p q goes }

pub rests_deal : (allows : Layout → History → ℕ → Type 0) (so : SeatedPass → SeatedPass → Type 0) (v w : SeatView) → RestsOn allows so v w → DealsOn so v w
rests_deal allows so v w x = record {
  pass = x.pass;
  later = x.later;
  was = x.was;
  is = x.is;
  goes_on = resting_deals x.pass x.later x.goes_on;
  holds = x.holds;
}

-- nothing was done
pub deals_not : (so : SeatedPass → SeatedPass → Type 0) (p : SeatedPass) (v : SeatView) → v.passes ≡ p ∷ [] → so p p → DealsOn so v v
deals_not so p v alone holds = record {
  pass = p;
  later = p;
  was = alone;
  is = alone;
  goes_on = record { number = refl; layout = refl; planting = refl; more = []; of_no_call = tt; known = refl; none = λ l over. (over, refl) };
  holds = holds;
}
