-- What is left of a share once its pass has passed over names.
use Rattle.std.proofs.Common.{◌≡◌, ◌<◌, ◌≤◌, ◌+◌, ◌⊎◌, ℕ, zero, suc, List, ◌∷◌, inl, inr, ⊎_elim, refl, sym, ap, subst, arith}
use native.Mathlib.Decide.{dec_lt}
use Rattle.arena.proofs.Lemmas.{fill_takes_node, fill_takes_scx, taken_node_more, taken_scx_more}
use Rattle.arena.specs.declared.word.ScxWord.TheVariants.{Plan}
use Rattle.histories.specs.Common.{Abort, Fill, Head, History, IsOwnNode, IsOwnScx, IsTakenNode, IsTakenScx, Layout, Lawful, Remaining, Row, Seen, Settled, first_node, first_scx, node, scx, state, ◌⊳◌}
use Rattle.histories.proofs.Lemmas.{lawful_tail, unmentioned_by_fill, unmentioned_by_step, untaken_by_node}
use Rattle.planting.specs.Plantings.{PlantingView}
use Rattle.prims.specs.Moments.{AreFinished}
use Rattle.prims.specs.Shares.{IsShare}
use Rattle.resting.specs.Records.{record_of, the_node, the_scx}
use Rattle.slots.specs.Passing.{row_over}
use Rattle.slots.proofs.Lemmas.{node_rests, scx_rests}
use Rattle.tables.specs.LastingNames.{past_nodes, past_scxs, scx_rows}
use Rattle.tables.specs.TableRule.{history_of}
use Rattle.upkeep.specs.UpkeepBook.{count_own, first_own}
use Rattle.upkeep.specs.UpkeepDeals.{next_of, past_names, with_left}
use Rattle.upkeep.specs.declared.kind.RecordKind.{RecordKind}
use Rattle.upkeep.specs.declared.kind.RecordKind.TheVariants.{Node, Scx}

-- So many are left from the next name on, if they are the pass's own.
pub share_as : (lay : Layout) (h : History) (o : ℕ) (left : Remaining) (kind : RecordKind) (next count : ℕ) → next_of kind left ≡ next → next + count ≤ first_own kind lay o + count_own kind lay → IsShare lay h o left left.next_node left.next_scx → IsShare lay h o (with_left kind left next count) (with_left kind left next count).next_node (with_left kind left next count).next_scx
share_as lay h o left Node next count same few x = rw (← same) record {
  from_node = x.from_node;
  to_node = omega (arith, same, few);
  from_scx = x.from_scx;
  to_scx = x.to_scx;
  taken_nodes = x.taken_nodes;
  taken_scx = x.taken_scx;
  unmentioned = x.unmentioned;
  untaken_nodes = x.untaken_nodes;
  untaken = x.untaken;
}
share_as lay h o left Scx next count same few x = rw (← same) record {
  from_node = x.from_node;
  to_node = x.to_node;
  from_scx = x.from_scx;
  to_scx = omega (arith, same, few);
  taken_nodes = x.taken_nodes;
  taken_scx = x.taken_scx;
  unmentioned = x.unmentioned;
  untaken_nodes = x.untaken_nodes;
  untaken = x.untaken;
}

module _ (lay : Layout) (o : ℕ) where
  -- One node

  module _ (h : History) (left : Remaining) (own : IsOwnNode lay o left.next_node) (x : IsShare lay h o left left.next_node left.next_scx) where
    abbrev n0 : ℕ
    n0 = left.next_node

    abbrev r : Row
    r = row_over o Fill (node n0 (Settled Head)) 0 h

    node_then : (n : ℕ) → IsTakenNode (r ⊳ h) n → (n ≡ n0) ⊎ IsTakenNode h n
    unfolding IsTakenNode
    node_then n (inl f) = inl (sym (number (ap record_of f.2)))
      where
        number : the_node n0 ≡ the_node n → n0 ≡ n
        number e = cc
    node_then n (inr y) = inr y

    node_taken : (n : ℕ) → IsOwnNode lay o n → Dec (n < n0) → n < suc n0 → IsTakenNode (r ⊳ h) n
    node_taken n own_too (yes less) i = taken_node_more r h n (x.taken_nodes n own_too less)
    node_taken n own_too (no d) i = let e : n ≡ n0 = omega (arith, d, i) in subst (IsTakenNode (r ⊳ h)) (sym e) (fill_takes_node r h n0 (Settled Head) refl refl)

    share_past_node : IsShare lay (r ⊳ h) o (with_left Node left (suc n0) 0) (suc n0) left.next_scx
    share_past_node = record {
      from_node = (let a = x.from_node in omega (arith, a));
      to_node = (let b = own.below in omega (arith, b));
      from_scx = x.from_scx;
      to_scx = x.to_scx;
      taken_nodes = λ n own_too less. node_taken n own_too (dec_lt n n0) less;
      taken_scx = λ s own_too less. taken_scx_more r h s (x.taken_scx s own_too less);
      unmentioned = λ n own_too more. unmentioned_by_fill h r n (λ z. absurd z) (x.unmentioned n own_too (omega (arith, more)));
      untaken_nodes = λ n own_too more z. ⊎_elim (λ (e : n ≡ n0). omega (arith, e, more)) (x.untaken_nodes n own_too (omega (arith, more))) (node_then n z);
      untaken = λ s own_too more. untaken_by_node h r n0 s (Settled Head) refl (x.untaken s own_too more);
    }

  -- One SCX-record

  module _ (h : History) (left : Remaining) (own : IsOwnScx lay o left.next_scx) (x : IsShare lay h o left left.next_node left.next_scx) where
    abbrev s0 : ℕ
    s0 = left.next_scx

    abbrev one : Row
    one = row_over o Fill (scx s0 Plan) 1 h

    abbrev two : Row
    two = row_over o Fill (scx s0 (Seen 0)) s0 (one ⊳ h)

    abbrev three : Row
    three = row_over o Abort (state s0) 2 (two ⊳ one ⊳ h)

    abbrev k : History
    k = three ⊳ two ⊳ one ⊳ h

    scx_then : (s : ℕ) → IsTakenScx k s → (s ≡ s0) ⊎ IsTakenScx h s
    unfolding IsTakenScx
    scx_then s (inl f) = absurd (let z : Abort ≡ Fill = f.1 in cc)
    scx_then s (inr (inl f)) = inl (sym (number (ap record_of f.2)))
      where
        number : the_scx s0 ≡ the_scx s → s0 ≡ s
        number e = cc
    scx_then s (inr (inr (inl f))) = inl (sym (number (ap record_of f.2)))
      where
        number : the_scx s0 ≡ the_scx s → s0 ≡ s
        number e = cc
    scx_then s (inr (inr (inr y))) = inr y

    no_node : (n : ℕ) → IsTakenNode k n → IsTakenNode h n
    unfolding IsTakenNode
    no_node n (inl f) = absurd (let z : the_scx s0 ≡ the_node n = ap record_of f.2 in cc)
    no_node n (inr (inl f)) = absurd (let z : the_scx s0 ≡ the_node n = ap record_of f.2 in cc)
    no_node n (inr (inr (inl f))) = absurd (let z : the_scx s0 ≡ the_node n = ap record_of f.2 in cc)
    no_node n (inr (inr (inr y))) = y

    scx_taken : (s : ℕ) → IsOwnScx lay o s → Dec (s < s0) → s < suc s0 → IsTakenScx k s
    scx_taken s own_too (yes less) i = taken_scx_more three (two ⊳ one ⊳ h) s (taken_scx_more two (one ⊳ h) s (taken_scx_more one h s (x.taken_scx s own_too less)))
    scx_taken s own_too (no d) i = let e : s ≡ s0 = omega (arith, d, i) in subst (IsTakenScx k) (sym e) (taken_scx_more three (two ⊳ one ⊳ h) s0 (taken_scx_more two (one ⊳ h) s0 (fill_takes_scx one h s0 Plan refl refl)))

    share_past_scx : Lawful lay k → IsShare lay k o (with_left Scx left (suc s0) 0) left.next_node (suc s0)
    share_past_scx lawful = record {
      from_node = x.from_node;
      to_node = x.to_node;
      from_scx = (let a = x.from_scx in omega (arith, a));
      to_scx = (let b = own.below in omega (arith, b));
      taken_nodes = λ n own_too less. taken_node_more three (two ⊳ one ⊳ h) n (taken_node_more two (one ⊳ h) n (taken_node_more one h n (x.taken_nodes n own_too less)));
      taken_scx = λ s own_too less. scx_taken s own_too (dec_lt s s0) less;
      unmentioned = λ n own_too more. unmentioned_by_step lay (two ⊳ one ⊳ h) three n lawful (λ e. let z : Abort ≡ Fill = e in cc)
          (unmentioned_by_fill (one ⊳ h) two n (λ z. absurd z) (unmentioned_by_fill h one n (λ z. absurd z) (x.unmentioned n own_too more)));
      untaken_nodes = λ n own_too more z. x.untaken_nodes n own_too more (no_node n z);
      untaken = λ s own_too more z. ⊎_elim (λ (e : s ≡ s0). omega (arith, e, more)) (x.untaken s own_too (omega (arith, more))) (scx_then s z);
    }

-- What is left, and that the pass is between two calls, after so many rows
pub record IsPast (lay : Layout) (planting : PlantingView) (o : ℕ) (left : Remaining) (rows : List Row) : Type 0 where
  pub share : IsShare lay (history_of planting rows) o left left.next_node left.next_scx
  pub over : AreFinished lay o 0 (history_of planting rows)

module _ (lay : Layout) (planting : PlantingView) (o : ℕ) where
  past_nodes_left : (count : ℕ) (left : Remaining) (rows : List Row) → left.next_node + count ≤ first_node lay o + lay.nodes → IsPast lay planting o left rows → IsPast lay planting o (with_left Node left (left.next_node + count) 0) (past_nodes o left.next_node count planting rows)
  past_nodes_left zero left rows few x = subst (λ n. IsPast lay planting o (with_left Node left n 0) rows) (omega arith)
      record { share = share_as lay (history_of planting rows) o left Node left.next_node 0 refl (omega (arith, few)) x.share; over = x.over }
  past_nodes_left (suc count) left rows few x =
      let own : IsOwnNode lay o left.next_node = record { from = x.share.from_node; below = omega (arith, few) } in
      let r : Row = row_over o Fill (node left.next_node (Settled Head)) 0 (history_of planting rows) in
      subst (λ n. IsPast lay planting o (with_left Node left n 0) (past_nodes o left.next_node (suc count) planting rows)) (omega arith)
      (past_nodes_left count (with_left Node left (suc left.next_node) 0) (r ∷ rows) (omega (arith, few))
      record { share = share_past_node lay o (history_of planting rows) left own x.share; over = node_rests lay (history_of planting rows) o left.next_node x.over })

  past_scxs_left : (count : ℕ) (left : Remaining) (rows : List Row) → left.next_scx + count ≤ first_scx lay o + lay.scx → Lawful lay (history_of planting (past_scxs o left.next_scx count planting rows)) → IsPast lay planting o left rows → IsPast lay planting o (with_left Scx left (left.next_scx + count) 0) (past_scxs o left.next_scx count planting rows)
  past_scxs_left zero left rows few lawful x = subst (λ n. IsPast lay planting o (with_left Scx left n 0) rows) (omega arith)
      record { share = share_as lay (history_of planting rows) o left Scx left.next_scx 0 refl (omega (arith, few)) x.share; over = x.over }
  past_scxs_left (suc count) left rows few lawful x =
      let own : IsOwnScx lay o left.next_scx = record { from = x.share.from_scx; below = omega (arith, few) } in
      subst (λ n. IsPast lay planting o (with_left Scx left n 0) (past_scxs o left.next_scx (suc count) planting rows)) (omega arith)
      (past_scxs_left count (with_left Scx left (suc left.next_scx) 0) (scx_rows o left.next_scx planting rows) (omega (arith, few)) lawful
      record { share = share_past_scx lay o (history_of planting rows) left own x.share (before count (suc left.next_scx) (scx_rows o left.next_scx planting rows) lawful); over = scx_rests lay (history_of planting rows) o left.next_scx x.over })
    where
      -- the run was lawful before
      before : (count from : ℕ) (rows : List Row) → Lawful lay (history_of planting (past_scxs o from count planting rows)) → Lawful lay (history_of planting rows)
      before zero from rows l = l
      before (suc count) from rows l = lawful_tail lay _ _ (lawful_tail lay _ _ (lawful_tail lay _ _ (before count (suc from) (scx_rows o from planting rows) l)))

  pub past_names_left : (kind : RecordKind) (count : ℕ) (left : Remaining) (rows : List Row) → next_of kind left + count ≤ first_own kind lay o + count_own kind lay → Lawful lay (history_of planting (past_names kind o (next_of kind left) count planting rows)) → IsPast lay planting o left rows → IsPast lay planting o (with_left kind left (next_of kind left + count) 0) (past_names kind o (next_of kind left) count planting rows)
  past_names_left Node count left rows few lawful x = past_nodes_left count left rows few x
  past_names_left Scx count left rows few lawful x = past_scxs_left count left rows few lawful x
