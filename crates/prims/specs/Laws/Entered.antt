-- An SCX-record whose words hold what an update wants, and which has
-- won, has put the update's entry into the log.
use Rattle.std.proofs.Common.{◌≡◌, ◌≢◌, ℕ, ◌+◌, ◌<◌, suc, false, List, [], ◌∷◌, length, refl, sym, ◌∙◌, ap, arith}
use Rattle.histories.specs.Common.{Layout, Plan, New, Member, Seen, Row, info, state, History, ◌⊳◌, value, Extends, count_of, side_of, field_index_of as field_of}
use Rattle.histories.specs.Common.{plan, count, member, seen, IsNamed, IsWin, HasWon, Lawful, Entry, log, last, is_final, members_from, finalized_from, Call}
use Rattle.arena.specs.declared.word.ScxWord.TheVariants.{Call as CallWord}
use Rattle.arena.proofs.Lemmas.{owner_is}
use Rattle.histories.proofs.Lemmas.{entry_of, facts, lawful_since, named_scx_taken, won_named, won_real}
use Rattle.prims.specs.Moments.{IsAsFound}
use Rattle.prims.specs.Snap.{snap_at}
use Rattle.prims.specs.Scx.Known.{HasFilled, IsEntryAt, HasEntry, nodes_of, removed_nodes, update_entry}
use Rattle.prims.specs.declared.snap.Snap.{Snap}
use Rattle.prims.specs.declared.scx.ScxRun.{ScxRun}
use Rattle.prims.specs.Laws.Wins.{IsWonAt, won_at, won_logged, won_words, won_not_final, won_last, won_since_start}

-- Entries

-- entries with the same parts are the same
pub same_entry : (a b : Entry) → a.scx ≡ b.scx → a.owner ≡ b.owner → a.call ≡ b.call → a.members ≡ b.members → a.removed ≡ b.removed → a.node ≡ b.node → a.side ≡ b.side → a.new ≡ b.new → a ≡ b
same_entry a b s o c m r n d w = λ i. record { scx = s i; owner = o i; call = c i; members = m i; removed = r i; node = n i; side = d i; new = w i }

-- the nodes of an SCX-record from the j-th on are those of the snapshots
members_are : (h : History) (s j : ℕ) (snaps : List Snap) → ((i k : ℕ) → k ≡ j + i → i < length snaps → member h s k ≡ (snap_at snaps i).node.0) → members_from h s j (length snaps) ≡ nodes_of snaps
members_are h s j [] f = refl
members_are h s j (snap ∷ snaps) f = rw (f 0 j (omega arith) (omega arith), members_are h s (suc j) snaps (λ i k e w. f (suc i) k (omega arith) (omega arith))) refl

-- and so are those that it finalizes
removed_are : (h : History) (s p j : ℕ) (snaps : List Snap) → plan h s ≡ p → ((i k : ℕ) → k ≡ j + i → i < length snaps → member h s k ≡ (snap_at snaps i).node.0) → finalized_from h s j (length snaps) ≡ removed_nodes p snaps j
removed_are h s p j [] q f = refl
removed_are h s p j (snap ∷ snaps) q f = rw (q, f 0 j (omega arith) (omega arith), removed_are h s p (suc j) snaps q (λ i k e w. f (suc i) k (omega arith) (omega arith))) refl

-- a node is as its snapshot found it
as_found : (lay : Layout) (h k : History) (snap : Snap) (n q : ℕ) → n ≡ snap.node.0 → q ≡ snap.scx.0 → is_final (log lay k) n ≡ false → ((m : History) → Extends h m → IsNamed lay m n → value m (state q) ≢ 0 → value m (info n) ≡ q → last (log lay k) n ≡ last (log lay m) n) → IsAsFound lay h k snap
as_found lay h k snap n q e f final same = record {
  last = λ m y. rw e at (same m y.within (rw e y.named) (rw f y.rest) (rw (e, f) y.info));
  not_final = rw e at final;
}

-- the row at which s has won, with its words as the update wants
-- them, has put the update's entry into the log
pub filled_entry_at : (c : Call) (h : History) (m : ScxRun) (row : Row) (before : History) → Lawful c.layout h → HasFilled c h m.scx.0 m.call m.update → Extends h (row ⊳ before) → IsWin before row m.scx.0 → IsEntryAt c h m row before
filled_entry_at c h m row before l x e w = record {
  within = e;
  since = won_since_start c.layout h m.scx.0 l y c.start x.way.begun.since not_won;
  wins = w;
  logged = rw (← entry) (won_logged c.layout h m.scx.0 l y);
  found = λ i p. as_found c.layout h before (snap_at m.update.snaps i) (member before m.scx.0 i) (seen before m.scx.0 i) (members i p) (saw i p) (won_not_final c.layout h m.scx.0 l y i (within i p)) (won_last c.layout h m.scx.0 l y i (within i p));
  planned = planned;
  saw = saw;
}
  where
    y : IsWonAt c.layout h m.scx.0
    y = record { row = row; before = before; within = e; wins = w }

    not_won : ¬ HasWon c.start m.scx.0
    not_won v =
        let ls : Lawful c.layout c.start = lawful_since c.layout h c.start l x.way.begun.since in
        x.way.free (named_scx_taken c.layout c.start m.scx.0 ls (won_real m.scx.0 (facts c.layout c.start ls) v) (won_named m.scx.0 (facts c.layout c.start ls) v))

    planned : plan before m.scx.0 ≡ m.update.plan.0
    planned = sym (won_words c.layout h m.scx.0 l y Plan tt) ∙ x.planned

    saw : (i : ℕ) → i < length m.update.snaps → seen before m.scx.0 i ≡ (snap_at m.update.snaps i).scx.0
    saw i p = sym (won_words c.layout h m.scx.0 l y (Seen i) tt) ∙ x.found i p

    counts : count before m.scx.0 ≡ length m.update.snaps
    counts = ap count_of planned ∙ x.over.count

    within : (i : ℕ) → i < length m.update.snaps → i < count before m.scx.0
    within i p = rw counts p

    members : (i : ℕ) → i < length m.update.snaps → member before m.scx.0 i ≡ (snap_at m.update.snaps i).node.0
    members i p = sym (won_words c.layout h m.scx.0 l y (Member i) tt) ∙ x.members i p

    members_at : (i k : ℕ) → k ≡ 0 + i → i < length m.update.snaps → member before m.scx.0 k ≡ (snap_at m.update.snaps i).node.0
    members_at i k e p = let q : k ≡ i = omega arith in rw q (members i p)

    node_at : (q : ℕ) → q ≡ m.update.plan.0 → member before m.scx.0 (field_of q) ≡ (snap_at m.update.snaps (field_of m.update.plan.0)).node.0
    node_at q e = rw e (members (field_of m.update.plan.0) (rw x.over.count at x.over.planned.field))

    entry : entry_of c.layout before m.scx.0 ≡ update_entry c.pass m
    entry = same_entry (entry_of c.layout before m.scx.0) (update_entry c.pass m)
        refl
        (owner_is c.layout c.pass m.scx.0 x.own)
        (sym (won_words c.layout h m.scx.0 l y CallWord tt) ∙ x.called)
        (rw counts (members_are before m.scx.0 0 m.update.snaps members_at))
        (rw counts (removed_are before m.scx.0 m.update.plan.0 0 m.update.snaps planned members_at))
        (node_at (plan before m.scx.0) planned)
        (ap side_of planned)
        (sym (won_words c.layout h m.scx.0 l y New tt) ∙ x.fresh)

-- once s has won, with its words as the update wants them, the update has its entry
pub filled_entry : (c : Call) (h : History) (m : ScxRun) → Lawful c.layout h → HasFilled c h m.scx.0 m.call m.update → HasWon h m.scx.0 → HasEntry c h m
filled_entry c h m l x w =
    let y = won_at c.layout h m.scx.0 w in
    record { row = y.row; before = y.before; is = filled_entry_at c h m y.row y.before l x y.within y.wins }
