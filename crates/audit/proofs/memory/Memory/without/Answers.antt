use Rattle.std.proofs.Common.{◌≡◌, ℕ, ◌+◌, ◌||◌, Bool, true, false, eqb, eqb-true, eq-eqb, List, [], ◌∷◌, ◌++◌, set, slice_get, take, Option, Some, None, ⊎_elim, refl, sym, ◌∙◌, ap}
use Rattle.std.proofs.lemmas.List.{take_more}
use native.Mathlib.Decide.{ℕ_discrete}
use Rattle.arena.specs.Log.{has}
use Rattle.arena.proofs.Lemmas.{or_split}
use Rattle.record.proofs.Lemmas.{get_other}
use Rattle.audit.specs.declared.memory.Memory.{Memory}
use Rattle.audit.specs.declared.memory.Snapshot.{Snapshot}
use Rattle.audit.proofs.Noted.{set_own, has_push}
use Rattle.audit.proofs.memory.Memory.without.Goals as goal

-- one cell more is forgotten
dropped_more : (old kept new : List (Option Snapshot)) (cells more : List ℕ) (cell : ℕ) → more ≡ cells ++ cell ∷ [] → new ≡ set kept cell None → ((n : ℕ) (k : Option Snapshot) → slice_get kept n ≡ Some k → has cells n ≡ true → k ≡ None) → (n : ℕ) (k : Option Snapshot) → slice_get new n ≡ Some k → has more n ≡ true → k ≡ None
dropped_more old kept new cells more cell is put before n k get there_is = go (ℕ_discrete n cell)
  where
    there : slice_get (set kept cell None) n ≡ Some k
    there = ap (λ (xs : List (Option Snapshot)). slice_get xs n) (sym put) ∙ get

    go : Dec (n ≡ cell) → k ≡ None
    go (yes e) = set_own kept cell None k (ap (λ (i : ℕ). slice_get (set kept cell None) i) (sym e) ∙ there)
    go (no d) = before n k (sym (get_other kept cell n None d) ∙ there) (⊎_elim (λ q. q) (λ q. absurd (d (sym (eqb-true cell n q)))) (or_split _ _ (sym (has_push cells cell n) ∙ ap (λ (xs : List ℕ). has xs n) (sym is) ∙ there_is)))

left_of : (a b : Bool) → a || b ≡ false → a ≡ false
left_of false b e = refl
left_of true b e = cc

right_of : (a b : Bool) → a || b ≡ false → b ≡ false
right_of false b e = e
right_of true b e = cc

others_more : (old kept new : List (Option Snapshot)) (cells more : List ℕ) (cell : ℕ) → more ≡ cells ++ cell ∷ [] → new ≡ set kept cell None → ((n : ℕ) → has cells n ≡ false → slice_get kept n ≡ slice_get old n) → (n : ℕ) → has more n ≡ false → slice_get new n ≡ slice_get old n
others_more old kept new cells more cell is put before n not =
    let none : has cells n || eqb cell n ≡ false = sym (has_push cells cell n) ∙ ap (λ (xs : List ℕ). has xs n) (sym is) ∙ not in
    let apart : eqb cell n ≡ false = right_of (has cells n) (eqb cell n) none in
    let other : n ≡ cell → ⊥ = λ e. let z : true ≡ false = sym (eq-eqb cell n (sym e)) ∙ apart in cc in
    ap (λ (xs : List (Option Snapshot)). slice_get xs n) put ∙ get_other kept cell n None other ∙ before n (left_of _ _ none)

pub loop-cell-preserved : goal.loop-cell-preserved
loop-cell-preserved c =
    let put : c.with-memory.result ≡ record c.loop-cell.memory { snapshots = set c.loop-cell.memory.snapshots c.node.result.0 None } = c.with-memory.ensures in
    let is : take (c.loop-cell.cell-index + 1) c.args.cells.now ≡ take c.loop-cell.cell-index c.args.cells.now ++ c.node.result.0 ∷ [] = take_more c.args.cells.now c.loop-cell.cell-index c.cell-item.result c.loop-cell-test.true ∙ ap (λ (y : ℕ). take c.loop-cell.cell-index c.args.cells.now ++ y ∷ []) (sym c.cell-item.is ∙ sym c.node.ensures.node) in
    record {
      same = put ∙ ap (λ (m : Memory). let k : Memory = record m { snapshots = set c.loop-cell.memory.snapshots c.node.result.0 None } in k) c.loop-cell.invariant.same ∙ ap (λ (m : Memory). let k : Memory = record c.args.self { snapshots = m.snapshots } in k) (sym put);
      dropped = dropped_more c.args.self.snapshots c.loop-cell.memory.snapshots c.with-memory.result.snapshots _ _ c.node.result.0 is (ap (λ (m : Memory). m.snapshots) put) c.loop-cell.invariant.dropped;
      others = others_more c.args.self.snapshots c.loop-cell.memory.snapshots c.with-memory.result.snapshots _ _ c.node.result.0 is (ap (λ (m : Memory). m.snapshots) put) c.loop-cell.invariant.others;
    }
