-- What is remembered of no line.
use Rattle.std.proofs.Common.{◌≡◌, ℕ, zero, suc, true, false, List, [], length, slice_get, Option, Some, None, refl, sym, ◌∙◌, ap, subst, arith}
use Rattle.std.proofs.Math.ListN.{replicate}
use Rattle.std.proofs.lemmas.List.{length-replicate}
use Rattle.histories.specs.Common.{Layout, History, Start, all_nodes, all_scx, log, is_final}
use Rattle.script.specs.declared.call.Call.{Call}
use Rattle.judge.specs.Histories.{seen_history}
use Rattle.audit.specs.declared.memory.Memory.{Memory}
use Rattle.audit.specs.declared.memory.Snapshot.{Snapshot}
use Rattle.audit.specs.declared.steps.Steps.{Steps}
use Rattle.audit.specs.Remembered.{IsSnapshotOf, IsMemoryOf, AreRemembered}

same_some : {X : Type 0} (a b : X) → Some a ≡ Some b → a ≡ b
same_some a b e = cc

of_replicate : {X : Type 0} (n i : ℕ) (x y : X) → slice_get (replicate n x) i ≡ Some y → y ≡ x
of_replicate zero i x y e = absurd (let z : None ≡ Some y = e in cc)
of_replicate (suc n) zero x y e = sym (same_some x y e)
of_replicate (suc n) (suc i) x y e = of_replicate n i x y e

none_final : (lay : Layout) (n : ℕ) → is_final (log lay (Start lay.mode)) n ≡ false
unfolding log
none_final lay n = refl

pub unstarted : (lay : Layout) (calls : List Call) (all : Steps) (m : Memory) (scx nodes : ℕ) → all.judge.layout ≡ lay → seen_history all.judge ≡ Start lay.mode → all.count ≡ 0 → scx ≡ all_scx lay → nodes ≡ all_nodes lay → all.until.items ≡ replicate scx 0 → all.finals.items ≡ replicate nodes 0 → all.memories.items ≡ replicate lay.passes m → m.look ≡ None → m.freeze ≡ None → ((n : ℕ) (kept : Option Snapshot) → slice_get m.snapshots n ≡ Some kept → kept ≡ None) → AreRemembered lay calls [] all
unstarted lay calls all m scx nodes layout is count scx_is nodes_is until finals memories look freeze snapshots = record {
  steps = record {
    layout = layout;
    is_seen = is;
    count = count;
    all_until = ap length until ∙ length-replicate scx 0 ∙ scx_is;
    until = λ s rows get some. let z : rows ≡ 0 = of_replicate scx s 0 rows (ap (λ (xs : List ℕ). slice_get xs s) (sym until) ∙ get) in absurd (omega arith);
    all_finals = ap length finals ∙ length-replicate nodes 0 ∙ nodes_is;
    finals = λ n rows get g e.
        let z : rows ≡ 0 = zero_at n rows get in
        (λ f. absurd (let q : true ≡ false = sym f ∙ ap (λ (k : History). is_final (log lay k) n) e ∙ none_final lay n in cc), λ q. let i = q.0 in absurd (omega arith));
    finals_within = λ n rows get. let z : rows ≡ 0 = zero_at n rows get in omega arith;
    all_memories = ap length memories ∙ length-replicate lay.passes m;
  };
  memories = λ c k get. subst (λ (p : Memory). IsMemoryOf lay calls [] c p) (sym (of_replicate lay.passes c m k (ap (λ (xs : List Memory). slice_get xs c) (sym memories) ∙ get))) (memory c);
}
  where
    zero_at : (n rows : ℕ) → slice_get all.finals.items n ≡ Some rows → rows ≡ 0
    zero_at n rows get = of_replicate nodes n 0 rows (ap (λ (xs : List ℕ). slice_get xs n) (sym finals) ∙ get)

    memory : (c : ℕ) → IsMemoryOf lay calls [] c m
    memory c = record {
      begins = λ some. absurd (let z : false ≡ true = some in cc);
      looks = λ k e. absurd (let z : None ≡ Some k = sym look ∙ e in cc);
      freezes = λ k e. absurd (let z : None ≡ Some k = sym freeze ∙ e in cc);
      snapshots = λ n kept get. subst (λ (k : Option Snapshot). IsSnapshotOf lay (Start lay.mode) n k None) (sym (snapshots n kept get)) tt;
    }
