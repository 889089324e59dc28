-- A node that was on a search path, and is not final, still is on it; so what was in the tree, and
-- is not final, still is there.
use Rattle.std.proofs.Common.{◌≡◌, ℕ, ◌<◌, true, false, Bool, ◌⊎◌, inl, inr, ⊎_elim, refl, sym, ◌∙◌, subst}
use Rattle.histories.specs.Common.{Layout, Row, Child, History, Opened, ◌⊳◌, value, Extends, plan_finalizes, member, log, is_final, Descriptor, count_in, IsRemoved, Tree as TreeMode, IsNamed}
use Rattle.histories.proofs.Lemmas.{Effect, UpdateWins, by_final, descriptor_stays, effect, final_by, finalized_by_stays, freeze, freeze_keeps_field, lawful_tail, named_since, node_stays, quiet, removed_stays, some_is_real, update, update_flagged, update_won}
use Rattle.ordered_map.specs.OrderedMap.{MapEdit}
use Rattle.ordered_map.specs.Paths.{IsOnPath, WasInTree}
use Rattle.ordered_map.specs.Spelled.{IsTree}
use Rattle.ordered_map.specs.TreeWords.{Tree, Has, Passes, is_leaf}
use Rattle.ordered_map.specs.TrieShape.{Stays}
use Rattle.ordered_map.proofs.Spanned.{same_stays}
use Rattle.ordered_map.proofs.Trees.{passes_has}
use Rattle.ordered_map.proofs.Edited.{IsCut, past, result, tree_now}
use Rattle.ordered_map.proofs.Grown.{IsGrown, grown_tail}
use Rattle.ordered_map.proofs.Past.{Reached, reach, path_named}
use Rattle.ordered_map.proofs.TreeFacts.{path_now}
use Rattle.ordered_map.proofs.Stood.{facts_then, tree_then, path_stays}

module _ (calls : ℕ → MapEdit) (lay : Layout) (h : History) (r : Row) (g : IsGrown calls lay (r ⊳ h)) (n : ℕ) where
  -- what is final stays so
  pub not_final_then : is_final (log lay (r ⊳ h)) n ≡ false → is_final (log lay h) n ≡ false
  not_final_then e = go (is_final (log lay h) n) refl
    where
      go : (b : Bool) → is_final (log lay h) n ≡ b → b ≡ false
      go false q = refl
      go true q =
          let x = final_by lay h n (lawful_tail lay h r g.lawful) q in
          absurd (let y : true ≡ false = sym (by_final lay (r ⊳ h) n x.0 g.lawful (finalized_by_stays lay h r n x.0 g.lawful x.1)) ∙ e in cc)

  module _ (u : ℕ) (w : UpdateWins h r u) where
    its : IsCut calls lay h r u (facts_then calls lay h r g) w g.mode g.lawful (tree_then calls lay h r g) n → IsRemoved h u n
    its x =
        let p = past calls lay h r u (facts_then calls lay h r g) w g.mode g.lawful (tree_then calls lay h r g) in
        record {
          index = x.0;
          within = subst (λ d. x.0 < count_in d) p.same x.1;
          is = subst (λ (d : Descriptor). d.member x.0 ≡ n) p.same x.3;
          removed = subst (λ (d : Descriptor). plan_finalizes d.plan x.0 ≡ true) p.same x.2;
        }

    -- what the update takes out of the tree is final
    pub cut_final : IsCut calls lay h r u (facts_then calls lay h r g) w g.mode g.lawful (tree_then calls lay h r g) n → is_final (log lay (r ⊳ h)) n ≡ true
    cut_final x =
        let f = facts_then calls lay h r g in
        by_final lay (r ⊳ h) n u g.lawful record {
          won = update_won f w;
          removed = removed_stays h (r ⊳ h) n u (descriptor_stays lay h r u g.lawful (some_is_real f (update_flagged f w).some) (member h u 0, (update_flagged f w).frozen 0 (update_flagged f w).some)) (its x);
        }

    -- all else stays on its paths
    after_update : (k : ℕ) → is_final (log lay (r ⊳ h)) n ≡ false → Stays lay (value h) k n → Passes (value h) k (tree_then calls lay h r g).tree n → IsOnPath (r ⊳ h) k n
    after_update k e stay q =
        let t = tree_then calls lay h r g in
        let x = result calls lay h r u (facts_then calls lay h r g) w g.mode g.lawful t in
        ⊎_elim
        (λ p. record { tree = x.tree; is_tree = tree_now calls lay h r u (facts_then calls lay h r g) w g.mode g.lawful t; passes = p })
        (λ c. absurd (let y : true ≡ false = sym (cut_final c) ∙ e in cc))
        (x.paths k n (inl stay) q)

  still_there : (k : ℕ) → is_final (log lay (r ⊳ h)) n ≡ false → Stays lay (value h) k n → Passes (value h) k (tree_then calls lay h r g).tree n → IsOnPath (r ⊳ h) k n
  still_there k e stay q = go (effect lay h r g.lawful)
    where
      go : Effect lay h r → IsOnPath (r ⊳ h) k n
      go (quiet x) = path_stays calls lay h r g (λ m side y. x.node m (Child side) tt y) k n q
      go (freeze s j w) = path_stays calls lay h r g (λ m side y. freeze_keeps_field (facts_then calls lay h r g) w m side) k n q
      go (update u w) = after_update u w k e stay q

pub grown_on_path : (calls : ℕ → MapEdit) (lay : Layout) (h m : History) (k n : ℕ) → IsGrown calls lay h → Extends h m → IsOnPath m k n → Stays lay (value h) k n → is_final (log lay h) n ≡ false → IsOnPath h k n
grown_on_path calls lay (Opened o) m k n g w p stay e = subst (λ x. IsOnPath x k n) w p
grown_on_path calls lay (r ⊳ h) m k n g (inl w) p stay e = subst (λ x. IsOnPath x k n) w p
grown_on_path calls lay (r ⊳ h) m k n g (inr w) p stay e =
    let named : IsNamed lay h n = named_since lay h m n (lawful_tail lay h r g.lawful) w (path_named lay m k n g.mode p) in
    let before : Stays lay (value h) k n = same_stays (value (r ⊳ h)) (value h) lay k n (λ a i. sym (node_stays lay h r n a g.lawful i named)) stay in
    let y : IsOnPath h k n = grown_on_path calls lay h m k n (grown_tail calls lay h r g) w p before (not_final_then calls lay h r g n e) in
    let t = tree_then calls lay h r g in
    still_there calls lay h r g n k e before (path_now h t.tree k n t.is_tree y)

pub grown_remains : (calls : ℕ → MapEdit) (lay : Layout) (h : History) (t : Tree) (n : ℕ) → IsGrown calls lay h → WasInTree h n → (lay.mode ≡ TreeMode) ⊎ (is_leaf (value h) n ≡ false) → is_final (log lay h) n ≡ false → IsTree (value h) t → Has t n
grown_remains calls lay h t n g x kind e i =
    let k : Reached lay h x.moment n = reach calls lay h n g x kind in
    let y : IsOnPath h k.key n = grown_on_path calls lay h x.moment k.key n g x.within k.path k.stays e in
    passes_has (value h) k.key t n (path_now h t k.key n i y)
