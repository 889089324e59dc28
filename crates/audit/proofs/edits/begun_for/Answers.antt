use Rattle.std.proofs.Common.{◌≡◌, ℕ, ◌^◌, ◌<◌, false, ⊎_elim, Some, inl, inr, refl, sym, ◌∙◌, subst, rules}
use Rattle.arena.specs.declared.limits.Mode.TheVariants.{Trie as TrieMode}
use Rattle.arena.specs.ScxRecords.{member, new}
use Rattle.arena.proofs.Lemmas.{ends_self}
use Rattle.histories.specs.Common.{value}
use Rattle.ordered_map.specs.Bits.{Shares}
use Rattle.ordered_map.specs.Paths.{IsOnPath, WasOnPath}
use Rattle.ordered_map.specs.TrieShape.{FitsTrie, Stays}
use Rattle.record.specs.Common.{edit_key, is_leaf, map_call, class, toward, Command}
use Rattle.judge.specs.Histories.{seen_history}
use Rattle.audit.specs.Edits.{IsEditBy, edit_begun}
use Rattle.audit.proofs.ListEdits.{key_of_edit}
use Rattle.audit.proofs.TrieShapes.{tree_or_trie}
use Rattle.audit.proofs.edits.begun_for.Goals as goal

pub returns-then-covers_the_right_leaf-clause-edit : goal.returns-then-covers_the_right_leaf-clause-edit
returns-then-covers_the_right_leaf-clause-edit c =
    let lay = c.args.judge.now.layout in
    let h = seen_history c.args.judge.now in
    let begun = c.in_ok-begun.begun in
    let p = member h c.args.scx 0 in
    let key : edit_key (edit_begun begun) ≡ begun.key = key_of_edit begun.key begun.value in
    let path : IsOnPath h begun.key p = search rules in
    let fork : is_leaf (value h) p ≡ false = search rules in
    let shares : lay.mode ≡ TrieMode → class (value h) p ≡ 0 → Shares (value h) p begun.key = search rules in
    let fits : lay.mode ≡ TrieMode → FitsTrie (value h) p (toward (value h) p begun.key) (new h c.args.scx) = search rules in
    let stays : Stays lay (value h) begun.key p = ⊎_elim (λ tree. inl tree) (λ trie. inr (fork, shares trie)) (tree_or_trie lay.mode c.requires.mode) in
    record {
      edit = record {
        small = subst (λ (k : ℕ). k < 2 ^ 64) (sym key) c.in_ok-begun.ensures.small;
        path = subst (λ (k : ℕ). WasOnPath h k p) (sym key) (h, ends_self h, path);
        stays = subst (λ (k : ℕ). Stays lay (value h) k p) (sym key) stays;
        fork = fork;
        edit = c.if-is_edit.ensures.edit refl;
        fits = λ trie. subst (λ (k : ℕ). FitsTrie (value h) p (toward (value h) p k) (new h c.args.scx)) (sym key) (fits trie);
        fresh = c.if-is_edit.ensures.fresh refl;
      };
      own = subst (λ (k : Command). IsEditBy (map_call (Some k)) (edit_begun begun)) (sym c.in_ok-begun.ensures.command) c.in_ok-begun.ensures.own;
    }
