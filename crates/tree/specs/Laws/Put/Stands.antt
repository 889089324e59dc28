-- Where an insert stands once its walk has ended: at a leaf, or in a trie at a fork that its key
-- does not share. The fork above is surely on the path of its key.
use Rattle.std.proofs.Common.{◌≡◌, ℕ, ◌⊎◌, inl, inr, Bool, true, false, Option, Some, None, refl, sym, ◌∙◌, ap, subst}
use Rattle.histories.specs.Common.{History, Call}
use Rattle.template.specs.Common.{IsMapRun, HasFoundFork, HasFoundLeaf, FoundBy, MayGo, Key as ToKey}
use Rattle.template.specs.Trails.{IsSurelyOn}
use Rattle.template.specs.declared.walk.Found.{Found}
use Rattle.template.proofs.Lemmas.{found_below, surely_on}
use Rattle.edits.specs.Known.{covered}
use Rattle.tree.specs.Put.Means.{next_node, put_way, strays, strays_by}
use Rattle.tree.specs.Laws.LeafLooks.{IsCovering, covering_leaf, covering_two}

pub record IsAtLeaf (trie : Bool) (k : ℕ) (c : Call) (h : History) (f : Found) : Type 0 where
  pub stays : strays trie f ≡ false
  pub found : HasFoundLeaf c h k f
  pub parent : IsSurelyOn c h k f.trail.parent.0

pub record IsAtFork (trie : Bool) (k : ℕ) (c : Call) (h : History) (f : Found) : Type 0 where
  pub strays : strays trie f ≡ true
  pub found : HasFoundFork (ToKey k) c h f

abbrev pub PutStands : Bool → ℕ → Call → History → Found → Type 0
PutStands trie k c h f = IsAtLeaf trie k c h f ⊎ IsAtFork trie k c h f

-- what was found at a key is a leaf by its head
pub found_leaf : (k : ℕ) (c : Call) (h : History) (f : Found) → HasFoundLeaf c h k f → f.head.leaf ≡ true
found_leaf k c h f a = sym (ap (λ w. w.leaf) a.head) ∙ a.leaf

pub found_fork : (k : ℕ) (c : Call) (h : History) (f : Found) → HasFoundFork (ToKey k) c h f → f.head.leaf ≡ false
found_fork k c h f a = sym (ap (λ w. w.leaf) a.head) ∙ a.fork

-- a leaf does not stray
no_strays : (o : Option ℕ) → strays_by o false ≡ false
no_strays (Some v) = refl
no_strays None = refl

pub stands_at : (trie : Bool) (k : ℕ) (c : Call) (h : History) (f : Found) → IsMapRun c.layout h → MayGo c.layout (put_way trie) (ToKey k) → FoundBy (put_way trie) (ToKey k) c h f → PutStands trie k c h f
stands_at false k c h f run may a =
    let t = a.trail.parent (found_below (ToKey k) c h f run a) in
    inl record { stays = no_strays f.value; found = a; parent = surely_on c h k f.trail.parent.0 t.passed t.fork (inl may) }
stands_at true k c h f run may (inl a) =
    let below = found_below (ToKey k) c h f run a.found in
    let t = a.found.trail.parent below in
    inl record { stays = rw (found_leaf k c h f a.found) (no_strays f.value); found = a.found; parent = surely_on c h k f.trail.parent.0 t.passed t.fork (a.stays below) }
stands_at true k c h f run may (inr a) = inr record { strays = rw (found_fork k c h f a, a.none) refl; found = a }

-- the leaf besides that fork, or node 2, may be covered
pub stands_covering : (trie : Bool) (k : ℕ) (c : Call) (h : History) (f : Found) → IsMapRun c.layout h → PutStands trie k c h f → IsCovering k c h f (next_node trie f)
stands_covering in_trie k c h f run (inl x) = subst (IsCovering k c h f) (sym (next_leaf in_trie f x.stays)) (covering_leaf k c h f run x.found x.parent)
  where
    next_leaf : (trie : Bool) (f : Found) → strays trie f ≡ false → next_node trie f ≡ f.trail.node
    next_leaf in_trie f e = rw e refl
stands_covering in_trie k c h f run (inr x) = subst (IsCovering k c h f) (sym (next_two in_trie f x.strays)) (covering_two k c h f run x.found)
  where
    next_two : (trie : Bool) (f : Found) → strays trie f ≡ true → next_node trie f ≡ record { 0 = 2 }
    next_two in_trie f e = rw e refl

-- and it stands for what was found
pub stands_covered : (trie : Bool) (k : ℕ) (c : Call) (h : History) (f : Found) → PutStands trie k c h f → (next_node trie f).0 ≡ covered f
stands_covered in_trie k c h f (inl x) = rw (x.stays, found_leaf k c h f x.found) refl
stands_covered in_trie k c h f (inr x) = rw (x.strays, found_fork k c h f x.found) refl
