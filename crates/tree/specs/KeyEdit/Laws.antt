-- The bounds of an edit: those of what it does at a key, and one node, or three where its rule puts
-- in what was absent.
use Rattle.std.proofs.Common.{◌≡◌, ℕ, ◌<◌, ◌≤◌, Bool, true, false, cond, Option, Some, None, refl, sym, subst, arith}
use Rattle.template.specs.Common.{nodes_in_try, applies, leaves, Goal, Key, End, Rule, asked_key}
use Rattle.template.specs.declared.walk.Found.{Found}
use Rattle.tree.specs.KeyEdit.Means.{doing, is_trie_end, key_at, key_means, leaving, part, popping, putting, taking, wants}
use Rattle.tree.specs.Pop.Laws.{pop_bounds}
use Rattle.tree.specs.Pop.Means.{pop_means}
use Rattle.tree.specs.Put.Laws.{put_bounds}
use Rattle.tree.specs.Put.Means.{put_means}
use Rattle.tree.specs.Take.Laws.{take_bounds}
use Rattle.tree.specs.Take.Means.{take_means}
use Rattle.edits.specs.declared.edit.Nth.{Nth}
use Rattle.edits.specs.declared.edit.Work.{Work}
use Rattle.edits.specs.declared.piece.Piece.{Piece}
use Rattle.edits.specs.Edits.{EditBounds, EditMeaning, through}
use Rattle.edits.specs.Pieces.{all_fills, no_work}

-- what does at each of its keys what another edit does has its bounds: `of` is the other one there
bounds_through : {E F : Type 0} (m : EditMeaning E) (of : F → E) → EditBounds m → EditBounds (through m of)
bounds_through m of b = record {
  few_looks = λ e. b.few_looks (of e);
  small = λ e. b.small (of e);
  few_nodes = λ e. b.few_nodes (of e);
  some_nodes = λ e. b.some_nodes (of e);
  few_reads = λ e. b.few_reads (of e);
  few_fills = λ e. b.few_fills (of e);
}

-- what leaves this to a key
pub leaving_bounds : (end trie : Bool) (left : Option ℕ) → EditBounds (leaving end trie left)
leaving_bounds end in_trie (Some value) = bounds_through put_means (λ key. putting in_trie key value) put_bounds
leaving_bounds false in_trie None = bounds_through take_means (taking in_trie) take_bounds
leaving_bounds true in_trie None = bounds_through pop_means popping pop_bounds

-- a try takes some node
some_nodes : (b : Bool) → 0 < cond b 3 (let one : ℕ = 1 in one)
some_nodes true = omega arith
some_nodes false = omega arith

-- where there is a value one is enough
pub one_needed : (end trie : Bool) (left : Option ℕ) (key value : ℕ) (f : Found) → f.value ≡ Some value → ((doing end trie left).work key f).need ≤ 1
one_needed false in_trie None key value f is = take_bounds.few_nodes (taking in_trie key) f
one_needed true in_trie None key value f is = pop_bounds.few_nodes (popping key) f
one_needed end in_trie (Some v) key value f is = rw is (omega arith)

-- and three always are
pub three_needed : (end trie : Bool) (left : Option ℕ) (key : ℕ) (f : Found) → ((doing end trie left).work key f).need ≤ 3
three_needed end in_trie (Some v) key f = put_bounds.few_nodes (putting in_trie key v) f
three_needed false in_trie None key f = let few = take_bounds.few_nodes (taking in_trie key) f in omega (arith, few)
three_needed true in_trie None key f = let few = pop_bounds.few_nodes (popping key) f in omega (arith, few)

few_nodes : (end trie : Bool) (rule : Rule) (left : Option ℕ) (key : ℕ) (f : Found) (value : Option ℕ) → f.value ≡ value → (b : Bool) → (b ≡ true → value ≡ None → applies rule None ≡ true) → (cond b ((doing end trie left).work key f) no_work).need ≤ nodes_in_try rule
few_nodes end in_trie rule left key f value is false absent = omega arith
few_nodes end in_trie rule left key f (Some v) is true absent = let few = one_needed end in_trie left key v f is in let some = some_nodes (applies rule None) in omega (arith, few, some)
few_nodes end in_trie rule left key f None is true absent = subst (λ (b : Bool). ((doing end in_trie left).work key f).need ≤ cond b 3 1) (sym (absent refl refl)) (three_needed end in_trie left key f)

-- and where there is none it puts in what was absent
wants_absent : (goal : Goal) (rule : Rule) (value : Option ℕ) → wants goal rule value ≡ true → value ≡ None → applies rule None ≡ true
wants_absent (Key k) rule value wanted is = subst (λ (o : Option ℕ). applies rule o ≡ true) is wanted
wants_absent (End side) rule None wanted is = cc
wants_absent (End side) rule (Some v) wanted is = cc

-- where it does nothing it fills no more
fewer_fills : (b : Bool) (work : Work) (pieces : Nth → Piece) (n : ℕ) → all_fills work.need pieces ≤ n → all_fills (cond b work no_work).need pieces ≤ n
fewer_fills true work pieces n few = few
fewer_fills false work pieces n few = omega (arith, few)

pub key_bounds : {G R : Type 0} (goal : G → Goal) (trie : G → Bool) (rule : R → Rule) → EditBounds (key_means goal trie rule)
key_bounds goal trie rule = record {
  few_looks = λ e f snaps n at. (leaving_bounds (is_trie_end (goal e.goal) (trie e.goal)) (trie e.goal) (leaves (rule e.rule))).few_looks (key_at goal trie rule e f) f snaps n at;
  small = λ e. (leaving_bounds (is_trie_end (goal e.goal) (trie e.goal)) (trie e.goal) (leaves (rule e.rule))).small 0;
  few_nodes = λ e f. few_nodes (is_trie_end (goal e.goal) (trie e.goal)) (trie e.goal) (rule e.rule) (leaves (rule e.rule)) (asked_key (goal e.goal) f.key) f f.value refl (wants (goal e.goal) (rule e.rule) f.value) (wants_absent (goal e.goal) (rule e.rule) f.value);
  some_nodes = λ e. some_nodes (applies (rule e.rule) None);
  few_reads = λ e f snaps x is. (leaving_bounds (is_trie_end (goal e.goal) (trie e.goal)) (trie e.goal) (leaves (rule e.rule))).few_reads (key_at goal trie rule e f) f snaps x is;
  few_fills = λ e f snaps ns read. fewer_fills (wants (goal e.goal) (rule e.rule) f.value) ((part goal trie rule e).work (key_at goal trie rule e f) f) ((part goal trie rule e).pieces (key_at goal trie rule e f) f snaps ns read) ((part goal trie rule e).most_fills 0) ((leaving_bounds (is_trie_end (goal e.goal) (trie e.goal)) (trie e.goal) (leaves (rule e.rule))).few_fills (key_at goal trie rule e f) f snaps ns read);
}
