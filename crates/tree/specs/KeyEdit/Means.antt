-- What an edit needs, looks at, reads and fills: at the leaf that was found it does what puts a
-- value at a key, or what takes a key out, by what its rule leaves.
use Rattle.std.specs.Prelude.{ℕ, Bool, true, false, if◌then◌else◌, Option, Some, None}
use Rattle.template.specs.Common.{nodes_in_try, applies, edit_to, leaves, Goal, Key, End, Rule, asked_key}
use Rattle.template.specs.declared.walk.Found.{Found}
use Rattle.template.specs.declared.walk.Way.{Way}
use Rattle.template.specs.declared.walk.Way.TheVariants.{InTree, InTrie, Within}
use Rattle.tree.specs.declared.pop.PopPair.{PopPair}
use Rattle.tree.specs.declared.take.TakePair.{TakePair}
use Rattle.tree.specs.declared.put.PutPair.{PutPair}
use Rattle.tree.specs.declared.key_edit.KeyEdit.{KeyEdit}
use Rattle.tree.specs.Take.Means.{take_means}
use Rattle.tree.specs.Pop.Means.{pop_means}
use Rattle.tree.specs.Put.Means.{put_means}
use Rattle.edits.specs.Edits.{EditMeaning, through}
use Rattle.edits.specs.Pieces.{no_work}

-- At a key

-- `trie` says whether it is in a trie

-- what puts this value at the key
abbrev pub putting : Bool → ℕ → ℕ → PutPair
putting trie key value = record { key = key; value = value; trie = trie }

-- what takes the key out
abbrev pub taking : Bool → ℕ → TakePair
taking trie key = record { key = key; trie = trie }

-- and what takes out the one that was found at an end of a trie
abbrev pub popping : ℕ → PopPair
popping key = record { key = key }

-- what leaves this value to a key does what puts it there; what leaves none, what takes the key
-- out: `end` says whether that is at an end of a trie
abbrev pub doing : Bool → Bool → Option ℕ → EditMeaning ℕ
doing end in_trie (Some value) = through put_means (λ key. putting in_trie key value)
doing false in_trie None = through take_means (taking in_trie)
doing true in_trie None = through pop_means popping

-- the edit that leaves this to a key
abbrev pub leaving : Bool → Bool → Option ℕ → EditMeaning ℕ
leaving end trie left = record {
  goal = λ key. Key key;
  way = λ key. (doing end trie left).way key;
  guard = λ key. (doing end trie left).guard 0;
  edit = λ key f. edit_to key left;
  work = (doing end trie left).work;
  most_nodes = λ key. (doing end trie left).most_nodes 0;
  looks = (doing end trie left).looks;
  most_looks = λ key. (doing end trie left).most_looks 0;
  reads = (doing end trie left).reads;
  most_reads = λ key. (doing end trie left).most_reads 0;
  pieces = (doing end trie left).pieces;
  most_fills = λ key. (doing end trie left).most_fills 0;
}

-- At a goal

-- whether a rule at a goal changes anything if the leaf has this value: at an end there has
-- to be a pair
abbrev pub wants : Goal → Rule → Option ℕ → Bool
wants (Key k) rule found = applies rule found
wants (End side) rule (Some value) = applies rule (Some value)
wants (End side) rule None = false

-- whether a goal is an end of a trie
abbrev pub is_trie_end : Goal → Bool → Bool
is_trie_end (Key k) in_trie = false
is_trie_end (End side) in_trie = in_trie

-- where what leaves this walks: in a trie what puts in what was absent ends at a fork that its key
-- does not share; at an end of one nothing is put in
abbrev pub way_by : Goal → Bool → Option ℕ → Bool → Way
way_by goal false left absent = InTree
way_by goal true None absent = InTrie
way_by (Key k) true (Some value) absent = if absent then Within else InTrie
way_by (End side) true (Some value) absent = Within

abbrev pub way_of : Goal → Bool → Rule → Way
way_of goal in_trie rule = way_by goal in_trie (leaves rule) (applies rule None)

-- `goal`, `trie` and `rule` are the edit's as values
module _ {G R : Type 0} (goal : G → Goal) (trie : G → Bool) (rule : R → Rule) where
  -- the key at which it is, at the leaf that was found
  abbrev pub key_at : KeyEdit G R → Found → ℕ
  key_at e f = asked_key (goal e.goal) f.key

  -- what it does at that key
  abbrev pub part : KeyEdit G R → EditMeaning ℕ
  part e = leaving (is_trie_end (goal e.goal) (trie e.goal)) (trie e.goal) (leaves (rule e.rule))

  -- it does so where it changes anything
  abbrev pub key_means : EditMeaning (KeyEdit G R)
  key_means = record {
    goal = λ e. goal e.goal;
    way = λ e. way_of (goal e.goal) (trie e.goal) (rule e.rule);
    guard = λ e. (part e).guard 0;
    edit = λ e f. edit_to (key_at e f) (leaves (rule e.rule));
    work = λ e f. if wants (goal e.goal) (rule e.rule) f.value then (part e).work (key_at e f) f else no_work;
    most_nodes = λ e. nodes_in_try (rule e.rule);
    looks = λ e f snaps. (part e).looks (key_at e f) f snaps;
    most_looks = λ e. (part e).most_looks 0;
    reads = λ e f snaps. (part e).reads (key_at e f) f snaps;
    most_reads = λ e. (part e).most_reads 0;
    pieces = λ e f snaps ns read nth. (part e).pieces (key_at e f) f snaps ns read nth;
    most_fills = λ e. (part e).most_fills 0;
  }
