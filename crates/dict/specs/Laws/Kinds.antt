-- What is so of an edit that runs inside of a call, and of each kind of ordered read.
use Rattle.std.proofs.Common.{◌≡◌, ◌≢◌, ℕ, ◌+◌, ◌*◌, ◌^◌, ◌<◌, ◌≤◌, Bool, true, false, cond, List, Option, Some, None, Result, Ok, Err, Vec, inl, inr, refl, sym, ap, ◌∙◌, subst, arith, Global}
use Rattle.std.specs.Option.{option_map}
use Rattle.arena.specs.declared.limits.Mode.TheVariants.{Trie as TrieMode}
use Rattle.histories.specs.Common.{Layout, Tree as TreeMode, Left, Right, Kind, Fill, History, Call, Remaining, Side}
use Rattle.order.specs.declared.refused.Refused.{Refused}
use Rattle.order.specs.declared.refused.Refused.TheVariants as refused
use Rattle.template.specs.Common.{call_rules, most_nodes, most_steps, need, MayReply, MapCall, MapReply, Edit, Neighbour as NeighbourOf, Range as RangeOf, OneValue}
use Rattle.template.specs.Common.{applies, edit_key, edit_of, edit_to, leaves, pair, pair_or_none, end_pair, reply, Rule, Pair, asked_key, path_key, Goal, Key as ToKey, End}
use Rattle.ordered_map.specs.CallRules.{TakesNothing, nodes_at, nodes_there, steps_behind}
use Rattle.ordered_map.specs.OrderedMap.{edit_there, spot}
use Rattle.ordered_map.specs.declared.request.Request.TheVariants as requests
use Rattle.ordered_map.specs.declared.rule.Rule.TheVariants.{Take}
use Rattle.template.specs.declared.walk.Found.{Found}
use Rattle.tree.specs.declared.key_edit.KeyEdit.{KeyEdit}
use Rattle.tree.specs.KeyEdit.Means.{doing, is_trie_end, leaving, key_means, wants, way_by, way_of}
use Rattle.tree.specs.Laws.KeyEdit.{at_goal}
use Rattle.tree.specs.KeyEdit.Laws.{one_needed, three_needed}
use Rattle.tree.specs.Put.Laws.{some_needed as put_needs}
use Rattle.tree.specs.Pop.Means.{pop_plan}
use Rattle.tree.specs.Take.Means.{take_plan, work_by}
use Rattle.edits.specs.Edits.{all_looks}
use Rattle.edits.specs.Pieces.{no_work}
use Rattle.edits.specs.Steps.{most_works, try_left}
use Rattle.edits.specs.declared.update.Updated.{Updated}
use Rattle.edits.specs.declared.update.Updated.TheVariants.{Done, Contended, Full}
use Rattle.template.specs.Balance.{map_mode, nodes_by}
use Rattle.template.specs.Walk.Steps.{room}
use Rattle.dict.specs.Calls.{AsksForPairs, IsSmallCall, most_tries}
use Rattle.dict.specs.Goals.{leaf_told}
use Rattle.dict.specs.WordReplies.{edit_reply, range_reply, read_reply, neighbour_reply, told_in, word_form}
use Rattle.dict.specs.Inner.{GoalBy, ReadKind, InnerRun, Read, edit_means, inner, range_kind, neighbour_kind}
use Rattle.dict.specs.Says.{IsRefusal, KeepsLists, WalksFirst}
use Rattle.dict.specs.declared.run.MapRun.{MapRun}
use Rattle.dict.specs.declared.run.MapRun.TheVariants as runs

-- an edit answers what it has found, or is refused
pub edit_form : (goal : Goal) (rule : Rule) (a : Updated) → MayReply (Edit goal rule) (word_form (edit_reply goal a))
edit_form (ToKey key) rule (Done own told) = tt
edit_form (ToKey key) rule (Contended node scx) = tt
edit_form (ToKey key) rule (Full full) = tt
edit_form (End side) rule (Done own told) = tt
edit_form (End side) rule (Contended node scx) = tt
edit_form (End side) rule (Full full) = tt

-- what the leaf says of what a goal finds, if it has this value at this key
abbrev told_by : Goal → ℕ → Option ℕ → MapReply
told_by (ToKey k) key value = OneValue value
told_by (End side) key value = pair_or_none (option_map (pair key) value)

-- how many steps it makes after its walk, at most
steps_by : (end trie : Bool) (left : Option ℕ) (nodes : ℕ) → 3 * (2 + nodes) + 5 + (64 * all_looks ((doing end trie left).guard 0) ((doing end trie left).most_looks 0) + ((doing end trie left).most_reads 0 + (doing end trie left).most_fills 0) + 39) ≡ 3 * (2 + nodes) + steps_behind left
steps_by false in_trie None nodes = omega arith
steps_by true in_trie None nodes = omega arith
steps_by end in_trie (Some v) nodes = omega arith

-- its way there has the bounds of its map
pub room_on : (goal : Goal) (trie : Bool) (rule : Rule) (nodes : ℕ) → room (way_of goal trie rule) nodes ≡ nodes_by trie nodes
room_on goal false rule nodes = refl
room_on (End side) true rule nodes = by_end (leaves rule) (applies rule None)
  where
    by_end : (left : Option ℕ) (absent : Bool) → room (way_by (End side) true left absent) nodes ≡ nodes_by true nodes
    by_end None absent = refl
    by_end (Some value) absent = refl
room_on (ToKey k) true rule nodes = by_left (leaves rule) (applies rule None)
  where
    by_left : (left : Option ℕ) (absent : Bool) → room (way_by (ToKey k) true left absent) nodes ≡ nodes_by true nodes
    by_left None absent = refl
    by_left (Some value) true = refl
    by_left (Some value) false = refl

-- in a tree, and to a key, it has no guard
pub no_guard : (lay : Layout) (goal : Goal) (trie : Bool) (rule : Rule) → lay.mode ≡ map_mode trie → WalksFirst lay (Edit goal rule) → edit_means.guard (record { goal = record { goal = goal; balance = trie }; rule = rule }) ≡ false
no_guard lay (ToKey k) trie rule mode walks = by_left (leaves rule)
  where
    by_left : (left : Option ℕ) → (leaving false trie left).guard 0 ≡ false
    by_left None = refl
    by_left (Some v) = refl
no_guard lay (End side) false rule mode walks = by_left (leaves rule)
  where
    by_left : (left : Option ℕ) → (leaving false false left).guard 0 ≡ false
    by_left None = refl
    by_left (Some v) = refl
no_guard lay (End side) true rule mode walks = absurd (let e : TreeMode ≡ TrieMode = sym walks ∙ mode in cc)

-- so it makes no more steps than its call may
pub few_steps : (tries r most behind steps : ℕ) → steps ≡ tries * (3 * (2 + r) + behind) → r ≡ most → steps ≤ tries * (3 * (2 + most) + behind)
few_steps tries r most behind steps e f = rw (e, f) (omega arith)

-- a rule that leaves no value changes something only where there is one
takes_there : (rule : Rule) → leaves rule ≡ None → applies rule None ≡ true → ⊥
takes_there Take none there = cc
takes_there rule none there = cc

-- At the leaf that was found, which has this value
module _ (end trie : Bool) (f : Found) (rule : Rule) where
  abbrev left : Option ℕ
  left = leaves rule

  abbrev needed : ℕ → Bool → ℕ
  needed key b = (cond b ((doing end trie left).work key f) no_work).need

  -- what it needs at a key is enough for the call
  many_by : (l : Option ℕ) (key : ℕ) (value : Option ℕ) → f.value ≡ value → ((doing end trie l).work key f).need ≤ nodes_at value
  many_by l key None is = three_needed end trie l key f
  many_by l key (Some v) is = one_needed end trie l key v f is

  many_if : (b : Bool) (key : ℕ) (value : Option ℕ) → f.value ≡ value → needed key b ≤ cond b (nodes_at value) 0
  many_if true key value is = many_by left key value is
  many_if false key value is = omega arith

  key_many : (goal : Goal) (value : Option ℕ) → f.value ≡ value → needed (asked_key goal f.key) (wants goal rule value) ≤ nodes_there rule (spot goal (told_by goal f.key value))
  key_many (ToKey k) value is = many_if (applies rule value) k value is
  key_many (End side) None is = omega arith
  key_many (End side) (Some v) is = many_if (applies rule (Some v)) f.key (Some v) is

  -- it needs nothing only where it changes nothing
  some_needed : (l : Option ℕ) (key : ℕ) (value : Option ℕ) → f.value ≡ value → (value ≡ None → l ≡ None → ⊥) → 0 < ((doing end trie l).work key f).need
  some_needed None key None is there = absurd (there refl refl)
  some_needed None key (Some v) is there = takes end
    where
      takes : (e : Bool) → 0 < ((doing e trie None).work key f).need
      takes false = subst (λ (o : Option ℕ). 0 < (work_by o (take_plan f)).need) (sym is) (omega arith)
      takes true = subst (λ (o : Option ℕ). 0 < (work_by o (pop_plan f)).need) (sym is) (omega arith)
  some_needed (Some w) key value is there = put_needs trie f

  absent : (value : Option ℕ) → applies rule value ≡ true → value ≡ None → left ≡ None → ⊥
  absent value there none takes = takes_there rule takes (subst (λ (o : Option ℕ). applies rule o ≡ true) none there)

  reads_if : (b : Bool) (key : ℕ) (value : Option ℕ) → f.value ≡ value → applies rule value ≡ b → needed key b ≡ 0 → cond (applies rule value) (Some (edit_to key left)) None ≡ None
  reads_if true key value is there nothing = absurd (let some = some_needed left key value is (absent value there) in omega (arith, some, nothing))
  reads_if false key value is there nothing = rw there refl

  key_reads : (goal : Goal) (value : Option ℕ) → f.value ≡ value → needed (asked_key goal f.key) (wants goal rule value) ≡ 0 → edit_there rule (spot goal (told_by goal f.key value)) ≡ None
  key_reads (ToKey k) value is nothing = reads_if (applies rule value) k value is refl nothing
  key_reads (End side) None is nothing = refl
  key_reads (End side) (Some v) is nothing = reads_if (applies rule (Some v)) f.key (Some v) is refl nothing

  -- and something only where it makes its edit
  makes_if : (b : Bool) (key : ℕ) → 0 < needed key b → cond b (Some (edit_to key left)) None ≡ Some (edit_to key left)
  makes_if true key some = refl
  makes_if false key some = absurd (omega (arith, some))

  key_changes : (goal : Goal) (value : Option ℕ) → f.value ≡ value → 0 < needed (asked_key goal f.key) (wants goal rule value) → edit_there rule (spot goal (told_by goal f.key value)) ≡ Some (edit_to (asked_key goal f.key) left)
  key_changes (ToKey k) value is some = makes_if (applies rule value) k some
  key_changes (End side) None is some = absurd (omega (arith, some))
  key_changes (End side) (Some v) is some = makes_if (applies rule (Some v)) f.key some

-- it walks to a key of a word, where it has one
pub edit_small : (goal : Goal) (rule : Rule) → IsSmallCall (Edit goal rule) → path_key goal < 2 ^ 64
edit_small (ToKey k) rule small = small
edit_small (End Left) rule small = omega arith
edit_small (End Right) rule small = omega arith

-- what the map replies to an edit, if the leaf says that
same_told : (goal : Goal) (f : Found) → leaf_told goal f ≡ told_by goal f.key f.value
same_told (ToKey k) f = refl
same_told (End side) f = refl

-- its edit is of the key at which the leaf says what the call replies
pub edit_at_found : (e : KeyEdit GoalBy Rule) (f : Found) → edit_key (edit_means.edit e f) ≡ asked_key e.goal.goal f.key
edit_at_found e f = at_goal (leaves e.rule) (asked_key e.goal.goal f.key)

-- it makes as many steps as its call may
pub edit_steps : {G R : Type 0} (goal : G → Goal) (trie : G → Bool) (rule : R → Rule) (e : KeyEdit G R) (tries nodes : ℕ) → tries * try_left (key_means goal trie rule) e nodes ≡ most_steps (Edit (goal e.goal) (rule e.rule)) tries (nodes_by (trie e.goal) nodes)
edit_steps goal trie rule e tries nodes =
    ap (λ (r : ℕ). tries * (3 * (2 + r) + 5 + (64 * all_looks ((key_means goal trie rule).guard e) ((key_means goal trie rule).most_looks e) + most_works (key_means goal trie rule) e + 39))) (room_on (goal e.goal) (trie e.goal) (rule e.rule) nodes)
    ∙ ap (λ (k : ℕ). tries * k) (steps_by (is_trie_end (goal e.goal) (trie e.goal)) (trie e.goal) (leaves (rule e.rule)) (nodes_by (trie e.goal) nodes))

module _ (e : KeyEdit GoalBy Rule) (f : Found) where
  -- it needs no more nodes than its call may on a map that replies what its leaf says
  pub edit_needs : (map : List Pair) → reply (Edit e.goal.goal e.rule) map ≡ leaf_told e.goal.goal f → (edit_means.work e f).need ≤ need (Edit e.goal.goal e.rule) map
  edit_needs map is = subst (λ (told : MapReply). (edit_means.work e f).need ≤ nodes_there e.rule (spot e.goal.goal told)) (sym (is ∙ same_told e.goal.goal f)) (key_many (is_trie_end e.goal.goal e.goal.balance) e.goal.balance f e.rule e.goal.goal f.value refl)

  -- so it needs no more on a map that has a pair, if it takes that at an end
  pub end_needs : (side : Side) (v : ℕ) (map : List Pair) → e.goal.goal ≡ End side → e.rule ≡ Take → f.value ≡ Some v → (p : Pair) × (end_pair side map ≡ Some p) → (edit_means.work e f).need ≤ need (Edit e.goal.goal e.rule) map
  end_needs side v map at takes is end = let few = few_if (wants e.goal.goal e.rule f.value) in let some = one_there in omega (arith, few, some)
    where
      few_if : (b : Bool) → (cond b ((doing (is_trie_end e.goal.goal e.goal.balance) e.goal.balance (leaves e.rule)).work (asked_key e.goal.goal f.key) f) no_work).need ≤ 1
      few_if true = one_needed (is_trie_end e.goal.goal e.goal.balance) e.goal.balance (leaves e.rule) (asked_key e.goal.goal f.key) v f is
      few_if false = omega arith

      one_there : need (Edit e.goal.goal e.rule) map ≡ 1
      one_there = rw (at, takes, end.1) refl

  made_by : edit_of (Edit e.goal.goal e.rule) (leaf_told e.goal.goal f) ≡ edit_there e.rule (spot e.goal.goal (told_by e.goal.goal f.key f.value))
  made_by = ap (λ (told : MapReply). edit_there e.rule (spot e.goal.goal told)) (same_told e.goal.goal f)

  -- where it needs none it is a reading
  pub edit_reads : (edit_means.work e f).need ≡ 0 → edit_of (Edit e.goal.goal e.rule) (leaf_told e.goal.goal f) ≡ None
  edit_reads nothing = made_by ∙ key_reads (is_trie_end e.goal.goal e.goal.balance) e.goal.balance f e.rule e.goal.goal f.value refl nothing

  -- and else it makes its edit
  pub edit_changes : 0 < (edit_means.work e f).need → edit_of (Edit e.goal.goal e.rule) (leaf_told e.goal.goal f) ≡ Some (edit_means.edit e f)
  edit_changes needed = made_by ∙ key_changes (is_trie_end e.goal.goal e.goal.balance) e.goal.balance f e.rule e.goal.goal f.value refl needed

-- A kind of ordered read is one that a call of the map makes, which only reads.
pub record IsReadKind (k : ReadKind) : Type 0 where
  -- it keeps lists, takes no nodes, may begin all its tries, and makes no edit
  pub lists : (r : k.R) → KeepsLists (k.means.call r)
  pub nodes : (r : k.R) → most_nodes (k.means.call r) ≡ 0
  pub tries : (r : k.R) (tries : ℕ) → most_tries (k.means.call r) tries ≡ tries
  pub small : (r : k.R) → IsSmallCall (k.means.call r)
  pub makes_none : (r : k.R) (told : MapReply) → edit_of (k.means.call r) told ≡ None
  -- it has something to find where its call asks for pairs
  pub asks : (r : k.R) → k.means.asks (k.means.call r) → AsksForPairs (k.means.call r)
  pub finds : (r : k.R) → AsksForPairs (k.means.call r) → k.means.asks (k.means.call r)
  -- and then it may make all steps but fills
  pub kinds : (r : k.R) (kind : Kind) → k.means.asks (k.means.call r) → kind ≢ Fill → (call_rules (k.means.call r)).MayMake kind
  -- what it answers is of a form that its call may reply, and says what it has found
  pub form : (r : k.R) (a : Result k.A Refused) → MayReply (k.means.call r) (word_form (read_reply k.tells a))
  pub told : (a : k.A) → told_in (k.tells a) ≡ Some (k.means.told a)
  pub refuses : (c : Call) (h : History) (call : MapCall) (share : Remaining) (tries : ℕ) (a : k.A) → IsRefusal c h call share tries (k.tells a)

neighbour_form : (side : Side) (key : ℕ) (a : Result (Option Pair) Refused) → MayReply (NeighbourOf side key) (word_form (neighbour_reply a))
neighbour_form side key (Ok found) = tt
neighbour_form side key (Err (refused.Contended node scx)) = tt
neighbour_form side key (Err refused.NoMemory) = tt

-- a search for the pair beside a key is such a kind
pub neighbour_is : IsReadKind neighbour_kind
neighbour_is = record {
  lists = λ r. tt;
  nodes = λ r. refl;
  tries = λ r tries. refl;
  small = λ r. tt;
  makes_none = λ r told. refl;
  asks = λ r asks. tt;
  finds = λ r asks. tt;
  kinds = λ r kind asks fills_not. fills_not;
  form = λ r a. neighbour_form r.side r.key a;
  told = λ a. refl;
  refuses = λ c h call share tries a. tt;
}

range_form : (low high most : ℕ) (a : Result (Vec Pair Global) Refused) → MayReply (RangeOf low high most) (word_form (range_reply a))
range_form low high most (Ok found) = tt
range_form low high most (Err (refused.Contended node scx)) = tt
range_form low high most (Err refused.NoMemory) = tt

-- one that asks for some pairs does not take nothing
takes_some : (low high most : ℕ) → (0 < most) × (low ≤ high) → ¬ TakesNothing low high most
takes_some low high most x (inl e) = let some = x.0 in omega (arith, e, some)
takes_some low high most x (inr i) = let rises = x.1 in omega (arith, i, rises)

-- so is a range
pub range_is : IsReadKind range_kind
range_is = record {
  lists = λ r. tt;
  nodes = λ r. refl;
  tries = λ r tries. refl;
  small = λ r. tt;
  makes_none = λ r told. refl;
  asks = λ r asks. asks;
  finds = λ r asks. asks;
  kinds = λ r kind asks fills_not. (fills_not, takes_some r.low r.high r.most asks);
  form = λ r a. range_form r.low r.high r.most a;
  told = λ a. refl;
  refuses = λ c h call share tries a. tt;
}

-- the kind of an ordered read that runs inside is such a one
abbrev pub IsOfKind : InnerRun → Type 0
IsOfKind (Read k m share) = IsReadKind k
IsOfKind _ = Unit {0}

-- each that runs inside is
pub is_of_kind : (m : MapRun) → IsOfKind (inner m)
is_of_kind (runs.Edit m) = tt
is_of_kind (runs.Get key walk share) = tt
is_of_kind (runs.Neighbour m share) = neighbour_is
is_of_kind (runs.Range m share) = range_is
