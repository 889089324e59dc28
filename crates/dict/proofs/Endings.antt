-- What the answers of the machines inside say of the call, in words.
use Rattle.std.proofs.Common.{◌≡◌, ℕ, ◌+◌, ◌-◌, ◌*◌, ◌^◌, ◌<◌, ◌≤◌, false, inl, inr, List, Option, Some, None, Result, Ok, Err, refl, sym, ◌∙◌, ap, subst, arith}
use Rattle.std.proofs.Math.Nat.{mul-add, mul-le-mul_left}
use Rattle.std.specs.Option.{option_map}
use Rattle.histories.specs.Common.{Side, History, ◌⊳◌, value, Extends, Call, begun_at, Remaining}
use Rattle.arena.proofs.Lemmas.{ends_self, ends_trans}
use Rattle.order.specs.Known.{HasReplied, ReadAnswers}
use Rattle.order.specs.declared.refused.Refused.{Refused}
use Rattle.order.specs.declared.refused.Refused.TheVariants as refused
use Rattle.order.specs.declared.run.ReadRun.{ReadRun}
use Rattle.template.specs.Common.{MapCall, MapEdit, Edit, Get, OneValue, edit_key, edit_of, need, get, pair, pair_or_none, reply, goal_told, IsMapRun, Spells, Pair, IsContended}
use Rattle.template.specs.Common.{HasLostTriesTo, asked_key, FoundBy, HasTriedAtMost, HasTriedAllBut, Goal, Key as ToKey, End, Rule, most_nodes, nodes_in_try}
use Rattle.ordered_map.proofs.MapLemmas.{run_since, run_spells}
use Rattle.template.proofs.Lemmas.{tried_few}
use Rattle.prims.specs.Shares.{share_end}
use Rattle.template.specs.declared.walk.Found.{Found}
use Rattle.template.specs.declared.walk.Way.{Way}
use Rattle.tree.specs.declared.key_edit.KeyEdit.{KeyEdit}
use Rattle.edits.specs.Edits.{says}
use Rattle.edits.specs.Known.{RestsWith, HasLostEveryTry, HasMade, IsDoneAt, IsUpdateAnswer, ToldEnd}
use Rattle.edits.specs.Steps.{Spends}
use Rattle.edits.specs.Tries.{HasEnteredNone, HasOnlyLooked}
use Rattle.edits.specs.declared.update.UpdateAt.{UpdateAt}
use Rattle.edits.specs.declared.update.UpdateRun.{UpdateRun}
use Rattle.edits.specs.declared.update.Updated.{Updated}
use Rattle.edits.specs.declared.update.Updated.TheVariants.{Done, Contended, Full}
use Rattle.dict.specs.Calls.{most_tries, HasSpent, IsSmallCall}
use Rattle.dict.specs.Goals.{leaf_told}
use Rattle.dict.specs.Inner.{GoalBy, ReadKind, edit_means}
use Rattle.dict.specs.Known.{HasRested, HasSpentSo}
use Rattle.template.specs.Balance.{map_mode}
use Rattle.dict.specs.Says.{WalksFirst, WordSays, IsRefusal, HasLost, HasMadeEdit, HasNeeded, HasReadMap, HasTold, HasToldBy, TellsOfMap}
use Rattle.dict.specs.Laws.Kinds.{IsReadKind, edit_at_found, edit_changes, edit_needs, edit_reads, edit_small, end_needs, no_guard}
use Rattle.dict.specs.WordReplies.{WordReply, goal_reply, edit_reply, read_reply, told_in}
use Rattle.dict.specs.Laws.Found.{found_held, reading_sure, some_end}
use Rattle.dict.proofs.Readings.{NeededAs, none_entered, reply_read, always_read, leaf_read, given_needed, ran_out}

module _ (tries : ℕ) (c : Call) (h : History) where
  -- just before an edit is made its leaf says what the map replies
  made_told : (goal : Goal) (e : MapEdit) (number : ℕ) (f : Found) → edit_key e ≡ asked_key goal f.key → (x : HasMade e c h number f.value) → ToldEnd goal c.layout x.before f → (map : List Pair) → Spells c.layout (value x.before) map → goal_told goal map ≡ leaf_told goal f
  made_told (ToKey k) e number f at x first map s = ap OneValue (ap (λ q. get q map) (sym at) ∙ x.told map s)
  made_told (End side) e number f at x first map s = ap pair_or_none (first map s)

  -- so does the call that it serves
  made_edit : (call : MapCall) (goal : Goal) (e : MapEdit) (f : Found) → ((map : List Pair) → reply call map ≡ goal_told goal map) → edit_key e ≡ asked_key goal f.key → IsMapRun c.layout h → (x : HasMade e c h c.number f.value) → ToldEnd goal c.layout x.before f → HasMadeEdit c h call (leaf_told goal f) e
  made_edit call goal e f walks at run x first =
      let within : Extends h x.before = ends_trans h (x.row ⊳ x.before) x.before x.within (inr (ends_self x.before)) in
      let map : (m : List Pair) × Spells c.layout (value x.before) m = run_spells c.layout x.before (run_since c.layout h x.before run within) in
      record { old = f.value; made = x; map = map.0; spelled = map.1; gives = walks map.0 ∙ made_told goal e c.number f at x first map.0 map.1 }

  -- what a leaf of this key and this value says is what the update replies that is done there
  done_says : (goal : Goal) (call : MapCall) (f : Found) (key : ℕ) (old : Option ℕ) → f.key ≡ key → f.value ≡ old → HasTold c h call (leaf_told goal f) → TellsOfMap c h call (told_in (goal_reply goal key old))
  done_says (ToKey k) call f key old is_key is_value x = subst (λ v. HasTold c h call (OneValue v)) is_value x
  done_says (End side) call f key old is_key is_value x = subst (λ p. HasTold c h call (pair_or_none p)) (λ i. option_map (pair (is_key i)) (is_value i)) x

  -- and is no refusal
  done_refuses : (goal : Goal) (call : MapCall) (share : Remaining) (key : ℕ) (old : Option ℕ) → IsRefusal c h call share tries (goal_reply goal key old)
  done_refuses (ToKey k) call share key old = tt
  done_refuses (End side) call share key old = tt

  -- if it has this many tries, this many are lost
  lost : {limit n s : ℕ} → limit ≡ tries → HasLostTriesTo c.pass h c.start limit n s → HasLostTriesTo c.pass h c.start tries n s
  lost {limit} {n} {s} e x = subst (λ k. HasLostTriesTo c.pass h c.start k n s) e x

  -- so it is of a call that only reads, which needs nothing
  read_lost : (call : MapCall) {limit n s : ℕ} → limit ≡ tries → most_nodes call ≡ 0 → IsContended c h n s → HasLostTriesTo c.pass h c.start limit n s → HasEnteredNone c.layout c.pass h c.start → HasLost c h call tries n s
  read_lost call limit reads way all none = record {
    lost = record { others = way.others; all = lost limit all; over_or_new = way.over_or_new; needed = λ some. absurd (omega (arith, some, reads)) };
    none = none;
  }

  module _ (m : UpdateRun (KeyEdit GoalBy Rule) UpdateAt) (mode : c.layout.mode ≡ map_mode m.edit.goal.balance) (run : IsMapRun c.layout h) (small : IsSmallCall (Edit m.edit.goal.goal m.edit.rule)) where
    abbrev call : MapCall
    call = Edit m.edit.goal.goal m.edit.rule

    abbrev goal : Goal
    goal = m.edit.goal.goal

    abbrev way : Way
    way = edit_means.way m.edit

    -- the leaf that it has found says what the map replied
    edit_read : (f : Found) → edit_of call (leaf_told goal f) ≡ None → FoundBy way goal c h f → HasEnteredNone c.layout c.pass h c.start → HasOnlyLooked c.pass h c.start → HasReadMap c h call (leaf_told goal f)
    edit_read f reads found none only_looked = leaf_read c h call way goal f (λ map. refl) (edit_small m.edit.goal.goal m.edit.rule small) run (reading_sure c goal m.edit.rule f small reads) found none (λ some. only_looked)

    -- an edit that is done has changed the map, or has read it
    edit_done : (f : Found) → m.call ≡ c.number → IsDoneAt (says edit_means m.edit) m.call c h f → HasTold c h call (leaf_told goal f)
    edit_done f number (inl x) = subst (λ made. HasToldBy made c h call (leaf_told goal f)) (sym (edit_reads m.edit f x.needless)) (edit_read f (edit_reads m.edit f x.needless) x.has_found x.none x.only_looked)
    edit_done f number (inr x) =
        let edit : MapEdit = edit_means.edit m.edit f in
        let made : (made : HasMade edit c h c.number f.value) × ToldEnd goal c.layout made.before f = subst (λ n. (made : HasMade edit c h n f.value) × ToldEnd goal c.layout made.before f) number (x.0, x.2) in
        subst (λ made. HasToldBy made c h call (leaf_told goal f)) (sym (edit_changes m.edit f x.1.needed)) (made_edit call goal edit f (λ map. refl) (edit_at_found m.edit f) run made.0 made.1)

    -- what it needs at a leaf that it has found, the map needs at a moment of the call
    edit_needed : (then : Call) (moment : History) → IsMapRun then.layout moment → (f : Found) → FoundBy way goal then moment f → 0 < (edit_means.work m.edit f).need → NeededAs then.layout then.pass moment then.start call (edit_means.work m.edit f).need
    edit_needed then moment so f found needed = given_needed then moment call (edit_means.work m.edit f).need (asked_key goal f.key) f.value (found_held way goal then moment f (edit_small goal m.edit.rule small) so (λ side at. some_there side at) found) (λ map given. needs goal refl map given) needed
      where
        -- at an end there is a pair
        some_there : (side : Side) → goal ≡ End side → (v : ℕ) × (f.value ≡ Some v)
        some_there side at = go f.value refl
          where
            go : (value : Option ℕ) → f.value ≡ value → (v : ℕ) × (f.value ≡ Some v)
            go (Some v) is = (v, is)
            go None is = absurd (let none : 0 < 0 = rw (at, is) at needed in omega (arith, none))

        needs : (of : Goal) → goal ≡ of → (map : List Pair) → get (asked_key of f.key) map ≡ f.value → (edit_means.work m.edit f).need ≤ need call map
        needs (ToKey k) at map given = edit_needs m.edit f map (rw at (ap OneValue given))
        needs (End side) at map given =
            let there = some_there side at in
            end_needs m.edit f side there.0 map at (rw at at small) there.1 (some_end side map f.key there.0 (given ∙ there.1))

    -- one that walks first has no guard
    unguarded : WalksFirst c.layout call → edit_means.guard m.edit ≡ false
    unguarded walks = no_guard c.layout goal m.edit.goal.balance m.edit.rule mode walks

    -- one that has lost all its tries had something to do in the newest
    edit_lost : (n s : ℕ) → m.limit ≡ tries → HasLostEveryTry (says edit_means m.edit) c h m.limit n s → HasLost c h call tries n s
    edit_lost n s limit x = subst (λ t. HasLost c h call t n s) limit record { lost = record { others = x.way.others; all = x.all; over_or_new = x.way.over_or_new; needed = needed }; none = x.none }
      where
        begin : History
        begin = x.all.lost.begin

        needed : 0 < most_nodes call → WalksFirst c.layout call → HasNeeded c.layout c.pass h begin call
        needed some walks =
            let z = x.needed (unguarded walks) in
            let y = (edit_needed (begun_at c begin) z.1.moment (run_since c.layout h z.1.moment run z.1.within) z.0 z.1.has_found z.1.needed).needed in
            record { moment = y.moment; within = ends_trans h z.1.moment y.moment z.1.within y.within; since = y.since; own = y.own; map = y.map; spelled = y.spelled; some = y.some }

    pub edit_says : (a : Updated) → m.call ≡ c.number → m.limit ≡ tries → IsUpdateAnswer edit_means m c h a → WordSays c h call m.share tries (edit_reply goal a)
    edit_says (Done key old) number limit x = (done_says goal call x.found key old x.is_key x.is_value (edit_done x.found number x.is_done), done_refuses goal call m.share key old)
    edit_says (Contended node scx) number limit x = (tt, edit_lost node.0 scx.0 limit x.1)
    edit_says (Full full) number limit x = (
      tt,
      ran_out c h call (edit_means.work m.edit x.found).need m.share full x.only_looked (edit_needed (begun_at c x.only_looked.begin) h run x.found x.has_found x.needed) x.short x.first x.none,
    )

  -- a get has read what its leaf says
  pub get_says : (key : ℕ) (way : Way) (share : Remaining) (f : Found) → key < 2 ^ 64 → HasRested c h share → FoundBy way (ToKey key) c h f → WordSays c h (Get key) share tries (WordReply.Value f.value)
  get_says key way share f small x found = (leaf_read c h (Get key) way (ToKey key) f (λ map. refl) small x.run tt found (none_entered c h share x) (λ some. absurd (omega (arith, some))), tt)

  -- so has an ordered read, or it answers what every map replies
  module _ (k : ReadKind) (is : IsReadKind k) (m : ReadRun k.R) (share : Remaining) (x : HasRested c h share) (limit : m.limit ≡ tries) where
    none : HasEnteredNone c.layout c.pass h c.start
    none = none_entered c h share x

    found_says : (found : k.A) → HasReplied k.means m c h found → HasReadMap c h (k.means.call m.read) (k.means.told found)
    found_says found (inl z) = reply_read c h (k.means.call m.read) (k.means.told found) (is.nodes m.read) z none
    found_says found (inr z) = always_read c h (k.means.call m.read) (k.means.told found) (is.nodes m.read) x.run x.since (λ asks. z.0 (is.finds m.read asks)) z.1 none

    -- which has made no edit
    read_says_found : (found : k.A) → HasReadMap c h (k.means.call m.read) (k.means.told found) → TellsOfMap c h (k.means.call m.read) (told_in (k.tells found))
    read_says_found found z = subst (TellsOfMap c h (k.means.call m.read)) (sym (is.told found)) (subst (λ made. HasToldBy made c h (k.means.call m.read) (k.means.told found)) (sym (is.makes_none m.read (k.means.told found))) z)

    pub read_says : (a : Result k.A Refused) → ReadAnswers k.means m c h a → WordSays c h (k.means.call m.read) share tries (read_reply k.tells a)
    read_says (Ok found) y = (read_says_found found (found_says found y.1), is.refuses c h (k.means.call m.read) share tries found)
    read_says (Err (refused.Contended node scx)) y = (tt, read_lost (k.means.call m.read) limit (is.nodes m.read) y.1.0 y.1.2 none)
    read_says (Err refused.NoMemory) y = (tt, (is.lists m.read, none))

-- What is gone of the share

-- what a read has taken is nothing
pub read_spent : (c : Call) (h : History) (call : MapCall) (tries : ℕ) (share : Remaining) → RestsWith c c.start share → HasTriedAtMost c.layout c.pass h c.start (most_tries call tries) → HasSpent c h call tries share
read_spent c h call tries share x tried = record { tried = tried; left = share; first = x; nodes = omega arith; scx = omega arith; each = omega arith; end = refl }

-- what an edit has taken by now
pub edit_spends : (c : Call) (most : ℕ) (old now : Remaining) (tries nodes nodes_then scx scx_then : ℕ) → HasSpentSo c most old tries nodes scx → Spends most old now nodes nodes_then scx scx_then → share_end now ≡ share_end old → HasSpentSo c most now tries nodes_then scx_then
edit_spends c most old now tries nodes nodes_then scx scx_then x y end = record {
  left = x.left;
  first = x.first;
  spends = (let a = x.spends.0 in let b = y.0 in omega (arith, a, b), let a = x.spends.1 in let b = y.1 in omega (arith, a, b), let a = x.spends.2 in let b = y.2 in omega (arith, a, b));
  end = end ∙ x.end;
}

-- what `limit` tries may take less what the `left` ones may is at most what the begun ones may
by_begun : (most old now begun first left limit : ℕ) → begun + left ≡ first + limit → old + most * left ≤ now + most * limit → old ≤ now + most * (begun - first)
by_begun most old now begun first left limit all s =
    let few : limit ≤ (begun - first) + left = omega (arith, all) in
    let more = mul-le-mul_left most few in
    let parts = mul-add most (begun - first) left in
    omega (arith, s, more, parts)

-- and once it has answered, with this many tries left
pub edit_spent : (c : Call) (h : History) (goal : Goal) (rule : Rule) (tries left : ℕ) (share : Remaining) → HasSpentSo c (nodes_in_try rule) share tries left left → HasTriedAllBut c h tries left → HasSpent c h (Edit goal rule) tries share
edit_spent c h goal rule tries left share x tried = record {
  tried = tried_few c h tries left tried;
  left = x.left;
  first = x.first;
  nodes = by_begun (nodes_in_try rule) x.left.nodes share.nodes _ _ left tries tried.all x.spends.0;
  scx = let all = tried.all in let s = x.spends.1 in omega (arith, all, s);
  each = let s = x.spends.2 in omega (arith, s);
  end = x.end;
}
