-- A call that has not begun may be called: its pass is at rest with the share that it has.
use Rattle.std.proofs.Common.{◌≡◌, ℕ, ◌+◌, ◌<◌, ◌^◌, Bool, true, false, Option, Some, None, refl, sym, ◌∙◌, arith}
use Rattle.arena.specs.Layout.{IsMap}
use Rattle.arena.specs.declared.limits.Mode.{Mode}
use Rattle.histories.specs.Common.{Layout, Call, IsRun, Remaining}
use Rattle.arena.proofs.Lemmas.{ends_self}
use Rattle.order.proofs.Lemmas.{read_ready_first}
use Rattle.prims.specs.Laws.Idle.{quiet_at_start, idle_if_finished}
use Rattle.template.specs.Balance.{leaf_way, map_mode}
use Rattle.template.specs.Common.{IsMapRun, MayGo, path_key, nodes_in_try, applies, leaves, Goal, Key as ToKey, End, Edit, Rule}
use Rattle.tree.specs.KeyEdit.Means.{way_by, way_of}
use Rattle.template.proofs.Lemmas.{next_first, walk_ready_first}
use Rattle.edits.specs.Edits.{EditMeaning}
use Rattle.edits.specs.Known.{RestsWith, UpdateIsReady}
use Rattle.edits.specs.Laws.Entered.{none_yet}
use Rattle.edits.specs.Steps.{node_tries, scx_tries}
use Rattle.edits.specs.declared.update.UpdateAt.TheVariants.{Start}
use Rattle.edits.specs.declared.update.UpdateAt.{UpdateAt}
use Rattle.edits.specs.declared.update.UpdateRun.{UpdateRun}
use Rattle.dict.specs.Calls.{call_in, inner_call, inner_share, inner_trie, is_in_trie, share_of, trie_in, IsFewCall, IsSmallCall}
use Rattle.dict.specs.DictKnown.{DictIsReady}
use Rattle.dict.specs.Known.{HasRested, Goes, HasSpentSo, IsReadyInside, IsUnbegun, StandsAtStart, MapIsReady}
use Rattle.dict.specs.Typed.{IsTypedCall, TypedAllows}
use Rattle.dict.specs.Laws.TypedMaps.{typed_run}
use Rattle.dict.specs.declared.dict.DictRun.{DictRun}
use Rattle.dict.specs.declared.run.MapRun.{MapRun}
use Rattle.dict.specs.Inner.{InnerRun, Update, Get, Read, edit_means, inner}
use Rattle.dict.specs.Laws.Kinds.{IsOfKind, edit_small, is_of_kind}

-- what is a tree, or a trie, is a map
pub dict_mode : (mode : Mode) (trie : Bool) → mode ≡ map_mode trie → IsMap mode
dict_mode mode false e = rw e refl
dict_mode mode true e = rw e refl

-- an edit may walk there
edit_may : (lay : Layout) (goal : Goal) (trie : Bool) (rule : Rule) → lay.mode ≡ map_mode trie → IsSmallCall (Edit goal rule) → MayGo lay (way_of goal trie rule) goal
edit_may lay (ToKey k) false rule mode small = mode
edit_may lay (End side) false rule mode small = mode
edit_may lay (ToKey k) true rule mode small = by_left (leaves rule) (applies rule None)
  where
    by_left : (left : Option ℕ) (absent : Bool) → MayGo lay (way_by (ToKey k) true left absent) (ToKey k)
    by_left None absent = mode
    by_left (Some value) true = mode
    by_left (Some value) false = mode
edit_may lay (End side) true rule mode small = rw small mode

-- so may a get
get_may : (lay : Layout) (trie : Bool) (k : ℕ) → lay.mode ≡ map_mode trie → MayGo lay (leaf_way trie) (ToKey k)
get_may lay false k mode = mode
get_may lay true k mode = mode

module _ (c : Call) (run : IsMapRun c.layout c.start) where
  -- a read rests
  rests : (share : Remaining) → RestsWith c c.start share → HasRested c c.start share
  rests share x = record { run = run; since = ends_self c.start; now = x; quiet = quiet_at_start c.layout c.pass c.start (idle_if_finished c c.start run.1.lawful x.over) }

  -- an update may begin
  module _ {E : Type 0} (e : EditMeaning E) (m : UpdateRun E UpdateAt) (at : m.at ≡ Start) (share : RestsWith c c.start m.share) where
    update_ready : MayGo c.layout (e.way m.edit) (e.goal m.edit) → path_key (e.goal m.edit) < 2 ^ 64 → m.limit ≡ m.tries + 1 → UpdateIsReady e m c c.start None
    update_ready may small all = (
      record { run = run; may = may; small = small; since = ends_self c.start; rests = share },
      record { since = ends_self c.start; none = none_yet c.layout c.pass c.start; next = next_first c m.limit m.tries (omega (arith, all)) },
      share,
      at,
    )

    -- it has taken nothing, and all its tries are left
    spent : (most tries : ℕ) → m.tries + 1 ≡ tries → HasSpentSo c most m.share tries (node_tries m m.at) (scx_tries m m.at)
    spent most tries all = record {
      left = m.share;
      first = share;
      spends = (rw (at, all) (omega arith), rw (at, all) (omega arith), rw (at, all) (omega arith));
      end = refl;
    }

  goes : (m : InnerRun) (tries : ℕ) → c.layout.mode ≡ map_mode (inner_trie m) → IsOfKind m → StandsAtStart m tries c.number → RestsWith c c.start (inner_share m) → Goes m tries c
  goes (Update m) tries mode kind x r = record { mode = mode; small = x.3; number = x.2; limit = x.4; spent = spent edit_means m x.0 r (nodes_in_try m.edit.rule) tries x.1 }
  goes (Get key walk share) tries mode kind x r = record { mode = mode; small = tt; number = tt; limit = tt; spent = r }
  goes (Read k m share) tries mode kind x r = record { mode = mode; small = kind.small m.read; number = tt; limit = x.4; spent = r }

  inside : (m : InnerRun) (tries : ℕ) → c.layout.mode ≡ map_mode (inner_trie m) → IsOfKind m → StandsAtStart m tries c.number → IsFewCall (inner_call m) → RestsWith c c.start (inner_share m) → IsReadyInside m c c.start None
  inside (Update m) tries mode kind x few r = update_ready edit_means m x.0 r (edit_may c.layout m.edit.goal.goal m.edit.goal.balance m.edit.rule mode x.3) (edit_small m.edit.goal.goal m.edit.rule x.3) (x.4 ∙ sym x.1)
  inside (Get key walk share) tries mode kind x few r = ((walk_ready_first walk c c.start run (rw (x.2.1, x.2.0) (get_may c.layout (is_in_trie walk.way) key mode)) (rw x.2.0 x.3) (ends_self c.start) x.0 x.1, x.2, refl), rests share r)
  inside (Read k m share) tries mode kind x few r = (read_ready_first k.means m c c.start run mode refl (x.3 few) r.over x.0 x.2 (let e = x.4 in let f = x.1 in omega (arith, e, f)), rests share r)

  -- the machine may be called where the call begins
  pub map_begins : (m : MapRun) (tries : ℕ) → c.layout.mode ≡ map_mode (trie_in m) → IsUnbegun m tries c.number → IsFewCall (call_in m) → RestsWith c c.start (share_of m) → MapIsReady tries m c c.start None
  map_begins m tries mode x few r = (goes (inner m) tries mode (is_of_kind m) x r, inside (inner m) tries mode (is_of_kind m) x few r)

-- so may that of a dictionary
pub dict_begins : (keys values : ℕ → Type 0) {K V : Type 0} (m : DictRun K V) (c : Call) → c.layout.mode ≡ map_mode (trie_in m.run) → IsRun (TypedAllows keys values) c.layout c.start → IsTypedCall keys values (call_in m.run) → IsUnbegun m.run m.tries c.number → IsFewCall (call_in m.run) → RestsWith c c.start (share_of m.run) → DictIsReady keys values m c c.start None
dict_begins keys values m c mode run typed x few r = (typed, map_begins c (dict_mode c.layout.mode (trie_in m.run) mode, typed_run keys values c.layout c.start run) m.run m.tries mode x few r)
