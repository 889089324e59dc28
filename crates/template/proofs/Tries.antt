-- Which steps begin a try, and what a pass's tries are after one more row.
use Rattle.std.proofs.Common.{◌≡◌, ◌≢◌, ℕ, suc, ◌<◌, ◌≤◌, Bool, true, false, ◌&&◌, eqb, eq-eqb, ne_eqb, List, length, Some, inl, inr, refl, ◌∙◌, subst, arith}
use Rattle.histories.specs.Common.{Layout, Kind, LoadSettled, Row, Step, NodeWord, Settled, Head as HeadWord, node, same_word, History, ◌⊳◌, value, Call, IsRun, row_of, taken_nodes}
use Rattle.template.specs.Common.{HelpWaits, HelpRun, load, LlxWaits, Job, job_of, ScxWaitsAt, ScxWaits, VlxWaits, LlxAt, LlxRun, ScxAt, ScxRun, Snap, IsMapRun}
use Rattle.template.specs.Common.{TreeAllows, level, begins_try, tries_begun, IsNewestTry, WalkIsTold, WalkKnows, WalkWaits, walk_step, IsPastRoot, WalkFits, walk_left}
use Rattle.template.specs.Walk.Steps.{room, steps_left}
use Rattle.help.specs.Help.Known.{help_step}
use Rattle.help.specs.declared.state.HelpAt.{HelpAt}
use Rattle.help.specs.declared.state.HelpAt.TheVariants as at
use Rattle.prims.specs.Llx.Known.{LlxHasAsked}
use Rattle.prims.specs.Scx.Known.{FillWaits}
use Rattle.prims.specs.declared.llx.LlxAt.TheVariants as llx
use Rattle.prims.specs.declared.scx.ScxAt.TheVariants as scxs
use Rattle.ordered_map.specs.Tries.{is_settled_load}
use Rattle.ordered_map.proofs.MapLemmas.{root_head}
use Rattle.template.specs.Walk.Laws.{walk_told}
use Rattle.template.specs.declared.walk.WalkAt.{WalkAt}
use Rattle.template.specs.declared.walk.WalkAt.TheVariants.{Start as WalkStart, Root, Head, Key, Child, More, Pair, Value, High}
use Rattle.template.specs.declared.walk.WalkRun.{WalkRun}

-- Rows

-- a row of another pass begins no try of this one
pub others_begin_none : (c : ℕ) (r : Row) → r.pass.0 ≢ c → begins_try c r ≡ false
others_begin_none c r other = rw (ne_eqb r.pass.0 c other) refl

module _ (c : ℕ) (r : Row) (h : History) where
  -- after a row that begins none the same number are begun, and the newest stays the newest
  pub tries_more : begins_try c r ≡ false → tries_begun c (r ⊳ h) ≡ tries_begun c h
  unfolding tries_begun
  tries_more none = rw none refl

  pub newest_more : (begin : History) → begins_try c r ≡ false → IsNewestTry c h begin → IsNewestTry c (r ⊳ h) begin
  newest_more begin none x = record { first = x.first; begins = x.begins; within = inr x.within; none_since = tries_more none ∙ x.none_since }

  -- after one that begins one there is one more, and that is the newest
  pub tries_begin : begins_try c r ≡ true → tries_begun c (r ⊳ h) ≡ suc (tries_begun c h)
  unfolding tries_begun
  tries_begin begins = rw begins refl

  pub newest_now : begins_try c r ≡ true → IsNewestTry c (r ⊳ h) h
  newest_now begins = record { first = r; begins = begins; within = inl refl; none_since = refl }

-- Steps

-- the step begins no try of the pass that makes it
abbrev pub BeginsNoTry : Step → Type 0
BeginsNoTry s = is_settled_load s.kind && same_word s.word (node 0 (Settled HeadWord)) ≡ false

-- so its row begins none
pub own_begins_none : (c : Call) (s : Step) (h : History) → BeginsNoTry s → begins_try c.pass (row_of c s h) ≡ false
own_begins_none c s h none = rw none (no_and (eqb c.pass c.pass))
  where
    no_and : (b : Bool) → b && false ≡ false
    no_and true = refl
    no_and false = refl

-- the load of the root's head begins one
pub own_begins : (c : Call) (s : Step) (h : History) → s ≡ load LoadSettled (node 0 (Settled HeadWord)) → begins_try c.pass (row_of c s h) ≡ true
own_begins c s h e = rw (e, eq-eqb c.pass c.pass refl) refl

not_settled : (k : Kind) → k ≢ LoadSettled → is_settled_load k ≡ false
not_settled LoadSettled d = absurd (d refl)
not_settled _ d = refl

no_and_left : (b : Bool) → b && false ≡ false
no_and_left true = refl
no_and_left false = refl

-- steps of other kinds, of SCX-records, of other nodes and of other words begin none
pub other_kind_begins_none : (s : Step) → s.kind ≢ LoadSettled → BeginsNoTry s
other_kind_begins_none s d = rw (not_settled s.kind d) refl

pub other_node_begins_none : (s : Step) (n : ℕ) (part : NodeWord) → s.word ≡ node n part → n ≢ 0 → BeginsNoTry s
other_node_begins_none s n part e d = rw (e, ne_eqb n 0 d) (no_and_left (is_settled_load s.kind))

-- HELP

help_step_begins_none : (h : History) (u : ℕ) (p : HelpAt) → BeginsNoTry (help_step h u p)
help_step_begins_none h u at.Start = refl
help_step_begins_none h u at.Plan = refl
help_step_begins_none h u (at.Member j) = refl
help_step_begins_none h u (at.Seen j) = refl
help_step_begins_none h u (at.Freeze j v) = refl
help_step_begins_none h u (at.AllFrozen j v) = refl
help_step_begins_none h u (at.Abort j v) = refl
help_step_begins_none h u at.SetFrozen = refl
help_step_begins_none h u (at.Mark j) = refl
help_step_begins_none h u at.New = refl
help_step_begins_none h u (at.Old v) = refl
help_step_begins_none h u at.Update = refl
help_step_begins_none h u at.Commit = refl

pub help_begins_none : (allows : Layout → History → ℕ → Type 0) (lay : Layout) (c : ℕ) (m : HelpRun) (h : History) (s : Step) → HelpWaits allows lay c m h s → BeginsNoTry s
help_begins_none allows lay c m h s w = rw w.asked (help_step_begins_none h m.scx.0 m.at)

-- LLX

llx_at_begins_none : (allows : Layout → History → ℕ → Type 0) (c : Call) (h : History) (n : ℕ) (p : LlxAt) (s : Step) → LlxHasAsked allows c h n p s → BeginsNoTry s
llx_at_begins_none allows c h n llx.Start s a = absurd a
llx_at_begins_none allows c h n llx.Marked s a = rw a refl
llx_at_begins_none allows c h n (llx.Info b) s a = rw a refl
llx_at_begins_none allows c h n (llx.State b u) s a = rw a refl
llx_at_begins_none allows c h n (llx.MarkedAgain b u v) s a = rw a refl
llx_at_begins_none allows c h n (llx.Left b u) s a = rw a refl
llx_at_begins_none allows c h n (llx.Right b u x) s a = rw a refl
llx_at_begins_none allows c h n (llx.InfoAgain b u x y) s a = rw a refl
llx_at_begins_none allows c h n (llx.StateAgain b u) s a = rw a refl
llx_at_begins_none allows c h n (llx.Help b m) s a = help_begins_none allows c.layout c.pass m h s a
llx_at_begins_none allows c h n llx.LastInfo s a = rw a refl
llx_at_begins_none allows c h n (llx.LastState u) s a = rw a refl
llx_at_begins_none allows c h n (llx.LastHelp u m) s a = help_begins_none allows c.layout c.pass m h s a

pub llx_begins_none : (allows : Layout → History → ℕ → Type 0) (m : LlxRun) (c : Call) (h : History) (s : Step) → LlxWaits allows m c h s → BeginsNoTry s
llx_begins_none allows m c h s w = llx_at_begins_none allows c h m.node.0 m.at s w.asked

-- VLX

pub vlx_begins_none : (snaps : List Snap) (asked : ℕ) (c : Call) (h : History) (s : Step) → VlxWaits snaps asked c h s → BeginsNoTry s
vlx_begins_none snaps asked c h s w = rw w.asked refl

-- SCX

fill_begins_none : (allows : Layout → History → ℕ → Type 0) (c : Call) (h : History) (m : Job) (p : ScxAt) (s : Step) → FillWaits allows c h m p s → BeginsNoTry s
fill_begins_none allows c h m p s w = rw w.asked refl

scx_at_begins_none : (allows : Layout → History → ℕ → Type 0) (c : Call) (h : History) (m : Job) (p : ScxAt) (s : Step) → ScxWaitsAt allows c h m p s → BeginsNoTry s
scx_at_begins_none allows c h m scxs.Start s w = absurd w
scx_at_begins_none allows c h m (scxs.Help help) s w = help_begins_none allows c.layout c.pass help h s w.0
scx_at_begins_none allows c h m scxs.Plan s w = fill_begins_none allows c h m scxs.Plan s w
scx_at_begins_none allows c h m scxs.New s w = fill_begins_none allows c h m scxs.New s w
scx_at_begins_none allows c h m scxs.Old s w = fill_begins_none allows c h m scxs.Old s w
scx_at_begins_none allows c h m (scxs.Member j) s w = fill_begins_none allows c h m (scxs.Member j) s w
scx_at_begins_none allows c h m (scxs.Seen j) s w = fill_begins_none allows c h m (scxs.Seen j) s w
scx_at_begins_none allows c h m scxs.Call s w = fill_begins_none allows c h m scxs.Call s w

pub scx_begins_none : (allows : Layout → History → ℕ → Type 0) (m : ScxRun) (c : Call) (h : History) (s : Step) → ScxWaits allows m c h s → BeginsNoTry s
scx_begins_none allows m c h s w = scx_at_begins_none allows c h (job_of m) m.at s w

-- A walk

module _ (m : WalkRun) (c : Call) (h : History) where
  walk_step_begins_none : (p : WalkAt) → IsMapRun c.layout h → IsPastRoot p → WalkKnows c h m p → BeginsNoTry (walk_step m p)
  walk_step_begins_none WalkStart run past k = absurd past
  walk_step_begins_none Root run past k = absurd past
  walk_step_begins_none (Head above) run past k = other_node_begins_none (walk_step m (Head above)) m.trail.node.0 (Settled HeadWord) refl below
    where
      -- no level is below the root's
      below : m.trail.node.0 ≢ 0
      below z = let low : above < level (value h) 0 = subst (λ n. above < level (value h) n) z k.1 in let root = root_head c.layout h run in omega (arith, low, root)
  walk_step_begins_none (Key head) run past k = no_and_left (eqb m.trail.node.0 0)
  walk_step_begins_none (Child low side) run past k = refl
  walk_step_begins_none (More head) run past k = no_and_left (eqb m.trail.node.0 0)
  walk_step_begins_none (Pair head more slot) run past k = no_and_left (eqb m.trail.node.0 0)
  walk_step_begins_none (Value head more slot key) run past k = no_and_left (eqb m.trail.node.0 0)
  walk_step_begins_none (High head more slot key low) run past k = no_and_left (eqb m.trail.node.0 0)

  -- after the load of the root's head a walk begins no try
  pub walk_begins_none : (s : Step) → IsPastRoot m.at → WalkWaits m c h s → BeginsNoTry s
  walk_begins_none s past w = rw w.asked (walk_step_begins_none m.at w.run past w.known)

  -- no more steps are left than after the root's head
  few_left : (p : WalkAt) (nodes : ℕ) → WalkKnows c h m p → walk_left p nodes ≤ walk_left Root nodes
  few_left WalkStart nodes k = absurd k
  few_left Root nodes k = omega arith
  few_left (Head above) nodes k = omega arith
  few_left (Key head) nodes k = omega arith
  few_left (Child low side) nodes k = omega arith
  few_left (More head) nodes k = omega arith
  few_left (Pair head more slot) nodes k = omega arith
  few_left (Value head more slot key) nodes k = omega arith
  few_left (High head more slot key low) nodes k = omega arith

  past_root : (p : WalkAt) (nodes : ℕ) → walk_left p nodes < walk_left Root nodes → IsPastRoot p
  past_root WalkStart nodes fewer = absurd (omega (arith, fewer))
  past_root Root nodes fewer = absurd (omega (arith, fewer))
  past_root (Head above) nodes fewer = tt
  past_root (Key head) nodes fewer = tt
  past_root (Child low side) nodes fewer = tt
  past_root (More head) nodes fewer = tt
  past_root (Pair head more slot) nodes fewer = tt
  past_root (Value head more slot key) nodes fewer = tt
  past_root (High head more slot key low) nodes fewer = tt

  -- once it has got something, and asks for a step, it is past the root's head
  pub walk_past_root : (now : WalkRun) (v : ℕ) → IsRun TreeAllows c.layout h → WalkIsTold m c h v → now.way ≡ m.way → ((nodes : ℕ) → WalkFits m (Some v) nodes → steps_left now nodes < steps_left m nodes) → IsPastRoot now.at
  walk_past_root now v run x same nearer =
      let nodes : ℕ = length (taken_nodes h) in
      let fewer : walk_left now.at (room m.way nodes) < walk_left m.at (room m.way nodes) = subst (λ way. walk_left now.at (room way nodes) < walk_left m.at (room m.way nodes)) same (nearer nodes (walk_told m c h (Some v) nodes run x (omega arith))) in
      let few = few_left m.at (room m.way nodes) x.known in
      past_root now.at (room m.way nodes) (omega (arith, fewer, few))
