-- What an ordered read knows stays so, whatever row comes that takes nothing of its pass's share.
use Rattle.std.proofs.Common.{◌≡◌, ◌≢◌, ℕ, ◌<◌, ◌≤◌, true, false, ◌==◌, length, List, [], inl, inr, refl, ap, subst, arith}
use Rattle.std.proofs.Math.Bool.{and-false}
use Rattle.histories.specs.Common.{Row, Step, LoadSettled, NodeWord, Settled, Head, More as MoreWord, Key as KeyWord, Value as ValueWord}
use Rattle.histories.specs.Common.{High as HighWord, First, node, same_node_word, History, Opened, ◌⊳◌, value, Extends, IsRun, Call, begun_at, taken_nodes}
use Rattle.arena.proofs.Lemmas.{ends_self, ends_trans, taken_more}
use Rattle.prims.specs.Laws.Begun.{TakesOnly}
use Rattle.prims.specs.Laws.Idle.{IsIdle, quiet_at_start, quiet_more, idle_if_finished}
use Rattle.prims.specs.Laws.InTheWay.{been_more}
use Rattle.template.specs.Common.{load, AreFinished, Snap, Passed, WasInTree, IsMapRun, TreeAllows, level, begins_try}
use Rattle.prims.proofs.Lemmas.{over_more}
use Rattle.ordered_map.proofs.Lemmas.{SameSettled}
use Rattle.ordered_map.specs.Paths.{StoodSince}
use Rattle.ordered_map.proofs.MapLemmas.{path_not_final, root_head, run_since, stood_settled, walk_first, walked_since}
use Rattle.template.proofs.Lemmas.{BeginsNoTry, newest_more, newest_now, next_more, other_node_begins_none}
use Rattle.order.specs.Loads.{load_word}
use Rattle.order.specs.Meaning.{ReadMeaning}
use Rattle.order.specs.Near.{NearKnows, near_part}
use Rattle.order.specs.Next.{MayLoad}
use Rattle.order.specs.Reads.{AreSnapped, Reads, Whenever, HasStood}
use Rattle.order.specs.Tries.{BeginsTry, IsInTry}
use Rattle.order.specs.declared.near.NearAt.{NearAt}
use Rattle.order.specs.declared.near.NearAt.TheVariants as nears
use Rattle.order.specs.declared.near.NearRun.{NearRun}
use Rattle.order.specs.declared.load.ReadLoad.{ReadLoad}
use Rattle.order.specs.declared.load.ReadLoad.TheVariants as loads

-- the root is in the tree
pub root_there : (c : Call) (h : History) → IsMapRun c.layout h → Extends h c.start → HasStood c h 0
root_there c h run since = record {
  stood = x.0;
  in_call = ends_trans x.0.moment h c.start x.1 since;
  not_final = record { moment = p.0; within = p.1; since = ends_trans p.0 h c.start p.2 since; was = path_not_final c.layout p.0 0 0 (run_since c.layout h p.0 run p.1) p.3 };
}
  where
    p : Passed h h 0 0
    p = walk_first c.layout h 0 run

    x : StoodSince h h 0
    x = walked_since c.layout h h 0 0 (inl p)

-- with no snapshot it knows all that it knows of the call as if that began now
pub reads_anew : (c : Call) (h : History) (snaps : List Snap) → snaps ≡ [] → IsMapRun c.layout h → AreFinished c.layout c.pass 0 h → Reads (begun_at c h) h snaps
reads_anew c h snaps none run over = rw none record {
  run = run;
  since = ends_self h;
  over = over;
  quiet = quiet_at_start c.layout c.pass h (idle_if_finished c h run.1.lawful over);
  snapped = λ i p. absurd (omega (arith, p));
}

-- no node that was taken is untaken
pub taken_nodes_grow : (h m : History) → Extends h m → length (taken_nodes m) ≤ length (taken_nodes h)
taken_nodes_grow (Opened o) m e = rw e (omega arith)
taken_nodes_grow (r ⊳ h) m (inl e) = rw e (omega arith)
taken_nodes_grow (r ⊳ h) m (inr e) =
    let x : length (taken_nodes m) ≤ length (taken_nodes h) = taken_nodes_grow h m e in
    let y : length (taken_nodes h) ≤ length (taken_nodes (r ⊳ h)) = taken_more h r in
    omega (arith, x, y)

module _ (c : Call) (h : History) (r : Row) where
  pub stood_more : (n : ℕ) → HasStood c h n → HasStood c (r ⊳ h) n
  stood_more n x = record {
    stood = let s = x.stood in record { moment = s.moment; within = inr s.within; tree = s.tree; is_tree = s.is_tree; has = s.has };
    in_call = x.in_call;
    not_final = been_more r h c.start _ x.not_final;
  }

  snapped_more : (snaps : List Snap) → AreSnapped c h snaps → AreSnapped c (r ⊳ h) snaps
  snapped_more snaps x i p = let u = x i p in record { moment = u.moment; within = inr u.within; since = u.since; stood = u.stood; in_call = u.in_call; is = u.is }

  pub whenever_more : (snaps : List Snap) (P : History → Type 0) → Whenever c.layout h snaps P → Whenever c.layout (r ⊳ h) snaps P
  whenever_more snaps P x b run e = x b run (ends_trans b (r ⊳ h) h e (inr (ends_self h)))

  module _ (run : IsRun TreeAllows c.layout (r ⊳ h)) where
    pub reads_more : (snaps : List Snap) → TakesOnly c.layout c.pass 0 h r → Reads c h snaps → Reads c (r ⊳ h) snaps
    reads_more snaps takes x = record {
      run = (x.run.0, run);
      since = inr x.since;
      over = over;
      quiet = quiet_more c.layout c.pass c.start h r (idle_if_finished c (r ⊳ h) run.lawful over) x.quiet;
      snapped = snapped_more snaps x.snapped;
    }
      where
        over : AreFinished c.layout c.pass 0 (r ⊳ h)
        over = over_more c.layout c.pass 0 h r run.lawful takes x.over

    -- the settled words of a node that has been in the tree stay
    pub settled_more : (n : ℕ) → IsMapRun c.layout h → HasStood c h n → SameSettled (value h) (value (r ⊳ h)) n
    settled_more n g x = stood_settled c.layout (r ⊳ h) h n (g.0, run) (inr (ends_self h)) x.stood

-- Its search of a leaf

-- what that knows is of a moment that is past
pub near_more : (c : Call) (h : History) (r : Row) (near : NearRun) → NearKnows near c h → NearKnows near c (r ⊳ h)
near_more c h r near x = record { moment = x.moment; within = inr x.within; first = x.first; own = x.own; since = x.since; stood = x.stood; small = x.small; stands = x.stands }

-- its leaf has been in the tree
pub near_stood : (c : Call) (h : History) (near : NearRun) → NearKnows near c h → WasInTree h near.node.0
near_stood c h near x = let s = x.stood.0 in record { moment = s.moment; within = ends_trans h x.moment s.moment x.within s.within; tree = s.tree; is_tree = s.is_tree; has = s.has }

-- Its tries

module _ (c : Call) (h : History) (r : Row) (limit left : ℕ) (idle : IsIdle c.layout c.pass (r ⊳ h)) where
  -- a row that begins no try leaves it where it is
  pub begins_more : begins_try c.pass r ≡ false → BeginsTry c h limit left → BeginsTry c (r ⊳ h) limit left
  begins_more none x = record { since = inr x.since; quiet = quiet_more c.layout c.pass c.start h r idle x.quiet; next = next_more c r h limit left none x.next }

  pub in_try_more : (begin : History) → begins_try c.pass r ≡ false → IsInTry c h begin limit left → IsInTry c (r ⊳ h) begin limit left
  in_try_more begin none x = record { begins = x.begins; quiet = quiet_more c.layout c.pass c.start h r idle x.quiet; newest = newest_more c.pass r h begin none x.newest }

  -- with one that begins a try it is in that
  pub in_try_now : begins_try c.pass r ≡ true → BeginsTry c h limit left → IsInTry c (r ⊳ h) h limit left
  in_try_now begins x = record { begins = x; quiet = quiet_more c.layout c.pass c.start h r idle x.quiet; newest = newest_now c.pass r h begins }

-- a load of the head of a node below some fork begins none
head_begins_none : (c : Call) (h : History) (s : Step) (above n : ℕ) → IsMapRun c.layout h → above < level (value h) n → s ≡ load LoadSettled (node n (Settled Head)) → BeginsNoTry s
head_begins_none c h s above n run deep e = other_node_begins_none s n (Settled Head) (ap (λ (t : Step). t.word) e) below
  where
    below : n ≢ 0
    below z = let low : above < level (value h) 0 = subst (λ k. above < level (value h) k) z deep in let root = root_head c.layout h run in omega (arith, low, root)

-- nor does a load of another word
word_begins_none : (s : Step) (n : ℕ) (part : NodeWord) → s ≡ load LoadSettled (node n part) → same_node_word part (Settled Head) ≡ false → BeginsNoTry s
word_begins_none s n part e other = rw (e, other) (and-false (n == 0))

-- nor does one of a search in a leaf
pub near_begins_none : (s : Step) (n : ℕ) (at : NearAt) → s ≡ load LoadSettled (node n (Settled (near_part at))) → BeginsNoTry s
near_begins_none s n (nears.Key slot last) e = word_begins_none s n (Settled (KeyWord slot)) e refl
near_begins_none s n (nears.Value slot key) e = word_begins_none s n (Settled (ValueWord slot)) e refl
near_begins_none s n (nears.High slot key low) e = word_begins_none s n (Settled (HighWord slot)) e refl

-- so no load of an ordered read but that of the root's head does
pub load_begins_none : {R A : Type 0} (means : ReadMeaning R A) (r : R) (snaps : List Snap) (c : Call) (h : History) (s : Step) (of : ReadLoad) → IsMapRun c.layout h → MayLoad means r snaps c h of → s ≡ load LoadSettled (load_word of) → BeginsNoTry s
load_begins_none means r snaps c h s (loads.Head above n) run x e = head_begins_none c h s above n.0 run x.1 e
load_begins_none means r snaps c h s (loads.Key low n) run x e = word_begins_none s n.0 (Settled (KeyWord First)) e refl
load_begins_none means r snaps c h s (loads.More n) run x e = word_begins_none s n.0 (Settled MoreWord) e refl
load_begins_none means r snaps c h s (loads.Pair p) run x e = word_begins_none s p.node.0 (Settled (KeyWord p.slot)) e refl
load_begins_none means r snaps c h s (loads.Value p key) run x e = word_begins_none s p.node.0 (Settled (ValueWord p.slot)) e refl
load_begins_none means r snaps c h s (loads.High p key low) run x e = word_begins_none s p.node.0 (Settled (HighWord p.slot)) e refl
