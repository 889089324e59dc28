-- What an ordered read knows one place further, whichever it is.
use Rattle.std.proofs.Common.{◌≡◌, ℕ, ◌^◌, ◌<◌, true, false, List, [], ◌∷◌, ◌++◌, length, inl, inr, ⊎_elim, refl, sym, ◌∙◌, subst, arith, lt-ltb, ne_eqb, None}
use native.Mathlib.Decide.{ℕ_discrete}
use Rattle.histories.specs.Common.{NodeNo, Settled, Head as HeadWord, Side, Left, Right, node, History, value, Extends, Call, begun_at}
use Rattle.arena.proofs.Lemmas.{ends_self, ends_trans}
use Rattle.prims.specs.Laws.Idle.{quiet_at_start, idle_if_finished}
use Rattle.template.specs.Common.{IsSnapshot, LlxIsReady, child_of, LlxRun, Snap, Pair, MapReply, Passed, IsMapRun}
use Rattle.template.specs.Common.{Spells, TreeAllows, class, is_leaf, level, rank, HasWalked, HasFoundGoal, HasFoundLeaf, Key as ToKey}
use Rattle.prims.specs.Llx.Known.{LlxKnows}
use Rattle.prims.specs.Vlx.Known.{IsSame}
use Rattle.prims.specs.declared.llx.LlxAt.TheVariants.{Start as LlxStart}
use Rattle.ordered_map.specs.Paths.{StoodSince}
use Rattle.ordered_map.proofs.Lemmas.{same_stays, settled_leaf, settled_toward}
use Rattle.ordered_map.proofs.MapLemmas.{passed_unmarked, path_not_final, root_head, run_since, run_spells, stood_settled, walk_first, walked_since}
use Rattle.template.specs.declared.walk.Found.{Found}
use Rattle.template.proofs.Lemmas.{own_since, opened_if_stood}
use Rattle.order.specs.Found.{GoesTo, IsReading, IsThere, Looks, Stands, WalksTo}
use Rattle.order.specs.Known.{AreLastTurns, LastTurned, IsLastTurn, Validates}
use Rattle.order.specs.Meaning.{ReadMeaning}
use Rattle.order.specs.Next.{MayValidate}
use Rattle.order.specs.Reads.{HasStood, Reads}
use Rattle.order.specs.Replies.{IsReplyAt}
use Rattle.order.specs.declared.read.Children.{Children}
use Rattle.order.specs.declared.last_turns.LastTurns.{LastTurns}
use Rattle.order.specs.LastTurns.{first_children, turn_to, turned_at}
use Rattle.order.proofs.Snapping.{hold_before, some_more, reads_one_more, child_there, child_rises, unmarked_then, field_then}

-- The fork where the search begins

-- the root is a fork of class 2
root_turned : (c : Call) (h : History) (k : ℕ) (f : Found) → IsMapRun c.layout h → k < 2 ^ 64 → HasFoundLeaf c h k f → LastTurned c h k Left 0
root_turned c h k f run small a = record {
  sure = record { on = record { first = first; own = a.trail.node.own; passed = there a.trail.node.passed }; stays = inr (fork, λ low. absurd (let two = class_is in omega (arith, two, low))) };
  fork = fork;
  turn = rw (lt-ltb k (rank (value h) 0) high) refl;
}
  where
    first : History
    first = a.trail.node.first

    head : value h (node 0 (Settled HeadWord)) ≡ 2
    head = root_head c.layout h run

    fork : is_leaf (value h) 0 ≡ false
    fork = rw head refl

    class_is : class (value h) 0 ≡ 2
    class_is = rw head refl

    high : k < rank (value h) 0
    high = let e = head in omega (arith, small, e)

    at : (m : History) → Extends h m → Extends m first → Passed h first k 0
    at m within since =
        let x : Passed m m k 0 = walk_first c.layout m k (run_since c.layout h m run within) in
        (x.0, ends_trans h m x.0 within x.1, ends_trans x.0 m first x.2 since, x.3)

    -- at the moment at which the leaf was on the path, or the map had no such key
    there : HasWalked c.layout h first k f.trail.node.0 → Passed h first k 0
    there (inl p) = at p.0 p.1 p.2
    there (inr s) = at s.absent.moment s.absent.within s.absent.since

last_turned : (c : Call) (h : History) (k n : ℕ) (side : Side) (f : Found) → IsMapRun c.layout h → k < 2 ^ 64 → HasFoundLeaf c h k f → IsLastTurn c h k side n → LastTurned c h k (turned_at side n) n
last_turned c h k n Left f run small a (inl e) = rw e (root_turned c h k f run small a)
last_turned c h k n Left f run small a (inr x) = x
last_turned c h k n Right f run small a last = go (ℕ_discrete n 0) last
  where
    go : Dec (n ≡ 0) → IsLastTurn c h k Right n → LastTurned c h k (turned_at Right n) n
    go (yes e) x = rw e (root_turned c h k f run small a)
    go (no d) (inl e) = absurd (d e)
    go (no d) (inr x) = rw (ne_eqb n 0 d) x

-- an LLX may begin at a node that has been in the tree
pub look_ready : (c : Call) (h : History) (snaps : List Snap) (n : ℕ) (llx : LlxRun) → Reads c h snaps → HasStood c h n → llx.node.0 ≡ n → llx.at ≡ LlxStart → LlxIsReady TreeAllows llx (begun_at c h) h None
look_ready c h snaps n llx reads stood is at = record {
  opened = rw is (opened_if_stood c.layout h n reads.run stood.stood);
  since = ends_self h;
  quiet = quiet_at_start c.layout c.pass h (idle_if_finished c h reads.run.1.lawful reads.over);
  known = subst (LlxKnows (begun_at c h) h llx.node.0) (sym at) tt;
  told = at;
}

module _ {R A : Type 0} (means : ReadMeaning R A) (r : R) (snaps : List Snap) (c : Call) (h : History) (reading : IsReading means r snaps c h) where
  -- where its walk has last turned to its side it may look
  looks_first : (key : ℕ) (side : Side) (n : ℕ) → WalksTo means r key side → LastTurned c h key (turned_at side n) n → Looks means r snaps c h (first_children side n) 0 n
  looks_first key side n w x = record {
    stood = record {
      stood = there.0;
      in_call = ends_trans there.0.moment x.sure.on.first c.start there.1 (own_since c x.sure.on.first x.sure.on.own);
      not_final = record { moment = p.0; within = p.1; since = ends_trans p.0 x.sure.on.first c.start p.2 (own_since c x.sure.on.first x.sure.on.own); was = path_not_final c.layout p.0 key n (run_since c.layout h p.0 reading.reads.run p.1) p.3 };
    };
    asks = w.asks;
    fork = x.fork;
    deep = omega arith;
    waits = rw w.waits tt;
    here = λ b run e hold.
        let same = stood_settled c.layout b h n run e there.0 in
        w.turned b n (λ unmarked. passed_unmarked c.layout b x.sure.on.first key n run (p.0, ends_trans b h p.0 e p.1, p.2, p.3) (same_stays (value h) (value b) c.layout key n same x.sure.stays) unmarked) (settled_toward (value h) (value b) n key same ∙ x.turn);
  }
    where
      p : Passed h x.sure.on.first key n
      p = x.sure.on.passed

      there : StoodSince h x.sure.on.first n
      there = walked_since c.layout h x.sure.on.first key n (inl p)

  -- so it may after the leaf that its walk has found
  pub walk_found : (key : ℕ) (side : Side) (turns : LastTurns) (f : Found) → WalksTo means r key side → AreLastTurns c h key turns → HasFoundGoal (ToKey key) c h f → Looks means r snaps c h (first_children side (turn_to side turns).0) 0 (turn_to side turns).0
  walk_found key side turns f w last found =
      let n = (turn_to side turns).0 in
      looks_first key side n w (last_turned c h key n side f reading.reads.run (w.small reading.suits) found (last side))

  -- A snapshot more

  module _ (snap : Snap) (is : IsSnapshot c.layout h snap.node.0 snap) (children : Children) (low : ℕ) (x : Looks means r snaps c h children low snap.node.0) where
    rises : (s : Side) → low < level (value h) (child_of snap s).0
    rises s =
        let i : level (value h) snap.node.0 < level (value h) (child_of snap s).0 = child_rises c h snaps snap reading.reads is x.stood x.fork s in
        let deep = x.deep in
        omega (arith, i, deep)

    there : (s : Side) → IsThere c h (child_of snap s)
    there s = (child_there c h snaps snap reading.reads is x.stood x.fork s, (let i = rises s in omega (arith, i)))

    module _ (now : R) (n : NodeNo) (to : GoesTo means r now children snap.left snap.right n) where
      one : (HasStood c h n.0) × (low < level (value h) n.0)
      one = ⊎_elim (λ e. rw e ((there Left).0, rises Left)) (λ e. rw e ((there Right).0, rises Right)) to.one

      -- it continues to the child to which that takes it
      pub stands_below : means.call now ≡ means.call r → Stands means now (snaps ++ snap ∷ []) c h n.0 × (low < level (value h) n.0)
      stands_below same = (
        record {
          stood = one.0;
          asks = rw same x.asks;
          some = inr (some_more snaps snap);
          waits = to.waits c h x.waits (there Left) (there Right);
          here = λ b run e hold.
              let field = field_then c h snaps snap reading.reads is x.stood x.fork b run e hold in
              to.below c.layout b snap.node.0 run (settled_leaf (value h) (value b) snap.node.0 (stood_settled c.layout b h snap.node.0 run e x.stood.stood) ∙ x.fork) (unmarked_then c h snaps snap reading.reads is x.stood x.fork b run e hold) (field Left) (field Right) (x.here b run e (hold_before b snaps snap hold));
        },
        one.1,
      )

    -- and reads on with the longer list
    pub reads_on : (now : R) → means.call now ≡ means.call r → IsReading means now (snaps ++ snap ∷ []) c h
    reads_on now same = record { reads = reads_one_more c h snaps snap reading.reads is x.stood; suits = rw same reading.suits }

  -- a leaf is not the root: a snapshot was taken
  pub some_taken : (n : ℕ) → Stands means r snaps c h n → is_leaf (value h) n ≡ true → 0 < length snaps
  some_taken n x leaf = ⊎_elim (λ e. absurd (go e)) (λ i. i) x.some
    where
      go : n ≡ 0 → ⊥
      go e =
          let head : value h (node 0 (Settled HeadWord)) ≡ 2 = root_head c.layout h reading.reads.run in
          let l : is_leaf (value h) 0 ≡ true = subst (λ k. is_leaf (value h) k ≡ true) e leaf in
          (let f : false ≡ true = rw head at l in cc)

  -- The VLX

  pub validates : MayValidate means r snaps c h → Validates means r snaps c h h
  validates x = record { asks = x.asks; own = x.own; within = ends_self h; reads = reading.reads; right = λ hold. x.right h reading.reads.run (ends_self h) hold }

-- all nodes are as they were found: what it has found is the map's reply as the VLX began
pub replies : {R A : Type 0} (means : ReadMeaning R A) (r : R) (snaps : List Snap) (c : Call) (begin h : History) (told : MapReply) → Validates means r snaps c h begin → IsSame (begun_at c begin) h snaps → told ≡ means.found r → IsReplyAt c h (means.call r) told
replies means r snaps c begin h told x same is = record {
  moment = begin;
  within = x.within;
  first = begin;
  own = x.own;
  since = ends_self begin;
  map = spelled.0;
  spelled = spelled.1;
  gives = x.right same.info spelled.0 spelled.1 ∙ sym is;
}
  where
    spelled : (ps : List Pair) × Spells c.layout (value begin) ps
    spelled = run_spells c.layout begin x.reads.run
