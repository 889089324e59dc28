-- What a call of a dictionary leaves of its pass.
use Rattle.std.specs.Prelude.{Bool}
use Rattle.dict.specs.Laws.Begins.{dict_mode}
use Rattle.template.specs.Balance.{map_mode}
use Rattle.dict.specs.Calls.{trie_in}
use Rattle.std.proofs.Common.{◌≡◌, ◌∙◌, arith, ℕ, ◌+◌, ◌*◌, ◌<◌, ◌≤◌, ◌∷◌, List, Option, Some, None, refl, ap, sym, subst}
use Rattle.atomic_table.specs.declared.shared.Seat.{Seat}
use Rattle.histories.specs.Common.{Layout, History, Extends, Remaining, IsOwnNode, IsOwnScx}
use Rattle.template.specs.Common.{MapCall, Edit, Get, Range, Neighbour, MapReply, IsMapRun, IsShare, most_nodes, most_scx, tries_since, told_of, Reply}
use Rattle.prims.specs.Laws.Begun.{taken_since}
use Rattle.prims.specs.Shares.{share_end}
use Rattle.prims.proofs.Lemmas.{all_over, one_end, taken_node_since}
use Rattle.edits.specs.Known.{RestsWith}
use Rattle.dict.specs.Laws.Begins.{dict_begins}
use Rattle.dict.specs.Calls.{KeepsEnd, call_in, share_of, IsFewCall}
use Rattle.dict.specs.DictKnown.{DictIsReady, DictWaits, DictAnswers, DictRefuses}
use Rattle.dict.specs.Known.{IsUnbegun}
use Rattle.dict.specs.Laws.OneShare.{one_share}
use Rattle.dict.proofs.Lemmas.{was_contended}
use Rattle.dict.specs.Says.{KeepsLists, TellsOfMap}
use Rattle.dict.specs.Typed.{IsTypedCall, TypedAllows}
use Rattle.dict.specs.Laws.TypedMaps.{typed_run}
use Rattle.dict.specs.Words.{IsWordOf}
use Rattle.ordered_map.specs.Requests.{AsksForFew, as_map_call}
use Rattle.dict.specs.declared.dict.DictRun.{DictRun}
use Rattle.ordered_map.specs.declared.request.Request.{Request}
use Rattle.ordered_map.specs.declared.request.Request.TheVariants as requests
use Rattle.ordered_map.specs.declared.reply.Reply.TheVariants as replies
use Rattle.tables.specs.declared.memory.PassMemory.{PassMemory}
use Rattle.tables.specs.declared.view.SeatView.{SeatView}
use Rattle.tables.specs.CallSteps.{HasDictLeft}
use Rattle.forest.specs.declared.pass.Pass.TheInside.{Inside}
use Rattle.forest.specs.Dictionary.{IsToldOf, IsRefusalOf, HasSpentAtMost, blamed_by_reply}
use Rattle.straight.specs.StraightCalls.{IsFreshCall, IsSameDictCall, SeatCallBegins}
use Rattle.tables.specs.Passes.{PassView, HasBlamed, HasGoneOn, run_of, taken_of}
use Rattle.forest.specs.PassInvariant.{pass_view, layout_in, IsPass}
use Rattle.tables.specs.Shares.{EndsAsDealt, IsBetweenCalls}
use Rattle.tables.specs.Traces.{CallBegins, HoldsForCall, Trace, known_of, memory_of, seat_steps, planting_of}
use Rattle.forest.proofs.Blames.{blamed_later, blamed_on_map}
use Rattle.forest.proofs.Versions.{told_says, lost_says, full_says, nothing_says}
use Rattle.straight.proofs.AfterCalls.{course_keeps}
use Rattle.forest.proofs.Entered.{HasEnded, ended, left_with, ended_pass, ended_goes_on, rests_between}
use Rattle.forest.proofs.Passes.{begun_with, call_of}

-- Shares

-- what is left of a share later on is not more, if it ends where it did
module _ (lay : Layout) (c : ℕ) (h start : History) (a b : Remaining) (e : Extends h start) (end : share_end b ≡ share_end a) (x : IsShare lay start c a a.next_node a.next_scx) (y : IsShare lay h c b b.next_node b.next_scx) where
  nodes_not : ¬ (b.next_node < a.next_node)
  nodes_not i =
      let own : IsOwnNode lay c b.next_node = record { from = y.from_node; below = let t = x.to_node in omega (arith, i, t) } in
      y.untaken_nodes b.next_node own (omega arith) (taken_node_since h start b.next_node e (x.taken_nodes b.next_node own i))

  scx_not : ¬ (b.next_scx < a.next_scx)
  scx_not i =
      let own : IsOwnScx lay c b.next_scx = record { from = y.from_scx; below = let t = x.to_scx in omega (arith, i, t) } in
      y.untaken b.next_scx own (omega arith) (taken_since h start b.next_scx e (x.taken_scx b.next_scx own i))

  pub share_nodes : b.nodes ≤ a.nodes
  share_nodes = let n = nodes_not in let t = (one_end b a end).0 in omega (arith, n, t)

  pub share_scx : b.scx ≤ a.scx
  share_scx = let n = scx_not in let t = (one_end b a end).1 in omega (arith, n, t)

-- a range that asks for few pairs is such a call
pub few_of : {K V : Type 0} (key : K → ℕ) (value_word : V → ℕ) (request : Request K V) (call : MapCall) → call ≡ as_map_call key value_word request → AsksForFew request → IsFewCall call
few_of key value_word (requests.Range low high most) call e few = subst IsFewCall (sym e) few
few_of key value_word request call e few = subst IsFewCall (sym e) tt

-- What a call leaves

module _ {K V : Type 0} (valid_key : K → Type 0) (key : K → ℕ) (valid_value : V → Type 0) (value_word : V → ℕ) where
  abbrev allows : Layout → History → ℕ → Type 0
  allows = TypedAllows (IsWordOf valid_key key) (IsWordOf valid_value value_word)

  abbrev keys : ℕ → Type 0
  keys = IsWordOf valid_key key

  abbrev values : ℕ → Type 0
  values = IsWordOf valid_value value_word

  -- the second machine is of the same call as the first, and what is left of its share ends where it
  -- did
  abbrev pub IsSameCall : DictRun K V → DictRun K V → Type 0
  IsSameCall old now = (call_in now.run ≡ call_in old.run) × (now.tries ≡ old.tries) × KeepsEnd old.run now.run

  -- a call that has not begun may begin, with the pass's share
  pub dict_starts : {trie : Bool} {T : Type 0} (p : Inside T) (x : IsPass allows (map_mode trie) p) (m : DictRun K V) → trie_in m.run ≡ trie → IsTypedCall keys values (call_in m.run) → IsUnbegun m.run m.tries (taken_of (pass_view p)) → IsFewCall (call_in m.run) → share_of m.run ≡ p.share → CallBegins allows (DictIsReady keys values) HasDictLeft (call_of p x (taken_of (pass_view p))) p.seat.me.0.passes m
  dict_starts {trie} p x m tree typed unbegun few share = begun_with p x (taken_of (pass_view p)) (ap share_end share ∙ x.dealt (dict_mode (layout_in p).mode trie x.is_mode)) (dict_begins keys values m (call_of p x (taken_of (pass_view p))) (x.is_mode ∙ ap map_mode (sym tree)) x.sound typed unbegun few (rw share rests))
    where
      rests : RestsWith (call_of p x (taken_of (pass_view p))) (call_of p x (taken_of (pass_view p))).start p.share
      rests = record { share = x.rest.share; over = all_over (layout_in p) _ p.number.0 p.share p.share.next_node p.share.next_scx x.rest.share x.rest.over }

  -- an ordered read is of a typed call
  pub typed_read : (call : MapCall) → KeepsLists call → IsTypedCall keys values call
  typed_read (Neighbour side key) x = tt
  typed_read (Range low high most) x = tt
  typed_read (Edit goal rule) x = absurd x
  typed_read (Get key) x = absurd x

  -- so may the machine of a request
  pub request_starts : {trie : Bool} {T : Type 0} (p : Inside T) (x : IsPass allows (map_mode trie) p) (m : DictRun K V) (request : Request K V) (tries number : ℕ) → taken_of (pass_view p) ≡ number → call_in m.run ≡ as_map_call key value_word request → trie_in m.run ≡ trie → IsTypedCall keys values (call_in m.run) → m.tries ≡ tries → IsUnbegun m.run tries number → AsksForFew request → share_of m.run ≡ p.share → CallBegins allows (DictIsReady keys values) HasDictLeft (call_of p x (taken_of (pass_view p))) p.seat.me.0.passes m
  request_starts p x m request tries number named call tree typed same fresh few share = dict_starts p x m tree typed (rw (same, named) fresh) (few_of key value_word request (call_in m.run) call few) share

  -- and so may a machine of a call of its own
  pub call_starts : {trie : Bool} {T : Type 0} (p : Inside T) (x : IsPass allows (map_mode trie) p) (m : DictRun K V) (call : MapCall) (tries number : ℕ) → taken_of (pass_view p) ≡ number → IsTypedCall keys values call → IsFewCall call → IsFreshCall trie call p.share tries number m → CallBegins allows (DictIsReady keys values) HasDictLeft (call_of p x (taken_of (pass_view p))) p.seat.me.0.passes m
  call_starts p x m call tries number named typed few fresh = dict_starts p x m fresh.in_trie (rw fresh.is_call typed) (rw (fresh.has_tries, named) fresh.unbegun) (rw fresh.is_call few) fresh.has_share

  -- so may any machine of an ordered read that has not begun
  pub read_starts : {trie : Bool} {T : Type 0} (p : Inside T) (x : IsPass allows (map_mode trie) p) (request : Request K V) (tries number : ℕ) → taken_of (pass_view p) ≡ number → KeepsLists (as_map_call key value_word request) → AsksForFew request → SeatCallBegins valid_key key valid_value value_word trie (call_of p x (taken_of (pass_view p))) p.seat.me.0.passes (as_map_call key value_word request) p.share tries number
  read_starts p x request tries number named ordered few = λ first fresh. call_starts p x first (as_map_call key value_word request) tries number named (typed_read (as_map_call key value_word request) ordered) (few_of key value_word request (as_map_call key value_word request) refl few) fresh

  module _ (trie : Bool) {T : Type 0} (p : Inside T) (x : IsPass allows (map_mode trie) p) (s : Seat ℕ SeatView) (m : DictRun K V) (reply : Reply K V) where
    -- the number of the call
    abbrev pub called : ℕ
    called = taken_of (pass_view p)

    -- its answer is right in the run that is known now
    abbrev pub Answered : History → Type 0
    Answered h = DictAnswers valid_key key valid_value value_word m (call_of p x called) h reply

    -- how it has ended
    pub dict_ended : {left : PassMemory → Type 0} (first : DictRun K V) → HoldsForCall allows left s.me.0.passes (call_of p x called) (λ h. Answered h × Trace allows (DictWaits keys values) (IsSameDictCall valid_key key valid_value value_word) (call_of p x called) first m h) → HasEnded allows p s called Answered × IsSameCall first m
    dict_ended first y = (
      ended p x s called (DictWaits keys values) (IsSameDictCall valid_key key valid_value value_word) first m Answered y,
      course_keeps (λ (k : DictRun K V). IsSameCall first k) (refl, refl, refl) (λ old now e q. (e.0 ∙ q.0, e.1 ∙ q.1, e.4 ∙ q.2)) m _ y.so.1,
    )

    -- the pass afterwards
    abbrev pub behind : Inside T
    behind = left_with p x s called Answered (share_of m.run) (blamed_by_reply reply p.blamed)

    abbrev now : PassView
    now = pass_view behind

    -- what is so of it is so where the share and the blame list are these
    pub so_behind : (Q : Inside T → Type 0) (share : Remaining) (blamed : List ℕ) → share_of m.run ≡ share → blamed ≡ blamed_by_reply reply p.blamed → Q behind → Q (left_with p x s called Answered share blamed)
    so_behind Q share blamed is_share is_blamed y = subst (λ b. Q (left_with p x s called Answered share b)) (sym is_blamed) (subst (λ r. Q (left_with p x s called Answered r (blamed_by_reply reply p.blamed))) is_share y)

    -- it has ended with a share that ends where the pass's did
    module _ (end : share_end (share_of m.run) ≡ share_end p.share) (y : HasEnded allows p s called Answered) where
      map_run : IsMapRun (layout_in p) (run_of now)
      map_run = (dict_mode (layout_in p).mode trie x.is_mode, typed_run (IsWordOf valid_key key) (IsWordOf valid_value value_word) (layout_in p) (run_of now) y.sound)

      rest : IsBetweenCalls (layout_in p) p.number.0 (run_of now) (share_of m.run)
      rest = rests_between (call_of p x called) (run_of now) (share_of m.run) y.answers.rests (λ few. end ∙ x.rest.upper few)

      -- whom it blames
      pub dict_blames : HasBlamed now
      dict_blames = go reply y.answers.refuses
        where
          none : HasBlamed (pass_view (left_with p x s called Answered (share_of m.run) p.blamed))
          none = blamed_later (pass_view p) (pass_view (left_with p x s called Answered (share_of m.run) p.blamed)) refl refl refl y.sound.lawful y.since x.blamed

          go : (r : Reply K V) → DictRefuses (call_of p x called) (run_of now) (call_in m.run) (share_of m.run) m.tries r → HasBlamed (pass_view (left_with p x s called Answered (share_of m.run) (blamed_by_reply r p.blamed)))
          go (replies.Value v) z = none
          go (replies.Pair v) z = none
          go (replies.Pairs v) z = none
          go (replies.Full f) z = none
          go replies.NoMemory z = none
          go (replies.Contended n u) z =
              let way = was_contended (call_of p x called) (run_of now) (call_in m.run) m.tries n.0 u.0 z in
              blamed_on_map (pass_view p) (pass_view (left_with p x s called Answered (share_of m.run) (u.0 ∷ p.blamed))) n.0 u.0 (dict_mode (layout_in p).mode trie x.is_mode) refl refl refl y.sound.lawful y.since way.others way.in_the_way way.over_or_new x.blamed

      -- it is a pass again
      pub dict_pass : EndsAsDealt (share_of m.run) (memory_of s.me.0.passes) → s.me.1 ≡ p.seat.me.1 → IsPass allows (map_mode trie) behind
      dict_pass dealt bare = ended_pass p x s called Answered (share_of m.run) (blamed_by_reply reply p.blamed) bare y rest (λ map. dealt) dict_blames

      -- and its run is extended
      pub dict_goes_on : (few most : ℕ) → s.table_id ≡ p.seat.table_id → seat_steps s.me.0.passes ≤ seat_steps p.seat.me.0.passes + few → few ≤ most → HasGoneOn allows (pass_view p) now called most (blamed_by_reply reply p.blamed)
      dict_goes_on few most table steps small = ended_goes_on p x s called Answered (share_of m.run) (blamed_by_reply reply p.blamed) few most table y steps small rest dict_blames

      -- what it had of its share as the call began
      rests : RestsWith (call_of p x called) (run_of (pass_view p)) p.share
      rests = record { share = x.rest.share; over = all_over (layout_in p) _ p.number.0 p.share p.share.next_node p.share.next_scx x.rest.share x.rest.over }

      -- what it has spent
      pub dict_spends : HasSpentAtMost (pass_view p) now (call_in m.run) m.tries
      dict_spends =
          let z = y.answers.spent in
          let tried : ℕ = tries_since p.number.0 (run_of now) (run_of (pass_view p)) in
          let whole : z.left ≡ p.share = one_share (call_of p x called) (run_of (pass_view p)) z.left p.share (sym z.end ∙ end) z.first rests in
          record {
            tried = z.tried;
            nodes = subst (λ (r : Remaining). r.nodes ≤ (share_of m.run).nodes + most_nodes (call_in m.run) * tried) whole z.nodes;
            scx = subst (λ (r : Remaining). r.scx ≤ (share_of m.run).scx + most_scx (call_in m.run) tried) whole z.scx;
            each = subst (λ (r : Remaining). r.nodes + most_nodes (call_in m.run) * (share_of m.run).scx ≤ (share_of m.run).nodes + most_nodes (call_in m.run) * r.scx) whole z.each;
            gone_nodes = share_nodes (layout_in p) p.number.0 (run_of now) (run_of (pass_view p)) p.share (share_of m.run) y.since end x.rest.share rest.share;
            gone_scx = share_scx (layout_in p) p.number.0 (run_of now) (run_of (pass_view p)) p.share (share_of m.run) y.since end x.rest.share rest.share;
            end_nodes = (one_end (share_of m.run) p.share end).0;
            end_scx = (one_end (share_of m.run) p.share end).1;
          }

      -- what it answers
      pub dict_tells : IsToldOf (pass_view p) now (call_in m.run) (told_of key value_word reply)
      dict_tells = go (told_of key value_word reply) y.answers.tells
        where
          go : (told : Option MapReply) → TellsOfMap (call_of p x called) (run_of now) (call_in m.run) told → IsToldOf (pass_view p) now (call_in m.run) told
          go None z = tt
          go (Some told) z = told_says (pass_view p) x.is_pass called refl s.table_id (share_of m.run) (planting_of s.me.0.passes) (known_of s.me.0.passes) (blamed_by_reply reply p.blamed) map_run y.since end (call_in m.run) told rests y.answers.rests z

      -- why it answers nothing
      pub dict_refuses : IsRefusalOf m.tries (pass_view p) now (call_in m.run) reply
      dict_refuses = go reply y.answers.refuses
        where
          go : (r : Reply K V) → DictRefuses (call_of p x called) (run_of now) (call_in m.run) (share_of m.run) m.tries r → IsRefusalOf m.tries (pass_view p) now (call_in m.run) r
          go (replies.Value v) z = tt
          go (replies.Pair v) z = tt
          go (replies.Pairs v) z = tt
          go (replies.Full f) z = full_says (pass_view p) x.is_pass called refl s.table_id (share_of m.run) (planting_of s.me.0.passes) (known_of s.me.0.passes) (blamed_by_reply reply p.blamed) map_run y.since end (call_in m.run) f rests z
          go replies.NoMemory z = (z.0, nothing_says (pass_view p) x.is_pass called refl s.table_id (share_of m.run) (planting_of s.me.0.passes) (known_of s.me.0.passes) (blamed_by_reply reply p.blamed) map_run y.since end z.1)
          go (replies.Contended n u) z = lost_says (pass_view p) x.is_pass called refl s.table_id (share_of m.run) (planting_of s.me.0.passes) (known_of s.me.0.passes) (blamed_by_reply reply p.blamed) map_run y.since end m.tries (call_in m.run) n.0 u.0 z
