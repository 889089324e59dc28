-- What each turn adds while a schedule is followed, and what follows in the end.
use Rattle.std.proofs.Common.{◌≡◌, ◌≢◌, ℕ, zero, suc, ◌+◌, ◌-◌, ◌<◌, ◌≤◌, inl, inr, Bool, true, false, cond, eq-eqb, List, [], ◌∷◌, ◌++◌, append_assoc, length, length-append, drop, get_or, reverse, Option, Some, None, Result, Ok, Err, IfErr, IsErrAnd, OnErr, OnOk, is_some, refl, sym, true≢false, ◌∙◌, ap, subst, arith}
use Rattle.std.proofs.Math.Seq.{drop-cons}
use Rattle.std.proofs.lemmas.List.{reverse-reverse}
use Rattle.std.specs.Int.{from_bool}
use Rattle.histories.specs.Common.{Layout, Kind}
use Rattle.script.specs.Orders.{IsOrder}
use Rattle.record.specs.Common.{Call, Script, next_command, AreLines, IsLawfulRun, answered, client_of, clients, turns}
use Rattle.script.specs.declared.schedule.Order.{Order}
use Rattle.script.specs.declared.schedule.Order.TheVariants.{Step as StepOf, Call as CallOf, Until, Finish}
use Rattle.script.specs.declared.schedule.Schedule.{Schedule}
use Rattle.record.specs.declared.record.Line.{Line}
use Rattle.record.specs.declared.record.Line.TheVariants.{Step, Log, Reply}
use Rattle.record.specs.declared.record.TurnRow.{TurnRow}
use Rattle.record.specs.declared.record.Entry.{Entry}
use Rattle.record.specs.declared.record.Finished.{Finished}
use Rattle.record.specs.OneClient.{AreMadeWhile, HasCall, HasNoCall}
use Rattle.record.specs.Schedules.{AreOrdered, AsksForMore, IsObeyed, IsOrdered, IsRunOf, ordered_client}
use Rattle.record.specs.Turns.{is_of, made}
use Rattle.player.specs.Core.{IsNextTurn, with_lines}
use Rattle.player.specs.Followed.{AreFollowedSoFar, HasFollowed, IsFollowedSoFar, MayTurn, counting, wanted_of}
use Rattle.player.specs.Lines.{with_turn}
use Rattle.player.specs.Player.{IsPlayed, IsTurnMore, PlayerView, ScriptView, script_view}
use Rattle.player.specs.Plays.{TellsTurn}
use Rattle.player.specs.declared.turned.Turned.{Turned}
use Rattle.player.proofs.Played.{turn_in_front}

-- One turn

-- if the turns are one more, no turn is after the newest, and that is the client's
only_turn : (behind : List Line) (row : TurnRow) (lines : List Line) (c : ℕ) → clients (behind ++ Step row ∷ lines) ≡ c ∷ clients lines → (clients behind ≡ []) × (client_of row ≡ c)
only_turn behind row lines c e = only (clients behind) (client_of row) (clients lines) (sym (joined behind) ∙ e)
  where
    joined : (behind : List Line) → clients (behind ++ Step row ∷ lines) ≡ clients behind ++ client_of row ∷ clients lines
    joined [] = refl
    joined (Step r ∷ behind) = ap (λ (l : List ℕ). client_of r ∷ l) (joined behind)
    joined (Log entry ∷ behind) = joined behind
    joined (Reply reply ∷ behind) = joined behind

    only : (newer : List ℕ) (own : ℕ) (older : List ℕ) → newer ++ own ∷ older ≡ c ∷ older → (newer ≡ []) × (own ≡ c)
    only [] own older e = (refl, cc)
    only (x ∷ newer) own older e = absurd (let n : length ((x ∷ newer) ++ own ∷ older) ≡ length (c ∷ older) = ap (λ (l : List ℕ). length l) e in grind (arith, length-append))

-- if a line is among them, there are lines
some_line : (newer : List Line) (line : Line) (older : List Line) → newer ++ line ∷ older ≢ []
some_line [] line older e = cc
some_line (first ∷ newer) line older e = cc

module _ (p q : PlayerView) (c : ℕ) (row : TurnRow) (t : IsTurnMore p q c row) where
  only : (clients t.behind ≡ []) × (client_of row ≡ c)
  only = only_turn t.behind row p.lines c (ap (λ (l : List Line). clients l) (sym t.lines) ∙ t.turns)

  -- it is one turn more of those that were made while the lines were so
  made_while : (so : List Line → Type 0) (older behind : List Line) → AreMadeWhile so c older behind → so (behind ++ older) → AreMadeWhile so c older (t.behind ++ Step row ∷ behind)
  unfolding AreMadeWhile
  made_while so older behind x is = go t.behind only.0
    where
      go : (quiet : List Line) → clients quiet ≡ [] → AreMadeWhile so c older (quiet ++ Step row ∷ behind)
      go [] e = (x, only.1, is)
      go (Step r ∷ quiet) e = absurd cc
      go (Log entry ∷ quiet) e = (go quiet e, some_line quiet (Step row) behind)
      go (Reply reply ∷ quiet) e = (go quiet e, some_line quiet (Step row) behind)

  -- it is one turn
  pub one_more : turns q.lines ≡ turns p.lines + 1
  one_more = ap (λ (l : List Line). turns l) t.lines ∙ go t.behind only.0
    where
      go : (behind : List Line) → clients behind ≡ [] → turns (behind ++ Step row ∷ p.lines) ≡ turns p.lines + 1
      go [] e = omega arith
      go (Step r ∷ behind) e = absurd cc
      go (Log entry ∷ behind) e = go behind e
      go (Reply reply ∷ behind) e = go behind e

  -- one step of a kind more where it made one
  pub kinds_more : (kind : Kind) → made q.lines c kind ≡ made p.lines c kind + from_bool (is_of kind row)
  kinds_more kind = ap (λ (l : List Line). made l c kind) t.lines ∙ quiet t.behind only.0 ∙ rw (eq-eqb (client_of row) c only.1) (go (is_of kind row))
    where
      quiet : (behind : List Line) → clients behind ≡ [] → made (behind ++ Step row ∷ p.lines) c kind ≡ made (Step row ∷ p.lines) c kind
      quiet [] e = refl
      quiet (Step r ∷ behind) e = absurd cc
      quiet (Log entry ∷ behind) e = quiet behind e
      quiet (Reply reply ∷ behind) e = quiet behind e

      go : (is : Bool) → cond is (suc (made p.lines c kind)) (made p.lines c kind) ≡ made p.lines c kind + from_bool is
      go true = omega arith
      go false = omega arith

-- a reply that a turn ends with is its client's
some_same : (a b : ℕ) → Some a ≡ Some b → a ≡ b
some_same a b e = cc

own_reply : (lay : Layout) (tries : ℕ) (calls : List Call) (row : TurnRow) (entry : Option Entry) (reply : Finished) (lines : List Line) → AreLines lay tries calls (with_turn row entry (Some reply) lines) → reply.client.0 ≡ client_of row
unfolding AreLines
own_reply lay tries calls row None reply lines x = some_same reply.client.0 (client_of row) (sym x.1.1.client)
own_reply lay tries calls row (Some entry) reply lines x = some_same reply.client.0 (client_of row) (sym x.1.1.client)

-- it is one reply more where it ends with one
pub replies_more : (p : PlayerView) (i : ℕ) (more : List Line) (t : IsNextTurn p i more) → IsPlayed (with_lines p more) → answered (with_lines p more).lines i ≡ answered p.lines i + from_bool (is_some t.reply)
replies_more p i more t played = ap (λ (l : List Line). answered l i) are ∙ go t.row t.entry t.reply own in_order
  where
    are : (with_lines p more).lines ≡ with_turn t.row t.entry t.reply p.lines
    are = ap (λ (l : List Line). reverse l ++ p.lines) t.lines ∙ turn_in_front t.row t.entry t.reply p.lines

    in_order : AreLines p.script.layout p.script.limits.tries p.script.calls (with_turn t.row t.entry t.reply p.lines)
    in_order = subst (λ (l : List Line). AreLines p.script.layout p.script.limits.tries p.script.calls l) (reverse-reverse (with_lines p more).lines ∙ are) played.in_order

    first_same : (a b : ℕ) (xs : List ℕ) → a ∷ xs ≡ b ∷ xs → a ≡ b
    first_same a b xs e = cc

    turned : (row : TurnRow) (entry : Option Entry) (reply : Option Finished) → clients (with_turn row entry reply p.lines) ≡ client_of row ∷ clients p.lines
    turned row None None = refl
    turned row None (Some reply) = refl
    turned row (Some entry) None = refl
    turned row (Some entry) (Some reply) = refl

    own : client_of t.row ≡ i
    own = first_same (client_of t.row) i (clients p.lines) (sym (ap (λ (l : List Line). clients l) are ∙ turned t.row t.entry t.reply) ∙ t.turns)

    go : (row : TurnRow) (entry : Option Entry) (reply : Option Finished) → client_of row ≡ i → AreLines p.script.layout p.script.limits.tries p.script.calls (with_turn row entry reply p.lines) → answered (with_turn row entry reply p.lines) i ≡ answered p.lines i + from_bool (is_some reply)
    go row None None own x = omega arith
    go row (Some entry) None own x = omega arith
    go row None (Some reply) own x = rw (eq-eqb reply.client.0 i (own_reply p.script.layout p.script.limits.tries p.script.calls row None reply p.lines x ∙ own)) (omega arith)
    go row (Some entry) (Some reply) own x = rw (eq-eqb reply.client.0 i (own_reply p.script.layout p.script.limits.tries p.script.calls row (Some entry) reply p.lines x ∙ own)) (omega arith)

-- An order

-- the lines after the older ones are turns of an order, and this much of it is left
pub record IsPartDone (calls : List Call) (order : Order) (older : List Line) (left : ℕ) (newer : List Line) : Type 0 where
  pub so_far : IsFollowedSoFar calls order older newer
  pub counts : counting order newer + left ≡ counting order older + wanted_of order

-- it asks for a turn where so much is left, and its client may make one
asks_for_more : (calls : List Call) (order : Order) (older lines : List Line) (left : ℕ) → counting order lines + left ≡ counting order older + wanted_of order → left ≤ wanted_of order → 0 < left → MayTurn calls order lines → AsksForMore calls order older lines
asks_for_more calls (StepOf client times) older lines left e few some may = omega (arith, e, some)
asks_for_more calls (CallOf client) older lines left e few some may = (may, omega (arith, e, few, some))
asks_for_more calls (Until client kind times) older lines left e few some may = (may, omega (arith, e, some))
asks_for_more calls (Finish client) older lines left e few some may = may

-- where some turn was made, the first was asked for
unasked : (so : List Line → Type 0) (c : ℕ) (older behind : List Line) → AreMadeWhile so c older behind → ¬ so older → behind ≡ []
unfolding AreMadeWhile
unasked so c older [] x not = refl
unasked so c older (Step row ∷ behind) x not = absurd (not (subst (λ (l : List Line). so (l ++ older)) (unasked so c older behind x.0 not) x.2))
unasked so c older (Log entry ∷ behind) x not = absurd (x.1 (unasked so c older behind x.0 not))
unasked so c older (Reply reply ∷ behind) x not = absurd (x.1 (unasked so c older behind x.0 not))

-- a client that has no call left has none
none_then : (calls : List Call) (c : ℕ) (lines : List Line) → ¬ HasCall calls c lines → HasNoCall calls c lines
none_then calls c lines not = go (is_some (next_command calls lines c)) refl
  where
    go : (b : Bool) → is_some (next_command calls lines c) ≡ b → HasNoCall calls c lines
    go true e = absurd (not e)
    go false e = e

-- nothing is left of an order that asks for no turn
is_obeyed : (calls : List Call) (order : Order) (older newer : List Line) (left : ℕ) → IsPartDone calls order older left newer → left ≤ wanted_of order → ¬ ((0 < left) × MayTurn calls order newer) → IsObeyed calls order older newer
is_obeyed calls (StepOf client times) older newer zero x few over = let e = x.counts in omega (arith, e)
is_obeyed calls (StepOf client times) older newer (suc left) x few over = absurd (over (omega arith, tt))
is_obeyed calls (CallOf client) older newer zero x few over = inl (let e = x.counts in omega (arith, e))
is_obeyed calls (CallOf client) older newer (suc left) x few over = inr (none, same)
  where
    as_many : answered newer client.0 ≡ answered older client.0
    as_many = let e = x.counts in omega (arith, e, few)

    none : HasNoCall calls client.0 older
    none = rw as_many at (none_then calls client.0 newer (λ has. over (omega arith, has)))

    no_turn : x.so_far.behind ≡ []
    no_turn = unasked _ client.0 older x.so_far.behind x.so_far.each (λ asked. true≢false (sym asked.0 ∙ none))

    same : newer ≡ older
    same = x.so_far.lines ∙ ap (λ (l : List Line). l ++ older) no_turn
is_obeyed calls (Until client kind times) older newer zero x few over = inl (let e = x.counts in omega (arith, e))
is_obeyed calls (Until client kind times) older newer (suc left) x few over = inr (none_then calls client.0 newer (λ has. over (omega arith, has)))
is_obeyed calls (Finish client) older newer zero x few over = absurd (let e = x.counts in omega (arith, e))
is_obeyed calls (Finish client) older newer (suc left) x few over = none_then calls client.0 newer (λ has. over (omega arith, has))

module _ (order : Order) (p : PlayerView) where
  -- nothing of it is done yet
  pub none_done : (such : PlayerView → Type 0) (left : ℕ) → left ≡ wanted_of order → such p → HasFollowed p (IsPartDone p.script.calls order p.lines left) such
  unfolding AreMadeWhile
  none_done such left e x = record {
    later = p;
    script = refl;
    asked = record { so_far = record { behind = []; lines = refl; each = tt }; counts = ap (λ (n : ℕ). counting order p.lines + n) e };
    stands = x;
  }

  module _ (such : PlayerView → Type 0) (left : ℕ) (x : HasFollowed p (IsPartDone p.script.calls order p.lines left) such) where
    -- a turn more is made, which counts so much
    pub one_done : (next : PlayerView → Type 0) (count : ℕ) (q : PlayerView) (row : TurnRow) (turned : Turned) → left ≤ wanted_of order → 0 < left → MayTurn x.later.script.calls order x.later.lines → count ≤ 1 → TellsTurn x.later q (ordered_client order) row turned → counting order q.lines ≡ counting order x.later.lines + count → next q → HasFollowed p (IsPartDone p.script.calls order p.lines (left - count)) next
    one_done next count q row turned few some may one told counts stands =
        let t = told.turn in
        let done = x.asked.so_far in
        let so_far = x.asked.counts in
        let asked = asks_for_more p.script.calls order p.lines x.later.lines left so_far few some (rw x.script at may) in
        record {
          later = q;
          script = t.script ∙ x.script;
          asked = record {
            so_far = record {
              behind = t.behind ++ Step row ∷ done.behind;
              lines = t.lines ∙ ap (λ (l : List Line). t.behind ++ Step row ∷ l) done.lines ∙ sym (append_assoc t.behind (Step row ∷ done.behind) p.lines);
              each = made_while x.later q (ordered_client order) row t _ p.lines done.behind done.each (subst (λ (l : List Line). AsksForMore p.script.calls order p.lines l) done.lines asked);
            };
            counts = omega (arith, so_far, few, some, one, counts);
          };
          stands = stands;
        }

    -- it asks for none
    pub all_done : left ≤ wanted_of order → ¬ ((0 < left) × MayTurn x.later.script.calls order x.later.lines) → HasFollowed p (IsOrdered p.script.calls order p.lines) such
    all_done few over =
        let done = x.asked.so_far in
        record {
          later = x.later;
          script = x.script;
          asked = record { behind = done.behind; lines = done.lines; each = done.each; obeyed = is_obeyed p.script.calls order p.lines x.later.lines left x.asked few (rw x.script at over) };
          stands = x.stands;
        }

    -- a fault
    pub stopped : (then : PlayerView → Type 0) → then x.later → HasFollowed p (IsFollowedSoFar p.script.calls order p.lines) then
    stopped then y = record { later = x.later; script = x.script; asked = x.asked.so_far; stands = y }

-- the client of an order is one of them
pub client_within : (passes : ℕ) (order : Order) → IsOrder passes order → ordered_client order < passes
client_within passes (StepOf client times) x = x.0
client_within passes (CallOf client) x = x
client_within passes (Until client kind times) x = x.0
client_within passes (Finish client) x = x

-- Orders

-- whatever the orders that are left mean from here, all mean from the start
pub record IsBetweenOrders (calls : List Call) (orders : List Order) (older : List Line) (left : List Order) (here : List Line) : Type 0 where
  pub ordered : (newer : List Line) → AreOrdered calls left here newer → AreOrdered calls orders older newer
  pub so_far : (newer : List Line) → AreFollowedSoFar calls left here newer → AreFollowedSoFar calls orders older newer

-- the orders from one on
from_here : (orders : List Order) (i : ℕ) (d : Order) → i < length orders → drop i orders ≡ get_or orders i d ∷ drop (i + 1) orders
from_here orders i d less = let next : suc i ≡ i + 1 = omega arith in drop-cons orders i d less ∙ ap (λ (k : ℕ). get_or orders i d ∷ drop k orders) next

module _ (orders : List Order) (p : PlayerView) where
  -- before the first
  pub before_first : (such : PlayerView → Type 0) → such p → HasFollowed p (IsBetweenOrders p.script.calls orders p.lines orders) such
  before_first such x = record { later = p; script = refl; asked = record { ordered = λ newer o. o; so_far = λ newer o. o }; stands = x }

  module _ (such : PlayerView → Type 0) (i : ℕ) (x : HasFollowed p (IsBetweenOrders p.script.calls orders p.lines (drop i orders)) such) where
    module _ (d : Order) (less : i < length orders) (next : PlayerView → Type 0) where
      -- as it is there
      here : IsBetweenOrders p.script.calls orders p.lines (get_or orders i d ∷ drop (i + 1) orders) x.later.lines
      here = subst (λ (left : List Order). IsBetweenOrders p.script.calls orders p.lines left x.later.lines) (from_here orders i d less) x.asked

      -- after the next one
      pub behind_next : HasFollowed x.later (IsOrdered x.later.script.calls (get_or orders i d) x.later.lines) next → HasFollowed p (IsBetweenOrders p.script.calls orders p.lines (drop (i + 1) orders)) next
      behind_next y =
          let obeyed : IsOrdered p.script.calls (get_or orders i d) x.later.lines y.later.lines = rw x.script at y.asked in
          record {
            later = y.later;
            script = y.script ∙ x.script;
            asked = record {
              ordered = λ newer rest. here.ordered newer (y.later.lines, obeyed, rest);
              so_far = λ newer rest. here.so_far newer (inr (y.later.lines, obeyed, rest));
            };
            stands = y.stands;
          }

      -- in the next one
      pub stopped_in_next : HasFollowed x.later (IsFollowedSoFar x.later.script.calls (get_or orders i d) x.later.lines) next → HasFollowed p (AreFollowedSoFar p.script.calls orders p.lines) next
      stopped_in_next y =
          let begun : IsFollowedSoFar p.script.calls (get_or orders i d) x.later.lines y.later.lines = rw x.script at y.asked in
          record { later = y.later; script = y.script ∙ x.script; asked = here.so_far y.later.lines (inl begun); stands = y.stands }

    -- after the last
    pub behind_last : drop i orders ≡ [] → HasFollowed p (AreOrdered p.script.calls orders p.lines) such
    behind_last over = record { later = x.later; script = x.script; asked = x.asked.ordered x.later.lines (rw over refl); stands = x.stands }

-- a whole run
pub run_of : (script : Script) (schedule : Schedule) (such : PlayerView → Type 0) (x : HasFollowed record { script = script_view script; lines = [] } (AreOrdered script.calls.items schedule.orders.items []) such) → IsPlayed x.later → IsRunOf script schedule (reverse x.later.lines)
run_of script schedule such x played = record {
  ordered = rw (reverse-reverse x.later.lines) x.asked;
  lawful = rw (reverse-reverse x.later.lines) (subst (λ (s : ScriptView). IsLawfulRun s.layout s.limits.tries s.calls (reverse (clients x.later.lines)) (reverse x.later.lines)) x.script played);
}

-- what is so of a fault is so if that fault is returned
pub told : {T E : Type 0} (r : Result T E) (fault : E) (so : E → Type 0) → IsErrAnd r (λ e. e ≡ fault) → so fault → IfErr r so
told (Ok t) fault so is holds = absurd is
told (Err e) fault so is holds = rw is holds

-- where what is played is this one, all is so of it
pub so_of_it : (p new : PlayerView) (so : List Line → Type 0) → HasFollowed p so (λ q. new ≡ q) → (new.script ≡ p.script) × so new.lines
so_of_it p new so x = (ap (λ (q : PlayerView). q.script) x.stands ∙ x.script, subst (λ (q : PlayerView). so q.lines) (sym x.stands) x.asked)

-- so what was asked is so of it, or a part of that, if there was a fault
pub so_of_result : {T E : Type 0} (r : Result T E) (p new : PlayerView) (so part : List Line → Type 0) → OnOk r (HasFollowed p so (λ q. new ≡ q)) → IfErr r (λ _. HasFollowed p part (λ q. new ≡ q)) → (new.script ≡ p.script) × OnOk r (so new.lines) × OnErr r (part new.lines)
so_of_result (Ok t) p new so part x y = let z = so_of_it p new so x in (z.0, z.1, tt)
so_of_result (Err e) p new so part x y = let z = so_of_it p new part y in (z.0, tt, z.1)
