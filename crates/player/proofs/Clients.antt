-- What a client's machine leaves of what it has.
use Rattle.std.proofs.Common.{◌≡◌, ℕ, ◌+◌, ◌<◌, ◌≤◌, List, length, Option, Some, None, refl, sym, ◌∙◌, ap, subst, arith}
use Rattle.histories.specs.Common.{Layout, taken_nodes, Side, Step, Remaining, History}
use Rattle.dict.specs.Calls.{AsksForPairs}
use Rattle.record.specs.Common.{Command, Llx as LlxOf, Scx as ScxOf, Vlx as VlxOf, Set as SetOf, Map as MapOf}
use Rattle.template.specs.Common.{PutRun, LlxRun, Llx as LlxAnswer}
use Rattle.player.specs.declared.run.Run.{Run}
use Rattle.player.specs.declared.run.Run.TheVariants.{Llx, Scx, Vlx, Map}
use Rattle.player.specs.declared.run.Ended.{Ended}
use Rattle.player.specs.declared.run.Ended.TheVariants as ended
use Rattle.player.specs.declared.client.Client.{Client}
use Rattle.player.specs.declared.client.Running.{Running}
use Rattle.player.specs.declared.client.SetField.{SetField}
use Rattle.record.specs.declared.record.Answer.{Answer}
use Rattle.player.specs.RunKnown.{RunWaits, RunAnswers, IsSameMachine, run_mode, share_behind}
use Rattle.template.specs.Balance.{map_mode}
use Rattle.player.specs.RunSteps.{run_left, then_left, left_of}
use Rattle.player.specs.ClientView.{ClientView, Hand, in_hand, snaps_of, IsStart, IsPutOf, IsScxOf, held, HoldsShare, Holds, TakesInHand, HasNewest, IsMachineOf, IsRoomy, MayTryAll, IsWonBy, IsClientState, Works, Hears, Answered, machine_call, GoesOn, HasBeenTold, call_steps}
use Rattle.player.specs.Hearing.{HasAnswered, HasHeard}

-- what does not change while a machine continues
record IsKept (left : Remaining) (old now : Run) : Type 0 where
  hand : in_hand left now ≡ in_hand left old
  newest : HasNewest left old → HasNewest left now
  run_of : (command : Command) (number : ℕ) (then : Option SetField) → IsMachineOf command number old then → IsMachineOf command number now then
  begun : (start begin : History) → IsStart old start begin → IsStart now start begin
  snaps : snaps_of now ≡ snaps_of old
  won : (v : ClientView) (c : ℕ) → IsWonBy v c old → IsWonBy v c now
  room : (v : ClientView) (c : ℕ) → IsRoomy v c old → IsRoomy v c now
  limit : (tries : ℕ) → MayTryAll old tries → MayTryAll now tries
  mode : (lay : Layout) → lay.mode ≡ run_mode old → lay.mode ≡ run_mode now
  holds : (v : ClientView) (c : Client) → Holds v c old → Holds v c now
  took : (v : ClientView) (c : Client) → TakesInHand v c old → TakesInHand v c now

put_same : (a b : PutRun) (number : ℕ) (nodes removed : List ℕ) (field : ℕ × Side) (x : ℕ) → b.scx.update ≡ a.scx.update → b.scx.call ≡ a.scx.call → b.value ≡ a.value → IsPutOf a number nodes removed field x → IsPutOf b number nodes removed field x
put_same a b number nodes removed field x u k w y = record { called = rw k y.called; covers = rw u y.covers; finalizes = rw u y.finalizes; node = rw u y.node; side = rw u y.side; value = rw w y.value }

scx_same : (command : Command) (number : ℕ) (a b : PutRun) (then : Option SetField) → IsSameMachine (Scx a) (Scx b) → IsScxOf command number a then → IsScxOf command number b then
scx_same (ScxOf update) number a b None x y = put_same a b number _ _ _ _ x.1 x.2 x.3 y
scx_same (SetOf field value) number a b None x y = put_same a b number _ _ _ _ x.1 x.2 x.3 y
scx_same (ScxOf update) number a b (Some put) x y = absurd y
scx_same (SetOf field value) number a b (Some put) x y = absurd y
scx_same (LlxOf cell) number a b then x y = absurd y
scx_same (VlxOf cells) number a b then x y = absurd y
scx_same (MapOf request) number a b then x y = absurd y

is_kept : (left : Remaining) (old now : Run) → IsSameMachine old now → IsKept left old now
is_kept left (Llx a) (Llx b) x = record { hand = refl; newest = λ p. p; run_of = λ command number then p. rw x p; begun = λ start begin p. p; snaps = refl; won = λ v c p. p; room = λ v c p. p; limit = λ tries p. p; mode = λ lay e. e; holds = λ v c p. p; took = λ v c p. p }
is_kept left (Scx a) (Scx b) x = record { hand = rw (x.0, x.1) refl; newest = λ p. rw (x.0, x.1) p; run_of = λ command number then p. scx_same command number a b then x p; begun = λ start begin p. p; snaps = rw x.1 refl; won = λ v c p. rw x.0 p; room = λ v c p. rw x.0 p; limit = λ tries p. p; mode = λ lay e. e; holds = λ v c p. rw (x.0, x.1) p; took = λ v c p. rw (x.0, x.1) p }
is_kept left (Vlx a) (Vlx b) x = record { hand = refl; newest = λ p. p; run_of = λ command number then p. rw x p; begun = λ start begin p. p; snaps = rw x refl; won = λ v c p. p; room = λ v c p. p; limit = λ tries p. p; mode = λ lay e. e; holds = λ v c p. p; took = λ v c p. p }
is_kept left (Map a) (Map b) x = record {
  hand = refl;
  newest = λ p. p;
  run_of = λ command number then p. record { request = p.request; is = p.is; called = x.0 ∙ p.called; asks = subst AsksForPairs (sym x.0) p.asks; alone = p.alone };
  begun = λ start begin p. p;
  snaps = refl;
  won = λ v c p. p;
  room = λ v c p. p;
  limit = λ tries p. x.1 ∙ p;
  mode = λ lay e. e ∙ ap map_mode (sym x.2);
  holds = λ v c p. x.3 ∙ p;
  took = λ v c p. p;
}
is_kept left old now x = absurd x

-- what a client has in hand does not ask whether a machine runs
stands_so : (v : ClientView) (c : Client) (running : Option Running) (hand : Hand) → IsClientState v c hand → IsClientState v (record c { running = running }) hand
stands_so v c running hand x = record { is_pass = x.is_pass; tries = x.tries; number = x.number; place = x.place; kept = x.kept; unkept = x.unkept; dropped = x.dropped; free = x.free; trie = x.trie }

-- nor what it holds of its share
so_held : (v : ClientView) (c : Client) (running : Option Running) (hand : Hand) → HoldsShare v c hand → HoldsShare v (record c { running = running }) hand
so_held v c running hand x = record { some = x.some; share = x.share; upper = x.upper; over = x.over }

holds_so : (v : ClientView) (c : Client) (running : Option Running) (run : Run) → Holds v c run → Holds v (record c { running = running }) run
holds_so v c running (Map m) x = x
holds_so v c running run x = so_held v c running _ x

took_so : (v : ClientView) (c : Client) (running : Option Running) (run : Run) → TakesInHand v c run → TakesInHand v (record c { running = running }) run
took_so v c running (Map m) x = x
took_so v c running run x = x

works_so : (v : ClientView) (c : Client) (running : Option Running) (old now : Run) (then : Option SetField) → IsSameMachine old now → Works v c old then → Works v (record c { running = running }) now then
works_so v c running old now then same w =
    let k = is_kept (held c) old now same in
    record {
      mode = k.mode v.layout w.mode;
      stands = rw k.hand (stands_so v c running (in_hand (held c) old) w.stands);
      holds = holds_so v c running now (k.holds v c w.holds);
      newest = k.newest w.newest;
      command = w.command;
      is = w.is;
      run_of = k.run_of w.command c.number then w.run_of;
      limit = k.limit v.tries w.limit;
      is_pass = w.is_pass;
      start = w.start;
      since = w.since;
      begun = k.begun w.start v.start w.begun;
      moments = rw k.snaps w.moments;
      alone = rw k.snaps w.alone;
      room = k.room v c.pass.0 w.room;
      took = took_so v c running now (k.took v c w.took);
      won = k.won v c.pass.0 w.won;
      late = w.late;
    }

-- a machine that asks for a step waits for it, and has fewer steps left
pub goes_on : (v : ClientView) (c : Client) (old now : Run) (then : Option SetField) (step : Step) (w : Works v c old then) → IsSameMachine old now → RunWaits now (machine_call v c w.is_pass w.start) v.past step → ((taken : ℕ) → length (taken_nodes v.past) ≤ taken → v.steps + left_of old then taken ≤ call_steps v w.command taken) → ((taken : ℕ) → length (taken_nodes v.past) ≤ taken → run_left now taken < run_left old taken) → GoesOn v c (record c { running = Some (record { run = now; then = then; step = step }) })
unfolding works_so
goes_on v c old now then step w same waits few nearer = record {
  same = record { pass = refl; number = refl; next = refl };
  begin = refl;
  running = record { run = now; then = then; step = step };
  is = refl;
  waits = record { works = works_so v c (Some (record { run = now; then = then; step = step })) old now then same w; waits = waits; few = λ taken i. let enough = few taken i in let less = nearer taken i in omega arith };
}

-- The answer of a machine

some_same : (p q : Running) → Some p ≡ Some q → p ≡ q
some_same p q e = cc

pub hears_as : (v : ClientView) (c : Client) (q p : Running) (found : ℕ) → Some p ≡ Some q → Hears v c q found → Hears v c p found
hears_as v c q p found e x = rw (some_same p q e) x

pub ended_as : (v : ClientView) (c : Client) (q p : Running) (end : Ended) → Some p ≡ c.running → c.running ≡ Some q → HasAnswered v c q end → HasAnswered v c p end
ended_as v c q p end e d x = rw (some_same p q (e ∙ d)) x

-- a machine that has ended in its place
pub ends_there : (v : ClientView) (c : Client) (q : Running) (now : Run) (end : Ended) (found : ℕ) (x : Hears v c q found) → IsSameMachine q.run now → RunAnswers now (machine_call v c x.works.is_pass x.works.start) v.past end → HasHeard v c (Some (record q { run = now })) (Some end)
unfolding works_so
ends_there v c q now end found x same a =
    let p = record q { run = now } in
    (p, refl, record { works = works_so v c (Some p) q.run now q.then same x.works; answers = a; few = λ taken i. let few = x.few taken i in omega arith })

is_itself : (run : Run) → IsSameMachine run run
is_itself (Llx m) = refl
is_itself (Scx m) = (refl, refl, refl, refl)
is_itself (Vlx m) = refl
is_itself (Map m) = (refl, refl, refl, refl)

-- with its share back, the client is the same
back_so : (v : ClientView) (c : Client) (run : Run) (then : Option SetField) → Works v c run then → Works v (record c { share = share_behind run c.share }) run then
back_so v c (Map m) then w = record {
  mode = w.mode;
  stands = record { is_pass = w.stands.is_pass; tries = w.stands.tries; number = w.stands.number; place = w.stands.place; kept = w.stands.kept; unkept = w.stands.unkept; dropped = w.stands.dropped; free = w.stands.free; trie = w.stands.trie };
  holds = w.holds;
  newest = tt;
  command = w.command;
  is = w.is;
  run_of = w.run_of;
  limit = w.limit;
  is_pass = w.is_pass;
  start = w.start;
  since = w.since;
  begun = w.begun;
  moments = w.moments;
  alone = w.alone;
  room = tt;
  took = w.took;
  won = w.won;
  late = w.late;
}
back_so v c run then w = w

answered_back : (v : ClientView) (c : Client) (run : Run) (then : Option SetField) (end : Ended) (w : Works v c run then) → c.running ≡ None → RunAnswers run (machine_call v c w.is_pass w.start) v.past end → ((taken : ℕ) → length (taken_nodes v.past) ≤ taken → v.steps + then_left then ≤ call_steps v w.command taken) → Answered v (record c { share = share_behind run c.share }) run then end
unfolding back_so
answered_back v c (Map m) then end w none a few = record { works = back_so v c (Map m) then w; none = none; answers = a; back = refl; few = few }
answered_back v c run then end w none a few = record { works = back_so v c run then w; none = none; answers = a; back = refl; few = few }

-- it has answered once it is taken out, with its share back
pub answered_so : (v : ClientView) (c : Client) (p : Running) (end : Ended) (rest : Option Running) (mid : Client) → HasAnswered v c p end → rest ≡ None → mid ≡ record c { running = rest; share = share_behind p.run c.share } → Answered v mid p.run p.then end
unfolding works_so
answered_so v c p end rest mid x e is =
    subst (λ (k : Client). Answered v k p.run p.then end) (sym is)
    (answered_back v (record c { running = rest }) p.run p.then end (works_so v c rest p.run p.run p.then (is_itself p.run) x.works) e x.answers x.few)

-- what is said of an answer does not ask whether a machine ran, nor who had the share
told_so : (v : ClientView) (c new : Client) (rest : Option Running) (share : Option Remaining) (answer : Option Answer) → HasBeenTold v (record c { running = rest; share = share }) new answer → HasBeenTold v c new answer
told_so v c new rest share None x = record { same = record { pass = x.same.pass; number = x.same.number; next = x.same.next }; begin = x.begin; running = x.running; is = x.is; waits = x.waits }
told_so v c new rest share (Some answer) x = record { same = record { pass = x.same.pass; number = x.same.number; next = x.same.next }; begin = x.begin; rests = x.rests; command = x.command; is = x.is; answers = x.answers; right = x.right; entry = x.entry; tells = x.tells; took = x.took; late = x.late }

pub told_from : (v : ClientView) (c mid new : Client) (rest : Option Running) (share : Option Remaining) (answer : Option Answer) → mid ≡ record c { running = rest; share = share } → HasBeenTold v mid new answer → HasBeenTold v c new answer
told_from v c mid new rest share answer is x = told_so v c new rest share answer (subst (λ (k : Client). HasBeenTold v k new answer) is x)

-- what a machine has answered shows which machine it was
pub after_run : (v : ClientView) (c new : Client) (run : Run) (then : Option SetField) (end : Ended) (a : LlxAnswer) (answer : Option Answer) → end ≡ ended.Llx a → Answered v c run then end → ((m : LlxRun) → Answered v c (Llx m) then (ended.Llx a) → HasBeenTold v c new answer) → HasBeenTold v c new answer
after_run v c new run then end a answer e x f = go run (subst (λ t. Answered v c run then t) e x)
  where
    go : (run : Run) → Answered v c run then (ended.Llx a) → HasBeenTold v c new answer
    go (Llx m) y = f m y
    go run y = absurd y.answers
