-- From place to place of a machine that is called inside another's call.
use Rattle.std.proofs.Common.{◌≡◌, ℕ, List, Option, refl, subst}
use Rattle.histories.specs.Common.{Layout, Turn, Ask, Done, Step, History, ◌⊳◌, IsWord, Call, IsRun, MatchTurn, row_of}
use Rattle.tables.specs.declared.view.SeatedPass.{SeatedPass}
use Rattle.straight.specs.CallKinds.{Calls}
use Rattle.straight.specs.Hosts.{InnerCall, Host, HostedEnds, HostedStands, HostedWaits}
use Rattle.tables.specs.Traces.{Ends, HoldsForCall, Stands, Trace, goes_on}
use Rattle.straight.proofs.Advances.{called_so, word_of}

-- given what its step has found, or nothing yet, it is as its turn says
pub told_on : {M N A : Type 0} {o : Calls M} {i : InnerCall N A} (k : Host o i) (ps : List SeatedPass) (m now : N) (got : Option ℕ) (turn : Turn A) → MatchTurn turn (λ _. i.goes m now) (λ _. i.ends m now) → ((h : History) → IsRun i.allows k.call.layout h → i.ready m k.call h got → MatchTurn turn (i.waits now k.call h) (i.answers now k.call h))
    → HoldsForCall o.allows (o.left_dealt k.first) ps k.call (λ h. o.ready (k.with_run m) k.call h got × Trace o.allows o.waits o.same k.call k.first (k.with_run m) h) → HostedStands k ps now turn
told_on k ps m now got (Ask s) goes next x = record { planting = x.planting; known = x.known; is = x.is; sound = x.sound; so = (k.turns m now _ got s goes x.so.0 (next _ (k.runs _ x.sound) (k.tells m _ got x.so.0)), goes_on (k.with_run m) (k.stays m now goes) x.so.1) }
told_on k ps m now got (Done a) goes next x = record { planting = x.planting; known = x.known; is = x.is; sound = x.sound; so = record { old = m; got = got; was = x.so.0; goes = goes; answers = next _ (k.runs _ x.sound) (k.tells m _ got x.so.0); course = x.so.1 } }

-- the word of the step for which it waits is one of the table
pub hosted_word : {M N A : Type 0} {o : Calls M} {i : InnerCall N A} (k : Host o i) (ps : List SeatedPass) → ((m : M) (c : Call) (h : History) (s : Step) → IsRun o.allows c.layout h → o.waits m c h s → IsRun o.allows c.layout (row_of c s h ⊳ h)) → (m : N) (s : Step) → HostedWaits k ps m s → IsWord o.layout s.word
hosted_word k ps lawful m s x = subst (λ (l : Layout). IsWord l s.word) k.is_layout (word_of _ k.call record { call = k.call.number; step = s } refl ps _ (λ h. lawful (k.with_run m) k.call h s) (called_so x))

-- what is so whatever the turn is
pub either_turn : {A : Type 0} (turn : Turn A) {P : Type 0} → P → MatchTurn turn (λ _. P) (λ _. P)
either_turn (Ask s) x = x
either_turn (Done a) x = x

-- what a machine's own call says of it, inside which nothing else is called
abbrev pub own_call : {M A : Type 0} → Calls M → (M → Call → History → A → Type 0) → InnerCall M A
own_call o answers = record { allows = o.allows; ready = o.ready; waits = o.waits; answers = answers; goes = o.same; ends = o.same }

module _ {M A : Type 0} (o : Calls M) (answers : M → Call → History → A → Type 0) (c : Call) (is_layout : c.layout ≡ o.layout) (is_number : c.number ≡ o.number) (first : M) where
  -- a call hosts its own machine
  abbrev pub own : Host o (own_call o answers)
  own = record {
    call = c;
    is_layout = is_layout;
    is_number = is_number;
    runs = λ h run. run;
    first = first;
    with_run = λ m. m;
    opens = λ m h s x. x;
    tells = λ m h got x. x;
    turns = λ old now h got s goes x w. w;
    stays = λ old now goes. goes;
  }

  -- as its machine is, the call is
  pub own_ends : (ps : List SeatedPass) (m : M) (a : A) → HostedEnds own ps m a → Ends o.allows o.waits o.same o.left_dealt c ps first answers m a
  own_ends ps m a x = record { planting = x.planting; known = x.known; is = x.is; sound = x.sound; so = (x.so.answers, goes_on x.so.old x.so.goes x.so.course) }

  pub own_stands : (ps : List SeatedPass) (m : M) (turn : Turn A) → HostedStands own ps m turn → Stands o.allows o.waits o.same o.left_dealt c ps first answers m turn
  own_stands ps m (Ask s) x = x
  own_stands ps m (Done a) x = own_ends ps m a x
