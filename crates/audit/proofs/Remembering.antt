-- What is remembered of the steps stays what the lines say.
use Rattle.std.proofs.Common.{◌≡◌, ◌≢◌, ℕ, suc, ◌^◌, ◌<◌, Bool, true, false, cond, ◌||◌, eq-eqb, is_some, IsSome, IfSome, IfNone, unwrap_or, List, ◌∷◌, length, set, Option, Some, None, slice_get, refl, sym, ◌∙◌, ap, subst}
use Rattle.std.proofs.Common.{arith, ne_eqb, length-set}
use Rattle.std.proofs.lemmas.Option.{slice_get_within}
use native.Mathlib.Decide.{ℕ_discrete}
use Rattle.histories.specs.Common.{Layout, PassNo, ScxNo, Row, Side, IsInProgress, History, ◌⊳◌, Extends, IsLawful, entry, log, is_final, child}
use Rattle.arena.proofs.Lemmas.{ends_self}
use Rattle.record.specs.Common.{CellList, Call, Command, Vlx, cells_of, commands, next_command, linked, HasNodesLeft, HasScxLeft, history, begin, start, answered}
use Rattle.record.specs.declared.record.Entry.{Entry}
use Rattle.record.specs.declared.record.Finished.{Finished}
use Rattle.record.specs.declared.record.Line.{Line}
use Rattle.record.specs.declared.record.Line.TheVariants.{Step, Log, Reply as ReplyLine}
use Rattle.record.specs.declared.record.TurnRow.TheVariants.{Step as Made, Idle}
use Rattle.record.specs.CommandRules.{linked_then}
use Rattle.judge.specs.Histories.{seen_history}
use Rattle.record.proofs.Lemmas.{start_unbegun, start_kept, get_other, get_there}
use Rattle.audit.specs.declared.client.ClientState.{ClientState}
use Rattle.audit.specs.declared.memory.Memory.{Memory}
use Rattle.audit.specs.declared.steps.Steps.{Steps}
use Rattle.audit.specs.After.{IsClientAfter}
use Rattle.audit.specs.Calls.{command_at}
use Rattle.audit.specs.CellCalls.{AreSameAt}
use Rattle.audit.specs.Remembered.{row_count, AreSnapshotsOf, IsBegunWith, IsKept, AreStepsOf, IsMemoryOf, AreRemembered, AreRememberedInCall}
use Rattle.audit.specs.Remembering.{IsNoted, IsRememberedFinal}
use Rattle.audit.proofs.CountedTries.{no_tries}
use Rattle.audit.proofs.NextCalls.{command_next}
use Rattle.audit.proofs.Noted.{set_own, IsNewFinal, AreMore, steps_more, kept_more, kept_own, same_log_finals, same_log_stays, won_stays, won_finals}

-- a call that had begun, or begins now
abbrev IsBegunOf : Layout → List Call → List Line → ℕ → Memory → Type 0
IsBegunOf lay calls lines c memory = IsBegunWith lay (history lay.mode lines) (start lay.mode lines c) (linked calls lay.mode lines c) (next_command calls lines c) c memory

-- a call that begins now
pub begun_with : (lay : Layout) (calls : List Call) (lines : List Line) (c : ℕ) (all : Steps) (memory : Memory) → AreStepsOf lay (history lay.mode lines) all → begin lines c ≡ None → memory.begun ≡ all.count → HasNodesLeft all.judge.layout c (seen_history all.judge) memory.nodes → HasScxLeft all.judge.layout c (seen_history all.judge) memory.scx → memory.tries.many ≡ 0 → ((cells : CellList) → next_command calls lines c ≡ Some (Vlx cells) → AreSameAt all.judge.layout (seen_history all.judge) (linked calls lay.mode lines c) (cells_of cells) memory.same) → IsBegunOf lay calls lines c memory
begun_with lay calls lines c all memory x unbegun count nodes scx none same = record {
  begun = count ∙ x.count ∙ ap row_count (sym moment);
  within = subst (λ (k : History). Extends (history lay.mode lines) k) (sym moment) (ends_self (history lay.mode lines));
  nodes = at (λ l k. HasNodesLeft l c k memory.nodes) nodes;
  scx = at (λ l k. HasScxLeft l c k memory.scx) scx;
  tries = no_tries (history lay.mode lines) (start lay.mode lines c) c memory.tries moment none;
  same = λ cells e. at (λ l k. AreSameAt l k (linked calls lay.mode lines c) (cells_of cells) memory.same) (same cells e);
}
  where
    moment : start lay.mode lines c ≡ history lay.mode lines
    moment = start_unbegun lay.mode lines c unbegun

    at : (P : Layout → History → Type 0) → P all.judge.layout (seen_history all.judge) → P lay (start lay.mode lines c)
    at P p = subst (λ (k : History). P lay k) (x.is_seen ∙ sym moment) (subst (λ (l : Layout). P l (seen_history all.judge)) x.layout p)

module _ (lay : Layout) (calls : List Call) (lines : List Line) (all : Steps) where
  -- an entry changes nothing of it
  pub log_remembered : (e : Entry) → AreRemembered lay calls lines all → AreRemembered lay calls (Log e ∷ lines) all
  log_remembered e x = record {
    steps = x.steps;
    memories = λ c m get. let y = x.memories c m get in record { begins = y.begins; looks = y.looks; freezes = y.freezes; snapshots = y.snapshots };
  }

  -- where a call has begun, a turn that makes no step changes nothing of it
  pub idle_remembered : (number : ℕ) (pass : PassNo) → AreRememberedInCall lay calls lines pass.0 all → AreRemembered lay calls (Step (Idle number pass) ∷ lines) all
  idle_remembered number pass x = record {
    steps = x.remembered.steps;
    memories = λ c m get. go c m get (ℕ_discrete pass.0 c);
  }
    where
      go : (c : ℕ) (m : Memory) → slice_get all.memories.items c ≡ Some m → Dec (pass.0 ≡ c) → IsMemoryOf lay calls (Step (Idle number pass) ∷ lines) c m
      go c m get (yes e) =
          let y = x.remembered.memories c m get in
          let b : IsBegunOf lay calls lines c m = subst (λ (k : ℕ). slice_get all.memories.items k ≡ Some m → IsBegunOf lay calls lines k m) e (x.begun m) get in
          record {
            begins = λ some. subst (λ (t : Bool). IsBegunWith lay (history lay.mode lines) (cond (t || is_some (begin lines c)) (start lay.mode lines c) (history lay.mode lines)) (linked calls lay.mode lines c) (next_command calls lines c) c m) (sym (eq-eqb pass.0 c e)) b;
            looks = y.looks;
            freezes = y.freezes;
            snapshots = y.snapshots;
          }
      go c m get (no d) =
          let y = x.remembered.memories c m get in
          let same : begin (Step (Idle number pass) ∷ lines) c ≡ begin lines c = ap (λ (t : Bool). cond t (Some (unwrap_or (begin lines c) number)) (begin lines c)) (ne_eqb pass.0 c d) in
          let moment : start lay.mode (Step (Idle number pass) ∷ lines) c ≡ start lay.mode lines c = ap (λ (t : Bool). cond (t || is_some (begin lines c)) (start lay.mode lines c) (history lay.mode lines)) (ne_eqb pass.0 c d) ∙ start_kept lay.mode lines c in
          record {
            begins = λ some. subst (λ (at : History). IsBegunWith lay (history lay.mode lines) at (linked calls lay.mode lines c) (next_command calls lines c) c m) (sym moment) (y.begins (subst (λ (o : Option ℕ). IsSome o) same some));
            looks = y.looks;
            freezes = y.freezes;
            snapshots = y.snapshots;
          }

-- A step that is made

-- it has added an entry of this SCX-record
abbrev pub IsWonBy : Layout → History → Row → ScxNo → Type 0
IsWonBy lay h row s = (n : ℕ) × (side : Side) × (row.word ≡ child n side) × (log lay (row ⊳ h) ≡ entry lay h s.0 n side row.after ∷ log lay h)

-- which nodes it has made final, by what was noted
module _ (lay : Layout) (h : History) (r : Row) (old new : Steps) (x : AreStepsOf lay h old) where
  abbrev AreWonNoted : Option ScxNo → Type 0
  AreWonNoted winner = (s : ScxNo) → winner ≡ Some s → (n rows : ℕ) → slice_get new.finals.items n ≡ Some rows → IsRememberedFinal lay (r ⊳ h) s.0 4 (suc (row_count h)) (slice_get old.finals.items n) n rows

  pub finals_made : (winner : Option ScxNo) → IfSome winner (λ s. IsWonBy lay h r s) → IfNone winner (log lay (r ⊳ h) ≡ log lay h) → (winner ≡ None → new.finals.items ≡ old.finals.items) → AreWonNoted winner → (n after : ℕ) → slice_get new.finals.items n ≡ Some after → (before : ℕ) × (slice_get old.finals.items n ≡ Some before) × IsNewFinal lay (r ⊳ h) (suc (row_count h)) n before after
  finals_made None some none same noted = same_log_finals lay h r old new none x (same refl)
  finals_made (Some s) some none same noted = won_finals lay h r s.0 some.0 some.1 some.2 some.3 old new x (noted s refl)

  pub finals_stay : (winner : Option ScxNo) → IfSome winner (λ s. IsWonBy lay h r s) → IfNone winner (log lay (r ⊳ h) ≡ log lay h) → (n : ℕ) → is_final (log lay h) n ≡ true → is_final (log lay (r ⊳ h)) n ≡ true
  finals_stay None some none = same_log_stays lay h r none
  finals_stay (Some s) some none = won_stays lay h r s.0 some.0 some.1 some.2 some.3

-- an SCX-record that a step ends was in progress
pub ended : (ends : Option ScxNo) (s : ℕ) (h : History) → IfSome ends (λ t. IsInProgress h t.0) → IfSome ends (λ t. t.0 ≡ s) → IsSome ends → IsInProgress h s
ended None s h running is some = absurd (let z : false ≡ true = some in cc)
ended (Some t) s h running is some = subst (λ (k : ℕ). IsInProgress h k) is running

pub final_as : (l lay : Layout) (k h : History) (a b : ℕ) (xs ys : List ℕ) (s n rows : ℕ) → l ≡ lay → k ≡ h → a ≡ b → xs ≡ ys → IsRememberedFinal l k s 4 a (slice_get xs n) n rows → IsRememberedFinal lay h s 4 b (slice_get ys n) n rows
final_as l lay k h a b xs ys s n rows e f g i z = subst (λ (q : List ℕ). IsRememberedFinal lay h s 4 b (slice_get q n) n rows) i (subst (λ (q : ℕ). IsRememberedFinal lay h s 4 q (slice_get xs n) n rows) g (subst (λ (q : History). IsRememberedFinal lay q s 4 a (slice_get xs n) n rows) f (subst (λ (q : Layout). IsRememberedFinal q k s 4 a (slice_get xs n) n rows) e z)))

pub noted_as : (l lay : Layout) (k h : History) (a b : ℕ) (row : Row) (old new : Memory) → l ≡ lay → k ≡ h → a ≡ b → IsNoted l k a row old new → IsNoted lay h b row old new
noted_as l lay k h a b row old new e f g z = subst (λ (q : ℕ). IsNoted lay h q row old new) g (subst (λ (q : History). IsNoted lay q a row old new) f (subst (λ (q : Layout). IsNoted q k a row old new) e z))

-- what is remembered of a client after a step, by whether the step is its own
abbrev KeptIf : Layout → List Call → List Line → ℕ → Row → Bool → ℕ → Memory → Type 0
KeptIf lay calls lines number row b c m = IsKept lay (row ⊳ history lay.mode lines) (cond (b || is_some (begin lines c)) (start lay.mode lines c) (row ⊳ history lay.mode lines)) (linked calls lay.mode lines c) (cond b (Some (unwrap_or (begin lines c) number)) (begin lines c)) (next_command calls lines c) c m

pub made_remembered : (lay : Layout) (calls : List Call) (lines : List Line) (number : ℕ) (row : Row) (old new : Steps) → AreRememberedInCall lay calls lines row.pass.0 old → IsLawful lay (history lay.mode lines) row → suc (row_count (history lay.mode lines)) < 2 ^ 64 → AreMore lay (history lay.mode lines) row old new → ((c : ℕ) → (c ≡ row.pass.0 → ⊥) → slice_get new.memories.items c ≡ slice_get old.memories.items c) → ((m : Memory) → slice_get new.memories.items row.pass.0 ≡ Some m → (before : Memory) × (slice_get old.memories.items row.pass.0 ≡ Some before) × IsNoted lay (row ⊳ history lay.mode lines) (suc (row_count (history lay.mode lines))) row before m) → AreRemembered lay calls (Step (Made number row) ∷ lines) new
made_remembered lay calls lines number row old new x lawful small more others own = record {
  steps = steps_more lay (history lay.mode lines) row old new x.remembered.steps more;
  memories = λ c m get. go c m get (ℕ_discrete row.pass.0 c);
}
  where
    -- of a client whose call has begun the start stays
    if_begun : (c : ℕ) (m : Memory) (o : Option ℕ) → IsKept lay (row ⊳ history lay.mode lines) (start lay.mode lines c) (linked calls lay.mode lines c) o (next_command calls lines c) c m → IsKept lay (row ⊳ history lay.mode lines) (cond (is_some o) (start lay.mode lines c) (row ⊳ history lay.mode lines)) (linked calls lay.mode lines c) o (next_command calls lines c) c m
    if_begun c m (Some k) y = y
    if_begun c m None y = record { begins = λ some. absurd (let z : false ≡ true = some in cc); looks = y.looks; freezes = y.freezes; snapshots = y.snapshots }

    other : (c : ℕ) (m : Memory) → (row.pass.0 ≡ c → ⊥) → slice_get new.memories.items c ≡ Some m → KeptIf lay calls lines number row false c m
    other c m d get =
        let there : slice_get old.memories.items c ≡ Some m = sym (others c (λ e. d (sym e))) ∙ get in
        if_begun c m (begin lines c) (kept_more lay (history lay.mode lines) row (start lay.mode lines c) (linked calls lay.mode lines c) (next_command calls lines c) c (begin lines c) m d (x.remembered.memories c m there))

    mine : (c : ℕ) (m : Memory) → row.pass.0 ≡ c → slice_get new.memories.items c ≡ Some m → KeptIf lay calls lines number row true c m
    mine c m e get = subst (λ (k : ℕ). slice_get new.memories.items k ≡ Some m → KeptIf lay calls lines number row true k m) e here get
      where
        here : slice_get new.memories.items row.pass.0 ≡ Some m → KeptIf lay calls lines number row true row.pass.0 m
        here get =
            let z = own m get in
            kept_own lay (history lay.mode lines) row (start lay.mode lines row.pass.0) (linked calls lay.mode lines row.pass.0) (next_command calls lines row.pass.0) row.pass.0 (begin lines row.pass.0) (Some (unwrap_or (begin lines row.pass.0) number)) z.0 m lawful small refl (x.begun z.0 z.1) (x.remembered.memories row.pass.0 z.0 z.1) z.2

    go : (c : ℕ) (m : Memory) → slice_get new.memories.items c ≡ Some m → Dec (row.pass.0 ≡ c) → IsMemoryOf lay calls (Step (Made number row) ∷ lines) c m
    go c m get (yes e) = subst (λ (b : Bool). KeptIf lay calls lines number row b c m) (sym (eq-eqb row.pass.0 c e)) (mine c m e get)
    go c m get (no d) = subst (λ (b : Bool). KeptIf lay calls lines number row b c m) (sym (ne_eqb row.pass.0 c d)) (other c m d get)

-- One memory is put in the place of another

module _ (old new : Steps) (pass : ℕ) (memory : Memory) (same : new ≡ record old { memories = new.memories }) (put : new.memories.items ≡ set old.memories.items pass memory) where
  pub steps_put : (lay : Layout) (h : History) → AreStepsOf lay h old → AreStepsOf lay h new
  steps_put lay h x = subst (λ (s : Steps). AreStepsOf lay h s) (sym same) record {
    layout = x.layout;
    is_seen = x.is_seen;
    count = x.count;
    all_until = x.all_until;
    until = x.until;
    all_finals = x.all_finals;
    finals = x.finals;
    finals_within = x.finals_within;
    all_memories = ap length put ∙ length-set old.memories.items pass memory ∙ x.all_memories;
  }

  put_other : (c : ℕ) → c ≢ pass → slice_get new.memories.items c ≡ slice_get old.memories.items c
  put_other c d = ap (λ (ms : List Memory). slice_get ms c) put ∙ get_other old.memories.items pass c memory d

  -- it is put where one was
  put_own : (m : Memory) → slice_get new.memories.items pass ≡ Some m → (m ≡ memory) × ((before : Memory) × (slice_get old.memories.items pass ≡ Some before))
  put_own m get =
      let there : slice_get (set old.memories.items pass memory) pass ≡ Some m = ap (λ (ms : List Memory). slice_get ms pass) (sym put) ∙ get in
      let within = slice_get_within (set old.memories.items pass memory) pass m there in
      let many = length-set old.memories.items pass memory in
      (set_own old.memories.items pass memory m there, get_there old.memories.items pass (omega arith))

  -- what is known of the new one, from the one before it, is so of all
  memories_put : (P Q : ℕ → Memory → Type 0) → ((c : ℕ) (m : Memory) → slice_get old.memories.items c ≡ Some m → P c m) → ((c : ℕ) (m : Memory) → c ≢ pass → P c m → Q c m) → ((before : Memory) → slice_get old.memories.items pass ≡ Some before → P pass before → Q pass memory) → (c : ℕ) (m : Memory) → slice_get new.memories.items c ≡ Some m → Q c m
  memories_put P Q x others own c m get = go (ℕ_discrete c pass)
    where
      go : Dec (c ≡ pass) → Q c m
      go (no d) = others c m d (x c m (sym (put_other c d) ∙ get))
      go (yes e) = subst (λ (k : ℕ). slice_get new.memories.items k ≡ Some m → Q k m) (sym e) here get
        where
          here : slice_get new.memories.items pass ≡ Some m → Q pass m
          here q = let z = put_own m q in subst (λ (k : Memory). Q pass k) (sym z.0) (own z.1.0 z.1.1 (x pass z.1.0 z.1.1))

  -- the start of a call
  pub begun_remembered : (lay : Layout) (calls : List Call) (lines : List Line) → AreRemembered lay calls lines old → ((before : Memory) → slice_get old.memories.items pass ≡ Some before → memory ≡ record before { begun = memory.begun; nodes = memory.nodes; scx = memory.scx; tries = memory.tries; same = memory.same }) → (pass < length old.memories.items → IsBegunOf lay calls lines pass memory) → AreRememberedInCall lay calls lines pass new
  begun_remembered lay calls lines x rest begun = record {
    remembered = record {
      steps = steps_put lay (history lay.mode lines) x.steps;
      memories = memories_put (IsMemoryOf lay calls lines) (IsMemoryOf lay calls lines) x.memories (λ c m d y. y) own;
    };
    begun = λ m get. let z = put_own m get in subst (λ (k : Memory). IsBegunOf lay calls lines pass k) (sym z.0) (begun (slice_get_within old.memories.items pass z.1.0 z.1.1));
  }
    where
      own : (before : Memory) → slice_get old.memories.items pass ≡ Some before → IsMemoryOf lay calls lines pass before → IsMemoryOf lay calls lines pass memory
      own before there y =
          let is = rest before there in
          let b = begun (slice_get_within old.memories.items pass before there) in
          record {
            begins = λ some. b;
            looks = λ look e. y.looks look (sym (ap (λ (k : Memory). k.look) is) ∙ e);
            freezes = λ look e. y.freezes look (sym (ap (λ (k : Memory). k.freeze) is) ∙ e);
            snapshots = λ n kept e. y.snapshots n kept (sym (ap (λ (k : Memory). slice_get k.snapshots n) is) ∙ e);
          }

-- A reply

-- what is remembered of a client after a reply, by whether the reply is its own
abbrev RepliedIf : Layout → List Call → List Line → Finished → Bool → ℕ → Memory → Type 0
RepliedIf lay calls lines reply b c m = IsKept lay (history lay.mode lines) (cond b (history lay.mode lines) (start lay.mode lines c)) (λ n. cond b (linked_then (next_command calls lines c) reply.answer (history lay.mode lines) n (linked calls lay.mode lines c n)) (linked calls lay.mode lines c n)) (cond b None (begin lines c)) (slice_get (commands calls c) (cond b (suc (answered lines c)) (answered lines c))) c m

pub replied : (lay : Layout) (calls : List Call) (lines : List Line) (reply : Finished) (c : ℕ) (m : Memory) → (c ≡ reply.client.0 → ⊥) → IsMemoryOf lay calls lines c m → IsMemoryOf lay calls (ReplyLine reply ∷ lines) c m
replied lay calls lines reply c m d y = subst (λ (b : Bool). RepliedIf lay calls lines reply b c m) (sym (ne_eqb reply.client.0 c (λ e. d (sym e)))) y

pub replied_own : (lay : Layout) (calls : List Call) (lines : List Line) (reply : Finished) (before m : Memory) → IsMemoryOf lay calls lines reply.client.0 before → m ≡ record before { snapshots = m.snapshots } → AreSnapshotsOf lay (history lay.mode lines) m (λ n. linked_then (next_command calls lines reply.client.0) reply.answer (history lay.mode lines) n (linked calls lay.mode lines reply.client.0 n)) → IsMemoryOf lay calls (ReplyLine reply ∷ lines) reply.client.0 m
replied_own lay calls lines reply before m y is kept = subst (λ (b : Bool). RepliedIf lay calls lines reply b reply.client.0 m) (sym (eq-eqb reply.client.0 reply.client.0 refl)) here
  where
    here : RepliedIf lay calls lines reply true reply.client.0 m
    here = record {
      begins = λ some. absurd (let z : false ≡ true = some in cc);
      looks = λ look e. y.looks look (sym (ap (λ (k : Memory). k.look) is) ∙ e);
      freezes = λ look e. y.freezes look (sym (ap (λ (k : Memory). k.freeze) is) ∙ e);
      snapshots = kept;
    }

-- the command of a client is its next one
pub next_is : (lay : Layout) (calls : List Call) (lines : List Line) (client : ClientState) → IsClientAfter lay calls lines client.pass.0 client → next_command calls lines client.pass.0 ≡ command_at calls client.at
next_is lay calls lines client x = ap (λ (n : ℕ). slice_get (commands calls client.pass.0) n) (sym x.answered) ∙ sym (command_next calls client.pass.0 client.answered client.at x.place)

module _ (lay : Layout) (calls : List Call) (lines : List Line) (reply : Finished) (all : Steps) (x : AreRemembered lay calls lines all) where
  -- a client with no command keeps what it kept
  pub reply_to_none : next_command calls lines reply.client.0 ≡ None → AreRemembered lay calls (ReplyLine reply ∷ lines) all
  reply_to_none none = record {
    steps = x.steps;
    memories = λ c m get. go c m get (ℕ_discrete c reply.client.0);
  }
    where
      own : (m : Memory) → slice_get all.memories.items reply.client.0 ≡ Some m → IsMemoryOf lay calls (ReplyLine reply ∷ lines) reply.client.0 m
      own m get =
          let y = x.memories reply.client.0 m get in
          replied_own lay calls lines reply m m y refl (subst (λ (o : Option Command). AreSnapshotsOf lay (history lay.mode lines) m (λ n. linked_then o reply.answer (history lay.mode lines) n (linked calls lay.mode lines reply.client.0 n))) (sym none) y.snapshots)

      go : (c : ℕ) (m : Memory) → slice_get all.memories.items c ≡ Some m → Dec (c ≡ reply.client.0) → IsMemoryOf lay calls (ReplyLine reply ∷ lines) c m
      go c m get (no d) = replied lay calls lines reply c m d (x.memories c m get)
      go c m get (yes e) = subst (λ (k : ℕ). slice_get all.memories.items k ≡ Some m → IsMemoryOf lay calls (ReplyLine reply ∷ lines) k m) (sym e) (own m) get

  pub reply_to_some : (new : Steps) (memory : Memory) (command : Command) → new ≡ record all { memories = new.memories } → new.memories.items ≡ set all.memories.items reply.client.0 memory → next_command calls lines reply.client.0 ≡ Some command → ((before : Memory) → slice_get all.memories.items reply.client.0 ≡ Some before → memory ≡ record before { snapshots = memory.snapshots }) → ((before : Memory) → slice_get all.memories.items reply.client.0 ≡ Some before → AreSnapshotsOf lay (history lay.mode lines) before (linked calls lay.mode lines reply.client.0) → AreSnapshotsOf lay (history lay.mode lines) memory (λ n. linked_then (Some command) reply.answer (history lay.mode lines) n (linked calls lay.mode lines reply.client.0 n))) → AreRemembered lay calls (ReplyLine reply ∷ lines) new
  reply_to_some new memory command same put is rest kept = record {
    steps = steps_put all new reply.client.0 memory same put lay (history lay.mode lines) x.steps;
    memories = memories_put all new reply.client.0 memory same put (IsMemoryOf lay calls lines) (IsMemoryOf lay calls (ReplyLine reply ∷ lines)) x.memories (λ c m d y. replied lay calls lines reply c m d y) own;
  }
    where
      own : (before : Memory) → slice_get all.memories.items reply.client.0 ≡ Some before → IsMemoryOf lay calls lines reply.client.0 before → IsMemoryOf lay calls (ReplyLine reply ∷ lines) reply.client.0 memory
      own before there y = replied_own lay calls lines reply before memory y (rest before there) (subst (λ (o : Option Command). AreSnapshotsOf lay (history lay.mode lines) memory (λ n. linked_then o reply.answer (history lay.mode lines) n (linked calls lay.mode lines reply.client.0 n))) (sym is) (kept before there y.snapshots))
