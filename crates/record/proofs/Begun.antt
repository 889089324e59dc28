-- What the lines so far say of the calls that run.
use Rattle.std.proofs.Common.{◌≡◌, ℕ, suc, ◌≤◌, Bool, true, false, cond, ◌||◌, eqb, is_some, unwrap_or, List, [], ◌∷◌, Option, Some, None, refl, sym, ◌∙◌, arith}
use Rattle.histories.specs.Common.{Mode, Layout}
use Rattle.record.specs.Common.{Call, client_of, history, turns, begin, start, won, entry_of, AreLines}
use Rattle.record.specs.declared.record.Line.{Line}
use Rattle.record.specs.declared.record.Line.TheVariants.{Step, Log, Reply as ReplyLine}
use Rattle.record.specs.declared.record.TurnRow.{TurnRow}
use Rattle.record.specs.declared.record.TurnRow.TheVariants.{Step as Made, Idle}
use Rattle.record.specs.Turns.{number_of, is_entry_of}
use Rattle.record.specs.Steps.{IsTurn}

-- The begin of a call

-- a call that has not begun would begin now
pub start_unbegun : (mode : Mode) (lines : List Line) (c : ℕ) → begin lines c ≡ None → start mode lines c ≡ history mode lines
start_unbegun mode [] c e = refl
start_unbegun mode (Step row ∷ lines) c e = go (eqb (client_of row) c) (begin lines c) e
  where
    go : (b : Bool) (began : Option ℕ) → cond b (Some (unwrap_or began (number_of row))) began ≡ None → cond (b || is_some began) (start mode lines c) (history mode (Step row ∷ lines)) ≡ history mode (Step row ∷ lines)
    go true began d = cc
    go false (Some k) d = cc
    go false None d = refl
start_unbegun mode (Log entry ∷ lines) c e = start_unbegun mode lines c e
start_unbegun mode (ReplyLine reply ∷ lines) c e = go (eqb reply.client.0 c) e (start_unbegun mode lines c)
  where
    go : (b : Bool) → cond b None (begin lines c) ≡ None → (begin lines c ≡ None → start mode lines c ≡ history mode lines) → cond b (history mode lines) (start mode lines c) ≡ history mode lines
    go true d f = refl
    go false d f = f d

-- a turn without a step of another client leaves the start
pub start_kept : (mode : Mode) (lines : List Line) (c : ℕ) → cond (is_some (begin lines c)) (start mode lines c) (history mode lines) ≡ start mode lines c
start_kept mode lines c = go (begin lines c) refl
  where
    go : (began : Option ℕ) → begin lines c ≡ began → cond (is_some began) (start mode lines c) (history mode lines) ≡ start mode lines c
    go (Some k) e = refl
    go None e = sym (start_unbegun mode lines c e)

-- The numbers of turns

pub some_turn : (a b : ℕ) → Some a ≡ Some b → a ≡ b
some_turn a b e = cc

pub turn_number : (lay : Layout) (tries : ℕ) (calls : List Call) (lines : List Line) (row : TurnRow) → IsTurn lay tries calls lines row → number_of row ≡ suc (turns lines)
turn_number lay tries calls lines (Made n row) x = x.in_turn
turn_number lay tries calls lines (Idle n client) x = x.in_turn

-- a call that has begun has begun in one of the turns so far
pub begin_within : (lay : Layout) (tries : ℕ) (calls : List Call) (lines : List Line) (c k : ℕ) → AreLines lay tries calls lines → begin lines c ≡ Some k → k ≤ turns lines
unfolding AreLines
begin_within lay tries calls [] c k l e = cc
begin_within lay tries calls (Step row ∷ lines) c k l e = go (eqb (client_of row) c) (begin lines c) refl e (begin_within lay tries calls lines c k l.0) (turn_number lay tries calls lines row l.1.1)
  where
    go : (b : Bool) (began : Option ℕ) → begin lines c ≡ began → cond b (Some (unwrap_or began (number_of row))) began ≡ Some k → (begin lines c ≡ Some k → k ≤ turns lines) → number_of row ≡ suc (turns lines) → k ≤ suc (turns lines)
    go false began q d f n = let i = f (q ∙ d) in omega arith
    go true (Some j) q d f n = let i = f (q ∙ d) in omega arith
    go true None q d f n = let same : number_of row ≡ k = some_turn (number_of row) k d in omega arith
begin_within lay tries calls (Log entry ∷ lines) c k l e = begin_within lay tries calls lines c k l.0 e
begin_within lay tries calls (ReplyLine reply ∷ lines) c k l e = go (eqb reply.client.0 c) e (begin_within lay tries calls lines c k l.0)
  where
    go : (b : Bool) → cond b None (begin lines c) ≡ Some k → (begin lines c ≡ Some k → k ≤ turns lines) → k ≤ turns lines
    go true d f = cc
    go false d f = f d

-- so has an update that has won
pub won_within : (lay : Layout) (tries : ℕ) (calls : List Call) (lines : List Line) (c k : ℕ) → AreLines lay tries calls lines → won lay lines c ≡ Some k → k ≤ turns lines
unfolding AreLines
won_within lay tries calls [] c k l e = cc
won_within lay tries calls (Step (Idle number client) ∷ lines) c k l e = let i = won_within lay tries calls lines c k l.0 e in omega arith
won_within lay tries calls (Step (Made number row) ∷ lines) c k l e = go (is_entry_of (entry_of lay lines number row) c) e (won_within lay tries calls lines c k l.0) l.1.1.in_turn
  where
    go : (b : Bool) → cond b (Some number) (won lay lines c) ≡ Some k → (won lay lines c ≡ Some k → k ≤ turns lines) → number ≡ suc (turns lines) → k ≤ suc (turns lines)
    go false d f n = let i = f d in omega arith
    go true d f n = let same : number ≡ k = some_turn number k d in omega arith
won_within lay tries calls (Log entry ∷ lines) c k l e = won_within lay tries calls lines c k l.0 e
won_within lay tries calls (ReplyLine reply ∷ lines) c k l e = go (eqb reply.client.0 c) e (won_within lay tries calls lines c k l.0)
  where
    go : (b : Bool) → cond b None (won lay lines c) ≡ Some k → (won lay lines c ≡ Some k → k ≤ turns lines) → k ≤ turns lines
    go true d f = cc
    go false d f = f d
