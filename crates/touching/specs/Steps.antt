-- Which rows are steps of calls of maps: what a call has come to by them all the way, and what a
-- pass has filled by them.
use Rattle.std.specs.Prelude.{◌≡◌, ◌≢◌, ◌<◌, ◌≤◌, ◌⊎◌, ℕ}
use Rattle.histories.specs.Common.{Layout, Side, NodeWord, ScxWord, New, Member, Fill, Word, Node, Scx, Row, Step, History, ◌⊳◌, Extends, node, scx, child, new, opening_nodes, IsInField, IsTakenNode, IsTakenScx, IsBegin, Call, row_of}
use Rattle.prims.specs.Moments.{AreFinished}
use Rattle.dict.specs.Known.{MapWaits}
use Rattle.dict.specs.declared.run.MapRun.{MapRun}
use Rattle.touching.specs.Touches.{Touches}
use Rattle.touching.specs.Unmarked.{WasUnmarked}

-- the row is a step of the call: a machine of a call of a map waited for it, with so many tries in
-- all
pub record IsMapStep (c : Call) (h : History) (r : Row) : Type 0 where
  pub tries : ℕ
  pub machine : MapRun
  pub step : Step
  pub waits : MapWaits tries machine c h step
  pub is : r ≡ row_of c step h

-- P of each row by which the call's pass has come to a word from the call's start on up to h, and
-- of the history before it
abbrev pub OfEachStep : (Call → History → Row → Type 0) → Call → History → Type 0
OfEachStep P c h = (r : Row) (g : History) → Extends h (r ⊳ g) → Extends g c.start → r.pass.0 ≡ c.pass → P c g r

-- each of them is a step of the call
abbrev pub IsMapCall : Call → History → Type 0
IsMapCall c h = OfEachStep IsMapStep c h

-- the call may come to the row's word
abbrev pub MayComeThere : (Layout → History → ℕ → Type 0) → Call → History → Row → Type 0
MayComeThere P c h r = Touches P c h r.word

-- where the row fills a `v` word, it stores a node that had no mark at a moment of the call
abbrev pub StoresUnmarked : Call → History → Row → Type 0
StoresUnmarked c h r = (s j : ℕ) → r.kind ≡ Fill → r.word ≡ scx s (Member j) → WasUnmarked c h r.after

-- What the row puts in is fresh to the call. What it stores into a field that it fills is in a
-- field already, or was not taken as the call began; what it stores into `new` was not; and where
-- it begins an SCX-record, the new node of that was not.
pub record PutsInFresh (c : Call) (h : History) (r : Row) : Type 0 where
  pub field : (n : ℕ) (side : Side) → r.kind ≡ Fill → r.word ≡ child n side → IsInField c.layout h r.after ⊎ ¬ IsTakenNode c.start r.after
  pub stored : (s : ℕ) → r.kind ≡ Fill → r.word ≡ scx s New → ¬ IsTakenNode c.start r.after
  pub begun : (s : ℕ) → IsBegin h r s → ¬ IsTakenNode c.start (new h s)

-- the word is of a record that was not there from the start, and that nobody has taken
abbrev pub IsOfUntaken : Layout → History → Word → Type 0
IsOfUntaken lay h (Node n part) = (opening_nodes lay ≤ n.0) × ¬ IsTakenNode h n.0
IsOfUntaken lay h (Scx s part) = (s.0 ≢ 0) × ¬ IsTakenScx h s.0

-- to a word of such a record the row comes only to fill it
abbrev pub FillsUntaken : Call → History → Row → Type 0
FillsUntaken c h r = IsOfUntaken c.layout h r.word → r.kind ≡ Fill

-- the row is of no word of this node
abbrev pub IsNotAtNode : ℕ → Call → History → Row → Type 0
IsNotAtNode n c h r = (part : NodeWord) → ¬ (r.word ≡ node n part)

-- nor of this SCX-record
abbrev pub IsNotAtScx : ℕ → Call → History → Row → Type 0
IsNotAtScx s c h r = (part : ScxWord) → ¬ (r.word ≡ scx s part)

-- the row is a step of a call of the pass o that began at the moment `rest` or later
pub record IsStepSince (lay : Layout) (o : ℕ) (rest h : History) (r : Row) : Type 0 where
  pub call : Call
  pub layout : call.layout ≡ lay
  pub pass : call.pass ≡ o
  pub since : Extends call.start rest
  pub step : IsMapStep call h r

-- Between the moment `marked_at` and the moment `start` the pass o has rested, between two of its
-- calls: then all SCX-records that it had taken were finished. What it has filled since, up to h,
-- it has filled by steps of calls that began since.
pub record HasPaused (lay : Layout) (h start marked_at : History) (o : ℕ) : Type 0 where
  pub rest : History
  pub within : Extends start rest
  pub since : Extends rest marked_at
  pub over : AreFinished lay o 0 rest
  pub fills : (r : Row) (g : History) → Extends h (r ⊳ g) → Extends g rest → r.pass.0 ≡ o → r.kind ≡ Fill → IsStepSince lay o rest g r

-- so has each pass
abbrev pub AllHavePaused : Layout → History → History → History → Type 0
AllHavePaused lay h start marked_at = (o : ℕ) → o < lay.passes → HasPaused lay h start marked_at o
