-- What is remembered of a map's words stays what the lines say.
use Rattle.std.proofs.Common.{◌≡◌, ℕ, zero, suc, ◌⊎◌, inl, inr, ⊎_elim, ◌∙◌, List, [], ◌∷◌, set, slice_get, Option, Some, None, refl, sym, ap, subst}
use Rattle.arena.specs.Opening.{IsMap}
use Rattle.histories.specs.Common.{Layout, PassNo, Row as StepRow, Kind, Freeze, Update, History, Opened, ◌⊳◌, value, Extends, Lawful, IsLawful, IsWin, Entry as Entered, IsRun, Shaped, IsBegin}
use Rattle.arena.proofs.Lemmas.{ends_self}
use Rattle.record.specs.Common.{Pair, Call, Command, Map, HasRisingLevels, MapCall, MapEdit, edit_key, edit_to, value_left, map_request}
use Rattle.record.specs.Common.{Makes, Spells, TreeAllows, IsEntryFor, map_call, written_log, IsMapEntry, AreLines, AreSpelled, history}
use Rattle.record.specs.declared.record.Line.{Line}
use Rattle.record.specs.declared.record.Line.TheVariants.{Step, Log, Reply as ReplyLine}
use Rattle.record.specs.declared.record.TurnRow.TheVariants.{Step as Made, Idle}
use Rattle.record.specs.declared.record.Entry.{Entry}
use Rattle.record.specs.declared.record.Finished.{Finished}
use Rattle.record.proofs.Lemmas.{AreMapCalls}
use Rattle.linearization.specs.declared.places.Change.{Change}
use Rattle.linearization.specs.Entries.{IsChangeBy, IsChangeByEdit, IsChangeOf}
use Rattle.audit.specs.Edits.{IsEditBy, IsSuited, Suits, MayMakeEdit, HasBegunWith, AreRememberedEdits, edit_begun}
use Rattle.audit.specs.declared.edits.BegunEdit.{BegunEdit}
use Rattle.audit.specs.Trees.{IsTreeSoFar}
use Rattle.audit.proofs.EachCall.{entry_makes, makes_on}
use Rattle.ordered_map.specs.Runs.{IsMapRun}
use Rattle.linearization.proofs.Lemmas.{spelled, trie_low}

-- Edits

-- the kind of the newest row
abbrev kind_of : History → Kind
kind_of (Opened o) = Freeze
kind_of (row ⊳ h) = row.kind

-- what has begun makes its edit
pub made : (lay : Layout) (h : History) (s : ℕ) (begun : BegunEdit) → HasBegunWith lay h s begun → Makes lay h s (edit_begun begun)
made lay h s begun x = record { row = x.row; before = x.before; within = x.within; begins = x.begins; edit = x.makes.edit }

-- an SCX-record that begins with an edit has begun with it
begun_now : (lay : Layout) (h : History) (r : StepRow) (s : ℕ) (begun : BegunEdit) → IsBegin h r s → MayMakeEdit lay h s begun → HasBegunWith lay (r ⊳ h) s begun
begun_now lay h r s begun b x = record { row = r; before = h; within = ends_self (r ⊳ h); begins = b; makes = x }

-- it has with one row more
begun_since : (lay : Layout) (h : History) (r : StepRow) (s : ℕ) (begun : BegunEdit) → HasBegunWith lay h s begun → HasBegunWith lay (r ⊳ h) s begun
begun_since lay h r s begun x = record { row = x.row; before = x.before; within = inr x.within; begins = x.begins; makes = x.makes }

-- what has begun had begun before a win
pub begun_before_win : (lay : Layout) (h : History) (row : StepRow) (s : ℕ) (begun : BegunEdit) → IsWin h row s → HasBegunWith lay (row ⊳ h) s begun → HasBegunWith lay h s begun
begun_before_win lay h row s begun won x = record { row = x.row; before = x.before; within = older x.within; begins = x.begins; makes = x.makes }
  where
    older : Extends (row ⊳ h) (x.row ⊳ x.before) → Extends h (x.row ⊳ x.before)
    older (inl e) = absurd (let z : Update ≡ Freeze = sym won.kind ∙ sym (ap kind_of e) ∙ x.begins.kind in cc)
    older (inr e) = e

-- the shape of the tree allows it
pub edit_allowed : (lay : Layout) (h : History) (s : ℕ) (begun : BegunEdit) → MayMakeEdit lay h s begun → TreeAllows lay h s
edit_allowed lay h s begun x = inl (edit_begun begun, x.edit)

-- a win makes no SCX-record begin
win_run : (lay : Layout) (h : History) (row : StepRow) (s : ℕ) → IsMapRun lay h → IsLawful lay h row → IsWin h row s → IsMapRun lay (row ⊳ h)
unfolding Lawful Shaped
win_run lay h row s g lawful won = (g.0, record { lawful = (g.1.lawful, lawful); shaped = (g.1.shaped, λ t b. absurd (let z : Update ≡ Freeze = sym won.kind ∙ b.kind in cc)) })

-- an entry of it is one that a call with its command makes
module _ (lay : Layout) (h : History) (row : StepRow) (e : Entered) (run : IsMapRun lay (row ⊳ h)) (won : IsWin h row e.scx) where
  entry_by : (c : ℕ) (start : History) (linked : ℕ → Option History) (command : Command) (edit : MapEdit) → Makes lay h e.scx edit → IsEditBy (map_call (Some command)) edit → Suits (map_call (Some command)) h e.scx edit → IsEntryFor lay c h start linked e command
  entry_by c start linked (Map request) edit x is suited = entry_makes lay h row e run won (map_request request) edit x is suited
  entry_by c start linked command edit x is suited = absurd is

pub edit_entry : (lay : Layout) (c : ℕ) (h start : History) (row : StepRow) (linked : ℕ → Option History) (e : Entered) (begun : BegunEdit) → IsMapRun lay h → IsLawful lay h row → IsWin h row e.scx → HasBegunWith lay h e.scx begun → IsSuited h e.scx begun → IsEntryFor lay c h start linked e begun.command
edit_entry lay c h start row linked e begun g lawful won x suited = entry_by lay h row e (win_run lay h row e.scx g lawful won) won c start linked begun.command (edit_begun begun) (made lay h e.scx begun x) x.makes.own suited

-- the change of an edit
change_to : (key turn : ℕ) (value : Option ℕ) (own : MapEdit) → own ≡ edit_to key value → IsChangeByEdit (Some own) record { turn = turn; key = key; value = value }
change_to key turn None own is = (sym (ap edit_key is), sym (ap value_left is))
change_to key turn (Some v) own is = (sym (ap edit_key is), sym (ap value_left is))

-- the change of an SCX-record that has begun for a call is that of the call's entry
module _ (lay : Layout) (h : History) (row : StepRow) (e : Entered) (turn : ℕ) (m : List Pair) (begun : BegunEdit) (run : IsMapRun lay (row ⊳ h)) (won : IsWin h row e.scx) (b : HasBegunWith lay h e.scx begun) (spells : Spells lay (value h) m) where
  -- which it makes of the map that the words spell just before
  pub change_made : (call : MapCall) → IsEditBy (Some call) (edit_begun begun) → IsMapEntry call lay h e → IsChangeBy (Some call) m record { turn = turn; key = begun.key; value = begun.value }
  change_made call by x = subst (λ (o : Option MapEdit). IsChangeByEdit o record { turn = turn; key = begun.key; value = begun.value }) (sym (makes_on lay h row e m run won spells call (edit_begun begun) by (made lay h e.scx begun b) x)) (change_to begun.key turn begun.value (edit_begun begun) refl)

-- what is remembered stays true with one row more
pub edits_kept : (lay : Layout) (h : History) (r : StepRow) (edits : List (Option BegunEdit)) → AreRememberedEdits lay h edits → AreRememberedEdits lay (r ⊳ h) edits
edits_kept lay h r edits x s begun is = begun_since lay h r s begun (x s begun is)

got_set : {X : Type 0} (xs : List X) (i j : ℕ) (new y : X) → slice_get (set xs i new) j ≡ Some y → ((j ≡ i) × (Some new ≡ Some y)) ⊎ (slice_get xs j ≡ Some y)
got_set [] i j new y e = inr e
got_set (x ∷ xs) zero zero new y e = inl (refl, e)
got_set (x ∷ xs) zero (suc j) new y e = inr e
got_set (x ∷ xs) (suc i) zero new y e = inr e
got_set (x ∷ xs) (suc i) (suc j) new y e = ⊎_elim (λ q. inl (ap suc q.0, q.1)) (λ q. inr q) (got_set xs i j new y e)

-- and with one that has just begun
pub edits_set : (lay : Layout) (h : History) (r : StepRow) (edits : List (Option BegunEdit)) (s : ℕ) (begun : BegunEdit) → AreRememberedEdits lay h edits → IsBegin h r s → MayMakeEdit lay h s begun → AreRememberedEdits lay (r ⊳ h) (set edits s (Some begun))
edits_set lay h r edits s begun x b may t other is = ⊎_elim
    (λ q. let same : begun ≡ other = some_begun begun other (some_some (Some begun) (Some other) q.1) in subst (λ (k : BegunEdit). HasBegunWith lay (r ⊳ h) t k) same (subst (λ (n : ℕ). HasBegunWith lay (r ⊳ h) n begun) (sym q.0) (begun_now lay h r s begun b may)))
    (λ q. begun_since lay h r t other (x t other q))
    (got_set edits s t (Some begun) (Some other) is)
  where
    some_begun : (a b : BegunEdit) → Some a ≡ Some b → a ≡ b
    some_begun a b e = cc

    some_some : (a b : Option BegunEdit) → Some a ≡ Some b → a ≡ b
    some_some a b e = cc

-- Lines

module _ (lay : Layout) (tries : ℕ) (calls : List Call) (mode : IsMap lay.mode) (all : AreMapCalls calls) (begun : List (Option BegunEdit)) (changed : List Change) (lines : List Line) (x : IsTreeSoFar lay calls begun changed lines) where
  spelled_more : (line : Line) → AreLines lay tries calls (line ∷ lines) → IsMapRun lay (history lay.mode (line ∷ lines)) → HasRisingLevels (history lay.mode (line ∷ lines)) → AreSpelled lay calls (line ∷ lines)
  unfolding AreSpelled
  spelled_more line a g rising = (x.spelled, λ owed. record { spelled = spelled lay tries calls mode all (line ∷ lines) a g owed; rising = rising; low = trie_low lay (history lay.mode (line ∷ lines)) g })

  pub tree_idle : (number : ℕ) (pass : PassNo) → AreLines lay tries calls (Step (Idle number pass) ∷ lines) → IsTreeSoFar lay calls begun changed (Step (Idle number pass) ∷ lines)
  tree_idle number pass a = record { run = x.run; rising = x.rising; spelled = spelled_more (Step (Idle number pass)) a (mode, x.run) x.rising; edits = x.edits; entries = x.entries }

  pub tree_reply : (reply : Finished) → AreLines lay tries calls (ReplyLine reply ∷ lines) → IsTreeSoFar lay calls begun changed (ReplyLine reply ∷ lines)
  tree_reply reply a = record { run = x.run; rising = x.rising; spelled = spelled_more (ReplyLine reply) a (mode, x.run) x.rising; edits = x.edits; entries = x.entries }

  pub tree_log : (entry : Entry) (change : Change) → AreLines lay tries calls (Log entry ∷ lines) → IsChangeOf calls (written_log lines) entry change → IsTreeSoFar lay calls begun (change ∷ changed) (Log entry ∷ lines)
  tree_log entry change a is = record { run = x.run; rising = x.rising; spelled = spelled_more (Log entry) a (mode, x.run) x.rising; edits = x.edits; entries = (is, x.entries) }

  -- a step that begins no SCX-record but one that makes an edit, after which levels rise
  pub tree_step : (number : ℕ) (row : StepRow) (more : List (Option BegunEdit)) → AreLines lay tries calls (Step (Made number row) ∷ lines) → IsLawful lay (history lay.mode lines) row → ((s : ℕ) → IsBegin (history lay.mode lines) row s → TreeAllows lay (history lay.mode lines) s) → HasRisingLevels (row ⊳ history lay.mode lines) → AreRememberedEdits lay (row ⊳ history lay.mode lines) more → IsTreeSoFar lay calls more changed (Step (Made number row) ∷ lines)
  unfolding Lawful Shaped
  tree_step number row more a lawful allows rising edits = record { run = run; rising = rising; spelled = spelled_more (Step (Made number row)) a (mode, run) rising; edits = edits; entries = x.entries }
    where
      run : IsRun TreeAllows lay (row ⊳ history lay.mode lines)
      run = record { lawful = (x.run.lawful, lawful); shaped = (x.run.shaped, allows) }
