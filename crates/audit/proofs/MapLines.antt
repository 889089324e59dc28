-- What is remembered of the map stays what the lines say.
use Rattle.std.proofs.Common.{◌≡◌, ℕ, zero, suc, true, List, [], ◌∷◌, Some, None, Option, IfSome, IsSome, slice_get, set, replicate, refl, sym, ◌∙◌, ap, subst, arith, inl}
use Rattle.arena.specs.Opening.{IsMap, is_map}
use Rattle.arena.specs.declared.limits.Mode.TheVariants.{Trie}
use Rattle.histories.specs.Common.{Mode, Tree, Records, Layout, PassNo, Row as StepRow, History, ◌⊳◌, value, Lawful, IsLawful, IsWin, Entry as Entered, IsRun, Shaped, IsBegin}
use Rattle.record.specs.Common.{HasRisingLevels, TreeAllows, Pair, Spells, map_request, Call, Command, Map, IsOfMode, asks_map}
use Rattle.record.specs.Common.{IsEntryFor, commands, next_command, IsWinOf, AreLines, map_call, map_call_of, map_of, written_log, AreSpelled, IsSpelledAfter, history, answered, entry_owed}
use Rattle.record.specs.declared.record.Line.{Line}
use Rattle.record.specs.declared.record.Line.TheVariants.{Step, Log, Reply as ReplyLine}
use Rattle.record.specs.declared.record.TurnRow.TheVariants.{Step as Made, Idle}
use Rattle.record.specs.declared.record.Entry.{Entry}
use Rattle.record.specs.declared.record.Finished.{Finished}
use Rattle.record.specs.LawfulRun.{IsWhole}
use Rattle.record.specs.Legal.{IsLegal}
use Rattle.record.proofs.Lemmas.{lawful_is_legal, AreOf, map_calls, of_commands}
use Rattle.linearization.specs.declared.places.Change.{Change}
use Rattle.linearization.specs.Entries.{IsChangeBy}
use Rattle.linearization.proofs.Lemmas.{are_spelled, change_of_newest}
use Rattle.linearization.specs.declared.places.Places.{Places}
use Rattle.linearization.specs.Places.{changes}
use Rattle.audit.specs.Edits.{IsEditBy, IsSuited, MayMakeEdit, HasBegunWith, AreRememberedEdits, edit_begun}
use Rattle.audit.specs.declared.edits.BegunEdit.{BegunEdit}
use Rattle.audit.specs.Trees.{IsMapSoFar, IsTreeSoFar, HasChangedBy}
use Rattle.ordered_map.specs.Runs.{IsMapRun}
use Rattle.audit.proofs.TreeLines.{tree_idle, tree_reply, tree_log, tree_step, edits_kept, edits_set, edit_allowed, edit_entry, change_made, begun_before_win}

-- the next command of a client has the mode of all
pub next_of_mode : (mode : Mode) (calls : List Call) (lines : List Line) (c : ℕ) (command : Command) → AreOf mode calls → next_command calls lines c ≡ Some command → IsOfMode mode command
next_of_mode mode calls lines c command all is = of_commands (IsOfMode mode) calls c (answered lines c) command all is

-- Entries

-- where no entry is owed the words spell the map so far
spelled_now : (lay : Layout) (calls : List Call) (lines : List Line) → AreSpelled lay calls lines → entry_owed lay lines ≡ None → IsSpelledAfter lay calls lines
unfolding AreSpelled
spelled_now lay calls [] x owed = x
spelled_now lay calls (line ∷ lines) x owed = x.1 owed

-- the entry of a call, by what its SCX-record does, which has begun for it
change_by : (lay : Layout) (c : ℕ) (before start : History) (linked : ℕ → Option History) (row : StepRow) (e : Entered) (turn : ℕ) (m : List Pair) (begun : BegunEdit) → IsMapRun lay (row ⊳ before) → IsWin before row e.scx → HasBegunWith lay before e.scx begun → Spells lay (value before) m → (command : Command) → IsEditBy (map_call (Some command)) (edit_begun begun) → IsEntryFor lay c before start linked e command → IsChangeBy (map_call (Some command)) m record { turn = turn; key = begun.key; value = begun.value }
change_by lay c before start linked row e turn m begun run won b spells (Map request) by x = change_made lay before row e turn m begun run won b spells (map_request request) by x
change_by lay c before start linked row e turn m begun run won b spells command by x = absurd by

-- the change of an SCX-record that has begun is that of its entry
change_of : (lay : Layout) (tries : ℕ) (calls : List Call) (lines : List Line) (entry : Entry) (begun : BegunEdit) → IsMap lay.mode → AreLines lay tries calls (Log entry ∷ lines) → AreSpelled lay calls lines → IsRun TreeAllows lay (history lay.mode lines) → HasBegunWith lay (history lay.mode lines) entry.scx.0 begun → next_command calls lines entry.client.0 ≡ Some begun.command → IsChangeBy (map_call_of calls entry.client.0 entry.call) (map_of calls (written_log lines)) record { turn = entry.step; key = begun.key; value = begun.value }
unfolding AreLines AreSpelled
change_of lay tries calls [] entry begun mode a x run b own = absurd a.1
change_of lay tries calls (Step (Idle n client) ∷ lines) entry begun mode a x run b own = absurd a.1
change_of lay tries calls (Log d ∷ lines) entry begun mode a x run b own = absurd a.1
change_of lay tries calls (ReplyLine d ∷ lines) entry begun mode a x run b own = absurd a.1
change_of lay tries calls (Step (Made n row) ∷ lines) entry begun mode a x run b own = subst (λ (o : Option Command). IsChangeBy (map_call o) m made) (sym (ap (λ (k : ℕ). slice_get (commands calls entry.client.0) k) w.call ∙ w.is)) by
  where
    w : IsWinOf lay calls lines row entry
    w = a.1.1

    m : List Pair
    m = map_of calls (written_log lines)

    made : Change
    made = record { turn = entry.step; key = begun.key; value = begun.value }

    before : History
    before = history lay.mode lines

    spells : Spells lay (value before) m
    spells = (spelled_now lay calls lines x.0 a.0.1.0.entry).spelled

    begun_then : HasBegunWith lay before w.entered.scx begun
    begun_then = subst (λ (s : ℕ). HasBegunWith lay before s begun) (sym w.same_scx) (begun_before_win lay before row entry.scx.0 begun w.wins b)

    for_it : IsEditBy (map_call (Some w.command)) (edit_begun begun)
    for_it = subst (λ (o : Option Command). IsEditBy (map_call o) (edit_begun begun)) (sym own ∙ w.is) b.makes.own

    by : IsChangeBy (map_call (Some w.command)) m made
    by = change_by lay entry.client.0 before _ _ row w.entered entry.step m begun (mode, run) (subst (λ (s : ℕ). IsWin before row s) (sym w.same_scx) w.wins) begun_then spells w.command for_it w.does

module _ (lay : Layout) (tries : ℕ) (calls : List Call) (of_mode : AreOf lay.mode calls) (begun : List (Option BegunEdit)) (places : Places) (lines : List Line) (x : IsMapSoFar lay calls begun places lines) where
  pub map_idle : (number : ℕ) (pass : PassNo) → AreLines lay tries calls (Step (Idle number pass) ∷ lines) → IsMapSoFar lay calls begun places (Step (Idle number pass) ∷ lines)
  map_idle number pass a = record { tree = λ mode. tree_idle lay tries calls mode (map_calls lay.mode calls mode of_mode) begun (changes places) lines (x.tree mode) number pass a }

  pub map_reply : (reply : Finished) → AreLines lay tries calls (ReplyLine reply ∷ lines) → IsMapSoFar lay calls begun places (ReplyLine reply ∷ lines)
  map_reply reply a = record { tree = λ mode. tree_reply lay tries calls mode (map_calls lay.mode calls mode of_mode) begun (changes places) lines (x.tree mode) reply a }

  -- an entry, whose call changes the map
  pub map_log : (after : Places) (entry : Entry) → AreLines lay tries calls (Log entry ∷ lines) → (IsMap lay.mode → HasChangedBy calls lines entry begun (changes places) (changes after)) → IsMapSoFar lay calls begun after (Log entry ∷ lines)
  map_log after entry a change = record { tree = tree }
    where
      tree : IsMap lay.mode → IsTreeSoFar lay calls begun (changes after) (Log entry ∷ lines)
      tree mode =
          let d = change mode in
          let one : BegunEdit = d.by.begun in
          let t = x.tree mode in
          let made : Change = record { turn = entry.step; key = one.key; value = one.value } in
          let by = change_of lay tries calls lines entry one mode a t.spelled t.run (t.edits entry.scx.0 one d.by.known) d.by.own in
          let added : changes after ≡ made ∷ changes places = d.added ∙ ap (λ (c : Change). c ∷ changes places) d.by.is in
          subst (λ (l : List Change). IsTreeSoFar lay calls begun l (Log entry ∷ lines)) (sym added) (tree_log lay tries calls mode (map_calls lay.mode calls mode of_mode) begun (changes places) lines t entry made a (change_of_newest lay tries calls lines entry made a refl by))

  -- a step, with the SCX-record that it begins, if it begins one
  pub map_step : (number : ℕ) (row : StepRow) (h : History) (more : List (Option BegunEdit)) (edit : Option BegunEdit) → h ≡ history lay.mode lines → AreLines lay tries calls (Step (Made number row) ∷ lines) → IsLawful lay (history lay.mode lines) row → (IsMap lay.mode → HasRisingLevels h → HasRisingLevels (row ⊳ h)) → (IsMap lay.mode → IsBegin h row row.after → (b : BegunEdit) × MayMakeEdit lay h row.after b) → IfSome edit (λ b. IsBegin h row row.after) → IfSome edit (MayMakeEdit lay h row.after) → (edit ≡ None → more ≡ begun) → (IsSome edit → more ≡ set begun row.after edit) → IsMapSoFar lay calls more places (Step (Made number row) ∷ lines)
  map_step number row h more edit same a lawful rising allowed begins may none some = record { tree = tree }
    where
      now : History
      now = history lay.mode lines

      there : (P : History → Type 0) → P h → P now
      there P y = subst P same y

      here : (P : History → Type 0) → P now → P h
      here P y = subst P (sym same) y

      allows : IsMap lay.mode → (s : ℕ) → IsBegin now row s → TreeAllows lay now s
      allows mode s b =
          let y = allowed mode (here (λ k. IsBegin k row row.after) (subst (λ (n : ℕ). IsBegin now row n) (sym b.stored) b)) in
          subst (λ (n : ℕ). TreeAllows lay now n) b.stored (there (λ k. TreeAllows lay k row.after) (edit_allowed lay h row.after y.0 y.1))

      edits : IsMap lay.mode → AreRememberedEdits lay (row ⊳ now) more
      edits mode = go edit refl begins may some
        where
          known : AreRememberedEdits lay now begun
          known = (x.tree mode).edits

          go : (o : Option BegunEdit) → edit ≡ o → IfSome o (λ d. IsBegin h row row.after) → IfSome o (MayMakeEdit lay h row.after) → (IsSome o → more ≡ set begun row.after o) → AreRememberedEdits lay (row ⊳ now) more
          go None e b y p = subst (λ (l : List (Option BegunEdit)). AreRememberedEdits lay (row ⊳ now) l) (sym (none e)) (edits_kept lay now row begun known)
          go (Some d) e b y p = subst (λ (l : List (Option BegunEdit)). AreRememberedEdits lay (row ⊳ now) l) (sym (p refl)) (edits_set lay now row begun row.after d known (there (λ g. IsBegin g row row.after) b) (there (λ g. MayMakeEdit lay g row.after d) y))

      tree : IsMap lay.mode → IsTreeSoFar lay calls more (changes places) (Step (Made number row) ∷ lines)
      tree mode = tree_step lay tries calls mode (map_calls lay.mode calls mode of_mode) begun (changes places) lines (x.tree mode) number row more a lawful (allows mode) (there (λ k. HasRisingLevels (row ⊳ k)) (rising mode (here (λ k. HasRisingLevels k) (x.tree mode).rising))) (edits mode)

  -- an entry of an SCX-record that has begun for a client's call is one that the call makes
  pub map_entry : (h : History) → h ≡ history lay.mode lines → (c s : ℕ) (row : StepRow) (known_by : BegunEdit) → IsLawful lay h row → IsWin h row s → next_command calls lines c ≡ Some known_by.command → asks_map known_by.command ≡ true → slice_get begun s ≡ Some (Some known_by) → IsSuited h s known_by → (command : Command) → known_by.command ≡ command → (start : History) (linked : ℕ → Option History) (e : Entered) → e.scx ≡ s → IsEntryFor lay c h start linked e command
  map_entry h same c s row known_by lawful won is mode known suited command of_command start linked e own =
      let tree = sym (next_of_mode lay.mode calls lines c known_by.command of_mode is) ∙ mode in
      let here = λ (P : History → Type 0) (y : P (history lay.mode lines)). subst P (sym same) y in
      subst (λ (k : Command). IsEntryFor lay c h start linked e k) of_command (edit_entry lay c h start row linked e known_by (here (λ g. IsMapRun lay g) (tree, (x.tree tree).run)) lawful (subst (λ (k : ℕ). IsWin h row k) (sym own) won) (subst (λ (k : ℕ). HasBegunWith lay h k known_by) (sym own) (here (λ g. HasBegunWith lay g s known_by) ((x.tree tree).edits s known_by known))) (subst (λ (k : ℕ). IsSuited h k known_by) (sym own) suited))

  -- what is said of the whole run at its end
  pub map_whole : AreLines lay tries calls lines → IsWhole lay.mode lay calls lines
  map_whole a = go lay.mode refl
    where
      of_map : IsMap lay.mode → AreSpelled lay calls lines × IsLegal calls lines
      of_map mode = ((x.tree mode).spelled, lawful_is_legal lay tries calls lines (map_calls lay.mode calls mode of_mode) a)

      go : (mode : Mode) → lay.mode ≡ mode → IsWhole mode lay calls lines
      go Records e = tt
      go Tree e = of_map (ap is_map e)
      go Trie e = of_map (ap is_map e)

-- The start

never_begun : (n s : ℕ) (first : BegunEdit) → slice_get (replicate n None) s ≡ Some (Some first) → ⊥
never_begun zero s first e = absurd (let z : None ≡ Some (Some first) = e in cc)
never_begun (suc n) zero first e = let z : Some None ≡ Some (Some first) = e in absurd (cc)
never_begun (suc n) (suc s) first e = never_begun n s first e

-- of no line nothing is remembered
pub map_start : (lay : Layout) (tries : ℕ) (calls : List Call) (begun : List (Option BegunEdit)) (places : Places) (n : ℕ) → AreOf lay.mode calls → begun ≡ replicate n None → changes places ≡ [] → IsMapSoFar lay calls begun places []
unfolding AreLines AreSpelled Lawful Shaped
map_start lay tries calls begun places n of_mode none unchanged = record { tree = tree }
  where
    tree : IsMap lay.mode → IsTreeSoFar lay calls begun (changes places) []
    tree mode = rw unchanged record {
      run = run;
      rising = spelled.rising;
      spelled = spelled;
      edits = λ s first e. absurd (never_begun n s first (subst (λ (l : List (Option BegunEdit)). slice_get l s ≡ Some (Some first)) none e));
      entries = tt;
    }
      where
        run : IsRun TreeAllows lay (history lay.mode [])
        run = record { lawful = (refl, omega arith); shaped = inl refl }

        spelled : AreSpelled lay calls []
        spelled = are_spelled lay tries calls mode (map_calls lay.mode calls mode of_mode) [] tt (mode, run) tt
