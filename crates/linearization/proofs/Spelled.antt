-- The words spell the map so far after every step of a run of calls of the map.
use Rattle.std.proofs.Common.{◌≡◌, ℕ, suc, inr, true, false, eqb, List, [], ◌∷◌, Option, Some, None, slice_get, refl, sym, ◌∙◌, ap, subst, ne_eqb}
use Rattle.arena.specs.Opening.{IsMap}
use Rattle.histories.specs.Common.{Layout, Row as StepRow, History, ◌⊳◌, value, Lawful, log, field}
use Rattle.arena.proofs.Lemmas.{ends_self}
use Rattle.histories.proofs.Lemmas.{Logs, facts_before, logs, same, update_changes, wins}
use Rattle.record.specs.Common.{Pair, MapCall, MapEdit, Edit, after, edited, AreFilledInOrder, IsMapRun, Makes, Spells, Call, Command, Llx, Scx, Vlx}
use Rattle.record.specs.Common.{Set, Map, map_request, history, start, entry_at, entry_of, entry_owed, entries, is_update, commands, next_command}
use Rattle.record.specs.Common.{IsEntryFor, IsMapEntry, IsWinOf, linked, map_call, map_call_of, written_log, map_of, AreSpelled, IsSpelledAfter, AreLines}
use Rattle.ordered_map.specs.OrderedMap.{after_edit}
use Rattle.ordered_map.proofs.Lemmas.{makes_since}
use Rattle.ordered_map.proofs.MapLemmas.{opening_spells, quiet_spells, rising_levels, run_since, win_makes}
use Rattle.record.specs.declared.record.Line.{Line}
use Rattle.record.specs.declared.record.Line.TheVariants.{Step, Log, Reply as ReplyLine}
use Rattle.record.specs.declared.record.TurnRow.TheVariants.{Step as Made, Idle}
use Rattle.record.specs.declared.record.Entry.{Entry}
use Rattle.record.specs.MapRecord.{after_maybe}
use Rattle.record.proofs.Lemmas.{AreMapCalls}
use Rattle.linearization.proofs.Depths.{trie_low}

-- a step that owes no entry leaves the log
no_entry : (lay : Layout) (lines : List Line) (n : ℕ) (row : StepRow) → Lawful lay (row ⊳ history lay.mode lines) → entry_of lay lines n row ≡ None → log lay (row ⊳ history lay.mode lines) ≡ log lay (history lay.mode lines)
no_entry lay lines n row l e = go (logs lay (history lay.mode lines) row l)
  where
    go : Logs lay (history lay.mode lines) row → log lay (row ⊳ history lay.mode lines) ≡ log lay (history lay.mode lines)
    go (same d back) = d
    go (wins u w d) =
        let kind : is_update row.kind ≡ true = ap is_update w.kind in
        let differs : eqb row.before row.after ≡ false = ne_eqb row.before row.after (update_changes (facts_before lay (history lay.mode lines) row l) w) in
        let none : entry_at lay (history lay.mode lines) (suc (entries lines)) n (field (history lay.mode lines) u) ≡ None = rw (kind, differs, w.update.word) at e in
        absurd (cc)

module _ (lay : Layout) (tries : ℕ) (calls : List Call) (mode : IsMap lay.mode) (all : AreMapCalls calls) where
  run_before : (h : History) (row : StepRow) → IsMapRun lay (row ⊳ h) → IsMapRun lay h
  run_before h row g = run_since lay (row ⊳ h) h g (inr (ends_self h))

  -- what an entry's call makes of the map
  win_spells : (lines : List Line) (row : StepRow) (e : Entry) (ps : List Pair) → IsMapRun lay (row ⊳ history lay.mode lines) → IsWinOf lay calls lines row e → Spells lay (value (history lay.mode lines)) ps → Spells lay (value (row ⊳ history lay.mode lines)) (after_maybe (map_call_of calls e.client.0 e.call) ps)
  win_spells lines row e ps g x s = go x.command x.is x.does
    where
      call_is : (command : Command) → next_command calls lines e.client.0 ≡ Some command → map_call_of calls e.client.0 e.call ≡ map_call (Some command)
      call_is command is = ap (λ (j : ℕ). map_call (slice_get (commands calls e.client.0) j)) x.call ∙ ap map_call is

      makes : (edit : MapEdit) → Makes lay (history lay.mode lines) x.entered.scx edit → Makes lay (row ⊳ history lay.mode lines) e.scx.0 edit
      makes edit y = makes_since lay (row ⊳ history lay.mode lines) (history lay.mode lines) e.scx.0 edit (inr (ends_self (history lay.mode lines))) (subst (λ (u : ℕ). Makes lay (history lay.mode lines) u edit) x.same_scx y)

      edits : (edit : MapEdit) → Makes lay (history lay.mode lines) x.entered.scx edit → Spells lay (value (row ⊳ history lay.mode lines)) (edited edit ps)
      edits edit does = (win_makes lay (row ⊳ history lay.mode lines) (history lay.mode lines) row e.scx.0 edit g (ends_self (row ⊳ history lay.mode lines)) x.wins (makes edit does)).changes ps s

      other : (command : Command) → next_command calls lines e.client.0 ≡ Some command → map_call (Some command) ≡ None → ⊥
      other command is none = let y = all e.client.0 _ command is in let d : None ≡ Some y.0 = sym none ∙ y.1 in cc

      by_call : (call : MapCall) → map_call_of calls e.client.0 e.call ≡ Some call → IsMapEntry call lay (history lay.mode lines) x.entered → Spells lay (value (row ⊳ history lay.mode lines)) (after_maybe (map_call_of calls e.client.0 e.call) ps)
      by_call (Edit goal rule) is does =
          let left : Spells lay (value (row ⊳ history lay.mode lines)) (after (Edit goal rule) ps) = subst (λ (o : Option MapEdit). Spells lay (value (row ⊳ history lay.mode lines)) (after_edit o ps)) (sym (does.of_map ps s)) (edits does.edit does.makes) in
          rw is left
      by_call call is does = absurd does

      go : (command : Command) → next_command calls lines e.client.0 ≡ Some command → IsEntryFor lay e.client.0 (history lay.mode lines) (start lay.mode lines e.client.0) (linked calls lay.mode lines e.client.0) x.entered command → Spells lay (value (row ⊳ history lay.mode lines)) (after_maybe (map_call_of calls e.client.0 e.call) ps)
      go (Map request) is does = by_call (map_request request) (call_is (Map request) is) does
      go (Llx cell) is does = absurd (other (Llx cell) is refl)
      go (Scx update) is does = absurd (other (Scx update) is refl)
      go (Vlx cells) is does = absurd (other (Vlx cells) is refl)
      go (Set f v) is does = absurd (other (Set f v) is refl)

  -- the words spell the map of the entries, where none is owed
  pub spelled : (lines : List Line) → AreLines lay tries calls lines → IsMapRun lay (history lay.mode lines) → entry_owed lay lines ≡ None → Spells lay (value (history lay.mode lines)) (map_of calls (written_log lines))
  unfolding AreLines
  spelled [] a g owed = opening_spells lay mode
  spelled (Step (Made n row) ∷ lines) a g owed = quiet_spells lay (history lay.mode lines) row (map_of calls (written_log lines)) g (no_entry lay lines n row g.1.lawful owed) (spelled lines a.0 (run_before (history lay.mode lines) row g) a.1.0.entry)
  spelled (Step (Idle n client) ∷ lines) a g owed = spelled lines a.0 g a.1.0.entry
  spelled (ReplyLine reply ∷ lines) a g owed = spelled lines a.0 g a.1.0
  spelled (Log e ∷ Step (Made n row) ∷ lines) a g owed = win_spells lines row e (map_of calls (written_log lines)) g a.1.1 (spelled lines a.0.0 (run_before (history lay.mode lines) row g) a.0.1.0.entry)
  spelled (Log e ∷ Step (Idle n client) ∷ lines) a g owed = absurd a.1
  spelled (Log e ∷ Log d ∷ lines) a g owed = absurd a.1
  spelled (Log e ∷ ReplyLine reply ∷ lines) a g owed = absurd a.1
  spelled (Log e ∷ []) a g owed = absurd a.1

  spelled_after : (lines : List Line) → AreLines lay tries calls lines → IsMapRun lay (history lay.mode lines) → AreFilledInOrder (history lay.mode lines) → entry_owed lay lines ≡ None → IsSpelledAfter lay calls lines
  spelled_after lines a g order owed = record { spelled = spelled lines a g owed; rising = rising_levels lay (history lay.mode lines) g order; low = trie_low lay (history lay.mode lines) g }

  -- so they do after each step, where nodes are filled in order
  pub are_spelled : (lines : List Line) → AreLines lay tries calls lines → IsMapRun lay (history lay.mode lines) → AreFilledInOrder (history lay.mode lines) → AreSpelled lay calls lines
  unfolding AreLines AreSpelled
  are_spelled [] a g order = spelled_after [] a g order refl
  are_spelled (Step (Made n row) ∷ lines) a g order = (are_spelled lines a.0 (run_before (history lay.mode lines) row g) order.0, λ owed. spelled_after (Step (Made n row) ∷ lines) a g order owed)
  are_spelled (Step (Idle n client) ∷ lines) a g order = (are_spelled lines a.0 g order, λ owed. spelled_after (Step (Idle n client) ∷ lines) a g order owed)
  are_spelled (Log e ∷ lines) a g order = (are_spelled lines a.0 g order, λ owed. spelled_after (Log e ∷ lines) a g order owed)
  are_spelled (ReplyLine reply ∷ lines) a g order = (are_spelled lines a.0 g order, λ owed. spelled_after (ReplyLine reply ∷ lines) a g order owed)
