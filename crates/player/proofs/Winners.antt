-- The SCX-record whose update wins, its owner, and what an updating row leaves.
use Rattle.std.proofs.Common.{◌≡◌, ◌≢◌, ℕ, suc, ◌+◌, ◌<◌, ◌≤◌, ◌⊎◌, inl, inr, Bool, true, false, cond, ◌&&◌, eqb, eqb-true, eq-eqb, ne_eqb, List, ◌∷◌, Option, Some, None, refl, sym, ◌∙◌, ap, subst, arith}
use Rattle.std.proofs.Math.Nat.{div-eq_of_lt-le}
use Rattle.histories.specs.Common.{Side, Child, Info, Layout, Row, Kind, Fill, Freeze, SetFrozen, Mark, Update, Commit, Abort, Word, IsOwnScx, all_scx}
use Rattle.histories.specs.Common.{first_scx, scx, info, child, History, ◌⊳◌, value, plan, side_of, field_index, member, Lawful, owner, descriptor, IsStarted}
use Rattle.arena.specs.declared.word.ScxWord.TheVariants.{Call}
use Rattle.arena.proofs.Lemmas.{value_apart, node_word_apart}
use Rattle.histories.proofs.Lemmas.{Change, Facts, IsFlagged, IsOwned, UpdateWins, aborts, change, child_node, commits, facts, facts_before, fills_node, fills_scx, freezes, lawful_tail, marks, named_scx_inside, nothing, one_scx_owner, sets_frozen, some_is_real, update_changes, update_flagged, update_holds, updates}
use Rattle.script.specs.declared.call.Call.{Call as CallOf}
use Rattle.record.specs.declared.record.Line.{Line}
use Rattle.record.specs.declared.record.Line.TheVariants.{Step}
use Rattle.record.specs.declared.record.TurnRow.TheVariants.{Step as Made}
use Rattle.record.specs.declared.record.Entry.{Entry}
use Rattle.record.specs.Turns.{history, entries, is_update, entry_at, entry_of, is_entry_of, won}
use Rattle.player.specs.ClientView.{client_view}
use Rattle.player.proofs.Views.{TellsWon}

-- an update that changes its field finds in the info of the field's node an SCX-record of the
-- table, and not the dummy
pub winner_holds : (lay : Layout) (h : History) (r : Row) (n : ℕ) (side : Side) → Lawful lay (r ⊳ h) → r.kind ≡ Update → r.before ≢ r.after → r.word ≡ child n side → (value h (info n) ≢ 0) × (value h (info n) < all_scx lay)
winner_holds lay h r n side l k d e = go (change lay h r l)
  where
    f : Facts lay h
    f = facts_before lay h r l

    won : (u : ℕ) → UpdateWins h r u → (value h (info n) ≢ 0) × (value h (info n) < all_scx lay)
    won u w =
        let x : IsFlagged (descriptor h u) h u = update_flagged f w in
        let same : n ≡ member h u (field_index h u) = child_node n (member h u (field_index h u)) side (side_of (plan h u)) (sym e ∙ w.update.word) in
        let holds : value h (info n) ≡ u = ap (λ m. value h (info m)) same ∙ update_holds f w in
        rw holds (some_is_real f x.some, named_scx_inside lay h u (lawful_tail lay h r l) (member h u 0, x.frozen 0 x.some))

    go : Change lay h r → (value h (info n) ≢ 0) × (value h (info n) < all_scx lay)
    go (nothing i q) = absurd (d (sym q))
    go (fills_node m part x) = let q = x.kind in absurd cc
    go (fills_scx u part x) = let q = x.kind in absurd cc
    go (freezes u j w) = let q = w.kind in absurd cc
    go (sets_frozen u q x) = absurd cc
    go (marks u j q x) = absurd cc
    go (commits u q x) = absurd cc
    go (aborts u j q x) = absurd cc
    go (updates u w) = won u w

-- an SCX-record of the share of a pass has that pass for its owner
pub owner_is : (lay : Layout) (s p : ℕ) → first_scx lay p ≤ s → s < first_scx lay p + lay.scx → owner lay s ≡ p
owner_is lay s p from below = div-eq_of_lt-le lay.scx (omega arith) (omega arith)

-- a row on a field leaves the info of every node
pub info_kept : (lay : Layout) (h : History) (r : Row) (n m : ℕ) (side : Side) → r.word ≡ child n side → value (r ⊳ h) (info m) ≡ value h (info m)
info_kept lay h r n m side e = value_apart r h (child n side) (info m) e (node_word_apart n m (Child side) Info refl)

-- a row on a field leaves the call number of every SCX-record
pub call_kept : (lay : Layout) (h : History) (r : Row) (n s : ℕ) (side : Side) → r.word ≡ child n side → value (r ⊳ h) (scx s Call) ≡ value h (scx s Call)
call_kept lay h r n s side e = value_apart r h (child n side) (scx s Call) e refl

-- The entry of a row that wins

-- an SCX-record that an info word has named has an owner
owned : (lay : Layout) (h : History) (s : ℕ) → Lawful lay h → IsStarted h s → IsOwned lay (descriptor h s) s
owned lay h s l x = ((facts lay h l).about s x.named.0 x.real x.named.1).owned

-- what the entry of a row says, if the row is a win of s
pub record IsEntryOfWin (lay : Layout) (h : History) (row : Row) (entry : Entry) (s : ℕ) : Type 0 where
  pub wins : UpdateWins h row s
  pub is_pass : entry.client.0 < lay.passes
  pub own : IsOwnScx lay entry.client.0 s
  pub scx_is : entry.scx.0 ≡ s
  pub call_is : entry.call ≡ value h (scx s Call)

module _ (lay : Layout) (lines : List Line) (number : ℕ) (row : Row) (l : Lawful lay (row ⊳ history lay.mode lines)) where
  abbrev h : History
  h = history lay.mode lines

  -- a win has its entry
  pub record HasEntryOf (s : ℕ) : Type 0 where
    pub entry : Entry
    pub is : entry_of lay lines number row ≡ Some entry
    pub step_is : entry.step ≡ number
    pub of_win : IsEntryOfWin lay h row entry s

  pub win_enters : (s : ℕ) → UpdateWins h row s → HasEntryOf s
  win_enters s x = record { entry = made; is = is; step_is = refl; of_win = record { wins = x; is_pass = rw same_owner o.is_pass; own = rw same_owner o.scx; scx_is = holds; call_is = ap (λ (u : ℕ). value h (scx u Call)) holds } }
    where
      f : Facts lay h
      f = facts_before lay h row l

      n : ℕ
      n = member h s (field_index h s)

      holds : value h (info n) ≡ s
      holds = update_holds f x

      o : IsOwned lay (descriptor h s) s
      o = owned lay h s (lawful_tail lay h row l) record { real = some_is_real f (update_flagged f x).some; named = (member h s 0, (update_flagged f x).frozen 0 (update_flagged f x).some) }

      same_owner : owner lay (value h (info n)) ≡ o.pass
      same_owner = ap (λ (u : ℕ). owner lay u) holds ∙ owner_is lay s o.pass o.scx.from (let a = o.scx.below in omega arith)

      made : Entry
      made = record { place = suc (entries lines); step = number; scx = record { 0 = value h (info n) }; client = record { 0 = owner lay (value h (info n)) }; call = value h (scx (value h (info n)) Call) }

      is : entry_of lay lines number row ≡ Some made
      is = rw x.kind (rw (ne_eqb row.before row.after (update_changes f x)) (ap (λ (w : Word). entry_at lay h (suc (entries lines)) number w) x.update.word))

  -- and an entry is of a win
  pub entry_wins : (entry : Entry) → entry_of lay lines number row ≡ Some entry → (s : ℕ) × IsEntryOfWin lay h row entry s
  entry_wins entry e = go (change lay h row l)
    where
      none : entry_of lay lines number row ≡ None → (s : ℕ) × IsEntryOfWin lay h row entry s
      none d = cc

      no_update : (k : Kind) → row.kind ≡ k → is_update k ≡ false → (s : ℕ) × IsEntryOfWin lay h row entry s
      no_update k q d = none (rw (q, d) refl)

      some_entry : (a b : Entry) → Some a ≡ Some b → a ≡ b
      some_entry a b q = cc

      go : Change lay h row → (s : ℕ) × IsEntryOfWin lay h row entry s
      go (nothing i q) = none (rw (eq-eqb row.before row.after (sym q)) (never (is_update row.kind)))
        where
          never : (b : Bool) → cond (b && false) (entry_at lay h (suc (entries lines)) number row.word) None ≡ None
          never true = refl
          never false = refl
      go (fills_node m part x) = no_update Fill x.kind refl
      go (fills_scx u part x) = no_update Fill x.kind refl
      go (freezes u j w) = no_update Freeze w.kind refl
      go (sets_frozen u q x) = no_update SetFrozen q refl
      go (marks u j q x) = no_update Mark q refl
      go (commits u q x) = no_update Commit q refl
      go (aborts u j q x) = no_update Abort q refl
      go (updates u w) = let y = win_enters u w in (u, subst (λ (k : Entry). IsEntryOfWin lay h row k u) (some_entry y.entry entry (sym y.is ∙ e)) y.of_win)

  -- so the lines show of the update of each client whether it has won
  pub tells_won : (tries : ℕ) (calls : List CallOf) (j : ℕ) → TellsWon (client_view lay tries calls lines j) j row number (won lay (Step (Made number row) ∷ lines) j)
  tells_won tries calls j = record { yes = yes; no = no (entry_of lay lines number row) refl }
    where
      yes : (s : ℕ) → UpdateWins h row s → IsOwnScx lay j s → won lay (Step (Made number row) ∷ lines) j ≡ Some number
      yes s x own =
          let y = win_enters s x in
          let same : y.entry.client.0 ≡ j = one_scx_owner lay y.entry.client.0 j s y.of_win.own own in
          rw (y.is, eq-eqb y.entry.client.0 j same) refl

      no : (entry : Option Entry) → entry_of lay lines number row ≡ entry → (cond (is_entry_of entry j) (Some number) (won lay lines j) ≡ won lay lines j) ⊎ ((cond (is_entry_of entry j) (Some number) (won lay lines j) ≡ Some number) × ((s : ℕ) × UpdateWins h row s × IsOwnScx lay j s))
      no None e = inl refl
      no (Some entry) e = at_client (eqb entry.client.0 j) refl
        where
          at_client : (b : Bool) → eqb entry.client.0 j ≡ b → (cond b (Some number) (won lay lines j) ≡ won lay lines j) ⊎ ((cond b (Some number) (won lay lines j) ≡ Some number) × ((s : ℕ) × UpdateWins h row s × IsOwnScx lay j s))
          at_client false q = inl refl
          at_client true q = let y = entry_wins entry e in inr (refl, (y.0, y.1.wins, subst (λ (k : ℕ). IsOwnScx lay k y.0) (eqb-true entry.client.0 j q) y.1.own))
