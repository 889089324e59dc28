-- What each row of a course leaves of what the pass has.
use Rattle.std.proofs.Common.{◌≡◌, ◌≢◌, ℕ, inr, ⊎_elim, eq-eqb, ne_eqb, List, ◌∷◌, refl, sym, ◌∙◌, ap}
use native.Mathlib.Decide.{ℕ_discrete}
use Rattle.histories.specs.Common.{Layout, Row, Remaining, History, ◌⊳◌, Extends, IsMember, IsInProgress, IsOwnScx, HasWon, Entry, log, owner, IsRun, descriptor}
use Rattle.arena.proofs.Lemmas.{ends_self, owner_is}
use Rattle.histories.proofs.Lemmas.{Facts, IsOwned, Logs, UpdateWins, entry_of, facts_before, logs, one_scx_owner, same as log_same, update_about, update_is_first, update_split, update_won, wins as log_wins, won_more}
use Rattle.template.specs.Common.{AreFinished, IsLeftAlone, IsAmong, Snap, IsShare}
use Rattle.prims.specs.Laws.Begun.{TakesOnly}
use Rattle.prims.proofs.Lemmas.{alone_more, over_more, own_in_hand, wins_in_progress}
use Rattle.tables.specs.Shares.{entries_of}

-- Entries

-- the entry is of the pass, or it is not
pub entry_mine : (c : ℕ) (e : Entry) (es : List Entry) → e.owner ≡ c → entries_of c (e ∷ es) ≡ e ∷ entries_of c es
entry_mine c e es same = rw (eq-eqb e.owner c same) refl

pub entry_others : (c : ℕ) (e : Entry) (es : List Entry) → e.owner ≢ c → entries_of c (e ∷ es) ≡ entries_of c es
entry_others c e es apart = rw (ne_eqb e.owner c apart) refl

-- the update of an SCX-record of the pass has won
abbrev pub HasOwnWon : Layout → ℕ → History → ℕ → Type 0
HasOwnWon lay c h s = IsOwnScx lay c s × HasWon h s

-- The whole

-- a call of pass c under way: with this share, this node and SCX-record, and these snapshots
-- in hand; all other snapshots that were left alone are; and the log has one entry more of the pass
-- if the update has won, and none else
pub record CarriesOn (allows : Layout → History → ℕ → Type 0) (lay : Layout) (c : ℕ) (start h : History) (left : Remaining) (node scx : ℕ) (snaps : List Snap) : Type 0 where
  pub sound : IsRun allows lay h
  pub since : Extends h start
  pub share : IsShare lay h c left node scx
  pub over : AreFinished lay c scx h
  pub alone : (snap : Snap) → ¬ IsAmong snaps snap.node.0 → IsLeftAlone lay c start snap → IsLeftAlone lay c h snap
  pub unwon : ¬ HasOwnWon lay c h scx → entries_of c (log lay h) ≡ entries_of c (log lay start)
  pub won : HasOwnWon lay c h scx → (e : Entry) × (e.scx ≡ scx) × (entries_of c (log lay h) ≡ e ∷ entries_of c (log lay start))

pub goes_from : {allows : Layout → History → ℕ → Type 0} (lay : Layout) (c : ℕ) (start : History) (left : Remaining) (node scx : ℕ) (snaps : List Snap) → IsRun allows lay start → IsShare lay start c left node scx → AreFinished lay c scx start → ¬ HasOwnWon lay c start scx → CarriesOn allows lay c start start left node scx snaps
goes_from lay c start left node scx snaps run share over free = record { sound = run; since = ends_self start; share = share; over = over; alone = λ snap d x. x; unwon = λ d. refl; won = λ w. absurd (free w) }

module _ {allows : Layout → History → ℕ → Type 0} (lay : Layout) (c : ℕ) (start h : History) (left : Remaining) (node scx : ℕ) (snaps : List Snap) (r : Row) (run : IsRun allows lay (r ⊳ h)) (takes : TakesOnly lay c scx h r) (x : CarriesOn allows lay c start h left node scx snaps) where
  over_then : AreFinished lay c scx (r ⊳ h)
  over_then = over_more lay c scx h r run.lawful takes x.over

  -- what the row does to the pass's entries
  record Enters : Type 0 where
    unwon : ¬ HasOwnWon lay c (r ⊳ h) scx → entries_of c (log lay (r ⊳ h)) ≡ entries_of c (log lay start)
    won : HasOwnWon lay c (r ⊳ h) scx → (e : Entry) × (e.scx ≡ scx) × (entries_of c (log lay (r ⊳ h)) ≡ e ∷ entries_of c (log lay start))

  -- where it leaves them and what has won
  enters_same : entries_of c (log lay (r ⊳ h)) ≡ entries_of c (log lay h) → (HasOwnWon lay c (r ⊳ h) scx → HasOwnWon lay c h scx) → Enters
  enters_same e back = record {
    unwon = λ d. e ∙ x.unwon (λ w. d (w.0, won_more r h scx w.1));
    won = λ w. let y = x.won (back w) in (y.0, y.1, e ∙ y.2);
  }

  enters_win : (u : ℕ) → UpdateWins h r u → log lay (r ⊳ h) ≡ entry_of lay h u ∷ log lay h → Enters
  enters_win u w e = go (ℕ_discrete (owned.pass) c)
    where
      f : Facts lay h
      f = facts_before lay h r run.lawful

      owned : IsOwned lay (descriptor h u) u
      owned = (update_about f w).owned

      owner_at : owner lay u ≡ owned.pass
      owner_at = owner_is lay owned.pass u owned.scx

      go : Dec (owned.pass ≡ c) → Enters
      go (yes same) =
          let own : IsOwnScx lay c u = rw same at owned.scx in
          let hand : u ≡ scx = own_in_hand lay h c u scx x.sound.lawful x.over own (wins_in_progress lay h r u run.lawful w) in
          let first : ¬ HasOwnWon lay c h scx = λ z. update_is_first f w (rw hand z.1) in
          let all = ap (entries_of c) e ∙ entry_mine c (entry_of lay h u) (log lay h) (owner_at ∙ same) ∙ ap (λ es. entry_of lay h u ∷ es) (x.unwon first) in
          record {
            unwon = λ d. absurd (let y : HasWon (r ⊳ h) u = update_won f w in d (rw hand at own, rw hand at y));
            won = λ z. (entry_of lay h u, hand, all);
          }
      go (no apart) = enters_same (ap (entries_of c) e ∙ entry_others c (entry_of lay h u) (log lay h) (λ z. apart (sym owner_at ∙ z)))
          (λ z. ⊎_elim (λ q. absurd (apart (one_scx_owner lay owned.pass c u owned.scx (rw q at z.0)))) (λ q. (z.0, q)) (update_split f w scx z.1))

  enters : Enters
  enters = go (logs lay h r run.lawful)
    where
      go : Logs lay h r → Enters
      go (log_same e back) = enters_same (ap (entries_of c) e) (λ w. (w.0, back scx w.1))
      go (log_wins u w e) = enters_win u w e

  pub goes_more : IsShare lay (r ⊳ h) c left node scx → ((n : ℕ) → IsOwnScx lay c scx → IsInProgress (r ⊳ h) scx → IsMember (r ⊳ h) scx n → IsAmong snaps n) → CarriesOn allows lay c start (r ⊳ h) left node scx snaps
  goes_more share covers = record {
    sound = run;
    since = inr x.since;
    share = share;
    over = over_then;
    alone = λ snap d y. alone_more lay c h r snap (none snap d) (x.alone snap d y);
    unwon = enters.unwon;
    won = enters.won;
  }
    where
      none : (snap : Snap) → ¬ IsAmong snaps snap.node.0 → (s : ℕ) → IsOwnScx lay c s → IsInProgress (r ⊳ h) s → ¬ IsMember (r ⊳ h) s snap.node.0
      none snap d s own p m =
          let same : s ≡ scx = own_in_hand lay (r ⊳ h) c s scx run.lawful over_then own p in
          d (covers snap.node.0 (rw same at own) (rw same at p) (rw same at m))
