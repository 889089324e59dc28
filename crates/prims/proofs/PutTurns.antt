-- What a run of SCX with a fresh cell knows and waits for after each of its turns.
use Rattle.std.proofs.Common.{◌≡◌, ℕ, Option, Some, None, List, [], ◌∷◌, inr, refl, sym, ◌∙◌, ap, subst}
use Rattle.histories.specs.Common.{Layout, Turn, Ask, Done as End, Row, New, Side, node, scx, child, first_value, History, ◌⊳◌, value, Extends, new, IsNamed, by_scx, Lawful, HasWon, Entry, Call, MatchTurn}
use Rattle.arena.proofs.Lemmas.{ends_self, ends_trans, held_now}
use Rattle.histories.proofs.Lemmas.{facts_before, lawful_row, lawful_since, node_since, update_is_first}
use Rattle.prims.specs.BlankNodes.{WasBlank}
use Rattle.prims.specs.Laws.BlankRows.{was_blank_at}
use Rattle.prims.specs.Laws.Wins.{IsWonAt, won_logged, won_was_named}
use Rattle.prims.specs.Scx.Known.{IsUnderWay, IsEntryAt, ScxIsReady, ScxWaits, ScxAnswers}
use Rattle.prims.specs.Put.Known.{HasValue, IsFirstPut, put_step, PutWaitsAt, PutWaits, PutIsToldAt, PutIsReady, PutAnswers}
use Rattle.prims.specs.declared.scx.ScxRun.{ScxRun}
use Rattle.prims.specs.declared.scx.Scx.{Scx as Answer}
use Rattle.prims.specs.declared.scx.Scx.TheVariants.{Done, Lost}
use Rattle.prims.specs.declared.put.PutRun.{PutRun}
use Rattle.prims.specs.declared.put.PutAt.TheVariants.{Start, Fill as AtFill, Scx}

-- a call that begins now has an SCX-record that was not taken before it
pub first_way : (allows : Layout → History → ℕ → Type 0) (m : PutRun) (c : Call) (h : History) → IsFirstPut allows m c h → IsUnderWay c h m.scx.scx.0 m.scx.update.snaps
first_way allows m c h x = record {
  begun = record { since = rw x.begins (ends_self c.start); clear = rw x.begins at x.clear; only = λ t own d free. rw x.begins free };
  free = rw x.begins at x.free;
}

-- what it has got

-- what is known at the start of a run
pub told_first : (allows : Layout → History → ℕ → Type 0) (m : PutRun) (c : Call) (h : History) (got : Option ℕ) → m.at ≡ Start → PutIsReady allows m c h got → IsFirstPut allows m c h
told_first allows m c h None is r = r
told_first allows m c h (Some v) is r = absurd (rw is at r)

-- what is known where the run is in its SCX
pub told_scx : (allows : Layout → History → ℕ → Type 0) (m : PutRun) (c : Call) (h : History) (got : Option ℕ) → m.at ≡ Scx → PutIsReady allows m c h got → HasValue c h m.scx.scx.0 m.scx.update.fresh.0 m.value × ScxIsReady allows m.scx c h got
told_scx allows m c h None is r = absurd (let e : Scx ≡ Start = sym is ∙ r.stands in cc)
told_scx allows m c h (Some v) is r = subst (λ at. PutIsToldAt allows c h m at v) is r

-- the run begins with the fill of its fresh node
pub put_turn_start : (allows : Layout → History → ℕ → Type 0) (m : PutRun) (c : Call) (h : History) → IsFirstPut allows m c h → PutWaitsAt allows c h (record m { at = AtFill }) AtFill (put_step m)
put_turn_start allows m c h x = (x.hand, first_way allows m c h x, refl, rw x.begins (was_blank_at c.start m.scx.scx.0 m.scx.update.fresh.0 (rw x.begins at x.blank)))

-- the fresh node of the newest entry
newest_fresh : List Entry → ℕ
newest_fresh [] = 0
newest_fresh (e ∷ es) = e.new

-- just before its entry the fresh node had the value that it has now
pub value_before : (c : Call) (h : History) (m : ScxRun) (v : ℕ) (row : Row) (before : History) → Lawful c.layout h → IsEntryAt c h m row before → value h (node m.update.fresh.0 first_value) ≡ v → value before (node m.update.fresh.0 first_value) ≡ v
unfolding newest_fresh
value_before c h m v row before l x e = sym (node_since c.layout h before m.update.fresh.0 first_value l before_ends tt named) ∙ e
  where
    y : IsWonAt c.layout h m.scx.0
    y = record { row = row; before = before; within = x.within; wins = x.wins }

    before_ends : Extends h before
    before_ends = ends_trans h (row ⊳ before) before x.within (inr (ends_self before))

    fresh : new before m.scx.0 ≡ m.update.fresh.0
    fresh = ap newest_fresh (sym (won_logged c.layout h m.scx.0 l y) ∙ x.logged)

    named : IsNamed c.layout before m.update.fresh.0
    named = subst (IsNamed c.layout before) fresh (by_scx m.scx.0 New (won_was_named c.layout h m.scx.0 l y) tt (held_now before (scx m.scx.0 New)))

-- just before its entry the fields of the fresh node were 0
pub empty_before : (c : Call) (h : History) (m : ScxRun) (row : Row) (before : History) → Lawful c.layout h → IsEntryAt c h m row before → WasBlank c.start h m.scx.0 m.update.fresh.0 → (side : Side) → value before (child m.update.fresh.0 side) ≡ 0
empty_before c h m row before l x b = (b.blank before (ends_trans h (row ⊳ before) before x.within (inr (ends_self before))) x.since unwon).empty
  where
    lawful : Lawful c.layout (row ⊳ before)
    lawful = lawful_since c.layout h (row ⊳ before) l x.within

    unwon : ¬ HasWon before m.scx.0
    unwon = update_is_first (facts_before c.layout before row lawful) record { kind = x.wins.kind; update = x.wins.update; before = (lawful_row c.layout before row lawful).before; found = x.wins.found; stored = x.wins.update.exchange.won x.wins.found }

module _ (allows : Layout → History → ℕ → Type 0) (c : Call) (h : History) (l : Lawful c.layout h) where
  -- its SCX asks for a step, or has answered, and so has the run
  pub turn_scx : (old now : PutRun) (turn : Turn Answer) → now.at ≡ Scx → now.value ≡ old.value → now.scx.scx ≡ old.scx.scx → now.scx.update ≡ old.scx.update → HasValue c h old.scx.scx.0 old.scx.update.fresh.0 old.value → MatchTurn turn (ScxWaits allows now.scx c h) (ScxAnswers now.scx c h) → MatchTurn turn (PutWaits allows now c h) (PutAnswers now c h)
  turn_scx old now turn is e s f x = go turn
    where
      y : HasValue c h now.scx.scx.0 now.scx.update.fresh.0 now.value
      y = rw (e, s, f) x

      go : (turn : Turn Answer) → MatchTurn turn (ScxWaits allows now.scx c h) (ScxAnswers now.scx c h) → MatchTurn turn (PutWaits allows now c h) (PutAnswers now c h)
      go (Ask k) w = subst (λ at. PutWaitsAt allows c h now at k) (sym is) (y, w)
      go (End Done) a = (y, record { done = a; value = value_before c h now.scx now.value a.entry.row a.entry.before l a.entry.is y.value; empty = empty_before c h now.scx a.entry.row a.entry.before l a.entry.is y.blank })
      go (End (Lost n u)) a = (y, a)
