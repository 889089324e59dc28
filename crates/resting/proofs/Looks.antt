-- A look at each node of a finished SCX-record, at a moment of its own, tells what it would tell now.
use Rattle.std.proofs.Common.{◌≡◌, ◌≢◌, ◌<◌, ◌⊎◌, ℕ, true, inl, inr, sym, ◌∙◌, subst}
use native.Mathlib.Decide.{ℕ_discrete}
use Rattle.histories.specs.Common.{Layout, Member, Plan, History, ◌⊳◌, Extends, value, state, info, count, count_of, member, log, is_final, IsMember, IsNamedScx, WasInTheWay, Lawful}
use Rattle.arena.proofs.Lemmas.{held_at}
use Rattle.histories.proofs.Lemmas.{blame_info, lawful_since, scx_since, state_since}
use Rattle.ordered_map.specs.Runs.{IsMapRun}
use Rattle.prims.specs.Laws.InTheWay.{final_since}
use Rattle.touching.specs.Left.{HasLeft, IsNamedByLeft}
use Rattle.touching.specs.Rests.{IsLetGo}
use Rattle.touching.proofs.Lemmas.{left_since, let_go, named_cell}
use Rattle.resting.specs.Dead.{WasDoneWith}

module _ (lay : Layout) (h : History) (s n : ℕ) (run : IsMapRun lay h) (e : value h (info n) ≡ s) (cell : IsMember h s n) (m : History) (within : Extends h m) (over : value m (state s) ≢ 0) (real : s ≢ 0) where
  abbrev l : Lawful lay h
  l = run.1.lawful

  -- none that is finished is put in an info
  info_then : Dec (value m (info n) ≡ s) → value m (info n) ≡ s
  info_then (yes q) = q
  info_then (no d) =
      let w : WasInTheWay h m n (value h (info n)) = blame_info lay h m n l within (λ q. d (sym q ∙ e)) in
      let z : value (w.row ⊳ w.before) (state s) ≡ 0 = subst (λ u. value (w.row ⊳ w.before) (state u) ≡ 0) e w.running.unfinished in
      absurd (over (sym (state_since lay (w.row ⊳ w.before) m s (lawful_since lay h (w.row ⊳ w.before) l w.within) (inr w.since) over) ∙ z))

  holds : value m (info n) ≡ s
  holds = info_then (ℕ_discrete (value m (info n)) s)

  named : IsNamedScx m s
  named = (n, held_at m (info n) s holds)

  here : member m s cell.index ≡ n
  here = sym (scx_since lay h m s l within real named (Member cell.index) tt) ∙ cell.is

  place : cell.index < count m s
  place = subst (λ p. cell.index < count_of p) (scx_since lay h m s l within real named Plan tt) cell.within

  told : IsLetGo m s cell.index ⊎ ((is_final (log lay m) (member m s cell.index) ≡ true) ⊎ HasLeft m (member m s cell.index)) → (is_final (log lay h) n ≡ true) ⊎ HasLeft h n
  told (inl x) = inl (final_since lay h m n l within (let_go lay m s n (lawful_since lay h m l within) record { index = cell.index; within = place; is = here } x holds))
  told (inr (inl x)) = inl (final_since lay h m n l within (subst (λ v. is_final (log lay m) v ≡ true) here x))
  told (inr (inr x)) = inr (left_since lay h m n run within (subst (HasLeft m) here x))

pub looked : (lay : Layout) (h : History) (s : ℕ) → IsMapRun lay h → s ≢ 0 → ((j : ℕ) → j < count h s → WasDoneWith lay h s j) → IsNamedByLeft lay h s
looked lay h s run real look n e =
    let cell : IsMember h s n = named_cell lay h s n run.1.lawful real e in
    let x : WasDoneWith lay h s cell.index = look cell.index cell.within in
    told lay h s n run e cell x.0 x.1 x.2 real x.3
