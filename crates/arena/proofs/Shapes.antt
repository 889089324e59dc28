-- What a shape knows of every run under it, and runs of one shape as runs of another.
use Rattle.std.proofs.Common.{ℕ, ⊎_elim, inl, inr}
use Rattle.arena.specs.declared.layout.Layout.{Layout}
use Rattle.arena.specs.History.{History, Opened, ◌⊳◌}
use Rattle.arena.specs.Shape.{Shaped}
use Rattle.arena.specs.Machines.{IsRun}

-- a run under a shape is one under any other that allows as much
shaped_as : (allows wider : Layout → History → ℕ → Type 0) (lay : Layout) → ((h : History) (s : ℕ) → allows lay h s → wider lay h s) → (h : History) → Shaped allows lay h → Shaped wider lay h
unfolding Shaped
shaped_as allows wider lay f (Opened o) x = ⊎_elim inl (λ a. inr (f (Opened o) 0 a)) x
shaped_as allows wider lay f (r ⊳ h) x = (shaped_as allows wider lay f h x.0, λ s b. f h s (x.1 s b))

pub run_as : (allows wider : Layout → History → ℕ → Type 0) (lay : Layout) → ((h : History) (s : ℕ) → allows lay h s → wider lay h s) → (h : History) → IsRun allows lay h → IsRun wider lay h
run_as allows wider lay f h run = record { lawful = run.lawful; shaped = shaped_as allows wider lay f h run.shaped }
