-- What a call does not touch: what was out as it began.
use Rattle.std.proofs.Common.{◌≡◌, ◌≢◌, ℕ, true, false, sym, ◌∙◌}
use Rattle.histories.specs.Common.{History, Extends, value, state, log, is_final, IsTakenNode, Lawful, Call}
use Rattle.histories.proofs.Lemmas.{finished_taken, lawful_since, state_since}
use Rattle.prims.specs.Laws.InTheWay.{open_before}
use Rattle.touching.specs.Fresh.{WasNamedInCall}
use Rattle.touching.specs.Kinds.{IsNotFinal}
use Rattle.touching.specs.Touches.{WasCovered, WasSo, TouchesNode, was_so, covered, own_node, TouchesScx, named, in_progress, own_scx}

module _ (c : Call) (h : History) (l : Lawful c.layout h) (since : Extends h c.start) where
  -- what was not final at a moment of the call was not as it began
  open_then : (n : ℕ) → WasSo IsNotFinal c h n → is_final (log c.layout c.start) n ≡ false
  open_then n x = open_before c.layout x.moment c.start n (lawful_since c.layout h x.moment l x.within) x.since x.was

  -- a final node is touched only where an SCX-record in progress covers it
  pub final_covered : (n : ℕ) → is_final (log c.layout c.start) n ≡ true → IsTakenNode c.start n → TouchesNode IsNotFinal c h n → (s : ℕ) × WasCovered c h s n
  final_covered n e taken (was_so x) = absurd (let f : true ≡ false = sym e ∙ open_then n x in cc)
  final_covered n e taken (covered s x) = (s, x)
  final_covered n e taken (own_node o free) = absurd (free taken)

  -- and a finished SCX-record only where a node has named it that was not final as the call began
  pub finished_named : (s : ℕ) → s ≢ 0 → value c.start (state s) ≢ 0 → TouchesScx IsNotFinal c h s → WasNamedInCall c h s
  finished_named s real d (named n x y) = record { node = n; not_final = open_then n x; named = y }
  finished_named s real d (in_progress x) =
      let e : value x.moment (state s) ≡ value c.start (state s) = state_since c.layout x.moment c.start s (lawful_since c.layout h x.moment l x.within) x.since d in
      absurd (d (sym e ∙ x.was.unfinished))
  finished_named s real d (own_scx o free) = absurd (free (finished_taken c.layout c.start s (lawful_since c.layout h c.start l since) real d))
