-- To what is dead no step comes: of a call that began since its pass's last rest.
use Rattle.std.proofs.Common.{◌≡◌, ◌<◌, ℕ, inl, inr, refl, sym, ◌∙◌, ap, subst}
use Rattle.histories.specs.Common.{Layout, Node, Scx, Word, Row, History, ◌⊳◌, Extends, IsTakenNode, IsTakenScx, Lawful, Call}
use Rattle.arena.proofs.Lemmas.{ends_self, ends_trans}
use Rattle.histories.proofs.Lemmas.{lawful_row, lawful_since}
use Rattle.ordered_map.specs.Runs.{IsMapRun}
use Rattle.ordered_map.proofs.MapLemmas.{run_since}
use Rattle.touching.specs.Kinds.{IsInTree}
use Rattle.touching.specs.Left.{IsNamedByLeft}
use Rattle.touching.specs.Touches.{Touches, TouchesNode, TouchesScx, was_so, covered, own_node, named, in_progress, own_scx}
use Rattle.touching.proofs.Lemmas.{left_scx, left_untouched, step_touches, taken_scx_since}
use Rattle.resting.specs.Dead.{HasLeftUnmarked, IsLetGoScx}
use Rattle.resting.specs.Reach.{IsOutOfReach}
use Rattle.resting.specs.Records.{Record, the_node, the_scx, record_of}
use Rattle.resting.specs.Rests.{PassesOver, past_node, past_scx, IsRowSince, HaveRestedAt, AreSince}
use Rattle.resting.proofs.Rows.{taken_node_since}

abbrev pub InTree : Layout → History → ℕ → Type 0
InTree lay = IsInTree

-- Records and their words

abbrev pub number_of : Record → ℕ
number_of (the_node n) = n
number_of (the_scx s) = s

module _ (P : Layout → History → ℕ → Type 0) (c : Call) (h : History) where
  pub node_touched : (w : Word) (n : ℕ) → record_of w ≡ the_node n → Touches P c h w → TouchesNode P c h n
  node_touched (Node m part) n e x = subst (TouchesNode P c h) (ap number_of e) x
  node_touched (Scx s part) n e x = absurd (let d : the_scx s.0 ≡ the_node n = e in cc)

  pub scx_touched : (w : Word) (s : ℕ) → record_of w ≡ the_scx s → Touches P c h w → TouchesScx P c h s
  scx_touched (Scx u part) s e x = subst (TouchesScx P c h) (ap number_of e) x
  scx_touched (Node m part) s e x = absurd (let d : the_node m.0 ≡ the_scx s = e in cc)

  -- what was taken as the call began it comes to only by then
  node_begun : (n : ℕ) → IsTakenNode c.start n → TouchesNode P c h n → Extends h c.start
  node_begun n taken (was_so x) = ends_trans h x.moment c.start x.within x.since
  node_begun n taken (covered s x) = ends_trans h x.moment c.start x.within x.since
  node_begun n taken (own_node o free) = absurd (free taken)

  scx_begun : (s : ℕ) → IsTakenScx c.start s → TouchesScx P c h s → Extends h c.start
  scx_begun s taken (named n x y) = ends_trans h x.moment c.start x.within x.since
  scx_begun s taken (in_progress x) = ends_trans h x.moment c.start x.within x.since
  scx_begun s taken (own_scx o free) = absurd (free taken)

-- What the rows since a rest come to

-- no step of a call of the pass o that began at `rest` or later comes to the record
abbrev pub IsMissed : Layout → ℕ → History → History → Record → Type 0
IsMissed lay o g rest x = (c : Call) (r : Row) → c.layout ≡ lay → c.pass ≡ o → Extends c.start rest → Touches InTree c g r.word → ¬ (record_of r.word ≡ x)

-- nor does a row of it that passes over a name
abbrev pub IsNotPassed : Layout → ℕ → History → History → Record → Type 0
IsNotPassed lay o g rest x = (r : Row) → Lawful lay (r ⊳ g) → r.pass.0 ≡ o → PassesOver lay rest r → ¬ (record_of r.word ≡ x)

-- of layouts that are one
in_layout : (lay : Layout) (P : Layout → Type 0) (c : Call) → c.layout ≡ lay → P lay → P c.layout
in_layout lay P c e p = subst P (sym e) p

-- so it is out of reach
pub missed_out : (lay : Layout) (h : History) (last : ℕ → History) (x : Record)
    → ((k g : History) (o : ℕ) → Extends k h → IsMapRun lay k → HaveRestedAt lay k last → Extends k g → o < lay.passes → IsMissed lay o g (last o) x × IsNotPassed lay o g (last o) x)
    → IsOutOfReach lay h last x
missed_out lay h last x missed k g r e run rested within since = go ((rested o i).rows r g within since refl)
  where
    o : ℕ
    o = r.pass.0

    l : Lawful lay (r ⊳ g)
    l = lawful_since lay k (r ⊳ g) run.1.lawful within

    i : o < lay.passes
    i = (lawful_row lay g r l).pass

    here : IsMissed lay o g (last o) x × IsNotPassed lay o g (last o) x
    here = missed k g o e run rested (ends_trans k (r ⊳ g) g within (inr (ends_self g))) i

    go : IsRowSince lay o (last o) g r → ¬ (record_of r.word ≡ x)
    go (inl y) = here.0 y.call r y.layout y.pass y.since (step_touches y.call g r y.step)
    go (inr y) = here.1 r l refl y

-- what a pass had taken as it rested it does not pass over
module _ (lay : Layout) (o : ℕ) (g rest : History) where
  pub node_not_passed : (n : ℕ) → IsTakenNode rest n → IsNotPassed lay o g rest (the_node n)
  node_not_passed n taken r l own (past_node m free kind word) e = free (subst (IsTakenNode rest) (ap number_of (sym e ∙ ap record_of word)) taken)
  node_not_passed n taken r l own (past_scx s part its free word) e = absurd (let d : the_scx s ≡ the_node n = sym (ap record_of word) ∙ e in cc)

  pub scx_not_passed : (s : ℕ) → IsTakenScx rest s → IsNotPassed lay o g rest (the_scx s)
  scx_not_passed s taken r l own (past_scx u part its free word) e = free (subst (IsTakenScx rest) (ap number_of (sym e ∙ ap record_of word)) taken)
  scx_not_passed s taken r l own (past_node m free kind word) e = absurd (let d : the_node m ≡ the_scx s = sym (ap record_of word) ∙ e in cc)

-- So it is with what was taken by a moment t, behind which all have rested, if no call that began
-- since touches it.
module _ (lay : Layout) (h : History) (last : ℕ → History) (t : History) (since : AreSince lay last t) where
  pub node_out : (n : ℕ) → IsTakenNode t n → ((c : Call) (g : History) → c.layout ≡ lay → IsMapRun lay g → Extends g c.start → Extends c.start t → IsTakenNode c.start n → ¬ TouchesNode InTree c g n) → IsOutOfReach lay h last (the_node n)
  node_out n taken untouched = missed_out lay h last (the_node n) (λ k g o e run rested within i. (missed k g o run within i, node_not_passed lay o g (last o) n (taken_node_since (last o) t n (since o i) taken)))
    where
      missed : (k g : History) (o : ℕ) → IsMapRun lay k → Extends k g → o < lay.passes → IsMissed lay o g (last o) (the_node n)
      missed k g o run within i c r lay_is pass_is begun touches is = untouched c g lay_is (run_since lay k g run within) (node_begun InTree c g n start here) after start here
        where
          here : TouchesNode InTree c g n
          here = node_touched InTree c g r.word n is touches

          after : Extends c.start t
          after = ends_trans c.start (last o) t begun (since o i)

          start : IsTakenNode c.start n
          start = taken_node_since c.start t n after taken

  pub scx_out : (s : ℕ) → IsTakenScx t s → ((c : Call) (g : History) → c.layout ≡ lay → IsMapRun lay g → Extends g c.start → Extends c.start t → ¬ TouchesScx InTree c g s) → IsOutOfReach lay h last (the_scx s)
  scx_out s taken untouched = missed_out lay h last (the_scx s) (λ k g o e run rested within i. (missed k g o run within i, scx_not_passed lay o g (last o) s (taken_scx_since (last o) t s (since o i) taken)))
    where
      missed : (k g : History) (o : ℕ) → IsMapRun lay k → Extends k g → o < lay.passes → IsMissed lay o g (last o) (the_scx s)
      missed k g o run within i c r lay_is pass_is begun touches is = untouched c g lay_is (run_since lay k g run within) (scx_begun InTree c g s (taken_scx_since c.start t s after taken) here) after here
        where
          here : TouchesScx InTree c g s
          here = scx_touched InTree c g r.word s is touches

          after : Extends c.start t
          after = ends_trans c.start (last o) t begun (since o i)

  -- what has left unmarked, and SCX-records that are let go
  pub left_out : (n : ℕ) → HasLeftUnmarked t n → IsOutOfReach lay h last (the_node n)
  left_out n dead = node_out n dead.taken (λ c g e run began after taken. left_untouched c g t n (in_layout lay (λ l. IsMapRun l g) c e run) began after dead.left taken dead.mark)

  pub let_go_out : (s : ℕ) → IsLetGoScx lay t s → IsOutOfReach lay h last (the_scx s)
  let_go_out s dead = scx_out s dead.taken (λ c g e run began after. left_scx c g t s (in_layout lay (λ l. IsMapRun l g) c e run) began after dead.real dead.finished (in_layout lay (λ l. IsNamedByLeft l t s) c e dead.named))
