-- What a call over snapshots knows since its start stays, whatever rows come.
use Rattle.std.proofs.Common.{◌≡◌, ◌≢◌, ℕ, inr, inl, ◌∙◌, subst, List}
use Rattle.histories.specs.Common.{Layout, Row, Fill, NodeWord, ScxWord, Plan, New, Old, Member, Seen, node, scx, History, Opened, ◌⊳◌, value, Extends, IsOwnScx, IsTakenScx, Lawful, Call}
use Rattle.arena.specs.declared.word.ScxWord.TheVariants.{Call as CallWord}
use Rattle.arena.proofs.Lemmas.{taken_scx_more}
use Rattle.histories.proofs.Lemmas.{IsScxFill, untaken_by_node, untaken_by_other_fill, untaken_by_others, untaken_by_step}
use Rattle.prims.specs.Vlx.Known.{HasBegun}
use Rattle.prims.specs.Scx.Known.{IsUnderWay, HasFilled}
use Rattle.prims.specs.declared.snap.Snap.{Snap}
use Rattle.prims.specs.declared.update.Update.{Update}

-- an SCX-record that was taken at a moment is taken ever after
pub taken_since : (h k : History) (s : ℕ) → Extends h k → IsTakenScx k s → IsTakenScx h s
taken_since (Opened o) k s e t = subst (λ m. IsTakenScx m s) e t
taken_since (r ⊳ h) k s (inl e) t = subst (λ m. IsTakenScx m s) e t
taken_since (r ⊳ h) k s (inr e) t = taken_scx_more r h s (taken_since h k s e t)

-- Rows

-- the row takes no SCX-record of the pass c but s
abbrev pub TakesOnly : Layout → ℕ → ℕ → History → Row → Type 0
TakesOnly lay c s h r = (t : ℕ) → IsOwnScx lay c t → t ≢ s → ¬ IsTakenScx h t → ¬ IsTakenScx (r ⊳ h) t

-- a row of another pass takes no SCX-record of the pass
pub takes_by_others : (lay : Layout) (c s : ℕ) (h : History) (r : Row) → Lawful lay (r ⊳ h) → r.pass.0 ≢ c → TakesOnly lay c s h r
takes_by_others lay c s h r l other t own d free = untaken_by_others lay h r c t l other own free

-- a row that is no fill takes no SCX-record
pub takes_by_step : (lay : Layout) (c s : ℕ) (h : History) (r : Row) → r.kind ≢ Fill → TakesOnly lay c s h r
takes_by_step lay c s h r no_fill t own d free = untaken_by_step h r t no_fill free

-- a fill of s takes no SCX-record but s
pub takes_by_fill : (lay : Layout) (c s : ℕ) (h : History) (r : Row) (part : ScxWord) → r.word ≡ scx s part → TakesOnly lay c s h r
takes_by_fill lay c s h r part w t own d free = untaken_by_other_fill h r s t part w d free

-- a row on a word of a node takes no SCX-record
pub takes_by_node : (lay : Layout) (c s : ℕ) (h : History) (r : Row) (n : ℕ) (part : NodeWord) → r.word ≡ node n part → TakesOnly lay c s h r
takes_by_node lay c s h r n part w t own d free = untaken_by_node h r n t part w free

-- What stays

-- what a call over snapshots knows since its start stays true, if the row takes no SCX-record but s
pub begun_more : (c : Call) (h : History) (r : Row) (s : ℕ) (snaps : List Snap) → TakesOnly c.layout c.pass s h r → HasBegun c h s snaps → HasBegun c (r ⊳ h) s snaps
begun_more c h r s snaps takes x = record { since = inr x.since; clear = x.clear; only = λ t own d free. takes t own d (x.only t own d free) }

-- that a call on s is under way stays true, if the row takes no SCX-record but s
pub way_more : (c : Call) (h : History) (r : Row) (s : ℕ) (snaps : List Snap) → TakesOnly c.layout c.pass s h r → IsUnderWay c h s snaps → IsUnderWay c (r ⊳ h) s snaps
way_more c h r s snaps takes x = record { begun = begun_more c h r s snaps takes x.begun; free = x.free }

-- that the words of s hold what the update wants stays true, if the row leaves them
pub filled_more : (c : Call) (h : History) (r : Row) (s number : ℕ) (u : Update) → TakesOnly c.layout c.pass s h r → ((a : ScxWord) → IsScxFill a → value (r ⊳ h) (scx s a) ≡ value h (scx s a)) → HasFilled c h s number u → HasFilled c (r ⊳ h) s number u
filled_more c h r s number u takes same x = record {
  own = x.own;
  way = way_more c h r s u.snaps takes x.way;
  over = x.over;
  planned = same Plan tt ∙ x.planned;
  fresh = same New tt ∙ x.fresh;
  expected = same Old tt ∙ x.expected;
  members = λ j i. same (Member j) tt ∙ x.members j i;
  found = λ j i. same (Seen j) tt ∙ x.found j i;
  called = same CallWord tt ∙ x.called;
}
