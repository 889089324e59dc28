use Rattle.std.proofs.Common.{◌≡◌, ◌≢◌, ℕ, eqb-true, eq-eqb, true, false, ◌⊎◌, inl, inr, Bool, Option, None, Some, sym, ◌∙◌, arith, unwrap_or}
use Rattle.histories.specs.Common.{Layout, Turn, MemberIndex, Step, History, Lawful, MatchTurn}
use Rattle.help.specs.Help.Known.{Marks, HelpAsks, HasNext, IsLast, MarksNext, MarksNone, reading, HelpIsTold, HelpIsReady, HelpWaits, HelpWaitsAt, HelpAnswers}
use Rattle.help.proofs.HelpTurns.{to_member, to_seen, to_freeze, to_next, to_set_frozen, to_all_frozen, to_abort, to_committed, to_aborted, to_mark, to_new, to_old, to_update, to_commit, place_behind}
use Rattle.help.specs.declared.state.HelpRun.{HelpRun}
use Rattle.help.specs.declared.state.HelpAt.{HelpAt}
use Rattle.help.specs.declared.state.HelpAt.TheVariants.{Start, Plan, Member, Seen, Freeze, AllFrozen, Abort, SetFrozen, Mark, New, Old, Update}
use Rattle.help.proofs.machine.HelpRunMachine.next.Goals.{then-found-seen, else-found-seen}
use Rattle.help.proofs.machine.HelpRunMachine.next.Goals as goal

clash : {b : Bool} → b ≡ true → b ≡ false → ⊥
clash e f = cc

module _ (allows : Layout → History → ℕ → Type 0) (lay : Layout) (c : ℕ) (h : History) where
  -- what it has got at its place
  told : (m : HelpRun) (got : Option ℕ) (found : ℕ) (at : HelpAt) → m.at ≡ at → (at ≡ Start → ⊥) → found ≡ unwrap_or got 0 → HelpIsReady allows lay c m h got → HelpIsTold allows lay c h (reading m) at found
  told m None found at is d e r = absurd (d (sym is ∙ r.0))
  told m (Some v) found at is d e r = rw (e, sym is) r

  -- it asks for a step at a place where it may wait for it
  asks : {old now : HelpRun} {turn : Turn Bool} {at : HelpAt} {step : Step} → HelpAsks old now turn at step → HelpWaitsAt allows lay c h (reading old) at step → MatchTurn turn (HelpWaits allows lay c now h) (HelpAnswers lay c now h)
  asks a w = rw (a.asked, a.stands) w

  -- after a frozen node
  behind : {old now : HelpRun} {turn : Turn Bool} {j : MemberIndex} {expected v : ℕ} → Lawful lay h → (v ≡ expected) ⊎ (v ≡ old.scx.0) → HelpIsTold allows lay c h (reading old) (Freeze j expected) v → HasNext old now turn j ⊎ IsLast old now turn j → MatchTurn turn (HelpWaits allows lay c now h) (HelpAnswers lay c now h)
  behind {old} {j} {expected} {v} l won t (inl y) = asks y.asks (to_next (reading old) l j y.next expected v won y.is y.within t)
  behind {old} {j} {expected} {v} l won t (inr y) = asks y.asks (to_set_frozen (reading old) l j expected v won y.none t)

  -- after the nodes that are marked
  marks : {old now : HelpRun} {turn : Turn Bool} {p : ℕ} → Lawful lay h → Marks h (reading old) p → MarksNext old now turn p ⊎ MarksNone old now turn p → MatchTurn turn (HelpWaits allows lay c now h) (HelpAnswers lay c now h)
  marks {old} {p} l x (inl y) = asks y.asks (to_mark (reading old) l p y.next y.is y.first x)
  marks {old} {p} l x (inr y) = asks y.asks (to_new (reading old) l p y.none x)

pub returns-in-Plan-clause-turn : goal.returns-in-Plan-clause-turn
returns-in-Plan-clause-turn g c d h run r =
    let t = told g.S.Shape.allows d.layout d.pass h c.args.self.now c.args.got c.unwrap_or-found.result Plan c.in-Plan.is (λ e. cc) c.unwrap_or-found.ensures r in
    asks g.S.Shape.allows d.layout d.pass h (rw c.number.ensures.value at c.load-in-Plan.ensures) (to_member (reading c.args.self.now) run.lawful c.unwrap_or-found.result t)

pub returns-in-Member-clause-turn : goal.returns-in-Member-clause-turn
returns-in-Member-clause-turn g c d h run r =
    let t = told g.S.Shape.allows d.layout d.pass h c.args.self.now c.args.got c.unwrap_or-found.result (Member c.in-Member.j) c.in-Member.is (λ e. cc) c.unwrap_or-found.ensures r in
    asks g.S.Shape.allows d.layout d.pass h c.load-in-Member.ensures (rw (c.number-in-Member.ensures.value, c.index.ensures.value) (to_seen (reading c.args.self.now) run.lawful c.in-Member.j c.unwrap_or-found.result (let i = c.index.ensures.small in let e = c.index.ensures.value in omega arith) t))

pub returns-in-Seen-clause-turn : goal.returns-in-Seen-clause-turn
returns-in-Seen-clause-turn g c d h run r =
    let t = told g.S.Shape.allows d.layout d.pass h c.args.self.now c.args.got c.unwrap_or-found.result (Seen c.in-Seen.j) c.in-Seen.is (λ e. cc) c.unwrap_or-found.ensures r in
    asks g.S.Shape.allows d.layout d.pass h c.freeze.ensures (to_freeze (reading c.args.self.now) run.lawful c.in-Seen.j c.unwrap_or-found.result t)

pub returns-then-found-self-clause-turn : goal.returns-then-found-self-clause-turn
returns-then-found-self-clause-turn g c d h run r =
    let t = told g.S.Shape.allows d.layout d.pass h c.args.self.now c.args.got c.unwrap_or-found.result (Freeze c.in-Freeze.j c.in-Freeze.seen) c.in-Freeze.is (λ e. cc) c.unwrap_or-found.ensures r in
    let won : (c.unwrap_or-found.result ≡ c.in-Freeze.seen) ⊎ (c.unwrap_or-found.result ≡ c.args.self.now.scx.0) = elim c.if-found-seen.branch [
      | then-found-seen w ↦ inl w.if-found-seen.true
      | else-found-seen w ↦ inr (eqb-true c.unwrap_or-found.result c.args.self.now.scx.0 (sym w.value-is ∙ c.if-found-self.true))
    ] in
    behind g.S.Shape.allows d.layout d.pass h run.lawful won t c.after_freeze.ensures.turn

pub returns-else-found-self-clause-turn : goal.returns-else-found-self-clause-turn
returns-else-found-self-clause-turn g c d h run r =
    let t = told g.S.Shape.allows d.layout d.pass h c.args.self.now c.args.got c.unwrap_or-found.result (Freeze c.in-Freeze.j c.in-Freeze.seen) c.in-Freeze.is (λ e. cc) c.unwrap_or-found.ensures r in
    let lost : (c.unwrap_or-found.result ≢ c.in-Freeze.seen) × (c.unwrap_or-found.result ≢ c.args.self.now.scx.0) = elim c.if-found-seen.branch [
      | then-found-seen w ↦ absurd (clash (w.value-is ∙ eq-eqb c.unwrap_or-found.result c.in-Freeze.seen w.if-found-seen.true) c.if-found-self.false)
      | else-found-seen w ↦ (w.if-found-seen.false, λ e. clash (w.value-is ∙ eq-eqb c.unwrap_or-found.result c.args.self.now.scx.0 e) c.if-found-self.false)
    ] in
    asks g.S.Shape.allows d.layout d.pass h c.load_all_frozen.ensures (to_all_frozen (reading c.args.self.now) run.lawful c.in-Freeze.j c.in-Freeze.seen c.unwrap_or-found.result lost.0 lost.1 t)

pub returns-then-found-eq0-clause-turn : goal.returns-then-found-eq0-clause-turn
returns-then-found-eq0-clause-turn g c d h run r =
    let t = told g.S.Shape.allows d.layout d.pass h c.args.self.now c.args.got c.unwrap_or-found.result (AllFrozen c.in-AllFrozen.j c.in-AllFrozen.other) c.in-AllFrozen.is (λ e. cc) c.unwrap_or-found.ensures r in
    asks g.S.Shape.allows d.layout d.pass h c.finish.ensures (to_abort (reading c.args.self.now) run.lawful c.in-AllFrozen.j c.in-AllFrozen.other c.unwrap_or-found.result c.if-found-eq0.true t)

pub returns-else-found-eq0-clause-turn : goal.returns-else-found-eq0-clause-turn
returns-else-found-eq0-clause-turn g c d h run r =
    let t = told g.S.Shape.allows d.layout d.pass h c.args.self.now c.args.got c.unwrap_or-found.result (AllFrozen c.in-AllFrozen.j c.in-AllFrozen.other) c.in-AllFrozen.is (λ e. cc) c.unwrap_or-found.ensures r in
    to_committed g.S.Shape.allows d.layout d.pass h (reading c.args.self.now) run.lawful c.in-AllFrozen.j c.in-AllFrozen.other c.unwrap_or-found.result c.if-found-eq0.false t

pub returns-in-Abort-clause-turn : goal.returns-in-Abort-clause-turn
returns-in-Abort-clause-turn g c d h run r =
    let t = told g.S.Shape.allows d.layout d.pass h c.args.self.now c.args.got c.unwrap_or-found.result (Abort c.in-Abort.j c.in-Abort.found) c.in-Abort.is (λ e. cc) c.unwrap_or-found.ensures r in
    rw c.in-Abort.is (to_aborted g.S.Shape.allows d.layout d.pass h (reading c.args.self.now) run.lawful c.in-Abort.j c.in-Abort.found c.unwrap_or-found.result t)

pub returns-in-SetFrozen-clause-turn : goal.returns-in-SetFrozen-clause-turn
returns-in-SetFrozen-clause-turn g c d h run r =
    let t = told g.S.Shape.allows d.layout d.pass h c.args.self.now c.args.got c.unwrap_or-found.result SetFrozen c.in-SetFrozen.is (λ e. cc) c.unwrap_or-found.ensures r in
    marks g.S.Shape.allows d.layout d.pass h run.lawful t c.mark_from.ensures.turn

pub returns-in-Mark-clause-turn : goal.returns-in-Mark-clause-turn
returns-in-Mark-clause-turn g c d h run r =
    let t = told g.S.Shape.allows d.layout d.pass h c.args.self.now c.args.got c.unwrap_or-found.result (Mark c.in-Mark.j) c.in-Mark.is (λ e. cc) c.unwrap_or-found.ensures r in
    marks g.S.Shape.allows d.layout d.pass h run.lawful (rw (sym (place_behind c.in-Mark.j c.next.result c.next.ensures.valid c.next.ensures.value)) t) c.mark_from-in-Mark.ensures.turn

pub returns-in-New-clause-turn : goal.returns-in-New-clause-turn
returns-in-New-clause-turn g c d h run r =
    let t = told g.S.Shape.allows d.layout d.pass h c.args.self.now c.args.got c.unwrap_or-found.result New c.in-New.is (λ e. cc) c.unwrap_or-found.ensures r in
    asks g.S.Shape.allows d.layout d.pass h c.load-in-New.ensures (to_old (reading c.args.self.now) run.lawful c.unwrap_or-found.result t)

pub returns-in-Old-clause-turn : goal.returns-in-Old-clause-turn
returns-in-Old-clause-turn g c d h run r =
    let t = told g.S.Shape.allows d.layout d.pass h c.args.self.now c.args.got c.unwrap_or-found.result (Old c.in-Old.new) c.in-Old.is (λ e. cc) c.unwrap_or-found.ensures r in
    asks g.S.Shape.allows d.layout d.pass h c.update.ensures (to_update (reading c.args.self.now) run.lawful c.in-Old.new c.unwrap_or-found.result t)

pub returns-in-Update-clause-turn : goal.returns-in-Update-clause-turn
returns-in-Update-clause-turn g c d h run r =
    let t = told g.S.Shape.allows d.layout d.pass h c.args.self.now c.args.got c.unwrap_or-found.result Update c.in-Update.is (λ e. cc) c.unwrap_or-found.ensures r in
    asks g.S.Shape.allows d.layout d.pass h c.finish-in-Update.ensures (to_commit (reading c.args.self.now) run.lawful c.unwrap_or-found.result t)
