-- What a pass comes to of what nobody has taken is its own, and a call only fills it.
use Rattle.std.proofs.Common.{◌≡◌, inl, inr, sym, subst}
use Rattle.histories.specs.Common.{Layout, Row, Kind, Fill, Settled, Head, Word, Node, Scx, History, ◌⊳◌, node, MayFill, Obeys, Call}
use Rattle.arena.proofs.Lemmas.{ends_self}
use Rattle.histories.proofs.Lemmas.{lawful_row}
use Rattle.ordered_map.specs.Runs.{IsMapRun}
use Rattle.ordered_map.proofs.MapLemmas.{run_since}
use Rattle.touching.specs.Steps.{IsMapStep, IsOfUntaken}
use Rattle.touching.proofs.Lemmas.{IsOwnWord, own_touched, row_fills, step_touches}
use Rattle.resting.specs.Records.{record_of}
use Rattle.resting.specs.Rests.{IsRowSince, past_node, past_scx}
use Rattle.slots.specs.Lasting.{IsOwnRecord, IsUntaken}

of_untaken : (lay : Layout) (h : History) (w : Word) → IsUntaken lay h (record_of w) → IsOfUntaken lay h w
of_untaken lay h (Node n part) free = free
of_untaken lay h (Scx s part) free = free

own_record : (c : Call) (w : Word) → IsOwnWord c w → IsOwnRecord c.layout c.pass (record_of w)
own_record c (Node n part) own = own
own_record c (Scx s part) own = own

pub untaken_fills : (c : Call) (h : History) (r : Row) → IsMapStep c h r → IsUntaken c.layout h (record_of r.word) → r.kind ≡ Fill
untaken_fills c h r step free = row_fills c h r step (of_untaken c.layout h r.word free)

step_own : (c : Call) (h : History) (r : Row) → IsMapRun c.layout h → IsMapStep c h r → IsUntaken c.layout h (record_of r.word) → IsOwnRecord c.layout c.pass (record_of r.word)
step_own c h r run step free = own_record c r.word (own_touched c h run r.word (of_untaken c.layout h r.word free) (step_touches c h r step))

pub untaken_own : (lay : Layout) (h : History) (r : Row) (rest : History) → IsMapRun lay (r ⊳ h) → IsRowSince lay r.pass.0 rest h r → IsUntaken lay h (record_of r.word) → IsOwnRecord lay r.pass.0 (record_of r.word)
untaken_own lay h r rest run (inl x) free = subst (λ l. IsUntaken l h (record_of r.word) → IsOwnRecord l r.pass.0 (record_of r.word)) x.layout (subst (λ o. IsUntaken x.call.layout h (record_of r.word) → IsOwnRecord x.call.layout o (record_of r.word)) x.pass (step_own x.call h r (subst (λ l. IsMapRun l h) (sym x.layout) (run_since lay (r ⊳ h) h run (inr (ends_self h)))) x.step)) free
untaken_own lay h r rest run (inr (past_scx s part own since word)) free = subst (λ w. IsOwnRecord lay r.pass.0 (record_of w)) (sym word) own
untaken_own lay h r rest run (inr (past_node n since kind word)) free = subst (λ w. IsOwnRecord lay r.pass.0 (record_of w)) (sym word) may.own
  where
    any : MayFill lay h r.pass.0 r.word r.after
    any = subst (λ (k : Kind). Obeys lay h r k) kind (lawful_row lay h r run.1.lawful).obeys

    may : MayFill lay h r.pass.0 (node n (Settled Head)) r.after
    may = subst (λ w. MayFill lay h r.pass.0 w r.after) word any
