use Rattle.std.proofs.Common.{arith, rules, Ok}
use Rattle.arena.specs.declared.word.SettledPart.TheVariants.{High, Key, Value}
use Rattle.edits.specs.Next.{half_told, placed, told}
use Rattle.edits.specs.declared.update.Next.TheVariants.{Read}
use Rattle.edits.proofs.Lemmas.{key_then_value, told_nearer, value_then_high}
use Rattle.tables.specs.Traces.{shared_nodes}
use Rattle.straight.specs.Hands.{names}
use Rattle.straight.proofs.StraightUpdate.{pair_steps, reads_next, reads_on, waits_high, waits_value}
use Rattle.straight.proofs.reads.read_pair.Goals as goal

pub step-key-requires-clause-waits : goal.step-key-requires-clause-waits
step-key-requires-clause-waits g c = let r = c.requires.tries in let u = r.0 in
    (u.call, u.first, u.with_run (placed g.E.Edit.means c.args.run.now c.args.found.now (Read c.args.node (Key c.args.slot))), (u.is_layout, u.is_number), r.1)

pub step-low-requires-clause-waits : goal.step-low-requires-clause-waits
step-low-requires-clause-waits g c =
    let r = c.requires.tries in
    let u = r.0 in
    let is_key = (reads_next u _ c.args.run.now c.args.found.now c.args.node (Key c.args.slot) r.1).1 in
    let low = waits_value u _ c.args.run.now c.args.found.now c.args.node c.args.slot c.step-key.result c.requires.pair is_key (c.step-key.ensures.told u.call u.first (u.with_run (placed g.E.Edit.means c.args.run.now c.args.found.now (Read c.args.node (Key c.args.slot)))) (u.is_layout, u.is_number) r.1) in
    (u.call, u.first, u.with_run (placed g.E.Edit.means (told c.args.run.now (Key c.args.slot) c.step-key.result) c.args.found.now (Read c.args.node (Value c.args.slot))), (u.is_layout, u.is_number), low)

pub step-high-requires-clause-waits : goal.step-high-requires-clause-waits
step-high-requires-clause-waits g c =
    let r = c.requires.tries in
    let u = r.0 in
    let is_key = (reads_next u _ c.args.run.now c.args.found.now c.args.node (Key c.args.slot) r.1).1 in
    let low = waits_value u _ c.args.run.now c.args.found.now c.args.node c.args.slot c.step-key.result c.requires.pair is_key (c.step-key.ensures.told u.call u.first (u.with_run (placed g.E.Edit.means c.args.run.now c.args.found.now (Read c.args.node (Key c.args.slot)))) (u.is_layout, u.is_number) r.1) in
    let is_low = key_then_value c.args.run.now.read c.args.slot c.step-key.result c.requires.pair is_key in
    let high = waits_high u _ (told c.args.run.now (Key c.args.slot) c.step-key.result) c.args.found.now c.args.node c.args.slot c.step-low.result is_low (c.step-low.ensures.told u.call u.first (u.with_run (placed g.E.Edit.means (told c.args.run.now (Key c.args.slot) c.step-key.result) c.args.found.now (Read c.args.node (Value c.args.slot)))) (u.is_layout, u.is_number) low) in
    (u.call, u.first, u.with_run (placed g.E.Edit.means (half_told c.args.run.now c.args.slot c.step-key.result c.step-low.result) c.args.found.now (Read c.args.node (High c.args.slot))), (u.is_layout, u.is_number), high)

pub returns-clause-goes_on : goal.returns-clause-goes_on
returns-clause-goes_on g c = record {
  table = search rules;
  to = λ u x.
      let is_key = (reads_next u _ c.args.run.now c.args.found.now c.args.node (Key c.args.slot) x).1 in
      let low = waits_value u _ c.args.run.now c.args.found.now c.args.node c.args.slot c.step-key.result c.requires.pair is_key (c.step-key.ensures.told u.call u.first (u.with_run (placed g.E.Edit.means c.args.run.now c.args.found.now (Read c.args.node (Key c.args.slot)))) (u.is_layout, u.is_number) x) in
      let is_low = key_then_value c.args.run.now.read c.args.slot c.step-key.result c.requires.pair is_key in
      let high = waits_high u _ (told c.args.run.now (Key c.args.slot) c.step-key.result) c.args.found.now c.args.node c.args.slot c.step-low.result is_low (c.step-low.ensures.told u.call u.first (u.with_run (placed g.E.Edit.means (told c.args.run.now (Key c.args.slot) c.step-key.result) c.args.found.now (Read c.args.node (Value c.args.slot)))) (u.is_layout, u.is_number) low) in
      reads_on u _ (half_told c.args.run.now c.args.slot c.step-key.result c.step-low.result) c.read_pair.new.self c.args.found.now c.args.node (High c.args.slot) c.step-high.result (Ok c.read_pair.result) c.read_pair.ensures.same c.read_pair.ensures.tries c.read_pair.ensures.spends (λ b h. c.read_pair.ensures.turn u.call b h)
      (c.step-high.ensures.told u.call u.first (u.with_run (placed g.E.Edit.means (half_told c.args.run.now c.args.slot c.step-key.result c.step-low.result) c.args.found.now (Read c.args.node (High c.args.slot)))) (u.is_layout, u.is_number) high);
  later = (let one = c.step-key.ensures.one in let two = c.step-low.ensures.one in let three = c.step-high.ensures.one in omega (arith, one, two, three));
  steps = (
      let r = c.requires.tries in
      let nodes = shared_nodes (names c.args.hand) in
      let known = reads_next r.0 _ c.args.run.now c.args.found.now c.args.node (Key c.args.slot) r.1 in
      let is_key = known.1 in
      let is_low = key_then_value c.args.run.now.read c.args.slot c.step-key.result c.requires.pair is_key in
      let is_high = value_then_high (told c.args.run.now (Key c.args.slot) c.step-key.result).read c.args.slot c.step-low.result is_low in
      pair_steps _ _ _ _ _ _ _ _ c.step-key.ensures.one c.step-low.ensures.one c.step-high.ensures.one
      (c.read_pair.ensures.nearer known.0 nodes is_high)
      (told_nearer g.E.Edit.means (told c.args.run.now (Key c.args.slot) c.step-key.result) c.args.found.now c.args.node (Value c.args.slot) (High c.args.slot) c.step-low.result nodes is_low is_high)
      (told_nearer g.E.Edit.means c.args.run.now c.args.found.now c.args.node (Key c.args.slot) (Value c.args.slot) c.step-key.result nodes is_key is_low));
}
