use Rattle.std.proofs.Common.{◌≡◌, true, Some, sym, ◌∙◌, ap, subst, refl, arith}
use Rattle.std.proofs.lemmas.Option.{slice_get_within}
use Rattle.histories.specs.Common.{Layout, IsLawful}
use Rattle.record.specs.Common.{asks_map, Command}
use Rattle.judge.specs.Histories.{seen_history}
use Rattle.audit.specs.After.{lines_of}
use Rattle.audit.proofs.Asking.{shows_tree}
use Rattle.audit.proofs.MapLines.{map_entry, next_of_mode}
use Rattle.audit.proofs.run.Replay.check_entry.Goals as goal

pub is_entry_for-requires : goal.is_entry_for-requires
is_entry_for-requires c =
    let few = slice_get_within c.args.self.now.clients.items c.args.client.now.pass.0 c.args.client.now c.requires.client in
    let all = c.requires.remembers.after.all in
    let lay = ap (λ (l : Layout). l.passes) c.requires.remembers.after.layout in
    omega (arith, few, all, lay)

pub is_ready-requires : goal.is_ready-requires
is_ready-requires c =
    let run = c.args.self.now in
    let map = sym (next_of_mode _ _ (lines_of run) c.args.client.now.pass.0 c.args.command.now run.record.now.script.of_mode c.requires.command) ∙ ap asks_map c.in-Map.is in
    shows_tree run c.requires.remembers map

pub returns-in_ok-require-in-Map : goal.returns-in_ok-require-in-Map
returns-in_ok-require-in-Map c = λ row n side lawful wins word.
    let run = c.args.self.now in
    let command = c.args.command.now in
    let ready = c.is_ready.ensures c.in_ok-require-in-Map.ensures in
    let begun = ready.begun in
    let own : begun.command ≡ command = ready.own in
    let mode : asks_map begun.command ≡ true = ap asks_map (own ∙ c.in-Map.is) in
    let next = c.requires.command ∙ ap (λ (k : Command). Some k) (sym own) in
    let there = subst (λ (l : Layout). IsLawful l (seen_history run.steps.judge) row) c.requires.remembers.after.layout lawful in
    map_entry _ run.record.now.script.limits.tries _ run.record.now.script.of_mode _ _ _ c.requires.remembers.map _ c.requires.remembers.after.seen c.args.client.now.pass.0 c.args.scx.0 row begun there wins next mode ready.known ready.suited command own _ _ _ refl
