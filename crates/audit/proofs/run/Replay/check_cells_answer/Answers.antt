use Rattle.std.proofs.Common.{ap, ◌∙◌, arith}
use Rattle.std.proofs.lemmas.Option.{slice_get_within}
use Rattle.arena.specs.declared.layout.Layout.{Layout}
use Rattle.audit.proofs.TrieShapes.{of_cells}
use Rattle.audit.proofs.run.Replay.check_cells_answer.Goals as goal

pub is_right-requires : goal.is_right-requires
is_right-requires c = record {
  pass = let few = slice_get_within c.args.self.now.clients.items c.args.client.now.pass.0 c.args.client.now c.requires.next.is_client in let all = c.requires.remembers.after.all in let lay = ap (λ (l : Layout). l.passes) c.requires.remembers.after.layout in omega arith;
  cells = ap (λ (l : Layout). l.mode) c.requires.remembers.after.layout ∙ of_cells _ c.requires.mode;
}
