use Rattle.std.proofs.Common.{◌≡◌, ℕ, ◌∷◌, Some, None, eqb-true, ◌∙◌, rules}
use Rattle.histories.specs.Common.{Side, ScxNo, ◌⊳◌, value, IsWin, log, entry, child, info}
use Rattle.judge.specs.Histories.{seen_history}
use Rattle.audit.proofs.Fitting.{win_fits, if_there}
use Rattle.audit.proofs.run.Replay.check_win.Goals as goal

pub returns : goal.returns
returns c = λ number is.
    let judge = c.args.self.now.steps.judge in
    let row = c.args.row.now in
    let scx = c.args.entry.now.scx in
    let won : c.winner.result ≡ Some scx = search rules in
    let wins = if_there (λ (s : ScxNo). IsWin (seen_history judge) row s.0) c.winner.result scx c.winner.ensures.wins won in
    let holds = if_there (λ (s : ScxNo). (n : ℕ) → (side : Side) → row.word ≡ child n side → s.0 ≡ value (seen_history judge) (info n)) c.winner.result scx c.winner.ensures.holds won in
    let logged = if_there (λ (s : ScxNo). (n : ℕ) × (side : Side) × (row.word ≡ child n side) × (log judge.layout (row ⊳ seen_history judge) ≡ entry judge.layout (seen_history judge) s.0 n side row.after ∷ log judge.layout (seen_history judge))) c.winner.result scx c.winner.ensures.logged won in
    let unwon : c.in_ok-client.client.won ≡ None = search rules in
    win_fits c.args.self.now number row c.args.entry.now c.in_ok-client.client c.in-Some.command c.requires.remembers.after is c.in_ok-client.ensures.after c.in-Some.ensures c.in_ok-client.ensures.pass wins logged holds unwon (eqb-true _ _ c.in_ok-require-3.ensures) (λ d. c.has_begun.ensures c.in_ok-require-4.ensures (λ e. d (e ∙ c.in_ok-client.ensures.after.pass))) (λ n side word. c.in_ok-check_entry.ensures row n side c.requires.lawful wins word)
