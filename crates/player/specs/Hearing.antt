-- What becomes of a client whose machine alone gets what its step found.
use Rattle.std.specs.Prelude.{◌≡◌, ℕ, ◌+◌, ◌≤◌, length, Option, Some, None}
use Rattle.arena.specs.TakenNodes.{taken_nodes}
use Rattle.player.specs.declared.client.Client.{Client}
use Rattle.player.specs.declared.client.Running.{Running}
use Rattle.player.specs.declared.run.Ended.{Ended}
use Rattle.player.specs.RunKnown.{RunAnswers}
use Rattle.player.specs.RunSteps.{then_left}
use Rattle.player.specs.ClientView.{ClientView, Works, GoesOn, machine_call, call_steps}

-- the machine has answered, and still is where it ran
pub record HasAnswered (v : ClientView) (c : Client) (running : Running) (ended : Ended) : Type 0 where
  pub works : Works v c running.run running.then
  pub answers : RunAnswers running.run (machine_call v c works.is_pass works.start) v.past ended
  pub few : (taken : ℕ) → length (taken_nodes v.past) ≤ taken → v.steps + then_left running.then ≤ call_steps v works.command taken

-- it asks for another step, or has answered
abbrev pub HasHeard : ClientView → Client → Option Running → Option Ended → Type 0
HasHeard v c now None = GoesOn v c (record c { running = now })
HasHeard v c now (Some ended) = (running : Running) × (now ≡ Some running) × HasAnswered v (record c { running = now }) running ended
