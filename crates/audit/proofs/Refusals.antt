-- What is remembered of a call that is refused makes its answer right.
use Rattle.std.proofs.Common.{◌≡◌, ℕ, ◌<◌, List, Option, Some, IsSome, refl, sym, subst, None}
use Rattle.histories.specs.Common.{Layout, Resource, NodeNo, ScxNo}
use Rattle.record.specs.Common.{Call, Command, Contended, NoMemory, Full as FullOf, Request, Map, HasLostAllTries, IsRight, IsPlaced, linked, IsFitting}
use Rattle.record.specs.Common.{history, begin, start, won, MapCall, MapReply, map_call, reply_told, written_log, entries_of_call, IsPlacedOnMap, map_request}
use Rattle.record.specs.declared.record.Line.{Line}
use Rattle.record.specs.declared.record.Finished.{Finished}
use Rattle.record.specs.declared.record.Answer.{Answer}
use Rattle.record.specs.declared.record.Answer.TheVariants.{Map as MapAnswer}
use Rattle.record.specs.Rules.Edit.{FindsFirst}
use Rattle.record.specs.Shares.{HasTooFewToTry}
use Rattle.linearization.specs.declared.places.Change.{Change}
use Rattle.audit.specs.Asked.{IsAsked, NeededSomething, NeededWithin}
use Rattle.audit.specs.declared.client.ClientState.{ClientState}
use Rattle.record.specs.Placed.{IsRefused}
use Rattle.record.proofs.Lemmas.{entries_none}
use Rattle.audit.proofs.EachCall.{contended_right, full_right, memory_right, refused_unwon}
use Rattle.audit.proofs.MapAnswers.{either_fits}

module _ (lay : Layout) (tries : ℕ) (calls : List Call) (lines : List Line) (changed : List Change) (client : ClientState) (request : Request ℕ ℕ) (r : Finished) (x : IsAsked lay tries calls lines changed client (Map request) r) where
  begun_now : IsSome (begin lines client.pass.0)
  begun_now = subst (λ (n : ℕ). IsSome (begin lines n)) (sym x.pass) (rw x.begun refl)

  abbrev RightIs : Answer → Type 0
  RightIs = IsRight lay tries r.client.0 (history lay.mode lines) (start lay.mode lines r.client.0) (linked calls lay.mode lines r.client.0) (Map request)

  pub right_contended : (node : NodeNo) (scx : ScxNo) → r.answer ≡ MapAnswer (Contended node scx) → (IsSome (begin lines client.pass.0) → HasLostAllTries lay tries client.pass.0 (history lay.mode lines) (start lay.mode lines client.pass.0) node.0 scx.0) → (FindsFirst lay (map_request request) → NeededSomething calls lines (map_request request) r) → RightIs r.answer
  right_contended node scx answers lost needed =
      let own = subst (λ (n : ℕ). HasLostAllTries lay tries n (history lay.mode lines) (start lay.mode lines n) node.0 scx.0) x.pass (lost begun_now) in
      subst RightIs (sym answers) (contended_right lay tries calls lines changed client request r x node scx answers own needed)

  pub right_full : (nodes : ℕ) (what : Resource) (left : ℕ) → 0 < nodes → NeededWithin calls lines (map_request request) nodes r → (IsSome (begin lines client.pass.0) → HasTooFewToTry lay client.pass.0 (history lay.mode lines) (start lay.mode lines client.pass.0) nodes what left) → RightIs (MapAnswer (FullOf record { what = what; left = left }))
  right_full nodes what left some needed few =
      let own = subst (λ (n : ℕ). HasTooFewToTry lay n (history lay.mode lines) (start lay.mode lines n) nodes what left) x.pass (few begun_now) in
      full_right lay tries calls lines changed client request r x nodes what left some needed own

  pub right_no_memory : r.answer ≡ MapAnswer NoMemory → RightIs r.answer
  right_no_memory answers = subst RightIs (sym answers) (memory_right lay tries r.client.0 (history lay.mode lines) (start lay.mode lines r.client.0) (linked calls lay.mode lines r.client.0) (map_request request) (either_fits lines (Map request) (MapAnswer NoMemory) (subst (IsFitting lines (Map request)) answers x.fits)))

module _ (lay : Layout) (tries : ℕ) (calls : List Call) (lines : List Line) (changed : List Change) (client : ClientState) (command : Command) (r : Finished) (x : IsAsked lay tries calls lines changed client command r) where
  -- it is placed nowhere
  is_refused : reply_told r.answer ≡ None → r.moment ≡ None → IsRefused lines r
  is_refused none nowhere = record {
    none = subst (λ (n : ℕ). entries_of_call r.client.0 n (written_log lines) ≡ 0) (sym x.number) (entries_none lay tries calls lines x.in_order r.client.0 (refused_unwon command x.of_map.0 r.answer (won lay lines r.client.0) x.of_map.1 none x.entry));
    moment = nowhere;
  }

-- a refusal that has no moment is placed
pub refused_placed : (lay : Layout) (tries : ℕ) (calls : List Call) (lines : List Line) (changed : List Change) (client : ClientState) (command : Command) (r : Finished) → IsAsked lay tries calls lines changed client command r → reply_told r.answer ≡ None → r.moment ≡ None → IsPlaced lay calls lines r command
refused_placed lay tries calls lines changed client command r x none nowhere = go command x.of_map.1
  where
    there : (call : MapCall) → IsPlacedOnMap (reply_told r.answer) calls lines call r
    there call = subst (λ (t : Option MapReply). IsPlacedOnMap t calls lines call r) (sym none) (is_refused lay tries calls lines changed client command r x none nowhere)

    go : (c : Command) → map_call (Some c) ≡ Some x.of_map.0 → IsPlaced lay calls lines r c
    go (Map request) e = there (map_request request)
    go c e = absurd (let z : None ≡ Some x.of_map.0 = e in cc)
