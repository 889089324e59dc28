-- What a run knows of a call of the map whose answer it judges.
use Rattle.std.proofs.Common.{◌≡◌, ℕ, ◌<◌, Bool, true, false, is_some, slice_get, Option, Some, None, IsSome, refl, sym, ◌∙◌, ap, subst}
use Rattle.std.proofs.lemmas.Option.{slice_get_within}
use Rattle.arena.specs.Opening.{IsMap}
use Rattle.histories.specs.Common.{Layout, PassNo}
use Rattle.record.specs.Common.{Command, HasItsEntry, enters, HasTakenFew, next_command, IsFitting, history, answered, begin, start, entry_owed}
use Rattle.record.specs.declared.record.Finished.{Finished}
use Rattle.linearization.specs.Places.{changes}
use Rattle.judge.specs.Histories.{seen_history}
use Rattle.audit.specs.After.{IsAfter, IsMapAfter, IsClientAfter, Remembers, lines_of, layout_of, tries_of, calls_of}
use Rattle.audit.specs.Asked.{IsAsked}
use Rattle.audit.specs.Edits.{ShowsTree}
use Rattle.audit.specs.declared.client.ClientState.{ClientState}
use Rattle.audit.specs.declared.run.Replay.{Replay}
use Rattle.ordered_map.proofs.MapLemmas.{run_spells}
use Rattle.record.proofs.Lemmas.{AreOf, map_calls}

-- the words that the judge knows show a tree
pub shows_tree : (run : Replay) → Remembers run (lines_of run) → IsMap (layout_of run).mode → ShowsTree (seen_history run.steps.judge)
shows_tree run x mode =
    let s = run_spells (layout_of run) (history (layout_of run).mode (lines_of run)) (mode, (x.map.tree mode).run) in
    subst ShowsTree (sym x.after.seen) (s.1.tree, s.1.is_tree)

entry_if : (b : Bool) (has : Option ℕ) → b ≡ is_some has → HasItsEntry b has
entry_if true (Some turn) e = tt
entry_if false None e = tt
entry_if true None e = absurd (cc)
entry_if false (Some turn) e = absurd (cc)

module _ (run : Replay) (client : ClientState) (command : Command) (r : Finished) (x : IsAfter run (lines_of run)) (there : slice_get run.clients.items client.pass.0 ≡ Some client) (own : client.pass ≡ r.client) where
  known : IsClientAfter (layout_of run) (calls_of run) (lines_of run) r.client.0 client
  known = subst (λ (p : PassNo). IsClientAfter (layout_of run) (calls_of run) (lines_of run) p.0 client) own (x.clients client.pass.0 client there)

  -- the client is a pass
  pub is_client : client.pass.0 < (layout_of run).passes
  is_client = subst (λ (n : ℕ). client.pass.0 < n) x.all (slice_get_within run.clients.items client.pass.0 client there)

  -- and one of the judge's layout
  pub is_pass : client.pass.0 < run.steps.judge.layout.passes
  is_pass = subst (λ (l : Layout). client.pass.0 < l.passes) (sym x.layout) is_client

  -- and its call has begun
  pub is_begun : client.begun ≡ Some r.begin → IsSome (begin (lines_of run) client.pass.0)
  is_begun begun = subst (λ (p : PassNo). IsSome (begin (lines_of run) p.0)) (sym own) (rw (sym known.begun ∙ begun) refl)

  pub asked : IsMapAfter run (lines_of run) → IsMap (layout_of run).mode → AreOf (layout_of run).mode (calls_of run) → entry_owed (layout_of run) (lines_of run) ≡ None → next_command (calls_of run) (lines_of run) client.pass.0 ≡ Some command → r.call ≡ client.answered → client.begun ≡ Some r.begin → r.end ≡ run.turn → IsFitting (lines_of run) command r.answer → enters command r.answer ≡ is_some client.won → IsAsked (layout_of run) (tries_of run) (calls_of run) (lines_of run) (changes run.places) client command r
  asked map mode of_mode owed is number begun end fits entry =
      let next : next_command (calls_of run) (lines_of run) r.client.0 ≡ Some command = subst (λ (p : PassNo). next_command (calls_of run) (lines_of run) p.0 ≡ Some command) own is in
      record {
        in_order = x.in_order;
        owed = owed;
        spelled = (map.tree mode).spelled;
        entries = (map.tree mode).entries;
        pass = ap (λ (p : PassNo). p.0) own;
        has_won = known.won;
        next = next;
        of_map = map_calls (layout_of run).mode (calls_of run) mode of_mode r.client.0 (answered (lines_of run) r.client.0) command next;
        number = number ∙ known.answered;
        begun = sym known.begun ∙ begun;
        end = end ∙ x.turn;
        fits = fits;
        entry = entry_if _ _ (entry ∙ ap (λ (t : Option ℕ). is_some t) known.won);
      }

  -- what is found of its share is of the reply's client
  pub took_few : HasTakenFew (layout_of run) (tries_of run) client.pass.0 (history (layout_of run).mode (lines_of run)) (start (layout_of run).mode (lines_of run) client.pass.0) command → HasTakenFew (layout_of run) (tries_of run) r.client.0 (history (layout_of run).mode (lines_of run)) (start (layout_of run).mode (lines_of run) r.client.0) command
  took_few few = subst (λ (p : PassNo). HasTakenFew (layout_of run) (tries_of run) p.0 (history (layout_of run).mode (lines_of run)) (start (layout_of run).mode (lines_of run) p.0) command) own few
