use Rattle.std.proofs.Common.{◌≡◌, Some, sym, ◌∙◌, ap, suc, refl}
use Rattle.record.specs.Turns.{entry_owed}
use Rattle.player.proofs.Steps.{place_known, places_logged}
use Rattle.player.proofs.interleaving.Interleaving.log.Goals as goal

pub entry-requires : goal.entry-requires
entry-requires c = (c.requires.due.0, c.requires.due.1.made)

pub returns-clause-logged : goal.returns-clause-logged
returns-clause-logged c lines due =
    let p = c.args.self.now in
    let e = c.in-Some.entry in
    let owed : entry_owed p.script.layout lines ≡ Some e = sym (c.entry.ensures.owed lines due.made) ∙ c.in-Some.is in
    let same = c.place.ensures.same in
    let owner = rw c.in-Some.is at c.entry.ensures.owner in
    let place = rw c.in-Some.is at c.entry.ensures.place in
    record {
      owed = sym owed;
      wins = (owner, rw same refl);
      entered = rw same (place ∙ ap suc due.made.entered);
      places = rw same (places_logged p.script.layout p.script.calls.items p.clients.items lines e p.places c.place.new.self.places (due.owner e owed) c.place.ensures.change c.place.ensures.keys due.places);
    }

pub place-requires-clause-key : goal.place-requires-clause-key
place-requires-clause-key c =
    let p = c.args.self.now in
    let e = c.in-Some.entry in
    let due = c.requires.due.1 in
    let owed : entry_owed p.script.layout c.requires.due.0 ≡ Some e = sym (c.entry.ensures.owed c.requires.due.0 due.made) ∙ c.in-Some.is in
    place_known p.script.layout p.script.calls.items p.clients.items c.requires.due.0 e p.places (due.owner e owed) due.places
