use Rattle.std.proofs.Common.{◌∷◌, refl, ◌∙◌}
use Rattle.arena.specs.Lawful.{IsLawful}
use Rattle.histories.proofs.Lemmas.{lawful_more}
use Rattle.judge.specs.Histories.{history_of_rows}
use Rattle.judge.proofs.Frozen.{may_freeze}
use Rattle.judge.proofs.Entered.{may_enter}
use Rattle.judge.proofs.Taken.{may_take}
use Rattle.judge.proofs.Making.{stands_more, stands_at, naming_kept}
use Rattle.judge.proofs.judge.Judge.make.Goals as goal

pub invariant_of-self : goal.invariant_of-self
invariant_of-self c =
    let s = c.self.invariant in
    let e = c.reserve.ensures in
    record {
      lawful = s.lawful;
      words = s.words;
      naming = naming_kept c.self.inside.words.layout _ c.self.inside.naming c.reserve.new.self s.naming (e.naming s.naming.naming) e.nodes e.scxs e.links;
      uses = s.uses;
      freezing = s.freezing;
      entering = s.entering;
      taking = s.taking;
      loaded = s.loaded;
    }

pub note-requires-clause-naming : goal.note-requires-clause-naming
note-requires-clause-naming c = c.reserve.ensures.naming c.self.invariant.naming.naming

pub note-requires-3 : goal.note-requires-3
note-requires-3 c =
    let lay = c.self.inside.words.layout in
    let h = history_of_rows lay.mode c.self.inside.past in
    let lawful : IsLawful lay h c.args.row.now = rw (← c.self.view_is) at c.requires in
    may_freeze lay h c.args.row.now c.self.inside.freezing.frozen.items (lawful_more lay h c.args.row.now c.self.invariant.lawful lawful) c.self.invariant.freezing

pub note-requires-4-clause-may : goal.note-requires-4-clause-may
note-requires-4-clause-may c =
    let lay = c.self.inside.words.layout in
    let h = history_of_rows lay.mode c.self.inside.past in
    let lawful : IsLawful lay h c.args.row.now = rw (← c.self.view_is) at c.requires in
    let e = c.self.inside.entering in
    may_enter lay h c.args.row.now (lawful_more lay h c.args.row.now c.self.invariant.lawful lawful) c.self.inside.words refl c.self.invariant.words e e c.self.invariant.entering

pub note-requires-5 : goal.note-requires-5
note-requires-5 c =
    let lay = c.self.inside.words.layout in
    let h = history_of_rows lay.mode c.self.inside.past in
    let lawful : IsLawful lay h c.args.row.now = rw (← c.self.view_is) at c.requires in
    let t = c.self.inside.taking in
    rw c.layout.ensures (may_take lay h c.args.row.now (lawful_more lay h c.args.row.now c.self.invariant.lawful lawful) t t c.self.invariant.taking)

pub invariant_of-self-2 : goal.invariant_of-self-2
invariant_of-self-2 c =
    let old = c.self.inside in
    let lay = old.words.layout in
    let h = history_of_rows lay.mode old.past in
    let row = c.args.row.now in
    let lawful : IsLawful lay h row = rw (← c.self.view_is) at c.requires in
    let e = c.reserve.ensures in
    stands_at lay (row ∷ old.past) _ c.apply.ensures.after.layout c.push.ensures (stands_more lay h row old _ refl c.self.invariant lawful record {
      naming = c.note.ensures.naming;
      nodes = c.note.ensures.nodes ∙ e.nodes;
      scxs = c.note.ensures.scxs ∙ e.scxs;
      links = c.note.ensures.links ∙ rw (e.nodes, e.scxs, e.links) refl;
      fields = c.note-2.ensures.fields;
      users = c.note-2.ensures.users;
      frozen = c.note-3.ensures;
      entries = c.note-4.ensures.entries;
      won = c.note-4.ensures.won;
      last = c.note-4.ensures.last;
      finals = c.note-4.ensures.finals;
      taken_nodes = rw c.layout.ensures at c.note-5.ensures.nodes;
      taken_scx = rw c.layout.ensures at c.note-5.ensures.scx;
      taken_all = rw c.layout.ensures at c.note-5.ensures.all;
      words = rw (c.left_by.ensures.word, c.left_by.ensures.access) at c.apply.ensures.after;
      loaded = refl;
    })
