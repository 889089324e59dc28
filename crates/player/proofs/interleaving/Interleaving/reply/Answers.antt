use Rattle.std.proofs.Common.{ℕ, List, Option, length, subst, slice_get, arith, refl, sym, ◌∙◌, ap}
use Rattle.std.proofs.lemmas.Option.{get_or_from_slice_get, slice_get_read}
use Rattle.player.specs.declared.client.Client.{Client}
use Rattle.script.specs.declared.call.Call.{Call}
use Rattle.linearization.specs.Places.{changes}
use Rattle.player.specs.Moments.{IsMomentBy}
use Rattle.player.proofs.interleaving.Interleaving.reply.Goals as goal

pub moment-moment-requires : goal.moment-moment-requires
moment-moment-requires c =
    let there = slice_get_read c.args.self.now.clients.items (length c.args.self.now.clients.items) c.args.client.0 c.index.result.now refl (omega (arith, c.requires.client, c.args.self.now.all_clients, c.args.self.now.clients.ok.0)) c.index.ensures in
    c.requires.begun c.index.result.now there

pub returns-clause-same : goal.returns-clause-same
returns-clause-same c = record { script = refl; words = refl; wins = refl; places = refl; turns = refl; entries = refl }

pub returns-clause-replied : goal.returns-clause-replied
returns-clause-replied c d there pass =
    let own = c.index_mut.ensures.value ∙ get_or_from_slice_get c.args.self.now.clients.items c.args.client.0 d c.index_mut.result.now there in
    let same = c.index.ensures ∙ get_or_from_slice_get c.args.self.now.clients.items c.args.client.0 d c.index.result.now there in
    record {
      client = c.end.new.self;
      won = c.index-won.result.now;
      wins = rw pass (slice_get_read c.args.self.now.wins.items (length c.args.self.now.wins.items) c.args.client.0 c.index-won.result.now refl (omega (arith, c.requires.client, c.args.self.now.all_wins, c.args.self.now.wins.ok.0)) c.index-won.ensures);
      end = λ lines. record {
        client = c.end.ensures.client ∙ ap (λ (k : Client). k.pass) own;
        call = c.end.ensures.call ∙ ap (λ (k : Client). k.number) own;
        begin = c.end.ensures.begin ∙ ap (λ (k : Client). k.begin) own;
        end = c.end.ensures.end;
        answers = c.end.ensures.answer;
        moment = λ call at next here. subst (λ (m : Option ℕ). IsMomentBy c.args.self.now.script.calls.items lines (changes c.args.self.now.places) call.command c.args.answer d.begin c.args.number c.index-won.result.now m) (sym c.end.ensures.moment)
            (subst (λ (k : Client). IsMomentBy c.args.self.now.script.calls.items lines (changes c.args.self.now.places) call.command c.args.answer k.begin c.args.number c.index-won.result.now c.moment-moment.result) same
            (subst (λ (l : List Call). IsMomentBy l lines (changes c.args.self.now.places) call.command c.args.answer c.index.result.now.begin c.args.number c.index-won.result.now c.moment-moment.result) c.deref.ensures.value
            (c.moment-moment.ensures call at lines (ap (λ (k : Client). k.next) same ∙ next) (ap (λ (l : List Call). slice_get l at) c.deref.ensures.value ∙ here))));
        behind = rw (sym own, sym c.deref-2.ensures.value) c.end.ensures.next;
      };
      clients = rw pass refl;
    }
