-- Where the calls of a run took place: those of cells where their answer says; a call of the map at
-- its entry, or in the turn that was found for it. All replies of a run on a map are those of
-- one map.
use Rattle.std.proofs.Common.{◌≡◌, ℕ, suc, ◌≤◌, ⊎_elim, Bool, true, false, List, Option, Some, None, IfSome, IfNone, refl, sym, ◌∙◌, ap, subst, arith}
use Rattle.arena.specs.Opening.{is_map, IsMap}
use Rattle.arena.specs.declared.limits.Mode.TheVariants.{Trie}
use Rattle.histories.specs.Common.{Mode, Records, Tree, Layout, Contents}
use Rattle.record.specs.Common.{IsOfMode, Pair, MapCall, MapReply, OneValue, changes_map, get, reply as answer_on, map_request, Call, Command, Map, Request, Reply, number_reply, history, turns, answered}
use Rattle.record.specs.Common.{begin, start, won, entry_owed, next_command, linked, HasItsEntry, IsRight, IsPlaced, enters, map_at, reply_told, IsGreatestTurn, IsPlacedOnMap, AreSpelled}
use Rattle.record.specs.declared.record.Line.{Line}
use Rattle.record.specs.declared.record.Finished.{Finished}
use Rattle.record.specs.declared.record.Answer.{Answer}
use Rattle.record.specs.declared.record.Answer.TheVariants.{Map as MapAnswer}
use Rattle.record.specs.Answers.{moment_of}
use Rattle.linearization.specs.declared.places.Change.{Change}
use Rattle.linearization.specs.Entries.{AreEntries}
use Rattle.linearization.specs.Ordered.{FallFrom, IsOrderedRead}
use Rattle.player.specs.Moments.{IsMomentBy, IsOrderedMoment, IsReadMoment}
use Rattle.player.specs.ClientView.{ClientView, client_view, IsToldBy, IsToldOfMap, IsToldReading, AnswersRight}
use Rattle.record.specs.Placed.{IsPlacedChangeOrReading, IsPlacedReading}
use Rattle.record.specs.LawfulRun.{IsWhole}
use Rattle.record.specs.Legal.{IsLegal}
use Rattle.record.proofs.Lemmas.{begin_within, lawful_is_legal, map_calls, of_commands}
use Rattle.player.specs.BetweenTurns.{IsLawfulSoFar}
use Rattle.linearization.proofs.Lemmas.{IsRepliedIn, are_spelled, falls, ordered_placed, replied_turn}
use Rattle.player.proofs.EachCall.{TookPlace, ByEntry, ByValue, ByReply, Nowhere, HasTakenPlace, IsMomentSo, TellsSo, is_by_entry, took_place}
use Rattle.player.proofs.MapCalls.{map_run}
use Rattle.player.proofs.EditPlaces.{IsMapReply, changed, refused, unwon_none}

-- a call of cells replies nothing of the map, and its moment is that of its answer
cell_moment : (calls : List Call) (lines : List Line) (changes : List Change) (command : Command) (answer : Answer) (first last : ℕ) (won moment : Option ℕ) → ((reply : Reply ℕ ℕ) → answer ≡ MapAnswer reply → ⊥) → IsMomentBy calls lines changes command answer first last won moment → moment ≡ moment_of answer first last won
cell_moment calls lines changes command (MapAnswer reply) first last won moment d x = absurd (d reply refl)
cell_moment calls lines changes command answer first last won moment d x = x

-- the words spell the map after each turn of a run on a map
spelled_so_far : (lay : Layout) (tries : ℕ) (calls : List Call) (words : Contents) (lines : List Line) → IsLawfulSoFar lay tries calls words lines → IsMap lay.mode → AreSpelled lay calls lines
spelled_so_far lay tries calls words lines x mode = are_spelled lay tries calls mode (map_calls lay.mode calls mode x.of_mode) lines x.in_order (map_run lay (history lay.mode lines) mode x.sound) (x.filled mode)

-- the value of a reply that answers one
some_value : (a b : Option ℕ) → Some (OneValue a) ≡ Some (OneValue b) → a ≡ b
some_value a b e = cc

-- Of a call of the map what is known of its reply says where it took place
module _ (lay : Layout) (tries : ℕ) (calls : List Call) (words : Contents) (lines : List Line) (changes : List Change) (reply : Finished) (request : Request ℕ ℕ) (x : IsLawfulSoFar lay tries calls words lines) (y : IsMapReply lay tries calls lines changes reply reply.client.0 (Map request)) where
  abbrev view : ClientView
  view = client_view lay tries calls lines reply.client.0

  abbrev call : MapCall
  call = map_request request

  -- the map replied this to it after some turn of the call
  replied : (told : MapReply) → IsToldReading view call told → IsRepliedIn calls lines call told reply.begin
  replied told tells = ⊎_elim (λ z. replied_turn lay tries calls reply.client.0 (Map request) lines call told reply.begin x.in_order y.spells y.owed y.next y.began z) (λ z. (turns lines, begin_within lay tries calls lines reply.client.0 reply.begin x.in_order y.began, omega arith, z (map_at calls lines (turns lines)))) tells

  -- and is found to be so in the turn where it took place
  reply_reads : (given : Reply ℕ ℕ) (told : MapReply) → won lay lines reply.client.0 ≡ None → IsOrderedRead (Map request) → reply.answer ≡ MapAnswer given → number_reply given ≡ Some told → IsToldReading view call told → IsOrderedMoment calls lines changes (Map request) given reply.begin reply.end reply.moment → IsPlacedReading calls lines call reply
  reply_reads given told unwon ordered e says tells moment =
      let some = replied told tells in
      ordered_placed lay tries calls lines reply call moment.turn x.in_order unwon y.number moment.is (subst (λ (a : Answer). IsGreatestTurn (λ m. reply_told a ≡ Some (answer_on call (map_at calls lines m))) reply.begin reply.end moment.turn) (sym e) (moment.greatest call some.0 y.entries fall ordered refl some.1 (subst (λ (n : ℕ). some.0 ≤ n) (sym y.ended) some.2) (says ∙ ap (λ (t : MapReply). Some t) (sym some.3))))
    where
      fall : FallFrom (suc reply.end) changes
      fall = subst (λ (n : ℕ). FallFrom (suc n) changes) (sym y.ended) (falls lay tries calls lines changes x.in_order y.entries)

  -- or the key to have had the value that it answers
  value_reads : (key : ℕ) (value : Option ℕ) → won lay lines reply.client.0 ≡ None → reply_told reply.answer ≡ Some (OneValue value) → ((m : List Pair) → answer_on call m ≡ OneValue (get key m)) → IsToldReading view call (OneValue value) → IsReadMoment calls lines changes key value reply.begin reply.end reply.moment → IsPlacedReading calls lines call reply
  value_reads key value unwon says gives tells moment = go reply.moment refl (moment y.entries)
    where
      some : IsRepliedIn calls lines call (OneValue value) reply.begin
      some = replied (OneValue value) tells

      -- the reply of the map after a turn
      told_at : (n : ℕ) → Some (answer_on call (map_at calls lines n)) ≡ Some (OneValue (get key (map_at calls lines n)))
      told_at n = ap (λ (t : MapReply). Some t) (gives (map_at calls lines n))

      go : (at : Option ℕ) → reply.moment ≡ at → IfSome at (λ m. IsGreatestTurn (λ n. get key (map_at calls lines n) ≡ value) reply.begin reply.end m) × IfNone at ((n : ℕ) → reply.begin ≤ n → n ≤ reply.end → ¬ (get key (map_at calls lines n) ≡ value)) → IsPlacedReading calls lines call reply
      go None is found = absurd (found.1 some.0 some.1 (subst (λ (n : ℕ). some.0 ≤ n) (sym y.ended) some.2) (some_value _ _ (sym (told_at some.0) ∙ ap (λ (t : MapReply). Some t) some.3)))
      go (Some m) is found = ordered_placed lay tries calls lines reply call m x.in_order unwon y.number is record {
        from = found.0.from;
        to = found.0.to;
        holds = says ∙ ap (λ (v : Option ℕ). Some (OneValue v)) (sym found.0.holds) ∙ sym (told_at m);
        none_later = λ n i j d. found.0.none_later n i j (some_value _ _ (sym (told_at n) ∙ sym d ∙ says));
      }

  -- what it answers is right
  tells_by : (told : MapReply) (b : Bool) → reply_told reply.answer ≡ Some told → changes_map call told ≡ b → IsToldBy b view reply.client.0 call told
  tells_by told b is changes = subst (λ (z : Bool). IsToldBy z view reply.client.0 call told) changes (subst (IsToldOfMap view reply.client.0 call) is y.tells)

  -- and has its place so
  place_by : (told : MapReply) (b : Bool) → reply_told reply.answer ≡ Some told → changes_map call told ≡ b → IsPlacedChangeOrReading b calls lines call reply → IsPlacedOnMap (reply_told reply.answer) calls lines call reply
  place_by told b is changes place = subst (λ (t : Option MapReply). IsPlacedOnMap t calls lines call reply) (sym is) (subst (λ (z : Bool). IsPlacedChangeOrReading z calls lines call reply) (sym changes) place)

  map_placed : HasTakenPlace request reply.answer → IsPlacedOnMap (reply_told reply.answer) calls lines call reply
  map_placed p = go p.place entry ((p.moment calls lines changes reply.begin reply.end (won lay lines reply.client.0) reply.moment).0 y.moment) p.tells
    where
      entry : HasItsEntry (is_by_entry p.place) (won lay lines reply.client.0)
      entry = subst (λ (b : Bool). HasItsEntry b (won lay lines reply.client.0)) p.entered y.entry

      unwon : HasItsEntry false (won lay lines reply.client.0) → won lay lines reply.client.0 ≡ None
      unwon e = unwon_none (won lay lines reply.client.0) e

      go : (place : TookPlace) → HasItsEntry (is_by_entry place) (won lay lines reply.client.0) → IsMomentSo calls lines changes (Map request) place reply.begin reply.end (won lay lines reply.client.0) reply.moment → TellsSo request reply.answer place → IsPlacedOnMap (reply_told reply.answer) calls lines call reply
      go ByEntry e m t = place_by t.0 true t.1 t.2 (changed lay tries calls lines changes reply reply.client.0 (Map request) call t.0 y t.1 (tells_by t.0 true t.1 t.2) m)
      go (ByValue key value) e m t = place_by (OneValue value) false t.0 t.1 (value_reads key value (unwon e) t.0 t.2 (tells_by (OneValue value) false t.0 t.1) m)
      go (ByReply given) e m t = let is = ap reply_told t.1 ∙ t.2.1 in place_by t.2.0 false is t.2.2 (reply_reads given t.2.0 (unwon e) t.0 t.1 t.2.1 (tells_by t.2.0 false is t.2.2) m)
      go Nowhere e m t = subst (λ (told : Option MapReply). IsPlacedOnMap told calls lines call reply) (sym t) (refused lay tries calls lines changes reply reply.client.0 (Map request) y e m)

-- where the call of a reply took place
pub placed : (lay : Layout) (tries : ℕ) (calls : List Call) (words : Contents) (lines : List Line) (changes : List Change) (reply : Finished) (c : ℕ) (command : Command) → IsLawfulSoFar lay tries calls words lines → (IsMap lay.mode → AreEntries calls lines changes) → entry_owed lay lines ≡ None → reply.client.0 ≡ c → reply.call ≡ answered lines c → IsRight lay tries c (history lay.mode lines) (start lay.mode lines c) (linked calls lay.mode lines c) command reply.answer → AnswersRight (client_view lay tries calls lines c) c command reply.answer → HasItsEntry (enters command reply.answer) (won lay lines c) → next_command calls lines c ≡ Some command → begin lines c ≡ Some reply.begin → reply.end ≡ turns lines
    → IsMomentBy calls lines changes command reply.answer reply.begin reply.end (won lay lines c) reply.moment → IsPlaced lay calls lines reply command
placed lay tries calls words lines changes reply c (Map request) x entries owed own called right tells entry is begin end moment =
    let mode = sym (of_commands (IsOfMode lay.mode) calls c _ (Map request) x.of_mode is) in
    let y : IsMapReply lay tries calls lines changes reply reply.client.0 (Map request) = record {
      mode = mode;
      all = x.of_mode;
      run = x.sound;
      lines_are = x.in_order;
      spells = spelled_so_far lay tries calls words lines x mode;
      entries = entries mode;
      owed = owed;
      client = refl;
      number = rw own called;
      next = rw own is;
      began = rw own begin;
      ended = end;
      right = rw own right;
      tells = rw own tells;
      entry = rw own entry;
      moment = rw own moment;
    } in
    map_placed lay tries calls words lines changes reply request x y (took_place lay tries reply.client.0 (history lay.mode lines) (start lay.mode lines reply.client.0) (linked calls lay.mode lines reply.client.0) request reply.answer y.right)
placed lay tries calls words lines changes reply c command x entries owed own called right tells entry is begin end moment = cell_moment calls lines changes command reply.answer reply.begin reply.end (won lay lines c) reply.moment (λ a e. rw e at right) moment ∙ ap (λ (k : ℕ). moment_of reply.answer reply.begin reply.end (won lay lines k)) (sym own)

-- what is said of a whole run by its mode
pub whole : (lay : Layout) (tries : ℕ) (calls : List Call) (words : Contents) (lines : List Line) → IsLawfulSoFar lay tries calls words lines → IsWhole lay.mode lay calls lines
whole lay tries calls words lines x = go lay.mode refl
  where
    of_map : IsMap lay.mode → AreSpelled lay calls lines × IsLegal calls lines
    of_map map = (spelled_so_far lay tries calls words lines x map, lawful_is_legal lay tries calls lines (map_calls lay.mode calls map x.of_mode) x.in_order)

    go : (m : Mode) → lay.mode ≡ m → IsWhole m lay calls lines
    go Records e = tt
    go Tree e = of_map (ap is_map e)
    go Trie e = of_map (ap is_map e)
