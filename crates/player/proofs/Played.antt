-- What is true of a player before its first turn and after its last.
use Rattle.std.proofs.Common.{arith, ◌≡◌, ℕ, suc, ◌+◌, ◌<◌, ◌≤◌, List, [], ◌∷◌, ◌++◌, length, map, reverse, take, get_or, Option, Some, None, Result, Ok, Err, slice_get, All, inl, inr, refl, sym, ◌∙◌, ap, subst}
use Rattle.std.specs.Prelude.{OnErr, OnOk}
use Rattle.std.proofs.lemmas.List.{map_more, reverse-append, reverse-reverse}
use Rattle.histories.specs.Common.{Layout, Contents, value, Lawful, Shaped}
use Rattle.arena.specs.PlainWords.{IsOpening}
use Rattle.histories.proofs.Lemmas.{fields_are, finalized_since, lawful_since, once}
use Rattle.record.specs.Common.{Call, history, clients, turns, AreLines, IsLawfulRun, IsOfMode}
use Rattle.player.proofs.Readings.{whole}
use Rattle.player.specs.declared.client.Client.{Client}
use Rattle.player.specs.declared.interleaving.Interleaving.{Interleaving}
use Rattle.record.specs.declared.record.Line.{Line}
use Rattle.record.specs.declared.record.Line.TheVariants.{Step, Log, Reply}
use Rattle.record.specs.declared.record.TurnRow.{TurnRow}
use Rattle.record.specs.declared.record.Entry.{Entry}
use Rattle.record.specs.declared.record.Finished.{Finished}
use Rattle.player.specs.Lines.{turn_lines, with_entry, with_reply, with_turn}
use Rattle.player.specs.ClientView.{client_view, Rests}
use Rattle.player.specs.BetweenTurns.{AreBetweenTurns, HasMadeTurn, IsBetweenTurns, AreWins}
use Rattle.player.specs.Core.{IsNextTurn, StandsAt, with_lines}
use Rattle.player.specs.Player.{PlayerView, ScriptView, script_view, IsPlayed, IsTurnMore}

-- words as they are at the start, and clients that rest, are between two turns
pub opening_between : (lay : Layout) (tries : ℕ) (calls : List Call) (words : Contents) (all : List Client) → words.layout ≡ lay → IsOpening words → All (λ (call : Call). IsOfMode lay.mode call.command) calls → ((j : ℕ) (d : Client) → slice_get all j ≡ Some d → (d.pass.0 ≡ j) × Rests (client_view lay tries calls [] j) d) → AreBetweenTurns lay tries calls words all []
unfolding value Lawful Shaped AreLines
opening_between lay tries calls words rests same opening all each = record {
  so_far = record {
    layout = same;
    holds = λ w i. opening w (rw same i) ∙ rw same refl;
    sound = record { lawful = (refl, omega arith); shaped = inl refl };
    in_order = tt;
    filled = λ map. tt;
    of_mode = all;
  };
  settled = record { entry = refl; reply = λ y. y };
  each = λ j d get. let y = each j d get in (y.0, inl (y.1, inr record { none = refl; start = refl; steps = refl; won = refl }));
}

-- no update has won before the first turn
pub no_wins : (lay : Layout) (wins : List (Option ℕ)) → AreWins lay [] wins
no_wins lay wins c turn e = cc

-- lines, the first in front, that have led to an interleaving are a lawful run of the turns that
-- they say
played_record : (p : Interleaving) (told : List Line) → IsBetweenTurns p (reverse told) → (turns : List ℕ) → clients (reverse told) ≡ reverse turns → IsLawfulRun p.script.layout p.script.limits.tries p.script.calls.items turns told
played_record p told x turns e = record {
  turns = e;
  in_order = x.between.so_far.in_order;
  settled = x.between.settled;
  lawful = x.between.so_far.sound.lawful;
  spell = λ past n side e. fields_are p.script.layout past n side (lawful_since p.script.layout (history p.script.layout.mode (reverse told)) past x.between.so_far.sound.lawful e);
  once = once p.script.layout (history p.script.layout.mode (reverse told)) x.between.so_far.sound.lawful;
  finalized = λ past n part ends final. finalized_since p.script.layout (history p.script.layout.mode (reverse told)) past n part x.between.so_far.sound.lawful ends final;
  whole = whole p.script.layout p.script.limits.tries p.script.calls.items p.words (reverse told) x.between.so_far;
}

pub played : (p : Interleaving) (lines : List Line) → IsBetweenTurns p lines → IsPlayed (record { script = script_view p.script; lines = lines })
played p lines x =
    played_record p (reverse lines) (subst (λ (l : List Line). IsBetweenTurns p l) (sym (reverse-reverse lines)) x) (reverse (clients lines))
    (ap (λ (l : List Line). clients l) (reverse-reverse lines) ∙ sym (reverse-reverse (clients lines)))

-- and of whatever turns are theirs
pub asked_run : (p : PlayerView) → IsPlayed p → (asked : List ℕ) → clients p.lines ≡ reverse asked → IsLawfulRun p.script.layout p.script.limits.tries p.script.calls asked (reverse p.lines)
asked_run p x asked e = rw (e, reverse-reverse asked) at x

-- one more element comes first in the reverse
pub reverse_map_more : {X Y : Type 0} (f : X → Y) (xs : List X) (i : ℕ) (d : X) → i < length xs → reverse (map f (take (i + 1) xs)) ≡ f (get_or xs i d) ∷ reverse (map f (take i xs))
reverse_map_more f xs i d less = ap reverse (map_more f xs i d less) ∙ reverse-append (map f (take i xs)) (f (get_or xs i d) ∷ [])

-- what has led to a core is a lawful run
pub stands_played : (core : Interleaving) (p : PlayerView) → StandsAt core p → IsPlayed p
stands_played core p x = subst (λ (s : ScriptView). IsPlayed (record { script = s; lines = p.lines })) x.script (played core p.lines x.between)

-- no more turns were made than there are lines
pub turns_few : (lines : List Line) → turns lines ≤ length lines
turns_few [] = omega arith
turns_few (Step row ∷ lines) = let few = turns_few lines in omega (arith, few)
turns_few (Log entry ∷ lines) = let few = turns_few lines in omega (arith, few)
turns_few (Reply reply ∷ lines) = let few = turns_few lines in omega (arith, few)

-- a turn is one more
turn_counted : (row : TurnRow) (entry : Option Entry) (reply : Option Finished) (lines : List Line) → turns (with_turn row entry reply lines) ≡ suc (turns lines)
turn_counted row None None lines = refl
turn_counted row None (Some reply) lines = refl
turn_counted row (Some entry) None lines = refl
turn_counted row (Some entry) (Some reply) lines = refl

-- a turn's lines are added to the others, the newest in front
pub turn_in_front : (row : TurnRow) (entry : Option Entry) (reply : Option Finished) (lines : List Line) → reverse (turn_lines row entry reply) ++ lines ≡ with_turn row entry reply lines
turn_in_front row None None lines = refl
turn_in_front row None (Some reply) lines = refl
turn_in_front row (Some entry) None lines = refl
turn_in_front row (Some entry) (Some reply) lines = refl

-- a reply comes last
pub reply_last : (row : TurnRow) (entry : Option Entry) (reply : Finished) → turn_lines row entry None ++ Reply reply ∷ [] ≡ turn_lines row entry (Some reply)
reply_last row None reply = refl
reply_last row (Some entry) reply = refl

-- What a turn of the interleaving leaves, if it was not refused

module _ {A E : Type 0} (r : Result A E) (old new : Interleaving) (i : ℕ) (more : List Line) where
  -- it has made a turn that leaves these lines
  abbrev Makes : Type 0
  Makes = OnOk r ((lines : List Line) → IsBetweenTurns old lines → HasMadeTurn old new lines i more)

  -- it was refused, and is where it was
  abbrev Stays : Type 0
  Stays = OnErr r ((lines : List Line) → IsBetweenTurns old lines → IsBetweenTurns new lines)

-- it counts the turn
pub counts_one : {A E : Type 0} (r : Result A E) (old new : Interleaving) (i : ℕ) (more lines : List Line) → IsBetweenTurns old lines → Makes r old new i more → OnOk r (new.turns ≡ suc old.turns)
counts_one (Ok a) old new i more lines x made =
    let t = made lines x in
    t.between.counted.turned ∙ turn_counted t.row t.entry t.reply lines ∙ ap suc (sym x.counted.turned)
counts_one (Err e) old new i more lines x made = tt

-- it is between turns again
pub stays_between : {A E : Type 0} (r : Result A E) (old new : Interleaving) (i : ℕ) (more lines : List Line) → IsBetweenTurns old lines → Makes r old new i more → Stays r old new i more → (lines : List Line) × IsBetweenTurns new lines
stays_between (Ok a) old new i more lines x made stays = let t = made lines x in (with_turn t.row t.entry t.reply lines, t.between)
stays_between (Err e) old new i more lines x made stays = (lines, stays lines x)

-- these are the lines of the client's next turn
pub makes_next : {A E : Type 0} (r : Result A E) (old new : Interleaving) (i : ℕ) (more : List Line) → Makes r old new i more → OnOk r ((p : PlayerView) → StandsAt old p → IsNextTurn p i more)
makes_next (Ok a) old new i more made = λ p x.
    let t = made p.lines x.between in
    record {
      row = t.row;
      entry = t.entry;
      reply = t.reply;
      lines = t.leaves;
      turns = ap (λ (l : List Line). clients (reverse l ++ p.lines)) t.leaves ∙ ap (λ (l : List Line). clients l) (turn_in_front t.row t.entry t.reply p.lines) ∙ t.turns;
    }
makes_next (Err e) old new i more made = tt

-- these lines have led to it
pub stands_behind : {A E : Type 0} (r : Result A E) (old new : Interleaving) (i : ℕ) (more : List Line) → Makes r old new i more → OnOk r ((p : PlayerView) → StandsAt old p → StandsAt new (with_lines p more))
stands_behind (Ok a) old new i more made = λ p x.
    let t = made p.lines x.between in
    record {
      script = t.script ∙ x.script;
      between = subst (λ (l : List Line). IsBetweenTurns new l) (sym (ap (λ (l : List Line). reverse l ++ p.lines) t.leaves ∙ turn_in_front t.row t.entry t.reply p.lines)) t.between;
    }
stands_behind (Err e) old new i more made = tt

-- or it is where it was
pub stands_still : {A E : Type 0} (r : Result A E) (old new : Interleaving) (i : ℕ) (more : List Line) → script_view new.script ≡ script_view old.script → Stays r old new i more → OnErr r ((p : PlayerView) → StandsAt old p → StandsAt new p)
stands_still (Ok a) old new i more same stays = tt
stands_still (Err e) old new i more same stays = λ p x. record { script = same ∙ x.script; between = stays p.lines x.between }

-- One turn more, as a player sees it

-- entry and reply are after the row
turn_behind : (row : TurnRow) (entry : Option Entry) (reply : Option Finished) (lines : List Line) → with_turn row entry reply lines ≡ with_reply reply (with_entry entry []) ++ Step row ∷ lines
turn_behind row None None lines = refl
turn_behind row None (Some reply) lines = refl
turn_behind row (Some entry) None lines = refl
turn_behind row (Some entry) (Some reply) lines = refl

-- the row of a turn, and what is after it
pub turn_of : (p : PlayerView) (i : ℕ) (more : List Line) (t : IsNextTurn p i more) → IsTurnMore p (with_lines p more) i t.row
turn_of p i more t = record {
  script = refl;
  behind = with_reply t.reply (with_entry t.entry []);
  lines = ap (λ (l : List Line). reverse l ++ p.lines) t.lines ∙ turn_in_front t.row t.entry t.reply p.lines ∙ turn_behind t.row t.entry t.reply p.lines;
  turns = t.turns;
}
