-- What a reply of the map comes from: the moment of a read, the leaf that an edit has found, the
-- edit that it has made.
use Rattle.std.proofs.Common.{◌≡◌, ℕ, ◌^◌, ◌<◌, ◌≤◌, List, Option, ◌∙◌, subst, arith}
use Rattle.histories.specs.Common.{Full as FullOf, Resource, Nodes, Layout, History, value, Extends, Call, Remaining}
use Rattle.arena.specs.declared.fault.Resource.TheVariants.{Scx as ScxRecords}
use Rattle.arena.proofs.Lemmas.{ends_self, ends_trans}
use Rattle.order.specs.Replies.{IsReplyAt}
use Rattle.template.specs.Common.{MapCall, MapReply, reply, get, goal_told, IsMapRun, Spells, Pair, path_key, FoundBy, IsOwnMoment, Goal, most_nodes, need}
use Rattle.ordered_map.proofs.MapLemmas.{run_spells}
use Rattle.template.specs.declared.walk.Found.{Found}
use Rattle.template.specs.declared.walk.Way.{Way}
use Rattle.template.proofs.Lemmas.{own_since}
use Rattle.edits.specs.Known.{IsShort, IsUntouched}
use Rattle.edits.specs.Laws.Entered.{none_quiet}
use Rattle.edits.specs.Tries.{HasEnteredNone, HasOnlyLooked}
use Rattle.dict.specs.Calls.{AsksForPairs}
use Rattle.dict.specs.Goals.{leaf_told}
use Rattle.dict.specs.Known.{HasRested}
use Rattle.dict.specs.Laws.Found.{IsToldSurely, HasGiven, found_tells}
use Rattle.dict.specs.Says.{HasMadeRow, HasNeeded, HasReadMap, HasTooLittle, HasRunOut}

-- since the moment `begin` the call has needed something, and as many nodes as this or more
pub record NeededAs (lay : Layout) (pass : ℕ) (now begin : History) (call : MapCall) (want : ℕ) : Type 0 where
  pub needed : HasNeeded lay pass now begin call
  pub few : want ≤ need call needed.map
  pub some : 0 < want

module _ (c : Call) (h : History) where
  -- a pass at rest has entered nothing
  pub none_entered : (share : Remaining) → HasRested c h share → HasEnteredNone c.layout c.pass h c.start
  none_entered share x = none_quiet c.layout c.pass h c.start x.run.1.lawful x.quiet

  -- a moment from an own one on is not before the call's first own row
  behind_own : (moment first : History) → IsOwnMoment c first → Extends moment first → HasMadeRow c.pass c.start moment
  behind_own moment first own since = record { row = own.row; before = own.before; within = subst (Extends moment) own.is since; since = own.since; of_pass = own.own }

  -- what an ordered read has replied was read in the call
  pub reply_read : (call : MapCall) (told : MapReply) → most_nodes call ≡ 0 → IsReplyAt c h call told → HasEnteredNone c.layout c.pass h c.start → HasReadMap c h call told
  reply_read call told reads x none = record {
    read = record {
      moment = x.moment;
      within = x.within;
      since = ends_trans x.moment x.first c.start x.since (own_since c x.first x.own);
      own = λ _. behind_own x.moment x.first x.own x.since;
      map = x.map;
      spelled = x.spelled;
      gives = x.gives;
      only_looked = λ some. absurd (omega (arith, some, reads));
    };
    none = none;
  }

  -- and what every map replies, of a range that takes no pair
  pub always_read : (call : MapCall) (told : MapReply) → most_nodes call ≡ 0 → IsMapRun c.layout h → Extends h c.start → ¬ AsksForPairs call → ((map : List Pair) → reply call map ≡ told) → HasEnteredNone c.layout c.pass h c.start → HasReadMap c h call told
  always_read call told reads run since asks_not gives none =
      let map : (ps : List Pair) × Spells c.layout (value h) ps = run_spells c.layout h run in
      record { read = record { moment = h; within = ends_self h; since = since; own = λ asks. absurd (asks_not asks); map = map.0; spelled = map.1; gives = gives map.0; only_looked = λ some. absurd (omega (arith, some, reads)) }; none = none }

  -- what was found says what the map replied at a moment of the call
  pub leaf_read : (call : MapCall) (way : Way) (goal : Goal) (f : Found) → ((map : List Pair) → reply call map ≡ goal_told goal map) → path_key goal < 2 ^ 64 → IsMapRun c.layout h → IsToldSurely c goal f → FoundBy way goal c h f → HasEnteredNone c.layout c.pass h c.start → (0 < most_nodes call → HasOnlyLooked c.pass h c.start) → HasReadMap c h call (leaf_told goal f)
  leaf_read call way goal f walks small run sure found none only_looked =
      let y = found_tells way goal c h f small run sure found in
      let first = y.first in
      let own = y.own in
      let x = y.told in
      record {
        read = record {
          moment = x.moment;
          within = x.within;
          since = ends_trans x.moment first c.start x.since (own_since c first own);
          own = λ _. behind_own x.moment first own x.since;
          map = x.map;
          spelled = x.spelled;
          gives = walks x.map ∙ x.gives;
          only_looked = only_looked;
        };
        none = none;
      }

  -- a share that is too small for the need, which is some, is too small for this many nodes or more
  short_of : (want : ℕ) (many : ℕ) (left : Remaining) (what : Resource) (k : ℕ) → want ≤ many → 0 < want → IsShort want left what k → HasTooLittle many left what k
  short_of want many left Nodes k few some x = (let i = x.0 in omega (arith, i, few), x.1)
  short_of want many left ScxRecords k few some x = (let i = x.0 in omega (arith, i, some), x.1, x.2)

  -- what the map had at the key says what an edit needed at a moment of the call, if it needed
  -- nodes
  pub given_needed : (call : MapCall) (want k : ℕ) (told : Option ℕ) → HasGiven c h k told → ((map : List Pair) → get k map ≡ told → want ≤ need call map) → 0 < want → NeededAs c.layout c.pass h c.start call want
  given_needed call want k told y needs some =
      let x = y.given in
      let few : want ≤ need call x.map = needs x.map x.gives in
      record {
        needed = record {
          moment = x.moment;
          within = x.within;
          since = ends_trans x.moment y.first c.start x.since (own_since c y.first y.own);
          own = behind_own x.moment y.first y.own x.since;
          map = x.map;
          spelled = x.spelled;
          some = omega (arith, few, some);
        };
        few = few;
        some = some;
      }

  -- so the share has run out for an edit that needs it in its newest try
  pub ran_out : (call : MapCall) (want : ℕ) (share : Remaining) (full : FullOf) → (only_looked : HasOnlyLooked c.pass h c.start) → NeededAs c.layout c.pass h only_looked.begin call want → IsShort want share full.what full.left → IsUntouched c h share → HasEnteredNone c.layout c.pass h c.start → HasRunOut c h call share full
  ran_out call want share full only_looked x short first none = record { short = record { only_looked = only_looked; needed = x.needed; short = short_of want (need call x.needed.map) share full.what full.left x.few x.some short }; first = first; none = none }
