-- What is shown of each call of the map by itself, with an arm for edits and one for each read:
-- when its answer is right and where it took place, and what an entry of it does. The other proofs
-- of this crate speak of any call.
use Rattle.std.proofs.Common.{◌≡◌, ℕ, ◌-◌, ◌<◌, ◌≤◌, ◌⊎◌, inr, Bool, true, false, cond, List, Option, Some, None, option_map, refl, sym, ◌∙◌, ap, subst, arith}
use native.Mathlib.Decide.{ℕ_discrete}
use Rattle.arena.specs.declared.limits.Mode.TheVariants.{Tree, Trie}
use Rattle.histories.specs.Common.{Layout, Resource, NodeNo, ScxNo, Row as StepRow, History, ◌⊳◌, value, IsWin, Entry as Entered, Side}
use Rattle.arena.proofs.Lemmas.{ends_self, same_moment}
use Rattle.record.specs.Common.{need, MapCall, Edit, MapReply, OneValue, MapEdit, IsRising, changes_map, edit_key, edit_of, edit_to, edited, get, leaves, pair, pair_or_none, reply}
use Rattle.record.specs.Common.{map_request, Makes, Spells, said, Pair, Value, Pairs, Contended, NoMemory, Full as FullOf, Request, Goal, Key, End, Call, Command, Map}
use Rattle.record.specs.Common.{HasItsEntry, HasLostAllTries, enters, linked, map_at, map_call, reply_told, IsPlacedOnMap, IsFitting, tells_change, IsMapEntry, history, start, won}
use Rattle.ordered_map.specs.CallRules.{nodes_at, nodes_there}
use Rattle.ordered_map.specs.MapLaws.{IsEndmost}
use Rattle.ordered_map.specs.OrderedMap.{Get, Neighbour, Range, Delete, applies, delete, edit_by, end_pair}
use Rattle.ordered_map.specs.Paths.{IsOnPath, end_key}
use Rattle.ordered_map.specs.Requests.{edit_in}
use Rattle.ordered_map.specs.TreeShape.{edit_leaf}
use Rattle.ordered_map.specs.TreeWords.{end_said, is_leaf}
use Rattle.ordered_map.specs.declared.reply.Reply.TheVariants.{Pair as PairOf}
use Rattle.ordered_map.specs.declared.rule.Rule.{Rule}
use Rattle.ordered_map.proofs.Lemmas.{deleted, delete_keeps, end_had, end_is, makes_since, one_spelling}
use Rattle.ordered_map.specs.Runs.{IsMapRun}
use Rattle.ordered_map.proofs.MapLemmas.{run_since, walk_end, win_makes}
use Rattle.record.specs.declared.record.Line.{Line}
use Rattle.record.specs.declared.record.Finished.{Finished}
use Rattle.record.specs.declared.record.Answer.{Answer}
use Rattle.record.specs.declared.record.Answer.TheVariants.{Map as MapAnswer}
use Rattle.record.specs.Placed.{IsPlacedChangeOrReading}
use Rattle.record.specs.Rules.Edit.{EditIsRight, EditTells, FindsFirst, HadToChange, HasChangedOrReplied}
use Rattle.record.specs.Rules.Map.{RepliesAfterStep, own_rules}
use Rattle.record.specs.Shares.{HasTooFewToTry}
use Rattle.record.proofs.Lemmas.{value_told}
use Rattle.linearization.specs.declared.places.Change.{Change}
use Rattle.linearization.proofs.Lemmas.{ordered_placed}
use Rattle.audit.specs.Asked.{IsAsked, IsReadAt, NeededSomething, NeededWithin}
use Rattle.audit.specs.Edits.{IsEditBy, IsEndLeaf, Suits}
use Rattle.audit.specs.declared.client.ClientState.{ClientState}
use Rattle.audit.proofs.MapAnswers.{IsAnswered, either_fits, is_change, neither, spelled_within}
use Rattle.audit.proofs.TurnMoments.{HasSpelled, answer_by, replied_by, to_change_by}

-- Edits

-- a call with this goal and this rule is that edit
pub edit_is : (call : MapCall) (goal : Goal) (rule : Rule) → edit_in call ≡ Some (goal, rule) → call ≡ Edit goal rule
edit_is (Edit own by) goal rule e =
    let one : Some own ≡ Some goal = ap (option_map (λ (p : Goal × Rule). p.0)) e in
    let two : Some by ≡ Some rule = ap (option_map (λ (p : Goal × Rule). p.1)) e in
    let same : own ≡ goal = cc in
    ap (λ (g : Goal). Edit g by) same ∙ ap (Edit goal) (let r : by ≡ rule = cc in r)
edit_is call goal rule e = absurd (let z : None ≡ Some (goal, rule) = e in cc)

-- at a key with a value to which its rule applies it needs as many nodes as there
pub need_at : (call : MapCall) (goal : Goal) (rule : Rule) (key : ℕ) (m : List Pair) (found : Option ℕ) → edit_in call ≡ Some (goal, rule) → goal ≡ Key key → get key m ≡ found → applies rule found ≡ true → need call m ≡ nodes_at found
need_at call goal rule key m found is at had does = ap (λ (k : MapCall). need k m) (edit_is call goal rule is ∙ ap (λ (g : Goal). Edit g rule) at) ∙ ap (λ (o : Option ℕ). nodes_there rule (Some (key, o))) had ∙ ap (λ (b : Bool). cond b (nodes_at found) 0) does

-- so it needed something
pub needed_any : (calls : List Call) (lines : List Line) (r : Finished) (call : MapCall) (nodes : ℕ) → 0 < nodes → NeededWithin calls lines call nodes r → NeededSomething calls lines call r
needed_any calls lines r (Edit goal rule) nodes some x = (nodes, some, x)
needed_any calls lines r call nodes some x = tt

-- an edit that goes to an end of a trie may lose its tries before it finds something
pub looks_first : (lay : Layout) (call : MapCall) (side : Side) (rule : Rule) → edit_in call ≡ Some (End side, rule) → lay.mode ≡ Trie → FindsFirst lay call → ⊥
looks_first lay call side rule is trie finds =
    let tree : lay.mode ≡ Tree = subst (FindsFirst lay) (edit_is call (End side) rule is) finds in
    let same : Trie ≡ Tree = sym trie ∙ tree in
    cc

-- Entries

-- where an update of the call has won, its answer says so
won_so : (b : Bool) (turn : ℕ) → HasItsEntry b (Some turn) → b ≡ true
won_so true turn x = refl
won_so false turn x = absurd x

-- and where none has, it does not
unwon_so : (b : Bool) → HasItsEntry b None → b ≡ false
unwon_so false x = refl
unwon_so true x = absurd x

-- an answer says of no update that it has won
unwon_by : (has : Option ℕ) → HasItsEntry false has → has ≡ None
unwon_by None x = refl
unwon_by (Some turn) x = absurd x

-- a refusal does not
pub refused_unwon : (command : Command) (call : MapCall) (answer : Answer) (has : Option ℕ) → map_call (Some command) ≡ Some call → reply_told answer ≡ None → HasItsEntry (enters command answer) has → has ≡ None
refused_unwon (Map request) call answer has of_map none x = unwon_by has (subst (λ (o : Option MapReply). HasItsEntry (tells_change (map_request request) o) has) none x)
refused_unwon command call answer has of_map none x = absurd (let z : None ≡ Some call = of_map in cc)

-- Answers

-- the call may give this answer, in place of a first step or after one
abbrev pub Fits : MapCall → Answer → Type 0
Fits call answer = (own_rules call).IsAtOnce answer ⊎ RepliesAfterStep call answer

module _ (lay : Layout) (tries c : ℕ) (now start : History) (kept : ℕ → Option History) where
  -- the answer to a call is right
  abbrev pub RightOf : MapCall → Answer → Type 0
  RightOf call = (own_rules call).IsRight lay tries c now start kept

  -- an edit that answers something has changed it, or found it
  edit_right : (call : MapCall) (told : MapReply) (answer : Answer) → reply_told answer ≡ Some told → HasChangedOrReplied (changes_map call told) lay now start call told → EditIsRight call lay tries c now start kept answer
  edit_right call told (MapAnswer (Value v)) e had = subst (EditTells call lay now start) (sym e) had
  edit_right call told (MapAnswer (PairOf p)) e had = subst (EditTells call lay now start) (sym e) had
  edit_right call told (MapAnswer (Pairs ps)) e had = subst (EditTells call lay now start) (sym e) had
  edit_right call told answer e had = absurd (let z : None ≡ Some told = e in cc)

  -- a call whose answer says that it has changed the map
  change_right : (call : MapCall) (told : MapReply) (answer : Answer) → reply_told answer ≡ Some told → changes_map call told ≡ true → RightOf call answer
  change_right (Edit goal rule) told answer e changes = edit_right (Edit goal rule) told answer e (subst (λ (b : Bool). HasChangedOrReplied b lay now start (Edit goal rule) told) (sym changes) tt)
  change_right call told answer e changes = absurd (let z : false ≡ true = changes in cc)

  get_right : (key : ℕ) (m : List Pair) (answer : Answer) → reply_told answer ≡ Some (OneValue (get key m)) → Fits (Get key) answer → HasSpelled lay now start m → RightOf (Get key) answer
  get_right key m (MapAnswer (Value v)) e fits y = answer_by lay now start m y key v (let z : Some (OneValue v) ≡ Some (OneValue (get key m)) = sym (value_told v) ∙ e in cc)
  get_right key m (MapAnswer (PairOf p)) e fits y = neither fits
  get_right key m (MapAnswer (Pairs ps)) e fits y = neither fits
  get_right key m answer e fits y = absurd (let z : None ≡ Some (OneValue (get key m)) = e in cc)

  neighbour_right : (side : Side) (key : ℕ) (told : MapReply) (answer : Answer) → reply_told answer ≡ Some told → Fits (Neighbour side key) answer → RightOf (Neighbour side key) answer
  neighbour_right side key told (MapAnswer (PairOf p)) e fits = tt
  neighbour_right side key told (MapAnswer (Value v)) e fits = neither fits
  neighbour_right side key told (MapAnswer (Pairs ps)) e fits = neither fits
  neighbour_right side key told answer e fits = absurd (let z : None ≡ Some told = e in cc)

  range_right : (low high most : ℕ) (told : MapReply) (answer : Answer) → reply_told answer ≡ Some told → Fits (Range low high most) answer → RightOf (Range low high most) answer
  range_right low high most told (MapAnswer (Pairs ps)) e fits = tt
  range_right low high most told (MapAnswer (Value v)) e fits = neither fits
  range_right low high most told (MapAnswer (PairOf p)) e fits = neither fits
  range_right low high most told answer e fits = absurd (let z : None ≡ Some told = e in cc)

  -- a call that answers what the words said, and that it has changed nothing
  read_right : (call : MapCall) (m : List Pair) (answer : Answer) → reply_told answer ≡ Some (reply call m) → changes_map call (reply call m) ≡ false → Fits call answer → (((own_rules call).IsAtOnce answer → ⊥) → HasSpelled lay now start m) → RightOf call answer
  read_right (Edit goal rule) m answer e unchanged fits there =
      let call : MapCall = Edit goal rule in
      edit_right call (reply call m) answer e (subst (λ (b : Bool). HasChangedOrReplied b lay now start call (reply call m)) (sym unchanged) (replied_by lay now start m (there (λ z. z)) call (reply call m) refl))
  read_right (Get key) m answer e unchanged fits there = get_right key m answer e fits (there (λ z. z))
  read_right (Neighbour side key) m answer e unchanged fits there = neighbour_right side key (reply (Neighbour side key) m) answer e fits
  read_right (Range low high most) m answer e unchanged fits there = range_right low high most (reply (Range low high most) m) answer e fits

  -- a refusal for want of memory
  pub memory_right : (call : MapCall) → Fits call (MapAnswer NoMemory) → RightOf call (MapAnswer NoMemory)
  memory_right (Edit (Key key) rule) fits = neither fits
  memory_right (Edit (End side) rule) fits = neither fits
  memory_right (Get key) fits = neither fits
  memory_right (Neighbour side key) fits = tt
  memory_right (Range low high most) fits = tt

module _ (lay : Layout) (tries : ℕ) (calls : List Call) (lines : List Line) (changed : List Change) (client : ClientState) (request : Request ℕ ℕ) (r : Finished) (x : IsAsked lay tries calls lines changed client (Map request) r) where
  abbrev now : History
  now = history lay.mode lines

  abbrev begun : History
  begun = start lay.mode lines r.client.0

  abbrev RightBy : MapCall → Answer → Type 0
  RightBy call = RightOf lay tries r.client.0 now begun (linked calls lay.mode lines r.client.0) call

  -- the words spelled the map after each turn of a call that answers at no idle one
  spelled_by : (call : MapCall) → map_request request ≡ call → ((own_rules call).IsAtOnce r.answer → ⊥) → (m : ℕ) → r.begin ≤ m → m ≤ r.end → HasSpelled lay now begun (map_at calls lines m)
  spelled_by call is never = spelled_within lay tries calls lines changed client (Map request) r x (λ may. never (subst (λ (k : MapCall). (own_rules k).IsAtOnce r.answer) is may))

  contended_by : (call : MapCall) (node : NodeNo) (scx : ScxNo) → map_request request ≡ call → Fits call (MapAnswer (Contended node scx)) → HasLostAllTries lay tries r.client.0 now begun node.0 scx.0 → (FindsFirst lay call → NeededSomething calls lines call r) → RightBy call (MapAnswer (Contended node scx))
  contended_by (Edit goal rule) node scx is fits lost needed = (λ finds. found (needed finds), lost)
    where
      found : NeededSomething calls lines (Edit goal rule) r → (nodes : ℕ) × HadToChange lay now begun (Edit goal rule) nodes
      found (nodes, some, (m, from, to, needs)) = (nodes, to_change_by lay now begun (map_at calls lines m) (spelled_by (Edit goal rule) is (λ z. z) m from to) (Edit goal rule) nodes some needs)
  contended_by (Get key) node scx is fits lost needed = neither fits
  contended_by (Neighbour side key) node scx is fits lost needed = lost
  contended_by (Range low high most) node scx is fits lost needed = lost

  -- one that fits is right where all tries were lost, and the call needed something, if that is found
  -- first
  pub contended_right : (node : NodeNo) (scx : ScxNo) → r.answer ≡ MapAnswer (Contended node scx) → HasLostAllTries lay tries r.client.0 now begun node.0 scx.0 → (FindsFirst lay (map_request request) → NeededSomething calls lines (map_request request) r) → RightBy (map_request request) (MapAnswer (Contended node scx))
  contended_right node scx answers lost needed = contended_by (map_request request) node scx refl (either_fits lines (Map request) (MapAnswer (Contended node scx)) (subst (IsFitting lines (Map request)) answers x.fits)) lost needed

  full_by : (call : MapCall) (nodes : ℕ) (what : Resource) (left : ℕ) → map_request request ≡ call → 0 < nodes → NeededWithin calls lines call nodes r → HasTooFewToTry lay r.client.0 now begun nodes what left → RightBy call (MapAnswer (FullOf record { what = what; left = left }))
  full_by (Edit goal rule) nodes what left is some (m, from, to, needs) few = (nodes, to_change_by lay now begun (map_at calls lines m) (spelled_by (Edit goal rule) is (λ z. z) m from to) (Edit goal rule) nodes some needs, few)
  full_by call nodes what left is some (m, from, to, needs) few = absurd (let none : 0 ≡ nodes = needs in omega (none, some, arith))

  -- one of a share that has too little for what the call needed
  pub full_right : (nodes : ℕ) (what : Resource) (left : ℕ) → 0 < nodes → NeededWithin calls lines (map_request request) nodes r → HasTooFewToTry lay r.client.0 now begun nodes what left → RightBy (map_request request) (MapAnswer (FullOf record { what = what; left = left }))
  full_right nodes what left = full_by (map_request request) nodes what left refl

  -- a call whose update has won
  pub change_answered : (turn : ℕ) → client.won ≡ Some turn → r.moment ≡ Some turn → reply_told r.answer ≡ Some (reply (map_request request) (map_at calls lines (turn - 1))) → IsAnswered lay tries calls lines r (Map request)
  change_answered turn has moment told =
      let call : MapCall = map_request request in
      let gives : MapReply = reply call (map_at calls lines (turn - 1)) in
      let it_won : won lay lines r.client.0 ≡ Some turn = sym x.has_won ∙ has in
      let changes : changes_map call gives ≡ true = won_so (changes_map call gives) turn (subst (λ (o : Option MapReply). HasItsEntry (tells_change call o) (Some turn)) told (subst (HasItsEntry (tells_change call (reply_told r.answer))) it_won x.entry)) in
      record {
        right = change_right lay tries r.client.0 now begun (linked calls lay.mode lines r.client.0) call gives r.answer told changes;
        placed = subst (λ (o : Option MapReply). IsPlacedOnMap o calls lines call r) (sym told) (subst (λ (b : Bool). IsPlacedChangeOrReading b calls lines call r) (sym changes) (is_change lay tries calls lines changed client (Map request) r x turn call it_won moment told));
      }

  -- one that has only read
  pub read_answered : client.won ≡ None → IsReadAt calls lines (map_request request) r → IsAnswered lay tries calls lines r (Map request)
  read_answered has a =
      let call : MapCall = map_request request in
      let m : List Pair = map_at calls lines a.turn in
      let told : reply_told r.answer ≡ Some (reply call m) = a.greatest.holds in
      let none : won lay lines r.client.0 ≡ None = sym x.has_won ∙ has in
      let unchanged : changes_map call (reply call m) ≡ false = unwon_so (changes_map call (reply call m)) (subst (λ (o : Option MapReply). HasItsEntry (tells_change call o) None) told (subst (HasItsEntry (tells_change call (reply_told r.answer))) none x.entry)) in
      record {
        right = read_right lay tries r.client.0 now begun (linked calls lay.mode lines r.client.0) call m r.answer told unchanged (either_fits lines (Map request) r.answer x.fits) (λ never. spelled_by call refl never a.turn a.greatest.from a.greatest.to);
        placed = subst (λ (o : Option MapReply). IsPlacedOnMap o calls lines call r) (sym told) (subst (λ (b : Bool). IsPlacedChangeOrReading b calls lines call r) (sym unchanged) (ordered_placed lay tries calls lines r call a.turn x.in_order none x.number a.moment a.greatest));
      }

-- What an entry does

-- the pair at an end of a map is what it has at that key
end_found : (side : Side) (m : List Pair) (key v : ℕ) (found : Option ℕ) → IsRising m → end_pair side m ≡ Some (pair key v) → get key m ≡ found → found ≡ Some v
end_found side m key v found rises there is = sym is ∙ (subst (IsEndmost side m) there (end_is side m rises)).0

-- a rule makes its edit where it applies
applied : (rule : Rule) (key : ℕ) (found : Option ℕ) → applies rule found ≡ true → edit_by rule key found ≡ Some (edit_to key (leaves rule))
applied rule key found is = ap (λ (b : Bool). cond b (Some (edit_to key (leaves rule))) None) is

-- and no other one
made_by : (rule : Rule) (key : ℕ) (found : Option ℕ) (edit : MapEdit) → edit_by rule key found ≡ Some edit → edit ≡ edit_to key (leaves rule)
made_by rule key found edit = go (applies rule found)
  where
    go : (b : Bool) → cond b (Some (edit_to key (leaves rule))) None ≡ Some edit → edit ≡ edit_to key (leaves rule)
    go true e = let same : edit_to key (leaves rule) ≡ edit = cc in sym same
    go false e = absurd (let none : None ≡ Some edit = e in cc)

key_left : (key : ℕ) (left : Option ℕ) → edit_key (edit_to key left) ≡ key
key_left key None = refl
key_left key (Some v) = refl

-- the leaf that is now at an end says what the map that the words spell has there
end_now : (side : Side) (lay : Layout) (h : History) (n : ℕ) (m : List Pair) → IsMapRun lay h → IsOnPath h (end_key side) n → is_leaf (value h) n ≡ true → Spells lay (value h) m → end_pair side m ≡ end_said side (value h) n
end_now side lay h n m g p leaf s =
    let x = walk_end side lay h h n g (h, ends_self h, ends_self h, p) leaf in
    let here : Spells lay (value h) x.map = subst (λ (k : History). Spells lay (value k) x.map) (same_moment h x.moment x.within x.since) x.spelled in
    ap (end_pair side) (one_spelling lay (value h) m x.map s here) ∙ x.is

-- an entry of it is one that a call with its command makes
module _ (lay : Layout) (h : History) (row : StepRow) (e : Entered) (run : IsMapRun lay (row ⊳ h)) (won : IsWin h row e.scx) where
  -- at a key
  made_at : (key : ℕ) (rule : Rule) (edit : MapEdit) → Makes lay h e.scx edit → edit ≡ edit_to key (leaves rule) → applies rule (said (value h) (edit_key edit) (edit_leaf h e.scx edit)) ≡ true → (map : List Pair) → Spells lay (value h) map → edit_of (Edit (Key key) rule) (reply (Edit (Key key) rule) map) ≡ Some edit
  made_at key rule edit x is suits map spells =
      let at = win_makes lay (row ⊳ h) h row e.scx edit run (ends_self (row ⊳ h)) won (makes_since lay (row ⊳ h) h e.scx edit (inr (ends_self h)) x) in
      let own : edit_key edit ≡ key = ap edit_key is ∙ key_left key (leaves rule) in
      let found : get key map ≡ said (value h) (edit_key edit) (edit_leaf h e.scx edit) = ap (λ (k : ℕ). get k map) (sym own) ∙ at.replies map spells in
      applied rule key (get key map) (ap (applies rule) found ∙ suits) ∙ ap Some (sym is)

  -- or of the pair at an end
  made_end : (side : Side) (key : ℕ) (rule : Rule) → Makes lay h e.scx (Delete key) → leaves rule ≡ None → applies rule (said (value h) key (edit_leaf h e.scx (Delete key))) ≡ true → IsEndLeaf side h (edit_leaf h e.scx (Delete key)) key → (map : List Pair) → Spells lay (value h) map → edit_of (Edit (End side) rule) (reply (Edit (End side) rule) map) ≡ Some (Delete key)
  made_end side key rule x left suits last map spells =
      let at = win_makes lay (row ⊳ h) h row e.scx (Delete key) run (ends_self (row ⊳ h)) won (makes_since lay (row ⊳ h) h e.scx (Delete key) (inr (ends_self h)) x) in
      let is : end_pair side map ≡ Some (pair key last.there.0) = end_now side lay h (edit_leaf h e.scx (Delete key)) map (run_since lay (row ⊳ h) h run (inr (ends_self h))) last.path last.leaf spells ∙ last.there.1 in
      let found : said (value h) key (edit_leaf h e.scx (Delete key)) ≡ Some last.there.0 = end_found side map key last.there.0 (said (value h) key (edit_leaf h e.scx (Delete key))) spells.rising is (at.replies map spells) in
      ap (λ (o : Option Pair). edit_of (Edit (End side) rule) (pair_or_none o)) is ∙ applied rule key (Some last.there.0) (ap (applies rule) (sym found) ∙ suits) ∙ ap (λ (o : Option ℕ). Some (edit_to key o)) left

  pub entry_makes : (call : MapCall) (edit : MapEdit) → Makes lay h e.scx edit → IsEditBy (Some call) edit → Suits (Some call) h e.scx edit → IsMapEntry call lay h e
  entry_makes (Edit (Key key) rule) edit x is suited = record { edit = edit; makes = x; of_map = made_at key rule edit x is suited.0 }
  entry_makes (Edit (End side) rule) edit x (key, is, left) suited =
      let own : Makes lay h e.scx (Delete key) = subst (Makes lay h e.scx) is x in
      let both : Suits (Some (Edit (End side) rule)) h e.scx (Delete key) = subst (Suits (Some (Edit (End side) rule)) h e.scx) is suited in
      record { edit = Delete key; makes = own; of_map = made_end side key rule own left both.0 both.1 }
  entry_makes call edit x is suited = absurd is

-- a delete that leaves what is left without a key of the map takes out the same key
taken_key : (k key : ℕ) (m : List Pair) → IsRising m → (v : ℕ) × (get key m ≡ Some v) → delete k m ≡ delete key m → k ≡ key
taken_key k key m rising had same = go (ℕ_discrete k key)
  where
    go : Dec (k ≡ key) → k ≡ key
    go (yes q) = q
    go (no q) =
        let kept : Some had.0 ≡ None = sym had.1 ∙ sym (delete_keeps key k m (λ e. q (sym e))) ∙ ap (get key) same ∙ deleted key m rising in
        absurd cc

-- an entry of it is of the edit that it makes of the map which the words spell just before
module _ (lay : Layout) (h : History) (row : StepRow) (e : Entered) (m : List Pair) (run : IsMapRun lay (row ⊳ h)) (won : IsWin h row e.scx) (spells : Spells lay (value h) m) where
  left_by : (edit : MapEdit) → Makes lay h e.scx edit → Spells lay (value (row ⊳ h)) (edited edit m)
  left_by edit x = (win_makes lay (row ⊳ h) h row e.scx edit run (ends_self (row ⊳ h)) won (makes_since lay (row ⊳ h) h e.scx edit (inr (ends_self h)) x)).changes m spells

  -- of the pair at an end there is one key that it can take out
  taken_by : (side : Side) (key : ℕ) (rule : Rule) (edit : MapEdit) → Makes lay h e.scx (Delete key) → leaves rule ≡ None → Makes lay h e.scx edit → (there : Option Pair) → end_pair side m ≡ there → edit_of (Edit (End side) rule) (pair_or_none there) ≡ Some edit → edit ≡ Delete key
  taken_by side key rule edit x left makes None is e' = absurd (let none : None ≡ Some edit = e' in cc)
  taken_by side key rule edit x left makes (Some p) is e' =
      let own : edit ≡ Delete p.key = made_by rule p.key (Some p.value) edit e' ∙ ap (edit_to p.key) left in
      let same : delete key m ≡ delete p.key m = one_spelling lay (value (row ⊳ h)) (delete key m) (delete p.key m) (left_by (Delete key) x) (left_by (Delete p.key) (subst (Makes lay h e.scx) own makes)) in
      own ∙ ap Delete (sym (taken_key key p.key m spells.rising (end_had side m p is) same))

  pub makes_on : (call : MapCall) (edit : MapEdit) → IsEditBy (Some call) edit → Makes lay h e.scx edit → IsMapEntry call lay h e → edit_of call (reply call m) ≡ Some edit
  makes_on (Edit (Key key) rule) edit by own x = x.of_map m spells ∙ ap Some (made_by rule key (get key m) x.edit (x.of_map m spells) ∙ sym by)
  makes_on (Edit (End side) rule) edit (key, by, left) own x =
      let same : x.edit ≡ Delete key = taken_by side key rule x.edit (subst (Makes lay h e.scx) by own) left x.makes (end_pair side m) refl (x.of_map m spells) in
      x.of_map m spells ∙ ap Some (same ∙ sym by)
  makes_on call edit by own x = absurd x
