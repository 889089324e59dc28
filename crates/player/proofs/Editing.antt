-- A call of the map that runs: what its SCX-record in progress says, and the word `call` that it
-- fills.
use Rattle.std.proofs.Common.{◌≡◌, ℕ, ◌<◌, inr, List, Option, Some, None, refl, sym, ◌∙◌, ap, subst, arith}
use Rattle.histories.specs.Common.{Layout, Row, Step, Fill as FillKind, LoadSettled, ScxWord, scx as scx_word, word_after, History, ◌⊳◌}
use Rattle.histories.specs.Common.{value, IsInProgress, count_of, IsOwnScx, IsNamedScx, Lawful, IsWin, Call as MachineCall, begun_at}
use Rattle.arena.specs.declared.word.ScxWord.TheVariants.{Call as CallWord}
use Rattle.arena.proofs.Lemmas.{ends_self}
use Rattle.help.specs.Laws.Help.Lawful.{help_fills_not}
use Rattle.template.specs.Common.{AllowsAll, Job, job_of, ScxWaitsAt, PutRun, ScxAt, ScxRun as ScxMachine, goal_told, asked_key, Rule, Tracks}
use Rattle.prims.specs.Put.Known.{PutWaitsAt}
use Rattle.prims.specs.Scx.Known.{HasFilled, part_at, fill_step}
use Rattle.prims.specs.declared.put.PutAt.{PutAt}
use Rattle.prims.specs.declared.put.PutAt.TheVariants.{Start as PutStart, Fill as PutFill, Scx as PutScx}
use Rattle.prims.specs.declared.scx.ScxAt.TheVariants.{Start as ScxStart, Help}
use Rattle.prims.proofs.Lemmas.{llx_fills_not, vlx_fills_not, own_in_hand}
use Rattle.dict.specs.Calls.{inner_call, inner_share}
use Rattle.dict.specs.Known.{IsNumbered, WaitsInside}
use Rattle.dict.specs.Goals.{leaf_told}
use Rattle.tree.specs.Laws.KeyEdit.{key_laws}
use Rattle.dict.specs.Inner.{GoalBy, InnerRun, Update, Get, Read, edit_means, inner}
use Rattle.dict.specs.Laws.Kinds.{edit_at_found, edit_changes}
use Rattle.order.specs.Laws.Run.{read_fills_not}
use Rattle.record.specs.Common.{Pair, Edit, MapEdit, OneValue, edit_key, edit_of, get, pair_or_none, reply, IsMapRun, Makes}
use Rattle.record.specs.Common.{Spells, TreeAllows, Goal, Key as ToKey, End, Command, Scx as ScxOf, Set as SetOf}
use Rattle.ordered_map.proofs.MapLemmas.{win_makes}
use Rattle.template.proofs.Lemmas.{walk_fills_not}
use Rattle.template.specs.declared.walk.Found.{Found}
use Rattle.edits.specs.Edits.{EditMeaning}
use Rattle.edits.specs.Known.{Scxs, ToldEnd, Tries, UpdateWaitsAt}
use Rattle.edits.specs.Laws.Entered.{only_joined}
use Rattle.edits.specs.Laws.Kept.{idle_rests}
use Rattle.edits.specs.Sound.{HasGuardAtEnd, IsAtFound}
use Rattle.edits.specs.Tries.{CoversSnaps, HasEnteredOnly}
use Rattle.edits.proofs.Lemmas.{told_end, leaf_told as value_told}
use Rattle.edits.specs.declared.update.UpdateAt.{UpdateAt}
use Rattle.edits.specs.declared.update.UpdateAt.TheVariants.{Start, Walk, Guard, Look, Read as ReadWord, Fill, Scx}
use Rattle.edits.specs.declared.update.UpdateRun.{UpdateRun}
use Rattle.player.specs.declared.client.SetField.{SetField}
use Rattle.player.specs.declared.run.Run.{Run}
use Rattle.player.specs.declared.run.Run.TheVariants.{Llx, Scx as ScxRun, Vlx, Map}
use Rattle.player.specs.RunKnown.{RunWaits, edit_at, edit_inside}
use Rattle.player.specs.ClientView.{IsMachineOf, IsScxOf}

-- The SCX-record in hand

module _ (allows : Layout → History → ℕ → Type 0) (m : Job) (c : MachineCall) (h : History) where
  -- one that an info word names is filled
  scx_filled : (at : ScxAt) (s : Step) → IsNamedScx h m.scx.0 → ScxWaitsAt allows c h m at s → HasFilled c h m.scx.0 m.call m.update
  scx_filled ScxStart s p w = absurd w
  scx_filled (Help help) s p w = w.2
  scx_filled at s p w = absurd (w.fills.hand.is_open.unnamed p)

  -- the fill of a word `call` stores the number of its call
  says_at : (part : ScxWord) (s : Step) (t v : ℕ) → s ≡ fill_step m part → s.word ≡ scx_word t CallWord → word_after s.access v ≡ m.call
  says_at CallWord s t v asked word = rw asked refl
  says_at part s t v asked word = absurd (let z : scx_word m.scx.0 part ≡ scx_word t CallWord = ap (λ (q : Step). q.word) (sym asked) ∙ word in cc)

  scx_says : (at : ScxAt) (s : Step) (t v : ℕ) → ScxWaitsAt allows c h m at s → s.kind ≡ FillKind → s.word ≡ scx_word t CallWord → word_after s.access v ≡ m.call
  scx_says ScxStart s t v w kind word = absurd w
  scx_says (Help help) s t v w kind word = absurd (help_fills_not allows help c h s w.0 kind)
  scx_says at s t v w kind word = says_at (part_at at) s t v w.asked word

-- what an edit's SCX-record in progress says: it is of the call of this number, makes the edit, and
-- no other of the call has won
pub record IsHandOf (number : ℕ) (edit : MapEdit) (call : MachineCall) (h : History) (t : ℕ) : Type 0 where
  pub called : value h (scx_word t CallWord) ≡ number
  pub makes : Makes call.layout h t edit
  pub only : HasEnteredOnly call.layout call.pass t h call.start

-- it is of the edit that the machine inside has in hand; where a row makes its update win, what the
-- call replies on the map just before says that it has made this edit
pub record IsEditHand (m : InnerRun) (call : MachineCall) (h : History) (t : ℕ) : Type 0 where
  pub edit : MapEdit
  pub is : edit_inside m ≡ Some edit
  pub hand : IsHandOf call.number edit call h t
  pub gives : (row : Row) → IsMapRun call.layout (row ⊳ h) → IsWin h row t → (map : List Pair) → Spells call.layout (value h) map → edit_of (inner_call m) (reply (inner_call m) map) ≡ Some edit

module _ {E : Type 0} (means : EditMeaning E) (m : UpdateRun E UpdateAt) where
  -- if a row makes the update win, the leaf that was found says what the map has just before
  record TellsAtWin (f : Found) (lay : Layout) (h : History) (t : ℕ) : Type 0 where
    value_is : (row : Row) → IsMapRun lay (row ⊳ h) → IsWin h row t → (map : List Pair) → Spells lay (value h) map → get (edit_key (means.edit m.edit f)) map ≡ f.value
    end_is : (row : Row) → IsMapRun lay (row ⊳ h) → IsWin h row t → ToldEnd (means.goal m.edit) lay h f

  -- what its SCX-record says, which it makes for this leaf
  record IsHandAt (at : UpdateAt) (call : MachineCall) (h : History) (t : ℕ) : Type 0 where
    found : Found
    is : edit_at means m.edit at ≡ Some (means.edit m.edit found)
    needed : 0 < (means.work m.edit found).need
    hand : IsHandOf m.call (means.edit m.edit found) call h t
    tells : TellsAtWin found call.layout h t

  module _ (at_found : IsAtFound means) (at_end : HasGuardAtEnd means) (call : MachineCall) (h : History) (t : ℕ) (l : Lawful call.layout h) (own : IsOwnScx call.layout call.pass t) (p : IsInProgress h t) where
    -- what it makes if it is not aborted
    makes_it : (edit : MapEdit) (j : Job) → j.scx.0 ≡ t → Tracks call.layout call.pass h j edit → Makes call.layout h t edit
    makes_it edit j e (Tracks.waits f free) = absurd (free (rw e p.named))
    makes_it edit j e (Tracks.begun x) = rw e at x
    makes_it edit j e (Tracks.over x) = absurd (let z = p.unfinished in let y = rw e at x in omega (arith, z, y))

    -- so does the leaf that its SCX covers
    tells_at : (b begin : History) (f : Found) (scx : ScxMachine) → Scxs means m (begun_at call b) h f scx begin → HasFilled (begun_at (begun_at call b) begin) h scx.scx.0 scx.call scx.update → Makes call.layout h scx.scx.0 (means.edit m.edit f) → TellsAtWin f call.layout h scx.scx.0
    tells_at b begin f scx x filled makes = record {
      value_is = λ row now won. value_told means m.edit (begun_at call b) f begin h row scx.scx.0 scx.update now filled.way.begun.since won makes x.found x.leaf covers at_found
          (win_makes call.layout (row ⊳ h) h row scx.scx.0 (means.edit m.edit f) now (ends_self (row ⊳ h)) won record { row = makes.row; before = makes.before; within = inr makes.within; begins = makes.begins; edit = makes.edit });
      end_is = λ row now won. told_end means m.edit (begun_at call b) f begin h row scx.scx.0 scx.update now filled.way.begun.since won makes x.found x.leaf covers at_end x.may x.unnamed x.guard x.ends;
    }
      where
        covers : CoversSnaps h scx.scx.0 scx.update
        covers = record { planned = filled.planned; saw = filled.found; count = ap count_of filled.planned ∙ filled.over.count; members = filled.members }

    -- while its SCX runs, and in no other place
    hand_at : (b : History) (s : Step) (at : UpdateAt) → Tries means m call b h at → UpdateWaitsAt means m (begun_at call b) h s at → IsHandAt at call h t
    hand_at b s Start try w = absurd w
    hand_at b s (Walk walk) try w = absurd (idle_rests (begun_at call b) h m.share l w.0.rests t own p)
    hand_at b s (Guard walk head llx) try w = absurd (idle_rests (begun_at call b) h m.share l w.1.rests t own p)
    hand_at b s (Look f llx) try w = absurd (idle_rests (begun_at call b) h m.share l w.1.rests t own p)
    hand_at b s (ReadWord f n part) try w = absurd (w.0.works.quiet h (ends_self h) w.0.works.since t own p)
    hand_at b s (Fill f nth part) try w = absurd (w.0.works.quiet h (ends_self h) w.0.works.since t own p)
    hand_at b s (Scx f scx) try (begin, x, w) =
        let same : t ≡ scx.scx.0 = own_in_hand call.layout h call.pass t scx.scx.0 l x.over own p in
        let filled = scx_filled TreeAllows (job_of scx) (begun_at (begun_at call b) begin) h scx.at s (rw same at p.named) w in
        let makes = makes_it (means.edit m.edit f) (job_of scx) (sym same) x.tracks in
        record {
          found = f;
          is = refl;
          needed = x.need;
          hand = record {
            called = rw same (filled.called ∙ x.call);
            makes = makes;
            only = rw same (only_joined call.layout call.pass scx.scx.0 h b call.start x.now try.none x.only);
          };
          tells = subst (λ (u : ℕ). TellsAtWin f call.layout h u) (sym same) (tells_at b begin f scx x filled (rw same at makes));
        }

  -- The word `call`

  update_says_at : (call : MachineCall) (h : History) (s : Step) (t v : ℕ) (at : UpdateAt) → UpdateWaitsAt means m call h s at → s.kind ≡ FillKind → s.word ≡ scx_word t CallWord → word_after s.access v ≡ m.call
  update_says_at call h s t v Start w kind word = absurd w
  update_says_at call h s t v (Walk walk) w kind word = absurd (walk_fills_not walk call h s w.1 kind)
  update_says_at call h s t v (Guard walk head llx) w kind word = absurd (llx_fills_not TreeAllows llx (begun_at call w.0) h s w.2 kind)
  update_says_at call h s t v (Look f llx) w kind word = absurd (llx_fills_not TreeAllows llx (begun_at call w.0) h s w.2 kind)
  update_says_at call h s t v (ReadWord f n part) w kind word = absurd (let z : LoadSettled ≡ FillKind = ap (λ (q : Step). q.kind) (sym w.1) ∙ kind in cc)
  update_says_at call h s t v (Fill f nth part) w kind word = absurd (let z = ap (λ (q : Step). q.word) (sym w.3) ∙ word in cc)
  update_says_at call h s t v (Scx f scx) w kind word = scx_says TreeAllows (job_of scx) (begun_at call w.0) h scx.at s t v w.2 kind word ∙ w.1.call

-- the map answers a call what the leaf does that it has found, if the leaf's value is that of the
-- key in the map, and of a walk to an end where the pair there is the map's
goal_is : (goal : Goal) (f : Found) (lay : Layout) (h : History) (key : ℕ) (map : List Pair) → key ≡ asked_key goal f.key → get key map ≡ f.value → ToldEnd goal lay h f → Spells lay (value h) map → goal_told goal map ≡ leaf_told goal f
goal_is (ToKey k) f lay h key map same value_is end_is spells = ap OneValue (subst (λ (n : ℕ). get n map ≡ f.value) same value_is)
goal_is (End side) f lay h key map same value_is end_is spells = ap pair_or_none (end_is map spells)

-- a pass that rests has none in progress
module _ (call : MachineCall) (h : History) (t : ℕ) (l : Lawful call.layout h) (own : IsOwnScx call.layout call.pass t) (p : IsInProgress h t) (s : Step) where
  pub map_hand : (m : InnerRun) → IsNumbered m call.number → WaitsInside m call h s → IsEditHand m call h t
  map_hand (Update m) number w =
      let x = hand_at edit_means m edit_at_found (key_laws (λ (g : GoalBy). g.goal) (λ (g : GoalBy). g.balance) (λ (r : Rule). r)).at_end call h t l own p w.0 s m.at w.1 w.3 in
      record {
        edit = edit_means.edit m.edit x.found;
        is = x.is;
        hand = subst (λ (n : ℕ). IsHandOf n (edit_means.edit m.edit x.found) call h t) number x.hand;
        gives = λ row now won map spells. ap (edit_of (Edit m.edit.goal.goal m.edit.rule)) (goal_is m.edit.goal.goal x.found call.layout h (edit_key (edit_means.edit m.edit x.found)) map (edit_at_found m.edit x.found) (x.tells.value_is row now won map spells) (x.tells.end_is row now won) spells) ∙ edit_changes m.edit x.found x.needed;
      }
  map_hand m number w = absurd (idle_rests call h (inner_share m) l w.1.now t own p)

map_says : (m : InnerRun) (call : MachineCall) (h : History) (s : Step) (t v : ℕ) → IsNumbered m call.number → WaitsInside m call h s → s.kind ≡ FillKind → s.word ≡ scx_word t CallWord → word_after s.access v ≡ call.number
map_says (Update m) call h s t v number w kind word = update_says_at edit_means m (begun_at call w.0) h s t v m.at w.3 kind word ∙ number
map_says (Get key walk share) call h s t v number w kind word = absurd (walk_fills_not walk call h s w.0.0 kind)
map_says (Read k m share) call h s t v number w kind word = absurd (read_fills_not k.means m call h s w.0 kind)

put_says_at : (m : PutRun) (call : MachineCall) (h : History) (s : Step) (t v : ℕ) (at : PutAt) → PutWaitsAt AllowsAll call h m at s → s.kind ≡ FillKind → s.word ≡ scx_word t CallWord → word_after s.access v ≡ m.scx.call
put_says_at m call h s t v PutStart w kind word = absurd w
put_says_at m call h s t v PutFill w kind word = absurd (let z = ap (λ (q : Step). q.word) (sym w.2) ∙ word in cc)
put_says_at m call h s t v PutScx w kind word = scx_says AllowsAll (job_of m.scx) call h m.scx.at s t v w.1 kind word

put_called : (command : Command) (number : ℕ) (m : PutRun) (then : Option SetField) → IsScxOf command number m then → m.scx.call ≡ number
put_called (ScxOf update) number m None x = x.called
put_called (SetOf field y) number m None x = x.called
put_called command number m then x = absurd x

-- a machine that fills the word `call` stores there the number of the client's call
pub run_says : (command : Command) (run : Run) (then : Option SetField) (call : MachineCall) (h : History) (s : Step) (t v : ℕ) → IsMachineOf command call.number run then → RunWaits run call h s → s.kind ≡ FillKind → s.word ≡ scx_word t CallWord → word_after s.access v ≡ call.number
run_says command (Llx m) then call h s t v of w kind word = absurd (llx_fills_not AllowsAll m call h s w kind)
run_says command (Vlx m) then call h s t v of w kind word = absurd (vlx_fills_not m.snaps m.asked call h s w kind)
run_says command (ScxRun m) then call h s t v of w kind word = put_says_at m call h s t v m.at w kind word ∙ put_called command call.number m then of
run_says command (Map m) then call h s t v of w kind word = map_says (inner m.run) call h s t v w.1.0.number w.1.1 kind word
