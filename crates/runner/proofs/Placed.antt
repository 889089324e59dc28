-- Where the calls of a client are in the history of the whole run.
use Rattle.std.proofs.Common.{◌≡◌, ◌∙◌, ℕ, inr, List, [], ◌∷◌, Option, Some, None, refl, sym, ap, subst}
use Rattle.histories.specs.Common.{Layout, History, ◌⊳◌, value, Extends}
use Rattle.arena.proofs.Lemmas.{ends_self, ends_trans}
use Rattle.record.specs.Common.{Pair, MapCall, MapEdit, MapReply, after, edited, reply, edit_of, Makes, Reply, Command}
use Rattle.ordered_map.proofs.Lemmas.{after_is, one_spelling}
use Rattle.ordered_map.specs.Replies.{told_of}
use Rattle.ordered_map.specs.declared.reply.Reply.TheVariants as replies
use Rattle.edits.specs.Tries.{HasOnlyLooked}
use Rattle.dict.specs.Says.{HasMadeRow}
use Rattle.forest.specs.Dictionary.{IsVersion, IsChange, IsChangeOrReading, IsReading, IsRefusalOf, IsToldOf}
use Rattle.tables.specs.Passes.{Ground, PassView, run_of}
use Rattle.runner.specs.Calls.{HasCalledNumbers, HaveReplies}
use Rattle.runner.specs.Histories.{AreVersions, IsEnteredCall, IsReadCall, IsPlacedAs, IsPlacedInRun, IsAnswered}
use Rattle.runner.proofs.Chains.{replies_later}

module _ (forest : Ground) (run : History) (versions : History → List Pair) (are : AreVersions forest.layout run versions) where
  abbrev lay : Layout
  lay = forest.layout

  module _ (old new : PassView) (layout : new.layout ≡ lay) (same : new.number ≡ old.number) (within : Extends run (run_of new)) where
    -- what the words spell at a moment is the version there
    version_is : (moment : History) (m : List Pair) → Extends (run_of new) moment → IsVersion new moment m → m ≡ versions moment
    version_is moment m e x = one_spelling lay (value moment) m (versions moment) (rw layout at x) (are.spelled moment (ends_trans run (run_of new) moment within e))

    read_placed : (call : MapCall) (told : MapReply) → IsReading old new call told → IsReadCall versions old new call told
    read_placed call told x =
        let read = x.read in
        record {
          moment = read.moment;
          within = read.within;
          since = read.since;
          own = λ asks. subst (λ (c : ℕ). HasMadeRow c (run_of old) read.moment) same (read.own asks);
          gives = ap (reply call) (sym (version_is read.moment read.map read.within read.spelled)) ∙ read.gives;
          only_looked = λ some. subst (λ (c : ℕ). HasOnlyLooked c (run_of new) (run_of old)) same (read.only_looked some);
          done = x.done;
        }

    entry_placed : (call : MapCall) (told : MapReply) (edit : MapEdit) → edit_of call told ≡ Some edit → IsChange old new call told edit → IsEnteredCall lay versions old new call told edit
    entry_placed call told edit made x =
        let before_within : Extends (run_of new) x.before = ends_trans (run_of new) (x.row ⊳ x.before) x.before x.within (inr (ends_self x.before)) in
        let was : x.map ≡ versions x.before = version_is x.before x.map before_within x.was in
        let is : edited edit x.map ≡ versions (x.row ⊳ x.before) = version_is (x.row ⊳ x.before) (edited edit x.map) x.within x.is in
        let left : after call x.map ≡ edited edit x.map = after_is call x.map (Some edit) (ap (edit_of call) x.gives ∙ made) in
        record {
          row = x.row;
          before = x.before;
          within = x.within;
          since = x.since;
          own = x.own;
          entry = x.entry;
          logged = rw layout at x.logged;
          done = x.done;
          of_pass = x.of_pass;
          of_call = x.of_call;
          makes = subst (λ (l : Layout). Makes l (run_of new) x.entry.scx edit) layout x.makes;
          gives = ap (reply call) (sym was) ∙ x.gives;
          leaves = sym is ∙ sym left ∙ ap (after call) was;
        }

    placed_as : (made : Option MapEdit) (call : MapCall) (told : MapReply) → edit_of call told ≡ made → IsChangeOrReading made old new call told → IsPlacedAs made lay versions old new call told
    placed_as (Some edit) call told e x = entry_placed call told edit e x
    placed_as None call told e x = read_placed call told x

    -- what a reply says, or that the call has no entry
    placed : (call : MapCall) (r : Reply ℕ ℕ) → IsToldOf old new call (told_of (λ n. n) (λ n. n) r) → IsRefusalOf forest.tries old new call r → IsPlacedInRun lay versions old new call (told_of (λ n. n) (λ n. n) r)
    placed call (replies.Value v) x y = placed_as (edit_of call _) call _ refl x
    placed call (replies.Pair p) x y = placed_as (edit_of call _) call _ refl x
    placed call (replies.Pairs ps) x y = placed_as (edit_of call _) call _ refl x
    placed call (replies.Contended n s) x y = y.done
    placed call (replies.Full f) x y = y.done
    placed call replies.NoMemory x y = y.1

  -- so it is for all calls of a client
  pub all_answered : (old new : PassView) (cs : List Command) (rs : List (Reply ℕ ℕ)) → Extends run (run_of new) → HaveReplies (HasCalledNumbers forest) old cs rs new → HaveReplies (IsAnswered forest run versions) old cs rs new
  all_answered old new [] [] within h = h
  all_answered old new [] (r ∷ rs) within h = absurd h
  all_answered old new (c ∷ cs) [] within h = absurd h
  all_answered old new (c ∷ cs) (r ∷ rs) within h =
      let there = ends_trans run (run_of new) (run_of h.1) within (replies_later forest h.1 new cs rs h.4).run in (
        h.0,
        h.1,
        h.2,
        record { within = there; told = placed old h.1 h.3.1.pass.1 h.3.1.goes_on.later.number there h.0 r h.3.1.told h.3.1.refused; called = h.3 },
        all_answered h.1 new cs rs within h.4,
      )
