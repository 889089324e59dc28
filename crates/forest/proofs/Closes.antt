-- What all passes together know of the words at the end.
use Rattle.std.proofs.Common.{◌≡◌, ℕ, zero, suc, inl, inr, List, [], ◌∷◌, ◌++◌, None, slice_index, refl, sym, ◌∙◌, ap, subst}
use mathlib.Core.Option.{some, some-injective, some-ne-none}
use lib.ListN.{get_elem?}
use Rattle.std.specs.List.{All}
use Rattle.std.proofs.lemmas.List.Elements.{All-nil, All-cons, All-head, All-tail, All-weaker}
use Rattle.atomic_table.specs.declared.shared.Seat.{Seat}
use Rattle.atomic_table.specs.Table.{Final, Seen}
use Rattle.histories.specs.Common.{Layout, Row, Word, place, IsWord, child, History, value, Extends, log, HasScx, Lawful, IsRun, Mode}
use Rattle.arena.proofs.Lemmas.{ends_trans}
use Rattle.histories.proofs.Lemmas.{fields_are, lawful_since}
use Rattle.tables.specs.declared.rule.Plot.{Plot}
use Rattle.tables.specs.declared.rule.Site.{Site}
use Rattle.tables.specs.declared.view.SeatedPass.{SeatedPass}
use Rattle.tables.specs.declared.view.SeatView.{SeatView}
use Rattle.forest.specs.declared.pass.Pass.TheInside.{Inside}
use Rattle.tables.specs.Ruled.{IsRuled}
use Rattle.tables.specs.Slotted.{names_of_table}
use Rattle.tables.specs.TableRule.{history_of, seated_pass, look, after_look, Made, TableIsLawful, Owns, Behind, plot_of, HasLookedBehind}
use Rattle.tables.specs.Traces.{known_of, planting_of, memory_of, run_at, rows_of}
use Rattle.prims.specs.Shares.{IsShare}
use Rattle.tables.specs.Shares.{IsBetweenCalls, entries_of}
use Rattle.tables.specs.Passes.{PassView, IsOn, HoldsOfOwn, IsLook, AreBegun, HasBlamed, HaveLeftShares, IsClosed, run_of, done_of, steps_of}
use Rattle.forest.specs.JoinedSeats.{IsFrom, IsOneOf, AreIn}
use Rattle.forest.specs.PassInvariant.{pass_view, IsPass, layout_in}
use Rattle.forest.proofs.Called.{own_others}
use Rattle.straight.proofs.Advances.{keeps_all, rows_by_others, same_knower}
use Rattle.prims.proofs.Lemmas.{next_unwon}
use Rattle.straight.proofs.AfterCalls.{IsQuiet, quiet_start, quiet_other}
use Rattle.forest.proofs.Blames.{blames_left}
use Rattle.forest.proofs.Passes.{HasOnlyLoaded, seated, called_pass, called_nothing}
use Rattle.tables.proofs.Ruled.{plain_plot, ruled_from}
use Rattle.tables.proofs.Slotted.{names_are}
use Rattle.forest.proofs.Meets.{look_called, look_looks, look_steps}

-- the element of a list, by either way to read it
pub index_is : (l : List ℕ) (i a : ℕ) → get_elem? l i ≡ some a → slice_index l i ≡ a
index_is [] i a e = absurd (some-ne-none a (sym e))
index_is (x ∷ xs) zero a e = some-injective x a e
index_is (x ∷ xs) (suc i) a e = index_is xs i a e

-- One pass

-- a pass that has looked at the table once more
pub looked_from : {allows : Layout → History → ℕ → Type 0} {mode : Mode} {T : Type 0} (p : Inside T) (x : IsPass allows mode p) (s : Seat ℕ SeatView) (n : ℕ) → s.me.1 ≡ p.seat.me.1 → Made allows look p.seat.me.0.passes n s.me.0.passes → (k : SeatedPass) × (s.me.0.passes ≡ k ∷ []) × IsFrom allows (pass_view p) k
looked_from {allows} {mode} p x s n bare m = (
  seated_pass p.number.0 (layout_in p) (planting_of p.seat.me.0.passes) (memory_of s.me.0.passes) (known_of s.me.0.passes),
  subst (λ b. s.me.0.passes ≡ seated_pass p.number.0 (layout_in p) b (memory_of s.me.0.passes) (known_of s.me.0.passes) ∷ []) planted y.seat.alone,
  record {
    is = refl;
    is_pass = x.is_pass;
    sound = subst (IsRun allows (layout_in p)) now z.sound;
    rest = subst (λ h. IsBetweenCalls (layout_in p) p.number.0 h p.share) now z.rest;
    ends = subst (λ h. Extends h (run_of (pass_view p))) now y.goes.since;
    done = subst (λ h. entries_of p.number.0 (log (layout_in p) h) ≡ done_of (pass_view p)) now (called_nothing p s 0 _ y).done;
    steps = look_steps p s (m.others ++ known_of p.seat.me.0.passes) has_looked.behind are;
    looks = subst (λ h. HoldsOfOwn IsLook p.number.0 (run_of (pass_view p)) h) now (look_looks p s (m.others ++ known_of p.seat.me.0.passes) has_looked.behind are);
    blamed = x.blamed;
  },
)
  where
    me : SeatedPass
    me = seated_pass p.number.0 (layout_in p) (planting_of p.seat.me.0.passes) (memory_of p.seat.me.0.passes) (known_of p.seat.me.0.passes)

    same : m.pass ≡ me
    same = same_knower p.seat.me.0.passes m.pass me m.was x.seat.alone

    has_looked : HasLookedBehind allows me (m.others ++ known_of p.seat.me.0.passes)
    has_looked = subst (λ (k : SeatedPass). HasLookedBehind allows k (m.others ++ k.known)) same record { behind = (m.others, refl, m.by_others); before = m.before; after = m.after }

    are : s.me.0.passes ≡ after_look me (m.others ++ known_of p.seat.me.0.passes) ∷ []
    are = subst (λ (k : SeatedPass). s.me.0.passes ≡ after_look k (m.others ++ k.known) ∷ []) same m.is

    -- its table is planted as before
    planted : planting_of s.me.0.passes ≡ planting_of p.seat.me.0.passes
    planted = ap planting_of are

    now : run_at s.me.0.passes ≡ history_of (planting_of p.seat.me.0.passes) (known_of s.me.0.passes)
    now = ap (λ b. history_of b (known_of s.me.0.passes)) planted

    y : HasOnlyLoaded allows p s 0 (λ h. Extends h (history_of (planting_of p.seat.me.0.passes) (m.others ++ known_of p.seat.me.0.passes)))
    y = look_called p x s (m.others ++ known_of p.seat.me.0.passes) has_looked are

    z : IsPass allows mode (seated p s)
    z = called_pass p x s 0 _ bare y

-- All of them

pub one_left : (k : SeatedPass) (ps qs : List SeatedPass) → IsOneOf k ps → IsOneOf k (ps ++ qs)
one_left k (p ∷ ps) qs (inl e) = inl e
one_left k (p ∷ ps) qs (inr i) = inr (one_left k ps qs i)
one_left k [] qs i = absurd i

pub one_right : (k : SeatedPass) (ps qs : List SeatedPass) → IsOneOf k qs → IsOneOf k (ps ++ qs)
one_right k [] qs i = i
one_right k (p ∷ ps) qs i = inr (one_right k ps qs i)

in_left : (allows : Layout → History → ℕ → Type 0) (ds : List PassView) (ps qs : List SeatedPass) → AreIn allows ds ps → AreIn allows ds (ps ++ qs)
in_left allows [] ps qs a = tt
in_left allows (d ∷ ds) ps qs a = ((a.0.0, one_left a.0.0 ps qs a.0.1, a.0.2), in_left allows ds ps qs a.1)

-- one more, at the seats that are joined
pub in_more : {allows : Layout → History → ℕ → Type 0} (d : PassView) (ds : List PassView) (all own joined : List SeatedPass) (k : SeatedPass) → own ≡ k ∷ [] → joined ≡ all ++ own → IsFrom allows d k → AreIn allows ds all → AreIn allows (d ∷ ds) joined
in_more {allows} d ds all own joined k e j f a = rw (j, e) ((k, one_right k all (k ∷ []) (inl refl), f), in_left allows ds all (k ∷ []) a)

-- The end

-- the layout and the planting of the table that is seen of a pass
abbrev pub plot_seen : PassView → Plot
plot_seen p = record { layout = p.layout; planting = p.planting }

pub owned_behind : (plot : Plot) (run : List Row) (owner : ℕ → ℕ) (id : ℕ) (k : SeatedPass) (ps : List SeatedPass) → Owns plot run owner id ps → IsOneOf k ps → (plot_of k ≡ plot) × Behind run k
owned_behind plot run owner id k [] o i = absurd i
owned_behind plot run owner id k (p ∷ ps) o (inl e) = subst (λ (q : SeatedPass). (plot_of q ≡ plot) × Behind run q) (sym e) (o.1, o.2)
owned_behind plot run owner id k (p ∷ ps) o (inr i) = owned_behind plot run owner id k ps o.4 i

-- what is so of a pass at the end, whose run extends what the pass knew
record IsAtEnd (plot : Plot) (rows : List Row) (d : PassView) : Type 0 where
  ends : Extends (history_of plot.planting rows) (run_of d)
  done : entries_of d.number (log d.layout (history_of plot.planting rows)) ≡ done_of d
  steps : rows_of d.number rows ≡ suc (steps_of d)
  looks : HoldsOfOwn IsLook d.number (run_of d) (history_of plot.planting rows)
  same : plot_seen d ≡ plot
  share : IsShare plot.layout (history_of plot.planting rows) d.number d.share d.share.next_node d.share.next_scx
  blamed : HasBlamed d

-- after what it knows are rows of others alone
one_ended : {allows : Layout → History → ℕ → Type 0} (d : PassView) (k : SeatedPass) (plot : Plot) (run : List Row) → plot_seen d ≡ plot → IsFrom allows d k → IsRun allows plot.layout (history_of plot.planting run) → Behind run k → IsAtEnd plot run d
one_ended {allows} d k plot run same f sound b =
    let h0 : History = history_of d.planting k.known in
    let sound' : IsRun allows d.layout (history_of d.planting (b.0 ++ k.known)) = subst (λ l. IsRun allows d.layout (history_of d.planting l)) b.1 (subst (λ (g : Plot). IsRun allows g.layout (history_of g.planting run)) (sym same) sound) in
    let mine = subst (λ (q : SeatedPass). q.number.0 ≡ d.number) (sym f.is) refl in
    let goes = keeps_all allows d.layout d.number (IsQuiet allows d.layout d.number h0 d.share) d.planting (λ h r run other z. quiet_other allows d.layout d.number h0 d.share f.is_pass h r run other z) b.0 k.known (rw mine at b.2) sound' (quiet_start allows d.layout d.number h0 d.share f.sound f.rest) in
    let none = goes.unwon (λ w. next_unwon d.layout _ d.number d.share _ _ goes.sound.lawful goes.share w.0 w.1) in
    subst (λ (g : Plot). IsAtEnd g run d) same (subst (λ l. IsAtEnd (plot_seen d) l d) (sym b.1) record {
      ends = ends_trans _ _ _ goes.since f.ends;
      done = none ∙ f.done;
      steps = rows_by_others d.number b.0 k.known (rw mine at b.2) ∙ f.steps;
      looks = own_others IsLook d.number (run_of d) d.planting b.0 k.known (rw mine at b.2) f.looks;
      same = refl;
      share = goes.share;
      blamed = f.blamed;
    })

all_ended : {allows : Layout → History → ℕ → Type 0} (id : _) (plot : Plot) (run : List Row) (owner : ℕ → ℕ) (seat : ℕ) (ks : List SeatedPass) → IsRun allows plot.layout (history_of plot.planting run) → Owns plot run owner seat ks → (ds : List PassView) → All (IsOn id plot.layout) ds → AreIn allows ds ks → All (IsAtEnd plot run) ds
all_ended id plot run owner seat ks sound o [] of a = All-nil (IsAtEnd plot run)
all_ended id plot run owner seat ks sound o (d ∷ ds) of a =
    let k = a.0.0 in
    let b = owned_behind plot run owner seat k ks o a.0.1 in
    All-cons (IsAtEnd plot run) d ds (one_ended d k plot run (ap plot_of (sym a.0.2.is) ∙ b.0) a.0.2 sound b.1) (all_ended id plot run owner seat ks sound o ds (All-tail (IsOn id plot.layout) d ds of) a.1)

all_begun : (plot : Plot) (run : List Row) (ds : List PassView) → All (IsAtEnd plot run) ds → AreBegun ds plot.planting run
all_begun plot run [] a = tt
all_begun plot run (d ∷ ds) a = let b = All-head (IsAtEnd plot run) d ds a in (b.ends, b.done, b.steps, b.looks, all_begun plot run ds (All-tail (IsAtEnd plot run) d ds a))

-- what they have blamed is taken, and their shares are not
all_left : (plot : Plot) (rows : List Row) (ds : List PassView) → Lawful plot.layout (history_of plot.planting rows) → All (IsAtEnd plot rows) ds → HaveLeftShares ds
all_left plot rows ds l all = All-weaker (IsAtEnd plot rows) (λ p. All (λ q. All (λ s. ¬ HasScx q.share s) p.blamed) ds)
    (λ p a. All-weaker (IsAtEnd plot rows) (λ q. All (λ s. ¬ HasScx q.share s) p.blamed)
    (λ q b. blames_left plot.layout run p q q.number _ _ (lawful_since plot.layout run (run_of p) l (ends_at p a)) (ends_at p a) b.share a.blamed) ds all) ds all
  where
    run : History
    run = history_of plot.planting rows

    ends_at : (p : PassView) → IsAtEnd plot rows p → Extends (history_of plot.planting rows) (run_of p)
    ends_at p a = a.ends

pub closes : {allows : Layout → History → ℕ → Type 0} (id : _) (plot : Plot) (ds : List PassView) (seat : ℕ) (v : SeatView) (words : List ℕ) (slots : List ℕ) → All (IsOn id plot.layout) ds → AreIn allows ds v.passes → Final (Seen (TableIsLawful allows plot) seat v) words slots → IsClosed allows plot.layout ds (record { layout = plot.layout; words = words })
closes {allows} id plot ds seat v words slots of a f =
    let kept : TableIsLawful allows plot f.0 = f.1.0 in
    let holds : (w : Word) → IsWord plot.layout w → slice_index words (place plot.layout w) ≡ value (history_of plot.planting kept.run) w = λ w i. rw (← f.2) (kept.holds w i) in
    let all : All (IsAtEnd plot kept.run) ds = all_ended id plot kept.run kept.owner seat v.passes kept.sound (kept.passes seat v f.1.1) ds of a in
    record {
      layout = refl;
      planting = plot.planting;
      rows = kept.run;
      sound = kept.sound;
      holds = holds;
      fields = λ n side i. holds (child n side) i ∙ fields_are plot.layout (history_of plot.planting kept.run) n side kept.sound.lawful;
      begun = all_begun plot kept.run ds all;
      blamed = all_left plot kept.run ds kept.sound.lawful all;
    }

-- so it is of a table whose records have places of their own
pub closes_site : {allows : Layout → History → ℕ → Type 0} (id : _) (site : Site) (lay : Layout) → site.layout ≡ lay → site.turns ≡ None → (ds : List PassView) (seat : ℕ) (v : SeatView) (words : List ℕ) (slots : List ℕ) → All (IsOn id (names_of_table site)) ds → AreIn allows ds v.passes → Final (Seen (IsRuled allows site) seat v) words slots → IsClosed allows (names_of_table site) ds (record { layout = lay; words = words })
closes_site {allows} id site lay same once ds seat v words slots of a f =
    let named : names_of_table site ≡ lay = names_are site lay same once in
    let closed : IsClosed allows site.layout ds (record { layout = site.layout; words = words }) = closes id (plain_plot allows site) ds seat v words slots (subst (λ (l : Layout). All (IsOn id l) ds) (named ∙ sym same) of) a (ruled_from allows site (λ holds. Final (Seen holds seat v) words slots) once f) in
    subst (λ (l : Layout). IsClosed allows l ds (record { layout = lay; words = words })) (sym named) (subst (λ (l : Layout). IsClosed allows l ds (record { layout = l; words = words })) same closed)
