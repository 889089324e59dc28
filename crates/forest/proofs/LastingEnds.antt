-- What remains of a forest whose records come back.
use Rattle.std.proofs.Common.{◌≡◌, ◌<◌, ◌+◌, ◌*◌, ◌%◌, ℕ, inl, List, [], ◌∷◌, ◌++◌, Option, Some, slice_index, refl, sym, ◌∙◌, ap, subst, arith}
use Rattle.std.proofs.Math.Nat.{mod-eq_of_lt, zero-mod}
use Rattle.std.specs.List.{All}
use Rattle.std.proofs.lemmas.List.Elements.{All-cons, All-head, All-nil, All-tail, All-weaker}
use Rattle.atomic_table.specs.Table.{Final, Seen, State}
use Rattle.arena.specs.Layout.{IsMap}
use Rattle.histories.specs.Common.{Child, Contents, Extends, HasScx, History, IsRun, IsWord, Layout, Left, Lawful, Mode, NodeWord, Row, Settled, SettledPart, Side, all_nodes, child, log, node, nodes_at_start, value, word_at}
use Rattle.histories.proofs.Lemmas.{lawful_since}
use Rattle.planting.specs.Plantings.{PlantingView}
use Rattle.prims.specs.Shares.{IsShare}
use Rattle.prims.proofs.Lemmas.{next_unwon}
use Rattle.ordered_map.specs.TreeWords.{Has}
use Rattle.template.specs.Common.{Pair, Spells}
use Rattle.touching.specs.Kinds.{IsInTree}
use Rattle.resting.specs.Records.{the_node}
use Rattle.slots.specs.Held.{IsHeld}
use Rattle.slots.specs.Lasting.{IsLasting, Lasting, table_place}
use Rattle.slots.proofs.Lemmas.{held_inside}
use Rattle.tables.specs.declared.rule.Plot.{Plot}
use Rattle.tables.specs.declared.rule.Site.{Site}
use Rattle.tables.specs.declared.rule.Turns.{Turns}
use Rattle.tables.specs.declared.view.SeatView.{SeatView}
use Rattle.tables.specs.declared.view.SeatedPass.{SeatedPass}
use Rattle.tables.specs.LastingRule.{TableLasts, plot_in}
use Rattle.tables.specs.Passes.{HasBlamed, HaveLeftShares, IsOn, PassView, done_of, run_of, steps_of}
use Rattle.forest.specs.Remains.{AreAsKnown, AreNamedBySlots, AreRemains, AreSeated, IsSeatOf, ShowTree, SlotWords}
use Rattle.tables.specs.Ruled.{IsRuled, ruled_by}
use Rattle.tables.specs.Shares.{entries_of}
use Rattle.tables.specs.Slotted.{in_turns, names_of_table, slots_by, slots_of_table}
use Rattle.tables.specs.TableRule.{Behind, Owns, history_of, plot_of, seated_pass}
use Rattle.tables.specs.Traces.{rows_of}
use Rattle.straight.proofs.Advances.{keeps_all, rows_by_others}
use Rattle.forest.proofs.Blames.{blames_left}
use Rattle.straight.proofs.AfterCalls.{IsQuiet, quiet_other, quiet_start}
use Rattle.forest.proofs.Closes.{one_left, one_right, owned_behind, plot_seen}
use Rattle.forest.proofs.SlotTrees.{renamed_spells}

-- All seats

seated_left : (allows : Layout → History → ℕ → Type 0) (ds : List PassView) (ps qs : List SeatedPass) → AreSeated allows ds ps → AreSeated allows ds (ps ++ qs)
seated_left allows [] ps qs a = tt
seated_left allows (d ∷ ds) ps qs a = ((a.0.0, one_left a.0.0 ps qs a.0.1, a.0.2), seated_left allows ds ps qs a.1)

-- one more, at the seats that are joined
pub seated_more : {allows : Layout → History → ℕ → Type 0} (d : PassView) (ds : List PassView) (all own joined : List SeatedPass) (k : SeatedPass) → own ≡ k ∷ [] → joined ≡ all ++ own → IsSeatOf allows d k → AreSeated allows ds all → AreSeated allows (d ∷ ds) joined
seated_more {allows} d ds all own joined k e j f a = rw (j, e) ((k, one_right k all (k ∷ []) (inl refl), f), seated_left allows ds all (k ∷ []) a)

-- The end

-- what is so of a pass at the end, after what it knew
record IsKnownAtEnd (plot : Plot) (rows : List Row) (d : PassView) : Type 0 where
  ends : Extends (history_of plot.planting rows) (run_of d)
  done : entries_of d.number (log d.layout (history_of plot.planting rows)) ≡ done_of d
  steps : rows_of d.number rows ≡ steps_of d
  share : IsShare plot.layout (history_of plot.planting rows) d.number d.share d.share.next_node d.share.next_scx
  blamed : HasBlamed d

one_known : {allows : Layout → History → ℕ → Type 0} (d : PassView) (k : SeatedPass) (plot : Plot) (run : List Row) → plot_seen d ≡ plot → IsSeatOf allows d k → IsRun allows plot.layout (history_of plot.planting run) → Behind run k → IsKnownAtEnd plot run d
one_known {allows} d k plot run same f sound behind =
    let b : Behind run (seated_pass d.number d.layout d.planting k.memory d.known) = subst (Behind run) f.is behind in
    let sound' : IsRun allows d.layout (history_of d.planting (b.0 ++ d.known)) = subst (λ l. IsRun allows d.layout (history_of d.planting l)) b.1 (subst (λ (g : Plot). IsRun allows g.layout (history_of g.planting run)) (sym same) sound) in
    let goes = keeps_all allows d.layout d.number (IsQuiet allows d.layout d.number (run_of d) d.share) d.planting (λ h r run other z. quiet_other allows d.layout d.number (run_of d) d.share f.is_pass h r run other z) b.0 d.known b.2 sound' (quiet_start allows d.layout d.number (run_of d) d.share f.sound f.rest) in
    subst (λ (g : Plot). IsKnownAtEnd g run d) same (subst (λ l. IsKnownAtEnd (plot_seen d) l d) (sym b.1) record {
      ends = goes.since;
      done = goes.unwon (λ w. next_unwon d.layout _ d.number d.share _ _ goes.sound.lawful goes.share w.0 w.1);
      steps = rows_by_others d.number b.0 d.known b.2;
      share = goes.share;
      blamed = f.blamed;
    })

all_known : {allows : Layout → History → ℕ → Type 0} (id : _) (plot : Plot) (run : List Row) (owner : ℕ → ℕ) (seat : ℕ) (ks : List SeatedPass) → IsRun allows plot.layout (history_of plot.planting run) → Owns plot run owner seat ks → (ds : List PassView) → All (IsOn id plot.layout) ds → AreSeated allows ds ks → All (IsKnownAtEnd plot run) ds
all_known id plot run owner seat ks sound o [] of a = All-nil (IsKnownAtEnd plot run)
all_known id plot run owner seat ks sound o (d ∷ ds) of a =
    let k = a.0.0 in
    let b = owned_behind plot run owner seat k ks o a.0.1 in
    All-cons (IsKnownAtEnd plot run) d ds (one_known d k plot run (ap plot_of (sym a.0.2.is) ∙ b.0) a.0.2 sound b.1) (all_known id plot run owner seat ks sound o ds (All-tail (IsOn id plot.layout) d ds of) a.1)

as_known : (plot : Plot) (run : List Row) (ds : List PassView) → All (IsKnownAtEnd plot run) ds → AreAsKnown ds plot.planting run
as_known plot run [] a = tt
as_known plot run (d ∷ ds) a = let b = All-head (IsKnownAtEnd plot run) d ds a in (b.ends, b.done, b.steps, as_known plot run ds (All-tail (IsKnownAtEnd plot run) d ds a))

-- what they have blamed is taken, and their shares are not
known_left : (plot : Plot) (rows : List Row) (ds : List PassView) → Lawful plot.layout (history_of plot.planting rows) → All (IsKnownAtEnd plot rows) ds → HaveLeftShares ds
known_left plot rows ds l all = All-weaker (IsKnownAtEnd plot rows) (λ p. All (λ q. All (λ s. ¬ HasScx q.share s) p.blamed) ds)
    (λ p a. All-weaker (IsKnownAtEnd plot rows) (λ q. All (λ s. ¬ HasScx q.share s) p.blamed)
    (λ q b. blames_left plot.layout run p q q.number _ _ (lawful_since plot.layout run (run_of p) l (ends_at p a)) (ends_at p a) b.share a.blamed) ds all) ds all
  where
    run : History
    run = history_of plot.planting rows

    ends_at : (p : PassView) → IsKnownAtEnd plot rows p → Extends (history_of plot.planting rows) (run_of p)
    ends_at p a = a.ends

-- what the law of trees says of a table that lasts
pub record HoldsTree (allows : Layout → History → ℕ → Type 0) (t : Lasting) (planting : PlantingView) : Type 0 where
  pub held : (s : State ℕ SeatView) (x : TableLasts allows t planting s) (n : ℕ) → IsInTree (history_of planting x.run.rows) n → IsHeld t x.run.held (the_node n)
  pub words : (s : State ℕ SeatView) (x : TableLasts allows t planting s) (n : ℕ) (part : NodeWord) → IsInTree (history_of planting x.run.rows) n → IsWord t.lay (node n part) → slice_index s.words (table_place t (node n part)) ≡ value (history_of planting x.run.rows) (node n part)

pub remains : {allows : Layout → History → ℕ → Type 0} (id : _) (t : Lasting) (planting : PlantingView) (trees : HoldsTree allows t planting) (ds : List PassView) (seat : ℕ) (v : SeatView) (words : List ℕ) (slots : List ℕ) → All (IsOn id t.lay) ds → AreSeated allows ds v.passes → Final (Seen (TableLasts allows t planting) seat v) words slots → AreRemains allows t.lay ds (record { slots = t; words = words })
remains {allows} id t planting trees ds seat v words slots of a f =
    let kept : TableLasts allows t planting f.0 = f.1.0 in
    let all : All (IsKnownAtEnd (plot_in t planting) kept.run.rows) ds = all_known id (plot_in t planting) kept.run.rows kept.owner seat v.passes kept.run.sound (kept.passes seat v f.1.1) ds of a in
    record {
      names = refl;
      lasting = kept.run.window.lasting;
      planting = planting;
      rows = kept.run.rows;
      sound = kept.run.sound;
      shows = λ n there inside. (
        held_inside t kept.run.window.lasting kept.run.held kept.run.window.names (node n (Child Left)) inside (trees.held f.0 kept n there),
        λ part. rw (← f.2) (trees.words f.0 kept n part there inside),
      );
      known = as_known (plot_in t planting) kept.run.rows ds all;
      blamed = known_left (plot_in t planting) kept.run.rows ds kept.run.sound.lawful all;
    }

-- so it is of a table that is told how its slots are taken again
pub remains_site : {allows : Layout → History → ℕ → Type 0} (id : _) (site : Site) (lay : Layout) (turns : Turns) → site.layout ≡ lay → site.turns ≡ Some turns → ((t : Lasting) (planting : PlantingView) → HoldsTree allows t planting) → (ds : List PassView) (seat : ℕ) (v : SeatView) (words : List ℕ) (slots : List ℕ) → All (IsOn id (names_of_table site)) ds → AreSeated allows ds v.passes → Final (Seen (IsRuled allows site) seat v) words slots → AreRemains allows (names_of_table site) ds (record { slots = in_turns lay turns; words = words })
remains_site {allows} id site lay turns same back trees ds seat v words slots of a f = subst (λ (s : Lasting). AreRemains allows (names_of_table site) ds record { slots = s; words = words }) slots_are
    (remains id (slots_of_table site) site.planting (trees (slots_of_table site) site.planting) ds seat v words slots of a
    (subst (λ (t : Option Turns). Final (Seen (ruled_by t allows site) seat v) words slots → Final (Seen (TableLasts allows (slots_by site.layout t) site.planting) seat v) words slots) (sym back) (λ x. x) f))
  where
    slots_are : slots_of_table site ≡ in_turns lay turns
    slots_are = ap (slots_by site.layout) back ∙ ap (λ (l : Layout). in_turns l turns) same

-- The map

abbrev turned : SlotWords → ℕ → ℕ
turned c n = n % c.slots.node_turn

-- there are more than two nodes in the table of a map
two_inside : (mode : Mode) (planted more : ℕ) → IsMap mode → 2 < nodes_at_start mode planted + more
two_inside mode planted more map = rw map (omega arith)

-- a copy by slots spells what the run's words spell
pub slots_spell : (c : SlotWords) (h : History) (to : Contents) (m : List Pair) → IsMap c.slots.table.mode → IsLasting c.slots → ShowTree c h → to.layout ≡ c.slots.table → AreNamedBySlots c to (all_nodes c.slots.table) → Spells c.slots.lay (value h) m → Spells to.layout (word_at to) m
slots_spell c h to m map fit shows same copied x = subst (λ (l : Layout). Spells l (word_at to) m) (sym same)
    (renamed_spells (value h) (word_at to) (turned c) In settled fields c.slots.lay c.slots.table m x is_in (λ n i. (shows n i.0 i.1).0) (zero-mod c.slots.node_turn) two_is)
  where
    In : ℕ → Type 0
    In n = IsInTree h n × (n < all_nodes c.slots.lay)

    is_in : (n : ℕ) → Has x.tree n → In n
    is_in n has = (record { tree = x.tree; is_tree = x.is_tree; has = has }, x.inside n has)

    settled : (n : ℕ) (part : SettledPart) → In n → word_at to (node (turned c n) (Settled part)) ≡ value h (node n (Settled part))
    settled n part i = copied (turned c n) (Settled part) (shows n i.0 i.1).0 tt ∙ (shows n i.0 i.1).1 (Settled part)

    fields : (n : ℕ) (side : Side) → In n → word_at to (child (turned c n) side) ≡ turned c (value h (child n side))
    fields n side i = copied (turned c n) (Child side) (shows n i.0 i.1).0 tt ∙ ap (turned c) ((shows n i.0 i.1).1 (Child side))

    two_is : turned c 2 ≡ 2
    two_is = mod-eq_of_lt (let room = fit.node_room in let few = two_inside c.slots.table.mode c.slots.table.planted (c.slots.table.passes * c.slots.table.nodes) map in omega (arith, room, few))
