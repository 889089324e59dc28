-- What an update waits for after the fill of a word: the next word, the next node, or its SCX.
use Rattle.std.proofs.Common.{◌≡◌, ℕ, suc, ◌<◌, ◌≤◌, ◌⊎◌, inl, inr, Some, None, true, sym, subst, arith}
use Rattle.histories.specs.Common.{Side, NodeWord, Settled, Child, Info, Marked, IsInField, IsTakenNode, History, Call}
use Rattle.template.specs.declared.walk.Found.{Found}
use Rattle.edits.specs.declared.edit.Nodes.{Nodes}
use Rattle.edits.specs.declared.edit.Nth.{Nth}
use Rattle.edits.specs.declared.edit.Work.{Work}
use Rattle.edits.specs.declared.piece.Piece.{Piece}
use Rattle.edits.specs.declared.update.UpdateRun.{UpdateRun}
use Rattle.edits.specs.Edits.{EditMeaning}
use Rattle.edits.specs.Known.{ComesBefore, IsNeeded, StandInRow, CanFill, CanFillNode, CanScx, IsFilledUpTo, HoldsPiece, piece, top}
use Rattle.edits.specs.Laws.Hand.{HasFilledTo, IsForField, FieldMay, filled_next}
use Rattle.edits.specs.Laws.PieceFills.{ComesNext, HoldsWords, holds_all, holds_next, next_word}
use Rattle.edits.specs.Pieces.{is_filled, nth_behind, nth_node, part_behind, word_of, top_of}
use Rattle.edits.specs.Sound.{FillsWell}
use Rattle.edits.proofs.NodePlaces.{comes_next, earlier_below, last_node, needed_within, piece_is}

-- the place that comes after one: its node comes next, and what comes before that is this node or
-- before it
record ComesBehind (ns : Nodes) (need : ℕ) (nth after : Nth) : Type 0 where
  needed : IsNeeded need after
  number : suc (nth_node ns nth).0 ≡ (nth_node ns after).0
  within : (ns.first.0 ≤ (nth_node ns after).0) × ((nth_node ns after).0 ≤ top_of need ns)

next_node : (ns : Nodes) (need : ℕ) (nth after : Nth) → StandInRow need ns → nth_behind need nth ≡ Some after → ComesBehind ns need nth after
next_node ns need nth after o e =
    let x = comes_next need nth after e in
    let n = x.0 in
    let s = x.1 in
    let a = o nth (omega (arith, n, s)) in
    let b = o after n in
    record { needed = n; number = omega (arith, a, b, s); within = needed_within ns need after n o }

module _ {E : Type 0} (e : EditMeaning E) {A : Type 0} (m : UpdateRun E A) (c : Call) (h : History) (f : Found) (nth : Nth) (part : NodeWord) (x : IsFilledUpTo e m c h f nth part) where
  abbrev here : ℕ
  here = (nth_node m.nodes nth).0

  abbrev said : Piece
  said = e.pieces m.edit f m.snaps.items m.nodes m.read nth

  is_said : piece e m f here ≡ said
  is_said = piece_is (λ i. e.pieces m.edit f m.snaps.items m.nodes m.read i) m.nodes m.work.need nth x.0.works.need x.0.works.in_order

  for_field : FillsWell e → (side : Side) → is_filled said (Child side) ≡ true → IsForField c.layout h m.nodes.first.0 (top m) (word_of said (Child side))
  for_field sound side i = go (sound.fields m.edit c h f m.snaps.items m.nodes m.read nth side x.0.works.run x.0.works.looked x.0.works.enough (subst (λ (w : Work). IsNeeded w.need nth) x.0.works.asked x.0.works.need) i)
    where
      go : ((j : Nth) × ComesBefore j nth × (word_of said (Child side) ≡ (nth_node m.nodes j).0)) ⊎ IsInField c.layout h (word_of said (Child side)) → IsForField c.layout h m.nodes.first.0 (top m) (word_of said (Child side))
      go (inl y) = inl (subst (λ v. (m.nodes.first.0 ≤ v) × (v < top m)) (sym y.2) (earlier_below m.nodes m.work.need nth x.0.works.need x.0.works.in_order y.0 y.1))
      go (inr y) = inr y

  field_may : FillsWell e → (next : NodeWord) → is_filled said next ≡ true → FieldMay next (IsForField c.layout h m.nodes.first.0 (top m) (word_of said next))
  field_may sound (Child side) i = for_field sound side i
  field_may sound (Settled p) i = tt
  field_may sound Info i = tt
  field_may sound Marked i = tt

  -- it may fill the next word
  pub fills_next : (next : NodeWord) → FillsWell e → part_behind said part ≡ Some next → CanFill e m c h f nth next
  fills_next next sound is = record {
    fills = record { works = x.0.works; full = x.0.full; hand = x.0.hand; read = x.0.read; whole = x.0.whole; part_is = subst (λ p. is_filled p next ≡ true) (sym is_said) next_is.is };
    same = is_said;
    may = subst (λ p. FieldMay next (IsForField c.layout h m.nodes.first.0 (top m) (word_of p next))) (sym is_said) (field_may sound next next_is.is);
    words = holds_next h here (piece e m f here) part next (subst (λ p. part_behind p part ≡ Some next) (sym is_said) is) x.1;
  }
    where
      next_is : ComesNext said part next
      next_is = next_word said part next is

  -- the node of this place is full
  all_words : part_behind said part ≡ None → HoldsWords h here (piece e m f here)
  all_words none = holds_all h here (piece e m f here) part x.0.part_is (subst (λ p. part_behind p part ≡ None) (sym is_said) none) x.1

  filled_here : part_behind said part ≡ None → HasFilledTo c.layout h c.pass m.share m.nodes.first.0 (top m) (suc here) (piece e m f)
  filled_here none = filled_next c.layout h c.pass m.share m.nodes.first.0 (top m) here (piece e m f) x.2 (all_words none) x.0.full

  -- it may continue with the next node
  pub node_next : (after : Nth) → part_behind said part ≡ None → nth_behind m.work.need nth ≡ Some after → CanFillNode e m c h f after
  node_next after none is = record {
    works = record { run = x.0.works.run; since = x.0.works.since; quiet = x.0.works.quiet; looked = x.0.works.looked; enough = x.0.works.enough; asked = x.0.works.asked; need = behind.needed; in_order = x.0.works.in_order; some = x.0.works.some; guarded = x.0.works.guarded; untaken = x.0.works.untaken };
    full = subst (λ n. HasFilledTo c.layout h c.pass m.share m.nodes.first.0 (top m) n (piece e m f)) behind.number (filled_here none);
    hand = record { lowest = behind.within.0; highest = behind.within.1 };
    blank = x.0.full.blank (nth_node m.nodes after).0 behind.within.0 (let n = behind.number in omega (arith, n)) behind.within.1;
    read = x.0.read;
    whole = x.0.whole;
  }
    where
      behind : ComesBehind m.nodes m.work.need nth after
      behind = next_node m.nodes m.work.need nth after x.0.works.in_order is

  -- it may begin its SCX
  pub scx_next : part_behind said part ≡ None → nth_behind m.work.need nth ≡ None → CanScx e m c h f
  scx_next none last = record {
    run = x.0.works.run;
    since = x.0.works.since;
    quiet = x.0.works.quiet;
    guarded = x.0.works.guarded;
    asked = x.0.works.asked;
    need = let n = x.0.works.need in omega (arith, n);
    some = x.0.works.some;
    untaken = subst (λ n. ¬ IsTakenNode c.start n) (last_node m.nodes m.work.need nth x.0.works.need x.0.works.in_order last) (x.0.works.untaken nth x.0.works.need);
    all = record {
      looked = x.0.works.looked;
      enough = x.0.works.enough;
      in_order = subst (λ (w : Work). StandInRow w.need m.nodes) x.0.works.asked x.0.works.in_order;
      right = x.0.read;
      whole = x.0.whole;
      holds = subst (λ (w : Work). (i : Nth) → IsNeeded w.need i → HoldsPiece c h (nth_node m.nodes i).0 (e.pieces m.edit f m.snaps.items m.nodes m.read i)) x.0.works.asked holds;
    };
    full = all_full;
  }
    where
      all_full : HasFilledTo c.layout h c.pass m.share m.nodes.first.0 (top m) (suc (top m)) (piece e m f)
      all_full = subst (λ n. HasFilledTo c.layout h c.pass m.share m.nodes.first.0 (top m) (suc n) (piece e m f)) (last_node m.nodes m.work.need nth x.0.works.need x.0.works.in_order last) (filled_here none)

      holds : (i : Nth) → IsNeeded m.work.need i → HoldsPiece c h (nth_node m.nodes i).0 (e.pieces m.edit f m.snaps.items m.nodes m.read i)
      holds i n =
          let w = needed_within m.nodes m.work.need i n x.0.works.in_order in
          let from = w.0 in
          let to = w.1 in
          subst (λ p. HoldsPiece c h (nth_node m.nodes i).0 p) (piece_is (λ j. e.pieces m.edit f m.snaps.items m.nodes m.read j) m.nodes m.work.need i n x.0.works.in_order) record {
            fresh = record { own = all_full.hand.own (nth_node m.nodes i).0 from to; unnamed = all_full.hand.unnamed (nth_node m.nodes i).0 from to };
            words = all_full.full (nth_node m.nodes i).0 from (omega (arith, to)) to;
          }
