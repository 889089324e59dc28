-- In which order an edit fills its nodes: as what it does at its key.
use Rattle.std.proofs.Common.{ℕ, Bool, true, false, ◌<◌, Option, Some, None, ◌∙◌, subst, arith}
use Rattle.histories.specs.Common.{Step, NodeWord, History, Call, row_of}
use Rattle.template.specs.Common.{IsFillInOrder, leaves, Goal, Rule}
use Rattle.ordered_map.specs.FillOrder.{AreFilledInOrder}
use Rattle.template.specs.declared.walk.Found.{Found}
use Rattle.tree.specs.declared.key_edit.KeyEdit.{KeyEdit}
use Rattle.tree.specs.KeyEdit.Means.{is_trie_end, key_at, key_means, leaving, part, popping, putting, taking}
use Rattle.tree.specs.Laws.KeyEdit.{own_guarded, own_looked, same_work}
use Rattle.tree.specs.Pop.Means.{pop_means}
use Rattle.tree.specs.Put.Means.{put_means}
use Rattle.tree.specs.Take.Means.{take_means}
use Rattle.tree.proofs.Fills.{update_in_order}
use Rattle.tree.proofs.PutFills.{fill_in_order as put_fill_in_order}
use Rattle.tree.proofs.TakeFills.{pop_fill_in_order, take_fill_in_order}
use Rattle.edits.specs.Edits.{EditMeaning, through}
use Rattle.edits.specs.declared.edit.Nth.{Nth}
use Rattle.edits.specs.declared.edit.Work.{Work}
use Rattle.edits.specs.declared.update.UpdateAt.{UpdateAt}
use Rattle.edits.specs.declared.update.UpdateRun.{UpdateRun}
use Rattle.edits.specs.Known.{FillsPiece, UpdateWaits, piece_fill_step}

-- the same update of another edit
abbrev of_edit : {E F : Type 0} → F → UpdateRun E UpdateAt → UpdateRun F UpdateAt
of_edit e m = record { edit = e; share = m.share; work = m.work; guard = m.guard; snaps = m.snaps; nodes = m.nodes; read = m.read; tries = m.tries; limit = m.limit; call = m.call; at = m.at }

-- what does at each of its keys what another edit does fills as that: `of` is the other one there
fills_through : {E : Type 0} (means : EditMeaning E) (of : ℕ → E) (m : UpdateRun ℕ UpdateAt) (c : Call) (h : History) (f : Found) (nth : Nth) (word : NodeWord) → FillsPiece (through means of) m c h f nth word → FillsPiece means (of_edit (of m.edit) m) c h f nth word
fills_through means of m c h f nth word x = record {
  works = record {
    run = x.works.run;
    since = x.works.since;
    quiet = x.works.quiet;
    looked = record { small = x.works.looked.small; may = x.works.looked.may; found = x.works.looked.found; usable = x.works.looked.usable; seen = x.works.looked.seen };
    enough = x.works.enough;
    asked = x.works.asked;
    need = x.works.need;
    in_order = x.works.in_order;
    some = x.works.some;
    guarded = x.works.guarded;
    untaken = x.works.untaken;
  };
  full = x.full;
  hand = record { lowest = x.hand.lowest; highest = x.hand.highest };
  read = x.read;
  whole = x.whole;
  part_is = x.part_is;
}

-- what leaves this to a key fills in order
leaving_in_order : (end trie : Bool) (left : Option ℕ) (m : UpdateRun ℕ UpdateAt) (c : Call) (h : History) (f : Found) (nth : Nth) (word : NodeWord) → AreFilledInOrder h → FillsPiece (leaving end trie left) m c h f nth word → IsFillInOrder h (row_of c (piece_fill_step (leaving end trie left) m f nth word) h)
leaving_in_order end in_trie (Some value) m c h f nth word filled x = put_fill_in_order (of_edit (putting in_trie m.edit value) m) c h f nth word (fills_through put_means (λ key. putting in_trie key value) m c h f nth word x)
leaving_in_order false in_trie None m c h f nth word filled x = take_fill_in_order (of_edit (taking in_trie m.edit) m) c h f nth word (fills_through take_means (taking in_trie) m c h f nth word x) filled
leaving_in_order true in_trie None m c h f nth word filled x = pop_fill_in_order (of_edit (popping m.edit) m) c h f nth word (fills_through pop_means popping m c h f nth word x) filled

module _ {G R : Type 0} (goal : G → Goal) (trie : G → Bool) (rule : R → Rule) where
  -- what it does at its key
  own_fills : (m : UpdateRun (KeyEdit G R) UpdateAt) (c : Call) (h : History) (f : Found) (nth : Nth) (word : NodeWord) → FillsPiece (key_means goal trie rule) m c h f nth word → FillsPiece (part goal trie rule m.edit) (of_edit (key_at goal trie rule m.edit f) m) c h f nth word
  own_fills m c h f nth word x = record {
    works = record {
      run = x.works.run;
      since = x.works.since;
      quiet = x.works.quiet;
      looked = own_looked goal trie rule m.edit f needed c h m.snaps.items x.works.run x.works.looked;
      enough = x.works.enough;
      asked = x.works.asked ∙ same_work goal trie rule m.edit f needed;
      need = x.works.need;
      in_order = x.works.in_order;
      some = x.works.some;
      guarded = own_guarded goal trie rule m.edit f needed c h m.guard x.works.run x.works.looked x.works.guarded;
      untaken = x.works.untaken;
    };
    full = x.full;
    hand = record { lowest = x.hand.lowest; highest = x.hand.highest };
    read = x.read;
    whole = x.whole;
    part_is = x.part_is;
  }
    where
      needed : 0 < ((key_means goal trie rule).work m.edit f).need
      needed = subst (λ (w : Work). 0 < w.need) x.works.asked (let n = x.works.need in omega (arith, n))

  -- whatever step an edit waits for, where nodes were filled in order before
  pub key_in_order : (m : UpdateRun (KeyEdit G R) UpdateAt) (c : Call) (h : History) (s : Step) → AreFilledInOrder h → UpdateWaits (key_means goal trie rule) m c h s → IsFillInOrder h (row_of c s h)
  key_in_order m c h s filled x =
      update_in_order (key_means goal trie rule) m c h s
      (λ d f nth word y. leaving_in_order (is_trie_end (goal m.edit.goal) (trie m.edit.goal)) (trie m.edit.goal) (leaves (rule m.edit.rule)) (of_edit (key_at goal trie rule m.edit f) m) d h f nth word filled (own_fills m d h f nth word y)) x
