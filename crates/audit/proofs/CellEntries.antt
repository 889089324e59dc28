-- Entries of calls of cells, and what is known as one of their answers is judged.
use Rattle.std.proofs.Common.{◌≡◌, ℕ, ◌<◌, List, length, slice_get, Option, Some, None, IsSome, IfSome, refl, sym, ap, subst, ◌∙◌, arith}
use Rattle.histories.specs.Common.{Layout, Row, NodeWord, Child, Side, Left, Word, Node, Scx, IsOwnNode, History, value, IsWin, entry, member, plan, new, field_index, side_of, node, child, first_value}
use Rattle.record.specs.Common.{Call, Vlx, CellList, cells_of, next_command, linked, history, begin, start, IsEntryOver}
use Rattle.record.specs.declared.record.Line.{Line}
use Rattle.record.proofs.Lemmas.{get_there}
use Rattle.judge.specs.Histories.{seen_history}
use Rattle.audit.specs.CellCalls.{IsOverCells, IsFreshWith, IsCallSeen, AreSameAt}
use Rattle.audit.specs.Remembered.{AreStepsOf, AreSnapshotsOf, AreRemembered}
use Rattle.audit.specs.declared.memory.Memory.{Memory}
use Rattle.audit.specs.declared.steps.Steps.{Steps}

abbrev node_in : Word → ℕ
node_in (Node n part) = n.0
node_in (Scx s part) = 0

abbrev side_in_part : NodeWord → Side
side_in_part (Child side) = side
side_in_part _ = Left

abbrev side_in : Word → Side
side_in (Node n part) = side_in_part part
side_in (Scx s part) = Left

-- the entry of a winning update of an SCX-record is over the cells that it covers
pub entry_over : (lay : Layout) (c : ℕ) (h : History) (s n : ℕ) (side : Side) (row : Row) (cells removed : List ℕ) (field : ℕ × Side) (x : ℕ) → IsWin h row s → row.word ≡ child n side → IsOverCells h s cells removed → member h s (field_index h s) ≡ field.0 → side_of (plan h s) ≡ field.1 → IsFreshWith lay c h (new h s) x → IsEntryOver lay c h (entry lay h s n side row.after) cells removed field x
entry_over lay c h s n side row cells removed field x win word over at on fresh =
    let stored : new h s ≡ row.after = sym (win.update.exchange.won win.found) in
    let same : child n side ≡ child (member h s (field_index h s)) (side_of (plan h s)) = sym word ∙ win.update.word in
    record {
      members = over.members;
      finalizes = over.finalizes;
      node_is = ap node_in same ∙ at;
      side_is = ap side_in same ∙ on;
      fresh = subst (λ (v : ℕ). IsOwnNode lay c v) stored fresh.own;
      value_is = subst (λ (v : ℕ). value h (node v first_value) ≡ x) stored fresh.value_is;
      empty_fields = λ d. subst (λ (v : ℕ). value h (child v d) ≡ 0) stored (fresh.empty d);
    }

-- what is remembered of a client
pub memory_is : (all : List Memory) (c : ℕ) (memory : Memory) → c < length all → IfSome (slice_get all c) (λ m. memory ≡ m) → slice_get all c ≡ Some memory
memory_is all c memory p x = go (slice_get all c) refl x
  where
    go : (o : Option Memory) → slice_get all c ≡ o → IfSome o (λ m. memory ≡ m) → slice_get all c ≡ Some memory
    go None e y = absurd (let there = get_there all c p in let z : None ≡ Some there.0 = sym e ∙ there.1 in cc)
    go (Some m) e y = e ∙ ap (λ (k : Memory). Some k) (sym y)

-- What is remembered, said of the judge's own layout and history

module _ (lay : Layout) (calls : List Call) (lines : List Line) (all : Steps) (x : AreRemembered lay calls lines all) where
  pub steps_seen : AreStepsOf all.judge.layout (seen_history all.judge) all
  steps_seen = subst (λ (l : Layout). AreStepsOf l (seen_history all.judge) all) (sym x.steps.layout) (subst (λ (h : History). AreStepsOf lay h all) (sym x.steps.is_seen) x.steps)

  pub snapshots_seen : (c : ℕ) (memory : Memory) → slice_get all.memories.items c ≡ Some memory → AreSnapshotsOf all.judge.layout (seen_history all.judge) memory (linked calls lay.mode lines c)
  snapshots_seen c memory is = subst (λ (l : Layout). AreSnapshotsOf l (seen_history all.judge) memory (linked calls lay.mode lines c)) (sym x.steps.layout) (subst (λ (h : History). AreSnapshotsOf lay h memory (linked calls lay.mode lines c)) (sym x.steps.is_seen) (x.memories c memory is).snapshots)

  call_of_lines : (c : ℕ) (memory : Memory) → slice_get all.memories.items c ≡ Some memory → IsSome (begin lines c) → IsCallSeen lay c (history lay.mode lines) (start lay.mode lines c) (linked calls lay.mode lines c) memory
  call_of_lines c memory is begun =
      let m = x.memories c memory is in
      let b = m.begins begun in
      record {
        started = record { within = b.within; many = sym b.begun };
        nodes = b.nodes;
        scx = b.scx;
        looks = m.looks;
        freezes = m.freezes;
        snapshots = m.snapshots;
      }

  pub call_seen : (c : ℕ) (memory : Memory) → slice_get all.memories.items c ≡ Some memory → IsSome (begin lines c) → IsCallSeen all.judge.layout c (seen_history all.judge) (start lay.mode lines c) (linked calls lay.mode lines c) memory
  call_seen c memory is begun = subst (λ (l : Layout). IsCallSeen l c (seen_history all.judge) (start lay.mode lines c) (linked calls lay.mode lines c) memory) (sym x.steps.layout) (subst (λ (h : History). IsCallSeen lay c h (start lay.mode lines c) (linked calls lay.mode lines c) memory) (sym x.steps.is_seen) (call_of_lines c memory is begun))

  pub same_seen : (c : ℕ) (memory : Memory) (cells : CellList) → slice_get all.memories.items c ≡ Some memory → IsSome (begin lines c) → next_command calls lines c ≡ Some (Vlx cells) → AreSameAt all.judge.layout (start lay.mode lines c) (linked calls lay.mode lines c) (cells_of cells) memory.same
  same_seen c memory cells is begun next = subst (λ (l : Layout). AreSameAt l (start lay.mode lines c) (linked calls lay.mode lines c) (cells_of cells) memory.same) (sym x.steps.layout) (((x.memories c memory is).begins begun).same cells next)

  -- and back, of the lines
  pub to_lines : (P : Layout → History → Type 0) → P all.judge.layout (seen_history all.judge) → P lay (history lay.mode lines)
  to_lines P p = subst (λ (h : History). P lay h) x.steps.is_seen (subst (λ (l : Layout). P l (seen_history all.judge)) x.steps.layout p)

  pub own_memory : (c : ℕ) (memory : Memory) → c < all.judge.layout.passes → IfSome (slice_get all.memories.items c) (λ m. memory ≡ m) → slice_get all.memories.items c ≡ Some memory
  own_memory c memory p own = memory_is all.memories.items c memory (let many = x.steps.all_memories in let same = ap (λ (l : Layout). l.passes) x.steps.layout in omega arith) own
