-- What looks and snapshots say of a call of cells.
use Rattle.std.proofs.Common.{◌≡◌, ◌≢◌, ℕ, ◌+◌, ◌*◌, ◌<◌, ◌≤◌, Bool, true, false, not, List, [], ◌∷◌, length, get_or, slice_get, Option, Some, None, IsSome, IfSome, IfNone, is_some, refl, sym, ap, subst, ◌∙◌, arith}
use Rattle.std.specs.List.{Contains}
use Rattle.std.proofs.lemmas.Bool.{false≢true}
use Rattle.histories.specs.Common.{Layout, Kind, Freeze, Records, all_nodes, WasInTheWay, HasFailed, IsOthersScx, HasFound, History, value, log, last, is_final, state}
use Rattle.arena.specs.Layout.{opening_nodes, nodes_at_start}
use Rattle.record.specs.Common.{IsInTheWay, IsLastLook, IsFirstUnlinked, AreLinked}
use Rattle.audit.specs.CellCalls.{IsCallSeen, IsLookAt, IsOwnLook, IsAsLooked}
use Rattle.audit.specs.Remembered.{row_count, IsMomentAt, IsLookOf, AreSnapshotsOf}
use Rattle.audit.specs.declared.memory.FoundInfo.{FoundInfo}
use Rattle.audit.specs.declared.memory.Memory.{Memory}
use Rattle.audit.specs.declared.memory.Snapshot.{Snapshot}
use Rattle.audit.proofs.CellLists.{at_place, each_contained}
use Rattle.arena.proofs.Lemmas.{ends_self, same_moment}
use Rattle.audit.proofs.RowMoments.{moment_before}
use Rattle.audit.proofs.CellMoments.{look_found, looked, kept_snapshot, no_snapshot, is_linked}

pub some_kept : (o : Option Snapshot) (P : Snapshot → Type 0) → is_some o ≡ true → IfSome o P → (kept : Snapshot) × P kept
some_kept None P e x = absurd (false≢true e)
some_kept (Some kept) P e x = (kept, x)

pub none_kept : {X : Type 0} (o : Option X) (P : Type 0) → is_some o ≡ false → IfNone o P → P
none_kept None P e x = x
none_kept (Some kept) P e x = absurd (false≢true (sym e))

pub if_some : {X : Type 0} (o : Option X) (x : X) (P : X → Type 0) → o ≡ Some x → IfSome o P → P x
if_some None x P e y = absurd cc
if_some (Some z) x P e y = subst P (let w : z ≡ x = cc in w) y

pub not_false : (b : Bool) → not b ≡ true → b ≡ false
not_false true e = absurd (false≢true e)
not_false false e = refl

-- Cells without a snapshot

module _ (lay : Layout) (h : History) (memory : Memory) (linked : ℕ → Option History) (x : AreSnapshotsOf lay h memory linked) (cells : List ℕ) where
  pub first_is : (i node : ℕ) → i < length cells → get_or cells i 0 ≡ node → slice_get memory.snapshots node ≡ Some None → ((j : ℕ) → j < i → (kept : Snapshot) × (slice_get memory.snapshots (get_or cells j 0) ≡ Some (Some kept))) → IsFirstUnlinked linked cells node
  first_is i node p at none before = (
    no_snapshot lay h node (linked node) (x node None none),
    record {
      place = i;
      is = at_place cells i p ∙ ap (λ (n : ℕ). Some n) at;
      before = λ j q. let y = before j q in is_linked lay h memory linked x (get_or cells j 0) y.0 y.1;
    },
  )

  pub all_linked : ((j : ℕ) → j < length cells → (kept : Snapshot) × (slice_get memory.snapshots (get_or cells j 0) ≡ Some (Some kept))) → AreLinked linked cells
  all_linked all = each_contained (λ (n : ℕ). IsSome (linked n)) cells (λ j q. let y = all j q in is_linked lay h memory linked x (get_or cells j 0) y.0 y.1)

-- Looks and others in the way

module _ (lay : Layout) (c : ℕ) (h start : History) (linked : ℕ → Option History) (memory : Memory) (x : IsCallSeen lay c h start linked memory) where
  pub as_looked : (n : ℕ) (look : FoundInfo) → IsOwnLook memory n look → last (log lay h) n ≡ look.last → is_final (log lay h) n ≡ false → IsAsLooked lay c h start n
  as_looked n look o same not_final =
      let y = looked lay h start c memory.begun n look x.started (x.looks look o.is) o.behind o.at in
      record {
        moment = y.moment;
        within = y.at.within;
        look = y.is_last;
        same = record { same = same ∙ y.entry; not_final = not_final };
      }

  pub just_looked : (n : ℕ) (look : FoundInfo) → IsOwnLook memory n look → look.steps ≡ row_count h → IsLastLook c h start h n
  just_looked n look o all =
      let y = looked lay h start c memory.begun n look x.started (x.looks look o.is) o.behind o.at in
      subst (λ (m : History). IsLastLook c h start m n) (same_moment h y.moment y.at.within (moment_before h y.moment h y.at.within (ends_self h) (let many = y.at.many in omega arith))) y.is_last

  pub has_found : (kind : Kind) (look : Option FoundInfo) (n s : ℕ) → ((kept : FoundInfo) → look ≡ Some kept → IsLookOf lay h c kind kept) → IsLookAt look n s memory.begun → HasFound c h start kind n s
  has_found kind look n s looks l = look_found lay h start c memory.begun x.started kind l.kept (looks l.kept l.is) l.behind n s l.at l.it_found

  pub failed : (n s : ℕ) → IsLookAt memory.look n s memory.begun → IsOthersScx lay c s → WasInTheWay h start n s → value h (state s) ≢ 0 → is_final (log lay start) n ≡ false → HasFailed lay c h start n s
  failed n s l others way over not_final = record {
    found = has_found _ memory.look n s x.looks l;
    others = others;
    in_the_way = way;
    over = over;
    not_final = not_final;
  }

  pub come : (kind : Kind) (look : Option FoundInfo) (cells : List ℕ) (n s : ℕ) (kept : Snapshot) → ((l : FoundInfo) → look ≡ Some l → IsLookOf lay h c kind l) → slice_get memory.snapshots n ≡ Some (Some kept) → Contains cells n → IsLookAt look n s memory.begun → IsOthersScx lay c s → ((g : History) → IsMomentAt h kept.steps g → WasInTheWay h g n s) → IsInTheWay lay c h start kind cells n s (λ moment. linked n ≡ Some moment)
  come kind look cells n s kept looks is among l others way =
      let y = kept_snapshot lay h n kept (linked n) (x.snapshots n (Some kept) is) in
      record {
        among = among;
        moment = y.0;
        of_snapshot = y.1;
        way = way y.0 y.2;
        found = has_found kind look n s looks l;
        others = others;
      }

  pub lost : (n s : ℕ) (look : FoundInfo) → IsOwnLook memory n look → ((g : History) → IsMomentAt h look.steps g → is_final (log lay g) n ≡ false) → IsLookAt memory.freeze n s memory.begun → IsOthersScx lay c s → ((g : History) → IsMomentAt h look.steps g → WasInTheWay h g n s) → IsInTheWay lay c h start Freeze (n ∷ []) n s (λ moment. IsLastLook c h start moment n × (is_final (log lay moment) n ≡ false))
  lost n s look o not_final l others way =
      let y = looked lay h start c memory.begun n look x.started (x.looks look o.is) o.behind o.at in
      record {
        among = (0, omega arith, refl);
        moment = y.moment;
        of_snapshot = (y.is_last, not_final y.moment y.at);
        way = way y.moment y.at;
        found = has_found Freeze memory.freeze n s x.freezes l;
        others = others;
      }

-- A cell is a node of the table

beyond : (a b n : ℕ) → a ≡ 9 → n ≤ 8 → n < a + b
beyond a b n e p = omega arith

pub cell_inside : (lay : Layout) (n : ℕ) → lay.mode ≡ Records → n ≤ 8 → n < all_nodes lay
cell_inside lay n e p = beyond (opening_nodes lay) (lay.passes * lay.nodes) n (ap (λ mode. nodes_at_start mode lay.planted) e) p
