-- Moments of a history, by how many rows they have, and what looks and snapshots say.
use Rattle.std.proofs.Common.{◌≡◌, ℕ, ◌<◌, false, slice_get, inr, Option, Some, None, IsSome, refl, sym, ap, subst, ◌∙◌, arith}
use Rattle.histories.specs.Common.{Layout, Kind, LoadInfo, IsLastStep, HasFound, History, ◌⊳◌, Extends, value, log, last, is_final, info}
use Rattle.arena.proofs.Lemmas.{ends_self, ends_trans}
use Rattle.record.specs.Common.{IsAsSnapped, IsLastLook}
use Rattle.audit.specs.Remembered.{IsMomentAt, IsLookOf, IsSnapshotOf, AreSnapshotsOf}
use Rattle.audit.proofs.RowMoments.{moment_before}
use Rattle.audit.specs.declared.memory.FoundInfo.{FoundInfo}
use Rattle.audit.specs.declared.memory.Memory.{Memory}
use Rattle.audit.specs.declared.memory.Snapshot.{Snapshot}

-- Looks

module _ (lay : Layout) (h start : History) (c begun : ℕ) (started : IsMomentAt h begun start) (kind : Kind) (look : FoundInfo) (x : IsLookOf lay h c kind look) (behind : begun < look.steps) where
  -- it was made since the moment
  look_since : Extends x.before start
  look_since = moment_before h x.before start (ends_trans h (x.row ⊳ x.before) x.before x.newest.within (inr (ends_self x.before))) started.within (let many = x.many in let from = started.many in omega arith)

  -- what it has found
  pub look_found : (n s : ℕ) → look.node.0 ≡ n → look.found ≡ s → HasFound c h start kind n s
  look_found n s at is = record {
    row = x.row;
    before = x.before;
    since = look_since;
    last = subst (λ (k : ℕ). IsLastStep c h kind k x.row x.before) at x.newest;
    found = ap (λ (k : ℕ). value x.before (info k)) (sym at) ∙ sym x.found ∙ is;
  }

-- the last look of an LLX at this node, and the last entry over the node then
pub record Looked (lay : Layout) (h start : History) (c n : ℕ) (look : FoundInfo) : Type 0 where
  pub moment : History
  pub is_last : IsLastLook c h start moment n
  pub at : IsMomentAt h look.steps moment
  pub entry : look.last ≡ last (log lay moment) n

pub looked : (lay : Layout) (h start : History) (c begun n : ℕ) (look : FoundInfo) → IsMomentAt h begun start → IsLookOf lay h c LoadInfo look → begun < look.steps → look.node.0 ≡ n → Looked lay h start c n look
looked lay h start c begun n look started x behind at = record {
  moment = x.row ⊳ x.before;
  is_last = record {
    row = x.row;
    before = x.before;
    is = refl;
    since = look_since lay h start c begun started LoadInfo look x behind;
    last = subst (λ (k : ℕ). IsLastStep c h LoadInfo k x.row x.before) at x.newest;
  };
  at = record { within = x.newest.within; many = sym x.many };
  entry = x.last_entry ∙ ap (λ (k : ℕ). last (log lay (x.row ⊳ x.before)) k) at;
}

-- Snapshots

-- one that is kept is one that the lines say
pub kept_snapshot : (lay : Layout) (h : History) (n : ℕ) (kept : Snapshot) (said : Option History) → IsSnapshotOf lay h n (Some kept) said → (moment : History) × (said ≡ Some moment) × IsMomentAt h kept.steps moment × (kept.last ≡ last (log lay moment) n)
kept_snapshot lay h n kept None x = absurd x
kept_snapshot lay h n kept (Some moment) x = (moment, refl, x.0, x.1)

-- where none is kept they say none
pub no_snapshot : (lay : Layout) (h : History) (n : ℕ) (said : Option History) → IsSnapshotOf lay h n None said → said ≡ None
no_snapshot lay h n None x = refl
no_snapshot lay h n (Some moment) x = absurd x

module _ (lay : Layout) (h : History) (memory : Memory) (linked : ℕ → Option History) (x : AreSnapshotsOf lay h memory linked) where
  pub is_linked : (n : ℕ) (kept : Snapshot) → slice_get memory.snapshots n ≡ Some (Some kept) → IsSome (linked n)
  is_linked n kept is = let y = kept_snapshot lay h n kept (linked n) (x n (Some kept) is) in rw y.1 refl

  pub as_snapped : (n : ℕ) (kept : Snapshot) → slice_get memory.snapshots n ≡ Some (Some kept) → last (log lay h) n ≡ kept.last → is_final (log lay h) n ≡ false → IsAsSnapped lay h linked n
  as_snapped n kept is same not_final = let y = kept_snapshot lay h n kept (linked n) (x n (Some kept) is) in (y.0, y.1, record { same = same ∙ y.3; not_final = not_final })
