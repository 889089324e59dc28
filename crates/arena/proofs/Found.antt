-- What a pass has found stays so, whatever rows come but its own of the same kind.
use Rattle.std.proofs.Common.{◌≡◌, ◌≢◌, ℕ, inl, inr}
use Rattle.arena.specs.declared.step.Row.{Row}
use Rattle.arena.specs.declared.step.Kind.{Kind}
use Rattle.arena.specs.Words.{info}
use Rattle.arena.specs.History.{History, ◌⊳◌, Extends}
use Rattle.arena.specs.Found.{IsLastStep, HasFound}
use Rattle.arena.proofs.Values.{ends_self, ends_trans, no_row_behind}

-- the row that the pass has just made is its last
pub last_now : (c : ℕ) (h : History) (kind : Kind) (n : ℕ) (r : Row) → r.pass.0 ≡ c → r.kind ≡ kind → r.word ≡ info n → IsLastStep c (r ⊳ h) kind n r h
last_now c h kind n r own is word = record { within = ends_self (r ⊳ h); own = own; is_kind = is; word = word; none_since = λ later k e f. absurd (no_row_behind (r ⊳ h) k later e f) }

-- and stays so where the next is of another pass, or of another kind
pub last_more : (c : ℕ) (h : History) (kind : Kind) (n : ℕ) (r row : Row) (before : History) → (r.pass.0 ≡ c → r.kind ≢ kind) → IsLastStep c h kind n row before → IsLastStep c (r ⊳ h) kind n row before
last_more c h kind n r row before other x = record { within = inr x.within; own = x.own; is_kind = x.is_kind; word = x.word; none_since = none }
  where
    row_of_more : (a b : Row) (m k : History) → a ⊳ m ≡ b ⊳ k → a ≡ b
    row_of_more a b m k e = cc

    none : (later : Row) (k : History) → Extends (r ⊳ h) (later ⊳ k) → Extends k (row ⊳ before) → later.pass.0 ≡ c → later.kind ≢ kind
    none later k (inl e) f = rw (row_of_more later r k h e) other
    none later k (inr e) f = x.none_since later k e f

pub found_more : (c : ℕ) (h start : History) (kind : Kind) (n s : ℕ) (r : Row) → (r.pass.0 ≡ c → r.kind ≢ kind) → HasFound c h start kind n s → HasFound c (r ⊳ h) start kind n s
found_more c h start kind n s r other x = record { row = x.row; before = x.before; since = x.since; last = last_more c h kind n r x.row x.before other x.last; found = x.found }

-- what was found since a moment was found since an earlier one
pub found_wider : (c : ℕ) (h m start : History) (kind : Kind) (n s : ℕ) → Extends m start → HasFound c h m kind n s → HasFound c h start kind n s
found_wider c h m start kind n s e x = record { row = x.row; before = x.before; since = ends_trans x.before m start x.since e; last = x.last; found = x.found }
