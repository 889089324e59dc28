-- Moments and rows: no row is behind itself, and what is taken stays so.
use Rattle.std.proofs.Common.{◌≡◌, ℕ, inl, inr, sym, ap, subst}
use Rattle.histories.specs.Common.{Row, History, Opened, ◌⊳◌, Extends, IsTakenNode}
use Rattle.arena.proofs.Lemmas.{ends_self, ends_trans, taken_node_more}

abbrev tail_of : History → History
tail_of (Opened o) = Opened o
tail_of (r ⊳ h) = h

behind_itself : (g : History) (r : Row) → Extends g (r ⊳ g) → ⊥
behind_itself (Opened o) r e = absurd (let d : r ⊳ Opened o ≡ Opened o = e in cc)
behind_itself (q ⊳ k) r (inl e) = behind_itself k q (subst (λ m. Extends k m) (sym (ap tail_of e)) (ends_self k))
behind_itself (q ⊳ k) r (inr e) = behind_itself k q (ends_trans k (r ⊳ (q ⊳ k)) (q ⊳ k) e (inr (ends_self (q ⊳ k))))

-- no row of a history is made behind the whole of it
pub no_row_behind : (h g : History) (r : Row) → Extends h (r ⊳ g) → Extends g h → ⊥
no_row_behind h g r e f = behind_itself g r (ends_trans g h (r ⊳ g) f e)

pub taken_node_since : (h m : History) (n : ℕ) → Extends h m → IsTakenNode m n → IsTakenNode h n
taken_node_since (Opened o) m n e t = subst (λ k. IsTakenNode k n) e t
taken_node_since (r ⊳ h) m n (inl e) t = subst (λ k. IsTakenNode k n) e t
taken_node_since (r ⊳ h) m n (inr e) t = taken_node_more r h n (taken_node_since h m n e t)
