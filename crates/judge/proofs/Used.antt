-- A row, and what fields and `new` have held.
use Rattle.std.proofs.Common.{◌≡◌, ◌≢◌, ◌↔◌, ℕ, zero, suc, ◌+◌, ◌<◌, ◌⊎◌, inl, inr, ⊎_elim, Bool, true, false, not, IsTrue, cond, eqb, List, length, replicate, refl, sym, ◌∙◌, ap, subst, arith, get_or-set_other, get_or-set_same, eq-eqb, ne_eqb}
use Rattle.std.proofs.Math.ListN.{length-set}
use Rattle.std.specs.Prelude.{slice_index_or}
use Rattle.histories.specs.Common.{Layout, Mode, Side, Left, Right, Settled, Child, Info, Marked, State, AllFrozen, Plan, New, Old}
use Rattle.histories.specs.Common.{Member, Seen, Word, Node, Scx, Row, all_nodes, opening, child, scx, History, Start, empty, ◌⊳◌, HasHeld}
use Rattle.arena.specs.declared.word.ScxWord.TheVariants.{Call}
use Rattle.arena.specs.Layout.{is_map, tree_opening}
use Rattle.arena.proofs.Lemmas.{held_at, held_more, held_start, opening_scx}
use Rattle.histories.proofs.Lemmas.{value_start}
use Rattle.judge.specs.declared.uses.Users.{Users}
use Rattle.judge.specs.declared.uses.Users.TheVariants.{Nobody, One, Several}
use Rattle.judge.specs.declared.uses.Uses.{Uses}
use Rattle.judge.specs.Uses.{held_nodes, has_other, with_user, users_of, fields_after, users_after, WasInField, WasInOtherNew, AreUsers, UsesStand}
use Rattle.judge.proofs.Counts.{set_here, set_there}
use Rattle.judge.proofs.Spreading.{same_or}
use Rattle.judge.proofs.Names.{held_by_row, held_row}

-- whether the word is a field, or `new`

abbrev is_field : Word → Bool
is_field (Node n (Child side)) = true
is_field _ = false

abbrev is_new : Word → Bool
is_new (Scx s New) = true
is_new _ = false

abbrev scx_number : Word → ℕ
scx_number (Scx s part) = s.0
scx_number (Node n part) = 0

other_word : (b c : Bool) → b ≡ true → c ≡ false → b ≡ c → ⊥
other_word b c p q e = let both : true ≡ false = sym p ∙ e ∙ q in cc

-- Fields

module _ (r : Row) (h : History) (n : ℕ) (flags : List Bool) where
  abbrev Flagged : List Bool → History → Type 0
  Flagged list k = slice_index_or list n false ≡ true ↔ WasInField k n

  field_more : WasInField h n → WasInField (r ⊳ h) n
  field_more x = (x.0, x.1, held_more r h (child x.0 x.1) n x.2)

  field_back : ((m : ℕ) (side : Side) → ¬ ((r.word ≡ child m side) × (r.after ≡ n))) → WasInField (r ⊳ h) n → WasInField h n
  field_back never x = (x.0, x.1, ⊎_elim (λ e. absurd (never x.0 x.1 e)) (λ q. q) (held_by_row r h (child x.0 x.1) n x.2))

  flags_same : (w : Word) → r.word ≡ w → is_field w ≡ false → Flagged flags h → Flagged flags (r ⊳ h)
  flags_same w e b p = (λ t. field_more (p.0 t), λ x. p.1 (field_back (λ m side q. other_word (is_field (child m side)) (is_field w) refl b (ap is_field (sym q.0 ∙ e))) x))

  flag_now : (w : Word) → r.word ≡ w → n < length flags → Flagged flags h → Flagged (fields_after w r.after flags) (r ⊳ h)
  flag_now (Node m (Child side)) e l p = ⊎_elim
      (λ same. (λ t. (m.0, side, rw same (held_row r h (child m.0 side) e)), λ x. rw (← same) (set_here flags n l)))
      (λ d. let there = set_there flags r.after n d in (λ t. field_more (p.0 (sym there ∙ t)), λ x. there ∙ p.1 (field_back (λ k from q. d (sym q.1)) x)))
      (same_or n r.after)
  flag_now (Node m (Settled q)) e l p = flags_same (Node m (Settled q)) e refl p
  flag_now (Node m Info) e l p = flags_same (Node m Info) e refl p
  flag_now (Node m Marked) e l p = flags_same (Node m Marked) e refl p
  flag_now (Scx s part) e l p = flags_same (Scx s part) e refl p

-- Users

module _ (r : Row) (h : History) (n : ℕ) where
  abbrev NoMore : Type 0
  NoMore = (s : ℕ) → HasHeld (r ⊳ h) (scx s New) n → HasHeld h (scx s New) n

  users_same : (o : Users) → NoMore → AreUsers h n o → AreUsers (r ⊳ h) n o
  users_same Nobody b a = λ s p. a s (b s p)
  users_same (One u) b a = (held_more r h (scx u New) n a.0, λ s p. a.1 s (b s p))
  users_same Several b a = λ s. let x = a s in (x.0, x.1, held_more r h (scx x.0 New) n x.2)

  back_unless : ((s : ℕ) → ¬ ((r.word ≡ scx s New) × (r.after ≡ n))) → NoMore
  back_unless never s p = ⊎_elim (λ e. absurd (never s e)) (λ q. q) (held_by_row r h (scx s New) n p)

  module _ (t : ℕ) (e : r.word ≡ scx t New) (d : r.after ≡ n) where
    here : HasHeld (r ⊳ h) (scx t New) n
    here = rw (← d) (held_row r h (scx t New) e)

    this_or_old : (s : ℕ) → HasHeld (r ⊳ h) (scx s New) n → (s ≡ t) ⊎ HasHeld h (scx s New) n
    this_or_old s p = ⊎_elim (λ q. inl (ap scx_number (sym q.0 ∙ e))) (λ q. inr q) (held_by_row r h (scx s New) n p)

    both_are : (u : ℕ) → u ≢ t → HasHeld h (scx u New) n → (s : ℕ) → WasInOtherNew (r ⊳ h) s n
    both_are u apart p s = ⊎_elim (λ q. (t, λ z. apart (sym q ∙ sym z), here)) (λ q. (u, λ z. q (sym z), held_more r h (scx u New) n p)) (same_or s u)

    user_more : (o : Users) → AreUsers h n o → AreUsers (r ⊳ h) n (with_user o t)
    user_more Nobody a = (here, λ s p. ⊎_elim (λ q. q) (λ q. absurd (a s q)) (this_or_old s p))
    user_more (One u) a = ⊎_elim
        (λ same. rw (eq-eqb u t same) (held_more r h (scx u New) n a.0, λ s p. ⊎_elim (λ q. q ∙ sym same) (λ q. a.1 s q) (this_or_old s p)))
        (λ apart. rw (ne_eqb u t apart) (both_are u apart a.0))
        (same_or u t)
    user_more Several a = λ s. let x = a s in (x.0, x.1, held_more r h (scx x.0 New) n x.2)

  users_other : (users : List Users) (w : Word) → r.word ≡ w → is_new w ≡ false → AreUsers h n (users_of users n) → AreUsers (r ⊳ h) n (users_of users n)
  users_other users w e b a = users_same (users_of users n) (back_unless (λ s q. other_word (is_new (scx s New)) (is_new w) refl b (ap is_new (sym q.0 ∙ e)))) a

  users_now : (users : List Users) (w : Word) → r.word ≡ w → n < length users → AreUsers h n (users_of users n) → AreUsers (r ⊳ h) n (users_of (users_after w r.after users) n)
  users_now users (Scx t New) e l a = ⊎_elim
      (λ same.
      let at : users_of (users_after (Scx t New) r.after users) n ≡ with_user (users_of users n) t.0 = rw (← same) (get_or-set_same users n (with_user (users_of users n) t.0) Nobody l) in
      subst (λ (o : Users). AreUsers (r ⊳ h) n o) (sym at) (user_more t.0 e (sym same) (users_of users n) a))
      (λ d.
      let at : users_of (users_after (Scx t New) r.after users) n ≡ users_of users n = get_or-set_other users r.after n (with_user (users_of users r.after) t.0) Nobody d in
      subst (λ (o : Users). AreUsers (r ⊳ h) n o) (sym at) (users_same (users_of users n) (back_unless (λ s q. d (sym q.1))) a))
      (same_or n r.after)
  users_now users (Scx t State) e l a = users_other users (Scx t State) e refl a
  users_now users (Scx t AllFrozen) e l a = users_other users (Scx t AllFrozen) e refl a
  users_now users (Scx t Plan) e l a = users_other users (Scx t Plan) e refl a
  users_now users (Scx t Old) e l a = users_other users (Scx t Old) e refl a
  users_now users (Scx t (Member j)) e l a = users_other users (Scx t (Member j)) e refl a
  users_now users (Scx t (Seen j)) e l a = users_other users (Scx t (Seen j)) e refl a
  users_now users (Scx t Call) e l a = users_other users (Scx t Call) e refl a
  users_now users (Node m part) e l a = users_other users (Node m part) e refl a

-- what they say of others than one SCX-record
pub others_asked : (h : History) (n u : ℕ) (o : Users) → AreUsers h n o → IsTrue (has_other o u) ↔ WasInOtherNew h u n
others_asked h n u Nobody a = (λ t. absurd (cc), λ x. absurd (a x.0 x.2))
others_asked h n u (One v) a = ⊎_elim
    (λ same. (λ t. absurd (let z : not true ≡ true = rw (eq-eqb v u same) at t in cc), λ x. absurd (x.1 (a.1 x.0 x.2 ∙ same))))
    (λ d. (λ t. (v, d, a.0), λ x. rw (ne_eqb v u d) refl))
    (same_or v u)
others_asked h n u Several a = (λ t. a u, λ x. refl)

-- what the lists say
pub field_asked : (lay : Layout) (h : History) (u : Uses) → UsesStand lay h u → (n : ℕ) (b : Bool) → n < all_nodes lay → b ≡ slice_index_or u.in_field.items n false → IsTrue b ↔ WasInField h n
field_asked lay h u s n b l e = rw e (s.fields n l)

pub new_asked : (lay : Layout) (h : History) (u : Uses) → UsesStand lay h u → (t n : ℕ) (b : Bool) → n < all_nodes lay → b ≡ has_other (users_of u.users.items n) t → IsTrue b ↔ WasInOtherNew h t n
new_asked lay h u s t n b l e = rw e (others_asked h n t (users_of u.users.items n) (s.users n l))

-- The lists

fields_long : (w : Word) (v : ℕ) (flags : List Bool) → length (fields_after w v flags) ≡ length flags
fields_long (Node m (Child side)) v flags = length-set flags v true
fields_long (Node m (Settled p)) v flags = refl
fields_long (Node m Info) v flags = refl
fields_long (Node m Marked) v flags = refl
fields_long (Scx s part) v flags = refl

users_long : (w : Word) (v : ℕ) (users : List Users) → length (users_after w v users) ≡ length users
users_long (Scx t New) v users = length-set users v (with_user (users_of users v) t.0)
users_long (Scx t State) v users = refl
users_long (Scx t AllFrozen) v users = refl
users_long (Scx t Plan) v users = refl
users_long (Scx t Old) v users = refl
users_long (Scx t (Member j)) v users = refl
users_long (Scx t (Seen j)) v users = refl
users_long (Scx t Call) v users = refl
users_long (Node m part) v users = refl

pub uses_more : (lay : Layout) (h : History) (r : Row) (u new : Uses) → UsesStand lay h u → new.in_field.items ≡ fields_after r.word r.after u.in_field.items → new.users.items ≡ users_after r.word r.after u.users.items → UsesStand lay (r ⊳ h) new
uses_more lay h r u new old f g = record {
  fields_size = ap length f ∙ fields_long r.word r.after u.in_field.items ∙ old.fields_size;
  users_size = ap length g ∙ users_long r.word r.after u.users.items ∙ old.users_size;
  fields = λ n l. rw f (flag_now r h n u.in_field.items r.word refl (rw old.fields_size l) (old.fields n l));
  users = λ n l. rw g (users_now r h n u.users.items r.word refl (rw old.users_size l) (old.users n l));
}

-- At the start

-- whichever of the two this is
either : {n k : ℕ} (is : Bool) → n < k → 0 < k → cond is n 0 < k
either true a b = a
either false a b = b

field_held : (mode : Mode) (m : ℕ) (side : Side) → opening mode (child m side) < held_nodes mode
field_held mode m side = elim (is_map mode) as (λ is. cond is (tree_opening (child m side)) 0 < cond is 3 1) [
  | true ↦ held side
  | false ↦ omega arith
]
  where
    held : (side : Side) → tree_opening (child m side) < 3
    held Left = either (eqb m 0) (omega arith) (omega arith)
    held Right = either (eqb m 0) (omega arith) (omega arith)

held_by_start : (mode : Mode) (m : ℕ) (side : Side) (n : ℕ) → opening mode (child m side) ≡ n → WasInField (Start mode) n
held_by_start mode m side n e = (m, side, held_at (Start mode) (child m side) n (value_start (empty mode) (child m side) ∙ e))

start_held : (mode : Mode) (n : ℕ) → n < held_nodes mode → WasInField (Start mode) n
start_held mode = go (is_map mode) refl
  where
    go : (is : Bool) → is_map mode ≡ is → (n : ℕ) → n < cond is 3 1 → WasInField (Start mode) n
    go true e zero l = held_by_start mode 1 Left 0 (rw e refl)
    go true e (suc zero) l = held_by_start mode 0 Left 1 (rw e refl)
    go true e (suc (suc zero)) l = held_by_start mode 0 Right 2 (rw e refl)
    go true e (suc (suc (suc n))) l = absurd (omega (l, arith))
    go false e zero l = held_by_start mode 0 Left 0 (rw e refl)
    go false e (suc n) l = absurd (omega (l, arith))

start_back : (mode : Mode) (n : ℕ) → WasInField (Start mode) n → n < held_nodes mode
start_back mode n x =
    let o = field_held mode x.0 x.1 in
    let e = held_start (empty mode) (child x.0 x.1) n x.2 in
    let v = value_start (empty mode) (child x.0 x.1) in
    omega (o, e, v, arith)

new_is_none : (mode : Mode) (s n : ℕ) → HasHeld (Start mode) (scx s New) n → n ≡ 0
new_is_none mode s n p = sym (held_start (empty mode) (scx s New) n p) ∙ opening_scx (empty mode) s New refl

-- `new` holds 0 at the start, of each SCX-record
zero_users : (mode : Mode) (n : ℕ) → n ≡ 0 → AreUsers (Start mode) n Several
zero_users mode n e = λ s. (s + 1, (λ q. omega (q, arith)), held_at (Start mode) (scx (s + 1) New) n (opening_scx (empty mode) (s + 1) New refl ∙ sym e))

users_at : (mode : Mode) (n : ℕ) (o : Users) → (n ≡ 0 → o ≡ Several) → (n ≢ 0 → o ≡ Nobody) → AreUsers (Start mode) n o
users_at mode n o a b = ⊎_elim
    (λ e. subst (λ (x : Users). AreUsers (Start mode) n x) (sym (a e)) (zero_users mode n e))
    (λ d. subst (λ (x : Users). AreUsers (Start mode) n x) (sym (b d)) (λ s p. d (new_is_none mode s n p)))
    (same_or n 0)

pub uses_start : (lay : Layout) (u : Uses) → length u.in_field.items ≡ all_nodes lay → length u.users.items ≡ all_nodes lay → ((n : ℕ) → slice_index_or u.in_field.items n false ≡ true ↔ (n < held_nodes lay.mode)) → users_of u.users.items 0 ≡ Several → ((n : ℕ) → n ≢ 0 → users_of u.users.items n ≡ Nobody) → UsesStand lay (Start lay.mode) u
uses_start lay u f g set several nobody = record {
  fields_size = f;
  users_size = g;
  fields = λ n l. (λ t. start_held lay.mode n ((set n).0 t), λ x. (set n).1 (start_back lay.mode n x));
  users = λ n l. users_at lay.mode n (users_of u.users.items n) (λ e. rw e several) (nobody n);
}

-- how the lists are made

pub no_users : (size n : ℕ) → users_of (replicate size Nobody) n ≡ Nobody
no_users zero n = refl
no_users (suc size) zero = refl
no_users (suc size) (suc n) = no_users size n
