-- The seven fields of a row, looked up one by one.
use Rattle.std.proofs.Common.{◌≡◌, ◌<◌, ◌^◌, ℕ, List, [], ◌∷◌, Bor, get_or, ap, length, refl, sym, arith, decimal, codes}
use Rattle.arena.specs.Limits.{IsAccepted}
use Rattle.arena.specs.declared.limits.Limits.{Limits}
use Rattle.record.specs.Common.{texts, limits_row}
use Rattle.report.specs.Report.{name_of, seven}
use Rattle.texts.proofs.Lemmas.{same_number}

-- what a lookup past the last field would find
abbrev pub blank : Bor (List ℕ)
blank = record { ref_ptr = (0, 0); now = [] }

-- the row is these fields
pub record AreFields (fields : List (Bor (List ℕ))) (name one two three four five six : List ℕ) : Type 0 where
  pub name_is : (get_or fields 0 blank).now ≡ name
  pub one_is : (get_or fields 1 blank).now ≡ one
  pub two_is : (get_or fields 2 blank).now ≡ two
  pub three_is : (get_or fields 3 blank).now ≡ three
  pub four_is : (get_or fields 4 blank).now ≡ four
  pub five_is : (get_or fields 5 blank).now ≡ five
  pub six_is : (get_or fields 6 blank).now ≡ six

-- field by field, where the row is known
pub fields_are : (fields : List (Bor (List ℕ))) (name one two three four five six : List ℕ) → length fields ≡ 7 → texts fields ≡ name ∷ one ∷ two ∷ three ∷ four ∷ five ∷ six ∷ [] → AreFields fields name one two three four five six
fields_are (a ∷ b ∷ c ∷ e ∷ f ∷ g ∷ h ∷ []) name one two three four five six long is =
    record { name_is = cc; one_is = cc; two_is = cc; three_is = cc; four_is = cc; five_is = cc; six_is = cc }
fields_are fields name one two three four five six long is = absurd (omega (arith, long))

-- the row, where each field is known
pub row_is : (fields : List (Bor (List ℕ))) (name one two three four five six : List ℕ) → length fields ≡ 7
    → (get_or fields 0 blank).now ≡ name → (get_or fields 1 blank).now ≡ one → (get_or fields 2 blank).now ≡ two → (get_or fields 3 blank).now ≡ three
    → (get_or fields 4 blank).now ≡ four → (get_or fields 5 blank).now ≡ five → (get_or fields 6 blank).now ≡ six
    → texts fields ≡ name ∷ one ∷ two ∷ three ∷ four ∷ five ∷ six ∷ []
row_is (a ∷ b ∷ c ∷ e ∷ f ∷ g ∷ h ∷ []) name one two three four five six long p q r s t u v = rw (← p, ← q, ← r, ← s, ← t, ← u, ← v) refl
row_is fields name one two three four five six long p q r s t u v = absurd (omega (arith, long))

-- the last field, looked up in the texts
pub last_text : (fields : List (Bor (List ℕ))) → length fields ≡ 7 → get_or (texts fields) 6 [] ≡ (get_or fields 6 blank).now
last_text (a ∷ b ∷ c ∷ e ∷ f ∷ g ∷ h ∷ []) long = refl
last_text fields long = absurd (omega (arith, long))

-- the first field is the row's name
pub name_is : (fields : List (Bor (List ℕ))) (row : List (List ℕ)) → length fields ≡ 7 → texts fields ≡ row → name_of row ≡ (get_or fields 0 blank).now
name_is (a ∷ b ∷ c ∷ e ∷ f ∷ g ∷ h ∷ []) row long is = ap name_of (sym is)
name_is fields row long is = absurd (omega (arith, long))

-- the fields of a row of limits
abbrev pub AreLimits : List (Bor (List ℕ)) → Limits → Type 0
AreLimits fields l = AreFields fields (codes "limits") (decimal l.passes) (decimal l.nodes) (decimal l.scx) (decimal l.tries) [] []

pub limits_are : (fields : List (Bor (List ℕ))) (limits : Limits) → length fields ≡ 7 → texts fields ≡ seven (limits_row limits) → AreLimits fields limits
limits_are fields limits long is = fields_are fields (codes "limits") (decimal limits.passes) (decimal limits.nodes) (decimal limits.scx) (decimal limits.tries) [] [] long is

-- limits that a row says are accepted where some that it says are
pub same_limits : (fields : List (Bor (List ℕ))) (passes nodes scx tries : ℕ) (said : Limits) → AreLimits fields said
    → (get_or fields 1 blank).now ≡ decimal passes → (get_or fields 2 blank).now ≡ decimal nodes → (get_or fields 3 blank).now ≡ decimal scx → (get_or fields 4 blank).now ≡ decimal tries
    → passes < 2 ^ 32 → nodes < 2 ^ 32 → scx < 2 ^ 32 → tries < 2 ^ 32 → IsAccepted said → IsAccepted record { passes = passes; nodes = nodes; scx = scx; tries = tries }
same_limits fields passes nodes scx tries said s is_passes is_nodes is_scx is_tries small_passes small_nodes small_scx small_tries accepted =
    let one : passes ≡ said.passes = same_number _ _ _ is_passes s.one_is (omega (arith, small_passes)) (omega (arith, accepted.passes)) in
    let two : nodes ≡ said.nodes = same_number _ _ _ is_nodes s.two_is (omega (arith, small_nodes)) (omega (arith, accepted.nodes)) in
    let three : scx ≡ said.scx = same_number _ _ _ is_scx s.three_is (omega (arith, small_scx)) (omega (arith, accepted.scx)) in
    let four : tries ≡ said.tries = same_number _ _ _ is_tries s.four_is (omega (arith, small_tries)) (omega (arith, accepted.tries)) in
    record { some_pass = omega (arith, one, accepted.some_pass); passes = omega (arith, one, accepted.passes); nodes = omega (arith, two, accepted.nodes); scx = omega (arith, three, accepted.scx); some_try = omega (arith, four, accepted.some_try); tries = omega (arith, four, accepted.tries) }
