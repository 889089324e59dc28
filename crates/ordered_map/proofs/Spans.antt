-- The spans of forks, as numbers: two of them are nested or apart.
use Rattle.std.proofs.Common.{◌≡◌, ℕ, suc, ◌+◌, ◌-◌, ◌*◌, ◌/◌, ◌^◌, ◌<◌, ◌≤◌, ◌⊎◌, inl, inr, sym, ◌∙◌, ap, arith, pow_pos, pow-add, pow-suc, mul-le-mul_right, mul_assoc, mul_comm, add-mul, suc-mul}
use Rattle.std.proofs.lemmas.Bool.{cases_lt, cases_order}
use Rattle.ordered_map.specs.Bits.{room_at, IsForkKey, IsInSpan, PartsKeys}
use Rattle.ordered_map.proofs.Bits.{key_is}

-- the span of this key and level lies from here to below there
abbrev pub IsSpanIn : ℕ → ℕ → ℕ → ℕ → Type 0
IsSpanIn from to key level = (from ≤ key - room_at level) × (key + room_at level ≤ to)

-- the span of the second key and level lies in a side of the first
abbrev pub IsInSideOf : ℕ → ℕ → ℕ → ℕ → Type 0
IsInSideOf x l y m = IsSpanIn (x - room_at l) x y m ⊎ IsSpanIn x (x + room_at l) y m

-- of two multiples of a width one is at the other or above, or a whole width below
steps : (w v a : ℕ) → (v * w + w ≤ a * w) ⊎ (a * w ≤ v * w)
steps w v a = go (cases_lt v a)
  where
    go : (v < a) ⊎ (a ≤ v) → (v * w + w ≤ a * w) ⊎ (a * w ≤ v * w)
    go (inl l) = inl (let m = mul-le-mul_right {m = suc v} {n = a} w l in let s = suc-mul v w in omega (arith, m, s))
    go (inr l) = inr (mul-le-mul_right {m = a} {n = v} w l)

-- a fork on a higher level has room for a number of whole spans
room_of : (l m : ℕ) → l < m → m ≤ 65 → room_at l ≡ 2 ^ (m - suc l) * (2 * room_at m)
room_of l m a b = ap (λ i. 2 ^ i) e ∙ pow-add 2 (m - suc l) (suc (65 - m)) ∙ ap (λ w. 2 ^ (m - suc l) * w) (pow-suc 2 (65 - m) ∙ mul_comm (2 ^ (65 - m)) 2)
  where
    e : 65 - l ≡ m - suc l + suc (65 - m)
    e = omega (arith, a, b)

-- where a key is in the spans of two forks, that of the greater level is in a side of the other's
pub nested : (x l y m k : ℕ) → IsForkKey x l → IsForkKey y m → l < m → IsInSpan x l k → IsInSpan y m k → IsInSideOf x l y m
nested x l y m k a b d s t = go (steps w v first) (steps w v (first + p)) (steps w v (first + p + p))
  where
    w : ℕ
    w = 2 * room_at m

    v : ℕ
    v = y / w

    p : ℕ
    p = 2 ^ (m - suc l)

    first : ℕ
    first = x / (2 * room_at l) * (2 * p)

    room : room_at l ≡ p * w
    room = room_of l m d b.deep

    from : first * w ≡ x - room_at l
    from = mul_assoc (x / (2 * room_at l)) (2 * p) w ∙ ap (λ z. x / (2 * room_at l) * z) (mul_assoc 2 p w ∙ ap (λ z. 2 * z) (sym room)) ∙ omega (arith, key_is x l a)

    middle : (first + p) * w ≡ x
    middle = add-mul first p w ∙ omega (arith, from, room, key_is x l a)

    end : (first + p + p) * w ≡ x + room_at l
    end = add-mul (first + p) p w ∙ omega (arith, middle, room)

    other : y ≡ v * w + room_at m
    other = key_is y m b

    go : (v * w + w ≤ first * w) ⊎ (first * w ≤ v * w) → (v * w + w ≤ (first + p) * w) ⊎ ((first + p) * w ≤ v * w) → (v * w + w ≤ (first + p + p) * w) ⊎ ((first + p + p) * w ≤ v * w) → IsInSideOf x l y m
    go (inl e) _ _ = absurd (omega (arith, e, from, other, s, t))
    go (inr e) (inl f) _ = inl (omega (arith, e, from, other), omega (arith, f, middle, other))
    go (inr e) (inr f) (inl g) = inr (omega (arith, f, middle, other), omega (arith, g, end, other))
    go (inr e) (inr f) (inr g) = absurd (omega (arith, g, end, other, s, t))

-- where it is in two spans of one level, they are one
pub same_span : (x y l k : ℕ) → IsForkKey x l → IsForkKey y l → IsInSpan x l k → IsInSpan y l k → x ≡ y
same_span x y l k a b s t = go (steps w u v) (steps w v u)
  where
    w : ℕ
    w = 2 * room_at l

    u : ℕ
    u = x / w

    v : ℕ
    v = y / w

    one : x ≡ u * w + room_at l
    one = key_is x l a

    other : y ≡ v * w + room_at l
    other = key_is y l b

    go : (u * w + w ≤ v * w) ⊎ (v * w ≤ u * w) → (v * w + w ≤ u * w) ⊎ (u * w ≤ v * w) → x ≡ y
    go (inl e) _ = absurd (omega (arith, e, one, other, s, t))
    go (inr e) (inl f) = absurd (omega (arith, f, one, other, s, t))
    go (inr e) (inr f) = omega (arith, e, f, one, other)

-- the span of a fork key below 2 ^ 64 ends there at the latest
pub span_small : (x l : ℕ) → IsForkKey x l → x < 2 ^ 64 → x + room_at l ≤ 2 ^ 64
span_small x l a small = go (steps w (x / w) (2 ^ (l - 2)))
  where
    w : ℕ
    w = 2 * room_at l

    whole : l - 2 + suc (65 - l) ≡ 64
    whole = omega (arith, a.high, a.deep)

    all : 2 ^ (l - 2) * w ≡ 2 ^ 64
    all = ap (λ z. 2 ^ (l - 2) * z) (mul_comm 2 (room_at l) ∙ sym (pow-suc 2 (65 - l))) ∙ sym (pow-add 2 (l - 2) (suc (65 - l))) ∙ ap (λ i. 2 ^ i) whole

    go : (x / w * w + w ≤ 2 ^ (l - 2) * w) ⊎ (2 ^ (l - 2) * w ≤ x / w * w) → x + room_at l ≤ 2 ^ 64
    go (inl e) = omega (arith, e, all, key_is x l a)
    go (inr e) = absurd (omega (arith, e, all, key_is x l a, small))

-- A fork between two keys

-- two keys that are on one side of a fork: the fork between them is on a greater level, and its
-- span in that side
pub parts_left : (x l j k y m : ℕ) → IsForkKey x l → PartsKeys j k y m → x - room_at l ≤ j → k < x → (l < m) × IsSpanIn (x - room_at l) x y m
parts_left x l j k y m a parts from to = go (cases_order l m)
  where
    shared : IsInSpan x l j
    shared = (from, omega (arith, parts.below, parts.above, to))

    below : IsInSideOf x l y m → IsSpanIn (x - room_at l) x y m
    below (inl s) = s
    below (inr s) = absurd (omega (arith, s, parts.first, parts.below, parts.above, to))

    above : ¬ IsInSideOf y m x l
    above (inl s) = omega (arith, s, parts.above, to, pow_pos (65 - l))
    above (inr s) = omega (arith, s, parts.below, from)

    go : (l ≡ m) ⊎ ((l < m) ⊎ (m < l)) → (l < m) × IsSpanIn (x - room_at l) x y m
    go (inl e) = absurd (let q = same_span x y l j a (rw e parts.fork) shared (rw e parts.first) in omega (arith, q, parts.above, to))
    go (inr (inl d)) = (d, below (nested x l y m j a parts.fork d shared parts.first))
    go (inr (inr d)) = absurd (above (nested y m x l j parts.fork a d parts.first shared))

pub parts_right : (x l j k y m : ℕ) → IsForkKey x l → PartsKeys j k y m → x ≤ j → k < x + room_at l → (l < m) × IsSpanIn x (x + room_at l) y m
parts_right x l j k y m a parts from to = go (cases_order l m)
  where
    shared : IsInSpan x l j
    shared = (omega (arith, from), omega (arith, parts.below, parts.above, to))

    below : IsInSideOf x l y m → IsSpanIn x (x + room_at l) y m
    below (inl s) = absurd (omega (arith, s, parts.last, parts.below, parts.above, from))
    below (inr s) = s

    above : ¬ IsInSideOf y m x l
    above (inl s) = omega (arith, s, parts.above, to)
    above (inr s) = omega (arith, s, parts.below, from, pow_pos (65 - l))

    go : (l ≡ m) ⊎ ((l < m) ⊎ (m < l)) → (l < m) × IsSpanIn x (x + room_at l) y m
    go (inl e) = absurd (let q = same_span x y l j a (rw e parts.fork) shared (rw e parts.first) in omega (arith, q, parts.below, from))
    go (inr (inl d)) = (d, below (nested x l y m j a parts.fork d shared parts.first))
    go (inr (inr d)) = absurd (above (nested y m x l j parts.fork a d parts.first shared))

-- A fork above another

-- a key outside of the span of a fork: the fork between it and the other's key is on a lower level,
-- and has the whole span on one side, the key on the other
pub above_left : (x l k y m : ℕ) → IsForkKey x l → ¬ IsInSpan x l k → PartsKeys k x y m → (m < l) × IsSpanIn y (y + room_at m) x l
above_left x l k y m a apart parts = go (cases_order l m)
  where
    own : IsInSpan x l x
    own = (omega arith, omega (arith, pow_pos (65 - l)))

    below : IsInSideOf y m x l → IsSpanIn y (y + room_at m) x l
    below (inl s) = absurd (omega (arith, s, parts.above, pow_pos (65 - l)))
    below (inr s) = s

    above : ¬ IsInSideOf x l y m
    above (inl s) = apart (omega (arith, s, parts.first), omega (arith, parts.below, parts.above, pow_pos (65 - l)))
    above (inr s) = apart (omega (arith, s, parts.first), omega (arith, parts.below, parts.above, pow_pos (65 - l)))

    go : (l ≡ m) ⊎ ((l < m) ⊎ (m < l)) → (m < l) × IsSpanIn y (y + room_at m) x l
    go (inl e) = absurd (let q = same_span x y l x a (rw e parts.fork) own (rw e parts.last) in apart (rw q (rw e parts.first)))
    go (inr (inl d)) = absurd (above (nested x l y m x a parts.fork d own parts.last))
    go (inr (inr d)) = (d, below (nested y m x l x parts.fork a d parts.last own))

pub above_right : (x l k y m : ℕ) → IsForkKey x l → ¬ IsInSpan x l k → PartsKeys x k y m → (m < l) × IsSpanIn (y - room_at m) y x l
above_right x l k y m a apart parts = go (cases_order l m)
  where
    own : IsInSpan x l x
    own = (omega arith, omega (arith, pow_pos (65 - l)))

    below : IsInSideOf y m x l → IsSpanIn (y - room_at m) y x l
    below (inl s) = s
    below (inr s) = absurd (omega (arith, s, parts.below))

    above : ¬ IsInSideOf x l y m
    above (inl s) = omega (arith, s, parts.below)
    above (inr s) = apart (omega (arith, parts.below, parts.above), omega (arith, s, parts.last))

    go : (l ≡ m) ⊎ ((l < m) ⊎ (m < l)) → (m < l) × IsSpanIn (y - room_at m) y x l
    go (inl e) = absurd (let q = same_span x y l x a (rw e parts.fork) own (rw e parts.first) in omega (arith, q, parts.below))
    go (inr (inl d)) = absurd (above (nested x l y m x a parts.fork d own parts.first))
    go (inr (inr d)) = (d, below (nested y m x l x parts.fork a d parts.first own))
