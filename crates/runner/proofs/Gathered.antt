-- What the threads of a run give back, one after the other.
use Rattle.std.proofs.Common.{◌≡◌, ◌∙◌, ℕ, zero, suc, ◌<◌, List, [], ◌∷◌, ◌++◌, length, slice_get, Some, None, arith, map, refl, sym, ap, subst, append_assoc, append-nil, Vec, Global}
use Rattle.std.specs.List.{All}
use Rattle.std.proofs.lemmas.List.Elements.{All-nil, All-cons, All-head, All-tail}
use Rattle.record.specs.Common.{Reply, Call}
use Rattle.tables.specs.Passes.{Ground, PassView, IsOf, AreNew, AreAllBack, HasPass, new_pass}
use Rattle.runner.specs.Calls.{HasWorked, HaveWorked}

-- values that there are
pub none_some : {A : Type 0} (x : A) → None ≡ Some x → ⊥
none_some x e = cc

pub some_same : {A : Type 0} (x y : A) → Some x ≡ Some y → x ≡ y
some_same x y e = cc

-- one more has worked
pub worked_more : (f : Ground) (calls : List Call) (olds news : List PassView) (owns : List (Vec (Reply ℕ ℕ) Global)) (old new : PassView) (own : Vec (Reply ℕ ℕ) Global) → HaveWorked f calls olds news owns → HasWorked f calls old new own.items → HaveWorked f calls (olds ++ old ∷ []) (news ++ new ∷ []) (owns ++ own ∷ [])
worked_more f calls [] [] [] old new own h w = (w, tt)
worked_more f calls (o ∷ olds) (n ∷ news) (r ∷ owns) old new own h w = (h.0, worked_more f calls olds news owns old new own h.1 w)
worked_more f calls [] (n ∷ news) owns old new own h w = absurd h
worked_more f calls [] [] (r ∷ owns) old new own h w = absurd h
worked_more f calls (o ∷ olds) [] owns old new own h w = absurd h
worked_more f calls (o ∷ olds) (n ∷ news) [] old new own h w = absurd h

-- as many have worked as there were
pub worked_count : (f : Ground) (calls : List Call) (olds news : List PassView) (owns : List (Vec (Reply ℕ ℕ) Global)) → HaveWorked f calls olds news owns → length owns ≡ length olds
worked_count f calls [] [] [] h = refl
worked_count f calls (o ∷ olds) (n ∷ news) (r ∷ owns) h = ap suc (worked_count f calls olds news owns h.1)
worked_count f calls [] (n ∷ news) owns h = absurd h
worked_count f calls [] [] (r ∷ owns) h = absurd h
worked_count f calls (o ∷ olds) [] owns h = absurd h
worked_count f calls (o ∷ olds) (n ∷ news) [] h = absurd h

-- their passes are of the forest
pub worked_of : (f : Ground) (calls : List Call) (olds news : List PassView) (owns : List (Vec (Reply ℕ ℕ) Global)) → HaveWorked f calls olds news owns → All (IsOf f) news
worked_of f calls [] [] [] h = All-nil (IsOf f)
worked_of f calls (o ∷ olds) (n ∷ news) (r ∷ owns) h = All-cons (IsOf f) n news h.0.of_forest (worked_of f calls olds news owns h.1)
worked_of f calls [] (n ∷ news) owns h = absurd h
worked_of f calls [] [] (r ∷ owns) h = absurd h
worked_of f calls (o ∷ olds) [] owns h = absurd h
worked_of f calls (o ∷ olds) (n ∷ news) [] h = absurd h

-- what is of the forest at each place is so at all
all_of : (f : Ground) (ps : List PassView) → ((j : ℕ) (d : PassView) → slice_get ps j ≡ Some d → IsOf f d) → All (IsOf f) ps
all_of f [] each = All-nil (IsOf f)
all_of f (p ∷ ps) each = All-cons (IsOf f) p ps (each 0 p refl) (all_of f ps (λ j d is. each (suc j) d is))

-- new passes are of the forest
pub are_of : (f : Ground) (ps : List PassView) → AreNew f ps → All (IsOf f) ps
are_of f ps new = all_of f ps (λ j d is. subst (IsOf f) (sym (new.each j d is)) (refl, refl))

-- what is at a place
pub record WorkedAt (f : Ground) (calls : List Call) (olds news : List PassView) (c : ℕ) (own : List (Reply ℕ ℕ)) : Type 0 where
  pub old : PassView
  pub new : PassView
  pub was : slice_get olds c ≡ Some old
  pub is : slice_get news c ≡ Some new
  pub worked : HasWorked f calls old new own

pub worked_at : (f : Ground) (calls : List Call) (olds news : List PassView) (owns : List (Vec (Reply ℕ ℕ) Global)) → HaveWorked f calls olds news owns → (c : ℕ) (own : Vec (Reply ℕ ℕ) Global) → slice_get owns c ≡ Some own → WorkedAt f calls olds news c own.items
worked_at f calls [] [] [] h c own e = absurd (none_some own e)
worked_at f calls (o ∷ olds) (n ∷ news) (r ∷ owns) h zero own e = record { old = o; new = n; was = refl; is = refl; worked = subst (λ (v : Vec (Reply ℕ ℕ) Global). HasWorked f calls o n v.items) (some_same r own e) h.0 }
worked_at f calls (o ∷ olds) (n ∷ news) (r ∷ owns) h (suc c) own e = let w = worked_at f calls olds news owns h.1 c own e in record { old = w.old; new = w.new; was = w.was; is = w.is; worked = w.worked }
worked_at f calls [] (n ∷ news) owns h c own e = absurd h
worked_at f calls [] [] (r ∷ owns) h c own e = absurd h
worked_at f calls (o ∷ olds) [] owns h c own e = absurd h
worked_at f calls (o ∷ olds) (n ∷ news) [] h c own e = absurd h

-- a pass that is somewhere is there
has_at : (ps : List PassView) (c : ℕ) (p : PassView) → slice_get ps c ≡ Some p → HasPass ps p.number
has_at [] c p e = absurd (none_some p e)
has_at (q ∷ ps) zero p e = (0, omega arith, ap (λ (x : PassView). x.number) (some_same q p e))
has_at (q ∷ ps) (suc c) p e = let r = has_at ps c p e in let less = r.1 in (suc r.0, omega (arith, less), r.2)

-- all are back
pub worked_back : (f : Ground) (calls : List Call) (olds news : List PassView) (owns : List (Vec (Reply ℕ ℕ) Global)) → AreNew f olds → HaveWorked f calls olds news owns → AreAllBack f.layout news
worked_back f calls olds news owns new h n less =
    let count = worked_count f calls olds news owns h in
    let inside : n < length owns = let k = new.count in omega (arith, count, k, less) in
    let own = some_at owns n inside in
    let w = worked_at f calls olds news owns h n own.0 own.1 in
    let old : w.old ≡ new_pass f n = new.each n w.old w.was in
    subst (HasPass news) (w.worked.number ∙ ap (λ (p : PassView). p.number) old) (has_at news n w.new w.is)
  where
    some_at : (xs : List (Vec (Reply ℕ ℕ) Global)) (i : ℕ) → i < length xs → (x : Vec (Reply ℕ ℕ) Global) × (slice_get xs i ≡ Some x)
    some_at [] i less = absurd (omega (arith, less))
    some_at (x ∷ xs) zero less = (x, refl)
    some_at (x ∷ xs) (suc i) less = some_at xs i (omega (arith, less))

-- Threads, one after the other

-- what is left of a list after its first
module _ {T : Type 0} (rest more : List T) (t : T) (step : rest ≡ t ∷ more) where
  pub first_too : (D : T → Type 0) → All D rest → D t
  first_too D a = All-head D t more (subst (All D) step a)

  pub rest_too : (D : T → Type 0) → All D rest → All D more
  rest_too D a = All-tail D t more (subst (All D) step a)

  -- one thread more is joined
  pub joined : (pass : T → PassView) (done xs : List PassView) → done ++ map pass rest ≡ xs → (done ++ pass t ∷ []) ++ map pass more ≡ xs
  joined pass done xs h = append_assoc done (pass t ∷ []) (map pass more) ∙ sym (ap (λ r. done ++ map pass r) step) ∙ h

-- all are joined
pub all_joined : {T : Type 0} (rest : List T) → length rest ≡ 0 → (pass : T → PassView) (done xs : List PassView) → done ++ map pass rest ≡ xs → done ≡ xs
all_joined [] step pass done xs h = sym (append-nil done) ∙ h
all_joined (t ∷ rest) step pass done xs h = absurd (omega (arith, step))

map_more : {T : Type 0} (pass : T → PassView) (ts : List T) (t : T) → map pass (ts ++ t ∷ []) ≡ map pass ts ++ pass t ∷ []
map_more pass [] t = refl
map_more pass (x ∷ ts) t = ap (λ ps. pass x ∷ ps) (map_more pass ts t)

-- one thread more is started
pub started : {T : Type 0} (threads grown : List T) (t : T) (pass : T → PassView) (p : PassView) (rest more xs : List PassView) → grown ≡ threads ++ t ∷ [] → pass t ≡ p → rest ≡ p ∷ more → map pass threads ++ rest ≡ xs → map pass grown ++ more ≡ xs
started threads grown t pass p rest more xs items is step h =
    ap (λ ts. map pass ts ++ more) items
    ∙ ap (λ ps. ps ++ more) (map_more pass threads t)
    ∙ append_assoc (map pass threads) (pass t ∷ []) more
    ∙ ap (λ q. map pass threads ++ q ∷ more) is
    ∙ sym (ap (λ r. map pass threads ++ r) step)
    ∙ h
