-- How known bytes grow line by line.
use Rattle.std.proofs.Common.{◌≡◌, ℕ, ◌+◌, arith, IfErr, IsErrAnd, IfNone, IfOk, OnErr, OnOk, Result, Ok, Err, List, [], ◌∷◌, ◌++◌, ◌∙◌, ap, append_assoc, append-nil, length, map, subst, sym, take, Option, Some, None, refl}
use Rattle.std.proofs.lemmas.List.{length-append, map-append, take-append-le}
use Rattle.std.proofs.Math.Seq.{take-append-add, take-append_seam}
use Rattle.std.specs.Io.KnownBytes.{Appends}
use Rattle.std.proofs.KnownBytes.{Appends-trans}
use Rattle.texts.specs.Pages.{BeginsWith, line_of, rows_text}
use Rattle.texts.specs.Texts.{IfBad}
use Rattle.texts.specs.declared.fault.TextFault.{TextFault}
use Rattle.texts.specs.declared.fault.TextFault.TheVariants.{NoMemory, Read, Bad}

-- rows after rows
pub rows_after : (width : ℕ) (rows more : List (List (List ℕ))) → rows_text width (rows ++ more) ≡ rows_text width rows ++ rows_text width more
unfolding rows_text
rows_after width [] more = refl
rows_after width (row ∷ rows) more = ap (λ text. line_of width row ++ text) (rows_after width rows more) ∙ sym (append_assoc (line_of width row) (rows_text width rows) (rows_text width more))

-- what a value says, and what follows from that
pub if_ok : {T E : Type 0} {P Q : T → Type 0} (r : Result T E) → ((t : T) → P t → Q t) → IfOk r P → IfOk r Q
if_ok (Ok t) f p = f t p
if_ok (Err e) f p = tt

-- what a fault says, and what follows from that
pub if_err : {T E : Type 0} {P Q : E → Type 0} (r : Result T E) → ((e : E) → P e → Q e) → IfErr r P → IfErr r Q
if_err (Ok t) f p = tt
if_err (Err e) f p = f e p

pub if_bad : {C : Type 0} {P Q : ℕ → C → Type 0} (fault : TextFault C) → ((row : ℕ) (cause : C) → P row cause → Q row cause) → IfBad P fault → IfBad Q fault
if_bad NoMemory f p = tt
if_bad Read f p = tt
if_bad (Bad row cause) f p = f row cause p

-- what is so of a fault is so if that fault is returned
pub of_fault : {T E : Type 0} (r : Result T E) (fault : E) (P : E → Type 0) → IsErrAnd r (λ e. e ≡ fault) → P fault → IfErr r P
of_fault (Ok t) fault P is holds = absurd is
of_fault (Err e) fault P is holds = rw is holds

-- what a reader that finds nothing says, and what follows from that
pub if_none : {T : Type 0} {P Q : Type 0} (r : Option T) → (P → Q) → IfNone r P → IfNone r Q
if_none None f p = f p
if_none (Some t) f p = tt

-- what a writer has while a text goes out piece by piece: what is left makes the text whole
pub record IsSent (old new : Option (List ℕ)) (left whole : List ℕ) : Type 0 where
  pub so_far : List ℕ
  pub sent : Appends old new so_far
  pub whole_is : so_far ++ left ≡ whole

pub none_sent : (old : Option (List ℕ)) (whole : List ℕ) → IsSent old old whole whole
none_sent None whole = record { so_far = []; sent = tt; whole_is = refl }
none_sent (Some known) whole = record { so_far = []; sent = sym (append-nil known); whole_is = refl }

-- a piece goes out
pub piece_sent : (old mid new : Option (List ℕ)) (piece left whole : List ℕ) → IsSent old mid (piece ++ left) whole → Appends mid new piece → IsSent old new left whole
piece_sent old mid new piece left whole x more = record { so_far = x.so_far ++ piece; sent = Appends-trans old mid new x.so_far piece x.sent more; whole_is = append_assoc x.so_far piece left ∙ x.whole_is }

-- all has gone out
pub all_sent : (old new : Option (List ℕ)) (whole : List ℕ) → IsSent old new [] whole → Appends old new whole
all_sent old new whole x = subst (λ text. Appends old new text) (sym (append-nil x.so_far) ∙ x.whole_is) x.sent

-- what has gone out so far is a beginning
pub so_far_sent : (old new : Option (List ℕ)) (left whole : List ℕ) → IsSent old new left whole → BeginsWith old new whole
so_far_sent old new left whole x =
    subst (λ text. BeginsWith old new text) x.whole_is (length x.so_far, rw (length-append x.so_far left) (omega arith), rw (take-append_seam x.so_far left) x.sent)

-- a beginning of a piece goes out
pub part_sent : (old mid new : Option (List ℕ)) (piece left whole : List ℕ) → IsSent old mid (piece ++ left) whole → BeginsWith mid new piece → BeginsWith old new whole
part_sent old mid new piece left whole x (n, bound, sent) =
    subst (λ text. BeginsWith old new text) x.whole_is
    (length x.so_far + n, rw (length-append x.so_far (piece ++ left), length-append piece left) (omega (arith, bound)), rw (take-append-add x.so_far (piece ++ left) n, take-append-le n piece left bound) (Appends-trans old mid new x.so_far (take n piece) x.sent sent))

-- the first piece of what is left goes out
pub next_sent : (old mid new : Option (List ℕ)) (left piece rest whole : List ℕ) → left ≡ piece ++ rest → IsSent old mid left whole → Appends mid new piece → IsSent old new rest whole
next_sent old mid new left piece rest whole is x more = piece_sent old mid new piece rest whole (subst (λ text. IsSent old mid text whole) is x) more

-- a beginning of that piece goes out
pub next_part_sent : (old mid new : Option (List ℕ)) (left piece rest whole : List ℕ) → left ≡ piece ++ rest → IsSent old mid left whole → BeginsWith mid new piece → BeginsWith old new whole
next_part_sent old mid new left piece rest whole is x part = part_sent old mid new piece rest whole (subst (λ text. IsSent old mid text whole) is x) part

-- the rows of some things, and of those after them
pub rows_split : {A : Type 0} (width : ℕ) (row_of : A → List (List ℕ)) (all some more : List A) → all ≡ some ++ more → rows_text width (map row_of all) ≡ rows_text width (map row_of some) ++ rows_text width (map row_of more)
rows_split width row_of all some more e = ap (λ things. rows_text width (map row_of things)) e ∙ ap (λ rows. rows_text width rows) (map-append row_of some more) ∙ rows_after width (map row_of some) (map row_of more)

-- nothing is left of nothing
pub no_rows : {A : Type 0} (width : ℕ) (row_of : A → List (List ℕ)) (things : List A) → length things ≡ 0 → rows_text width (map row_of things) ≡ []
unfolding rows_text
no_rows width row_of [] e = refl
no_rows width row_of (thing ∷ things) e = absurd (omega (arith, e))

-- what does not go by the error
pub on_err : {T E : Type 0} {P : Type 0} (r : Result T E) → P → OnErr r P
on_err (Ok t) p = tt
on_err (Err e) p = p

-- what follows in either case
pub on_err_of : {T E : Type 0} {P Q : Type 0} (r : Result T E) → (P → Q) → OnErr r P → OnErr r Q
on_err_of (Ok t) f p = tt
on_err_of (Err e) f p = f p

pub on_ok_of : {T E : Type 0} {P Q : Type 0} (r : Result T E) → (P → Q) → OnOk r P → OnOk r Q
on_ok_of (Ok t) f p = f p
on_ok_of (Err e) f p = tt

-- what is on a sheet that was cleared before
pub chunk_text : (sent new cleared text : List ℕ) → sent ≡ new → new ≡ cleared ++ text → cleared ≡ [] → sent ≡ text
chunk_text sent new cleared text is put none = is ∙ put ∙ ap (λ t. t ++ text) none

-- the rows of some things and of one more
pub rows_more : {A : Type 0} (width : ℕ) (row_of : A → List (List ℕ)) (things : List A) (thing : A) → rows_text width (map row_of (things ++ thing ∷ [])) ≡ rows_text width (map row_of things) ++ line_of width (row_of thing)
unfolding rows_text
rows_more width row_of things thing =
    rows_split width row_of (things ++ thing ∷ []) things (thing ∷ []) refl ∙ ap (λ text. rows_text width (map row_of things) ++ text) (append-nil (line_of width (row_of thing)))

-- one row, and two
pub one_row : (width : ℕ) (row : List (List ℕ)) → rows_text width (row ∷ []) ≡ line_of width row
unfolding rows_text
one_row width row = append-nil (line_of width row)

pub two_rows : (width : ℕ) (row next : List (List ℕ)) → rows_text width (row ∷ next ∷ []) ≡ line_of width row ++ line_of width next
unfolding rows_text
two_rows width row next = ap (λ text. line_of width row ++ text) (append-nil (line_of width next))

-- a text after another that is after the start
pub text_behind : (start text more mid new : List ℕ) → new ≡ mid ++ more → mid ≡ start ++ text → new ≡ start ++ (text ++ more)
text_behind start text more mid new put before = put ∙ ap (λ t. t ++ more) before ∙ append_assoc start text more
