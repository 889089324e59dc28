-- How a streamed report grows, turn by turn.
use Rattle.std.proofs.Common.{◌≡◌, ◌+◌, ◌-◌, ◌^◌, ◌<◌, ◌≤◌, ◌⊎◌, ◌∙◌, inl, inr, ℕ, Bool, true, false, IsTrue, OnOk, Result, List, [], ◌∷◌, ◌++◌, Option, Some, None, ap, append_assoc, append-nil, arith, map, refl, reverse, subst, sym, min}
use Rattle.std.proofs.lemmas.List.{map-append, reverse-append, reverse-reverse}
use Rattle.std.specs.Io.KnownBytes.{Appends, Keeps}
use Rattle.texts.specs.Pages.{BeginsWith, rows_text}
use Rattle.record.specs.Common.{limits_row, Script, turns}
use Rattle.record.specs.declared.record.Entry.{Entry}
use Rattle.record.specs.declared.record.Finished.{Finished}
use Rattle.record.specs.declared.record.Line.{Line}
use Rattle.record.specs.declared.record.Line.TheVariants.{Step, Log, Reply}
use Rattle.record.specs.declared.record.TurnRow.{TurnRow}
use Rattle.player.specs.Core.{IsNextTurn, StandsAt, with_lines}
use Rattle.player.specs.Lines.{turn_lines}
use Rattle.player.specs.Player.{PlayerView, ScriptView, script_view}
use Rattle.player.specs.declared.interleaving.Interleaving.{Interleaving}
use Rattle.player.proofs.Lemmas.{stands_played}
use Rattle.report.specs.Report.{call_rows, counts_row, entries_in, line_row, replies_in, report_end_row, report_text, steps_in, title_row}
use Rattle.report.specs.Streams.{AreTotals, HasWritten, HasWrittenTurn, IsCutAt, text_so_far}
use Rattle.report.specs.declared.stream.Stream.{Stream}
use Rattle.report.specs.declared.stream.StreamFault.{StreamFault}
use Rattle.report.specs.declared.totals.Totals.{Totals}
use Rattle.report.proofs.Texts.{IsSent, all_sent, none_sent, on_err, part_sent, piece_sent, rows_after, so_far_sent}

-- Lines

-- the lines of one turn more come after the others
pub lines_more : (p : PlayerView) (more : List Line) → reverse (with_lines p more).lines ≡ reverse p.lines ++ more
lines_more p more = reverse-append (reverse more) p.lines ∙ ap (λ (l : List Line). reverse p.lines ++ l) (reverse-reverse more)

-- so do their rows
pub text_more : (p : PlayerView) (more : List Line) → text_so_far p ++ rows_text 7 (map line_row more) ≡ text_so_far (with_lines p more)
text_more p more =
    sym (rows_after 7 (title_row p.script.layout.mode ∷ limits_row p.script.limits ∷ (call_rows [] p.script.calls ++ map line_row (reverse p.lines))) (map line_row more))
    ∙ ap (λ (rows : List (List (List ℕ))). rows_text 7 (title_row p.script.layout.mode ∷ limits_row p.script.limits ∷ rows))
    (append_assoc (call_rows [] p.script.calls) (map line_row (reverse p.lines)) (map line_row more)
    ∙ ap (λ (rows : List (List (List ℕ))). call_rows [] p.script.calls ++ rows)
    (sym (map-append line_row (reverse p.lines) more) ∙ ap (λ (l : List Line). map line_row l) (sym (lines_more p more))))

-- before the first turn there are the rows of the head and of the calls
pub text_at_first : (s : ScriptView) → rows_text 7 (title_row s.layout.mode ∷ limits_row s.limits ∷ []) ++ rows_text 7 (call_rows [] s.calls) ≡ text_so_far record { script = s; lines = [] }
text_at_first s =
    sym (rows_after 7 (title_row s.layout.mode ∷ limits_row s.limits ∷ []) (call_rows [] s.calls))
    ∙ ap (λ (rows : List (List (List ℕ))). rows_text 7 (title_row s.layout.mode ∷ limits_row s.limits ∷ rows)) (sym (append-nil (call_rows [] s.calls)))

-- with the last row the report is whole
whole_of : ScriptView → List Line → List ℕ
whole_of s lines = rows_text 7 (title_row s.layout.mode ∷ limits_row s.limits ∷ (call_rows [] s.calls ++ (map line_row lines ++ report_end_row lines ∷ [])))

pub text_whole : (p : PlayerView) (script : Script) → script_view script ≡ p.script → text_so_far p ++ rows_text 7 (report_end_row (reverse p.lines) ∷ []) ≡ report_text script (reverse p.lines)
unfolding whole_of
text_whole p script same =
    let lines = reverse p.lines in
    sym (rows_after 7 (title_row p.script.layout.mode ∷ limits_row p.script.limits ∷ (call_rows [] p.script.calls ++ map line_row lines)) (report_end_row lines ∷ []))
    ∙ ap (λ (rows : List (List (List ℕ))). rows_text 7 (title_row p.script.layout.mode ∷ limits_row p.script.limits ∷ rows)) (append_assoc (call_rows [] p.script.calls) (map line_row lines) (report_end_row lines ∷ []))
    ∙ ap (λ (s : ScriptView). whole_of s lines) (sym same)

-- Counts

pub steps_after : (xs ys : List Line) → steps_in (xs ++ ys) ≡ steps_in xs + steps_in ys
steps_after [] ys = omega arith
steps_after (Step row ∷ xs) ys = let rest = steps_after xs ys in omega (arith, rest)
steps_after (Log entry ∷ xs) ys = steps_after xs ys
steps_after (Reply reply ∷ xs) ys = steps_after xs ys

pub replies_after : (xs ys : List Line) → replies_in (xs ++ ys) ≡ replies_in xs + replies_in ys
replies_after [] ys = omega arith
replies_after (Step row ∷ xs) ys = replies_after xs ys
replies_after (Log entry ∷ xs) ys = replies_after xs ys
replies_after (Reply reply ∷ xs) ys = let rest = replies_after xs ys in omega (arith, rest)

pub entries_after : (xs ys : List Line) → entries_in (xs ++ ys) ≡ entries_in xs + entries_in ys
entries_after [] ys = omega arith
entries_after (Step row ∷ xs) ys = entries_after xs ys
entries_after (Log entry ∷ xs) ys = let rest = entries_after xs ys in omega (arith, rest)
entries_after (Reply reply ∷ xs) ys = entries_after xs ys

-- the lines of a turn are of one, with a reply and an entry at most
of_turn : (row : TurnRow) (entry : Option Entry) (reply : Option Finished) → let more = turn_lines row entry reply in (steps_in more ≡ 1) × (replies_in more ≤ 1) × (entries_in more ≤ 1)
of_turn row None None = (refl, omega arith, omega arith)
of_turn row None (Some reply) = (refl, omega arith, omega arith)
of_turn row (Some entry) None = (refl, omega arith, omega arith)
of_turn row (Some entry) (Some reply) = (refl, omega arith, omega arith)

-- whichever their order, their number is the same
one_more : (line : Line) (lines : List Line) → steps_in (reverse lines) ≡ turns lines → steps_in (reverse lines) + steps_in (line ∷ []) ≡ turns (line ∷ lines)
one_more (Step row) lines so_far = omega (arith, so_far)
one_more (Log entry) lines so_far = omega (arith, so_far)
one_more (Reply reply) lines so_far = omega (arith, so_far)

steps_are : (lines : List Line) → steps_in (reverse lines) ≡ turns lines
steps_are [] = refl
steps_are (line ∷ lines) = ap (λ (l : List Line). steps_in l) (reverse-append (line ∷ []) lines) ∙ steps_after (reverse lines) (line ∷ []) ∙ one_more line lines (steps_are lines)

-- the counts with one turn more, of fewer than can be counted
pub totals_more : (old new : Totals) (p : PlayerView) (i : ℕ) (more : List Line) → AreTotals old (reverse p.lines) → IsNextTurn p i more → turns p.lines < 2 ^ 64 - 1 → new.steps ≡ min (old.steps + steps_in more) (2 ^ 64 - 1) → new.replies ≡ min (old.replies + replies_in more) (2 ^ 64 - 1) → new.entries ≡ min (old.entries + entries_in more) (2 ^ 64 - 1) → AreTotals new (reverse (with_lines p more).lines)
totals_more old new p i more x t few steps replies entries =
    let lines = reverse p.lines in
    let one : (steps_in more ≡ 1) × (replies_in more ≤ 1) × (entries_in more ≤ 1) = rw t.lines (of_turn t.row t.entry t.reply) in
    let s1 = one.0 in
    let r1 = one.1 in
    let e1 = one.2 in
    let s = steps_after lines more in
    let r = replies_after lines more in
    let e = entries_after lines more in
    let made = steps_are p.lines in
    let xs = x.steps in
    let xr = x.replies in
    let xe = x.entries in
    let fr = x.few_replies in
    let fe = x.few_entries in
    rw (lines_more p more) (record {
      steps = steps ∙ rw s (omega (arith, xs, s1, made, few));
      replies = replies ∙ rw r (omega (arith, xr, r1, fr, made, few));
      entries = entries ∙ rw e (omega (arith, xe, e1, fe, made, few));
      few_replies = rw (r, s) (omega (arith, fr, r1, s1));
      few_entries = rw (e, s) (omega (arith, fe, e1, s1));
    })

-- none before the first turn
pub no_totals : AreTotals (record { steps = 0; replies = 0; entries = 0 }) []
no_totals = record { steps = refl; replies = refl; entries = refl; few_replies = omega arith; few_entries = omega arith }

-- Bytes

-- bytes that come after others, and are then kept
pub then_kept : (old mid new : Option (List ℕ)) (text : List ℕ) → Appends old mid text → Keeps mid new → Appends old new text
then_kept None mid new text a k = tt
then_kept (Some known) None new text a k = absurd a
then_kept (Some known) (Some more) None text a k = absurd k
then_kept (Some known) (Some more) (Some all) text a k = k ∙ a

-- all of a text is a beginning of it
pub all_begins : (old new : Option (List ℕ)) (text : List ℕ) → Appends old new text → BeginsWith old new text
all_begins old new text x = so_far_sent old new [] text record { so_far = text; sent = x; whole_is = append-nil text }

module _ (first second whole : List ℕ) (is : first ++ second ≡ whole) where
  -- a first part has gone out
  first_out : (old mid : Option (List ℕ)) → Appends old mid first → IsSent old mid (second ++ []) whole
  first_out old mid x = record { so_far = first; sent = x; whole_is = ap (λ (text : List ℕ). first ++ text) (append-nil second) ∙ is }

  -- a beginning of it
  pub part_of_first : (old new : Option (List ℕ)) → BeginsWith old new first → BeginsWith old new whole
  part_of_first old new x = part_sent old old new first second whole (subst (λ (text : List ℕ). IsSent old old text whole) (sym is) (none_sent old whole)) x

  -- the first part alone
  pub first_of_both : (old new : Option (List ℕ)) → Appends old new first → BeginsWith old new whole
  first_of_both old new x = so_far_sent old new (second ++ []) whole (first_out old new x)

  -- and a beginning of the second
  pub part_of_second : (old mid new : Option (List ℕ)) → Appends old mid first → BeginsWith mid new second → BeginsWith old new whole
  part_of_second old mid new x y = part_sent old mid new second [] whole (first_out old mid x) y

  -- and all of the second
  pub both_out : (old mid new : Option (List ℕ)) → Appends old mid first → Appends mid new second → Appends old new whole
  both_out old mid new x y = all_sent old new whole (piece_sent old mid new second [] whole (first_out old mid x) y)

-- the row of counts that are those of the lines
pub end_row : (totals : Totals) (lines : List Line) → AreTotals totals lines → rows_text 7 (counts_row totals.steps totals.replies totals.entries ∷ []) ≡ rows_text 7 (report_end_row lines ∷ [])
end_row totals lines x = rw (x.steps, x.replies, x.entries) refl

-- a turn was made, and a fault in its lines has ended the stream
pub cut_off : {T unwritten : Type 0} (stream : Stream) (core : Interleaving) (old new : Option (List ℕ)) (p : PlayerView) (i : ℕ) (more : List Line) (r : Result T StreamFault) → stream.ended ≡ true → OnOk r (HasWritten stream old new (with_lines p stream.lines.items)) → IsNextTurn p i more → StandsAt core (with_lines p more) → BeginsWith old new (text_so_far (with_lines p more)) → HasWrittenTurn stream old new p i unwritten r
cut_off stream core old new p i more r ended written turn stands text = record {
  written = written;
  refused = on_err r (λ on. absurd cc);
  cut = on_err r (λ ended. record { more = more; turn = turn; played = stands_played core _ stands; text = text });
}

-- a turn that was not written was stopped before its lines, if the stream continues, or in these
pub stopped_in : (next : Stream) (old new : Option (List ℕ)) (p : PlayerView) (i : ℕ) → (next.ended ≡ false → HasWritten next old new p) → (IsTrue next.ended → IsCutAt old new p i) → BeginsWith old new (text_so_far p) ⊎ ((i : ℕ) × IsCutAt old new p i)
stopped_in next old new p i unchanged cut = go next.ended refl
  where
    go : (ended : Bool) → next.ended ≡ ended → BeginsWith old new (text_so_far p) ⊎ ((i : ℕ) × IsCutAt old new p i)
    go false e = inl (all_begins old new (text_so_far p) (unchanged e).text)
    go true e = inr (i, cut e)
