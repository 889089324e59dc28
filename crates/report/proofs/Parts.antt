-- The four parts of a text, as they are written one after another.
use Rattle.std.proofs.Common.{◌≡◌, List, [], ◌∷◌, ◌++◌, ◌∙◌, ℕ, Bool, Option, Vec, ap, append-nil, length, map, subst, sym, Global}
use Rattle.std.specs.Io.KnownBytes.{Appends}
use Rattle.record.specs.Common.{Reply, Script, limits_row}
use Rattle.record.specs.declared.record.Line.{Line}
use Rattle.report.specs.Outcome.{client_rows, gate_row, outcome_end_row, outcome_text, outcome_title_row, pair_row, replies_counted}
use Rattle.report.specs.Report.{call_rows, report_end_row, line_row, report_text, title_row}
use Rattle.texts.specs.Pages.{BeginsWith, rows_text}
use Rattle.report.proofs.Texts.{IsSent, all_sent, none_sent, part_sent, piece_sent, rows_after}

-- the rows of a text in four parts
pub parts_of : (width : ℕ) (head first second end : List (List (List ℕ))) → rows_text width head ++ (rows_text width first ++ (rows_text width second ++ rows_text width end)) ≡ rows_text width (head ++ (first ++ (second ++ end)))
parts_of width head first second end =
    sym
    (rows_after width head (first ++ (second ++ end))
    ∙ ap (λ text. rows_text width head ++ text) (rows_after width first (second ++ end)
    ∙ ap (λ text. rows_text width first ++ text) (rows_after width second end)))

-- a text in four parts
pub record InParts : Type 0 where
  pub head : List ℕ
  pub first : List ℕ
  pub second : List ℕ
  pub end : List ℕ
  pub whole : List ℕ
  pub is : head ++ (first ++ (second ++ end)) ≡ whole

-- a report
abbrev pub report_in_parts : Script → List Line → InParts
report_in_parts script lines = record {
  head = rows_text 7 (title_row script.layout.mode ∷ limits_row script.limits ∷ []);
  first = rows_text 7 (call_rows [] script.calls.items);
  second = rows_text 7 (map line_row lines);
  end = rows_text 7 (report_end_row lines ∷ []);
  whole = report_text script lines;
  is = parts_of 7 (title_row script.layout.mode ∷ limits_row script.limits ∷ []) (call_rows [] script.calls.items) (map line_row lines) (report_end_row lines ∷ []);
}

-- an outcome
abbrev pub outcome_in_parts : Bool → List (Vec (Reply ℕ ℕ) Global) → List (ℕ × ℕ) → InParts
outcome_in_parts missed replies pairs = record {
  head = rows_text 4 (outcome_title_row ∷ gate_row missed ∷ []);
  first = rows_text 4 (client_rows 0 replies);
  second = rows_text 4 (map pair_row pairs);
  end = rows_text 4 (outcome_end_row (replies_counted replies) (length pairs) ∷ []);
  whole = outcome_text missed replies pairs;
  is = parts_of 4 (outcome_title_row ∷ gate_row missed ∷ []) (client_rows 0 replies) (map pair_row pairs) (outcome_end_row (replies_counted replies) (length pairs) ∷ []);
}

module _ (t : InParts) where
  pub part_of_head : (old new : Option (List ℕ)) → BeginsWith old new t.head → BeginsWith old new t.whole
  part_of_head old new x = part_sent old old new t.head (t.first ++ (t.second ++ t.end)) t.whole (subst (λ text. IsSent old old text t.whole) (sym t.is) (none_sent old t.whole)) x

  head_sent : (old new : Option (List ℕ)) → Appends old new t.head → IsSent old new (t.first ++ (t.second ++ t.end)) t.whole
  head_sent old new x = record { so_far = t.head; sent = x; whole_is = t.is }

  pub part_of_first : (old mid new : Option (List ℕ)) → Appends old mid t.head → BeginsWith mid new t.first → BeginsWith old new t.whole
  part_of_first old mid new x part = part_sent old mid new t.first (t.second ++ t.end) t.whole (head_sent old mid x) part

  first_sent : (old mid new : Option (List ℕ)) → Appends old mid t.head → Appends mid new t.first → IsSent old new (t.second ++ t.end) t.whole
  first_sent old mid new x y = piece_sent old mid new t.first (t.second ++ t.end) t.whole (head_sent old mid x) y

  pub part_of_second : (old one two new : Option (List ℕ)) → Appends old one t.head → Appends one two t.first → BeginsWith two new t.second → BeginsWith old new t.whole
  part_of_second old one two new x y part = part_sent old two new t.second t.end t.whole (first_sent old one two x y) part

  pub second_sent : (old one two new : Option (List ℕ)) → Appends old one t.head → Appends one two t.first → Appends two new t.second → IsSent old new t.end t.whole
  second_sent old one two new x y z = piece_sent old two new t.second t.end t.whole (first_sent old one two x y) z

  pub part_of_end : (old mid new : Option (List ℕ)) → IsSent old mid t.end t.whole → BeginsWith mid new t.end → BeginsWith old new t.whole
  part_of_end old mid new x y = part_sent old mid new t.end [] t.whole (subst (λ text. IsSent old mid text t.whole) (sym (append-nil t.end)) x) y

  -- the last part
  pub end_sent : (old mid new : Option (List ℕ)) → IsSent old mid t.end t.whole → Appends mid new t.end → Appends old new t.whole
  end_sent old mid new x y = all_sent old new t.whole (piece_sent old mid new t.end [] t.whole (subst (λ text. IsSent old mid text t.whole) (sym (append-nil t.end)) x) y)
