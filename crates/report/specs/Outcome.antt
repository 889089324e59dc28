-- The text of the outcome of a run with threads: a row that names the format, one that says whether
-- the gate was met, the replies by client and call, the pairs by key, and a row that counts both.
use Rattle.std.specs.Prelude.{ℕ, suc, ◌+◌, ◌-◌, ◌^◌, Bool, true, false, List, [], ◌∷◌, ◌++◌, Vec, codes, decimal, length, map, min}
use Rattle.std.specs.Global.{Global}
use Rattle.ordered_map.specs.declared.reply.Reply.{Reply}
use Rattle.report.specs.Answers.{reply_text}
use Rattle.texts.specs.Pages.{rows_text}

-- the first row: the format's version
abbrev pub outcome_title_row : List (List ℕ)
outcome_title_row = codes "outcome" ∷ decimal 1 ∷ []

-- whether the gate was met
abbrev pub gate_text : Bool → List ℕ
gate_text true = codes "missed"
gate_text false = codes "met"

-- the row that says so
abbrev pub gate_row : Bool → List (List ℕ)
gate_row missed = codes "gate" ∷ gate_text missed ∷ []

-- the row of a client's reply to its call of this number
abbrev pub reply_row : ℕ → ℕ → Reply ℕ ℕ → List (List ℕ)
reply_row client call reply = codes "reply" ∷ decimal client ∷ decimal call ∷ reply_text reply ∷ []

-- the rows of a client's replies, from its call of this number on
unfoldable pub reply_rows : ℕ → ℕ → List (Reply ℕ ℕ) → List (List (List ℕ))
reply_rows client call [] = []
reply_rows client call (reply ∷ replies) = reply_row client call reply ∷ reply_rows client (suc call) replies

-- the rows of the replies of all clients, from the client of this number on
unfoldable pub client_rows : ℕ → List (Vec (Reply ℕ ℕ) Global) → List (List (List ℕ))
client_rows client [] = []
client_rows client (own ∷ others) = reply_rows client 0 own.items ++ client_rows (suc client) others

-- the row of a pair
abbrev pub pair_row : ℕ × ℕ → List (List ℕ)
pair_row pair = codes "pair" ∷ decimal pair.0 ∷ decimal pair.1 ∷ []

-- how many replies all clients have
unfoldable pub replies_of_all : List (Vec (Reply ℕ ℕ) Global) → ℕ
replies_of_all [] = 0
replies_of_all (own ∷ others) = length own.items + replies_of_all others

-- the same as the last row says it: of more than a number of 64 bits counts, the greatest of these
abbrev pub replies_counted : List (Vec (Reply ℕ ℕ) Global) → ℕ
replies_counted replies = min (replies_of_all replies) (2 ^ 64 - 1)

-- the row that counts replies and pairs
abbrev pub outcome_end_row : ℕ → ℕ → List (List ℕ)
outcome_end_row replies pairs = codes "end" ∷ decimal replies ∷ decimal pairs ∷ []

-- all rows of an outcome, in order
abbrev pub outcome_rows : Bool → List (Vec (Reply ℕ ℕ) Global) → List (ℕ × ℕ) → List (List (List ℕ))
outcome_rows missed replies pairs = outcome_title_row ∷ gate_row missed ∷ (client_rows 0 replies ++ (map pair_row pairs ++ outcome_end_row (replies_counted replies) (length pairs) ∷ []))

-- the text of an outcome: its rows, one a line, four fields each
abbrev pub outcome_text : Bool → List (Vec (Reply ℕ ℕ) Global) → List (ℕ × ℕ) → List ℕ
outcome_text missed replies pairs = rows_text 4 (outcome_rows missed replies pairs)
