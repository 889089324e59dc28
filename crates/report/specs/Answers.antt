-- Answers as text, and in which form a text is an answer to which command.
use Rattle.std.specs.Prelude.{◌≡◌, ⊤, ℕ, ◌<◌, List, [], ◌∷◌, ◌++◌, Option, Some, None, codes, decimal, slice_get}
use denote.Ref.{Bor}
use Rattle.arena.specs.declared.fault.Resource.{Resource}
use Rattle.arena.specs.declared.fault.Resource.TheVariants.{Nodes, Scx}
use Rattle.record.specs.Common.{Reply, Value, Pairs, Contended, NoMemory, Full as FullShare, Request, Successor, Predecessor, PopFirst, Call, Command, Map as MapCommand, commands}
use Rattle.ordered_map.specs.declared.reply.Reply.TheVariants.{Pair}
use Rattle.ordered_map.specs.declared.request.Request.TheVariants.{PopLast}
use Rattle.record.specs.declared.record.Answer.{Answer}
use Rattle.record.specs.declared.record.Answer.TheVariants.{Snapshot, Finalized, Fail, Done, Lost, Same, Changed, Unlinked, Full, Map}
use Rattle.record.specs.declared.record.Line.{Line}
use Rattle.record.specs.declared.record.Line.TheVariants.{Step, Log, Reply as ReplyLine}

-- keys and values, each after a space
unfoldable pub spaced_pairs : List (ℕ × ℕ) → List ℕ
spaced_pairs [] = []
spaced_pairs (p ∷ ps) = codes " " ++ (decimal p.0 ++ (codes " " ++ (decimal p.1 ++ spaced_pairs ps)))

-- two numbers, parted by a space
abbrev pub both_text : ℕ → ℕ → List ℕ
both_text first second = decimal first ++ (codes " " ++ decimal second)

-- a node, and the SCX-record that was in the way there
abbrev pub blame_text : ℕ → ℕ → List ℕ
blame_text node scx = codes "n" ++ (decimal node ++ (codes " s" ++ decimal scx))

-- what is after a space, if anything is
abbrev pub rest_text : Option (Bor (List ℕ)) → List ℕ
rest_text None = []
rest_text (Some text) = codes " " ++ text.now

-- how much is left of what a share has run out of
abbrev pub full_text : Resource → ℕ → List ℕ
full_text Nodes left = codes "full nodes " ++ decimal left
full_text Scx left = codes "full scx " ++ decimal left

-- what a call of the map replies, in words parted by one space
abbrev pub reply_text : Reply ℕ ℕ → List ℕ
reply_text (Value (Some value)) = codes "some " ++ decimal value
reply_text (Value None) = codes "none"
reply_text (Pair (Some p)) = codes "pair " ++ (decimal p.0 ++ (codes " " ++ decimal p.1))
reply_text (Pair None) = codes "none"
reply_text (Pairs ps) = codes "pairs" ++ spaced_pairs ps.items
reply_text (Contended node scx) = codes "contended n" ++ (decimal node.0 ++ (codes " s" ++ decimal scx.0))
reply_text (FullShare full) = full_text full.what full.left
reply_text NoMemory = codes "no memory"

-- what an answer says, in words parted by one space
abbrev pub answer_text : Answer → List ℕ
answer_text (Snapshot left right) = codes "snap " ++ (decimal left.0 ++ (codes " " ++ decimal right.0))
answer_text Finalized = codes "finalized"
answer_text (Fail node scx) = codes "fail n" ++ (decimal node.0 ++ (codes " s" ++ decimal scx.0))
answer_text Done = codes "done"
answer_text (Lost node scx) = codes "lost n" ++ (decimal node.0 ++ (codes " s" ++ decimal scx.0))
answer_text Same = codes "same"
answer_text (Changed node scx) = codes "changed n" ++ (decimal node.0 ++ (codes " s" ++ decimal scx.0))
answer_text (Unlinked node) = codes "unlinked n" ++ decimal node.0
answer_text (Full what left) = full_text what left
answer_text (Map reply) = reply_text reply

-- Forms: two texts are each that of two answers

-- the reply with the same text that answers this request: `none` is no pair to a successor, to a
-- predecessor and to a pop, and no value to any other
abbrev pub reply_to : Request ℕ ℕ → Reply ℕ ℕ → Reply ℕ ℕ
reply_to (Successor key) (Value None) = Pair None
reply_to (Successor key) reply = reply
reply_to (Predecessor key) (Value None) = Pair None
reply_to (Predecessor key) reply = reply
reply_to PopFirst (Value None) = Pair None
reply_to PopFirst reply = reply
reply_to PopLast (Value None) = Pair None
reply_to PopLast reply = reply
reply_to request (Pair None) = Value None
reply_to request reply = reply

-- the answer of cells with the same text, if there is one: of a share that is used up
abbrev pub cells_answer : Answer → Answer
cells_answer (Map (FullShare full)) = Full full.what full.left
cells_answer answer = answer

-- the answer of the map with the same text that answers this request, if there is one
abbrev pub map_answer : Request ℕ ℕ → Answer → Answer
map_answer request (Full what left) = Map (FullShare record { what = what; left = left })
map_answer request (Map reply) = Map (reply_to request reply)
map_answer request answer = answer

-- the answer with the same text in the form that answers this command; without one, as it is
abbrev pub fitted_to : Option Command → Answer → Answer
fitted_to (Some (MapCommand request)) answer = map_answer request answer
fitted_to (Some command) answer = cells_answer answer
fitted_to None answer = answer

-- the answer is in the form that answers the command
abbrev pub IsInForm : Option Command → Answer → Type 0
IsInForm command answer = fitted_to command answer ≡ answer

-- a reply in this line, if it is of one of the clients below this number, is in the form that
-- answers the call that it names
abbrev pub HasForm : ℕ → List Call → Line → Type 0
HasForm passes calls (ReplyLine reply) = reply.client.0 < passes → IsInForm (slice_get (commands calls reply.client.0) reply.call) reply.answer
HasForm passes calls (Step row) = ⊤
HasForm passes calls (Log entry) = ⊤
