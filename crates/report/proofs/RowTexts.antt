-- The rows of a report are text, in seven fields.
use Rattle.std.proofs.Common.{◌≡◌, ℕ, zero, suc, ◌<◌, ◌≤◌, ◌^◌, Bool, true, false, eqb, ltb, ltb-true, lt-ltb, cond, List, [], ◌∷◌, ◌++◌, Option, Some, None, All, Contains, IsAscii, IsUtf8, IfSome, codes, decimal, get_or, length, map, refl, sym, subst, arith, lit≤, ◌+◌}
use Rattle.std.proofs.Math.Logic.{∥∥₁_elim}
use Rattle.std.proofs.lemmas.Bool.{eqb-true}
use Rattle.std.proofs.lemmas.Fmt.{IsAscii-decimal_wide}
use Rattle.std.proofs.lemmas.List.Elements.{All-contains, All-head, All-tail}
use Rattle.std.proofs.lemmas.Str.Ascii.{IsAscii-cons, IsAscii-nil}
use Rattle.std.proofs.lemmas.Str.{IsUtf8-append, IsUtf8-from_ascii, IsUtf8-nil}
use Rattle.std.specs.List.{AllByRecursion}
use Rattle.csv.specs.Records.{AllText}
use Rattle.arena.specs.declared.fault.Resource.{Resource}
use Rattle.arena.specs.declared.fault.Resource.TheVariants.{Nodes, Scx as ScxShare}
use Rattle.arena.specs.Limits.{IsAccepted}
use Rattle.arena.specs.declared.limits.Limits.{Limits}
use Rattle.arena.specs.declared.limits.Mode.{Mode}
use Rattle.arena.specs.declared.limits.Mode.TheVariants.{Tree, Trie, Records}
use Rattle.arena.specs.declared.step.Kind.{Kind}
use Rattle.arena.specs.declared.step.Kind.TheVariants.{Fill, LoadSettled, LoadInfo, LoadState, LoadMarked, LoadAllFrozen, LoadChild, Freeze, SetFrozen, Mark, Update as UpdateStep, Commit, Abort}
use Rattle.arena.specs.declared.word.Side.{Side}
use Rattle.arena.specs.declared.word.Side.TheVariants.{Left, Right}
use Rattle.arena.specs.declared.word.NodeWord.{NodeWord}
use Rattle.arena.specs.declared.word.NodeWord.TheVariants.{Settled, Child, Info, Marked}
use Rattle.arena.specs.declared.word.SettledPart.TheVariants.{Head, More, Key, Value as ValuePart, High}
use Rattle.arena.specs.declared.word.Slot.TheVariants.{First, Second, Third, Fourth}
use Rattle.arena.specs.declared.word.ScxWord.{ScxWord}
use Rattle.arena.specs.declared.word.ScxWord.TheVariants.{State, AllFrozen, Plan, New, Old, Member, Seen, Call as CallWord}
use Rattle.arena.specs.declared.word.Word.{Word}
use Rattle.arena.specs.declared.word.Word.TheVariants.{Node, Scx as ScxWordOf}
use Rattle.arena.specs.Words.{IsScxWord}
use Rattle.record.specs.Common.{Reply, Value, Pairs, Contended, NoMemory, Full as FullShare, Request, IsCommand, command_row, kind_text, limits_row}
use Rattle.record.specs.Common.{cells_of, update_cells, update_field, update_finalize, update_value, Call, Command, Llx, Scx, Vlx, Set, Map}
use Rattle.ordered_map.specs.declared.reply.Reply.TheVariants.{Pair}
use Rattle.ordered_map.specs.declared.request.Request.TheVariants.{Insert}
use Rattle.script.specs.Commands.{IsArgument, IsCell, IsRequest, MapArgument, OfCount, OfKey, OfValue, argument_text, change_text, numbers_text, request_arguments, request_name, request_row, side_text, spaced}
use Rattle.script.specs.Part.{is_subsequence}
use Rattle.record.specs.declared.record.Answer.{Answer}
use Rattle.record.specs.declared.record.Answer.TheVariants.{Snapshot, Finalized, Fail, Done, Lost, Same, Changed, Unlinked, Full, Map as MapAnswer}
use Rattle.record.specs.declared.record.Line.{Line}
use Rattle.record.specs.declared.record.Line.TheVariants.{Step, Log, Reply as ReplyLine}
use Rattle.record.specs.declared.record.TurnRow.TheVariants.{Step as Made, Idle}
use Rattle.report.specs.Answers.{answer_text, full_text, reply_text, spaced_pairs}
use Rattle.report.specs.Report.{call_rows, calls_by, entries_in, line_row, mode_text, moment_text, replies_in, report_end_row, seven, steps_in, title_in}
use Rattle.report.specs.RowFaults.{AreOfReport}
use Rattle.report.specs.Spellings.{IsReported, IsSpelledAnswer, IsSpelledLine, IsSpelledPair, IsSpelledReply}
use Rattle.report.specs.Versions.{version_text}
use Rattle.report.specs.declared.version.Version.{Version}
use Rattle.report.specs.declared.version.Version.TheVariants.{One, Two}
use Rattle.report.specs.Words.{IsSpelled, node_part, scx_part, word_text}
use Rattle.texts.specs.Texts.{IsRow}
use Rattle.report.proofs.Counted.{calls_by_bound}
use Rattle.report.proofs.Reading.{rows_in_parts}
use Rattle.report.proofs.Versions.{small_value}

-- whether no byte is above 127
abbrev is_ascii : List ℕ → Bool
is_ascii [] = true
is_ascii (b ∷ bs) = cond (ltb b 128) (is_ascii bs) false

bytes_below : (bs : List ℕ) → is_ascii bs ≡ true → IsAscii bs
bytes_below [] is = IsAscii-nil
bytes_below (b ∷ bs) is = go (ltb b 128) refl is (bytes_below bs)
  where
    go : (less : Bool) → ltb b 128 ≡ less → cond less (is_ascii bs) false ≡ true → (is_ascii bs ≡ true → IsAscii bs) → IsAscii (b ∷ bs)
    go true less is rest = IsAscii-cons b bs (ltb-true b 128 less) (rest is)
    go false less is rest = absurd cc

-- such bytes are text
ascii : (bs : List ℕ) → is_ascii bs ≡ true → IsUtf8 bs
ascii bs is = IsUtf8-from_ascii bs (bytes_below bs is)

-- a value is text
value_is_text : (n : ℕ) → n < 2 ^ 128 → IsUtf8 (decimal n)
value_is_text n fits = IsUtf8-from_ascii (decimal n) (IsAscii-decimal_wide n (omega (arith, fits)))

-- a number is text
number : (n : ℕ) → n < 2 ^ 64 → IsUtf8 (decimal n)
number n fits = value_is_text n (omega (arith, fits))

-- and so are two texts together
both : (xs ys : List ℕ) → IsUtf8 xs → IsUtf8 ys → IsUtf8 (xs ++ ys)
both = IsUtf8-append

-- a name and a number
named : (name : List ℕ) (n : ℕ) → IsUtf8 name → n < 2 ^ 64 → IsUtf8 (name ++ decimal n)
named name n text fits = both name (decimal n) text (number n fits)

-- a name, a number, and a text after it
named_more : (name : List ℕ) (n : ℕ) (more : List ℕ) → IsUtf8 name → n < 2 ^ 64 → IsUtf8 more → IsUtf8 (name ++ (decimal n ++ more))
named_more name n more text fits rest = both name (decimal n ++ more) text (both (decimal n) more (number n fits) rest)

space : IsUtf8 (codes " ")
space = ascii (codes " ") refl

-- Words

node_part_text : (part : NodeWord) → IsUtf8 (node_part part)
node_part_text (Settled Head) = ascii (codes "head") refl
node_part_text (Settled More) = ascii (codes "more") refl
node_part_text (Settled (Key First)) = ascii (codes "key") refl
node_part_text (Settled (Key Second)) = ascii (codes "key1") refl
node_part_text (Settled (Key Third)) = ascii (codes "key2") refl
node_part_text (Settled (Key Fourth)) = ascii (codes "key3") refl
node_part_text (Settled (ValuePart First)) = ascii (codes "value") refl
node_part_text (Settled (ValuePart Second)) = ascii (codes "value1") refl
node_part_text (Settled (ValuePart Third)) = ascii (codes "value2") refl
node_part_text (Settled (ValuePart Fourth)) = ascii (codes "value3") refl
node_part_text (Settled (High First)) = ascii (codes "high") refl
node_part_text (Settled (High Second)) = ascii (codes "high1") refl
node_part_text (Settled (High Third)) = ascii (codes "high2") refl
node_part_text (Settled (High Fourth)) = ascii (codes "high3") refl
node_part_text (Child Left) = ascii (codes "left") refl
node_part_text (Child Right) = ascii (codes "right") refl
node_part_text Info = ascii (codes "info") refl
node_part_text Marked = ascii (codes "marked") refl

scx_part_text : (part : ScxWord) → IsScxWord part → IsUtf8 (scx_part part)
scx_part_text State fits = ascii (codes "state") refl
scx_part_text AllFrozen fits = ascii (codes "allfrozen") refl
scx_part_text Plan fits = ascii (codes "plan") refl
scx_part_text New fits = ascii (codes "new") refl
scx_part_text Old fits = ascii (codes "old") refl
scx_part_text (Member place) fits = named (codes "v") place (ascii (codes "v") refl) (omega (arith, fits))
scx_part_text (Seen place) fits = named (codes "i") place (ascii (codes "i") refl) (omega (arith, fits))
scx_part_text CallWord fits = ascii (codes "call") refl

word_is_text : (version : Version) (word : Word) → IsSpelled version word → IsUtf8 (word_text word)
word_is_text version (Node n part) fits = named_more (codes "n") n.0 (codes "." ++ node_part part) (ascii (codes "n") refl) fits.0 (both (codes ".") (node_part part) (ascii (codes ".") refl) (node_part_text part))
word_is_text version (ScxWordOf s part) fits = named_more (codes "s") s.0 (codes "." ++ scx_part part) (ascii (codes "s") refl) fits.0 (both (codes ".") (scx_part part) (ascii (codes ".") refl) (scx_part_text part fits.1))

kind_is_text : (kind : Kind) → IsUtf8 (kind_text kind)
kind_is_text Fill = ascii (kind_text Fill) refl
kind_is_text LoadSettled = ascii (kind_text LoadSettled) refl
kind_is_text LoadInfo = ascii (kind_text LoadInfo) refl
kind_is_text LoadState = ascii (kind_text LoadState) refl
kind_is_text LoadMarked = ascii (kind_text LoadMarked) refl
kind_is_text LoadAllFrozen = ascii (kind_text LoadAllFrozen) refl
kind_is_text LoadChild = ascii (kind_text LoadChild) refl
kind_is_text Freeze = ascii (kind_text Freeze) refl
kind_is_text SetFrozen = ascii (kind_text SetFrozen) refl
kind_is_text Mark = ascii (kind_text Mark) refl
kind_is_text UpdateStep = ascii (kind_text UpdateStep) refl
kind_is_text Commit = ascii (kind_text Commit) refl
kind_is_text Abort = ascii (kind_text Abort) refl

-- Answers

blame : (name : List ℕ) (node scx : ℕ) → IsUtf8 name → node < 2 ^ 64 → scx < 2 ^ 64 → IsUtf8 (name ++ (decimal node ++ (codes " s" ++ decimal scx)))
blame name node scx text small fits = named_more name node (codes " s" ++ decimal scx) text small (named (codes " s") scx (ascii (codes " s") refl) fits)

pair : (name : List ℕ) (first second : ℕ) → IsUtf8 name → first < 2 ^ 64 → second < 2 ^ 128 → IsUtf8 (name ++ (decimal first ++ (codes " " ++ decimal second)))
pair name first second text small fits = named_more name first (codes " " ++ decimal second) text small (both (codes " ") (decimal second) space (value_is_text second fits))

spaced_pairs_text : (version : Version) (ps : List (ℕ × ℕ)) → All (IsSpelledPair version) ps → IsUtf8 (spaced_pairs ps)
unfolding spaced_pairs
spaced_pairs_text version [] all = IsUtf8-nil
spaced_pairs_text version (p ∷ ps) all =
    let fits = All-head (IsSpelledPair version) p ps all in
    let rest = spaced_pairs_text version ps (All-tail (IsSpelledPair version) p ps all) in
    named_more (codes " ") p.0 (codes " " ++ (decimal p.1 ++ spaced_pairs ps)) space fits.0
    (both (codes " ") (decimal p.1 ++ spaced_pairs ps) space (both (decimal p.1) (spaced_pairs ps) (value_is_text p.1 (small_value version p.1 fits.1)) rest))

full_is_text : (what : Resource) (left : ℕ) → left < 2 ^ 32 → IsUtf8 (full_text what left)
full_is_text Nodes left fits = named (codes "full nodes ") left (ascii (codes "full nodes ") refl) (omega (arith, fits))
full_is_text ScxShare left fits = named (codes "full scx ") left (ascii (codes "full scx ") refl) (omega (arith, fits))

reply_is_text : (version : Version) (reply : Reply ℕ ℕ) → IsSpelledReply version reply → IsUtf8 (reply_text reply)
reply_is_text version (Value (Some value)) fits = both (codes "some ") (decimal value) (ascii (codes "some ") refl) (value_is_text value (small_value version value fits))
reply_is_text version (Value None) fits = ascii (codes "none") refl
reply_is_text version (Pair (Some p)) fits = pair (codes "pair ") p.0 p.1 (ascii (codes "pair ") refl) fits.0 (small_value version p.1 fits.1)
reply_is_text version (Pair None) fits = ascii (codes "none") refl
reply_is_text version (Pairs ps) fits = both (codes "pairs") (spaced_pairs ps.items) (ascii (codes "pairs") refl) (spaced_pairs_text version ps.items fits)
reply_is_text version (Contended node scx) fits = blame (codes "contended n") node.0 scx.0 (ascii (codes "contended n") refl) fits.0 fits.1
reply_is_text version (FullShare full) fits = full_is_text full.what full.left fits
reply_is_text version NoMemory fits = ascii (codes "no memory") refl

answer_is_text : (version : Version) (answer : Answer) → IsSpelledAnswer version answer → IsUtf8 (answer_text answer)
answer_is_text version (Snapshot left right) fits = pair (codes "snap ") left.0 right.0 (ascii (codes "snap ") refl) fits.0 (omega (arith, fits.1))
answer_is_text version Finalized fits = ascii (codes "finalized") refl
answer_is_text version (Fail node scx) fits = blame (codes "fail n") node.0 scx.0 (ascii (codes "fail n") refl) fits.0 fits.1
answer_is_text version Done fits = ascii (codes "done") refl
answer_is_text version (Lost node scx) fits = blame (codes "lost n") node.0 scx.0 (ascii (codes "lost n") refl) fits.0 fits.1
answer_is_text version Same fits = ascii (codes "same") refl
answer_is_text version (Changed node scx) fits = blame (codes "changed n") node.0 scx.0 (ascii (codes "changed n") refl) fits.0 fits.1
answer_is_text version (Unlinked node) fits = named (codes "unlinked n") node.0 (ascii (codes "unlinked n") refl) fits
answer_is_text version (Full what left) fits = full_is_text what left fits
answer_is_text version (MapAnswer reply) fits = reply_is_text version reply fits

moment_is_text : (moment : Option ℕ) → (IfSome moment (λ turn. turn < 2 ^ 64)) → IsUtf8 (moment_text moment)
moment_is_text None fits = IsUtf8-nil
moment_is_text (Some turn) fits = number turn fits

-- Rows

four_texts : (a b c d : List ℕ) → IsUtf8 a → IsUtf8 b → IsUtf8 c → IsUtf8 d → AllText (a ∷ b ∷ c ∷ d ∷ [])
unfolding AllText
four_texts a b c d p q r s = (p, (q, (r, (s, tt))))

three_more : (a b c : List ℕ) (rest : List (List ℕ)) → IsUtf8 a → IsUtf8 b → IsUtf8 c → AllText rest → AllText (a ∷ b ∷ c ∷ rest)
unfolding AllText
three_more a b c rest p q r all = (p, (q, (r, all)))

line_is_text : (version : Version) (line : Line) → IsSpelledLine version line → AllText (seven (line_row line))
line_is_text version (Step (Made n row)) (small, fits) =
    three_more _ _ _ _ (ascii (codes "step") refl) (number n small) (number row.pass.0 (omega (arith, fits.pass)))
    (four_texts _ _ _ _ (kind_is_text row.kind) (word_is_text version row.word fits.word) (number row.before fits.before) (number row.after fits.after))
line_is_text version (Step (Idle n client)) (small, fits) =
    three_more _ _ _ _ (ascii (codes "step") refl) (number n small) (number client.0 (omega (arith, fits)))
    (four_texts _ _ _ _ (ascii (codes "idle") refl) IsUtf8-nil IsUtf8-nil IsUtf8-nil)
line_is_text version (Log entry) fits =
    three_more _ _ _ _ (ascii (codes "log") refl) (number entry.place fits.place) (number entry.step fits.step)
    (four_texts _ _ _ _ (named (codes "s") entry.scx.0 (ascii (codes "s") refl) fits.scx) (number entry.client.0 (omega (arith, fits.client))) (number entry.call fits.call) IsUtf8-nil)
line_is_text version (ReplyLine reply) fits =
    three_more _ _ _ _ (ascii (codes "reply") refl) (number reply.client.0 (omega (arith, fits.client))) (number reply.call fits.call)
    (four_texts _ _ _ _ (number reply.begin fits.begin) (number reply.end fits.end) (moment_is_text reply.moment fits.moment) (answer_is_text version reply.answer fits.answer))

-- Commands

side_is_text : (side : Side) → IsUtf8 (side_text side)
side_is_text Left = ascii (codes "left") refl
side_is_text Right = ascii (codes "right") refl

-- all of these numbers fit
abbrev AreSmall : List ℕ → Type 0
AreSmall = AllByRecursion (λ n. n < 2 ^ 64)

spaced_is_text : (ns : List ℕ) → AreSmall ns → IsUtf8 (spaced ns)
unfolding spaced
spaced_is_text [] all = IsUtf8-nil
spaced_is_text (n ∷ ns) all = named_more (codes " ") n (spaced ns) space all.0 (spaced_is_text ns all.1)

numbers_are_text : (ns : List ℕ) → AreSmall ns → IsUtf8 (numbers_text ns)
numbers_are_text [] all = IsUtf8-nil
numbers_are_text (n ∷ ns) all = both (decimal n) (spaced ns) (number n all.0) (spaced_is_text ns all.1)

cells_are_small : (ns : List ℕ) → All IsCell ns → AreSmall ns
cells_are_small [] all = tt
cells_are_small (n ∷ ns) all = let cell = All-head IsCell n ns all in (omega (arith, cell.1), cells_are_small ns (All-tail IsCell n ns all))

part_is_small : (part whole : List ℕ) → is_subsequence part whole ≡ true → AreSmall whole → AreSmall part
part_is_small [] whole is all = tt
part_is_small (n ∷ part) [] is all = absurd cc
part_is_small (n ∷ part) (m ∷ whole) is all = go (eqb n m) refl is (λ sub. part_is_small part whole sub all.1) (λ sub. part_is_small (n ∷ part) whole sub all.1)
  where
    go : (same : Bool) → eqb n m ≡ same → cond same (is_subsequence part whole) (is_subsequence (n ∷ part) whole) ≡ true
        → (is_subsequence part whole ≡ true → AreSmall part) → (is_subsequence (n ∷ part) whole ≡ true → AreSmall (n ∷ part)) → AreSmall (n ∷ part)
    go true same sub less keep = let e : n ≡ m = eqb-true n m same in (omega (arith, e, all.0), less sub)
    go false same sub less keep = keep sub

name_is_text : (request : Request ℕ ℕ) → IsUtf8 (request_name request)
name_is_text (Insert key value) = ascii (codes "insert") refl
name_is_text request = ascii _ refl

argument_is_text : (argument : MapArgument) → IsArgument argument → IsUtf8 (argument_text argument)
argument_is_text (OfKey key) fits = number key fits
argument_is_text (OfValue value) fits = value_is_text value fits
argument_is_text (OfCount most) fits = number most (omega (arith, fits))

field_is_text : (arguments : List MapArgument) (k : ℕ) → AllByRecursion IsArgument arguments → IsUtf8 (get_or (map argument_text arguments) k [])
field_is_text [] k fits = IsUtf8-nil
field_is_text (a ∷ rest) zero fits = argument_is_text a fits.0
field_is_text (a ∷ rest) (suc k) fits = field_is_text rest k fits.1

request_is_text : (request : Request ℕ ℕ) → IsRequest request → AllText (request_row request)
request_is_text request fits =
    let field = field_is_text (request_arguments request) in
    four_texts _ _ _ _ (name_is_text request) (field 0 fits) (field 1 fits) (field 2 fits)

change_is_text : (field : ℕ × Side) (value : ℕ) → field.0 < 2 ^ 64 → value < 2 ^ 64 → IsUtf8 (change_text field value)
change_is_text field value small fits =
    both (decimal field.0) (codes " " ++ (side_text field.1 ++ (codes " " ++ decimal value))) (number field.0 small)
    (both (codes " ") (side_text field.1 ++ (codes " " ++ decimal value)) space (both (side_text field.1) (codes " " ++ decimal value) (side_is_text field.1) (named (codes " ") value space fits)))

-- the node of an update's field is one of its cells
field_is_small : (cells : List ℕ) (n : ℕ) → All IsCell cells → ∥ Contains cells n ∥₁ → n < 2 ^ 64
field_is_small cells n all inside = go (ltb n (2 ^ 64)) refl
  where
    go : (less : Bool) → ltb n (2 ^ 64) ≡ less → n < 2 ^ 64
    go true is = ltb-true n (2 ^ 64) is
    go false is = absurd (∥∥₁_elim inside (λ a b. absurd a) (λ (has : Contains cells n). let cell = All-contains IsCell cells n all has in let less = lt-ltb n (2 ^ 64) (omega (arith, cell.1)) in cc))

command_is_text : (command : Command) → IsCommand command → AllText (command_row command)
command_is_text (Llx cell) fits = four_texts _ _ _ _ (ascii (codes "llx") refl) (number cell (omega (arith, fits.1))) IsUtf8-nil IsUtf8-nil
command_is_text (Scx update) fits =
    let cells = cells_are_small (update_cells update) fits.0.1 in
    four_texts _ _ _ _ (ascii (codes "scx") refl) (numbers_are_text (update_cells update) cells)
    (numbers_are_text (update_finalize update) (part_is_small (update_finalize update) (update_cells update) update.part cells))
    (change_is_text (update_field update) (update_value update) (field_is_small (update_cells update) (update_field update).0 fits.0.1 update.inside) fits.1)
command_is_text (Vlx cells) fits = four_texts _ _ _ _ (ascii (codes "vlx") refl) (numbers_are_text (cells_of cells) (cells_are_small (cells_of cells) fits.1)) IsUtf8-nil IsUtf8-nil
command_is_text (Set field value) fits = four_texts _ _ _ _ (ascii (codes "set") refl) (number field.0 (omega (arith, fits.0.1))) (side_is_text field.1) (number value fits.1)
command_is_text (Map request) fits = request_is_text request fits

-- The whole

-- the row has seven fields, each of them text
abbrev pub IsWide : List (List ℕ) → Type 0
IsWide row = IsRow 7 row

-- the row of a command is four fields, after three of a call
call_is_wide : (client number : ℕ) (command : Command) → AllText (codes "call" ∷ decimal client ∷ decimal number ∷ command_row command) → IsWide (seven (codes "call" ∷ decimal client ∷ decimal number ∷ command_row command))
call_is_wide client number (Llx cell) text = (refl, text)
call_is_wide client number (Scx update) text = (refl, text)
call_is_wide client number (Vlx cells) text = (refl, text)
call_is_wide client number (Set field value) text = (refl, text)
call_is_wide client number (Map request) text = (refl, text)

line_is_long : (line : Line) → length (seven (line_row line)) ≡ 7
line_is_long (Step (Made n row)) = refl
line_is_long (Step (Idle n client)) = refl
line_is_long (Log entry) = refl
line_is_long (ReplyLine reply) = refl

mode_is_text : (mode : Mode) → IsUtf8 (mode_text mode)
mode_is_text Tree = ascii (codes "tree") refl
mode_is_text Trie = ascii (codes "trie") refl
mode_is_text Records = ascii (codes "records") refl

version_is_text : (version : Version) → IsUtf8 (version_text version)
version_is_text One = ascii (codes "1") refl
version_is_text Two = ascii (codes "2") refl

title_is_wide : (version : Version) (mode : Mode) → IsWide (seven (title_in version mode))
title_is_wide version mode = (refl, three_more _ _ _ _ (ascii (codes "report") refl) (version_is_text version) (mode_is_text mode) (four_texts _ _ _ _ IsUtf8-nil IsUtf8-nil IsUtf8-nil IsUtf8-nil))

limits_are_wide : (limits : Limits) → IsAccepted limits → IsWide (seven (limits_row limits))
limits_are_wide limits fits = (
  refl,
  three_more _ _ _ _ (ascii (codes "limits") refl) (number limits.passes (omega (arith, fits.passes))) (number limits.nodes (omega (arith, fits.nodes)))
      (four_texts _ _ _ _ (number limits.scx (omega (arith, fits.scx))) (number limits.tries (omega (arith, fits.tries))) IsUtf8-nil IsUtf8-nil),
)

-- no more lines of a kind than lines
counts_bound : (lines : List Line) → (steps_in lines ≤ length lines) × (replies_in lines ≤ length lines) × (entries_in lines ≤ length lines)
counts_bound [] = (lit≤ tt, lit≤ tt, lit≤ tt)
counts_bound (Step row ∷ lines) = let b = counts_bound lines in (omega (arith, b.0), omega (arith, b.1), omega (arith, b.2))
counts_bound (Log entry ∷ lines) = let b = counts_bound lines in (omega (arith, b.0), omega (arith, b.1), omega (arith, b.2))
counts_bound (ReplyLine reply ∷ lines) = let b = counts_bound lines in (omega (arith, b.0), omega (arith, b.1), omega (arith, b.2))

end_is_wide : (lines : List Line) → length lines < 2 ^ 64 → IsWide (seven (report_end_row lines))
end_is_wide lines fits =
    let b = counts_bound lines in (
      refl,
      three_more _ _ _ _ (ascii (codes "end") refl) (number (steps_in lines) (omega (arith, b.0, fits))) (number (replies_in lines) (omega (arith, b.1, fits)))
          (four_texts _ _ _ _ (number (entries_in lines) (omega (arith, b.2, fits))) IsUtf8-nil IsUtf8-nil IsUtf8-nil),
    )

call_rows_are_wide : (version : Version) (mode : Mode) (passes : ℕ) (earlier calls : List Call) → passes ≤ 32 → length earlier + length calls < 2 ^ 64 → All (IsReported version mode passes) calls → AllByRecursion IsWide (map seven (call_rows earlier calls))
unfolding call_rows
call_rows_are_wide version mode passes earlier [] few counted all = tt
call_rows_are_wide version mode passes earlier (call ∷ calls) few counted all =
    let ok = All-head (IsReported version mode passes) call calls all in
    let bound = calls_by_bound call.client.0 earlier in
    let text = three_more (codes "call") (decimal call.client.0) (decimal (calls_by call.client.0 earlier)) (command_row call.command) (ascii (codes "call") refl) (number call.client.0 (omega (arith, ok.0, few))) (number (calls_by call.client.0 earlier) (omega (arith, bound, counted))) (command_is_text call.command ok.2) in
    (call_is_wide call.client.0 (calls_by call.client.0 earlier) call.command text, call_rows_are_wide version mode passes (call ∷ earlier) calls few (omega (arith, counted)) (All-tail (IsReported version mode passes) call calls all))

line_rows_are_wide : (version : Version) (lines : List Line) → All (IsSpelledLine version) lines → AllByRecursion IsWide (map seven (map line_row lines))
line_rows_are_wide version [] all = tt
line_rows_are_wide version (line ∷ lines) all =
    let fits = All-head (IsSpelledLine version) line lines all in
    ((line_is_long line, line_is_text version line fits), line_rows_are_wide version lines (All-tail (IsSpelledLine version) line lines all))

-- what holds of all rows here and there holds of all
pub all_both : {X : Type 0} (P : X → Type 0) (xs ys : List X) → AllByRecursion P xs → AllByRecursion P ys → AllByRecursion P (xs ++ ys)
all_both P [] ys p q = q
all_both P (x ∷ xs) ys p q = (p.0, all_both P xs ys p.1 q)

-- all rows of a report
pub report_is_wide : (rows : List (List (List ℕ))) → AreOfReport rows → AllByRecursion IsWide rows
report_is_wide rows r =
    let calls = call_rows_are_wide r.version r.mode r.limits.passes [] r.calls r.admitted.accepted.passes (omega (arith, r.admitted.few)) r.admitted.reported in
    let lines = line_rows_are_wide r.version r.lines r.spelled in
    let tail = all_both IsWide (map seven (call_rows [] r.calls)) _ calls (all_both IsWide (map seven (map line_row r.lines)) (seven (report_end_row r.lines) ∷ []) lines (end_is_wide r.lines r.counted, tt)) in
    subst (AllByRecursion IsWide) (sym (rows_in_parts r)) (title_is_wide r.version r.mode, (limits_are_wide r.limits r.admitted.accepted, tail))
