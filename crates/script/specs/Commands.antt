-- Commands as fields of a row.
use Rattle.std.specs.Prelude.{ℕ, ◌≢◌, ◌≡◌, ◌⊎◌, ◌≤◌, ◌<◌, ◌^◌, Bool, true, false, Option, Some, None, List, [], ◌∷◌, ◌++◌, All, codes, decimal, get_or, length, map}
use Rattle.std.specs.List.{AllByRecursion}
use denote.Ref.{Bor}
use Rattle.arena.specs.declared.limits.Mode.{Mode}
use Rattle.arena.specs.Opening.{is_map}
use Rattle.arena.specs.declared.word.Side.{Side}
use Rattle.arena.specs.declared.word.Side.TheVariants.{Left, Right}
use Rattle.ordered_map.specs.Requests.{AsksForFew}
use Rattle.script.specs.Cells.{cells_of}
use Rattle.script.specs.Update.{update_cells, update_finalize, update_field, update_value}
use Rattle.ordered_map.specs.declared.request.Request.{Request}
use Rattle.script.specs.declared.command.Command.{Command}
use Rattle.script.specs.declared.command.Command.TheVariants.{Llx, Scx, Vlx, Set, Map}
use Rattle.ordered_map.specs.declared.request.Request.TheVariants.{Insert, InsertNew, Delete, DeleteIf, PopFirst, PopLast, ReplaceIf, Get, Successor, Predecessor, Range}

-- the word for a side
abbrev pub side_text : Side → List ℕ
side_text Left = codes "left"
side_text Right = codes "right"

-- these numbers in decimal, with a space before each
unfoldable pub spaced : List ℕ → List ℕ
spaced [] = []
spaced (n ∷ ns) = codes " " ++ (decimal n ++ spaced ns)

-- these numbers in decimal, parted by one space
abbrev pub numbers_text : List ℕ → List ℕ
numbers_text [] = []
numbers_text (n ∷ ns) = decimal n ++ spaced ns

-- a field and the value that goes into it, parted by spaces
abbrev pub change_text : ℕ × Side → ℕ → List ℕ
change_text field value = decimal field.0 ++ (codes " " ++ (side_text field.1 ++ (codes " " ++ decimal value)))

-- an argument of a call of the map: a key, a value, or how many pairs
pub data MapArgument : Type 0 where
  OfKey : ℕ → MapArgument
  OfValue : ℕ → MapArgument
  OfCount : ℕ → MapArgument

-- as a script has it
abbrev pub argument_text : MapArgument → List ℕ
argument_text (OfKey key) = decimal key
argument_text (OfValue value) = decimal value
argument_text (OfCount most) = decimal most

-- it is one that there is: a key fits a word and a value two, and there are at most 64 pairs
abbrev pub IsArgument : MapArgument → Type 0
IsArgument (OfKey key) = key < 2 ^ 64
IsArgument (OfValue value) = value < 2 ^ 128
IsArgument (OfCount most) = most ≤ 64

-- the name of a call of the map
abbrev pub request_name : Request ℕ ℕ → List ℕ
request_name (Insert key value) = codes "insert"
request_name (Delete key) = codes "delete"
request_name PopFirst = codes "pop_first"
request_name PopLast = codes "pop_last"
request_name (ReplaceIf key expected value) = codes "replace_if"
request_name (InsertNew key value) = codes "insert_new"
request_name (DeleteIf key expected) = codes "delete_if"
request_name (Get key) = codes "get"
request_name (Successor key) = codes "successor"
request_name (Predecessor key) = codes "predecessor"
request_name (Range low high most) = codes "range"

-- the field is such a name
abbrev pub NamesRequest : List ℕ → Type 0
NamesRequest field =
    (field ≡ codes "insert") ⊎ (field ≡ codes "delete") ⊎ (field ≡ codes "pop_first") ⊎ (field ≡ codes "pop_last")
    ⊎ (field ≡ codes "replace_if") ⊎ (field ≡ codes "insert_new") ⊎ (field ≡ codes "delete_if")
    ⊎ (field ≡ codes "get") ⊎ (field ≡ codes "successor") ⊎ (field ≡ codes "predecessor") ⊎ (field ≡ codes "range")

-- its arguments, three at most
abbrev pub request_arguments : Request ℕ ℕ → List MapArgument
request_arguments (Insert key value) = OfKey key ∷ OfValue value ∷ []
request_arguments (Delete key) = OfKey key ∷ []
request_arguments PopFirst = []
request_arguments PopLast = []
request_arguments (ReplaceIf key expected value) = OfKey key ∷ OfValue expected ∷ OfValue value ∷ []
request_arguments (InsertNew key value) = OfKey key ∷ OfValue value ∷ []
request_arguments (DeleteIf key expected) = OfKey key ∷ OfValue expected ∷ []
request_arguments (Get key) = OfKey key ∷ []
request_arguments (Successor key) = OfKey key ∷ []
request_arguments (Predecessor key) = OfKey key ∷ []
request_arguments (Range low high most) = OfKey low ∷ OfKey high ∷ OfCount most ∷ []

-- three fields: these arguments, and an empty field for each that is missing
abbrev pub three_fields : List MapArgument → List (List ℕ)
three_fields arguments =
    let texts = map argument_text arguments in
    get_or texts 0 [] ∷ get_or texts 1 [] ∷ get_or texts 2 [] ∷ []

-- the name of a call of the map and its arguments, as a script has them
abbrev pub request_row : Request ℕ ℕ → List (List ℕ)
request_row request = request_name request ∷ three_fields (request_arguments request)

-- a command's name and its arguments, as a script has them
abbrev pub command_row : Command → List (List ℕ)
command_row (Llx cell) = codes "llx" ∷ decimal cell ∷ [] ∷ [] ∷ []
command_row (Scx update) = codes "scx" ∷ numbers_text (update_cells update) ∷ numbers_text (update_finalize update) ∷ change_text (update_field update) (update_value update) ∷ []
command_row (Vlx cells) = codes "vlx" ∷ numbers_text (cells_of cells) ∷ [] ∷ [] ∷ []
command_row (Set field value) = codes "set" ∷ decimal field.0 ∷ side_text field.1 ∷ decimal value ∷ []
command_row (Map request) = request_row request

-- whether the command is a call of the map
abbrev pub asks_map : Command → Bool
asks_map (Map request) = true
asks_map _ = false

-- scripts of the mode have the command: those of a map its calls, those of cells the others
abbrev pub IsOfMode : Mode → Command → Type 0
IsOfMode mode command = asks_map command ≡ is_map mode

-- a range on the map asks for at most 64 pairs
abbrev pub AsksForFewPairs : Command → Type 0
AsksForFewPairs (Map request) = AsksForFew request
AsksForFewPairs _ = Unit {0}

-- the texts that references refer to
abbrev pub texts : List (Bor (List ℕ)) → List (List ℕ)
texts = map (λ text. text.now)

-- node n is one that scripts name; clauses see a `Cell` as a number, and not each number is one
abbrev pub IsCell : ℕ → Type 0
IsCell node = (1 ≤ node) × (node ≤ 8)

-- these are such nodes, and some; `Cells` itself says
-- that there are at most four, and that they differ
abbrev pub AreCells : List ℕ → Type 0
AreCells nodes = (1 ≤ length nodes) × All IsCell nodes

-- the call of the map is one that there is: its arguments are
abbrev pub IsRequest : Request ℕ ℕ → Type 0
IsRequest request = AllByRecursion IsArgument (request_arguments request)

-- the command is one that there is: its nodes are cells, the value of a fresh cell fits a word, and
-- a call of the map is one that there is; an `Update` itself says that those finalized are a part
-- of its cells, and that its field belongs to one
abbrev pub IsCommand : Command → Type 0
IsCommand (Llx cell) = IsCell cell
IsCommand (Scx update) = AreCells (update_cells update) × (update_value update < 2 ^ 64)
IsCommand (Vlx cells) = AreCells (cells_of cells)
IsCommand (Set field value) = IsCell field.0 × (value < 2 ^ 64)
IsCommand (Map request) = IsRequest request

-- what is found is the command that has this row, or nothing where no command has it
abbrev pub IsCommandOf : List (List ℕ) → Option Command → Type 0
IsCommandOf row (Some command) = IsCommand command × (row ≡ command_row command)
IsCommandOf row None = (command : Command) → IsCommand command → row ≢ command_row command
