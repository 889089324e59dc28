-- The versions of a report's format, and what a report of each may say.
use Rattle.std.specs.Prelude.{◌≡◌, ◌⊎◌, ℕ, ◌<◌, ◌^◌, ⊤, List, codes}
use Rattle.std.specs.List.{AllByRecursion}
use Rattle.arena.specs.declared.word.NodeWord.{NodeWord}
use Rattle.arena.specs.declared.word.NodeWord.TheVariants.{Settled}
use Rattle.arena.specs.declared.word.SettledPart.TheVariants.{High}
use Rattle.record.specs.Common.{Request, Command, Map}
use Rattle.script.specs.Commands.{MapArgument, OfValue, request_arguments, request_name}
use Rattle.report.specs.declared.version.Version.{Version}
use Rattle.report.specs.declared.version.Version.TheVariants.{One, Two}

-- the name of a version in the first row
abbrev pub version_text : Version → List ℕ
version_text One = codes "1"
version_text Two = codes "2"

-- all values are below this: those of the first version have one word, those of the second two
abbrev pub value_limit : Version → ℕ
value_limit One = 2 ^ 64
value_limit Two = 2 ^ 128

-- a node has this word: in the first version, none for the high half of a value
abbrev pub HasPart : Version → NodeWord → Type 0
HasPart One (Settled (High slot)) = ⊥
HasPart version part = ⊤

-- the first version has a call of the map of this name
abbrev pub NamesFirstCall : List ℕ → Type 0
NamesFirstCall name =
    (name ≡ codes "insert") ⊎ (name ≡ codes "delete") ⊎ (name ≡ codes "pop_first") ⊎ (name ≡ codes "replace_if")
    ⊎ (name ≡ codes "get") ⊎ (name ≡ codes "successor") ⊎ (name ≡ codes "range")

-- the argument, if it is a value, has one word
abbrev pub HasOneWord : MapArgument → Type 0
HasOneWord (OfValue value) = value < 2 ^ 64
HasOneWord argument = ⊤

-- the call of the map is one of the version, and has values of it; the second version has all
abbrev pub HasRequest : Version → Request ℕ ℕ → Type 0
HasRequest One request = NamesFirstCall (request_name request) × AllByRecursion HasOneWord (request_arguments request)
HasRequest Two request = ⊤

-- the command is one of the version
abbrev pub HasCommand : Version → Command → Type 0
HasCommand version (Map request) = HasRequest version request
HasCommand version command = ⊤
