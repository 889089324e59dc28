-- The words that name gates.
use Rattle.std.specs.Prelude.{◌≡◌, ℕ, List, codes}
use Rattle.runner.specs.declared.gates.name.GateName.{GateName}
use Rattle.runner.specs.declared.gates.name.GateName.TheVariants.{Open, Alternate, Hold, Freeze}

-- the word that names a gate
abbrev pub gate_word : GateName → List ℕ
gate_word Open = codes "open"
gate_word Alternate = codes "alternate"
gate_word Hold = codes "hold"
gate_word Freeze = codes "freeze"

-- this word names a gate
abbrev pub IsGate : List ℕ → Type 0
IsGate word = (name : GateName) × (word ≡ gate_word name)
