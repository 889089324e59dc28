-- What one step or one reply changes in what an audit remembers.
use Rattle.std.specs.Prelude.{◌≡◌, ℕ, suc, ◌+◌, ◌-◌, ◌^◌, ◌<◌, ◌⊎◌, Bool, true, false, Option, Some}
use Rattle.histories.specs.Common.{Layout, Kind, LoadInfo, Freeze, Row, History, log, last, is_final, member, info}
use Rattle.ordered_map.specs.Tries.{begins_try}
use Rattle.audit.specs.declared.memory.FoundInfo.{FoundInfo}
use Rattle.audit.specs.declared.memory.Memory.{Memory}
use Rattle.audit.specs.declared.memory.Tries.{Tries}

-- the look is what the row has found in an info word, as the last of `rows` rows of h
pub record IsLookBy (lay : Layout) (h : History) (rows : ℕ) (row : Row) (look : FoundInfo) : Type 0 where
  pub word : row.word ≡ info look.node.0
  pub many : look.steps ≡ rows
  pub found : look.found ≡ row.before
  pub last_entry : look.last ≡ last (log lay h) look.node.0

-- what is remembered of a client after a step of this kind that has found this in an info word
abbrev pub noted : Kind → Option FoundInfo → Memory → Memory
noted LoadInfo look memory = record memory { look = look }
noted Freeze look memory = record memory { freeze = look }
noted _ look memory = memory

-- what is remembered of a client's tries after a step, the last of this many, which begins one or
-- does not
abbrev pub tried : Bool → ℕ → Tries → Tries
tried true rows old = record { many = suc old.many; before = rows - 1 }
tried false rows old = old

-- it was noted what the row has found,
-- as the last of `rows` rows of h, and whether it begins a try
pub record IsNoted (lay : Layout) (h : History) (rows : ℕ) (row : Row) (old new : Memory) : Type 0 where
  pub seen : Option FoundInfo
  pub by : (look : FoundInfo) → seen ≡ Some look → IsLookBy lay h rows row look
  pub is : new ≡ record (noted row.kind seen old) { tries = new.tries }
  pub tries : old.tries.many + 1 < 2 ^ 64 → new.tries ≡ tried (begins_try row.pass.0 row) rows old.tries

-- since how many rows node n is remembered to be final: that was `before`, and is `after` once it
-- was noted of the nodes of SCX-record s below this place
abbrev pub IsRememberedFinal : Layout → History → ℕ → ℕ → ℕ → Option ℕ → ℕ → ℕ → Type 0
IsRememberedFinal lay h s places rows before n after = ((before ≡ Some after) × (after ≡ 0 → (j : ℕ) → j < places → member h s j ≡ n → is_final (log lay h) n ≡ false)) ⊎ ((before ≡ Some 0) × (after ≡ rows) × (is_final (log lay h) n ≡ true))

-- the same, of the node at this place alone
abbrev pub IsMadeFinal : Layout → History → ℕ → ℕ → ℕ → Option ℕ → ℕ → ℕ → Type 0
IsMadeFinal lay h s place rows before n after = ((before ≡ Some after) × (after ≡ 0 → member h s place ≡ n → is_final (log lay h) n ≡ false)) ⊎ ((before ≡ Some 0) × (after ≡ rows) × (is_final (log lay h) n ≡ true))
