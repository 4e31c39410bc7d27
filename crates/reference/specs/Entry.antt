-- An entry: empty or a pattern (docs/MEMORY.md, section 3). Only here does an entry become a word
-- of the store, or the reverse.
use Rattle.std.specs.Prelude.{◌≡◌, ℕ, ◌<◌, Bool, false, ◌⊎◌, if◌then◌else◌, nat_lt, ◌==◌}
use Rattle.geometry.specs.declared.Geometry.{Geometry}
use Rattle.geometry.specs.Sizes.{patterns}

-- What an address holds: nothing, or one pattern.
pub data Entry : Type 0 where
  empty : Entry
  pattern : ℕ → Entry

-- The word of an empty address (rule 3.2). Every pattern is below it.
abbrev pub empty_word : ℕ
empty_word = 4294967295

-- The word of the store for an entry (rule 3.2).
unfoldable pub word_of : Entry → ℕ
word_of empty = empty_word
word_of (pattern p) = p

-- A word of the store that is an entry's: that of an empty address, or a pattern.
abbrev pub IsEntryWord : Geometry → (word : ℕ) → Type 0
IsEntryWord g w = (w ≡ empty_word) ⊎ (w < patterns g)

-- What a word of the store holds. One that is neither empty nor a pattern holds nothing (rule 6.1).
unfoldable pub entry_of : Geometry → ℕ → Entry
entry_of g w = if nat_lt w (patterns g) then pattern w else empty

-- An entry of the geometry: empty, or a pattern of it.
abbrev pub Fits : Geometry → Entry → Type 0
Fits g e = (p : ℕ) → e ≡ pattern p → p < patterns g

-- Whether an entry is the pattern p.
unfoldable pub holds : Entry → ℕ → Bool
holds empty p = false
holds (pattern q) p = q == p
