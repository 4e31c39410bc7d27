-- The sizes that follow from a geometry, and the one rule between an address, its set and its
-- offset in the set (docs/MEMORY.md, sections 2 and 3).
use Rattle.std.specs.Prelude.{ℕ, ◌+◌, ◌-◌, ◌*◌, ◌/◌, ◌%◌, ◌^◌, min}
use Rattle.std.specs.Int.{div_ceil}
use Rattle.geometry.specs.declared.Geometry.{Geometry}

-- The patterns are the numbers below this one (rule 2.3).
unfoldable pub patterns : Geometry → ℕ
patterns g = 2 ^ g.pattern_width

-- C (rule 2.6).
unfoldable pub sets : Geometry → ℕ
sets g = div_ceil g.depth g.set_width

-- R, the words of a row: a bit for each set (rule 3.4).
unfoldable pub row_words : Geometry → ℕ
row_words g = div_ceil (sets g) 64

-- The words of a match word: a bit for each address (rule 3.7).
unfoldable pub match_words : Geometry → ℕ
match_words g = div_ceil g.depth 64

-- Address a lies in this set, at this offset; and the address of a set and an offset (rule 2.5).
abbrev pub set_of : Geometry → ℕ → ℕ
set_of g a = a / g.set_width

abbrev pub offset_of : Geometry → ℕ → ℕ
offset_of g a = a % g.set_width

abbrev pub address_of : Geometry → (set offset : ℕ) → ℕ
address_of g s o = g.set_width * s + o

-- How many addresses a set has: its offsets are the numbers below this one. The last set has those
-- that are left (rule 2.7).
unfoldable pub set_length : Geometry → (set : ℕ) → ℕ
set_length g s = min g.set_width (g.depth - g.set_width * s)
