-- The image of a cover (docs/MEMORY.md, section 6). Of an entry the indicators know the rows that
-- it covers, and no more.
use Rattle.std.specs.Prelude.{ℕ, ◌+◌, ◌*◌, ◌/◌, ◌%◌, Bool, ◌&&◌, List, ◌==◌, slice_index}
use Rattle.words.specs.Rules.{any, tabulate}
use Rattle.words.specs.Bits.{bit, word}
use Rattle.geometry.specs.declared.Geometry.{Geometry}
use Rattle.geometry.specs.Sizes.{row_words, address_of, set_length}
use Rattle.geometry.specs.Stages.{indicator_words}

-- Whether the entry of an address covers a row.
abbrev pub Cover : Type 0
Cover = (address row : ℕ) → Bool

-- Bit b of word j of a row (rule 3.4): that of set 64 × j + b.
abbrev pub cell : Geometry → List ℕ → (row j b : ℕ) → Bool
cell g ind r j b = bit (slice_index ind (row_words g * r + j)) b

-- Whether that bit belongs to the set (rule 3.5).
abbrev pub belongs : (set j b : ℕ) → Bool
belongs s j b = j == s / 64 && b == s % 64

-- Whether some address of the set covers the row: then its bit is 1 (rule 6.1).
unfoldable pub is_covered : Geometry → Cover → (row set : ℕ) → Bool
is_covered g cover r s = any (set_length g s) (λ o. cover (address_of g s o) r)

-- Word j of a row of the image: bit b is that of set 64 × j + b. Past the last set there is no
-- address, so that padding bits are 0 (rule 6.3).
abbrev pub image_word : Geometry → Cover → (row j : ℕ) → ℕ
image_word g cover r j = word 64 (λ b. is_covered g cover r (64 * j + b))

-- Word m is word m mod R of row m / R (rule 3.4).
unfoldable pub image : Geometry → Cover → List ℕ
image g cover =
    tabulate (indicator_words g) (λ m. image_word g cover (m / row_words g) (m % row_words g))
