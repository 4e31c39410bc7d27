-- Pieces of a line as bytes.
use Rattle.std.specs.Prelude.{ℕ, List, ◌++◌, flat_map, codes, decimal}
use Rattle.figures.specs.declared.Piece.{Piece}
use Rattle.figures.specs.declared.Piece.TheVariants.{Text, Decimal, Words}
use Rattle.figures.specs.Figures.{Bytes, hexadecimal}

-- A word of a match word with a space before it.
abbrev pub spaced_word : (word : ℕ) → Bytes
spaced_word w = codes " " ++ hexadecimal w

-- Words with a space before each.
abbrev pub spaced_words : (words : List ℕ) → Bytes
spaced_words = flat_map spaced_word

-- A number is printed as `{}` writes it: in decimal, with no zero in front (rule 14.3 of
-- docs/MEMORY.md).
abbrev pub piece_bytes : Piece → Bytes
piece_bytes (Text t) = t.now
piece_bytes (Decimal n) = decimal n
piece_bytes (Words ws) = spaced_words ws.now

-- The bytes of pieces, one after the other.
abbrev pub all_bytes : List Piece → Bytes
all_bytes = flat_map piece_bytes
