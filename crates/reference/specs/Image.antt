-- The tables of an array: its store, and the image of what its entries cover (docs/MEMORY.md,
-- section 6).
use Rattle.std.specs.Prelude.{ℕ, ◌/◌, ◌%◌, Bool, List, [], map}
use Rattle.words.specs.Rules.{member}
use Rattle.geometry.specs.declared.Geometry.{Geometry}
use Rattle.geometry.specs.Stages.{rows_of}
use Rattle.cover.specs.Image.{Cover, cell, is_covered, image}
use Rattle.reference.specs.Entry.{Entry, empty, pattern, word_of}
use Rattle.reference.specs.Array.{Array, entry_at}
use Rattle.reference.specs.Tables.{Tables, stored_entry}

-- The rows of an entry: those of its pattern (rule 6.1).
unfoldable pub entry_rows : Geometry → Entry → List ℕ
entry_rows g empty = []
entry_rows g (pattern p) = rows_of g p

-- Whether an entry covers a row.
unfoldable pub covers : Geometry → Entry → (row : ℕ) → Bool
covers g e r = member r (entry_rows g e)

-- The rows of what the store holds at an address.
abbrev pub stored_rows : Geometry → Tables → (a : ℕ) → List ℕ
stored_rows g t a = entry_rows g (stored_entry g t a)

-- The rows that each entry of an array covers.
abbrev pub array_cover : Geometry → Array → Cover
array_cover g es a r = covers g (entry_at es a) r

-- The rows that each entry of a store covers.
abbrev pub store_cover : Geometry → Tables → Cover
store_cover g t a r = covers g (stored_entry g t a) r

-- The bit of a row and a set (rule 3.5).
abbrev pub bit_of_set : Geometry → (indicators : List ℕ) → (row set : ℕ) → Bool
bit_of_set g ind r s = cell g ind r (s / 64) (s % 64)

-- What that bit would be by the entries of the store (rule 6.1).
abbrev pub wanted_bit : Geometry → Tables → (row set : ℕ) → Bool
wanted_bit g t r s = is_covered g (store_cover g t) r s

-- Rule 6.4. Past the last set there is no address and so no entry: padding bits are 0 (rule 6.3).
unfoldable pub tables_of : Geometry → Array → Tables
tables_of g es = record { store = map word_of es; indicators = image g (array_cover g es) }
