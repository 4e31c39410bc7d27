-- A row of the indicators, as the code has it: its number, what covers it and whether it is stale.
use Rattle.std.specs.Prelude.{ℕ, ◌+◌, ◌*◌, Bool}
use Rattle.geometry.specs.declared.Geometry.{Geometry}
use Rattle.cover.specs.Image.{Cover, is_covered, image_word}
use Rattle.reference.specs.Entry.{entry_of}
use Rattle.reference.specs.Image.{covers, store_cover}
use Rattle.calls.specs.Answers.{geometry_in, tables_in}
use Rattle.stale.specs.Stale.{word_is_stale, row_is_stale}
use Rattle.stale.specs.declared.Row.{Row}

-- The geometry of its tables, and its number among the rows of all stages (rule 4.3).
abbrev pub geometry_of : Row → Geometry
geometry_of r = geometry_in r.tables.now

abbrev pub number : Row → ℕ
number r = 512 * r.stage + r.value

-- Which rows the entries of the store cover.
abbrev pub cover_of : Row → Cover
cover_of r = store_cover (geometry_of r) (tables_in r.tables.now)

-- Whether it is covered by a word of the store, by the entry of an address, and by some address of
-- a set.
abbrev pub word_covers : Row → (w : ℕ) → Bool
word_covers r w = covers (geometry_of r) (entry_of (geometry_of r) w) (number r)

abbrev pub address_covers : Row → (a : ℕ) → Bool
address_covers r a = cover_of r a (number r)

abbrev pub set_covers : Row → (set : ℕ) → Bool
set_covers r s = is_covered (geometry_of r) (cover_of r) (number r) s

-- Its word j in the image.
abbrev pub word_in_image : Row → (j : ℕ) → ℕ
word_in_image r j = image_word (geometry_of r) (cover_of r) (number r) j

-- Whether a bit of its word j is stale, and whether any bit of it is.
abbrev pub is_stale_at : Row → (j : ℕ) → Bool
is_stale_at r j = word_is_stale (geometry_of r) (tables_in r.tables.now) (number r) j

abbrev pub is_stale : Row → Bool
is_stale r = row_is_stale (geometry_of r) (tables_in r.tables.now) (number r)
