-- What comes of an address that another entry comes to: which rows are set, which are released, and
-- the indicators behind either step (rules 8.2 and 8.4 of docs/MEMORY.md).
use Rattle.std.specs.Prelude.{◌≡◌, ℕ, Bool, List, [], Option}
use Rattle.words.specs.Bits.{set_bit, clear_bit}
use Rattle.geometry.specs.declared.Geometry.{Geometry}
use Rattle.geometry.specs.Sizes.{set_of}
use Rattle.cover.specs.Image.{Cover}
use Rattle.cover.specs.Change.{change, others_cover, is_released, released_rows}
use Rattle.reference.specs.Image.{entry_rows, store_cover}
use Rattle.places.specs.Address.{address_number}
use Rattle.calls.specs.Answers.{entry_for, tables}
use Rattle.update.specs.declared.Target.{Target}

-- Its geometry, and its set.
abbrev pub geometry_of : Target → Geometry
geometry_of t = t.layout.geometry

abbrev pub set_in : Target → ℕ
set_in t = set_of (geometry_of t) (address_number t.address)

-- The rows of an entry, and which rows the entries of the store cover.
abbrev pub rows_in : Target → (e : Option ℕ) → List ℕ
rows_in t e = entry_rows (geometry_of t) (entry_for e)

abbrev pub cover_in : Target → Cover
cover_in t = store_cover (geometry_of t) (tables t.store.now [])

-- Whether another address of its set covers a row; and whether a row is released where `next` is
-- the entry to come: neither that one nor another address of the set covers it.
abbrev pub neighbours_cover : Target → (row : ℕ) → Bool
neighbours_cover t = others_cover (geometry_of t) (cover_in t) (address_number t.address)

abbrev pub is_released_in : Target → (next : Option ℕ) → (row : ℕ) → Bool
is_released_in t next =
    is_released (geometry_of t) (cover_in t) (address_number t.address) (rows_in t next)

abbrev pub released_rows_in : Target → (former next : Option ℕ) → List ℕ
released_rows_in t former next =
    released_rows (geometry_of t) (cover_in t) (address_number t.address)
    (rows_in t former) (rows_in t next)

-- In its set the bits of an entry's rows are set; and those of the former entry's rows that are
-- released are cleared.
abbrev pub SetsRows : Target → (e : Option ℕ) → (old new : List ℕ) → Type 0
SetsRows t e old new = new ≡ change set_bit (geometry_of t) (set_in t) (rows_in t e) old

abbrev pub ClearsReleased : Target → (former next : Option ℕ) → (old new : List ℕ) → Type 0
ClearsReleased t former next old new =
    new ≡ change clear_bit (geometry_of t) (set_in t) (released_rows_in t former next) old
