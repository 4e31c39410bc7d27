-- The lent tables: the store and the indicators (docs/MEMORY.md, section 3).
use Rattle.std.specs.Prelude.{ℕ, List, slice_index_or}
use Rattle.geometry.specs.declared.Geometry.{Geometry}
use Rattle.reference.specs.Entry.{Entry, empty_word, entry_of}

-- The two tables, word by word (rules 3.1 and 3.3).
pub record Tables : Type 0 where
  pub store : List ℕ
  pub indicators : List ℕ

-- The word of an address. One that the store has not reads as empty.
abbrev pub stored_word : Tables → ℕ → ℕ
stored_word t a = slice_index_or t.store a empty_word

-- What the store holds at an address (rule 3.1).
abbrev pub stored_entry : Geometry → Tables → ℕ → Entry
stored_entry g t a = entry_of g (stored_word t a)
