-- How write and erase change the tables: another entry comes to an address, and the bits of its set
-- follow (docs/MEMORY.md, section 8).
use Rattle.std.specs.Prelude.{ℕ, slice_set}
use Rattle.geometry.specs.declared.Geometry.{Geometry}
use Rattle.cover.specs.Change.{moved_indicators}
use Rattle.reference.specs.Entry.{Entry, word_of}
use Rattle.reference.specs.Tables.{Tables}
use Rattle.reference.specs.Image.{entry_rows, stored_rows, store_cover}

-- The rows of the next entry are set in the set of a, those given up are cleared, and then the
-- store holds the entry (rule 8.2). An erase is the coming of an empty entry, which has no rows
-- (rule 8.4).
unfoldable pub replaced_tables : Geometry → Tables → (a : ℕ) → Entry → Tables
replaced_tables g t a e = record {
  store = slice_set t.store a (word_of e);
  indicators =
      moved_indicators g (store_cover g t) a (stored_rows g t a) (entry_rows g e) t.indicators;
}
