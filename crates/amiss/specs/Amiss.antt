-- What the first look of a resume finds amiss: a word of the store that is neither empty nor a
-- pattern, or an entry that lacks a bit (rule 8.12 of docs/MEMORY.md).
use Rattle.std.specs.Prelude.{ℕ, ◌/◌, ◌%◌, Bool, false, not, ◌||◌, List}
use Rattle.words.specs.Rules.{any}
use Rattle.geometry.specs.declared.Geometry.{Geometry}
use Rattle.geometry.specs.Sizes.{set_of}
use Rattle.geometry.specs.Stages.{stages, row_of}
use Rattle.cover.specs.Image.{cell}
use Rattle.reference.specs.Entry.{Entry, empty, pattern}
use Rattle.reference.specs.Tables.{Tables, stored_entry}
use Rattle.reference.specs.Steps.{bad_entry}

-- Whether a set's bit is missing in the row of stage k of a pattern, and in some row of an entry.
abbrev pub is_missing : Geometry → (ind : List ℕ) → (set p k : ℕ) → Bool
is_missing g ind s p k = not (cell g ind (row_of g p k) (s / 64) (s % 64))

unfoldable pub lacks : Geometry → (ind : List ℕ) → (set : ℕ) → Entry → Bool
lacks g ind s empty = false
lacks g ind s (pattern p) = any (stages g) (is_missing g ind s p)

-- Whether an address is amiss: its word is neither empty nor a pattern, or a bit of its entry is
-- missing; and whether any is.
unfoldable pub is_amiss : Geometry → Tables → (a : ℕ) → Bool
is_amiss g t a = bad_entry g t a || lacks g t.indicators (set_of g a) (stored_entry g t a)

abbrev pub any_is_amiss : Geometry → Tables → Bool
any_is_amiss g t = any g.depth (is_amiss g t)
