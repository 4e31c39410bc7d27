-- Resume: a history goes on with tables that stand already, read back from a board (rules 6.5, 7.7,
-- 8.12 and 9.3 of docs/MEMORY.md).
use Rattle.std.specs.Prelude.{ℕ, Bool, not, ◌||◌, List, [], ◌∷◌, map, ◌==◌, slice_index, Option}
use Rattle.words.specs.Rules.{any}
use Rattle.machines.specs.Refusals.{RefusalRow, ◌given_when◌, first_refusal}
use Rattle.geometry.specs.declared.Geometry.{Geometry}
use Rattle.geometry.specs.Valid.{is_valid}
use Rattle.geometry.specs.Stages.{indicator_words}
use Rattle.cover.specs.Image.{image}
use Rattle.reference.specs.Entry.{entry_of}
use Rattle.reference.specs.Array.{Array}
use Rattle.reference.specs.Tables.{Tables}
use Rattle.reference.specs.Image.{array_cover}
use Rattle.reference.specs.Steps.{bad_lengths, bad_entry}

-- The array that a store shows: what each of its words holds (rule 6.5).
unfoldable pub shown_array : Geometry → Tables → Array
shown_array g t = map (entry_of g) t.store

-- The image of that array: the indicators that belong to it.
abbrev pub shown_image : Geometry → Tables → List ℕ
shown_image g t = image g (array_cover g (shown_array g t))

-- Whether word m of the indicators is another than that of the image.
abbrev pub bad_word : Geometry → Tables → ℕ → Bool
bad_word g t m = not (slice_index t.indicators m == slice_index (shown_image g t) m)

-- Refusal 10: a word of the store is neither empty nor a pattern, or one of the indicators is not
-- that of the image of what the store shows, padding bits included (rule 8.12).
unfoldable pub bad_tables : Geometry → Tables → Bool
bad_tables g t = any g.depth (bad_entry g t) || any (indicator_words g) (bad_word g t)

-- The whole table at a resume (rule 9.3).
unfoldable pub resume_refusals : Geometry → Tables → List RefusalRow
resume_refusals g t =
    1 given_when not (is_valid g)
    ∷ 2 given_when bad_lengths g t
    ∷ 10 given_when bad_tables g t
    ∷ []

-- What a resume leaves: the number of its refusal, none where it is accepted; and both tables.
pub record Resumption : Type 0 where
  pub refusal : Option ℕ
  pub tables : Tables

-- A resume writes no word, accepted or not (rule 8.12).
unfoldable pub resume_step : Geometry → Tables → Resumption
resume_step g t = record { refusal = first_refusal (resume_refusals g t); tables = t }
