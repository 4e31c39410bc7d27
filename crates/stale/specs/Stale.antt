-- What the second look of a resume finds: a bit is stale, that is 1 where no entry of its set
-- covers its row. Padding bits that are 1 are among them (rule 8.12 of docs/MEMORY.md).
use Rattle.std.specs.Prelude.{ℕ, ◌+◌, ◌*◌, ◌^◌, Bool, not, ◌==◌, slice_index}
use Rattle.std.specs.Int.Bits.{bit_and}
use Rattle.words.specs.Rules.{any}
use Rattle.geometry.specs.declared.Geometry.{Geometry}
use Rattle.geometry.specs.Sizes.{row_words}
use Rattle.geometry.specs.Stages.{stages, stage_width}
use Rattle.cover.specs.Image.{image_word}
use Rattle.reference.specs.Tables.{Tables}
use Rattle.reference.specs.Image.{store_cover}

-- Whether a word has a bit that another one has not.
unfoldable pub exceeds : (w other : ℕ) → Bool
exceeds w v = not (bit_and w v == w)

-- Whether a bit is stale: in a word of a row, in a row, in the rows of a stage, anywhere.
abbrev pub word_is_stale : Geometry → Tables → (row j : ℕ) → Bool
word_is_stale g t r j =
    exceeds (slice_index t.indicators (row_words g * r + j)) (image_word g (store_cover g t) r j)

unfoldable pub row_is_stale : Geometry → Tables → (row : ℕ) → Bool
row_is_stale g t r = any (row_words g) (word_is_stale g t r)

unfoldable pub stage_is_stale : Geometry → Tables → (k : ℕ) → Bool
stage_is_stale g t k = any (2 ^ stage_width g k) (λ x. row_is_stale g t (512 * k + x))

unfoldable pub any_is_stale : Geometry → Tables → Bool
any_is_stale g t = any (stages g) (stage_is_stale g t)
