-- The stages of a pattern and the rows that a pattern has (docs/MEMORY.md, sections 3 and 4). Rows
-- are numbered through all stages, value x of stage k having row 512 * k + x, so word j of a row
-- stands at its number times the words of a row, plus j.
use Rattle.std.specs.Prelude.{ℕ, zero, suc, ◌+◌, ◌-◌, ◌*◌, ◌/◌, ◌%◌, ◌^◌, Bool, ◌&&◌, List, if◌then◌else◌, nat_lt, ◌==◌}
use Rattle.std.specs.Int.{div_ceil}
use Rattle.words.specs.Rules.{tabulate}
use Rattle.geometry.specs.declared.Geometry.{Geometry}
use Rattle.geometry.specs.Valid.{cascaded}
use Rattle.geometry.specs.Sizes.{row_words}

-- Only the cascaded kind cuts a pattern; in the others it is one stage whole (rule 4.1).
unfoldable pub stages : Geometry → ℕ
stages g = if g.kind == cascaded then div_ceil g.pattern_width 9 else 1

-- Nine bits, but for the last stage, which has those that are left (rule 4.1).
unfoldable pub stage_width : Geometry → ℕ → ℕ
stage_width g k = if nat_lt (k + 1) (stages g) then 9 else g.pattern_width - 9 * k

-- The value of stage k of pattern p (rule 4.2).
unfoldable pub stage : Geometry → (k p : ℕ) → ℕ
stage g k p = p / 2 ^ (9 * k) % 2 ^ stage_width g k

-- The values of n stages put back in their places: that of stage k from bit 9 * k on (rule 4.5).
unfoldable pub put_back : (n : ℕ) → (value : ℕ → ℕ) → ℕ
put_back zero value = 0
put_back (suc n) value = put_back n value + value n * 2 ^ (9 * n)

-- The row of stage k of pattern p (rule 4.3).
unfoldable pub row_of : Geometry → (p k : ℕ) → ℕ
row_of g p k = 512 * k + stage g k p

-- The rows of pattern p, one in each stage.
unfoldable pub rows_of : Geometry → (p : ℕ) → List ℕ
rows_of g p = tabulate (stages g) (row_of g p)

-- The rows in all: every stage but the last has 512 (rule 4.4).
unfoldable pub rows : Geometry → ℕ
rows g = 512 * (stages g - 1) + 2 ^ stage_width g (stages g - 1)

-- The words of the indicators (rule 3.3).
unfoldable pub indicator_words : Geometry → ℕ
indicator_words g = row_words g * rows g

-- Whether both tables have their lengths: where not, refusal 2 is given (rule 9.1).
abbrev pub tables_fit : Geometry → (store indicators : ℕ) → Bool
tables_fit g store indicators = store == g.depth && indicators == indicator_words g
