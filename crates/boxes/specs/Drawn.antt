-- The stages of a pattern by cases, as they are drawn (rule 4.5 of docs/MEMORY.md; docs/SLICES.md
-- has the drawings). `stage` of geometry says the same by one formula.
use Rattle.std.specs.Prelude.{ℕ, ◌*◌, ◌/◌, ◌%◌, ◌^◌, if◌then◌else◌, nat_lt, ◌==◌}
use Rattle.geometry.specs.declared.Geometry.{Geometry}
use Rattle.boxes.specs.declared.StageBox.{StageBox}
use Rattle.boxes.specs.declared.StageBox.TheVariants.{LowNine, MiddleNine, TopNine, NarrowLast, Whole}
use Rattle.geometry.specs.Valid.{cascaded}

-- The nines from the low end on.
abbrev pub nine : (k : ℕ) → StageBox
nine k = if k == 0 then LowNine else if k == 1 then MiddleNine else TopNine

-- The box of stage k: one of the nines that a pattern fills, and behind them the narrow one, which
-- is the last. Only the cascaded kind cuts a pattern.
unfoldable pub box_of : Geometry → (k : ℕ) → StageBox
box_of g k =
    if g.kind == cascaded
    then (if nat_lt k (g.pattern_width / 9) then nine k else NarrowLast)
    else Whole

-- What of pattern p goes into a box. The narrow one has the bits above all nines.
unfoldable pub box_value : Geometry → StageBox → (p : ℕ) → ℕ
box_value g LowNine p = p % 512
box_value g MiddleNine p = p / 2 ^ 9 % 512
box_value g TopNine p = p / 2 ^ 18 % 512
box_value g NarrowLast p = p / 2 ^ (9 * (g.pattern_width / 9)) % 2 ^ (g.pattern_width % 9)
box_value g Whole p = p % 2 ^ g.pattern_width

-- The value of stage k of pattern p, by its box.
abbrev pub drawn_stage : Geometry → (k p : ℕ) → ℕ
drawn_stage g k p = box_value g (box_of g k) p
