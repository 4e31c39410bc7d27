-- Which four numbers are a geometry (docs/MEMORY.md, section 2).
use Rattle.std.specs.Prelude.{ℕ, Bool, false, ◌&&◌, if◌then◌else◌, nat_le, ◌==◌}
use Rattle.geometry.specs.declared.Geometry.{Geometry}

-- The kinds (rule 2.2).
abbrev pub transposed : ℕ
transposed = 0

abbrev pub cascaded : ℕ
cascaded = 1

abbrev pub segmented : ℕ
segmented = 2

-- low ≤ n ≤ high.
abbrev pub is_between : ℕ → ℕ → ℕ → Bool
is_between low high n = nat_le low n && nat_le n high

-- The segmented kind's set width (rule 2.4).
abbrev pub segmented_rule : (depth set : ℕ) → Bool
segmented_rule depth set = is_between 1 64 set && nat_le set depth

-- What a kind asks of the depth and both widths (rules 2.3 and 2.4).
unfoldable pub kind_rule : (kind depth width set : ℕ) → Bool
kind_rule kind depth width set =
    if kind == transposed then is_between 1 12 width && set == 1
    else if kind == cascaded then is_between 1 27 width && set == 1
    else if kind == segmented then is_between 1 12 width && segmented_rule depth set else false

-- Rules 2.2 to 2.4. Refusal 1 is given exactly where this is false.
unfoldable pub is_valid : Geometry → Bool
unfolding kind_rule
is_valid g = is_between 1 4096 g.depth && kind_rule g.kind g.depth g.pattern_width g.set_width
