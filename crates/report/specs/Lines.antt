-- The lines that are printed: items with one space between them (docs/MEMORY.md, section 14).
use Rattle.std.specs.Prelude.{ℕ, List, [], ◌∷◌, ◌++◌, codes, decimal}
use Rattle.geometry.specs.declared.Geometry.{Geometry}
use Rattle.reference.specs.Calls.{Answer}
use Rattle.figures.specs.Figures.{Bytes}
use Rattle.answers.specs.Items.{line_end, answer_items}

-- A line of its items (rule 14.3).
abbrev pub line : (first : Bytes) → (others : List Bytes) → Bytes
line first others = first ++ line_end others

-- The line of a command: its number, and the answer to it (rule 14.2).
abbrev pub answer_line : (number : ℕ) → Answer → Bytes
answer_line k x = line (decimal k) (answer_items x)

-- The line of the geometry (rule 14.1).
unfoldable pub first_line : Geometry → Bytes
first_line g =
    line (codes "kind")
    (decimal g.kind
    ∷ codes "depth" ∷ decimal g.depth
    ∷ codes "width" ∷ decimal g.pattern_width
    ∷ codes "set" ∷ decimal g.set_width
    ∷ [])

-- The report of a stopped job (rule 14.1).
unfoldable pub stop_line : (number : ℕ) → Bytes
stop_line n = line (codes "job") (codes "no" ∷ decimal n ∷ [])
