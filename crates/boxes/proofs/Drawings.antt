-- Patterns as they are drawn, computed: rows of one table.
use Rattle.std.proofs.Common.{◌≡◌, ℕ, List, [], ◌∷◌, map, refl}
use Rattle.words.specs.Rules.{tabulate}
use Rattle.geometry.specs.declared.Geometry.{Geometry}
use Rattle.geometry.specs.Stages.{stages}
use Rattle.geometry.proofs.Boundaries.{four}
use Rattle.boxes.specs.declared.StageBox.{StageBox}
use Rattle.boxes.specs.declared.StageBox.TheVariants.{LowNine, MiddleNine, TopNine, NarrowLast, Whole}
use Rattle.boxes.specs.Drawn.{box_of, box_value, drawn_stage}

-- A pattern with the boxes of its stages, from the low end on, and what goes into each.
pub record Drawing : Type 0 where
  pub geometry : Geometry
  pub pattern : ℕ
  pub boxes : List StageBox
  pub values : List ℕ

abbrev pub drawing : (kind width pattern : ℕ) → List StageBox → List ℕ → Drawing
drawing k w p bs vs = record { geometry = four k 2 w 1; pattern = p; boxes = bs; values = vs }

-- The patterns of docs/SLICES.md, which are the low bits of one number; the widths next to a nine,
-- with numbers that have bits above the pattern's; and the kinds that do not cut a pattern, at the
-- widths of every box.
abbrev pub drawings : List Drawing
drawings =
    drawing 1 5 21 (NarrowLast ∷ []) (21 ∷ [])
    ∷ drawing 1 9 277 (LowNine ∷ []) (277 ∷ [])
    ∷ drawing 1 18 104213 (LowNine ∷ MiddleNine ∷ []) (277 ∷ 203 ∷ [])
    ∷ drawing 1 19 366357 (LowNine ∷ MiddleNine ∷ NarrowLast ∷ []) (277 ∷ 203 ∷ 1 ∷ [])
    ∷ drawing 1 27 93689621 (LowNine ∷ MiddleNine ∷ TopNine ∷ []) (277 ∷ 203 ∷ 357 ∷ [])
    ∷ drawing 1 8 93689621 (NarrowLast ∷ []) (21 ∷ [])
    ∷ drawing 1 10 93689621 (LowNine ∷ NarrowLast ∷ []) (277 ∷ 1 ∷ [])
    ∷ drawing 1 17 93689621 (LowNine ∷ NarrowLast ∷ []) (277 ∷ 203 ∷ [])
    ∷ drawing 1 26 93689621 (LowNine ∷ MiddleNine ∷ NarrowLast ∷ []) (277 ∷ 203 ∷ 101 ∷ [])
    ∷ drawing 1 27 4294967295 (LowNine ∷ MiddleNine ∷ TopNine ∷ []) (511 ∷ 511 ∷ 511 ∷ [])
    ∷ drawing 0 5 21 (Whole ∷ []) (21 ∷ []) ∷ drawing 2 9 277 (Whole ∷ []) (277 ∷ [])
    ∷ drawing 0 12 93689621 (Whole ∷ []) (1813 ∷ []) ∷ drawing 2 12 93689621 (Whole ∷ []) (1813 ∷ []) ∷ []

-- The numbers of its stages.
abbrev pub drawn_stages : Drawing → List ℕ
drawn_stages d = tabulate (stages d.geometry) (λ k. k)

pub drawings_hold :
    (map (λ (d : Drawing). map (box_of d.geometry) (drawn_stages d)) drawings ≡ map (λ (d : Drawing). d.boxes) drawings)
    × (map (λ (d : Drawing). map (λ k. drawn_stage d.geometry k d.pattern) (drawn_stages d)) drawings ≡ map (λ (d : Drawing). d.values) drawings)
unfolding stages box_of box_value tabulate
drawings_hold = (refl, refl)
