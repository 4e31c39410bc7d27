-- Bounds of the sizes of a valid geometry, for the code: with these no operation of it can wrap.
use Rattle.std.proofs.Common.{◌≡◌, ℕ, ◌+◌, ◌-◌, ◌*◌, ◌^◌, ◌<◌, ◌≤◌, Bool, true, false, cond, ltb, ◌⊎◌, inl, inr, mul-le-mul_right, arith, pow_mono}
use Rattle.geometry.specs.declared.Geometry.{Geometry}
use Rattle.geometry.specs.Sizes.{sets, row_words}
use Rattle.geometry.specs.Stages.{stages, stage_width, stage, row_of, rows, indicator_words}
use Rattle.geometry.proofs.Facts.{Facts}
use Rattle.geometry.proofs.Places.{set_begins, sets_pos}
use Rattle.geometry.proofs.Stages.{stages_pos, stage-lt, row_lt}

module _ (g : Geometry) (f : Facts g) where
  pub sets_few : sets g ≤ 4096
  sets_few = omega (arith, f.set_pos, set_begins g f (sets g - 1) (omega (arith, sets_pos g f)), mul-le-mul_right (sets g - 1) f.set_pos)

  pub words_few : row_words g ≤ 64
  unfolding row_words
  words_few = omega (arith, sets_few)

  -- a stage starts within the pattern
  pub stage_starts : (k : ℕ) → k < stages g → 9 * k < g.pattern_width
  stage_starts k h = go f.staged
    where
      go : (stages g ≡ 1) ⊎ (9 * stages g < g.pattern_width + 9) → 9 * k < g.pattern_width
      go (inl one) = omega arith
      go (inr many) = omega arith

  pub stages_few : stages g ≤ 3
  stages_few = omega (arith, stage_starts (stages g - 1) (omega (arith, stages_pos g f)))

  pub width_few : (k : ℕ) → stage_width g k ≤ 27
  unfolding stage_width
  width_few k = go (ltb (k + 1) (stages g))
    where
      go : (inner : Bool) → cond inner 9 (g.pattern_width - 9 * k) ≤ 27
      go true = omega arith
      go false = omega arith

  pub rows_few : rows g < 2 ^ 28
  unfolding rows
  rows_few = omega (arith, stages_few, pow_mono (width_few (stages g - 1)))

  pub row_few : (p k : ℕ) → k < stages g → row_of g p k < 2 ^ 28
  unfolding row_of
  row_few p k h = omega (arith, rows_few, row_lt g f k (stage g k p) h (stage-lt g f k p))

  pub indicators_few : indicator_words g < 2 ^ 35
  unfolding indicator_words
  indicators_few = omega (arith, rows_few, mul-le-mul_right (rows g) words_few)
