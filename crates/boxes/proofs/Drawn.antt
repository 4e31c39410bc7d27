-- The stages as they are drawn: what goes into its box is the stage, so that each value is below
-- 2^(its width), and all of them put back in their places are the pattern. By the kind and, in the
-- cascaded one, by whether the pattern fills the box.
use Rattle.std.proofs.Common.{◌≡◌, ℕ, zero, suc, ◌+◌, ◌*◌, ◌/◌, ◌%◌, ◌^◌, ◌<◌, ◌≤◌, Bool, true, false, eqb, ltb, refl, sym, ap, ◌∙◌, div-one, arith, ltb-false, ltb-true, le-ltb, lt-ltb}
use Rattle.geometry.specs.declared.Geometry.{Geometry}
use Rattle.boxes.specs.declared.StageBox.{StageBox}
use Rattle.boxes.specs.declared.StageBox.TheVariants.{NarrowLast, Whole}
use Rattle.geometry.specs.Valid.{cascaded}
use Rattle.geometry.specs.Sizes.{patterns}
use Rattle.geometry.specs.Stages.{stages, stage_width, stage, put_back}
use Rattle.boxes.specs.Drawn.{nine, box_of, box_value, drawn_stage}
use Rattle.geometry.proofs.Facts.{Facts}
use Rattle.geometry.proofs.Stages.{stage-lt, width_inner, width_last, same_put_back, stages_restore, stages-cascaded, one_stage_kind, one_width}

-- which box stage k has, by the kind and by how many nines a pattern fills
module _ (g : Geometry) (k : ℕ) where
  pub box_nine : eqb g.kind cascaded ≡ true → k < g.pattern_width / 9 → box_of g k ≡ nine k
  unfolding box_of
  box_nine c l = rw (c, lt-ltb _ _ l)

  pub box_narrow : eqb g.kind cascaded ≡ true → g.pattern_width / 9 ≤ k → box_of g k ≡ NarrowLast
  unfolding box_of
  box_narrow c l = rw (c, le-ltb _ _ l)

  pub box_whole : eqb g.kind cascaded ≡ false → box_of g k ≡ Whole
  unfolding box_of
  box_whole c = rw c

module _ (g : Geometry) (f : Facts g) where
  -- the nines have nine bits each, from where their stage begins
  nines : (k p : ℕ) → k < 3 → box_value g (nine k) p ≡ p / 2 ^ (9 * k) % 2 ^ 9
  unfolding box_value
  nines zero p h = omega arith
  nines (suc zero) p h = refl
  nines (suc (suc zero)) p h = refl
  nines (suc (suc (suc k))) p h = omega arith

  -- a stage that a pattern fills has nine bits
  filled : eqb g.kind cascaded ≡ true → (k : ℕ) → k < stages g → k < g.pattern_width / 9 → stage_width g k ≡ 9
  filled c k h l = go (ltb (k + 1) (stages g)) refl
    where
      go : (b : Bool) → ltb (k + 1) (stages g) ≡ b → stage_width g k ≡ 9
      go true t = width_inner g f k (ltb-true (k + 1) (stages g) t)
      go false t =
          let past = ltb-false (k + 1) (stages g) t in
          width_last g f k (omega arith) ∙ omega (arith, stages-cascaded g f c)

  -- the cases are `stage`, whatever the pattern
  pub drawn_stage_is_stage : (k p : ℕ) → k < stages g → drawn_stage g k p ≡ stage g k p
  unfolding box_value stage
  drawn_stage_is_stage k p h = go (eqb g.kind cascaded) (ltb k (g.pattern_width / 9)) refl refl
    where
      go : (c l : Bool) → eqb g.kind cascaded ≡ c → ltb k (g.pattern_width / 9) ≡ l → drawn_stage g k p ≡ p / 2 ^ (9 * k) % 2 ^ stage_width g k
      go true true c l =
          let full = ltb-true k (g.pattern_width / 9) l in
          rw (box_nine g k c full, filled c k h full) (nines k p (omega arith))
      go true false c l =
          let past = ltb-false k (g.pattern_width / 9) l in
          let last : k + 1 ≡ stages g = omega (arith, stages-cascaded g f c) in
          let start : g.pattern_width / 9 ≡ k = omega (arith, stages-cascaded g f c) in
          let width : g.pattern_width % 9 ≡ stage_width g k = omega (arith, width_last g f k last) in
          rw (box_narrow g k c past, start, width)
      go false l c el =
          let one = one_stage_kind g f c in
          let first : k ≡ 0 = omega arith in
          rw (box_whole g k c, first, one_width g f one) (ap (λ n. n % 2 ^ g.pattern_width) (sym (div-one p)))

  -- the same of a box that the code has found
  pub box_stage : (k p : ℕ) (box : StageBox) → k < stages g → box ≡ box_of g k → box_value g box p ≡ stage g k p
  box_stage k p box h e = rw e (drawn_stage_is_stage k p h)

  -- each is below 2^(its width)
  pub drawn_stage-lt : (k p : ℕ) → k < stages g → drawn_stage g k p < 2 ^ stage_width g k
  drawn_stage-lt k p h = rw (drawn_stage_is_stage k p h) (stage-lt g f k p)

  -- put back in their places they are the pattern
  pub drawn_stages_restore : (p : ℕ) → p < patterns g → put_back (stages g) (λ k. drawn_stage g k p) ≡ p
  drawn_stages_restore p h = same_put_back (stages g) (λ k l. drawn_stage_is_stage k p l) ∙ stages_restore g f p h
