-- The stages of a pattern: each is below 2^(its width), put back in their places they are the
-- pattern, and rows of different stages differ.
use Rattle.std.proofs.Common.{◌≡◌, ℕ, zero, suc, ◌+◌, ◌-◌, ◌*◌, ◌/◌, ◌%◌, ◌^◌, ◌<◌, ◌≤◌, Bool, true, false, cond, eqb, ltb, ◌⊎◌, [], ◌∷◌, length, drop, refl, sym, ap, ◌∙◌, inl, inr, mod-lt, add_comm, zero-add, mul-suc, add-one, arith, drop_of_length-le, drop-cons, pow_pos, ltb-false, ltb-true, le-ltb, lt-ltb, eq-eqb, eqb-true}
use Rattle.std.proofs.Math.Nat.{mod-one}
use Rattle.std.proofs.Math.Pow.{mod-pow-add, recompose}
use Rattle.std.specs.Int.{div_ceil}
use Rattle.words.specs.Rules.{member, tabulate}
use Rattle.words.proofs.Rules.{both_ways, any_witness, any-true, length-tabulate, get_or-tabulate, member-tabulate}
use Rattle.geometry.specs.declared.Geometry.{Geometry}
use Rattle.geometry.specs.Valid.{cascaded}
use Rattle.geometry.specs.Sizes.{patterns}
use Rattle.geometry.specs.Stages.{stages, stage_width, stage, put_back, row_of, rows_of, rows}
use Rattle.geometry.proofs.Facts.{Facts}

-- the rows of the stages before stage k
unfoldable pub rows_below : Geometry → ℕ → ℕ
rows_below g zero = 0
rows_below g (suc k) = rows_below g k + 2 ^ stage_width g k

-- equal values are put back alike
pub same_put_back : (n : ℕ) {x y : ℕ → ℕ} → ((k : ℕ) → k < n → x k ≡ y k) → put_back n x ≡ put_back n y
unfolding put_back
same_put_back zero h = refl
same_put_back (suc n) h = rw (same_put_back n (λ k l. h k (omega arith)), h n (omega arith))

module _ (g : Geometry) (f : Facts g) where
  pub stages_pos : 1 ≤ stages g
  unfolding stages
  stages_pos = go (eqb g.kind cascaded)
    where
      go : (c : Bool) → 1 ≤ cond c (div_ceil g.pattern_width 9) 1
      go true = omega arith
      go false = omega arith

  pub stage-lt : (k p : ℕ) → stage g k p < 2 ^ stage_width g k
  unfolding stage
  stage-lt k p = mod-lt _ (pow_pos (stage_width g k))

  -- nine bits in each stage but the last, which has those that are left
  pub width_inner : (k : ℕ) → k + 1 < stages g → stage_width g k ≡ 9
  unfolding stage_width
  width_inner k h = rw (lt-ltb (k + 1) (stages g) h)

  pub width_last : (k : ℕ) → k + 1 ≡ stages g → stage_width g k ≡ g.pattern_width - 9 * k
  unfolding stage_width
  width_last k e = rw (le-ltb (k + 1) (stages g) (omega arith))

  -- the last stage ends with the pattern
  last_ends : (k : ℕ) → k + 1 ≡ stages g → stage_width g k + 9 * k ≡ g.pattern_width
  last_ends k e = rw (width_last k e) (exact f.staged)
    where
      exact : (stages g ≡ 1) ⊎ (9 * stages g < g.pattern_width + 9) → g.pattern_width - 9 * k + 9 * k ≡ g.pattern_width
      exact (inl one) = omega arith
      exact (inr many) = omega arith

  -- the stages before stage n, put back in their places, are the bits below its first one
  below : (p n : ℕ) → n < stages g → put_back n (λ k. stage g k p) ≡ p % 2 ^ (9 * n)
  unfolding put_back stage
  below p zero h = sym (mod-one p)
  below p (suc n) h =
      rw (below p n (omega arith), width_inner n (omega arith), mul-suc 9 n, add_comm (9 * n) 9, mod-pow-add p 9 (9 * n)) (add_comm _ _)

  -- all stages put back in their places are the pattern
  pub stages_restore : (p : ℕ) → p < patterns g → put_back (stages g) (λ k. stage g k p) ≡ p
  unfolding put_back stage patterns
  stages_restore p h =
      let k = stages g - 1 in
      let e : suc k ≡ stages g = omega (arith, stages_pos) in
      ap (λ n. put_back n (λ k. stage g k p)) (sym e)
      ∙ rw (below p k (omega arith)) (add_comm _ _)
      ∙ recompose (stage_width g k) (9 * k) (rw (last_ends k (omega arith)) h)

  -- so that patterns with equal stages are equal
  pub stages_determine : (p q : ℕ) → p < patterns g → q < patterns g → ((k : ℕ) → k < stages g → stage g k p ≡ stage g k q) → p ≡ q
  stages_determine p q hp hq h = sym (stages_restore p hp) ∙ same_put_back (stages g) h ∙ stages_restore q hq

  -- every row of every stage is a row of the indicators
  pub row_lt : (k x : ℕ) → k < stages g → x < 2 ^ stage_width g k → 512 * k + x < rows g
  unfolding rows
  row_lt k x h small = go (ltb (k + 1) (stages g)) refl
    where
      go : (b : Bool) → ltb (k + 1) (stages g) ≡ b → 512 * k + x < 512 * (stages g - 1) + 2 ^ stage_width g (stages g - 1)
      go true t = let below = ltb-true (k + 1) (stages g) t in omega (arith, rw (width_inner k below) at small)
      go false t =
          let e : stages g - 1 ≡ k = omega (arith, ltb-false (k + 1) (stages g) t) in
          rw e (omega arith)

  -- and every row of the indicators is one of a stage
  pub row_split : (r : ℕ) → r < rows g → (k : ℕ) × (x : ℕ) × (k < stages g) × (x < 2 ^ stage_width g k) × (r ≡ 512 * k + x)
  unfolding rows
  row_split r h = go (ltb (r / 512 + 1) (stages g)) refl
    where
      go : (b : Bool) → ltb (r / 512 + 1) (stages g) ≡ b → (k : ℕ) × (x : ℕ) × (k < stages g) × (x < 2 ^ stage_width g k) × (r ≡ 512 * k + x)
      go true t =
          let below = ltb-true (r / 512 + 1) (stages g) t in
          (r / 512, r % 512, omega arith, rw (width_inner (r / 512) below) (omega arith), omega arith)
      go false t =
          let past = ltb-false (r / 512 + 1) (stages g) t in
          (stages g - 1, r - 512 * (stages g - 1), omega (arith, stages_pos), omega arith, omega arith)

  -- a value of a stage that is not the last is below 512, so a row number tells its stage and its
  -- row there
  stage_le : (k l x y : ℕ) → l < stages g → x < 2 ^ stage_width g k → 512 * k + x ≡ 512 * l + y → l ≤ k
  stage_le k l x y h small e = go (ltb k l) refl
    where
      go : (b : Bool) → ltb k l ≡ b → l ≤ k
      go true t = let below = ltb-true k l t in omega (arith, rw (width_inner k (omega arith)) at small)
      go false t = ltb-false k l t

  pub row_stage : (k l x y : ℕ) → k < stages g → l < stages g → x < 2 ^ stage_width g k → y < 2 ^ stage_width g l → 512 * k + x ≡ 512 * l + y → k ≡ l
  row_stage k l x y hk hl hx hy e = omega (arith, stage_le k l x y hl hx e, stage_le l k y x hk hy (sym e))

  -- row x of stage k is a row of the pattern p exactly when x is stage k of p
  pub row_among : (k x p : ℕ) → k < stages g → x < 2 ^ stage_width g k → member (512 * k + x) (rows_of g p) ≡ eqb x (stage g k p)
  unfolding rows_of row_of
  row_among k x p h small =
      member-tabulate (512 * k + x) (stages g) (row_of g p)
      ∙ both_ways _ _ (λ e. among (any_witness (stages g) _ e))
      (λ e. any-true (stages g) _ k h (eq-eqb _ _ (ap (λ n. 512 * k + n) (eqb-true x (stage g k p) e))))
    where
      among : (l : ℕ) × (l < stages g) × (eqb (512 * k + x) (512 * l + stage g l p) ≡ true) → eqb x (stage g k p) ≡ true
      among (l, m, e) =
          let same = eqb-true (512 * k + x) (512 * l + stage g l p) e in
          let k_is : k ≡ l = row_stage k l x (stage g l p) h m small (stage-lt l p) same in
          eq-eqb x (stage g k p) (omega (arith, rw (← k_is) at same))

  -- the cascaded kind has as many stages of nine bits as the width asks, and no more
  pub stages-cascaded : eqb g.kind cascaded ≡ true → (g.pattern_width ≤ 9 * stages g) × (9 * stages g < g.pattern_width + 9)
  unfolding stages
  stages-cascaded e = rw e (omega arith, omega arith)

  -- only the cascaded kind has more than one stage
  pub one_stage_kind : eqb g.kind cascaded ≡ false → stages g ≡ 1
  unfolding stages
  one_stage_kind e = rw e

  pub one_width : stages g ≡ 1 → stage_width g 0 ≡ g.pattern_width
  one_width one = width_last 0 (sym one) ∙ omega arith

  -- where there is one stage, it is the whole pattern, and the pattern is its row
  pub one_row : (p : ℕ) → stages g ≡ 1 → p < patterns g → row_of g p 0 ≡ p
  unfolding row_of put_back
  one_row p e h = omega (arith, rw e at (stages_restore p h))

  pub one_stage : (p : ℕ) → stages g ≡ 1 → p < patterns g → rows_of g p ≡ (p ∷ [])
  unfolding rows_of tabulate
  one_stage p e h = rw e (ap (λ (r : ℕ). r ∷ []) (one_row p e h))

  -- and there are as many rows as patterns (rule 4.4 of docs/MEMORY.md)
  pub rows-patterns : eqb g.kind cascaded ≡ false → rows g ≡ patterns g
  unfolding rows patterns
  rows-patterns e =
      let one = one_stage_kind e in
      rw (one, one_width one) (zero-add _)

  -- every stage but the last has 512 rows
  rows_before : (k : ℕ) → k < stages g → rows_below g k ≡ 512 * k
  unfolding rows_below
  rows_before zero h = refl
  rows_before (suc k) h = rw (width_inner k (omega arith)) (omega (arith, rows_before k (omega arith)))

  -- the rows of all stages, one stage after the other
  pub rows_all : rows g ≡ rows_below g (stages g)
  unfolding rows rows_below
  rows_all =
      let e : suc (stages g - 1) ≡ stages g = omega (arith, stages_pos) in
      omega (arith, rows_before (stages g - 1) (omega arith), ap (rows_below g) e)

-- The rows of a pattern, one after the other.
length-rows_of : (g : Geometry) (p : ℕ) → length (rows_of g p) ≡ stages g
unfolding rows_of
length-rows_of g p = length-tabulate (stages g) (row_of g p)

pub drop-rows_of : (g : Geometry) (p k : ℕ) → k < stages g → drop k (rows_of g p) ≡ row_of g p k ∷ drop (k + 1) (rows_of g p)
unfolding rows_of
drop-rows_of g p k h = rw (add-one, drop-cons (rows_of g p) k 0 (rw length-rows_of h), get_or-tabulate (stages g) (row_of g p) k 0 h)

pub rows_over : (g : Geometry) (p k : ℕ) → stages g ≤ k → drop k (rows_of g p) ≡ []
rows_over g p k h = drop_of_length-le (rows_of g p) {i = k} (rw length-rows_of h)
