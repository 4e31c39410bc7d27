-- Which rows a word of the store covers, by its stages.
use Rattle.std.proofs.Common.{◌≡◌, ℕ, ◌+◌, ◌*◌, ◌^◌, ◌<◌, Bool, true, false, cond, ◌&&◌, eqb, ltb, sym, ◌∙◌, eq-eqb, ne_eqb}
use Rattle.std.proofs.Math.Bool.{and-true, and-false}
use Rattle.words.specs.Rules.{member}
use Rattle.geometry.specs.declared.Geometry.{Geometry}
use Rattle.geometry.specs.Sizes.{patterns}
use Rattle.geometry.specs.Stages.{stages, stage_width, stage}
use Rattle.geometry.proofs.Facts.{Facts}
use Rattle.geometry.proofs.Stages.{row_among}
use Rattle.reference.specs.Entry.{empty, pattern, entry_of}
use Rattle.reference.specs.Image.{entry_rows, covers}

module _ (g : Geometry) (f : Facts g) where
  -- a word covers the row of value x of stage k exactly when it is a pattern and x is its stage k
  value_covers : (k x w : ℕ) → k < stages g → x < 2 ^ stage_width g k → covers g (entry_of g w) (512 * k + x) ≡ (eqb x (stage g k w) && ltb w (patterns g))
  unfolding covers entry_of entry_rows member
  value_covers k x w h small = go (ltb w (patterns g))
    where
      go : (b : Bool) → member (512 * k + x) (entry_rows g (cond b (pattern w) empty)) ≡ (eqb x (stage g k w) && b)
      go true = row_among g f k x w h small ∙ sym (and-true (eqb x (stage g k w)))
      go false = sym (and-false (eqb x (stage g k w)))

  -- the code has stage k of the word as v
  module _ (k x w : ℕ) (h : k < stages g) (small : x < 2 ^ stage_width g k) {v : ℕ} (is : v ≡ stage g k w) where
    pub value_same : v ≡ x → ltb w (patterns g) ≡ covers g (entry_of g w) (512 * k + x)
    value_same e = sym (value_covers k x w h small ∙ rw (eq-eqb x (stage g k w) (sym e ∙ is)))

    pub value_other : (v ≡ x → ⊥) → eqb v x ≡ covers g (entry_of g w) (512 * k + x)
    value_other n = ne_eqb v x n ∙ sym (value_covers k x w h small ∙ rw (ne_eqb x (stage g k w) (λ e. n (is ∙ sym e))))
