-- An entry that covers every row of a pattern holds it: the stages of a pattern determine it.
use Rattle.std.proofs.Common.{◌≡◌, ℕ, ◌<◌, Bool, true, false, cond, eqb, ltb, refl, sym, ◌∙◌, arith, ltb-false, ltb-true, lt-ltb, eq-eqb, ne_eqb, eqb-true}
use Rattle.std.proofs.Math.Bool.{false≢true}
use Rattle.words.specs.Rules.{member}
use Rattle.geometry.specs.declared.Geometry.{Geometry}
use Rattle.geometry.specs.Sizes.{patterns}
use Rattle.geometry.specs.Stages.{stages, stage, row_of, rows_of}
use Rattle.geometry.proofs.Facts.{Facts}
use Rattle.geometry.proofs.Stages.{stages_pos, stage-lt, stages_determine, row_among}
use Rattle.reference.specs.Entry.{empty, pattern, entry_of, holds}
use Rattle.reference.specs.Image.{entry_rows, covers}

module _ (g : Geometry) (f : Facts g) (key : ℕ) (small : key < patterns g) where
  -- a word of the store holds the key exactly when it is the key
  pub holds-entry_of : (w : ℕ) → holds (entry_of g w) key ≡ eqb w key
  unfolding holds entry_of
  holds-entry_of w = go (ltb w (patterns g)) refl
    where
      go : (b : Bool) → ltb w (patterns g) ≡ b → holds (cond b (pattern w) empty) key ≡ eqb w key
      go true e = refl
      go false e = sym (ne_eqb w key (λ q. omega (arith, ltb-false w (patterns g) e)))

  -- a pattern among whose rows are all of the key's is the key
  rows_same : (p : ℕ) → p < patterns g → ((k : ℕ) → k < stages g → member (row_of g key k) (rows_of g p) ≡ true) → p ≡ key
  unfolding row_of
  rows_same p h shared =
      stages_determine g f p key h small
      (λ k l. sym (eqb-true (stage g k key) (stage g k p) (sym (row_among g f k (stage g k key) p l (stage-lt g f k key)) ∙ shared k l)))

  -- an entry that covers every row of the key is the key, and the key's entry covers them
  pub covers_key : (w : ℕ) → ((k : ℕ) → k < stages g → covers g (entry_of g w) (row_of g key k) ≡ true) → eqb w key ≡ true
  unfolding covers entry_of entry_rows member
  covers_key w all = go (ltb w (patterns g)) refl all
    where
      go : (b : Bool) → ltb w (patterns g) ≡ b → ((k : ℕ) → k < stages g → member (row_of g key k) (entry_rows g (cond b (pattern w) empty)) ≡ true) → eqb w key ≡ true
      go true e rows = eq-eqb w key (rows_same w (ltb-true w (patterns g) e) rows)
      go false e rows = absurd (false≢true (rows 0 (stages_pos g f)))

  pub key_covers : (w k : ℕ) → eqb w key ≡ true → k < stages g → covers g (entry_of g w) (row_of g key k) ≡ true
  unfolding covers entry_of entry_rows row_of
  key_covers w k e h =
      rw (eqb-true w key e, lt-ltb key (patterns g) small)
      (row_among g f k (stage g k key) key h (stage-lt g f k key) ∙ eq-eqb (stage g k key) (stage g k key) refl)
