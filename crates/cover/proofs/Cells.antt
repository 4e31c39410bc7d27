-- Every bit of the indicators after some rows of one set are changed: those bits as the change
-- says, all others as they were. One lemma for setting and clearing, by induction on the rows.
use Rattle.std.proofs.Common.{◌≡◌, ℕ, ◌+◌, ◌*◌, ◌/◌, ◌%◌, ◌<◌, Bool, true, false, not, ◌&&◌, ◌||◌, eqb, List, [], ◌∷◌, length, refl, sym, ap, ◌∙◌, arith, eq-eqb}
use Rattle.std.proofs.Math.Bool.{or-true, and_assoc}
use Rattle.words.specs.Rules.{member}
use Rattle.words.specs.Bits.{bit, set_bit, clear_bit, change_bit}
use Rattle.words.proofs.Bits.{bit-set_bit, bit-clear_bit, bit-change_bit, length-change_bit}
use Rattle.geometry.specs.declared.Geometry.{Geometry}
use Rattle.geometry.specs.Sizes.{sets, row_words}
use Rattle.geometry.specs.Stages.{rows, indicator_words}
use Rattle.geometry.proofs.Facts.{Facts}
use Rattle.geometry.proofs.Places.{word-lt, place_lt, place_same}
use Rattle.cover.specs.Image.{cell, belongs}
use Rattle.cover.specs.Change.{change}

pub length-change : (f : ℕ → ℕ → ℕ) (g : Geometry) (s : ℕ) (rs ind : List ℕ) → length (change f g s rs ind) ≡ length ind
unfolding change
length-change f g s [] ind = refl
length-change f g s (r ∷ rs) ind = length-change f g s rs _ ∙ length-change_bit f ind _ _

-- f changes single bits as op does.
module _ (f : ℕ → ℕ → ℕ) (op : Bool → Bool → Bool)
    (changes : (n i b : ℕ) → bit (f n i) b ≡ op (eqb b i) (bit n b))
    (skip : (x : Bool) → op false x ≡ x)
    (twice : (x y z : Bool) → op x (op y z) ≡ op (y || x) z)
    (g : Geometry) (facts : Facts g) (s : ℕ) (inside : s < sets g) where
  one : (x : ℕ) (ind : List ℕ) → x < rows g → length ind ≡ indicator_words g → (r j b : ℕ) → j < row_words g
      → cell g (change_bit f ind (row_words g * x + s / 64) (s % 64)) r j b ≡ op (eqb r x && belongs s j b) (cell g ind r j b)
  one x ind hx long r j b hj =
      let here = word-lt g facts s inside in
      bit-change_bit f op changes skip ind (row_words g * x + s / 64) (s % 64) (omega (arith, place_lt g facts x (s / 64) hx here)) (row_words g * r + j) b
      ∙ ap (λ h. op h (cell g ind r j b))
      (rw (place_same g facts r j x (s / 64) hj here) (and_assoc (eqb r x) (eqb j (s / 64)) (eqb b (s % 64))))

  pub cell-change : (rs ind : List ℕ) → ((r : ℕ) → member r rs ≡ true → r < rows g) → length ind ≡ indicator_words g → (r j b : ℕ) → j < row_words g
      → cell g (change f g s rs ind) r j b ≡ op (member r rs && belongs s j b) (cell g ind r j b)
  unfolding change member
  cell-change [] ind hrs long r j b hj = sym (skip _)
  cell-change (x ∷ rs) ind hrs long r j b hj =
      cell-change rs _ (λ y h. hrs y (rw h (or-true (eqb y x)))) (length-change_bit f ind _ _ ∙ long) r j b hj
      ∙ ap (op (member r rs && belongs s j b)) (one x ind (hrs x (rw (eq-eqb x x refl))) long r j b hj)
      ∙ twice (member r rs && belongs s j b) (eqb r x && belongs s j b) (cell g ind r j b)
      ∙ ap (λ h. op h (cell g ind r j b)) (join (eqb r x) (member r rs) (belongs s j b))
    where
      join : (x y h : Bool) → (x && h) || (y && h) ≡ (x || y) && h
      join true true true = refl
      join true true false = refl
      join true false true = refl
      join true false false = refl
      join false y h = refl

pub set_cell : (g : Geometry) (facts : Facts g) (s : ℕ) → s < sets g → (rs ind : List ℕ) → ((r : ℕ) → member r rs ≡ true → r < rows g)
    → length ind ≡ indicator_words g → (r j b : ℕ) → j < row_words g
    → cell g (change set_bit g s rs ind) r j b ≡ ((member r rs && belongs s j b) || cell g ind r j b)
set_cell = cell-change set_bit (λ h x. h || x) bit-set_bit (λ x. refl) twice
  where
    twice : (x y z : Bool) → x || (y || z) ≡ (y || x) || z
    twice true true z = refl
    twice true false z = refl
    twice false true z = refl
    twice false false z = refl

pub clear_cell : (g : Geometry) (facts : Facts g) (s : ℕ) → s < sets g → (rs ind : List ℕ) → ((r : ℕ) → member r rs ≡ true → r < rows g)
    → length ind ≡ indicator_words g → (r j b : ℕ) → j < row_words g
    → cell g (change clear_bit g s rs ind) r j b ≡ (not (member r rs && belongs s j b) && cell g ind r j b)
clear_cell = cell-change clear_bit (λ h x. not h && x) bit-clear_bit (λ x. refl) twice
  where
    twice : (x y z : Bool) → not x && (not y && z) ≡ not (y || x) && z
    twice true true z = refl
    twice true false z = refl
    twice false true z = refl
    twice false false z = refl
