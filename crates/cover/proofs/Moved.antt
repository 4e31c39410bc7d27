-- Every bit after the entry of an address came to cover other rows, on any indicators: `Cells`
-- twice, then a formula over five Booleans.
use Rattle.std.proofs.Common.{◌≡◌, ℕ, ◌<◌, Bool, true, false, cond, not, ◌&&◌, ◌||◌, List, length, refl, sym, ap, ◌∙◌}
use Rattle.std.proofs.Math.Bool.{and-eq-true_iff}
use Rattle.words.specs.Rules.{member}
use Rattle.words.specs.Bits.{set_bit}
use Rattle.words.proofs.Rules.{member-filter}
use Rattle.geometry.specs.declared.Geometry.{Geometry}
use Rattle.geometry.specs.Sizes.{row_words, set_of}
use Rattle.geometry.specs.Stages.{rows, indicator_words}
use Rattle.geometry.proofs.Facts.{Facts}
use Rattle.geometry.proofs.Places.{set_of-lt}
use Rattle.cover.specs.Image.{Cover, cell, belongs}
use Rattle.cover.specs.Change.{others_cover, is_released, released_rows, moved_indicators}
use Rattle.cover.proofs.Cells.{length-change, set_cell, clear_cell}

pub length-moved_indicators : (g : Geometry) (cover : Cover) (a : ℕ) (former next ind : List ℕ) → length (moved_indicators g cover a former next ind) ≡ length ind
unfolding moved_indicators
length-moved_indicators g cover a former next ind = length-change _ g (set_of g a) _ _ ∙ length-change set_bit g (set_of g a) _ _

module _ (g : Geometry) (f : Facts g) (cover : Cover) (a : ℕ) (inside : a < g.depth) (former next : List ℕ)
    (former_lt : (r : ℕ) → member r former ≡ true → r < rows g) (next_lt : (r : ℕ) → member r next ≡ true → r < rows g)
    (ind : List ℕ) (long : length ind ≡ indicator_words g) where
  s : ℕ
  s = set_of g a

  member-released_rows : (r : ℕ) → member r (released_rows g cover a former next) ≡ (member r former && (not (member r next) && not (others_cover g cover a r)))
  member-released_rows r = member-filter r (is_released g cover a next) former

  released_rows-lt : (r : ℕ) → member r (released_rows g cover a former next) ≡ true → r < rows g
  released_rows-lt r h = former_lt r ((and-eq-true_iff _ _).0 (sym (member-released_rows r) ∙ h)).0

  formula : (P Q O h c : Bool) → not ((Q && (not P && not O)) && h) && ((P && h) || c) ≡ cond h (cond P true (cond (Q && not O) false c)) c
  formula true true O true c = refl
  formula true true O false c = refl
  formula true false O true c = refl
  formula true false O false c = refl
  formula false true true true c = refl
  formula false true true false c = refl
  formula false true false true c = refl
  formula false true false false c = refl
  formula false false O true c = refl
  formula false false O false c = refl

  -- In the set of a: set where the next rows have it; else cleared where it was of the former and
  -- no other address covers it; else as it was. Every other bit is as it was.
  pub cell-moved_indicators : (r j b : ℕ) → j < row_words g
      → cell g (moved_indicators g cover a former next ind) r j b
      ≡ cond (belongs (set_of g a) j b)
      (cond (member r next) true (cond (member r former && not (others_cover g cover a r)) false (cell g ind r j b)))
      (cell g ind r j b)
  unfolding moved_indicators s
  cell-moved_indicators r j b hj =
      let in_set_is = set_of-lt g f a inside in
      clear_cell g f s in_set_is (released_rows g cover a former next) _ released_rows-lt (length-change set_bit g s next _ ∙ long) r j b hj
      ∙ ap (λ x. not (member r (released_rows g cover a former next) && belongs s j b) && x) (set_cell g f s in_set_is next ind next_lt long r j b hj)
      ∙ ap (λ x. not (x && belongs s j b) && ((member r next && belongs s j b) || cell g ind r j b)) (member-released_rows r)
      ∙ formula (member r next) (member r former) (others_cover g cover a r) (belongs s j b) (cell g ind r j b)
