-- The words of a row in the second look: where they stand, what the code finds of one, and those
-- that are 0.
use Rattle.std.proofs.Common.{◌≡◌, ℕ, ◌+◌, ◌*◌, ◌^◌, ◌<◌, Bool, length, get_or, ap, ◌∙◌, ap₂, arith}
use Rattle.geometry.specs.Sizes.{row_words}
use Rattle.geometry.proofs.Facts.{facts}
use Rattle.geometry.proofs.Bounds.{rows_few}
use Rattle.geometry.proofs.Places.{place_lt}
use Rattle.geometry.proofs.Stages.{row_lt}
use Rattle.calls.specs.Answers.{tables_in}
use Rattle.cover.specs.Image.{image_word}
use Rattle.stale.specs.Stale.{exceeds, word_is_stale}
use Rattle.stale.specs.declared.Row.{Row}
use Rattle.stale.specs.Rows.{geometry_of, number, cover_of}

-- no row has a number that is too large for the code
pub row_few : (r : Row) → number r < 2 ^ 28
row_few r = let f = facts (geometry_of r) r.tables.now.layout.sized.valid in omega (arith, rows_few _ f, row_lt _ f r.stage r.value r.is_stage r.is_value)

-- all words of a row are there
pub word_there : (r : Row) (j : ℕ) → j < row_words (geometry_of r) → r.tables.now.layout.sizes.row_words * number r + j < length r.tables.now.indicators.now
word_there r j h =
    let l = r.tables.now.lent in
    let f = facts (geometry_of r) l.sized.valid in
    rw (l.sized.same_words, l.words) (place_lt _ f (number r) j (row_lt _ f r.stage r.value r.is_stage r.is_value) h)

-- w is word j of a row that the code numbers n, and b what it found of it
pub word_told : (r : Row) (j : ℕ) {n w : ℕ} {b : Bool} → n ≡ number r → w ≡ get_or r.tables.now.indicators.now (r.tables.now.layout.sizes.row_words * n + j) 0
    → b ≡ exceeds w (image_word (geometry_of r) (cover_of r) (number r) j) → b ≡ word_is_stale (geometry_of r) (tables_in r.tables.now) (number r) j
word_told r j numbered is gave =
    gave ∙ ap (λ w. exceeds w (image_word (geometry_of r) (cover_of r) (number r) j))
    (is ∙ ap₂ (λ (a b : ℕ). get_or r.tables.now.indicators.now (a * b + j) 0) r.tables.now.layout.sized.same_words numbered)
