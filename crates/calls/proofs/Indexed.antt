-- The words of the indicators that the code reads and writes are there, and so is the set of an
-- address.
use Rattle.std.proofs.Common.{◌≡◌, ℕ, ◌+◌, ◌*◌, ◌/◌, ◌<◌, true}
use Rattle.geometry.specs.declared.Geometry.{Geometry}
use Rattle.geometry.specs.Valid.{is_valid}
use Rattle.geometry.specs.Sizes.{sets, row_words, set_of}
use Rattle.geometry.specs.Stages.{stage, row_of}
use Rattle.geometry.proofs.Facts.{facts}
use Rattle.geometry.proofs.Places.{set_of-lt, word-lt, place_lt}
use Rattle.geometry.proofs.Stages.{stage-lt, row_lt}
use Rattle.sizes.specs.declared.Sizes.{Sizes}
use Rattle.checks.specs.Passed.{IsLent}

-- word j of a pattern's row in stage k is a word of the indicators
pub word_within : (g : Geometry) (s : Sizes) (store indicators : ℕ) → IsLent g s store indicators → (p k r j : ℕ) → k < s.stages → r ≡ row_of g p k
    → j < row_words g → s.row_words * r + j < indicators
unfolding row_of
word_within g s store indicators lent p k r j hk e hj =
    let f = facts g lent.sized.valid in
    let row = row_lt g f k (stage g k p) (rw lent.sized.same_stages at hk) (stage-lt g f k p) in
    rw (lent.words, lent.sized.same_words, e) (place_lt g f (row_of g p k) j row hj)

-- the word with the bit of set s in row r is one of the n words
pub place_within : {g : Geometry} {sizes : Sizes} {store ind n k s r : ℕ} (p : ℕ) → IsLent g sizes store ind → n ≡ ind → k < sizes.stages
    → r ≡ row_of g p k → s < sets g → sizes.row_words * r + s / 64 < n
place_within {g} {sizes} {store} {ind} {k = k} {s} {r} p l en hk er hs =
    rw en (word_within g sizes store ind l p k r (s / 64) hk er (word-lt g (facts g l.sized.valid) s hs))

-- the set of an address, which the code has as s
pub set_within : (g : Geometry) {a s : ℕ} → is_valid g ≡ true → a < g.depth → s ≡ set_of g a → s < sets g
set_within g {a} ok h e = rw e (set_of-lt g (facts g ok) a h)
