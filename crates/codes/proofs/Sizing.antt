-- From the check of a geometry to the number that is given for a length, whichever it is.
use Rattle.std.proofs.Common.{◌≡◌, ℕ, ◌^◌, ◌<◌, Err, sym, ap, ◌∙◌, arith}
use Rattle.geometry.specs.declared.Geometry.{Geometry}
use Rattle.geometry.specs.Sizes.{match_words}
use Rattle.geometry.proofs.Facts.{facts}
use Rattle.geometry.proofs.Bounds.{words_few, indicators_few}
use Rattle.sizes.specs.declared.Sizes.{Sizes}
use Rattle.checks.specs.declared.Refusal.{Refusal}
use Rattle.checks.specs.declared.Refusal.TheVariants.{BadGeometry}
use Rattle.checks.specs.Checks.{number_of, checked_sizes}
use Rattle.sizes.specs.SizesOf.{IsSized}
use Rattle.checks.proofs.Acceptance.{checked_sizes_refused}
use Rattle.codes.specs.Codes.{size_code}

pub size_refused : (g : Geometry) {why : Refusal} {n : ℕ} (words : Geometry → ℕ) → Err why ≡ checked_sizes g → n ≡ number_of why → n ≡ size_code g words
unfolding size_code checked_sizes
size_refused g {why} words is number =
    let bad = checked_sizes_refused g why (sym is) in
    let which : BadGeometry ≡ why = cc in
    rw bad (number ∙ ap number_of (sym which))

-- There is room for 256 more, whichever length it is.
pub lengths_few : {g : Geometry} {z : Sizes} → IsSized g z → (z.indicator_words < 2 ^ 35) × (z.match_words < 2 ^ 35) × (z.row_words < 2 ^ 35)
unfolding match_words
lengths_few {g} s =
    let f = facts g s.valid in
    (omega (arith, s.same_indicators, indicators_few g f), omega (arith, s.same_matches, f.depth_most), omega (arith, s.same_words, words_few g f))
