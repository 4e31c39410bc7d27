-- The plain array's hits are the ones in its match word: past its entries nothing holds the key.
use Rattle.std.proofs.Common.{◌≡◌, ℕ, ◌≤◌, false}
use Rattle.std.proofs.Math.ListN.{get_or-eq_default}
use Rattle.words.specs.Rules.{count}
use Rattle.words.specs.Bits.{bit_words, total_ones}
use Rattle.words.proofs.Bits.{ones_below}
use Rattle.geometry.specs.declared.Geometry.{Geometry}
use Rattle.geometry.specs.Sizes.{match_words}
use Rattle.geometry.proofs.Facts.{Facts}
use Rattle.geometry.proofs.Places.{matches_most}
use Rattle.reference.specs.Entry.{empty, holds}
use Rattle.reference.specs.Array.{Array, holds_at, IsSound}

pub hits_are : (g : Geometry) → Facts g → (es : Array) → IsSound g es → (key : ℕ)
    → total_ones (bit_words (match_words g) (holds_at es key)) ≡ count g.depth (holds_at es key)
hits_are g f es sound key = ones_below (match_words g) g.depth (holds_at es key) (matches_most g f) past
  where
    past : (a : ℕ) → g.depth ≤ a → holds_at es key a ≡ false
    past a h = unfold holds in rw (get_or-eq_default es empty {n = a} (rw sound.long h))
