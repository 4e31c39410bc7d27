-- Marking in the match word, and the sets that a row word indicates.
use Rattle.std.specs.Prelude.{ℕ, ◌+◌, ◌*◌, ◌/◌, ◌%◌, Bool, ◌&&◌, List, length, ◌==◌, slice_index}
use Rattle.std.specs.Int.Bits.{bit_or}
use Rattle.words.specs.Rules.{tabulate}
use Rattle.words.specs.Bits.{bit, word}

-- Words in which the bits of the places that have r are set besides.
unfoldable pub marked_words : (ℕ → Bool) → List ℕ → List ℕ
marked_words r ws =
    tabulate (length ws) (λ j. bit_or (slice_index ws j) (word 64 (λ b. r (64 * j + b))))

-- Whether row word j, which is w, indicates the set.
abbrev pub indicates : (w j set : ℕ) → Bool
indicates w j s = s / 64 == j && bit w (s % 64)
