-- Single bits of a number, and the number that has given bits.
use Rattle.std.specs.Prelude.{ℕ, zero, suc, ◌+◌, ◌-◌, ◌*◌, ◌/◌, ◌%◌, ◌^◌, min, Bool, true, false, List, [], ◌∷◌, if◌then◌else◌, ◌==◌, slice_index, slice_set}
use Rattle.std.specs.Int.Bits.{bit_or, bit_xor}
use Rattle.words.specs.Rules.{count, tabulate}

-- Bit i of n; bit 0 is worth 1.
unfoldable pub bit : ℕ → ℕ → Bool
bit n i = n / 2 ^ i % 2 == 1

-- n with bit i set.
unfoldable pub set_bit : ℕ → ℕ → ℕ
set_bit n i = bit_or n (2 ^ i)

-- n with bit i cleared: set, and then taken away.
unfoldable pub clear_bit : ℕ → ℕ → ℕ
clear_bit n i = bit_xor (bit_or n (2 ^ i)) (2 ^ i)

-- n without its bits below bit i.
unfoldable pub bits_from : ℕ → ℕ → ℕ
bits_from n i = n / 2 ^ i * 2 ^ i

-- n with bit i set where v holds, and else cleared.
abbrev pub put_bit : (v : Bool) → ℕ → ℕ → ℕ
put_bit true = set_bit
put_bit false = clear_bit

-- Words with bit b of word m changed by f, which sets or clears it.
unfoldable pub change_bit : (ℕ → ℕ → ℕ) → (words : List ℕ) → (m b : ℕ) → List ℕ
change_bit f ws m b = slice_set ws m (f (slice_index ws m) b)

-- A row has a bit for each of n places, 64 in a word: the bits of word j that stand for a place.
-- The others are padding.
unfoldable pub row_mask : (n j : ℕ) → ℕ
row_mask n j = 2 ^ min 64 (n - 64 * j) - 1

-- The number whose bit i is r i for each i below n, with no bit from n on.
unfoldable pub word : ℕ → (ℕ → Bool) → ℕ
word zero r = 0
word (suc n) r = (if r 0 then 1 else 0) + 2 * word n (λ i. r (suc i))

-- n words of 64 bits that have a bit for each place: bit b of word j is that of place 64 × j + b,
-- and is 1 where r holds.
unfoldable pub bit_words : ℕ → (ℕ → Bool) → List ℕ
bit_words n r = tabulate n (λ j. word 64 (λ b. r (64 * j + b)))

-- The ones in some words of 64 bits.
unfoldable pub total_ones : List ℕ → ℕ
total_ones [] = 0
total_ones (w ∷ ws) = count 64 (bit w) + total_ones ws
