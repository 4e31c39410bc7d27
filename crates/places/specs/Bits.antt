-- Where sets and addresses have their bits in the lent tables (rules 3.4, 3.5 and 3.7 of
-- docs/MEMORY.md).
use Rattle.std.specs.Prelude.{ℕ, ◌+◌, ◌*◌, ◌/◌, ◌%◌, Bool, List, slice_index}
use Rattle.words.specs.Bits.{bit, set_bit, put_bit, change_bit}
use Rattle.sizes.specs.declared.Sizes.{Sizes}

-- Which word of the indicators is word j of a row.
abbrev pub word_place : Sizes → (row j : ℕ) → ℕ
word_place z r j = z.row_words * r + j

-- The bit of a set in a row, and the indicators in which it has become v.
abbrev pub row_bit : Sizes → (ind : List ℕ) → (row set : ℕ) → Bool
row_bit z ind r s = bit (slice_index ind (word_place z r (s / 64))) (s % 64)

abbrev pub indicators_with : (v : Bool) → Sizes → (ind : List ℕ) → (row set : ℕ) → List ℕ
indicators_with v z ind r s = change_bit (put_bit v) ind (word_place z r (s / 64)) (s % 64)

-- The match word in which the bit of an address has become 1.
abbrev pub matches_with : (matches : List ℕ) → (a : ℕ) → List ℕ
matches_with ws a = change_bit set_bit ws (a / 64) (a % 64)
