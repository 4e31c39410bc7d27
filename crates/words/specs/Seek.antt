-- A search that looks at one place after another and counts its looks; and a row of words in which
-- it begins at a place.
use Rattle.std.specs.Prelude.{ℕ, zero, suc, ◌/◌, ◌%◌, Bool, if◌then◌else◌, ◌==◌}
use Rattle.words.specs.Bits.{bits_from}

-- The first place that passed the test, or none did; either way the number of places looked at.
pub data Sought : Type 0 where
  found : (place looks : ℕ) → Sought
  missed : (looks : ℕ) → Sought

-- `left` places to go, from `place` on, after `looks` looks.
unfoldable pub seek : (ℕ → Bool) → (left place looks : ℕ) → Sought
seek test zero place looks = missed looks
seek test (suc left) place looks =
    if test place then found place (suc looks) else seek test left (suc place) (suc looks)

-- The words f 0, f 1, .. of a row, 64 places in each, for a search from place i on, which begins
-- with the word that has it: that word alone loses the bits of the places before it.
unfoldable pub row_from : (ℕ → ℕ) → (i j : ℕ) → ℕ
row_from f i j = if j == i / 64 then bits_from (f j) (i % 64) else f j
