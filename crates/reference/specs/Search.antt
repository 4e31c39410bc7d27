-- The searches of the three matches on any tables (docs/MEMORY.md, section 8).
use Rattle.std.specs.Prelude.{ℕ, suc, ◌+◌, ◌-◌, ◌*◌, ◌/◌, ◌%◌, Bool, true, false, not, ◌&&◌, ◌||◌, List, length, if◌then◌else◌, nat_lt, ◌==◌, slice_index, Some, None, Option}
use mathlib.Core.List.{foldr}
use Rattle.std.specs.Int.Bits.{bit_and}
use Rattle.std.specs.Int.Count.{count_trailing_zeros}
use Rattle.words.specs.Rules.{any, lowest, above}
use Rattle.words.specs.Bits.{bit, row_mask, bit_words}
use Rattle.words.specs.Seek.{Sought, found, missed, seek, row_from}
use Rattle.geometry.specs.declared.Geometry.{Geometry}
use Rattle.geometry.specs.Valid.{segmented}
use Rattle.geometry.specs.Sizes.{sets, row_words, match_words, set_of, offset_of, address_of, set_length}
use Rattle.geometry.specs.Stages.{rows_of}
use Rattle.reference.specs.Calls.{Answer, refused, at, none, next}
use Rattle.reference.specs.Line.{line}
use Rattle.reference.specs.Tables.{Tables, stored_word}

-- Word j of a row (rule 3.4).
abbrev pub word_of_row : Geometry → Tables → (row j : ℕ) → ℕ
word_of_row g t r j = slice_index t.indicators (row_words g * r + j)

-- Word j of the joined row of the key, padding bits dropped (rule 8.6).
unfoldable pub joined_word : Geometry → Tables → (key j : ℕ) → ℕ
joined_word g t key j =
    foldr (λ r w. bit_and (word_of_row g t r j) w) (row_mask (sets g) j) (rows_of g key)

-- Whether a set is indicated: its bit in the joined row is 1 (rule 8.6).
unfoldable pub is_indicated : Geometry → Tables → (key set : ℕ) → Bool
is_indicated g t key s = bit (joined_word g t key (s / 64)) (s % 64)

-- Word j of the joined row for a search from a set on: the first word that it reads loses the bits
-- of the sets before it (rule 8.14).
abbrev pub joined_word_from : Geometry → Tables → (key from j : ℕ) → ℕ
joined_word_from g t key s = row_from (joined_word g t key) s

-- The words of the joined row from a set on, up to one that is not 0 (rules 8.7 and 8.14). The
-- looks are w (rule 8.10).
unfoldable pub seek_word : Geometry → Tables → (key from : ℕ) → Sought
seek_word g t key s =
    seek (λ j. not (joined_word_from g t key s j == 0)) (row_words g - s / 64) (s / 64) 0

-- Whether the entry of a set at an offset is the key, by its word.
abbrev pub has_key_at : Geometry → Tables → (key set offset : ℕ) → Bool
has_key_at g t key s o = stored_word t (address_of g s o) == key

-- The same of the set of an address, at the offsets above its own.
abbrev pub has_key_above : Geometry → Tables → (a key : ℕ) → (offset : ℕ) → Bool
has_key_above g t a key = above (offset_of g a) (has_key_at g t key (set_of g a))

-- The first entry of a set that is the key, by its offset (rule 8.7).
unfoldable pub seek_entry : Geometry → Tables → (key set : ℕ) → Option ℕ
seek_entry g t key s = lowest (set_length g s) (has_key_at g t key s)

-- The first entry that is the key in the set of an address and above it, by its offset (rule 8.13).
unfoldable pub seek_own : Geometry → Tables → (a key : ℕ) → Option ℕ
seek_own g t a key = lowest (set_length g (set_of g a)) (has_key_above g t a key)

-- The first indicated set from a set on, where row word j is the first that is not 0 (rules 8.7 and
-- 8.14).
unfoldable pub lowest_set : Geometry → Tables → (key from j : ℕ) → ℕ
lowest_set g t key s j = 64 * j + count_trailing_zeros 64 (joined_word_from g t key s j)

-- What a search finds: an address; no indicated set; or a false set (rule 8.9).
pub data Found : Type 0 where
  hit : (address words_read entries_compared : ℕ) → Found
  nothing : (words_read entries_compared : ℕ) → Found
  false_set : Found

-- Whether that is a false set.
unfoldable pub is_false : Found → Bool
is_false (hit a w c) = false
is_false (nothing w c) = false
is_false false_set = true

-- What the line of a set gives, by the offset of its first equal entry: the line is fetched whole,
-- so c is its length (rule 8.10). With no such entry the set is false (rule 8.9).
abbrev pub found_in_line : Geometry → Tables → (set words_read : ℕ) → Option ℕ → Found
found_in_line g t s w (Some o) = hit (address_of g s o) w (length (line g t.store s))
found_in_line g t s w None = false_set

-- What an indicated set gives. Kind 2 alone asks the store (rule 8.7).
unfoldable pub found_in_set : Geometry → Tables → (key set words_read : ℕ) → Found
found_in_set g t key s w =
    if g.kind == segmented then found_in_line g t s w (seek_entry g t key s) else hit s w 0

-- What the sought word gives: its first set decides. Where none was found, no set is indicated.
abbrev pub found_in_word : Geometry → Tables → (key from : ℕ) → Sought → Found
found_in_word g t key s (found j w) = found_in_set g t key (lowest_set g t key s j) w
found_in_word g t key s (missed w) = nothing w 0

-- The search from a set on (rules 8.7 and 8.14).
unfoldable pub found_from : Geometry → Tables → (key from : ℕ) → Found
found_from g t key s = found_in_word g t key s (seek_word g t key s)

-- A first-match's is the one from set 0 on.
abbrev pub first_found : Geometry → Tables → (key : ℕ) → Found
first_found g t key = found_from g t key 0

-- What is found above an address: the entry of its own set at an offset, or with no such offset
-- what the search from the next set on gives. The counts are not answered.
abbrev pub found_above : Geometry → Tables → (a key : ℕ) → Option ℕ → Found
found_above g t a key (Some o) = hit (address_of g (set_of g a) o) 0 0
found_above g t a key None = found_from g t key (suc (set_of g a))

-- A next-match looks in the set of its address first, by the store alone (rules 8.13 and 8.14).
unfoldable pub next_found : Geometry → Tables → (a key : ℕ) → Found
next_found g t a key = found_above g t a key (seek_own g t a key)

-- Whether a false set is in the way of a first-match (rule 8.9).
abbrev pub first_is_false : Geometry → Tables → (key : ℕ) → Bool
first_is_false g t key = is_false (first_found g t key)

-- Whether one is in the way of a next-match (rule 8.14).
abbrev pub next_is_false : Geometry → Tables → (a key : ℕ) → Bool
next_is_false g t a key = is_false (next_found g t a key)

-- Whether one is in the way of an all-match: any indicated set that is false (rule 8.9).
unfoldable pub any_is_false : Geometry → Tables → (key : ℕ) → Bool
any_is_false g t key =
    any (sets g) (λ s. is_indicated g t key s && is_false (found_in_set g t key s 0))

-- What a first-match answers. A false set was refused before it would be answered.
unfoldable pub answer_of : Found → Answer
answer_of (hit a w c) = at a w c
answer_of (nothing w c) = none w c
answer_of false_set = refused 6

-- What a next-match answers: no counts (rule 7.8).
unfoldable pub next_of : Found → Answer
next_of (hit a w c) = next (Some a)
next_of (nothing w c) = next None
next_of false_set = refused 6

-- Whether all-match takes an address of an indicated set (rule 8.8): one below the depth, whose
-- entry is the key in kind 2.
abbrev pub is_chosen : Geometry → Tables → (key a : ℕ) → Bool
is_chosen g t key a = nat_lt a g.depth && (not (g.kind == segmented) || stored_word t a == key)

-- Whether all-match takes an address (rule 8.8).
unfoldable pub is_taken : Geometry → Tables → (key a : ℕ) → Bool
is_taken g t key a = is_indicated g t key (set_of g a) && is_chosen g t key a

-- The match word in which the bits of those addresses are 1.
unfoldable pub taken_words : Geometry → Tables → (key : ℕ) → List ℕ
taken_words g t key = bit_words (match_words g) (is_taken g t key)
