-- What all-match reads of lent tables: the joined row of the key, which sets are false, and which
-- addresses are taken (rules 8.6, 8.8 and 8.9 of docs/MEMORY.md).
use Rattle.std.specs.Prelude.{ℕ, ◌+◌, ◌*◌, Bool, ◌&&◌, ◌==◌}
use Rattle.words.specs.Rules.{any}
use Rattle.words.specs.Bits.{bit}
use Rattle.geometry.specs.Sizes.{set_of}
use Rattle.reference.specs.Search.{joined_word, is_false, found_in_set, is_chosen}
use Rattle.checks.specs.declared.lent.Tables.{Tables}
use Rattle.calls.specs.Answers.{geometry_in, tables_in}
use Rattle.collect.specs.Marks.{indicates}

-- Word j of the joined row.
abbrev pub joined_row_word : Tables → (key j : ℕ) → ℕ
joined_row_word t key j = joined_word (geometry_in t) (tables_in t) key j

-- Whether a set is false where it is indicated, and whether word j of the joined row indicates one
-- that is.
abbrev pub is_false_set : Tables → (key set : ℕ) → Bool
is_false_set t key s = is_false (found_in_set (geometry_in t) (tables_in t) key s 0)

abbrev pub has_false_set : Tables → (key j : ℕ) → Bool
has_false_set t key j =
    any 64 (λ b. bit (joined_row_word t key j) b && is_false_set t key (64 * j + b))

-- Whether an address is taken of a set, and of the sets that row word j, which is w, indicates.
abbrev pub is_taken_of_set : Tables → (key set a : ℕ) → Bool
is_taken_of_set t key s a =
    set_of (geometry_in t) a == s && is_chosen (geometry_in t) (tables_in t) key a

abbrev pub is_taken_of_word : Tables → (key w j a : ℕ) → Bool
is_taken_of_word t key w j a =
    indicates w j (set_of (geometry_in t) a) && is_chosen (geometry_in t) (tables_in t) key a
