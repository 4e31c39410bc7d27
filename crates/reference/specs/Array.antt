-- The plain array (docs/MEMORY.md, section 5): D entries and the seven calls on them. It knows the
-- geometry, and nothing of tables, rows or searches.
use Rattle.std.specs.Prelude.{◌≡◌, ℕ, ◌+◌, ◌*◌, ◌/◌, Bool, not, List, [], ◌∷◌, length, replicate, if◌then◌else◌, ◌==◌, slice_index_or, slice_set, Some, None, Option}
use Rattle.words.specs.Rules.{count, lowest, above}
use Rattle.words.specs.Bits.{bit_words}
use Rattle.machines.specs.Refusals.{RefusalRow, ◌given_when◌, first_refusal}
use Rattle.geometry.specs.declared.Geometry.{Geometry}
use Rattle.geometry.specs.Valid.{segmented}
use Rattle.geometry.specs.Sizes.{row_words, match_words, set_of, set_length}
use Rattle.reference.specs.Entry.{Entry, empty, pattern, Fits, holds}
use Rattle.reference.specs.Calls.{Call, clear, write, erase, read, first_match, next_match, all_match, Answer, refused, cleared, held, at, none, next, matched}
use Rattle.reference.specs.Refusals.{bad_address, bad_pattern}

-- Any list of entries. Sound ones are arrays of the geometry (rule 5.1).
abbrev pub Array : Type 0
Array = List Entry

-- What a clear leaves (rule 5.2).
unfoldable pub empty_array : Geometry → Array
empty_array g = replicate g.depth empty

-- The entry of an address.
abbrev pub entry_at : Array → ℕ → Entry
entry_at es a = slice_index_or es a empty

-- An array of the geometry: an entry for each address, empty or a pattern (rule 5.1).
pub record IsSound (g : Geometry) (es : Array) : Type 0 where
  pub long : length es ≡ g.depth
  pub fits : (a : ℕ) → Fits g (entry_at es a)

-- Whether the entry of an address is the key.
abbrev pub holds_at : Array → (key a : ℕ) → Bool
holds_at es key a = holds (entry_at es a) key

-- The count w of a first-match that answers address a, by its formula (rule 5.7).
abbrev pub words_read_for : Geometry → (a : ℕ) → ℕ
words_read_for g a = a / (64 * g.set_width) + 1

-- The count c of that first-match: in kind 2 the length of the set of a, else 0 (rule 5.7).
abbrev pub entries_compared_for : Geometry → (a : ℕ) → ℕ
entries_compared_for g a = if g.kind == segmented then set_length g (set_of g a) else 0

-- The answer of a first-match with its counts (rules 5.5 and 5.7).
unfoldable pub counted_answer : Geometry → Option ℕ → Answer
counted_answer g (Some a) = at a (words_read_for g a) (entries_compared_for g a)
counted_answer g None = none (row_words g) 0

-- The answer of an all-match that finds the addresses with rule r: the match word in which their
-- bits are 1, and how many they are (rule 5.6).
abbrev pub matched_answer : Geometry → (r : ℕ → Bool) → Answer
matched_answer g r = matched (bit_words (match_words g) r) (count g.depth r)

-- The numbers with which the array refuses (rule 5.8).
unfoldable pub array_refusals : Geometry → Call ℕ → List RefusalRow
array_refusals g clear = []
array_refusals g (write a p) = 3 given_when bad_address g a ∷ 4 given_when bad_pattern g p ∷ []
array_refusals g (erase a) = 3 given_when bad_address g a ∷ []
array_refusals g (read a) = 3 given_when bad_address g a ∷ []
array_refusals g (first_match key) = 4 given_when bad_pattern g key ∷ []
array_refusals g (next_match a key) =
    3 given_when bad_address g a ∷ 4 given_when bad_pattern g key ∷ []
array_refusals g (all_match key len) =
    2 given_when not (len == match_words g) ∷ 4 given_when bad_pattern g key ∷ []

-- What a call leaves: its answer and the array.
pub record ArrayOutcome : Type 0 where
  pub answer : Answer
  pub array : Array

-- The calls, where nothing stops them (rules 5.2 to 5.6 and 5.9). Bits of the match word past the
-- last address are 0: no entry is there to be the key.
unfoldable pub array_accepted : Geometry → Array → Call ℕ → ArrayOutcome
array_accepted g es clear =
    record { answer = cleared; array = empty_array g }
array_accepted g es (write a p) =
    record { answer = held (entry_at es a); array = slice_set es a (pattern p) }
array_accepted g es (erase a) =
    record { answer = held (entry_at es a); array = slice_set es a empty }
array_accepted g es (read a) =
    record { answer = held (entry_at es a); array = es }
array_accepted g es (first_match key) =
    record { answer = counted_answer g (lowest g.depth (holds_at es key)); array = es }
array_accepted g es (next_match a key) =
    record { answer = next (lowest g.depth (above a (holds_at es key))); array = es }
array_accepted g es (all_match key len) =
    record { answer = matched_answer g (holds_at es key); array = es }

-- A call, by the number that its table gives, if any. A refusal keeps every entry (rule 5.8).
unfoldable pub array_outcome : Geometry → Array → Call ℕ → Option ℕ → ArrayOutcome
array_outcome g es c None = array_accepted g es c
array_outcome g es c (Some n) = record { answer = refused n; array = es }

-- One call on the array.
unfoldable pub array_step : Geometry → Array → Call ℕ → ArrayOutcome
array_step g es c = array_outcome g es c (first_refusal (array_refusals g c))
