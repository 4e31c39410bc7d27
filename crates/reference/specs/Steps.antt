-- The seven calls on any tables: any geometry, any lengths, any content (docs/MEMORY.md, sections 8
-- and 9).
use Rattle.std.specs.Prelude.{ℕ, Bool, false, not, ◌||◌, List, [], ◌∷◌, length, replicate, nat_lt, ◌==◌, Some, None, Option}
use Rattle.words.specs.Bits.{total_ones}
use Rattle.machines.specs.Refusals.{RefusalRow, ◌given_when◌, first_refusal}
use Rattle.geometry.specs.declared.Geometry.{Geometry}
use Rattle.geometry.specs.Valid.{is_valid}
use Rattle.geometry.specs.Sizes.{patterns, match_words}
use Rattle.geometry.specs.Stages.{indicator_words, tables_fit}
use Rattle.reference.specs.Entry.{empty, pattern, empty_word}
use Rattle.reference.specs.Calls.{Call, clear, write, erase, read, first_match, next_match, all_match, Answer, refused, cleared, held, matched, lent_word}
use Rattle.reference.specs.Refusals.{bad_address, bad_pattern}
use Rattle.reference.specs.Tables.{Tables, stored_word, stored_entry}
use Rattle.reference.specs.Update.{replaced_tables}
use Rattle.reference.specs.Search.{first_found, next_found, first_is_false, next_is_false, any_is_false, answer_of, next_of, taken_words}

-- Refusal 2, by the tables: one has a wrong length.
unfoldable pub bad_lengths : Geometry → Tables → Bool
bad_lengths g t = not (tables_fit g (length t.store) (length t.indicators))

-- Refusal 2, by the match word: it has a wrong length. The calls that are lent none pass.
unfoldable pub bad_matches : Geometry → Call (List ℕ) → Bool
bad_matches g clear = false
bad_matches g (write a p) = false
bad_matches g (erase a) = false
bad_matches g (read a) = false
bad_matches g (first_match key) = false
bad_matches g (next_match a key) = false
bad_matches g (all_match key m) = not (length m == match_words g)

-- Refusal 5: the word of the address is neither empty nor a pattern.
unfoldable pub bad_entry : Geometry → Tables → ℕ → Bool
bad_entry g t a = not (stored_word t a == empty_word || nat_lt (stored_word t a) (patterns g))

-- Rows 3 to 6 of the table at a call.
unfoldable pub own_refusals : Geometry → Tables → Call (List ℕ) → List RefusalRow
own_refusals g t clear = []
own_refusals g t (write a p) =
    3 given_when bad_address g a
    ∷ 4 given_when bad_pattern g p
    ∷ 5 given_when bad_entry g t a
    ∷ []
own_refusals g t (erase a) =
    3 given_when bad_address g a
    ∷ 5 given_when bad_entry g t a
    ∷ []
own_refusals g t (read a) =
    3 given_when bad_address g a
    ∷ 5 given_when bad_entry g t a
    ∷ []
own_refusals g t (first_match key) =
    4 given_when bad_pattern g key
    ∷ 6 given_when first_is_false g t key
    ∷ []
own_refusals g t (next_match a key) =
    3 given_when bad_address g a
    ∷ 4 given_when bad_pattern g key
    ∷ 6 given_when next_is_false g t a key
    ∷ []
own_refusals g t (all_match key m) =
    4 given_when bad_pattern g key
    ∷ 6 given_when any_is_false g t key
    ∷ []

-- The whole table at a call (rule 9.1).
unfoldable pub refusals : Geometry → Tables → Call (List ℕ) → List RefusalRow
refusals g t c =
    1 given_when not (is_valid g)
    ∷ 2 given_when (bad_lengths g t || bad_matches g c)
    ∷ own_refusals g t c

-- What a call leaves: its answer, both tables, and the match word that it was lent.
pub record Outcome : Type 0 where
  pub answer : Answer
  pub tables : Tables
  pub matches : List ℕ

-- What a clear leaves (rule 8.1).
unfoldable pub clear_tables : Geometry → Tables
clear_tables g = record {
  store = replicate g.depth empty_word;
  indicators = replicate (indicator_words g) 0;
}

-- The calls, where nothing stops them (rules 7.3 to 7.6 and 7.8, 8.1 to 8.8, 8.13 and
-- 8.14).
unfoldable pub accepted_outcome : Geometry → Tables → Call (List ℕ) → Outcome
accepted_outcome g t clear = record { answer = cleared; tables = clear_tables g; matches = [] }
accepted_outcome g t (write a p) = record {
  answer = held (stored_entry g t a);
  tables = replaced_tables g t a (pattern p);
  matches = [];
}
accepted_outcome g t (erase a) = record {
  answer = held (stored_entry g t a);
  tables = replaced_tables g t a empty;
  matches = [];
}
accepted_outcome g t (read a) =
    record { answer = held (stored_entry g t a); tables = t; matches = [] }
accepted_outcome g t (first_match key) =
    record { answer = answer_of (first_found g t key); tables = t; matches = [] }
accepted_outcome g t (next_match a key) =
    record { answer = next_of (next_found g t a key); tables = t; matches = [] }
accepted_outcome g t (all_match key m) = record {
  answer = matched (taken_words g t key) (total_ones (taken_words g t key));
  tables = t;
  matches = taken_words g t key;
}

-- A call, by the number that its table gives, if any. A refusal answers with it and leaves all that
-- was lent alone (rule 9.2).
unfoldable pub outcome : Geometry → Tables → Call (List ℕ) → Option ℕ → Outcome
outcome g t c None = accepted_outcome g t c
outcome g t c (Some n) = record { answer = refused n; tables = t; matches = lent_word c }

-- One call on any tables.
unfoldable pub step : Geometry → Tables → Call (List ℕ) → Outcome
step g t c = outcome g t c (first_refusal (refusals g t c))
