-- What the code's entries, calls and answers stand for: those of the reference, with the numbers
-- and values of docs/MEMORY.md (sections 7 and 9).
use Rattle.std.specs.Prelude.{◌≡◌, ℕ, List, if◌then◌else◌, Some, None, Ok, Err, Option, Result}
use Rattle.geometry.specs.declared.Geometry.{Geometry}
use Rattle.reference.specs.Entry as entries
use Rattle.reference.specs.Entry.{empty, pattern}
use Rattle.reference.specs.Calls.{clear, write, erase, read, first_match, next_match, all_match, refused, cleared, held, at, none, next, matched, matches_after}
use Rattle.reference.specs.Calls as calls
use Rattle.reference.specs.Tables.{Tables, stored_entry}
use Rattle.reference.specs.Steps.{Outcome, bad_entry, step}
use Rattle.checks.specs.declared.Refusal.{Refusal}
use Rattle.checks.specs.declared.Refusal.TheVariants.{BadEntry}
use Rattle.checks.specs.declared.lent.Tables as lent_tables
use Rattle.checks.specs.Checks.{number_of}
use Rattle.places.specs.declared.Address.{Address}
use Rattle.places.specs.Address.{address_number}
use Rattle.calls.specs.declared.Call.{Call}
use Rattle.calls.specs.declared.Call.TheVariants.{Clear, Write, Erase, Read, FirstMatch, NextMatch, AllMatch}
use Rattle.calls.specs.declared.Answer.{Answer}
use Rattle.calls.specs.declared.Answer.TheVariants.{Cleared, Held, Searched, Next, Matched}
use Rattle.calls.specs.declared.Search.{Search}

-- The entry of the reference.
abbrev pub entry_for : Option ℕ → entries.Entry
entry_for None = empty
entry_for (Some p) = pattern p

-- Refusal 5, or the entry of an address.
abbrev pub checked_entry : Geometry → Tables → (a : ℕ) → Result entries.Entry Refusal
checked_entry g t a = if bad_entry g t a then Err BadEntry else Ok (stored_entry g t a)

-- The call, where a match word is lent.
abbrev pub call_for : Call → (lent : List ℕ) → calls.Call (List ℕ)
call_for Clear m = clear
call_for (Write a p) m = write (address_number a) p
call_for (Erase a) m = erase (address_number a)
call_for (Read a) m = read (address_number a)
call_for (FirstMatch key) m = first_match key
call_for (NextMatch a key) m = next_match (address_number a) key
call_for (AllMatch key) m = all_match key m

-- What a first-match answers, by the address or none and both counts.
abbrev pub counted_for : Option Address → (words_read entries_compared : ℕ) → calls.Answer
counted_for (Some a) w c = at (address_number a) w c
counted_for None w c = none w c

abbrev pub search_for : Search → calls.Answer
search_for s = counted_for s.address s.words_read s.entries_compared

-- What a next-match answers.
abbrev pub next_for : Option Address → calls.Answer
next_for (Some a) = next (Some (address_number a))
next_for None = next None

-- The answer of a call that is not refused, where the match word is `matches` after the call; and
-- of any.
abbrev pub accepted_for : Answer → (matches : List ℕ) → calls.Answer
accepted_for Cleared m = cleared
accepted_for (Held e) m = held (entry_for e)
accepted_for (Searched s) m = search_for s
accepted_for (Next x) m = next_for x
accepted_for (Matched n) m = matched m n

abbrev pub answer_for : Result Answer Refusal → (matches : List ℕ) → calls.Answer
answer_for (Ok answer) m = accepted_for answer m
answer_for (Err why) m = refused (number_of why)

-- A store and indicators, as the reference has them.
abbrev pub tables : (store indicators : List ℕ) → Tables
tables s i = record { store = s; indicators = i }

-- Lent tables that passed the check of a call: their geometry, and what they hold.
abbrev pub geometry_in : lent_tables.Tables → Geometry
geometry_in t = t.layout.geometry

abbrev pub tables_in : lent_tables.Tables → Tables
tables_in t = tables t.store.now t.indicators.now

-- The outcome of a call that leaves this answer, these tables and this match word.
abbrev pub outcome_for : Result Answer Refusal → (store indicators matches : List ℕ) → Outcome
outcome_for r s i m = record { answer = answer_for r m; tables = tables s i; matches = m }

-- What a call leaves that is lent a match word, though it may have no use for it: the answer and
-- the tables are the step's, and the match word is the one in the answer, or else as lent.
abbrev pub lent_step : Geometry → Tables → (lent : List ℕ) → calls.Call (List ℕ) → Outcome
lent_step g t m c =
    let o = step g t c in
    record { answer = o.answer; tables = o.tables; matches = matches_after o.answer m }

-- A call of the code that leaves that.
pub record Performed (g : Geometry) (call : Call) (r : Result Answer Refusal)
    (before after : Tables) (lent now : List ℕ) : Type 0 where
  pub answer : answer_for r now ≡ (lent_step g before lent (call_for call lent)).answer
  pub tables_after : after ≡ (lent_step g before lent (call_for call lent)).tables
  pub matches : now ≡ (lent_step g before lent (call_for call lent)).matches
