-- The number that stands for an answer, what it gives back, and what an exported function gives and
-- leaves; the number for a length (docs/MEMORY.md, section 12).
use Rattle.std.specs.Prelude.{◌≡◌, ℕ, ◌+◌, ◌-◌, ◌*◌, ◌/◌, ◌%◌, List, if◌then◌else◌, nat_lt, ◌==◌, Some, None, Option}
use Rattle.geometry.specs.declared.Geometry.{Geometry}
use Rattle.geometry.specs.Valid.{is_valid}
use Rattle.reference.specs.Entry.{Entry, empty, pattern, empty_word, word_of}
use Rattle.reference.specs.Calls.{Call, clear, write, erase, read, first_match, next_match, all_match, Answer, refused, cleared, held, at, none, next, matched}
use Rattle.reference.specs.Tables.{Tables}
use Rattle.reference.specs.Steps.{step}
use Rattle.reference.specs.Resume.{resume_step}

-- A refusal's number, which is below 256, or 256 and a value (rules 12.1 to 12.3 and 12.6).
abbrev pub code_of : Answer → ℕ
code_of (refused n) = n
code_of cleared = 256
code_of (held e) = 256 + word_of e
code_of (at a w c) = 256 + a + 65536 * w + 4294967296 * c
code_of (none w c) = 256 + 65535 + 65536 * w + 4294967296 * c
code_of (next (Some a)) = 256 + a
code_of (next None) = 256 + 65535
code_of (matched ws n) = 256 + n

-- The entry in a value.
abbrev pub entry_in : (value : ℕ) → Entry
entry_in v = if v == empty_word then empty else pattern v

-- The address or none, with both counts.
abbrev pub place_in : (address words_read entries_compared : ℕ) → Answer
place_in a w c = if a == 65535 then none w c else at a w c

-- The address or none in a value.
abbrev pub address_in : (value : ℕ) → Option ℕ
address_in v = if v == 65535 then None else Some v

-- The answer that a value gives back to a call, with the match word after it.
unfoldable pub value_told : Call (List ℕ) → (value : ℕ) → (matches : List ℕ) → Answer
value_told clear v m = cleared
value_told (write a p) v m = held (entry_in v)
value_told (erase a) v m = held (entry_in v)
value_told (read a) v m = held (entry_in v)
value_told (first_match key) v m = place_in (v % 65536) (v / 65536 % 65536) (v / 4294967296)
value_told (next_match a key) v m = next (address_in v)
value_told (all_match key lent) v m = matched m v

-- The answer that a number gives back.
unfoldable pub answer_told : Call (List ℕ) → (number : ℕ) → (matches : List ℕ) → Answer
answer_told c n m = if nat_lt n 256 then refused n else value_told c (n - 256) m

-- The number for a resume, by its refusal: that one's, or 256 where there is none (rule 12.5).
abbrev pub resume_code : Option ℕ → ℕ
resume_code (Some n) = n
resume_code None = 256

-- The refusal that it gives back.
unfoldable pub resume_told : (number : ℕ) → Option ℕ
resume_told n = if nat_lt n 256 then Some n else None

-- The geometry of four numbers.
abbrev pub four : (kind depth width set : ℕ) → Geometry
four k d p w = record { kind = k; depth = d; pattern_width = p; set_width = w }

-- The number for a length that follows from a geometry: 256 and the words, or refusal 1 (rule
-- 12.4).
unfoldable pub size_code : Geometry → (words : Geometry → ℕ) → ℕ
size_code g words = if is_valid g then 256 + words g else 1

-- The number is that of the step's answer, and the tables and the match word are the step's.
pub record Coded (g : Geometry) (c : Call (List ℕ)) (r : ℕ) (before after : Tables)
    (now : List ℕ) : Type 0 where
  pub answer : r ≡ code_of (step g before c).answer
  pub tables : after ≡ (step g before c).tables
  pub matches : now ≡ (step g before c).matches

-- The same of a call that leaves both tables as they were.
abbrev pub CodedReading : Geometry → Call (List ℕ) → (result : ℕ) → Tables → (now : List ℕ)
    → Type 0
CodedReading g c r t now = Coded g c r t t now

-- The number is that of what the resume comes to, and the tables are those that it leaves.
pub record ResumeCoded (g : Geometry) (r : ℕ) (before after : Tables) : Type 0 where
  pub number : r ≡ resume_code (resume_step g before).refusal
  pub tables : after ≡ (resume_step g before).tables
