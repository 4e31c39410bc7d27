-- Histories of the exported functions, alone or mixed with the calls that they are made of.
use Rattle.std.specs.Prelude.{◌≡◌, ℕ, List, None, Result}
use Rattle.geometry.specs.declared.Geometry.{Geometry}
use Rattle.reference.specs.Calls.{Call, lent_word}
use Rattle.reference.specs.Array.{Array}
use Rattle.reference.specs.Tables.{Tables}
use Rattle.reference.specs.Resume.{shown_array, resume_step}
use Rattle.reference.specs.Statements.{IsBegun}
use Rattle.checks.specs.declared.Refusal.{Refusal}
use Rattle.calls.specs.Answers.{tables}
use Rattle.resume.specs.Resumed.{refusal_for, resumption_for}
use Rattle.memory.specs.Runs.{Run, Made, Chain, last_tables, array_after_runs}
use Rattle.codes.specs.Codes.{answer_told, Coded, resume_told, ResumeCoded}

-- The run of an exported function: its answer is what the number gives back.
abbrev pub numbered_run : Call (List ℕ) → (number : ℕ) → (after : Tables) → (matches : List ℕ) → Run
numbered_run c n after m = record {
  call = c;
  lent = lent_word c;
  answer = answer_told c n m;
  tables = after;
  matches = m;
}

-- A run on the tables t: an exported function, of which is known what it ensures; or a call of
-- `memory`.
pub data Called (g : Geometry) (t : Tables) : Run → Type 0 where
  by_number : (c : Call (List ℕ)) (n : ℕ) (after : Tables) (m : List ℕ) → Coded g c n t after m
      → Called g t (numbered_run c n after m)
  made : (x : Run) → Made g t x → Called g t x

-- A history begins with these tables, as those of the array that their store shows.
abbrev pub BeginsAsShown : Geometry → Tables → Type 0
BeginsAsShown g t = IsBegun g t (shown_array g t)

-- A resume whose number tells no refusal begins, on whatever tables it was made.
abbrev pub ResumesBegin : Geometry → Type 0
ResumesBegin g =
    (t after : Tables) (n : ℕ) → ResumeCoded g n t after → resume_told n ≡ None
    → BeginsAsShown g after

-- After every chain that begins with the tables of an array a resume is accepted, and the store
-- shows the array that the chain leaves (rule 10.7). With `ChainsFollow` what comes then is what
-- would come with no resume.
abbrev pub ChainsResumeCode : Geometry → (Link : Tables → Run → Type 0) → Type 0
ChainsResumeCode g Link =
    (t : Tables) (es : Array) → IsBegun g t es → (xs : List Run) → Chain Link t xs
    → (r : Result (Unit {0}) Refusal) (s i : List ℕ) → tables s i ≡ last_tables t xs
    → resumption_for r s i ≡ resume_step g (tables s i)
    → (refusal_for r ≡ None) × (shown_array g (tables s i) ≡ array_after_runs g es xs)

-- The same of the exported function, which leaves the tables as they are.
abbrev pub ChainsResume : Geometry → (Link : Tables → Run → Type 0) → Type 0
ChainsResume g Link =
    (t : Tables) (es : Array) → IsBegun g t es → (xs : List Run) → Chain Link t xs
    → (after : Tables) (n : ℕ) → ResumeCoded g n (last_tables t xs) after
    → (resume_told n ≡ None) × (after ≡ last_tables t xs)
    × (shown_array g after ≡ array_after_runs g es xs)
