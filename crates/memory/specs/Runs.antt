-- Histories of the code (docs/MEMORY.md, section 10): calls that were made one after the other,
-- each on the tables that the last one left.
use Rattle.std.specs.Prelude.{◌≡◌, ℕ, ◌↔◌, List, map, Result}
use Rattle.machines.specs.Chain as chain
use Rattle.geometry.specs.declared.Geometry.{Geometry}
use Rattle.reference.specs.Calls.{Call, clear, Answer, refused, cleared, shape, lent_word, matches_after}
use Rattle.reference.specs.Array.{Array, empty_array}
use Rattle.reference.specs.Tables.{Tables}
use Rattle.reference.specs.Image.{tables_of}
use Rattle.reference.specs.Steps.{step}
use Rattle.reference.specs.History.{array_answers, array_after}
use Rattle.reference.specs.Statements.{IsBegun, IsLater}
use Rattle.calls.specs.declared.Call as code
use Rattle.checks.specs.declared.Refusal.{Refusal}
use Rattle.calls.specs.declared.Answer as code_answer
use Rattle.calls.specs.Answers.{call_for, answer_for, tables, outcome_for, Performed}

-- One call that was made: all that it was given, the match word that was lent, what came back and
-- what was left.
pub record Run : Type 0 where
  pub call : Call (List ℕ)
  pub lent : List ℕ
  pub answer : Answer
  pub tables : Tables
  pub matches : List ℕ

-- The run of one of the seven calls, by its answer, the tables and the match word that it left: it
-- is lent the match word that is part of the call.
abbrev pub run_of_call : Call (List ℕ) → Answer → (after : Tables) → (matches : List ℕ) → Run
run_of_call c answer t m = record {
  call = c;
  lent = lent_word c;
  answer = answer;
  tables = t;
  matches = m;
}

-- The run of `perform`, which is lent a match word with every call.
abbrev pub run_of_perform :
    code.Call → Answer → (after : Tables) → (lent matches : List ℕ) → Run
run_of_perform call answer t lent m = record {
  call = call_for call lent;
  lent = lent;
  answer = answer;
  tables = t;
  matches = m;
}

-- A run on the tables t. What is known of it is what the function that was called ensures: one of
-- the seven calls, or `perform`.
pub data Made (g : Geometry) (t : Tables) : Run → Type 0 where
  by_call : (c : Call (List ℕ)) (r : Result code_answer.Answer Refusal) (s i m : List ℕ)
      → outcome_for r s i m ≡ step g t c
      → Made g t (run_of_call c (answer_for r m) (tables s i) m)
  by_perform : (call : code.Call) (r : Result code_answer.Answer Refusal)
      (after : Tables) (m m' : List ℕ)
      → Performed g call r t after m m'
      → Made g t (run_of_perform call (answer_for r m') after m m')

-- Runs one after the other, from the tables t, where Link is what is known of each.
abbrev pub Chain : (Link : Tables → Run → Type 0) → Tables → List Run → Type 0
Chain Link = chain.Chain (λ (x : Run). x.tables) Link

-- The tables that they leave.
abbrev pub last_tables : Tables → List Run → Tables
last_tables = chain.last (λ (x : Run). x.tables)

-- The calls of some runs as the plain array is told of them, and the array after them, begun as es.
abbrev pub shapes : List Run → List (Call ℕ)
shapes xs = map shape (map (λ (x : Run). x.call) xs)

abbrev pub array_after_runs : Geometry → Array → List Run → Array
array_after_runs g es xs = array_after g es (shapes xs)

-- Demand 3 of the code (rules 10.2 and 10.3): every answer is the plain array's; each match word is
-- the one in the answer or else as lent; and at the end the store and every indicator word, padding
-- bits included, are the array's.
pub record CodeFollows (g : Geometry) (es : Array) (t : Tables) (xs : List Run) : Type 0 where
  pub answers : map (λ (x : Run). x.answer) xs ≡ array_answers g es (shapes xs)
  pub matches : map (λ (x : Run). x.matches) xs
      ≡ map (λ (x : Run). matches_after x.answer x.lent) xs
  pub tables : last_tables t xs ≡ tables_of g (array_after_runs g es xs)

-- A run of a clear that was accepted begins, whatever the tables were before it.
abbrev pub ClearsBegin : Geometry → (Link : Tables → Run → Type 0) → Type 0
ClearsBegin g Link =
    (t : Tables) (x : Run) → Link t x → x.call ≡ clear → x.answer ≡ cleared
    → IsBegun g x.tables (empty_array g)

-- Every chain of such links that begins with the tables of an array follows the array (rules 10.1
-- to 10.3).
abbrev pub ChainsFollow : Geometry → (Link : Tables → Run → Type 0) → Type 0
ChainsFollow g Link =
    (t : Tables) (es : Array) → IsBegun g t es → (xs : List Run) → Chain Link t xs
    → CodeFollows g es t xs

-- What such a chain leaves can be gone on with; so can what a part of it leaves.
abbrev pub ChainsBegin : Geometry → (Link : Tables → Run → Type 0) → Type 0
ChainsBegin g Link =
    (t : Tables) (es : Array) → IsBegun g t es → (xs : List Run) → Chain Link t xs
    → IsBegun g (last_tables t xs) (array_after_runs g es xs)

-- A run after such a chain is refused with no other number than rule 10.5 names.
abbrev pub ChainsRefuse : Geometry → (Link : Tables → Run → Type 0) → Type 0
ChainsRefuse g Link =
    (t : Tables) (es : Array) → IsBegun g t es → (xs : List Run) → Chain Link t xs
    → (x : Run) → Link (last_tables t xs) x → (n : ℕ) → x.answer ≡ refused n → IsLater g x.call n

-- Two such chains leave equal tables exactly when they leave equal arrays (rule 10.4).
abbrev pub ChainsTell : Geometry → (Link : Tables → Run → Type 0) → Type 0
ChainsTell g Link =
    (t u : Tables) (es fs : Array) → IsBegun g t es → IsBegun g u fs
    → (xs ys : List Run) → Chain Link t xs → Chain Link u ys
    → (last_tables t xs ≡ last_tables u ys)
    ↔ (array_after_runs g es xs ≡ array_after_runs g fs ys)
