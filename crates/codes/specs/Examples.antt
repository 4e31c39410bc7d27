-- Answers and what resumes come to with the numbers that stand for them, and geometries with those
-- for their lengths, as rows of three tables, and a geometry of four numbers that differ.
-- proofs/Examples.antt computes them.
use Rattle.std.specs.Prelude.{ℕ, List, [], ◌∷◌, Some, None, Option}
use Rattle.geometry.specs.declared.Geometry.{Geometry}
use Rattle.reference.specs.Entry.{empty, pattern}
use Rattle.reference.specs.Calls.{Answer, refused, cleared, held, at, none, next, matched}
use Rattle.codes.specs.Codes.{four}

-- An answer, with its number.
pub record Example : Type 0 where
  pub answer : Answer
  pub number : ℕ

abbrev pub ◌has◌ : Answer → ℕ → Example
answer has number = record { answer = answer; number = number }

infix 68 ◌has◌
unfoldable pub code_examples : List Example
code_examples =
    refused 6 has 6
    ∷ cleared has 256
    ∷ held empty has 4294967551
    ∷ held (pattern 0) has 256
    ∷ held (pattern 5) has 261
    ∷ at 7 2 3 has 12885033223
    ∷ none 2 3 has 12885098751
    ∷ next (Some 7) has 263
    ∷ next None has 65791
    ∷ matched (8 ∷ 9 ∷ []) 2 has 258
    ∷ []

-- What a resume comes to, with its number.
pub record ResumeExample : Type 0 where
  pub refusal : Option ℕ
  pub number : ℕ

abbrev pub ◌comes_to◌ : Option ℕ → ℕ → ResumeExample
refusal comes_to number = record { refusal = refusal; number = number }

infix 68 ◌comes_to◌
unfoldable pub resume_codes : List ResumeExample
resume_codes = None comes_to 256 ∷ Some 1 comes_to 1 ∷ Some 2 comes_to 2 ∷ Some 10 comes_to 10 ∷ []

-- A geometry of four numbers that differ.
unfoldable pub one_to_four : Geometry
one_to_four = record { kind = 1; depth = 2; pattern_width = 3; set_width = 4 }

-- Four numbers, with what is given for their indicators and for their match word.
pub record Size : Type 0 where
  pub geometry : Geometry
  pub indicators : ℕ
  pub matches : ℕ

abbrev pub size : Geometry → (indicators matches : ℕ) → Size
size g i m = record { geometry = g; indicators = i; matches = m }

unfoldable pub sizes : List Size
sizes =
    size (four 0 1 1 1) 258 257
    ∷ size (four 0 65 1 1) 260 258
    ∷ size (four 0 4096 12 1) 262400 320
    ∷ size (four 1 2 9 1) 768 257
    ∷ size (four 1 2 10 1) 770 257
    ∷ size (four 1 4096 27 1) 98560 320
    ∷ size (four 2 8 2 2) 260 257
    ∷ size (four 2 130 12 2) 8448 259
    ∷ size (four 2 4096 12 64) 4352 320
    ∷ size (four 2 9 2 2) 260 257
    ∷ size (four 2 129 1 2) 260 259
    ∷ size (four 0 4097 12 1) 1 1
    ∷ size (four 1 4096 28 1) 1 1
    ∷ size (four 2 8 2 9) 1 1
    ∷ size (four 2 8 2 0) 1 1
    ∷ size (four 3 8 2 2) 1 1
    ∷ []
