-- The examples hold: antt computes the number of each answer, of each resume and of each length,
-- and the geometry.
use Rattle.std.proofs.Common.{◌≡◌, map, refl}
use Rattle.geometry.specs.Valid.{is_valid, kind_rule}
use Rattle.geometry.specs.Sizes.{sets, row_words, match_words}
use Rattle.geometry.specs.Stages.{stages, stage_width, rows, indicator_words}
use Rattle.reference.specs.Entry.{word_of}
use Rattle.codes.specs.Codes.{code_of, resume_code, size_code, four}
use Rattle.codes.specs.Examples.{Example, code_examples, ResumeExample, ◌comes_to◌, resume_codes, Size, size, sizes, one_to_four}

pub codes_hold : map (λ (e : Example). code_of e.answer) code_examples ≡ map (λ (e : Example). e.number) code_examples
unfolding word_of code_examples
codes_hold = refl

pub resumes_hold : map (λ (e : ResumeExample). e.refusal comes_to resume_code e.refusal) resume_codes ≡ resume_codes
unfolding resume_codes
resumes_hold = refl

pub four_holds : four 1 2 3 4 ≡ one_to_four
unfolding one_to_four
four_holds = refl

pub sizes_hold : map (λ (s : Size). size s.geometry (size_code s.geometry indicator_words) (size_code s.geometry match_words)) sizes ≡ sizes
unfolding sizes size_code is_valid kind_rule sets row_words match_words stages stage_width rows indicator_words
sizes_hold = refl
