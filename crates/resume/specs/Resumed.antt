-- What the code's answer to a resume stands for, with the number of its refusal (docs/MEMORY.md,
-- rule 9.3).
use Rattle.std.specs.Prelude.{ℕ, List, Some, None, Ok, Err, Option, Result}
use Rattle.reference.specs.Resume.{Resumption}
use Rattle.checks.specs.declared.Refusal.{Refusal}
use Rattle.checks.specs.Checks.{number_of}
use Rattle.calls.specs.Answers.{tables}

-- The number of its refusal, if any.
abbrev pub refusal_for : Result (Unit {0}) Refusal → Option ℕ
refusal_for (Ok accepted) = None
refusal_for (Err why) = Some (number_of why)

-- What a resume leaves that gives this answer and leaves these tables.
abbrev pub resumption_for : Result (Unit {0}) Refusal → (store indicators : List ℕ) → Resumption
resumption_for r s i = record { refusal = refusal_for r; tables = tables s i }
