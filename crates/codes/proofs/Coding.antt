-- From the contracts of a call and of `code` to that of the exported function.
use Rattle.std.proofs.Common.{◌≡◌, ℕ, List, [], Ok, Err, Result, refl, ap, ◌∙◌}
use Rattle.geometry.specs.declared.Geometry.{Geometry}
use Rattle.reference.specs.Calls.{Call}
use Rattle.reference.specs.Tables.{Tables}
use Rattle.reference.specs.Steps.{Outcome, step}
use Rattle.reference.specs.Resume.{Resumption, resume_step}
use Rattle.calls.specs.declared.Answer.{Answer}
use Rattle.calls.specs.declared.Answer.TheVariants.{Cleared, Held, Searched, Next, Matched}
use Rattle.checks.specs.declared.Refusal.{Refusal}
use Rattle.calls.specs.Answers.{answer_for, tables, outcome_for}
use Rattle.resume.specs.Resumed.{refusal_for, resumption_for}
use Rattle.codes.specs.Codes.{code_of, resume_code, Coded, ResumeCoded}

-- The number does not depend on the match word.
code_any : (r : Result Answer Refusal) (m : List ℕ) → code_of (answer_for r []) ≡ code_of (answer_for r m)
code_any (Err why) m = refl
code_any (Ok Cleared) m = refl
code_any (Ok (Held e)) m = refl
code_any (Ok (Searched s)) m = refl
code_any (Ok (Next x)) m = refl
code_any (Ok (Matched n)) m = refl

-- The code's call was made with geometry h and call d, which are those of the contract.
pub coded : {g : Geometry} {c : Call (List ℕ)} {t : Tables} {s i m : List ℕ} {n : ℕ} (h : Geometry) (d : Call (List ℕ)) (r : Result Answer Refusal) → h ≡ g → d ≡ c → outcome_for r s i m ≡ step h t d → n ≡ code_of (answer_for r []) → Coded g c n t (tables s i) m
coded {m = m} h d r same_geometry same_call e number =
    rw (← same_geometry, ← same_call)
    (record {
      answer = number ∙ code_any r m ∙ ap (λ (o : Outcome). code_of o.answer) e;
      tables = ap (λ (o : Outcome). o.tables) e;
      matches = ap (λ (o : Outcome). o.matches) e;
    })

-- The same of a resume.
pub resume_coded : {g : Geometry} {s i : List ℕ} {n : ℕ} (h : Geometry) (r : Result (Unit {0}) Refusal) → h ≡ g → resumption_for r s i ≡ resume_step h (tables s i)
    → n ≡ resume_code (refusal_for r) → ResumeCoded g n (tables s i) (tables s i)
resume_coded h r same e number =
    rw (← same) (record { number = number ∙ ap (λ (o : Resumption). resume_code o.refusal) e; tables = ap (λ (o : Resumption). o.tables) e })
