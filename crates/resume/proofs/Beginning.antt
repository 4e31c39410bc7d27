-- What the code's resume tells of a history: one that is accepted begins it (rule 10.6 of
-- docs/MEMORY.md), and tables of an array are accepted (rule 10.7).
use Rattle.std.proofs.Common.{◌≡◌, ℕ, List, None, Result, sym, ap, ◌∙◌}
use Rattle.geometry.specs.declared.Geometry.{Geometry}
use Rattle.reference.specs.Array.{Array}
use Rattle.reference.specs.Resume.{shown_array, Resumption, resume_step}
use Rattle.reference.specs.Statements.{IsBegun}
use Rattle.reference.proofs.Resume.{resume_begins, begun_resumes, begun_shows}
use Rattle.checks.specs.declared.Refusal.{Refusal}
use Rattle.calls.specs.Answers.{tables}
use Rattle.resume.specs.Resumed.{refusal_for, resumption_for}

-- r is what `resume::resume` gave on the tables, by its contract
module _ (g : Geometry) (s i : List ℕ) (r : Result (Unit {0}) Refusal) (e : resumption_for r s i ≡ resume_step g (tables s i)) where
  pub code_resume_begins : refusal_for r ≡ None → IsBegun g (tables s i) (shown_array g (tables s i))
  code_resume_begins ok = resume_begins g (tables s i) (sym (ap (λ (o : Resumption). o.refusal) e) ∙ ok)

  pub code_begun_resumes : (es : Array) → IsBegun g (tables s i) es → (refusal_for r ≡ None) × (shown_array g (tables s i) ≡ es)
  code_begun_resumes es b = (ap (λ (o : Resumption). o.refusal) e ∙ begun_resumes g (tables s i) es b, begun_shows g (tables s i) es b)
