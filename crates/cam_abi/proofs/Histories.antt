-- What the number of an exported function gives back is the step's answer (`number_tells`), so a
-- chain of them, or of them and the calls of `memory`, follows the plain array.
use Rattle.std.proofs.Common.{sym, ap, ◌∙◌, ap₂}
use Rattle.geometry.specs.declared.Geometry.{Geometry}
use Rattle.reference.specs.Tables.{Tables}
use Rattle.reference.specs.Resume.{resume_step}
use Rattle.reference.proofs.Refused.{matches_after_is}
use Rattle.reference.proofs.Resume.{resume_begins, begun_resumes, begun_shows}
use Rattle.resume.proofs.Beginning.{code_begun_resumes}
use Rattle.memory.specs.Runs.{Run, Made, last_tables, array_after_runs, ClearsBegin, ChainsFollow, ChainsBegin, ChainsRefuse, ChainsTell}
use Rattle.memory.specs.Walks.{ChainsWalk}
use Rattle.memory.proofs.CodeWalks.{chain_walks}
use Rattle.memory.proofs.CodeHistory.{Steps, made_steps, chain_clear_begins, chain_follows, chain_begins, chain_refuses, chains_tell, code_history_begins}
use Rattle.codes.specs.Codes.{answer_told, resume_told}
use Rattle.cam_abi.specs.Histories.{Called, by_number, made, ResumesBegin, ChainsResumeCode, ChainsResume}
use Rattle.codes.proofs.Told.{number_tells, resume_tells}

called_steps : (g : Geometry) (t : Tables) (x : Run) → Called g t x → Steps g t x
called_steps g t x (by_number c n after m k) =
    let same = ap₂ (answer_told c) k.answer k.matches ∙ number_tells g t c in
    record { answer = same; tables = k.tables; matches = k.matches ∙ rw same (matches_after_is g t c) }
called_steps g t x (made y m) = made_steps g t y m

module _ (g : Geometry) where
  pub c_clear_begins : ClearsBegin g (Called g)
  c_clear_begins = chain_clear_begins g (called_steps g)

  pub c_history : ChainsFollow g (Called g)
  c_history = chain_follows g (called_steps g)

  pub c_history_begins : ChainsBegin g (Called g)
  c_history_begins = chain_begins g (called_steps g)

  pub c_later_numbers : ChainsRefuse g (Called g)
  c_later_numbers = chain_refuses g (called_steps g)

  pub c_equal_tables : ChainsTell g (Called g)
  c_equal_tables = chains_tell g (called_steps g)

  pub c_walks : ChainsWalk g (Called g)
  c_walks = chain_walks g (called_steps g)

  pub c_resume_begins : ResumesBegin g
  unfolding resume_step
  c_resume_begins t after n k ok = rw k.tables (resume_begins g t (sym (resume_tells g t) ∙ ap resume_told (sym k.number) ∙ ok))

  -- after a chain
  pub code_resume_after : ChainsResumeCode g (Made g)
  code_resume_after t es b xs chain r s i left e = code_begun_resumes g s i r e (array_after_runs g es xs) (rw left (code_history_begins g t es b xs chain))

  pub c_resume_after : ChainsResume g (Called g)
  unfolding resume_step
  c_resume_after t es b xs chain after n k =
      let c = c_history_begins t es b xs chain in
      (ap resume_told k.number ∙ resume_tells g (last_tables t xs) ∙ begun_resumes g _ _ c, k.tables, rw k.tables (begun_shows g _ _ c))
