-- What the code's stops, opened files and decoded commands stand for.
use Rattle.std.specs.Prelude.{◌≡◌, ℕ, List, Some, None, Ok, Err, Option, Result}
use Rattle.machines.specs.Refusals.{RefusalRow, first_refusal}
use Rattle.reference.specs.Calls as calls
use Rattle.calls.specs.declared.Call.{Call}
use Rattle.calls.specs.Answers.{call_for}
use Rattle.jobfile.specs.declared.Header.{Header}
use Rattle.jobfile.specs.declared.Stop.{Stop}
use Rattle.jobfile.specs.declared.Stop.TheVariants.{BadFile, BadGeometry, TooLarge}
use Rattle.jobfile.specs.declared.Job.{Job}

-- The numbers of rule 13.6 of docs/MEMORY.md.
abbrev pub stop_number : Stop → ℕ
stop_number BadFile = 7
stop_number BadGeometry = 1
stop_number TooLarge = 9

-- A job that none of these rows stops, with its own header and the layout of its own geometry.
pub record OpensAs (rows : List RefusalRow) (h : Header) (job : Job) : Type 0 where
  pub unstopped : first_refusal rows ≡ None
  pub header : job.header ≡ h
  pub geometry : job.layout.geometry ≡ h.geometry

-- What is known of a file or a geometry with this header, where these rows may stop it.
abbrev pub Opens : List RefusalRow → Header → Result Job Stop → Type 0
Opens rows h (Ok job) = OpensAs rows h job
Opens rows h (Err stop) = first_refusal rows ≡ Some (stop_number stop)

-- The call of a command, where a match word is lent.
abbrev pub call_of : Option Call → (lent : List ℕ) → Option (calls.Call (List ℕ))
call_of (Some call) m = Some (call_for call m)
call_of None m = None

-- That is the call, whatever match word is lent.
abbrev pub Decodes : Option Call → (List ℕ → Option (calls.Call (List ℕ))) → Type 0
Decodes d call = (m : List ℕ) → call_of d m ≡ call m
