-- What the code makes of a command, by what it was decoded to.
use Rattle.std.proofs.Common.{◌≡◌, ℕ, List, Some, None, Option, Result, sym}
use Rattle.geometry.specs.declared.Geometry.{Geometry}
use Rattle.reference.specs.Calls.{refused}
use Rattle.reference.specs.Tables.{Tables}
use Rattle.checks.specs.declared.Refusal.{Refusal}
use Rattle.calls.specs.declared.Call.{Call}
use Rattle.calls.specs.declared.Answer.{Answer}
use Rattle.calls.specs.Answers.{outcome_for, Performed}
use Rattle.jobfile.specs.declared.Command.{Command}
use Rattle.jobfile.specs.Decoding.{decoded_call}
use Rattle.jobfile.specs.Read.{Decodes}
use Rattle.commands.specs.Commands.{call_outcome, command_outcome}

-- a command that asks for a call, which was performed
pub asked : (g : Geometry) (t u : Tables) (m n : List ℕ) (c : Command) (call : Call) (r : Result Answer Refusal) (d : Option Call) → d ≡ Some call
    → Decodes d (λ m. decoded_call m c) → Performed g call r t u m n → command_outcome g t m c ≡ outcome_for r u.store u.indicators n
unfolding command_outcome call_outcome
asked g t u m n c call r d is stands p =
    rw (← stands m, is) (λ i. record { answer = sym p.answer i; tables = sym p.tables_after i; matches = sym p.matches i })

-- a command that asks for none
pub unasked : (g : Geometry) (t : Tables) (m : List ℕ) (c : Command) (d : Option Call) → d ≡ None
    → Decodes d (λ m. decoded_call m c) → command_outcome g t m c ≡ record { answer = refused 8; tables = t; matches = m }
unfolding command_outcome call_outcome
unasked g t m c d is stands = rw (← stands m, is)
