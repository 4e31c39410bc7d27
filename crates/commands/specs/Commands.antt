-- A command on any tables and any match word: what the code that runs one is held to.
use Rattle.std.specs.Prelude.{◌≡◌, ℕ, List, Some, None, Option}
use Rattle.geometry.specs.declared.Geometry.{Geometry}
use Rattle.reference.specs.Calls.{Call, refused}
use Rattle.reference.specs.Tables.{Tables}
use Rattle.reference.specs.Steps.{Outcome}
use Rattle.calls.specs.Answers.{lent_step}
use Rattle.figures.specs.declared.Page.{Page}
use Rattle.figures.specs.Figures.{Bytes}
use Rattle.figures.specs.Sheet.{Prints}
use Rattle.report.specs.Lines.{answer_line}
use Rattle.jobfile.specs.declared.Command.{Command}
use Rattle.jobfile.specs.Decoding.{decoded_call}

-- What a call comes to, and 8 where there is none (rule 13.7 of docs/MEMORY.md).
unfoldable pub call_outcome : Geometry → Tables → (lent : List ℕ) → Option (Call (List ℕ))
    → Outcome
call_outcome g t m None = record { answer = refused 8; tables = t; matches = m }
call_outcome g t m (Some call) = lent_step g t m call

-- What a command comes to.
unfoldable pub command_outcome : Geometry → Tables → (lent : List ℕ) → Command → Outcome
command_outcome g t m c = call_outcome g t m (decoded_call m c)

-- The line that is printed of it, behind its number.
abbrev pub command_line : Geometry → (number : ℕ) → Tables → (lent : List ℕ) → Command → Bytes
command_line g k t m c = answer_line k (command_outcome g t m c).answer

-- A command is run and its line printed.
pub record Obeys (o : Outcome) (number : ℕ) (after : Tables) (matches : List ℕ)
    (page page_after : Page) : Type 0 where
  pub line : Prints page page_after (answer_line number o.answer)
  pub tables_after : after ≡ o.tables
  pub match_word : matches ≡ o.matches
