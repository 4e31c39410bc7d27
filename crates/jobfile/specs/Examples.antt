-- Commands beside the calls that they ask for, as rows of one table: each operation, each stray
-- field, other operations. proofs/Examples.antt computes them all.
use Rattle.std.specs.Prelude.{ℕ, List, [], ◌∷◌, Some, None, Option}
use Rattle.reference.specs.Calls.{Call, clear, write, erase, read, first_match, all_match}
use Rattle.jobfile.specs.declared.Command.{Command}

pub record Example : Type 0 where
  pub given : Command
  pub asks : Option (Call ℕ)

abbrev pub ◌asks◌ : Command → Option (Call ℕ) → Example
given asks call = record { given = given; asks = call }

infix 68 ◌asks◌
-- The three fields of a command.
abbrev pub command : (operation address pattern : ℕ) → Command
command operation address pattern = record {
  operation = operation;
  address = address;
  pattern = pattern;
}

-- What stands for the match word of all-match.
abbrev pub lent_length : ℕ
lent_length = 9

unfoldable pub examples : List Example
examples =
    command 1 3 5 asks Some (write 3 5)
    ∷ command 2 3 0 asks Some (erase 3)
    ∷ command 3 0 5 asks Some (first_match 5)
    ∷ command 4 0 5 asks Some (all_match 5 lent_length)
    ∷ command 5 3 0 asks Some (read 3)
    ∷ command 6 0 0 asks Some clear
    ∷ command 2 3 5 asks None
    ∷ command 3 3 5 asks None
    ∷ command 4 3 5 asks None
    ∷ command 5 3 5 asks None
    ∷ command 6 3 0 asks None
    ∷ command 6 0 5 asks None
    ∷ command 0 0 0 asks None
    ∷ command 7 0 0 asks None
    ∷ []
