-- What a resume of the code comes to beside the refusal that it stands for, as rows of a table.
-- proofs/Examples.antt computes it.
use Rattle.std.specs.Prelude.{ℕ, List, [], ◌∷◌, Some, None, Ok, Err, Option, Result}
use Rattle.checks.specs.declared.Refusal.{Refusal}
use Rattle.checks.specs.declared.Refusal.TheVariants.{BadGeometry, BadLengths, BadTables}

pub record Example : Type 0 where
  pub given : Result (Unit {0}) Refusal
  pub meant : Option ℕ

abbrev pub ◌means◌ : Result (Unit {0}) Refusal → Option ℕ → Example
given means meant = record { given = given; meant = meant }

infix 68 ◌means◌
unfoldable pub examples : List Example
examples =
    Ok tt means None
    ∷ Err BadGeometry means Some 1
    ∷ Err BadLengths means Some 2
    ∷ Err BadTables means Some 10
    ∷ []
