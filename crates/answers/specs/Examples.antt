-- Answers with how the lines of their commands go on, each kind of answer, as rows of one table.
-- proofs/Examples.antt computes it.
use Rattle.std.specs.Prelude.{List, [], ◌∷◌, Some, None}
use Prim.Native.String.{String}
use Rattle.reference.specs.Entry.{empty, pattern}
use Rattle.reference.specs.Calls as calls
use Rattle.reference.specs.Calls.{Answer, refused, cleared, held, at, next, matched}

pub record Example : Type 0 where
  pub answer : Answer
  pub rest : String

abbrev pub ◌goes_on◌ : Answer → String → Example
answer goes_on rest = record { answer = answer; rest = rest }

infix 68 ◌goes_on◌
unfoldable pub lines : List Example
lines =
    refused 3 goes_on " no 3\n"
    ∷ cleared goes_on " clear\n"
    ∷ held empty goes_on " was -\n"
    ∷ held (pattern 70) goes_on " was 70\n"
    ∷ at 2 1 4 goes_on " at 2 w 1 c 4\n"
    ∷ calls.none 1 0 goes_on " none w 1 c 0\n"
    ∷ next (Some 65) goes_on " at 65\n"
    ∷ next None goes_on " none\n"
    ∷ matched (26 ∷ 8 ∷ []) 4 goes_on " hits 4 000000000000001a 0000000000000008\n"
    ∷ []
